use Rattle.std.proofs.Common.{rules}
use Rattle.std.proofs.lemmas.List.{take_all, drop_all}
use Rattle.std.proofs.lemmas.List.Edits.{map_over_more}
use Rattle.ics_event.specs.Kept.{kept_event}
use Rattle.ics_file.proofs.events.keep_texts.Goals as goal

pub loop-event-preserved : goal.loop-event-preserved
loop-event-preserved c = search (rules, map_over_more (kept_event c.args.keep))

pub returns : goal.returns
returns c = search (rules, take_all, drop_all)
