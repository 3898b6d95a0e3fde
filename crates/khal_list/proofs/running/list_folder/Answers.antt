use Rattle.std.proofs.Common.{IfOk, OnErr, map, subst, sym}
use Rattle.std.specs.Option.{option_map}
use Rattle.std.specs.String.{string_bytes}
use Rattle.ics_file.specs.File.{said_by}
use Rattle.khal_list.specs.Headline.{Shown, ShownInPart, ShowsBy}
use Rattle.khal_list.proofs.running.list_folder.Goals as goal

pub returns-in-None-clause-ok : goal.returns-in-None-clause-ok
returns-in-None-clause-ok g c =
    subst (λ every_day. IfOk c.list_once.result (λ token. Shown (ShowsBy every_day (map said_by c.args.folder.now.files) c.args.request.now)
    (g.O.Sink.taken c.args.out.now) (g.O.Sink.taken c.list_once.new.out) (option_map string_bytes token))) (sym c.in-None.is) c.list_once.ensures.ok

pub returns-in-None-clause-err : goal.returns-in-None-clause-err
returns-in-None-clause-err g c =
    subst (λ every_day. OnErr c.list_once.result (ShownInPart (ShowsBy every_day (map said_by c.args.folder.now.files) c.args.request.now)
    (g.O.Sink.taken c.args.out.now) (g.O.Sink.taken c.list_once.new.out))) (sym c.in-None.is) c.list_once.ensures.err

pub returns-in-Some-clause-ok : goal.returns-in-Some-clause-ok
returns-in-Some-clause-ok g c =
    subst (λ every_day. IfOk c.list_days.result (λ token. Shown (ShowsBy every_day (map said_by c.args.folder.now.files) c.args.request.now)
    (g.O.Sink.taken c.args.out.now) (g.O.Sink.taken c.list_days.new.out) (option_map string_bytes token))) (sym c.in-Some.is) c.list_days.ensures.ok

pub returns-in-Some-clause-err : goal.returns-in-Some-clause-err
returns-in-Some-clause-err g c =
    subst (λ every_day. OnErr c.list_days.result (ShownInPart (ShowsBy every_day (map said_by c.args.folder.now.files) c.args.request.now)
    (g.O.Sink.taken c.args.out.now) (g.O.Sink.taken c.list_days.new.out))) (sym c.in-Some.is) c.list_days.ensures.err
