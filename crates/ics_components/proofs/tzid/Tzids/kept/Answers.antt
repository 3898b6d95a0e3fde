use Rattle.std.proofs.lemmas.Map.Lookups.{exact_bytes}
use Rattle.ics_components.proofs.tzid.Tzids.kept.Goals as goal

pub returns-in-Some : goal.returns-in-Some
returns-in-Some c = rw (exact_bytes c.args.name c.in-Some.known.now c.in-Some.ensures.same_key) c.shared.ensures
