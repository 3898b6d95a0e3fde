use Rattle.std.proofs.Common.{◌≡◌, ◌∙◌, ℤ, ap, sym, arith, nat_eq, rules, of_z, w64, int_eq, SFits}
use Rattle.std.proofs.lemmas.Int.{ints}
use Rattle.ics_event.specs.Event.{stamp_seconds}
use Rattle.ics_fields.specs.declared.local.Local.{Local}
use Rattle.ics_fields.specs.Locals.{local_seconds}
use Rattle.ics_starts.proofs.ExclusionLemmas.{early-false, later-false}
use Rattle.ics_starts.proofs.StretchLemmas.{seconds-of}
use Rattle.ics_starts.proofs.instants.is_at.Goals as goal
use Rattle.ics_starts.proofs.instants.is_at.Goals.{then-local-moment-via-then-local-moment, then-local-moment-via-else-local-moment+then-moment-local}

same-value : (a b : ℤ) → SFits w64 a → SFits w64 b → nat_eq (of_z w64 a) (of_z w64 b) ≡ int_eq a b
same-value a b f g = search rules

pub returns-then-local-moment : goal.returns-then-local-moment
returns-then-local-moment c =
    let at : c.seconds-local.result ≡ stamp_seconds c.args.time.stamp =
    c.seconds-local.ensures ∙ (ap (λ (l : Local). local_seconds l) c.local_of.ensures ∙ seconds-of c.args.time.stamp) in
    let r = c.requires in
    elim c.then-local-moment.branch [
      | then-local-moment-via-then-local-moment w ↦ sym (early-false c.args.zones c.args.time c.args.moment
          (omega (arith, ints, at, w.if-local-moment.true, r.late, r.early, c.seconds-local.type_inv)))
      | then-local-moment-via-else-local-moment+then-moment-local w ↦ sym (later-false c.args.zones c.args.time c.args.moment
          (omega (arith, ints, at, w.if-moment-local.true, r.late, r.early, c.seconds-local.type_inv)))
    ]

pub returns : goal.returns
returns c =
    let fits : SFits w64 c.instant.result = search rules in
    same-value c.instant.result c.args.moment fits c.ranges.moment ∙ ap (λ t. int_eq t c.args.moment) c.instant.ensures
