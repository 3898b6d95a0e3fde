use Rattle.std.proofs.Common.{◌≡◌, rules, w32, w64, to_z, of_z, ℤ, refl, sym, ◌∙◌, ap, arith, SFits}
use Rattle.std.proofs.lemmas.Int.{ints}
use Rattle.ics_fields.specs.Locals.{local_seconds, midnight}
use Rattle.ics_fields.specs.declared.local.Local.{Local}
use Rattle.ics_values.specs.declared.stamp.Stamp.{Stamp}
use Rattle.ics_values.specs.declared.stamp.Stamp.TheVariants.{Date}
use Rattle.ics_starts.specs.RuleStarts.{read_from}
use Rattle.ics_starts.proofs.rule_starts.read_from.Goals as goal

pub returns-in-Date : goal.returns-in-Date
returns-in-Date c =
    let days : SFits w32 c.args.day = search rules in
    let at = ap (λ (l : Local). local_seconds l) c.at.ensures in
    let from : to_z w64 (of_z w64 c.seconds.result) ≡ midnight c.args.day = omega (arith, ints, c.seconds.ensures, at) in
    from ∙ sym (ap (λ (x : Stamp). read_from x c.args.day c.args.next) c.in-Date.is)

-- all but dates are read at their own seconds
by-seconds : (s : Stamp) (day next : ℤ) → ((d : ℤ) → s ≡ Date d → ⊥) → next ≡ read_from s day next
by-seconds (Date d) day next h = absurd (h d refl)
by-seconds _ day next h = refl

pub returns-in_default : goal.returns-in_default
returns-in_default c =
    let fits : SFits w64 c.args.next = c.ranges.next in
    let back : to_z w64 (of_z w64 c.args.next) ≡ c.args.next = omega (arith, ints) in
    back ∙ by-seconds c.args.start c.args.day c.args.next c.in_default.not-Date
