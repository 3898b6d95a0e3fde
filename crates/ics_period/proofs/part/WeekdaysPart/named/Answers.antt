use Rattle.std.proofs.Common.{◌≡◌, ℕ, zero, suc, ◌≤◌, ◌∙◌, ◌&&◌, nat_lt, ap, arith}
use Rattle.std.proofs.lemmas.Bool.Decides.{nat_tests}
use Rattle.std.proofs.lemmas.Nat.Bits.{bit_at-zero}
use Rattle.ics_fields.specs.declared.ordinals.Weekdays.{Weekdays}
use Rattle.ics_fields.specs.Sets.{contains}
use Rattle.ics_fields.proofs.SetLemmas.{contains-with_number}
use Rattle.ics_period.specs.Inner.NamedWeekdays.{names_weekday, named_below}
use Rattle.ics_period.proofs.part.WeekdaysPart.named.Goals as goal

is_named : (w : Weekdays) (n d : ℕ) → n ≤ 64 → contains (named_below w n) d ≡ (nat_lt d n && names_weekday w d)
unfolding named_below
is_named w zero d h = grind (arith, nat_tests, bit_at-zero)
is_named w (suc n) d h = grind (arith, nat_tests, contains-with_number, is_named w n d)

pub returns : goal.returns
returns c = λ d. ap (λ s. contains s d) c.self.invariant.1 ∙ is_named c.self.inside.list 7 d (omega arith)
    ∙ ap (λ w. nat_lt d 7 && names_weekday w d) c.self.view_is
