use Rattle.std.proofs.Common.{◌≡◌, ℕ, ◌+◌, ◌-◌, ◌<◌, inl, inr, min, true, false, ap, ◌∙◌, arith}
use Rattle.std.proofs.lemmas.Bool.{cases_lt, or_left, or_right}
use Rattle.ics_fields.specs.declared.ordinals.WideOrdinals.{WideOrdinals}
use Rattle.ics_fields.specs.Sets.{contains_wide, IsLeastFrom}
use Rattle.ics_period.specs.RecurrencePeriods.{is_listed, IsFirstBelow}
use Rattle.ics_period.proofs.recurrence_period.ranks.next_listed.Goals as goal

-- a place is listed as little as its number from the start and that from the end
unlisted : (positions : WideOrdinals) (size j : ℕ) → contains_wide positions.front (j + 1) ≡ false → contains_wide positions.back (size - j) ≡ false →
    is_listed positions size j ≡ false
unlisted positions size j front back = grind arith

back_listed : (positions : WideOrdinals) (size j : ℕ) → contains_wide positions.back (size - j) ≡ true → is_listed positions size j ≡ true
back_listed positions size j h = let same : size + 1 - (j + 1) ≡ size - j = omega arith in
    or_right (contains_wide positions.front (j + 1)) (contains_wide positions.back (size + 1 - (j + 1))) (ap (contains_wide positions.back) same ∙ h)

-- the first place listed from either end is the next
first_of : (positions : WideOrdinals) (from size front back : ℕ) → IsFirstBelow (λ k. contains_wide positions.front (k + 1)) from size front →
    IsFirstBelow (λ k. contains_wide positions.back (size - k)) from size back → min front back < size
    → IsLeastFrom (is_listed positions size) from (min front back)
first_of positions from size front back one other high = elim (cases_lt back front) [
  | inl l ↦
      let e : min front back ≡ back = omega (arith, l) in
      let at = other.found (omega (arith, high, e)) in
      rw e (record {
        passes = back_listed positions size back at.1;
        low = at.0;
        least = λ m low less. unlisted positions size m (one.none m low (omega (arith, less, l))) (other.none m low less);
      })
  | inr g ↦
      let e : min front back ≡ front = omega (arith, g) in
      let at = one.found (omega (arith, high, e)) in
      rw e (record {
        passes = or_left (contains_wide positions.front (front + 1)) (contains_wide positions.back (size + 1 - (front + 1))) at.1;
        low = at.0;
        least = λ m low less. unlisted positions size m (one.none m low less) (other.none m low (omega (arith, less, g)));
      })
]

pub returns-then-next-size : goal.returns-then-next-size
returns-then-next-size c = let high = rw c.min-next.ensures at c.if-next-size.true in rw c.min-next.ensures (
  first_of c.args.positions.now c.args.from c.args.size c.next_front-front.result c.next_back-back.result c.next_front-front.ensures
      c.next_back-back.ensures high,
  high,
)

pub returns-else-next-size : goal.returns-else-next-size
returns-else-next-size c = λ k low high.
    let past = rw c.min-next.ensures at c.if-next-size.false in
    unlisted c.args.positions.now c.args.size k (c.next_front-front.ensures.none k low (omega (arith, past, high)))
    (c.next_back-back.ensures.none k low (omega (arith, past, high)))
