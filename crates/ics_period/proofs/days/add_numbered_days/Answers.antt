use Rattle.std.proofs.Common.{◌≡◌, ◌∙◌, ℕ, ◌+◌, ◌<◌, ◌≤◌, Bool, false, ◌==◌, ◌&&◌, ◌||◌, nat_lt, arith}
use Rattle.std.proofs.lemmas.Bool.Decides.{nat_tests}
use Rattle.ics_fields.specs.declared.ordinals.Side.{Side}
use Rattle.ics_fields.specs.declared.ordinals.Side.TheVariants.{Front, Back}
use Rattle.ics_fields.specs.Sets.{contains_wide, IsLeastFrom}
use Rattle.ics_period.specs.Runs.{number_from}
use Rattle.ics_period.proofs.days.add_numbered_days.Goals as goal

-- the days whose number is listed, of those whose number comes before the k-th
module _ (listed : ℕ → Bool) (len m : ℕ) (a : Bool) where
  abbrev found : Side → ℕ → Bool
  found side k = a || (nat_lt m len && (nat_lt (number_from side m len) k && listed (number_from side m len)))

  first : (side : Side) → a ≡ found side 1
  first Front = grind (arith, nat_tests)
  first Back = grind (arith, nat_tests)

  added : (side : Side) {from n place : ℕ} {b : Bool} → b ≡ found side from → IsLeastFrom listed from n → place < len
      → number_from side place len ≡ n → ((m == place) || b) ≡ found side (n + 1)
  added Front e next inside here = grind (arith, nat_tests)
  added Back e next inside here = grind (arith, nat_tests)

  done : (side : Side) {from : ℕ} {b : Bool} → b ≡ found side from → ((n : ℕ) → from ≤ n → n ≤ len → listed n ≡ false)
      → b ≡ (a || (nat_lt m len && listed (number_from side m len)))
  done Front e none = grind (arith, nat_tests)
  done Back e none = grind (arith, nat_tests)

pub loop-n-init : goal.loop-n-init
loop-n-init c = (λ m. first (contains_wide c.args.listed.now) c.args.len m (contains_wide c.args.days.now m) c.args.side, omega arith)

pub returns-then-n-len : goal.returns-then-n-len
returns-then-n-len c = λ m. done (contains_wide c.args.listed.now) c.args.len m (contains_wide c.args.days.now m) c.args.side (c.loop-n.invariant.0 m)
    (λ n l h. c.in-Some.ensures.next.least n l (omega (arith, h, c.if-n-len.true)))

pub loop-n-preserved : goal.loop-n-preserved
loop-n-preserved c = (
  λ m. c.insert.ensures.members m ∙ added (contains_wide c.args.listed.now) c.args.len m (contains_wide c.args.days.now m) c.args.side
      (c.loop-n.invariant.0 m) c.in-Some.ensures.next c.nth_day.ensures.within c.nth_day.ensures.number,
  omega arith,
)

pub returns : goal.returns
returns c = λ m. done (contains_wide c.args.listed.now) c.args.len m (contains_wide c.args.days.now m) c.args.side (c.loop-n.invariant.0 m)
    (λ n l h. c.in_default.ensures.next n l)
