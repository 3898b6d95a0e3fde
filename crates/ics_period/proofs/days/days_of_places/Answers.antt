use Rattle.std.proofs.Common.{◌≡◌, ◌∙◌, ◌+◌, ◌-◌, Bool, false, ◌&&◌, ◌||◌, nat_lt, ap, sym, arith}
use Rattle.std.proofs.lemmas.Bool.Decides.{nat_tests}
use Rattle.ics_fields.specs.Sets.{contains_wide}
use Rattle.ics_period.proofs.ScanLemmas.{none_has}
use Rattle.ics_period.proofs.days.days_of_places.Goals as goal

sides : (i f b : Bool) {e n one both : Bool} → e ≡ false → n ≡ false → one ≡ (e || (i && f)) → both ≡ (one || (i && b)) → both ≡ (i && (n || (f || b)))
sides i f b empty some front back = grind arith

pub returns-then-is_empty : goal.returns-then-is_empty
returns-then-is_empty c = grind (arith, nat_tests, none_has)

pub returns : goal.returns
returns c = λ k. sides (nat_lt k c.args.len) (contains_wide c.args.places.now.front (k + 1))
    (contains_wide c.args.places.now.back (c.args.len + 1 - (k + 1)))
    (ap (λ ws. contains_wide ws k) c.new-days.ensures ∙ none_has k) (sym c.is_empty.ensures ∙ c.if-is_empty.false)
    (rw c.places.view_is at (c.add_numbered_days.ensures k))
    (rw c.places.view_is at (c.add_numbered_days-2.ensures k)
    ∙ ap (λ n. contains_wide c.add_numbered_days.new.days k || (nat_lt k c.args.len && contains_wide c.args.places.now.back n)) (omega arith))
