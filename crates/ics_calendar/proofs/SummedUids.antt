-- A UID with its sum is the same as another where the UIDs are the same.
use Rattle.std.proofs.Common.{◌≡◌, ℕ, Bool, true, false, ◌&&◌, ◌==◌, List, refl, sym, ap, ◌∙◌, arith}
use Rattle.std.specs.Cmp.Lexicographic.{bytes_decides}
use Rattle.std.specs.Ordering.{is_eq}
use Rattle.std.specs.Str.{bytes_eq}
use Rattle.std.proofs.lemmas.Bool.{eq-eqb}
use Rattle.std.proofs.lemmas.Bool.Decides.{nat_tests}
use Rattle.ics_calendar.specs.declared.summed_uid.SummedUid.{SummedUid}
use Rattle.ics_calendar.specs.Inner.SummedUids.{sum_of, summed, summed_cmp}
use Rattle.ics_calendar.proofs.FilesGiven.{ties}

both-tie : (key other : SummedUid) → is_eq (summed_cmp key other) ≡ ((key.sum == other.sum) && bytes_eq other.uid key.uid)
both-tie key other = grind (arith, nat_tests, ties key.uid other.uid)

-- the same text has the same sum
pub summed-ties : (uid other : List ℕ) → is_eq (summed_cmp (summed uid) (summed other)) ≡ bytes_eq other uid
summed-ties uid other = both-tie (summed uid) (summed other) ∙ by_test (bytes_eq other uid) refl
  where
    with-true : (a : Bool) → a ≡ true → (a && true) ≡ true
    with-true a e = grind (arith, e)

    with-false : (a : Bool) → (a && false) ≡ false
    with-false a = grind arith

    by_test : (t : Bool) → bytes_eq other uid ≡ t → ((sum_of uid == sum_of other) && t) ≡ t
    by_test true e = with-true (sum_of uid == sum_of other) (eq-eqb (sum_of uid) (sum_of other) (ap sum_of (sym ((bytes_decides other uid).0 e))))
    by_test false e = with-false (sum_of uid == sum_of other)
