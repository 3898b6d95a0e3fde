-- UIDs as keys that compare by a sum of their bytes first.
use Rattle.std.specs.Prelude.{ℕ, ◌+◌, ◌*◌, ◌%◌, List, Option, unwrap_or}
use Rattle.std.specs.BTreeMap.{BTreeMap, get}
use Rattle.std.specs.Cmp.Lexicographic.{slice_cmp}
use Rattle.std.specs.List.{fold}
use Rattle.std.specs.Ordering.{nat_cmp, on, then_cmp}
use Rattle.std.specs.declared.cmp.Ordering.{Ordering}
use Rattle.ics_calendar.specs.declared.summed_uid.SummedUid.{SummedUid}

abbrev pub sum_with : ℕ → ℕ → ℕ
sum_with sum byte = sum % 1_000_000_007 * 257 + byte

abbrev pub sum_of : List ℕ → ℕ
sum_of text = fold sum_with 0 text

abbrev pub summed : List ℕ → SummedUid
summed uid = record { sum = sum_of uid; uid = uid }

abbrev pub summed_cmp : SummedUid → SummedUid → Ordering
summed_cmp = then_cmp (on (λ s. s.sum) nat_cmp) (on (λ s. s.uid) (slice_cmp nat_cmp))

-- the number that is kept for a UID
abbrev pub place_of : BTreeMap SummedUid ℕ → List ℕ → Option ℕ
place_of by_uid uid = get summed_cmp by_uid (summed uid)

-- the number of a part by the UIDs before, or a new one
abbrev pub number_by : BTreeMap SummedUid ℕ → ℕ → List ℕ → ℕ
number_by by_uid place uid = unwrap_or (place_of by_uid uid) place
