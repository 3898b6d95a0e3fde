-- The days that are added to a set, of a run in which they have numbers.
use Rattle.std.proofs.Common.{◌≡◌, ℕ, ◌+◌, ◌-◌, ◌*◌, ◌/◌, ◌^◌, ◌<◌, ◌≤◌, ◌⊎◌, Bool, true, false, ◌==◌, ◌||◌, ◌&&◌, nat_lt, nat_le, arith}
use Rattle.std.proofs.lemmas.Bool.Decides.{nat_tests}
use Rattle.ics_fields.specs.Sets.{contains, IsLeastFrom}
use Rattle.ics_fields.proofs.SetLemmas.{has_above}
use Rattle.ics_period.specs.declared.runs.Run.{Run}
use Rattle.ics_fields.specs.declared.ordinals.Ordinals.{Ordinals}
use Rattle.ics_fields.specs.declared.ordinals.Weekdays.{Weekdays}
use Rattle.ics_period.specs.Candidates.{lists, lists_nth}
use Rattle.ics_period.specs.Runs.{has_run, weekday_in, lists_weekday}
use Rattle.ics_period.specs.Inner.NamedWeekdays.{names_weekday}
use Rattle.ics_period.proofs.DateLemmas.{none_nth}

-- the members found before a place, and the next
pub next_found : (f : ℕ → Bool) (from k x : ℕ) → IsLeastFrom f from k → ((x == k) || (nat_lt x from && f x)) ≡ (nat_lt x (k + 1) && f x)
next_found f from k x next = grind (arith, nat_tests)

-- at first those from the front alone
pub listed_first : (s : ℕ) (back : ℕ → Bool) (size : ℕ) {n k : ℕ} → 1 ≤ n → ((m : ℕ) → m < size + 1 → contains k m ≡ contains s m) → k < 2 ^ (size + 1)
    → contains k n ≡ (nat_le n size && (contains s n || (nat_lt (size + 1 - n) 1 && back (size + 1 - n))))
listed_first s back size one members bound = grind (arith, nat_tests, has_above)

-- the numbers that are listed from the end
module _ (front back : ℕ → Bool) (size : ℕ) where
  pub listed_more : {from k n : ℕ} {b : Bool} → 1 ≤ n → 1 ≤ k → k ≤ size → IsLeastFrom back from k
      → b ≡ (nat_le n size && (front n || (nat_lt (size + 1 - n) from && back (size + 1 - n))))
      → ((n == size + 1 - k) || b) ≡ (nat_le n size && (front n || (nat_lt (size + 1 - n) (k + 1) && back (size + 1 - n))))
  listed_more one some most next e = grind (arith, nat_tests)

  pub listed_done : (from : ℕ) {n : ℕ} {b : Bool} → 1 ≤ n → ((x : ℕ) → from ≤ x → x ≤ size → back x ≡ false)
      → b ≡ (nat_le n size && (front n || (nat_lt (size + 1 - n) from && back (size + 1 - n))))
      → b ≡ (nat_le n size && (front n || back (size + 1 - n)))
  listed_done from one none e = grind (arith, nat_tests)

-- the days of a run on a weekday, seven by seven
module _ (r : Run) (d p m : ℕ) (a b : Bool) (own : weekday_in r p ≡ d) where
  abbrev found : ℕ → Bool
  found k = a || (has_run r m && (nat_lt (m - r.start) k && (weekday_in r (m - r.start) == d)))

  pub weekday_added : p < r.len → b ≡ found p → ((m == r.start + p) || b) ≡ found (p + 7)
  weekday_added inside e = grind (arith, nat_tests)

  -- no day of the run comes before the first on the weekday
  pub weekday_first : p < 7 → (a ≡ found p)
  weekday_first h = grind (arith, nat_tests)

  -- where the place is past the run, each day of it was seen
  pub weekday_done : r.len ≤ p → b ≡ found p → b ≡ (a || (has_run r m && (weekday_in r (m - r.start) == d)))
  weekday_done h e = grind (arith, nat_tests)

pub guard : (a b c : Bool) → (a ≡ true → b ≡ c) → (a && b) ≡ (a && c)
guard a b c h = grind arith

pub run_facts : (r : Run) (k : ℕ) → has_run r k ≡ true → (r.start ≤ k) × (k - r.start < r.len)
run_facts r k h = grind (arith, nat_tests)

-- the days of a run on a weekday by their numbers: the n-th comes n - 1 weeks after the first
module _ (r : Run) (listed : ℕ → Bool) (d p from m : ℕ) (a b : Bool) (own : weekday_in r p ≡ d) (early : p < 7) where
  abbrev number_found : ℕ → Bool
  number_found k = a || (has_run r m && ((weekday_in r (m - r.start) == d) && (nat_lt ((m - r.start) / 7 + 1) k && listed ((m - r.start) / 7 + 1))))

  pub number_added : (n : ℕ) → 1 ≤ n → p + 7 * (n - 1) < r.len → IsLeastFrom listed from n → b ≡ number_found from →
      ((m == r.start + (p + 7 * (n - 1))) || b) ≡ number_found (n + 1)
  number_added n some inside next e = grind (arith, nat_tests)

  pub number_done : (q : Ordinals) {count : ℕ} → count ≡ (r.len - 1 - p) / 7 + 1 → p < r.len → ((n : ℕ) → from ≤ n → listed n ≡ false) →
      ((n : ℕ) → 1 ≤ n → listed n ≡ (nat_le n count && lists q n count))
      → b ≡ number_found from → b ≡ (a || (has_run r m && ((weekday_in r (m - r.start) == d) && lists_nth q (m - r.start + 1) r.len)))
  number_done q size some none is e = grind (arith, nat_tests)

-- a weekday that BYDAY does not list has no day
module _ (ws : Weekdays) (named : ℕ → Bool) (is : (d : ℕ) → named d ≡ (nat_lt d 7 && names_weekday ws d)) where
  pub unnamed : (d n size : ℕ) → d < 7 → named d ≡ false → lists_weekday ws d n size ≡ false
  unnamed d n size small h = grind (arith, nat_tests, none_nth)

-- the days of a run, weekday by weekday of those that BYDAY names
module _ (listed named : ℕ → Bool) (w : ℕ) (none : named w ≡ false → listed w ≡ false) (a x : Bool) where
  pub weekdays_more : {from d : ℕ} {b new : Bool} → IsLeastFrom named from d → new ≡ (b || (x && ((w == d) && listed d)))
      → b ≡ (a || (x && (nat_lt w from && listed w))) → new ≡ (a || (x && (nat_lt w (d + 1) && listed w)))
  weekdays_more next e h = grind (arith, nat_tests)

  pub weekdays_done : {from : ℕ} {b : Bool} → ((d : ℕ) → from ≤ d → named d ≡ false) → b ≡ (a || (x && (nat_lt w from && listed w)))
      → b ≡ (a || (x && listed w))
  weekdays_done left h = grind (arith, nat_tests)

-- the days of a month by their numbers
module _ (r : Run) (listed : ℕ → Bool) (from m : ℕ) (a b : Bool) where
  abbrev day_found : ℕ → Bool
  day_found k = a || (has_run r m && (nat_lt (m - r.start + 1) k && listed (m - r.start + 1)))

  pub day_added : (n : ℕ) → 1 ≤ n → n ≤ r.len → IsLeastFrom listed from n → b ≡ day_found from → ((m == r.start + n - 1) || b) ≡ day_found (n + 1)
  day_added n some most next e = grind (arith, nat_tests)

  pub day_done : (lists : ℕ → Bool) → ((n : ℕ) → from ≤ n → listed n ≡ false) → ((n : ℕ) → 1 ≤ n → listed n ≡ (nat_le n r.len && lists n)) → b ≡ day_found from
      → b ≡ (a || (has_run r m && lists (m - r.start + 1)))
  day_done lists none is e = grind (arith, nat_tests)

-- a listed number is one of so many
pub listed_within : (n size : ℕ) (b : Bool) → (nat_le n size && b) ≡ true → n ≤ size
listed_within n size b h = grind (arith, nat_tests)

-- a set of the numbers that pass a test, walked number by number
pub tested : (f : ℕ → Bool) (k m : ℕ) {old t new : Bool} → t ≡ f k → old ≡ (nat_lt m k && f m)
    → ((t ≡ true) × (new ≡ ((m == k) || old))) ⊎ ((t ≡ false) × (new ≡ old)) → new ≡ (nat_lt m (k + 1) && f m)
tested f k m e h w = grind (arith, nat_tests)

pub named_small : (d : ℕ) (b h : Bool) → h ≡ true → h ≡ (nat_lt d 7 && b) → d < 7
named_small d b h there e = grind (arith, nat_tests)
