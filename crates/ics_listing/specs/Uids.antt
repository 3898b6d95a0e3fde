-- The order of the UIDs that the leads of a merge give, where their places tell it.
use Rattle.std.specs.Prelude.{◌≡◌, ◌≤◌, ℕ, List, [], ⊤, Option, Some, None, slice_index_or}
use Rattle.std.specs.Coded.{Unit-prop, Π_prop}
use Rattle.std.specs.Cmp.Lexicographic.{slice_cmp}
use Rattle.std.specs.Ordering.{nat_cmp, on, Ordering-set}
use Rattle.std.specs.declared.cmp.Ordering.{Ordering}
use Rattle.ics_listing.specs.Entry.{Entry, entry_of}
use Rattle.ics_listing.specs.Listing.{IsIn}
use Rattle.ics_listing.specs.declared.occurrence.Occurrence.{Occurrence}

-- by the bytes of the UID
abbrev pub entry_uid_cmp : Entry → Entry → Ordering
entry_uid_cmp = on (λ e. e.event.uid) (slice_cmp nat_cmp)

-- a place before x's list, or x's UID stands to those of the lists as its place does to theirs
abbrev pub IsSortedAt : ℕ → ℕ → Entry → List (List Entry) → Type 0
IsSortedAt from i a lists = (j : ℕ) (b : Entry) → from ≤ i → from ≤ j → IsIn b (slice_index_or lists j []) → entry_uid_cmp a b ≡ nat_cmp i j

-- from a place on each list is of one UID, and the lists stand in the order of their UIDs
abbrev pub AreSortedFrom : ℕ → List (List Entry) → Type 0
AreSortedFrom from lists = (i : ℕ) (a : Entry) → IsIn a (slice_index_or lists i []) → IsSortedAt from i a lists

-- so does the UID of what the list at this place gave last
abbrev pub IsLastSorted : ℕ → ℕ → Option Occurrence → List (List Entry) → Type 0
IsLastSorted from i None lists = ⊤
IsLastSorted from i (Some o) lists = IsSortedAt from i (entry_of o) lists

-- from a place on the UIDs of what leads hold stand in the order of the leads
abbrev pub AreHeadsSorted : ℕ → List (Option Entry) → Type 0
AreHeadsSorted from heads =
    (i j : ℕ) (a b : Entry) → from ≤ i → from ≤ j → slice_index_or heads i None ≡ Some a → slice_index_or heads j None ≡ Some b →
    entry_uid_cmp a b ≡ nat_cmp i j

-- an order that is known is that of two places, none of which stands before the first
abbrev pub IsPlaceOrder : ℕ → ℕ → ℕ → Option Ordering → Type 0
IsPlaceOrder from i j None = ⊤
IsPlaceOrder from i j (Some order) = (from ≤ i) × ((from ≤ j) × (order ≡ nat_cmp i j))

-- an order that is known is that of two UIDs
abbrev pub IsUidOrder : Option Ordering → Entry → Entry → Type 0
IsUidOrder None a b = ⊤
IsUidOrder (Some order) a b = order ≡ entry_uid_cmp a b

at-prop : (from i : ℕ) (a : Entry) (lists : List (List Entry)) → IsProp (IsSortedAt from i a lists)
at-prop from i a lists = Π_prop λ j. Π_prop λ b. Π_prop λ low. Π_prop λ high. Π_prop λ m. Ordering-set (entry_uid_cmp a b) (nat_cmp i j)

pub AreSortedFrom-prop : (from : ℕ) (lists : List (List Entry)) → IsProp (AreSortedFrom from lists)
AreSortedFrom-prop from lists = Π_prop λ i. Π_prop λ a. Π_prop λ m. at-prop from i a lists

pub IsLastSorted-prop : (from i : ℕ) (last : Option Occurrence) (lists : List (List Entry)) → IsProp (IsLastSorted from i last lists)
IsLastSorted-prop from i None lists = Unit-prop
IsLastSorted-prop from i (Some o) lists = at-prop from i (entry_of o) lists
