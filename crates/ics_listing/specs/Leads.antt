-- The lists of the leads of a merge: what was drawn from a feed, and what is left of it.
use Rattle.std.specs.Prelude.{◌≡◌, ℕ, suc, ℤ, ◌≤ℤ◌, Bool, false, List, [], ◌∷◌, length, ⊤, Option, Some, None}
use Rattle.std.specs.Coded.{Unit-prop, Π_prop}
use Rattle.std.proofs.Props.{props}
use Rattle.std.specs.List.{AllByRecursion, AllByRecursion-prop}
use Rattle.std.specs.Ordering.{is_eq}
use Rattle.ics_listing.specs.Entry.{Entry, entry_cmp, entry_of}
use Rattle.ics_listing.specs.Listing.{IsIn}
use Rattle.ics_listing.specs.Merged.{cut}
use Rattle.ics_listing.specs.Rising.{before-prop, IsBefore}
use Rattle.ics_listing.specs.declared.occurrence.Occurrence.{Occurrence}

-- the rest, with what was drawn put before it
abbrev pub listed : Option Occurrence → List Entry → List Entry
listed None rest = rest
listed (Some o) rest = entry_of o ∷ rest

abbrev pub IsEmpty : List Entry → Type 0
IsEmpty [] = ⊤
IsEmpty (x ∷ xs) = ⊥

-- none of these entries starts before an instant
abbrev pub AreFrom : ℤ → List Entry → Type 0
AreFrom from list = (o : Entry) → IsIn o list → from ≤ℤ o.start

-- As long as a feed was not read, nothing was drawn, and what it gives starts no earlier than an instant. Else the rest comes after what was
-- drawn; if nothing was, nothing is left.
abbrev pub IsAhead : Option ℤ → Option Occurrence → List Entry → Type 0
IsAhead (Some from) None rest = AreFrom from rest
IsAhead (Some from) (Some o) rest = ⊥
IsAhead None None rest = IsEmpty rest
IsAhead None (Some o) rest = IsBefore entry_cmp (entry_of o) rest

⊥-prop : IsProp ⊥
⊥-prop x y = absurd x

empty-prop : (rest : List Entry) → IsProp (IsEmpty rest)
empty-prop [] = Unit-prop
empty-prop (x ∷ xs) = ⊥-prop

from-prop : (from : ℤ) (rest : List Entry) → IsProp (AreFrom from rest)
from-prop from rest = Π_prop λ o. Π_prop λ m. hlevel props

pub IsAhead-prop : (unread : Option ℤ) (head : Option Occurrence) (rest : List Entry) → IsProp (IsAhead unread head rest)
IsAhead-prop (Some from) None rest = from-prop from rest
IsAhead-prop (Some from) (Some o) rest = ⊥-prop
IsAhead-prop None None rest = empty-prop rest
IsAhead-prop None (Some o) rest = before-prop entry_cmp (entry_of o) rest

-- how often a lead is still to draw at most, if this is its list
abbrev pub to_draw : Option ℤ → List Entry → ℕ
to_draw None list = length list
to_draw (Some from) list = suc (length list)

-- what is still to come of a list after the entry that was given last
abbrev pub past : Option Occurrence → List Entry → List Entry
past None list = list
past (Some o) list = cut entry_cmp (entry_of o) list

-- the entry that was given last has its key
abbrev pub is_given : Option Occurrence → Option Entry → Bool
is_given None first = false
is_given (Some o) None = false
is_given (Some o) (Some e) = is_eq (entry_cmp (entry_of o) e)

-- all entries of the lists come after the one that was given last
abbrev pub ComeAfter : Option Occurrence → List (List Entry) → Type 0
ComeAfter None lists = ⊤
ComeAfter (Some o) lists = AllByRecursion (IsBefore entry_cmp (entry_of o)) lists

pub ComeAfter-prop : (last : Option Occurrence) (lists : List (List Entry)) → IsProp (ComeAfter last lists)
ComeAfter-prop None lists = Unit-prop
ComeAfter-prop (Some o) lists = AllByRecursion-prop (IsBefore entry_cmp (entry_of o)) (before-prop entry_cmp (entry_of o)) lists

-- P is true of each entry of a list
abbrev pub AreNear : (Entry → Type 0) → List Entry → Type 0
AreNear P list = (o : Entry) → IsIn o list → P o

pub AreNear-prop : (P : Entry → Type 0) → ((o : Entry) → IsProp (P o)) → (list : List Entry) → IsProp (AreNear P list)
AreNear-prop P h list = Π_prop λ o. Π_prop λ m. h o

-- nothing was drawn, and P is true of each entry that is to come
abbrev pub IsFresh : (Entry → Type 0) → Option Occurrence → List Entry → Type 0
IsFresh P head list = (head ≡ None) × AreNear P list

-- P is true of an occurrence, if that is in a list
abbrev pub HasNear : (Entry → Type 0) → List Entry → Entry → Type 0
HasNear P list o = IsIn o list → P o

pub HasNear-prop : (P : Entry → Type 0) → ((o : Entry) → IsProp (P o)) → (list : List Entry) → (o : Entry) → IsProp (HasNear P list o)
HasNear-prop P h list o = Π_prop λ m. h o
