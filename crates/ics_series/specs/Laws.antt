-- Laws of the occurrences of folders, and of listings.
use Rattle.std.specs.Prelude.{◌≡◌, ◌≢◌, ◌⊎◌, ◌↔◌, ◌≤◌, ℕ, List, ◌∷◌, ◌++◌, Option, Some, filter, map}
use Rattle.std.specs.Prelude.{slice_get}
use Rattle.std.specs.Ordering.{is_lt}
use Rattle.ics_file.specs.File.{FileSaid}
use Rattle.ics_listing.specs.declared.window.Window.{Window}
use Rattle.ics_series.specs.Chosen.{subject_of, IsChosen, IsMaster}
use Rattle.ics_listing.specs.FileClocks.{Clock}
use Rattle.ics_listing.specs.Entry.{Entry, Rank, entry_cmp, rank_cmp, rank_of}
use Rattle.ics_series.specs.HeldMost.{held_most}
use Rattle.ics_listing.specs.Listing.{IsListing}
use Rattle.ics_series.specs.Meets.{IsListed, IsToCome}
use Rattle.ics_series.specs.Occurs.{Occurs}
use Rattle.ics_series.specs.PlacedEvents.{Placed, IsPlaced}
use Rattle.ics_series.specs.Sources.{master_at, master_of, recurring, AreSources}
use Rattle.ics_listing.specs.FeedSources.{Source}
use Rattle.ics_series.specs.Versions.{by_subject}

-- a window has one listing at most
abbrev pub OneListing : Type 0
OneListing =
    (files : List FileSaid) (display : Clock) (w : Window) (xs ys : List Entry)
    → IsListing entry_cmp (IsListed files display w) xs → IsListing entry_cmp (IsListed files display w) ys → xs ≡ ys

-- a listing after a key has those entries of the whole listing whose keys are greater
abbrev pub ListingAfter : Type 0
ListingAfter =
    (files : List FileSaid) (display : Clock) (w : Window) (key : Rank) (xs ys : List Entry)
    → IsListing entry_cmp (IsListed files display w) xs → IsListing entry_cmp (IsToCome files display w (Some key)) ys
    → ys ≡ filter (λ o. is_lt (rank_cmp key (rank_of o))) xs

-- after the key of one of its entries, a listing has exactly the entries that follow that one
abbrev pub ListingBehind : Type 0
ListingBehind =
    (files : List FileSaid) (display : Clock) (w : Window) (front : List Entry) (o : Entry) (behind ys : List Entry)
    → IsListing entry_cmp (IsListed files display w) (front ++ o ∷ behind)
    → IsListing entry_cmp (IsToCome files display w (Some (rank_of o))) ys → ys ≡ behind

-- the one version that counts of those that have the UID of an event and override the same instance
pub record HasVersion (files : List FileSaid) (display : Clock) (p : Placed) : Type 0 where
  pub version : Placed
  pub counts : IsChosen files display version
  pub same : subject_of files display version ≡ subject_of files display p
  pub one : (q : Placed) → IsChosen files display q → subject_of files display q ≡ subject_of files display p → q ≡ version

-- of the versions of each event of a folder exactly one counts
abbrev pub OneVersion : Type 0
OneVersion = (files : List FileSaid) (display : Clock) (p : Placed) → IsPlaced files p → HasVersion files display p

-- no event of the one has the UID of one of the others
abbrev pub AreApart : List FileSaid → List FileSaid → Type 0
AreApart files more = (p q : Placed) → IsPlaced files p → IsPlaced more q → p.event.uid ≢ q.event.uid

-- files that share no UID with those of a folder add exactly their own occurrences to each window
abbrev pub AddedFiles : Type 0
AddedFiles =
    (files more : List FileSaid) (display : Clock) (w : Window) → AreApart files more
    → (o : Entry) → IsListed (files ++ more) display w o ↔ (IsListed files display w o ⊎ IsListed more display w o)

-- the same files in another order: the numbers of the one lead to those of the other and back
pub record AreReordered (files others : List FileSaid) : Type 0 where
  pub there : ℕ → ℕ
  pub back : ℕ → ℕ
  pub moved : (k : ℕ) → slice_get others (there k) ≡ slice_get files k
  pub from : (k : ℕ) → there (back k) ≡ k
  pub to : (k : ℕ) → back (there k) ≡ k

-- versions of one event with equal SEQUENCE stand in one file
abbrev pub HaveApartVersions : List FileSaid → Clock → Type 0
HaveApartVersions files display =
    (p q : Placed) → IsPlaced files p → IsPlaced files q → subject_of files display p ≡ subject_of files display q → p.event.sequence ≡ q.event.sequence →
    p.file ≡ q.file

-- the order of files matters only between versions of equal SEQUENCE
abbrev pub OrderOfFiles : Type 0
OrderOfFiles =
    (files others : List FileSaid) (display : Clock) (w : Window) → AreReordered files others → HaveApartVersions files display
    → (o : Entry) → IsListed files display w o ↔ IsListed others display w o

-- no two occurrences of a folder have one UID and one recurrence, and so none have one key
abbrev pub OneRecurrence : Type 0
OneRecurrence =
    (files : List FileSaid) (display : Clock) (o q : Entry)
    → Occurs files display o → Occurs files display q → o.event.uid ≡ q.event.uid → o.recurrence ≡ q.recurrence → o ≡ q

-- the bound for the masters of a listing is no greater than for all masters of the folder that count
abbrev pub MostOfMasters : Type 0
MostOfMasters =
    (files : List FileSaid) (display : Clock) (w : Window) (after : Option Rank) (sources : List Source) (masters : List Placed)
    → AreSources files display w after sources → IsListing (by_subject files display) (IsMaster files display) masters
    → held_most (map master_of (recurring sources)) ≤ held_most (map (master_at files display) masters)
