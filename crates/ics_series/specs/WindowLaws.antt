-- What a window lists, and how the listings of windows that adjoin or contain each other fit together.
use Rattle.std.specs.Prelude.{◌≡◌, ◌↔◌, ◌≤ℤ◌, ◌<ℤ◌, ◌+ℤ◌, ℤ, pos, true, false, IsTrue, List, ◌++◌}
use Rattle.ics_file.specs.File.{FileSaid}
use Rattle.ics_listing.specs.declared.window.Window.{Window}
use Rattle.ics_listing.specs.FileClocks.{Clock}
use Rattle.ics_listing.specs.Entry.{Entry, entry_cmp}
use Rattle.ics_listing.specs.Listing.{IsIn, IsListing}
use Rattle.ics_series.specs.Meets.{IsListed}
use Rattle.ics_starts.specs.MeetsWindow.{Meets}
use Rattle.ics_series.specs.Occurs.{Occurs}

-- if what began before the window is left out, an occurrence is listed exactly if it starts in the window
abbrev pub ListsStarts : Type 0
ListsStarts =
    (files : List FileSaid) (display : Clock) (w : Window) (o : Entry) → w.notstarted ≡ true
    → IsListed files display w o ↔ (Occurs files display o × (w.from ≤ℤ o.start) × (o.start <ℤ w.to))

-- in the window of one second from t on, an occurrence with a length is listed exactly if it has begun by t and is not over
abbrev pub ListsUnderWay : Type 0
ListsUnderWay =
    (files : List FileSaid) (display : Clock) (w : Window) (t : ℤ) (o : Entry) → w.from ≡ t → w.to ≡ t +ℤ pos 1 → w.notstarted ≡ false
    → o.start <ℤ o.finish → IsListed files display w o ↔ (Occurs files display o × (o.start ≤ℤ t) × (t <ℤ o.finish))

-- the inner window is in the outer one, and leaves out what has begun before it if the outer one does
pub record IsWithin (inner outer : Window) : Type 0 where
  pub from : outer.from ≤ℤ inner.from
  pub to : inner.to ≤ℤ outer.to
  pub starts : IsTrue outer.notstarted → IsTrue inner.notstarted

-- the listing of a window within another has the entries of the other's listing that meet the inner window
abbrev pub ListingWithin : Type 0
ListingWithin =
    (files : List FileSaid) (display : Clock) (inner outer : Window) (xs ys : List Entry) → IsWithin inner outer
    → IsListing entry_cmp (IsListed files display inner) xs → IsListing entry_cmp (IsListed files display outer) ys
    → (o : Entry) → IsIn o xs ↔ (IsIn o ys × Meets inner o)

-- The whole window consists of the first and the next, which begins at the end of the first. What began before a window is left out of each.
pub record IsJoined (first next whole : Window) : Type 0 where
  pub adjoin : first.to ≡ next.from
  pub from : whole.from ≡ first.from
  pub to : whole.to ≡ next.to
  pub starts : (first.notstarted ≡ true) × (next.notstarted ≡ true) × (whole.notstarted ≡ true)

-- the listing of the whole is then that of the first followed by that of the next
abbrev pub ListingsJoin : Type 0
ListingsJoin =
    (files : List FileSaid) (display : Clock) (first next whole : Window) (xs ys : List Entry) → IsJoined first next whole
    → IsListing entry_cmp (IsListed files display first) xs → IsListing entry_cmp (IsListed files display next) ys
    → IsListing entry_cmp (IsListed files display whole) (xs ++ ys)
