-- Laws of merges.
use Rattle.std.specs.Prelude.{List, All}
use Rattle.ics_listing.specs.Entry.{Entry, entry_cmp}
use Rattle.ics_listing.specs.Listing.{IsListing}
use Rattle.ics_listing.specs.Merged.{merged, IsFromFirst}
use Rattle.ics_listing.specs.Rising.{Rises}

-- the merge of rising lists is the listing of their entries. If several lists have a key, the entry of the first of them counts
abbrev pub ListingMerged : Type 0
ListingMerged =
    (lists : List (List Entry)) → All (Rises entry_cmp) lists → IsListing entry_cmp (λ o. IsFromFirst entry_cmp o lists) (merged entry_cmp lists)
