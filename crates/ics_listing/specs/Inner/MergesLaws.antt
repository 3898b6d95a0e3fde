-- What a merge has still to come rises.
use Rattle.std.specs.Prelude.{List, map}
use Rattle.ics_listing.specs.declared.feed.Coming.{Ghosts}
use Rattle.ics_listing.specs.declared.merge.Merge.{Merge}
use Rattle.ics_listing.specs.Entry.{entry_cmp, Entry}
use Rattle.ics_listing.specs.Inner.EntryLaws.{entry_total}
use Rattle.ics_listing.specs.Inner.MergedLaws.{rises-merged}
use Rattle.ics_listing.specs.Leads.{listed, past}
use Rattle.ics_listing.specs.Merges.{merge_coming}
use Rattle.ics_listing.specs.Rising.{Rises}

pub rises-merge : {F : Type 0} {g : Ghosts F} (coming : F → List Entry) (merge : Merge F g) → Rises entry_cmp (merge_coming coming merge)
rises-merge coming merge = rises-merged entry_cmp entry_total (map (λ l. past merge.last (listed l.head (coming l.feed))) merge.leads.items)
