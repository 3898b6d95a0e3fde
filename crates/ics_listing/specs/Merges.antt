-- What a merge has, told by what its feeds have.
use Rattle.std.specs.Prelude.{ℕ, List, map, sum_by}
use Rattle.std.specs.List.{flat_map}
use Rattle.ics_listing.specs.declared.feed.Coming.{Ghosts}
use Rattle.ics_listing.specs.declared.merge.Merge.{Merge}
use Rattle.ics_listing.specs.Entry.{entry_cmp, Entry}
use Rattle.ics_listing.specs.Leads.{listed, past}
use Rattle.ics_listing.specs.Merged.{merged}

module _ {F : Type 0} {g : Ghosts F} where
  -- what is still to come
  abbrev pub merge_coming : (F → List Entry) → Merge F g → List Entry
  merge_coming coming merge = merged entry_cmp (map (λ l. past merge.last (listed l.head (coming l.feed))) merge.leads.items)

  -- what its feeds have, one after the other
  abbrev pub merge_all : {A : Type 0} → (F → List A) → Merge F g → List A
  merge_all each merge = flat_map (λ l. each l.feed) merge.leads.items

  -- the built occurrences that are held: the one that was given last and, for each feed, the one that was drawn and what the feed holds
  abbrev pub merge_holds : (F → List Entry) → Merge F g → List Entry
  merge_holds holds merge = listed merge.last (flat_map (λ l. listed l.head (holds l.feed)) merge.leads.items)

  -- how many periods of rules the feeds have looked at
  abbrev pub merge_looked : (F → ℕ) → Merge F g → ℕ
  merge_looked looked merge = sum_by (λ l. looked l.feed) merge.leads.items
