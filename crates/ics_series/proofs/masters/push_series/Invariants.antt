use Rattle.std.proofs.Common.{◌≡◌, [], ℕ, length, map, take, option_map}
use Rattle.std.specs.List.{flat_map, AllByRecursion}
use Rattle.ics_file.specs.File.{said_by}
use Rattle.ics_starts.specs.Clocks.{display_clock}
use Rattle.ics_listing.specs.Entry.{key_rank}
use Rattle.ics_listing.specs.Leads.{IsFresh}
use Rattle.ics_series.specs.Inner.Kept.{AreKept}
use Rattle.ics_series.specs.Inner.Marks.{AreMarks}
use Rattle.ics_series.specs.Inner.Masters.{HasLists, HasSources}
use Rattle.ics_series.specs.AgendaParts.{part_coming, part_near, part_sources, ComesSince}
use Rattle.ics_series.specs.Versions.{seen}
use Rattle.ics_series.proofs.GapLemmas.{IsLookedTo}
use Rattle.ics_series.proofs.masters.push_series.Given as goal

-- the lists of the versions before the next have been added, and the marks are those of the versions
abbrev pub invariant-loop-place : goal.invariant-loop-place
invariant-loop-place l = record {
  looked :
      (next : ℕ) × IsLookedTo l.near (length l.chosen) l.place-index next
      × HasLists (map said_by l.files) (display_clock l.display) l.window (option_map (λ key. key_rank key.now) l.after) (map seen (take next l.chosen))
      (map (λ x. part_coming x.feed) l.initial.leads.items) (map (λ x. part_coming x.feed) l.leads.items)
      × HasSources (map said_by l.files) (display_clock l.display) l.window (option_map (λ key. key_rank key.now) l.after) (map seen (take next l.chosen))
      (flat_map (λ x. part_sources x.feed) l.initial.leads.items) (flat_map (λ x. part_sources x.feed) l.leads.items);
  fresh : AllByRecursion (λ x. IsFresh (part_near x.feed) x.head (part_coming x.feed)) l.initial.leads.items
      → AllByRecursion (λ x. IsFresh (part_near x.feed) x.head (part_coming x.feed)) l.leads.items;
  marks : AreMarks (map said_by l.files) (map seen l.chosen) l.marks.items;
  kept : AreKept (map said_by l.files) (display_clock l.display) l.kept.items;
  none : l.initial.kept.items ≡ [] → l.kept.items ≡ [];
  since : l.initial.kept.items ≡ [] → AllByRecursion (λ x. ComesSince x.feed) l.initial.leads.items
      → AllByRecursion (λ x. ComesSince x.feed) l.leads.items;
}
