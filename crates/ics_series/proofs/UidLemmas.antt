-- The feeds of the masters that recur, each of one UID, stand in the order of their UIDs.
use Rattle.std.proofs.Common.{◌≡◌, ℕ, zero, suc, List, [], ◌∷◌, get_or, map, Some, ◌∙◌, ap, arith, ◌++◌, drop, length, refl, slice_get, nat_cmp, ⊎_elim}
use Rattle.std.specs.List.{flat_map}
use Rattle.std.specs.Cmp.Lexicographic.{slice_cmp}
use Rattle.std.proofs.lemmas.Bool.Decides.{nat_tests}
use Rattle.std.proofs.lemmas.Cmp.{nat_list_cmp_total, on_total}
use Rattle.ics_continued.specs.Continued.{continued_left}
use Rattle.ics_continued.specs.Lasting.{known_left, lasting_entries}
use Rattle.ics_continued.specs.declared.continued.Continued.{Continued}
use Rattle.ics_continued.specs.declared.lasting.Lasting.{Lasting}
use Rattle.ics_event.specs.declared.event.Event.{Event}
use Rattle.ics_listing.specs.Entry.{Entry}
use Rattle.ics_listing.specs.Listing.{IsIn}
use Rattle.ics_listing.specs.Uids.{AreSortedFrom}
use Rattle.ics_series.specs.declared.part.Part.{Part}
use Rattle.ics_series.specs.declared.part.Part.TheVariants.{Singles, Series}
use Rattle.ics_series.specs.declared.singles.Singles as single
use Rattle.ics_series.specs.AgendaParts.{part_coming, part_sources, IsFirstPart}
use Rattle.ics_listing.specs.Rising.{Rises}
use Rattle.ics_starts.specs.SeriesFeed.{series_left, series_of}
use Rattle.ics_series.specs.Sources.{uid_cmp}
use Rattle.ics_listing.specs.FeedSources.{Recurring, Source}
use Rattle.ics_listing.specs.FeedSources.Source.{Of, Once}
use Rattle.ics_starts.specs.FileZones.{clocks_in}
use Rattle.ics_listing.proofs.ListingLemmas.{in-append, rises-by_place}
use Rattle.ics_starts.proofs.SeriesLemmas.{given-own}

-- The feeds of the masters that recur, each of one UID, in the order of their UIDs.
same-master : {a b : Recurring} {xs ys : List Source} → Of a ∷ xs ≡ Of b ∷ ys → a ≡ b
same-master e = cc

no-source : {a : Source} {xs : List Source} → a ∷ xs ≡ [] → ⊥
no-source e = cc

rest-sources : (p : Part) {source : Source} {xs ys : List Source} → part_sources p ++ xs ≡ source ∷ ys → xs ≡ ys
rest-sources (Singles s) e = ap (drop 1) e
rest-sources (Series s) e = ap (drop 1) e

-- what is to come of a series is of its event
known-own : (event : Event) (list : List Lasting) (e : Entry) → IsIn e (lasting_entries event list) → e.event ≡ event
known-own event [] e m = absurd m
known-own event (x ∷ list) e m = ⊎_elim (λ s. ap (λ (o : Entry). o.event) s) (known-own event list e) m

left-own : (c : Continued) (e : Entry) → IsIn e (continued_left c) → e.event ≡ c.series.event.now
left-own c e m =
    let s = c.series in
    ⊎_elim (known-own s.event.now (drop c.next c.known.items) e)
    (given-own (clocks_in s.zones) s.window s.event.now s.since s.replaced (series_left s) e)
    (in-append e (known_left s.event.now c.next c.known.items) (series_of s (series_left s)) m)

-- what a feed gives is of its one master
record HasMaster (ms : List Recurring) (i : ℕ) (a : Entry) : Type 0 where
  master : Recurring
  stands : slice_get ms i ≡ Some master
  event : a.event ≡ master.event

master-in : (ps : List Part) (ms : List Recurring) (i : ℕ) (a : Entry) → flat_map part_sources ps ≡ map Of ms → IsIn a (get_or (map part_coming ps) i []) →
    HasMaster ms i a
master-in [] ms i a e n = absurd n
master-in (p ∷ ps) (m ∷ ms) (suc i) a e n =
    let k = master-in ps ms i a (rest-sources p e) n in record { master = k.master; stands = k.stands; event = k.event }
master-in (Series s ∷ ps) (m ∷ ms) zero a e n =
    record { master = m; stands = refl; event = left-own s.series.value a n ∙ ap (λ (r : Recurring). r.event) (same-master e) }
master-in (Singles s ∷ ps) (m ∷ ms) zero a e n = let no : Once ∷ flat_map part_sources ps ≡ Of m ∷ map Of ms = e in absurd cc
master-in (Singles s ∷ ps) [] i a e n = absurd (no-source e)
master-in (Series s ∷ ps) [] i a e n = absurd (no-source e)

-- the order of two UIDs is that of their feeds
masters-sorted : (ps : List Part) (ms : List Recurring) → flat_map part_sources ps ≡ map Of ms → Rises uid_cmp ms → AreSortedFrom 0 (map part_coming ps)
masters-sorted ps ms e r i a n j b low high k =
    let x = master-in ps ms i a e n in
    let y = master-in ps ms j b e k in
    (λ t. slice_cmp nat_cmp (x.event t).uid (y.event t).uid)
    ∙ rises-by_place uid_cmp (on_total (λ (m : Recurring). m.event.uid) nat_list_cmp_total) ms i j r x.stands y.stands

-- also behind the feed of the events that start once
behind-sorted : (ps : List Part) (ms : List Recurring) → flat_map part_sources ps ≡ Once ∷ map Of ms → Rises uid_cmp ms →
    AreSortedFrom 1 (map part_coming ps)
behind-sorted [] ms e r i a n j b low high k = absurd n
behind-sorted (p ∷ ps) ms e r (suc i) a n (suc j) b low high k =
    masters-sorted ps ms (rest-sources p e) r i a n j b (omega arith) (omega arith) k ∙ grind (arith, nat_tests)
behind-sorted (p ∷ ps) ms e r _ a n _ b low high k = absurd (omega arith)

-- so it is behind that feed, if it is there
pub parts-sorted : (s : single.Singles) (first ps : List Part) (ms : List Recurring) → IsFirstPart s first
    → flat_map part_sources ps ≡ flat_map part_sources first ++ map Of ms → Rises uid_cmp ms → AreSortedFrom (length first) (map part_coming ps)
parts-sorted s first ps ms f e r = ⊎_elim (λ h. rw h (behind-sorted ps ms (rw h at e) r)) (λ h. rw h.0 (masters-sorted ps ms (rw h.0 at e) r)) f
