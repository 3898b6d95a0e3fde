-- What is to come of a listing begins at the instant from which its master is listed, or later.
use Rattle.std.proofs.Common.{◌≡◌, ◌⊎◌, ◌++◌, ◌≤ℤ◌, ◌∙◌, List, [], ◌∷◌, ap, false, inl, inr, map, nat_cmp, refl, subst, sym, true, ⊎_elim}
use Rattle.std.proofs.Common.{Err, Ok, OnErr, OnOk, Option, Result}
use Rattle.std.proofs.lemmas.Cmp.{nat_list_cmp_total, on_total, tied_itself}
use Rattle.std.specs.Cmp.Lexicographic.{slice_cmp}
use Rattle.std.specs.List.{AllByRecursion}
use Rattle.ics_event.specs.declared.event.Event.{Event}
use Rattle.ics_listing.specs.Entry.{Entry, entry_cmp}
use Rattle.ics_listing.specs.FeedSources.{Recurring, Source}
use Rattle.ics_listing.specs.Inner.EntryLaws.{entry_total}
use Rattle.ics_listing.specs.Leads.{IsFresh}
use Rattle.ics_listing.specs.Listing.{IsIn}
use Rattle.ics_listing.specs.Merged.{merged}
use Rattle.ics_listing.specs.Rising.{Rises}
use Rattle.ics_listing.specs.declared.occurrence.Occurrence.{Occurrence}
use Rattle.ics_listing.proofs.ListingLemmas.{all-in, one-of-tied}
use Rattle.ics_listing.proofs.UnionLemmas.{from-one, merged-in}
use Rattle.ics_series.specs.AgendaParts.{part_coming, part_near, part_sources, ComesSince, IsFirstPart}
use Rattle.ics_series.specs.Sources.{recurring, uid_cmp, AreApart, ComeSince}
use Rattle.ics_series.specs.declared.part.Part.{Part}
use Rattle.ics_series.specs.declared.part.Part.TheVariants.{Singles, Series}
use Rattle.ics_series.specs.declared.singles.Singles as single
use Rattle.ics_series.proofs.HoldingLaws.{master_in, not-single, sources_in, InOne}
use Rattle.ics_starts.specs.SingleEvents.{is_single}

-- an entry is of one of these masters, and begins from the instant on from which that is listed
record HasMaster (e : Entry) (masters : List Recurring) : Type 0 where
  master : Recurring
  stands : IsIn master masters
  of : e.event ≡ master.event
  since : master.since ≤ℤ e.start

-- it is so of a master among sources, or the entry is of an event that starts once
abbrev IsOfSource : Entry → List Source → Type 0
IsOfSource e sources = (is_single e.event ≡ true) ⊎ HasMaster e (recurring sources)

first-source : (e : Entry) (p : Part) (more : List Source) → part_near p e → ComesSince p → IsIn e (part_coming p) → IsOfSource e (part_sources p ++ more)
first-source e (Singles s) more near since m = inl near
first-source e (Series s) more near since m =
    let master = master_in s.series.value.series in
    inr (record { master = master; stands = inl refl; of = near.0; since = since master e (inl refl) m })

later-source : (e : Entry) (p : Part) (more : List Source) → IsOfSource e more → IsOfSource e (part_sources p ++ more)
later-source e (Singles s) more h = h
later-source e (Series s) more h =
    ⊎_elim inl (λ k. inr (record { master = k.master; stands = inr k.stands; of = k.of; since = k.since })) h

-- of masters with UIDs of their own, two of one event are one
one-master : (ms : List Recurring) (m n : Recurring) → Rises uid_cmp ms → IsIn m ms → IsIn n ms → m.event ≡ n.event → m ≡ n
one-master ms m n rises a b same =
    let total = on_total (λ (r : Recurring). r.event.uid) nat_list_cmp_total in
    one-of-tied uid_cmp total ms (ap (λ (v : Event). slice_cmp nat_cmp m.event.uid v.uid) (sym same) ∙ tied_itself total m) rises a b

-- what follows from an answer and from an error
pub by-result : {T E P Q R : Type 0} (r : Result T E) → OnOk r P → OnErr r Q → (P → R) → (Q → R) → R
by-result (Ok x) ok err f g = f ok
by-result (Err e) ok err f g = g err

-- the part of the events that start once has no master
pub parts-since : (s : single.Singles) (parts : List Part) → IsFirstPart s parts → AllByRecursion ComesSince parts
parts-since s parts first =
    ⊎_elim (λ one. rw one ((λ m o no there. absurd no), tt)) (λ none. rw none.0 tt) first

module _ {X : Type 0} (part : X → Part) where
  abbrev coming_in : List X → List (List Entry)
  coming_in xs = map (λ x. part_coming (part x)) xs

  pub part-since : (xs : List X) → AllByRecursion ComesSince (map part xs) → AllByRecursion (λ x. ComesSince (part x)) xs
  part-since [] since = tt
  part-since (x ∷ xs) since = (since.0, part-since xs since.1)

  module _ (head : X → Option Occurrence) (e : Entry) where
    -- what stands in one of the lists is of a source
    of-source : (xs : List X) → AllByRecursion (λ x. IsFresh (part_near (part x)) (head x) (part_coming (part x))) xs
        → AllByRecursion (λ x. ComesSince (part x)) xs → InOne e (coming_in xs) → IsOfSource e (sources_in part xs)
    of-source [] fresh since k = absurd k
    of-source (x ∷ xs) fresh since k =
        let more = sources_in part xs in
        ⊎_elim (λ here. first-source e (part x) more (fresh.0.1 e here) since.0 here)
        (λ there. later-source e (part x) more (of-source xs fresh.1 since.1 there)) k

  -- What is merged of fresh leads comes since their masters, if it does of each of their parts.
  pub merged-since : (head : X → Option Occurrence) (xs : List X) → AreApart (sources_in part xs)
      → AllByRecursion (λ x. IsFresh (part_near (part x)) (head x) (part_coming (part x))) xs → AllByRecursion (λ x. ComesSince (part x)) xs
      → ComeSince (sources_in part xs) (merged entry_cmp (coming_in xs))
  merged-since head xs apart fresh since m o stands there of =
      let masters = recurring (sources_in part xs) in
      let one = from-one entry_cmp entry_total o (coming_in xs) (merged-in entry_cmp entry_total o (coming_in xs) there) in
      ⊎_elim
      (λ single. absurd (not-single o m.event of single (all-in (λ (r : Recurring). is_single r.event ≡ false) masters apart.1.0 m stands)))
      (λ k. subst (λ (r : Recurring). r.since ≤ℤ o.start) (sym (one-master masters m k.master apart.1.1 stands k.stands (sym of ∙ k.of))) k.since)
      (of-source head o xs fresh since one)
