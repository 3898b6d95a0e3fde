use Rattle.std.proofs.lemmas.Grind.{common_steps}
use Rattle.std.proofs.Common.{◌≡◌, ◌+◌, ◌<◌, List, [], ◌∷◌, ◌++◌, length, take, Vec, Global, Option, Some, map, get_or, option_map, refl, sym, subst}
use Rattle.std.proofs.Common.{ap, ◌∙◌, ◌≤ℤ◌, ⊎_elim, arith, append-nil, rules, to_z, of_z, w64}
use Rattle.std.specs.Global.{Box}
use Rattle.std.specs.List.{flat_map, AllByRecursion}
use Rattle.std.proofs.lemmas.Int.{ints}
use Rattle.std.proofs.lemmas.List.{map-append}
use Rattle.std.proofs.lemmas.List.Concat.{flat_map-append}
use Rattle.std.proofs.lemmas.Option.{slice_get-get_or, slice_get-map, MatchOption-at_none, MatchOption-at_some}
use Rattle.ics_file.specs.File.{said_by}
use Rattle.ics_starts.specs.Clocks.{display_clock}
use Rattle.ics_series.specs.Versions.{seen}
use Rattle.ics_starts.specs.declared.mark.Mark.{Mark}
use Rattle.ics_continued.specs.declared.continued.Continued.{Continued}
use Rattle.ics_series.specs.AgendaParts.{part_coming, part_near, part_sources, ComesSince}
use Rattle.ics_listing.specs.Entry.{key_rank, Entry}
use Rattle.ics_series.specs.Inner.Marks.{AreMarks, IsPut}
use Rattle.ics_series.specs.Inner.Masters.{AreFrom, HasLists, HasSources}
use Rattle.ics_starts.specs.RuleMarks.{IsMarkOf}
use Rattle.ics_days.specs.Spans.{first_at}
use Rattle.ics_continued.specs.Continued.{continued_left, continued_sources}
use Rattle.ics_listing.specs.Leads.{IsFresh}
use Rattle.ics_listing.specs.Listing.{IsIn}
use Rattle.ics_listing.proofs.LeadLemmas.{all-pushed}
use Rattle.ics_series.proofs.GapLemmas.{lists-gap, looked-all, looked-none, looked-one, place-gap, place-low, place-within}
use Rattle.ics_series.proofs.GapLemmas.{sources-gap, IsLookedTo}
use Rattle.ics_listing.specs.FeedSources.{Recurring}
use Rattle.ics_series.specs.Sources.{recurring}
use Rattle.std.specs.Option.{unwrap_or}
use Rattle.ics_series.proofs.MarkLemmas.{first_source, marks-put, own-mark}
use Rattle.ics_series.proofs.OverrideLemmas.{any_version}
use Rattle.ics_series.proofs.RecurringLemmas.{not-single}
use Rattle.ics_series.proofs.SourceLemmas.{versions-all, versions-more, versions-none, versions-skip, sources-all, sources-more}
use Rattle.ics_series.proofs.SourceLemmas.{sources-skip}
use Rattle.ics_series.proofs.SpanLemmas.{come-first, out-version}
use Rattle.ics_series.proofs.VersionLemmas.{stands}
use Rattle.ics_series.proofs.masters.push_series.Goals as goal
use Rattle.ics_series.proofs.masters.push_series.Goals.{At-loop-place, In_ok-series, in-Some+in_ok-push, in_default}

-- what holds of each and of one more holds of each where that is added
all-added : {A : Type 0} (P : A → Type 0) (old : List A) (x : A) {new : List A} → new ≡ old ++ x ∷ [] → AllByRecursion P old → P x → AllByRecursion P new
all-added P old x is all mine = rw is (all-pushed P old x all mine)

-- what is to come begins with the series of a master, or later
comes-as : (series : Continued) → ((o : Entry) → IsIn o (continued_left series) → series.series.since ≤ℤ o.start) → (m : Recurring) (o : Entry)
    → IsIn m (recurring (continued_sources series)) → IsIn o (continued_left series) → m.since ≤ℤ o.start
comes-as series come m o stands there =
    let low = come o there in
    ⊎_elim (λ e. let mine = ap (λ (r : Recurring). r.since) e in omega (arith, ints, low, mine)) (λ none. absurd none) stands

-- the marks after that of a series was put
marked-on : (c : In_ok-series) (held : Box Continued) (mark : Option Mark) (marks : List (Option Mark)) → c.in_ok-series.field-0 ≡ Some held
    → IsMarkOf held.value.series.event.now mark → IsPut c.loop-place.marks.items (get_or c.args.near.now c.loop-place.place-index 0) mark marks
    → AreMarks (map said_by c.args.files.now) (map seen c.args.chosen.now) marks
marked-on c held mark marks is of put =
    let vs = c.args.chosen.now in
    let k = get_or c.args.near.now c.loop-place.place-index 0 in
    let v = get_or vs k any_version in
    let there = slice_get-get_or vs k any_version (place-within c.requires.near c.loop-place.place-index c.loop-place-test.true) in
    let files = map said_by c.args.files.now in
    let m = MatchOption-at_some _ _ held is (c.in_ok-series.ensures.sources v there) in
    marks-put files (map seen vs) k mark c.loop-place.marks.items marks c.loop-place.invariant.marks put
    (own-mark files vs k there held.value.series mark m.1.stands m.2 of)

pub returns-in_err-push-clause-marks : goal.returns-in_err-push-clause-marks
returns-in_err-push-clause-marks c =
    let marked = rw c.deref-in-Some.ensures at c.mark.ensures in
    marked-on (goal.at.returns-in_err-push-clause-marks c).In_ok-series c.in-Some.series c.mark.result _ c.in-Some.is marked c.put_mark.ensures

-- the event of the series is that of its version
pub invariant_of-placed : goal.invariant_of-placed
invariant_of-placed c =
    let k = get_or c.args.near.now c.loop-place.place-index 0 in
    let v = get_or c.args.chosen.now k c.index-chosen-place.result in
    let there =
    slice_get-get_or c.args.chosen.now k c.index-chosen-place.result (place-within c.requires.near c.loop-place.place-index c.loop-place-test.true) in
    let m = MatchOption-at_some _ _ c.in-Some.series c.in-Some.is (c.in_ok-series.ensures.sources v there) in
    let own = ap (λ (r : Recurring). r.event) (ap (first_source m.0) m.2) in
    let event = ap (λ o. unwrap_or o m.0.event) (sym m.1.stands ∙ c.event-event.ensures.event) in
    record { own = own ∙ event }

-- the lists and the sources up to the place that is looked at, where what lies before it gives nothing
to-here : (c : At-loop-place) → c.loop-place.place-index < length c.args.near.now
    → HasLists (map said_by c.args.files.now) (display_clock c.args.display.now) c.args.window (option_map (λ key. key_rank key.now) c.args.after)
    (map seen (take (get_or c.args.near.now c.loop-place.place-index 0) c.args.chosen.now))
    (map (λ l. part_coming l.feed) c.args.leads.now.items) (map (λ l. part_coming l.feed) c.loop-place.leads.items)
    × HasSources (map said_by c.args.files.now) (display_clock c.args.display.now) c.args.window (option_map (λ key. key_rank key.now) c.args.after)
    (map seen (take (get_or c.args.near.now c.loop-place.place-index 0) c.args.chosen.now))
    (flat_map (λ l. part_sources l.feed) c.args.leads.now.items) (flat_map (λ l. part_sources l.feed) c.loop-place.leads.items)
to-here c test =
    let near = c.args.near.now in
    let i = c.loop-place.place-index in
    let k = get_or near i 0 in
    let at = slice_get-get_or near i 0 test in
    let looked = c.loop-place.invariant.looked in
    let within = place-within c.requires.near i test in
    let files = map said_by c.args.files.now in
    let display = display_clock c.args.display.now in
    let after = option_map (λ key. key_rank key.now) c.args.after in
    let spans = c.args.spans.now in
    let are = c.requires.spans.are in (
      lists-gap files display c.args.window c.args.chosen.now spans are near c.requires.near looked.0 k (place-low near i at looked.1)
          (omega (arith, within)) (place-gap near i at looked.1) after c.requires.spans.started looked.2,
      sources-gap files display c.args.window c.args.chosen.now spans are near c.requires.near looked.0 k (place-low near i at looked.1)
          (omega (arith, within)) (place-gap near i at looked.1) after c.requires.chosen looked.3,
    )

-- and of the place itself
on-from : (c : At-loop-place) (l : c.loop-place.place-index < length c.args.near.now)
    → IsLookedTo c.args.near.now (length c.args.chosen.now) (c.loop-place.place-index + 1) (get_or c.args.near.now c.loop-place.place-index 0 + 1)
on-from c l =
    looked-one c.args.near.now c.loop-place.place-index (slice_get-get_or c.args.near.now c.loop-place.place-index 0 l) c.loop-place.invariant.looked.1
    (place-within c.requires.near c.loop-place.place-index l)

-- nothing of a series was read where its mark is taken
pub mark-requires : goal.mark-requires
mark-requires c =
    rw c.deref-in-Some.ensures (MatchOption-at_some _ _ c.in-Some.series c.in-Some.is c.in_ok-series.ensures.begun)

pub loop-place-init : goal.loop-place-init
loop-place-init c = record {
  looked = (
    0,
    looked-none c.args.near.now (length c.args.chosen.now) c.requires.near.rises,
    record { more = []; are = record { each = tt; every = λ l m. absurd m }; behind = sym (append-nil (map (λ l. part_coming l.feed) c.args.leads.now.items)) },
    record { more = []; each = tt; rises = tt; behind = sym (append-nil (flat_map (λ l. part_sources l.feed) c.args.leads.now.items)) },
  );
  fresh = λ fresh. fresh;
  marks = c.requires.marks;
  kept = c.requires.kept;
  none = λ none. none;
  since = λ none come. come;
}

pub loop-place-preserved : goal.loop-place-preserved
loop-place-preserved c =
    let vs = c.args.chosen.now in
    let k = get_or c.args.near.now c.loop-place.place-index 0 in
    let v = get_or c.args.chosen.now k any_version in
    let there = slice_get-get_or vs k any_version (place-within c.requires.near c.loop-place.place-index c.loop-place-test.true) in
    let here = to-here (goal.at.loop-place-preserved c).At-loop-place c.loop-place-test.true in
    let on = on-from (goal.at.loop-place-preserved c).At-loop-place c.loop-place-test.true in
    let files = map said_by c.args.files.now in
    elim c.match-branch-2.branch [
      | in-Some+in_ok-push w ↦
          let leads = (λ i. (w.leads-is i).items) ∙ w.in_ok-push.ensures.items in
          let marked = rw w.deref-in-Some.ensures at w.mark.ensures in
          let m = MatchOption-at_some _ _ w.in-Some.series w.in-Some.is (c.in_ok-series.ensures.sources v there) in
          record {
            looked = (
              k + 1,
              on,
              versions-more vs k there here.0
                  (MatchOption-at_some _ _ w.in-Some.series w.in-Some.is (c.in_ok-series.ensures.series v there))
                  (ap (map (λ l. part_coming l.feed)) leads
                  ∙ (map-append (λ l. part_coming l.feed) c.loop-place.leads.items _
                  ∙ ap (λ xs. map (λ l. part_coming l.feed) c.loop-place.leads.items ++ xs ∷ [])
                  (ap part_coming w.of.ensures.feed))),
              sources-more c.requires.chosen k there here.1 m.1
                  (ap (flat_map (λ l. part_sources l.feed)) leads
                  ∙ (flat_map-append (λ l. part_sources l.feed) c.loop-place.leads.items _
                  ∙ ap (λ xs. flat_map (λ l. part_sources l.feed) c.loop-place.leads.items ++ xs) (ap (λ p. part_sources p ++ []) w.of.ensures.feed
                  ∙ (append-nil (continued_sources w.in-Some.series.value) ∙ m.2)))),
            );
            fresh = λ fresh. all-added (λ l. IsFresh (part_near l.feed) l.head (part_coming l.feed)) c.loop-place.leads.items w.of.result leads
                (c.loop-place.invariant.fresh fresh) w.of.ensures.fresh;
            marks = subst (AreMarks files (map seen vs)) (sym (ap (λ (p : Vec (Option Mark) Global). p.items) w.marks-is))
                (marked-on (goal.at.loop-place-preserved c).In_ok-series w.in-Some.series w.mark.result _ w.in-Some.is marked w.put_mark.ensures);
            kept = c.in_ok-series.ensures.kept;
            none = λ none. c.in_ok-series.ensures.none (c.loop-place.invariant.none none);
            since = λ none come. all-added (λ l. ComesSince l.feed) c.loop-place.leads.items w.of.result leads (c.loop-place.invariant.since none come)
                (subst ComesSince (sym w.of.ensures.feed) (comes-as w.in-Some.series.value
                (MatchOption-at_some _ _ w.in-Some.series w.in-Some.is (c.in_ok-series.ensures.come (c.loop-place.invariant.none none)))));
          }
      | in_default w ↦
          record {
            looked = (
              k + 1,
              on,
              versions-skip vs k there here.0 (MatchOption-at_none _ _ w.in_default.is (c.in_ok-series.ensures.series v there))
                  (λ i. map (λ l. part_coming l.feed) (w.leads-is i).items),
              sources-skip c.requires.chosen k there here.1 (λ i. flat_map (λ l. part_sources l.feed) (w.leads-is i).items),
            );
            fresh = λ fresh. rw w.leads-is (c.loop-place.invariant.fresh fresh);
            marks = subst (AreMarks files (map seen vs)) (sym (ap (λ (p : Vec (Option Mark) Global). p.items) w.marks-is)) c.loop-place.invariant.marks;
            kept = c.in_ok-series.ensures.kept;
            none = λ none. c.in_ok-series.ensures.none (c.loop-place.invariant.none none);
            since = λ none come. rw w.leads-is (c.loop-place.invariant.since none come);
          }
    ]

pub loop-place-preserved-then-is_out : goal.loop-place-preserved-then-is_out
loop-place-preserved-then-is_out c =
    let vs = c.args.chosen.now in
    let k = get_or c.args.near.now c.loop-place.place-index 0 in
    let there = slice_get-get_or vs k any_version (place-within c.requires.near c.loop-place.place-index c.loop-place-test.true) in
    let here = to-here (goal.at.loop-place-preserved-then-is_out c).At-loop-place c.loop-place-test.true in
    let at = slice_get-map seen vs k ∙ ap (option_map seen) there in
    let files = map said_by c.args.files.now in
    let display = display_clock c.args.display.now in
    let none = out-version files display c.args.window (map seen vs) c.args.spans.now c.requires.spans.are k at
    (sym c.is_out.ensures ∙ c.if-is_out.true) (option_map (λ key. key_rank key.now) c.args.after) c.requires.spans.started in
    record {
      looked = (
        k + 1,
        on-from (goal.at.loop-place-preserved-then-is_out c).At-loop-place c.loop-place-test.true,
        versions-none vs k there here.0 none refl,
        sources-skip c.requires.chosen k there here.1 refl,
      );
      fresh = c.loop-place.invariant.fresh;
      marks = c.loop-place.invariant.marks;
      kept = c.loop-place.invariant.kept;
      none = c.loop-place.invariant.none;
      since = c.loop-place.invariant.since;
    }

pub event-event-requires : goal.event-event-requires
event-event-requires c =
    let k = get_or c.args.near.now c.loop-place.place-index 0 in
    stands k c.requires.chosen
    (slice_get-get_or c.args.chosen.now k c.index-chosen-place.result (place-within c.requires.near c.loop-place.place-index c.loop-place-test.true))

pub loop-place-preserved-then-is_single : goal.loop-place-preserved-then-is_single
loop-place-preserved-then-is_single c =
    let vs = c.args.chosen.now in
    let k = get_or c.args.near.now c.loop-place.place-index 0 in
    let v = get_or vs k c.index-chosen-place.result in
    let there = slice_get-get_or vs k c.index-chosen-place.result (place-within c.requires.near c.loop-place.place-index c.loop-place-test.true) in
    let here = to-here (goal.at.loop-place-preserved-then-is_single c).At-loop-place c.loop-place-test.true in
    record {
      looked = (
        k + 1,
        on-from (goal.at.loop-place-preserved-then-is_single c).At-loop-place c.loop-place-test.true,
        versions-skip vs k there here.0
            (not-single {u = v} {v = v} refl c.event-event.ensures.event (sym c.is_single.ensures ∙ c.if-is_single.true)) refl,
        sources-skip c.requires.chosen k there here.1 refl,
      );
      fresh = c.loop-place.invariant.fresh;
      marks = c.loop-place.invariant.marks;
      kept = c.loop-place.invariant.kept;
      none = c.loop-place.invariant.none;
      since = c.loop-place.invariant.since;
    }

pub returns : goal.returns
returns c =
    let vs = c.args.chosen.now in
    let near = c.args.near.now in
    let i = c.loop-place.place-index in
    let looked = c.loop-place.invariant.looked in
    let files = map said_by c.args.files.now in
    let display = display_clock c.args.display.now in
    let after = option_map (λ key. key_rank key.now) c.args.after in
    let spans = c.args.spans.now in
    let are = c.requires.spans.are in
    record {
      lists = versions-all vs (length vs) (omega arith)
          (lists-gap files display c.args.window vs spans are near c.requires.near looked.0 (length vs) looked.1.within (omega arith)
          (λ j a b m. looked-all near i looked.0 c.loop-place-test.false looked.1 j a m) after c.requires.spans.started looked.2);
      sources = sources-all c.requires.chosen (length vs) (omega arith)
          (sources-gap files display c.args.window vs spans are near c.requires.near looked.0 (length vs) looked.1.within (omega arith)
          (λ j a b m. looked-all near i looked.0 c.loop-place-test.false looked.1 j a m) after c.requires.chosen looked.3);
      fresh = c.loop-place.invariant.fresh;
      marks = c.loop-place.invariant.marks;
      kept = c.loop-place.invariant.kept;
      since = c.loop-place.invariant.since;
    }

pub series_at-requires-clause-chosen : goal.series_at-requires-clause-chosen
series_at-requires-clause-chosen c = grind (arith, common_steps)

pub series_at-requires-clause-within : goal.series_at-requires-clause-within
series_at-requires-clause-within c = grind (arith, common_steps)

pub series_at-requires-clause-begin : goal.series_at-requires-clause-begin
series_at-requires-clause-begin c version there =
    let vs = c.args.chosen.now in
    let k = get_or c.args.near.now c.loop-place.place-index 0 in
    let files = map said_by c.args.files.now in
    let display = display_clock c.args.display.now in
    let fits : to_z w64 (of_z w64 c.first_at-begin.result) ≡ c.first_at-begin.result = search rules in
    let first : c.first_at-begin.result ≡ first_at c.args.spans.now k = search rules in
    subst (AreFrom files display c.args.window (option_map (λ key. key_rank key.now) c.args.after) (seen version)) (sym (fits ∙ first))
    (come-first files display c.args.window (map seen vs) c.args.spans.now c.requires.spans.are k (slice_get-map seen vs k ∙ ap (option_map seen) there)
    (option_map (λ key. key_rank key.now) c.args.after) c.requires.spans.started)
