use Rattle.std.proofs.Common.{◌≡◌, ◌∙◌, ◌≤ℤ◌, ℤ, List, Some, arith, rules, map, slice_get, w64, to_z, of_z, refl, sym, ap, subst, option_map}
use Rattle.std.specs.Global.{Box}
use Rattle.std.specs.Int.{int_max}
use Rattle.std.proofs.lemmas.Int.{int_max_is, ints, to_z-of_z}
use Rattle.std.proofs.lemmas.Option.{slice_get_read}
use Rattle.ics_file.specs.File.{said_by, IsEventOf}
use Rattle.ics_event.specs.declared.event.Event.{Event}
use Rattle.ics_continued.specs.declared.continued.Continued.{Continued}
use Rattle.ics_starts.specs.Clocks.{display_clock}
use Rattle.ics_listing.specs.Entry.{key_rank}
use Rattle.ics_listing.specs.Listing.{IsIn}
use Rattle.ics_series.specs.Inner.Kept.{IsMasterSeries, IsSeriesOf}
use Rattle.ics_series.specs.Inner.Masters.{named_by, AreFrom, IsBehind, IsSince, Recurs}
use Rattle.ics_series.specs.Chosen.{SubjectSeen}
use Rattle.ics_series.specs.PlacedEvents.{Placed}
use Rattle.ics_series.specs.Replaced.{AreReplaced}
use Rattle.ics_starts.specs.RuleMarks.{IsMarkOf}
use Rattle.ics_starts.specs.declared.mark.Mark.{Mark}
use Rattle.ics_listing.specs.FeedSources.{Recurring}
use Rattle.ics_series.specs.Versions.{seen}
use Rattle.ics_starts.specs.FileZones.{clocks_in}
use Rattle.ics_series.proofs.VersionLemmas.{map-in, stands}
use Rattle.ics_listing.proofs.ListingLemmas.{get-in}
use Rattle.ics_series.proofs.OverrideLemmas.{chosen-rises}
use Rattle.ics_series.proofs.ReplacedLemmas.{are-replaced, named-among}
use Rattle.ics_starts.specs.Exclusions.{is_among}
use Rattle.ics_listing.proofs.Cases.{some-same}
use Rattle.ics_series.proofs.AgainLemmas.{again-clocks, again-event, again-listing, again-replaced, again-source}
use Rattle.ics_series.proofs.RecurringLemmas.{behind, come-since, not-single, own, own-event, own-master, own-subject, series-listing, IsRead}
use Rattle.ics_series.proofs.SourceLemmas.{from-later}
use Rattle.ics_series.proofs.MarkLemmas.{first_source, mark-at, mark-of}
use Rattle.ics_starts.proofs.ZoneLemmas.{own-event as own-zones}
use Rattle.ics_series.proofs.masters.series_at.Goals as goal
use Rattle.ics_series.proofs.masters.series_at.Goals.{After-take_kept}

here : (c : After-take_kept) → slice_get c.args.chosen.now c.args.place ≡ Some c.index-chosen-place.result
here c = slice_get_read c.args.chosen.now _ c.args.place c.index-chosen-place.result refl c.requires.within c.index-chosen-place.is

abbrev there : (c : After-take_kept) → IsIn (seen c.index-chosen-place.result) (map seen c.args.chosen.now)
there c = map-in seen c.index-chosen-place.result c.args.chosen.now (get-in c.index-chosen-place.result c.args.chosen.now c.args.place (here c))

abbrev recurs : (c : After-take_kept) → Recurs (map said_by c.args.files.now) (seen c.index-chosen-place.result)
recurs c = record { event = c.event-event.result.now; stands = c.event-event.ensures.event; recurs = sym c.is_single.ensures ∙ c.if-is_single.false }

read : (c : After-take_kept) → IsRead (map said_by c.args.files.now) (display_clock c.args.display.now) (seen c.index-chosen-place.result)
    c.event-event.result.now c.zones-zones.result
read c = record { clocks = c.zones-zones.ensures.clocks; is_event = search rules }

-- the instant from which on the occurrences are asked for
abbrev least : After-take_kept → ℤ
least c = to_z w64 (of_z w64 c.max-since.result)

least-is : (c : After-take_kept) → least c ≡ int_max c.since_of.result c.args.begin
least-is c =
    let fits : to_z w64 (of_z w64 c.since_of.result) ≡ c.since_of.result = search rules in
    let given : to_z w64 (of_z w64 c.args.begin) ≡ c.args.begin = search rules in
    to_z-of_z w64 c.max-since.result (record { sfits = c.max-since.type_inv }) ∙ (c.max-since.ensures.value ∙ (λ i. int_max (fits i) (given i)))

late : (c : After-take_kept) → c.since_of.result ≤ℤ least c
late c = omega (arith, ints, least-is c, int_max_is c.since_of.result c.args.begin)

since : (c : After-take_kept) → IsSince (option_map (λ key. key_rank key.now) c.args.after) c.event-event.result.now.uid c.since_of.result
since c =
    let uid : c.as_slice.result.now ≡ c.event-event.result.now.uid = c.as_slice.ensures ∙ ap (λ (e : Event). e.uid) c.event.view_is in
    rw uid at c.since_of.ensures.since

-- none that is to come is earlier
first : (c : After-take_kept) → AreFrom (map said_by c.args.files.now) (display_clock c.args.display.now) c.args.window
    (option_map (λ key. key_rank key.now) c.args.after) (seen c.index-chosen-place.result) (least c)
first c o v low =
    let after = option_map (λ key. key_rank key.now) c.args.after in
    let come = come-since (recurs c) (read c) c.args.window after c.since_of.result (since c) o v in
    let begin = c.requires.begin c.index-chosen-place.result (here c) o v low in
    omega (arith, ints, least-is c, int_max_is c.since_of.result c.args.begin, come, begin)

-- of those that begin at the instant or later each comes after the key
behind-least : (c : After-take_kept) → IsBehind (map said_by c.args.files.now) (display_clock c.args.display.now) c.args.window
    (option_map (λ key. key_rank key.now) c.args.after) (seen c.index-chosen-place.result) (least c)
behind-least c =
    behind (recurs c) (read c) c.args.window (option_map (λ key. key_rank key.now) c.args.after) c.since_of.result (since c) (late c)

own-marks : (c : After-take_kept) (m : Mark) → slice_get c.args.marks.now c.args.place ≡ Some (Some m) → IsMarkOf c.event-event.result.now (Some m)
own-marks c m at =
    mark-of (map said_by c.args.files.now) (map seen c.args.chosen.now) c.args.chosen.now refl c.args.place (Some m) c.args.marks.now c.requires.marks at
    c.index-chosen-place.result c.event-event.result.now (here c) c.event-event.ensures.event

-- the master that the version is of
abbrev by : After-take_kept → Placed
by c = (own c.requires.chosen (there c) (recurs c)).0

-- a series that rested is that of the version's master
rested : (c : After-take_kept) (held : Box Continued) → c.take_kept.result ≡ Some held → (given : Continued) → given ≡ held.value
    → IsMasterSeries (map said_by c.args.files.now) (display_clock c.args.display.now) (by c) given
rested c held is given same =
    let files = map said_by c.args.files.now in
    let display = display_clock c.args.display.now in
    let master = own-master c.requires.chosen (there c) (recurs c) in
    let known = c.take_kept.ensures.of files display c.requires.kept (by c) master (own-event c.requires.chosen (there c) (recurs c)) in
    let mine : IsMasterSeries files display (by c) held.value = subst (IsSeriesOf files display (by c)) is known in
    subst (IsMasterSeries files display (by c)) (sym same) mine

-- what overrides replace of the version's event
replaced-are : (c : After-take_kept) {replaced : List ℤ} → replaced ≡ named_by c.index-chosen-place.result.subject.uid.now (map seen c.args.chosen.now)
    → AreReplaced (map said_by c.args.files.now) (display_clock c.args.display.now) c.event-event.result.now.uid replaced
replaced-are c is =
    let uid = c.event-event.result.now.uid in
    let mine = own-subject c.requires.chosen (there c) (recurs c) in
    let named = is ∙ ap (λ (s : SubjectSeen). named_by s.uid (map seen c.args.chosen.now)) mine in
    are-replaced (map said_by c.args.files.now) (display_clock c.args.display.now) c.args.chosen.now c.requires.chosen uid
    (λ t. ap (λ xs. is_among xs t) named ∙ named-among uid t (map seen c.args.chosen.now))

pub event-event-requires : goal.event-event-requires
event-event-requires c =
    stands c.args.place c.requires.chosen
    (slice_get_read c.args.chosen.now _ c.args.place c.index-chosen-place.result refl c.requires.within c.index-chosen-place.is)

pub returns-then-is_single-clause-series : goal.returns-then-is_single-clause-series
returns-then-is_single-clause-series c = λ version at.
    let here = slice_get_read c.args.chosen.now _ c.args.place c.index-chosen-place.result refl c.requires.within c.index-chosen-place.is in
    not-single (some-same c.index-chosen-place.result version (sym here ∙ at)) c.event-event.ensures.event (sym c.is_single.ensures ∙ c.if-is_single.true)

-- A series that is begun again.
pub again-requires : goal.again-requires
again-requires c =
    let t = (goal.at.again-requires c).After-take_kept in
    let mine = rested t c.in-Some.series c.in-Some.is c.deref_mut.result.now c.deref_mut.ensures.value in
    let event = again-event c.requires.chosen (there t) (recurs t) c.deref_mut.result.now mine in
    record {
      mark = mark-at c.deref_mut.result.now.series.event.now c.args.marks.now c.args.place _
          (λ m at. subst (λ (e : Event). IsMarkOf e (Some m)) (sym event) (own-marks t m at)) c.mark_at-mark.ensures;
    }

pub returns-in_err-again-clause-kept : goal.returns-in_err-again-clause-kept
returns-in_err-again-clause-kept c =
    c.take_kept.ensures.rest (map said_by c.args.files.now) (display_clock c.args.display.now) c.requires.kept

pub returns-in-Some-clause-kept : goal.returns-in-Some-clause-kept
returns-in-Some-clause-kept c =
    c.take_kept.ensures.rest (map said_by c.args.files.now) (display_clock c.args.display.now) c.requires.kept

pub returns-in-Some-clause-series : goal.returns-in-Some-clause-series
returns-in-Some-clause-series c = λ version at.
    let t = (goal.at.returns-in-Some-clause-series c).After-take_kept in
    let old = c.deref_mut.result.now in
    let mine = rested t c.in-Some.series c.in-Some.is c.deref_mut.result.now c.deref_mut.ensures.value in
    rw (← some-same c.index-chosen-place.result version (sym (here t) ∙ at))
    (series-listing (recurs t) (read t) c.args.window (option_map (λ key. key_rank key.now) c.args.after) c.since_of.result (since t) (late t) (first t)
    (again-replaced c.requires.chosen (there t) (recurs t) old mine) (again-clocks c.requires.chosen (there t) (recurs t) old mine)
    (again-listing c.requires.chosen (there t) (recurs t) old mine c.args.window (least t) c.in_ok-again.ensures.listing))

pub returns-in-Some-clause-since : goal.returns-in-Some-clause-since
returns-in-Some-clause-since c = λ version at.
    let t = (goal.at.returns-in-Some-clause-since c).After-take_kept in
    rw (← some-same c.index-chosen-place.result version (sym (here t) ∙ at))
    (subst (IsBehind (map said_by c.args.files.now) (display_clock c.args.display.now) c.args.window (option_map (λ key. key_rank key.now) c.args.after)
    (seen c.index-chosen-place.result)) (sym c.in_ok-again.ensures.since) (behind-least t))

pub returns-in-Some-clause-sources : goal.returns-in-Some-clause-sources
returns-in-Some-clause-sources c = λ version at.
    let t = (goal.at.returns-in-Some-clause-sources c).After-take_kept in
    let old = c.deref_mut.result.now in
    let mine = rested t c.in-Some.series c.in-Some.is c.deref_mut.result.now c.deref_mut.ensures.value in
    let after = option_map (λ key. key_rank key.now) c.args.after in
    let sources = c.in_ok-again.ensures.sources in
    let from = from-later after c.since_of.ensures.from (omega (arith, ints, late t, sources.1)) in (
      record { clocks = clocks_in old.series.zones; event = old.series.event.now; window = c.args.window; since = sources.0; replaced = old.series.replaced },
      rw (← some-same c.index-chosen-place.result version (sym (here t) ∙ at))
          (again-source c.requires.chosen (there t) (recurs t) old mine c.args.window after sources.0 from),
      sources.2,
    )

-- A new one.
pub replaced_at-requires-clause-rises : goal.replaced_at-requires-clause-rises
replaced_at-requires-clause-rises c = chosen-rises c.requires.chosen

pub replaced_at-requires-clause-master : goal.replaced_at-requires-clause-master
replaced_at-requires-clause-master c = λ version at.
    let t = (goal.at.replaced_at-requires-clause-master c).After-take_kept in
    let same = some-same c.index-chosen-place.result version (sym (here t) ∙ at) in
    rw (← same) (ap (λ (s : SubjectSeen). s.recurrence) (own-subject c.requires.chosen (there t) (recurs t)))

pub returns-in_err-replaced-clause-kept : goal.returns-in_err-replaced-clause-kept
returns-in_err-replaced-clause-kept c =
    c.take_kept.ensures.rest (map said_by c.args.files.now) (display_clock c.args.display.now) c.requires.kept

pub new_series-requires-clause-own : goal.new_series-requires-clause-own
new_series-requires-clause-own c =
    own-zones c.zones-zones.result c.event-event.result.now (search rules)
    (subst (λ zs. IsEventOf zs c.event-event.result.now) (sym c.zones-zones.ensures.zones) c.event-event.ensures.own)

pub new_series-requires-clause-mark : goal.new_series-requires-clause-mark
new_series-requires-clause-mark c =
    let t = (goal.at.new_series-requires-clause-mark c).After-take_kept in
    mark-at c.event-event.result.now c.args.marks.now c.args.place _ (own-marks t) c.mark_at-mark.ensures

pub returns-in_err-series-clause-kept : goal.returns-in_err-series-clause-kept
returns-in_err-series-clause-kept c =
    c.take_kept.ensures.rest (map said_by c.args.files.now) (display_clock c.args.display.now) c.requires.kept

pub returns-clause-kept : goal.returns-clause-kept
returns-clause-kept c = c.take_kept.ensures.rest (map said_by c.args.files.now) (display_clock c.args.display.now) c.requires.kept

pub returns-clause-series : goal.returns-clause-series
returns-clause-series c = λ version at.
    let t = (goal.at.returns-clause-series c).After-take_kept in
    let replaced = replaced-are t (c.in_ok-replaced.ensures c.index-chosen-place.result (here t)) in
    rw (← some-same c.index-chosen-place.result version (sym (here t) ∙ at))
    (series-listing (recurs t) (read t) c.args.window (option_map (λ key. key_rank key.now) c.args.after) c.since_of.result (since t) (late t) (first t)
    replaced c.zones-zones.ensures.clocks c.in_ok-series.ensures.listing)

pub returns-clause-since : goal.returns-clause-since
returns-clause-since c = λ version at.
    let t = (goal.at.returns-clause-since c).After-take_kept in
    rw (← some-same c.index-chosen-place.result version (sym (here t) ∙ at))
    (subst (IsBehind (map said_by c.args.files.now) (display_clock c.args.display.now) c.args.window (option_map (λ key. key_rank key.now) c.args.after)
    (seen c.index-chosen-place.result)) (sym c.in_ok-series.ensures.since) (behind-least t))

pub returns-clause-come : goal.returns-clause-come
returns-clause-come c = λ none o m.
    let t = (goal.at.returns-clause-come c).After-take_kept in
    let from = ((c.in_ok-series.ensures.listing.exact o).0 m).1.0 in
    let source : Recurring = record {
      clocks = clocks_in c.zones-zones.result;
      event = c.event-event.result.now;
      window = c.args.window;
      since = least t;
      replaced = c.in_ok-replaced.replaced;
    } in
    let begins = ap (λ ms. (first_source source ms).since) c.in_ok-series.ensures.sources in
    omega (arith, ints, from, begins)

pub returns-clause-sources : goal.returns-clause-sources
returns-clause-sources c = λ version at.
    let t = (goal.at.returns-clause-sources c).After-take_kept in
    let after = option_map (λ key. key_rank key.now) c.args.after in (
      record {
        clocks = clocks_in c.zones-zones.result;
        event = c.event-event.result.now;
        window = c.args.window;
        since = least t;
        replaced = c.in_ok-replaced.replaced;
      },
      rw (← some-same c.index-chosen-place.result version (sym (here t) ∙ at))
          (record {
            stands = c.event-event.ensures.event;
            recurs = sym c.is_single.ensures ∙ c.if-is_single.false;
            clocks = c.zones-zones.ensures.clocks;
            window = refl;
            since = from-later after c.since_of.ensures.from (late t);
            replaced = replaced-are t (c.in_ok-replaced.ensures c.index-chosen-place.result (here t));
          }),
      c.in_ok-series.ensures.sources,
    )
