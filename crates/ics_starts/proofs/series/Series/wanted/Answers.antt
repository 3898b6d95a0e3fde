use Rattle.std.proofs.Common.{◌≡◌, ◌<ℤ◌, ◌≤ℤ◌, ℤ, Bool, true, false, ◌&&◌, ◌||◌, not, int_le, if◌then◌else◌, List, w64, to_z, of_z, None, Some}
use Rattle.std.proofs.Common.{option_map, sym, ◌∙◌, ap, subst, arith, rules}
use Rattle.std.proofs.lemmas.Int.{ints}
use Rattle.std.proofs.lemmas.Option.{cond_some}
use Rattle.ics_event.specs.declared.event.Event.{Event}
use Rattle.ics_listing.specs.declared.occurrence.Occurrence.{Occurrence}
use Rattle.ics_listing.specs.declared.start.Start.{Start}
use Rattle.ics_listing.specs.declared.window.Window.{Window}
use Rattle.ics_listing.specs.FileClocks.{Clocks}
use Rattle.ics_starts.specs.Clocks.{instant}
use Rattle.ics_listing.specs.Entry.{Entry, entry_of}
use Rattle.ics_starts.specs.Exclusions.{is_among, is_excluded}
use Rattle.ics_starts.specs.Found.{met_by}
use Rattle.ics_starts.specs.Meeting.{entry_from}
use Rattle.ics_listing.specs.WindowMeeting.{is_met}
use Rattle.ics_starts.specs.SeriesStarts.{is_left_out, wanted_by}
use Rattle.ics_listing.specs.StartTimes.{time_of}
use Rattle.ics_starts.specs.FileZones.{clocks_in}
use Rattle.ics_starts.proofs.MeetsLemmas.{is_met-meets}
use Rattle.ics_zone.proofs.Cases.{true_int_le}
use Rattle.ics_starts.proofs.series.Series.wanted.Goals as goal

module _ (clocks : Clocks) (w : Window) (event : Event) (since : ℤ) (replaced : List ℤ) (s : Start) where
  abbrev from : Entry
  from = entry_from clocks event s.given

  -- where others replace it, nothing is wanted
  given-up : is_among replaced from.start ≡ true → wanted_by clocks w event since replaced s ≡ None
  given-up e = by (int_le since from.start) (is_met w from) (is_excluded clocks event from.start) (is_among replaced from.start) e
    where
      by : (a b c d : Bool) → d ≡ true → (if a && (b && not (c || d)) then Some from else None) ≡ None
      by a b c d e = grind arith

  unmet : met_by clocks w event s ≡ None → wanted_by clocks w event since replaced s ≡ None
  unmet e = by (int_le since from.start) (is_met w from) (is_left_out clocks event replaced from.start) e
    where
      by : (a b c : Bool) → (if b then Some from else None) ≡ None → (if a && (b && not c) then Some from else None) ≡ None
      by a b c e = grind arith

  -- of what meets the window and is not too early, all is wanted that others do not replace but what an EXDATE takes out
  not-out : {out : Bool} → since ≤ℤ from.start → is_among replaced from.start ≡ false → is_excluded clocks event from.start ≡ out →
      wanted_by clocks w event since replaced s ≡ (if out then None else met_by clocks w event s)
  not-out {out = out} late apart e =
      (λ i. if true_int_le since from.start late i && (is_met w from && not (e i || apart i)) then Some from else None) ∙ by (is_met w from) out
    where
      by : (b c : Bool) → (if b && not (c || false) then Some from else None) ≡ (if c then None else if b then Some from else None)
      by b c = grind arith

  -- an occurrence that meets the window
  module _ (o : Occurrence) (met : Some (entry_of o) ≡ met_by clocks w event s) where
    begun : (o.start ≡ from.start) × (o.start <ℤ w.to)
    begun =
        let is = cond_some (is_met w from) from (entry_of o) (sym met) in
        let same : o.start ≡ instant clocks (time_of s.given) = ap (λ (e : Entry). e.start) (sym is.1) in
        let meets = is_met-meets w from is.0 in
        (same, omega (arith, ints, same, meets.begun))

    excluded : {out : Bool} → out ≡ is_excluded clocks event (to_z w64 (of_z w64 o.start)) → is_excluded clocks event from.start ≡ out
    excluded e =
        let fits : to_z w64 (of_z w64 o.start) ≡ o.start = omega (arith, ints, o.not_early, o.forward, o.not_late) in
        sym (e ∙ ap (is_excluded clocks event) (fits ∙ begun.0))

pub returns-then-names : goal.returns-then-names
returns-then-names c =
    let s = c.args.self.now in
    let fits : to_z w64 (of_z w64 c.args.start.moment) ≡ c.args.start.moment = search rules in
    sym (given-up (clocks_in s.zones) s.window s.event.now s.since s.replaced c.args.start
    (subst (λ t. is_among s.replaced t ≡ true) (fits ∙ c.requires.start.moment) (sym c.names.ensures ∙ c.if-names.true)))

pub returns-in_err-occurrence : goal.returns-in_err-occurrence
returns-in_err-occurrence c =
    let s = c.args.self.now in
    ap (option_map entry_of) c.from_residual.ensures
    ∙ sym (unmet (clocks_in s.zones) s.window s.event.now s.since s.replaced c.args.start (sym c.in_err-occurrence.ensures))

pub is_removed-requires-clause-early : goal.is_removed-requires-clause-early
is_removed-requires-clause-early c =
    let s = c.args.self.now in
    let start = begun (clocks_in s.zones) s.window s.event.now s.since s.replaced c.args.start c.in_ok-occurrence.occurrence
    c.in_ok-occurrence.ensures in
    omega (arith, ints, c.type_inv.occurrence, start.1, s.window.not_late)

pub returns-then-is_removed : goal.returns-then-is_removed
returns-then-is_removed c =
    let s = c.args.self.now in
    let out = excluded (clocks_in s.zones) s.window s.event.now s.since s.replaced c.args.start c.in_ok-occurrence.occurrence
    c.in_ok-occurrence.ensures c.is_removed.ensures in
    let fits : to_z w64 (of_z w64 c.args.start.moment) ≡ c.args.start.moment = search rules in
    sym (not-out (clocks_in s.zones) s.window s.event.now s.since s.replaced c.args.start
    (omega (arith, ints, c.requires.start.moment, c.if-start-self.false))
    (subst (λ t. is_among s.replaced t ≡ false) (fits ∙ c.requires.start.moment) (sym c.names.ensures ∙ c.if-names.false))
    (out ∙ c.if-is_removed.true))

pub returns-else-is_removed : goal.returns-else-is_removed
returns-else-is_removed c =
    let s = c.args.self.now in
    let out = excluded (clocks_in s.zones) s.window s.event.now s.since s.replaced c.args.start c.in_ok-occurrence.occurrence
    c.in_ok-occurrence.ensures c.is_removed.ensures in
    let fits : to_z w64 (of_z w64 c.args.start.moment) ≡ c.args.start.moment = search rules in
    c.in_ok-occurrence.ensures ∙ sym (not-out (clocks_in s.zones) s.window s.event.now s.since s.replaced c.args.start
    (omega (arith, ints, c.requires.start.moment, c.if-start-self.false))
    (subst (λ t. is_among s.replaced t ≡ false) (fits ∙ c.requires.start.moment) (sym c.names.ensures ∙ c.if-names.false))
    (out ∙ c.if-is_removed.false))
