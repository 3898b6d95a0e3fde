-- Locals at which all is removed may be passed over.
use Rattle.std.proofs.Common.{◌≡◌, ℕ, Bool, ◌&&◌, ◌||◌, true, false, not, if◌then◌else◌, Some, None, sym, ◌∙◌, ap, arith, int_le}
use Rattle.ics_event.specs.declared.event.Event.{Event}
use Rattle.ics_rule.specs.Kept.{is_kept}
use Rattle.ics_starts.specs.declared.rule_starts.RuleStarts.{RuleStarts}
use Rattle.ics_starts.specs.declared.series.Series.{Series}
use Rattle.ics_listing.specs.declared.start.Start.{Start}
use Rattle.ics_starts.specs.Clocks.{clock_of, instant}
use Rattle.ics_listing.specs.FileClocks.{Clocks}
use Rattle.ics_listing.specs.Entry.{Entry}
use Rattle.ics_starts.specs.Exclusions.{is_among, is_excluded, takes_out}
use Rattle.ics_starts.specs.FileZones.{clocks_in}
use Rattle.ics_starts.specs.Meeting.{entry_from}
use Rattle.ics_listing.specs.WindowMeeting.{is_met}
use Rattle.ics_starts.specs.RuleFeed.{IsTakenOut}
use Rattle.ics_starts.specs.RuleStarts.{moment_numbered}
use Rattle.ics_starts.specs.SeriesStarts.{wanted_by}
use Rattle.ics_listing.specs.StartTimes.{time_of}
use Rattle.ics_starts.proofs.PassedLemmas.{own-of, IsTest}
use Rattle.ics_starts.proofs.RuleDayLemmas.{given-parts}

module _ (s : Series) where
  abbrev clocks : Clocks
  clocks = clocks_in s.zones

  abbrev event : Event
  event = s.event.now

  -- what is passed over is removed
  removed : (a : RuleStarts) → s.rule_starts ≡ Some a → (n : ℕ) → IsTakenOut s.exclusions.instants.items s.exclusions.days.items a n
      → is_kept a.rule n ≡ true → is_excluded clocks event (moment_numbered clocks event n) ≡ true
  removed a is n out kept =
      let own = own-of s a is in
      let instants = s.exclusions.instants.items in
      let days = s.exclusions.days.items in
      let same : takes_out (clock_of (clocks_in a.zones) a.event.now.start) instants days (moment_numbered (clocks_in a.zones) a.event.now n)
      ≡ takes_out (clock_of clocks event.start) instants days (moment_numbered clocks event n) =
      λ i. takes_out (clock_of (clocks_in (own.zones_are i)) (own.event_is i).start) instants days
      (moment_numbered (clocks_in (own.zones_are i)) (own.event_is i) n) in
      s.taken_out.only (moment_numbered clocks event n) (sym same ∙ out kept)

  abbrev own-entry : Start → Entry
  own-entry t = entry_from clocks event t.given

  unwanted : (t : Start) → t.moment ≡ instant clocks (time_of t.given) → not (is_excluded clocks event t.moment) ≡ false
      → wanted_by clocks s.window event s.since s.replaced t ≡ None
  unwanted t at e =
      by (int_le s.since (own-entry t).start) (is_met s.window (own-entry t)) (is_excluded clocks event (own-entry t).start)
      (is_among s.replaced (own-entry t).start) (ap (λ m. not (is_excluded clocks event m)) (sym at) ∙ e)
    where
      by : (x y z v : Bool) → not z ≡ false → (if x && (y && not (z || v)) then Some (own-entry t) else None) ≡ None
      by x y z v e = grind arith

  pub removed-test : IsTest s (IsTakenOut s.exclusions.instants.items s.exclusions.days.items) (λ t. not (is_excluded clocks event t))
  removed-test = record {
    out = λ a is n out g. ap not (removed a is n out (given-parts s.zones event a.rule s.window n g).0);
    unwanted = λ t at from e. unwanted t at e;
  }
