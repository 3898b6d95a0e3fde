use Rattle.std.proofs.Common.{◌∙◌, ap, subst, arith, Option, None, Some, MatchOption}
use Rattle.std.proofs.lemmas.Int.{ints}
use Rattle.ics_event.specs.Event.{IsRdate}
use Rattle.ics_fields.specs.Locals.{local_seconds}
use Rattle.ics_listing.proofs.Cases.{moment-back}
use Rattle.ics_listing.specs.FileClocks.{Clock}
use Rattle.ics_starts.specs.Clocks.{clock_of, IsStretched}
use Rattle.ics_starts.specs.FileZones.{clocks_in}
use Rattle.ics_starts.specs.declared.rule_starts.RuleStarts.{RuleStarts}
use Rattle.ics_zone.specs.declared.stretch.Stretch.{Stretch}
use Rattle.ics_starts.proofs.InstantLemmas.{written}
use Rattle.ics_starts.proofs.StretchLemmas.{seconds-of}
use Rattle.ics_starts.proofs.series.shown_at.Goals as goal

pub shown_at-requires : goal.shown_at-requires
shown_at-requires c =
    let stamp = c.in-Some-At.time.stamp in
    let time = subst IsRdate c.in-Some-At.is-1 c.requires in
    let years = written stamp time.years in
    let same = moment-back c.seconds.result c.seconds.type_inv in
    let at = same ∙ (c.seconds.ensures ∙ (ap (λ l. local_seconds l) c.local_of.ensures ∙ seconds-of stamp)) in
    (omega (arith, ints, at, years.0), omega (arith, ints, at, years.1))

-- what every clock shows so the clock of a rule does
each : (o : Option RuleStarts) (stretch : Stretch) → ((clock : Clock) → IsStretched clock stretch)
    → MatchOption o ((clock : Clock) → IsStretched clock stretch) (λ (s : RuleStarts). IsStretched (clock_of (clocks_in s.zones) s.event.now.start) stretch)
each None stretch h = h
each (Some s) stretch h = h (clock_of (clocks_in s.zones) s.event.now.start)

pub returns-in_default : goal.returns-in_default
returns-in_default c = each c.args.rule.now c.no_stretch.result c.no_stretch.ensures
