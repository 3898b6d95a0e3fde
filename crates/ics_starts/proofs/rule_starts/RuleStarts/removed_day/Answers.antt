use Rattle.std.proofs.Common.{◌-ℤ◌, pos, subst, rules, arith, w64, SFits}
use Rattle.std.proofs.lemmas.Int.{ints}
use Rattle.ics_fields.specs.Locals.{year_number}
use Rattle.ics_event.specs.declared.event.Event.{Event}
use Rattle.ics_starts.specs.Clocks.{clock_of, AreSpansOf}
use Rattle.ics_starts.specs.FileZones.{clocks_in}
use Rattle.ics_starts.proofs.SettledLemmas.{no-date}
use Rattle.ics_starts.proofs.RuleStepLemmas.{told-known}
use Rattle.ics_starts.proofs.TakenLemmas.{day-taken}
use Rattle.ics_starts.proofs.rule_starts.RuleStarts.removed_day.Goals as goal

pub returns-in-Date-clause-removed : goal.returns-in-Date-clause-removed
returns-in-Date-clause-removed c = λ n l u. let from : SFits w64 c.args.local = c.ranges.local in absurd (omega (arith, ints, l, u))

pub returns-in_default-clause-removed : goal.returns-in_default-clause-removed
returns-in_default-clause-removed c = λ n l u.
    let s = c.args.self.now in
    let from : SFits w64 c.args.local = c.ranges.local in
    let fits : SFits w64 c.skips_in.result = search rules in
    day-taken s c.args.exclusions.now.instants.items c.args.exclusions.now.days.items (no-date c.event.view_is c.in_default.not-Date) n
    (c.skips_in.ensures (clock_of (clocks_in s.zones) s.event.now.start) (told-known s c.event.view_is c.keep_stretch.ensures.stretch)
    (pos n -ℤ pos (year_number 1_970)) (omega (arith, ints, l)) (omega (arith, ints, u)))

pub invariant_of-self : goal.invariant_of-self
invariant_of-self c =
    let s = c.args.self.now in
    let Are = λ (v : Event). AreSpansOf (clock_of (clocks_in s.zones) v.start) c.keep_stretch.new.spans in
    record {
      rule_of = s.rule_of;
      rises = s.rises;
      are = s.are;
      past_end = s.past_end;
      stretched = told-known s c.event.view_is c.keep_stretch.ensures.stretch;
      spanned = subst Are c.event.view_is c.keep_stretch.ensures.spans;
      own = s.own;
      looked = s.looked;
      placed = s.placed;
      known = s.known;
      reached = s.reached;
      early = s.early;
      none = s.none;
      none_day = s.none_day;
    }
