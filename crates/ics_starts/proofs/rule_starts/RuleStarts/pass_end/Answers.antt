use Rattle.std.proofs.Common.{◌≡◌, ◌≤◌, ◌<ℤ◌, ◌≤ℤ◌, ◌∙◌, ℕ, ℤ, false, refl, ap, w64, to_z, of_z, arith}
use Rattle.std.proofs.lemmas.Int.{int_min_is, ints}
use Rattle.ics_fields.specs.Days.{IsDayNumber}
use Rattle.ics_fields.specs.Locals.{day_of_local, local_seconds, midnight, number}
use Rattle.ics_listing.proofs.NearLemmas.{day-under}
use Rattle.ics_listing.proofs.StartOrderLemmas.{number-seconds}
use Rattle.ics_rule.specs.Cursors.{place_of}
use Rattle.ics_starts.specs.declared.rule_starts.RuleStarts.{RuleStarts}
use Rattle.ics_starts.specs.FileZones.{clocks_in}
use Rattle.ics_starts.specs.RuleFeed.{held_in, IsPast}
use Rattle.ics_starts.specs.RuleStarts.{gives, to_come}
use Rattle.ics_period.specs.PeriodNumbers.{rules_end}
use Rattle.ics_starts.proofs.PassedLemmas.{by-test}
use Rattle.ics_starts.proofs.QuietLemmas.{beyond-past}
use Rattle.ics_starts.proofs.RuleDayLemmas.{come-skipped, given-parts, number-day}
use Rattle.ics_starts.proofs.RuleStepLemmas.{end-back, end-days, next-years}
use Rattle.ics_starts.proofs.rule_starts.RuleStarts.pass_end.Goals as goal

-- a local past the window's end gives nothing
none-given : (s : RuleStarts) (n : ℕ) {u : ℤ} → IsPast s.window.to u s n → gives (clocks_in s.zones) s.event.now s.rule s.window n ≡ false
none-given s n past =
    by-test (gives (clocks_in s.zones) s.event.now s.rule s.window n)
    (λ g. let early = (given-parts s.zones s.event.now s.rule s.window n g).2 in absurd (omega (arith, ints, early, past.first))) (λ e. e)

-- a local after the next one and before the end is of the years 0000 to 9999
ended-day : (s : RuleStarts) {last day : ℤ} → s.next <ℤ last → last ≤ℤ midnight s.end → day ≡ day_of_local last → IsDayNumber day
ended-day s {last = last} {day = day} late early is =
    let under = day-under last day is in
    (omega (arith, ints, under.1, late, next-years s), omega (arith, ints, under.0, early, end-days s))

pub of_seconds-requires : goal.of_seconds-requires
of_seconds-requires c =
    let s = c.args.self.now in
    let last = c.min-last in
    let end = end-back s c.at.ensures c.seconds-end.ensures in (
      omega (arith, ints, int_min_is, last.ensures.value, last.type_inv, c.if-self-last.true, next-years s),
      omega (arith, ints, int_min_is, last.ensures.value, last.type_inv, end, end-days s),
    )

pub pass-requires-clause-day : goal.pass-requires-clause-day
pass-requires-clause-day c =
    let s = c.args.self.now in
    let last = c.min-last in
    let end = end-back s c.at.ensures c.seconds-end.ensures in
    ended-day s (omega (arith, ints, c.if-self-last.true, next-years s)) (omega (arith, ints, int_min_is, last.ensures.value, last.type_inv, end, end-days s))
    c.of_seconds.ensures.day

pub overflow_cast-last : goal.overflow_cast-last
overflow_cast-last c =
    let s = c.args.self.now in
    omega (arith, ints, c.if-self-last.true, next-years s)

pub invariant_of-self : goal.invariant_of-self
invariant_of-self c =
    let s = c.args.self.now in
    let last = c.min-last in
    let past = c.past_end-past in
    let end = end-back s c.at.ensures c.seconds-end.ensures in
    let later : s.next <ℤ to_z w64 (of_z w64 c.min-last.result) = omega (arith, ints, c.if-self-last.true, next-years s) in
    let before : to_z w64 (of_z w64 c.min-last.result) ≤ℤ c.past_end-past.result =
    omega (arith, ints, int_min_is, last.ensures.value, last.type_inv, past.type_inv) in
    let early : to_z w64 (of_z w64 c.min-last.result) ≤ℤ midnight s.end =
    omega (arith, ints, int_min_is, last.ensures.value, last.type_inv, end, end-days s) in
    let at = number-seconds c.of_seconds.result (ended-day s later early c.of_seconds.ensures.day) in
    let seconds : local_seconds c.of_seconds.result ≡ to_z w64 (of_z w64 c.min-last.result) = c.of_seconds.ensures.value in
    let place = c.pass.ensures.place in
    record {
      rule_of = s.rule_of;
      rises = s.rises;
      are = s.are;
      past_end = beyond-past s (λ n l u. (past.ensures n l (omega (arith, ints, l, u, place, at, seconds, before))).second);
      stretched = s.stretched;
      spanned = s.spanned;
      own = rw c.get.ensures at c.pass.ensures.own;
      looked = λ before m. (rw c.get.ensures at c.pass.ensures.looked) _ before (s.looked before m);
      placed = omega (arith, ints, s.placed, place, at, seconds, c.max-self.ensures);
      known = s.known;
      reached = record {
        read = omega (arith, s.reached.read, place);
        next_read = omega (arith, ints, s.reached.next_read, place, at, seconds);
        next_on = omega (arith, ints, s.reached.next_on, later);
        low = s.reached.low;
        on = s.reached.on;
        soon = s.reached.soon;
        by_end = s.reached.by_end;
      };
      early = s.early;
      none = s.none;
      none_day = s.none_day;
    }

pub returns-then-self-last : goal.returns-then-self-last
returns-then-self-last c =
    let s = c.args.self.now in
    let last = c.min-last in
    let past = c.past_end-past in
    let end = end-back s c.at.ensures c.seconds-end.ensures in
    let later : s.next <ℤ to_z w64 (of_z w64 c.min-last.result) = omega (arith, ints, c.if-self-last.true, next-years s) in
    let before : to_z w64 (of_z w64 c.min-last.result) ≤ℤ c.past_end-past.result =
    omega (arith, ints, int_min_is, last.ensures.value, last.type_inv, past.type_inv) in
    let early : to_z w64 (of_z w64 c.min-last.result) ≤ℤ midnight s.end =
    omega (arith, ints, int_min_is c.past_end-past.result c.seconds-end.result, last.ensures.value, last.type_inv, end, end-days s) in
    let at = number-seconds c.of_seconds.result (ended-day s later early c.of_seconds.ensures.day) in
    let seconds : local_seconds c.of_seconds.result ≡ to_z w64 (of_z w64 c.min-last.result) = c.of_seconds.ensures.value in
    let place = c.pass.ensures.place in
    let within : number c.of_seconds.result ≤ rules_end = omega (arith, ints, at, seconds, early, number-day s.end (end-days s), s.early) in
    record {
      same = ap (to_come (clocks_in s.zones) s.event.now s.rule s.window (held_in s)) place
          ∙ come-skipped (clocks_in s.zones) s.event.now s.rule s.window (held_in s) (place_of s.cursor) (number c.of_seconds.result) within
          (λ n l u. none-given s n (past.ensures n l (omega (arith, ints, u, at, seconds, before))));
      source = record { zones = refl; event = refl; window = refl; rule = refl; from = refl; end = refl };
      less = omega (arith, place);
    }

pub returns-else-self-last : goal.returns-else-self-last
returns-else-self-last c = record {
  same = refl;
  source = record { zones = refl; event = refl; window = refl; rule = refl; from = refl; end = refl };
  less = omega arith;
}

pub returns-then-self : goal.returns-then-self
returns-then-self c = record {
  same = refl;
  source = record { zones = refl; event = refl; window = refl; rule = refl; from = refl; end = refl };
  less = omega arith;
}
