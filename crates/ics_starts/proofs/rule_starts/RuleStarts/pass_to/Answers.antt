use lib.IntN.{nat_abs}
use Rattle.std.proofs.Common.{◌≡◌, ◌∙◌, ◌+ℤ◌, ◌-ℤ◌, ◌<ℤ◌, ◌≤ℤ◌, ℕ, ℤ, max, pos, refl, sym, arith, w64, to_z, of_z, SFits}
use Rattle.std.proofs.lemmas.Int.{int_min_is, ints}
use Rattle.ics_fields.specs.Locals.{local_seconds, number}
use Rattle.ics_starts.specs.declared.rule_starts.RuleStarts.{RuleStarts}
use Rattle.ics_starts.proofs.QuietLemmas.{beyond-passed}
use Rattle.ics_starts.proofs.RuleStepLemmas.{next-years, passed-day}
use Rattle.ics_listing.proofs.StartOrderLemmas.{number-seconds}
use Rattle.ics_starts.proofs.rule_starts.RuleStarts.pass_to.Goals as goal

-- the window's end, as it is read back
window-back : (s : RuleStarts) → to_z w64 (of_z w64 s.window.to) ≡ s.window.to
window-back s = omega (arith, ints, s.window.ordered, s.window.not_early, s.window.not_late)

-- the number of a local, by its seconds
number-back : (at : ℤ) (n : ℕ) → (pos 0 -ℤ pos 62_167_219_200) ≤ℤ at → at ≤ℤ pos 1_000_000_000_000 → pos n ≡ at +ℤ pos 62_167_219_200
    → nat_abs (to_z w64 (of_z w64 (at +ℤ pos 62_167_219_200))) ≡ n
number-back at n low high e = omega (arith, ints, low, high, e)

pub end_before-end-requires : goal.end_before-end-requires
end_before-end-requires c =
    let s = c.args.self.now in
    let w = s.window in (
      omega (arith, ints, window-back s, w.ordered, w.not_early, w.not_late),
      omega (arith, ints, window-back s, w.ordered, w.not_early, w.not_late),
    )

pub of_seconds-requires : goal.of_seconds-requires
of_seconds-requires c =
    let s = c.args.self.now in
    let last = c.min-last in
    let near = c.end_before-end.ensures.near in (
      omega (arith, ints, int_min_is, last.ensures.value, last.type_inv, c.if-self-last.true, next-years s),
      omega (arith, ints, int_min_is, last.ensures.value, last.type_inv, c.end_before-end.type_inv, near, window-back s, s.window.not_late),
    )

pub pass-requires-clause-day : goal.pass-requires-clause-day
pass-requires-clause-day c =
    let s = c.args.self.now in
    let last = c.min-last in
    let end = c.end_before-end in
    passed-day s (omega (arith, ints, c.if-self-last.true, next-years s))
    (omega (arith, ints, int_min_is, last.ensures.value, last.type_inv, end.type_inv, end.ensures.near, window-back s)) c.of_seconds.ensures.day

pub overflow_cast-last : goal.overflow_cast-last
overflow_cast-last c =
    let s = c.args.self.now in
    omega (arith, ints, c.if-self-last.true, next-years s)

pub invariant_of-self : goal.invariant_of-self
invariant_of-self c =
    let s = c.args.self.now in
    let last = c.min-last in
    let end = c.end_before-end in
    let later : s.next <ℤ to_z w64 (of_z w64 c.min-last.result) = omega (arith, ints, c.if-self-last.true, next-years s) in
    let before : to_z w64 (of_z w64 c.min-last.result) ≤ℤ c.end_before-end.result =
    omega (arith, ints, int_min_is, last.ensures.value, last.type_inv, end.type_inv) in
    let early : to_z w64 (of_z w64 c.min-last.result) ≤ℤ (s.window.to +ℤ pos 93_599) = omega (arith, ints, before, end.ensures.near, window-back s) in
    let day = passed-day s later early c.of_seconds.ensures.day in
    let at = number-seconds c.of_seconds.result day in
    let seconds : local_seconds c.of_seconds.result ≡ to_z w64 (of_z w64 c.min-last.result) = c.of_seconds.ensures.value in
    let place = c.pass.ensures.place in
    let low : (pos 0 -ℤ pos 62_167_219_200) ≤ℤ to_z w64 (of_z w64 c.min-last.result) = omega (arith, ints, later, next-years s) in
    let high : to_z w64 (of_z w64 c.min-last.result) ≤ℤ pos 1_000_000_000_000 = omega (arith, ints, early, s.window.not_late) in
    let there : pos (number c.of_seconds.result) ≡ to_z w64 (of_z w64 c.min-last.result) +ℤ pos 62_167_219_200 = omega (arith, ints, at, seconds) in
    record {
      rule_of = s.rule_of;
      rises = s.rises;
      are = s.are;
      past_end = beyond-passed s
          (λ n l u.
          let moment = end.ensures.early n l (omega (arith, ints, l, u, place, at, seconds, before)) in
          omega (arith, ints, moment, window-back s));
      stretched = s.stretched;
      spanned = s.spanned;
      own = rw c.get.ensures at c.pass.ensures.own;
      looked = λ before m. (rw c.get.ensures at c.pass.ensures.looked) _ before (s.looked before m);
      placed = c.max-self.ensures ∙ ((λ i. max (s.placed i) (number-back (to_z w64 (of_z w64 c.min-last.result)) (number c.of_seconds.result) low high there i))
          ∙ sym place);
      known = s.known;
      reached = record {
        read = omega (arith, s.reached.read, place);
        next_read = omega (arith, ints, s.reached.next_read, place, at, seconds);
        next_on = omega (arith, ints, s.reached.next_on, later);
        low = s.reached.low;
        on = s.reached.on;
        soon = s.reached.soon;
        by_end = s.reached.by_end;
      };
      early = s.early;
      none = s.none;
      none_day = s.none_day;
    }

pub returns-then-self-last : goal.returns-then-self-last
returns-then-self-last c =
    let s = c.args.self.now in
    let last = c.min-last in
    let end = c.end_before-end in
    let to : SFits w64 c.args.to = c.ranges.to in
    let later : s.next <ℤ to_z w64 (of_z w64 c.min-last.result) = omega (arith, ints, c.if-self-last.true, next-years s) in
    let early : to_z w64 (of_z w64 c.min-last.result) ≤ℤ (s.window.to +ℤ pos 93_599) =
    omega (arith, ints, int_min_is, last.ensures.value, last.type_inv, end.type_inv, end.ensures.near, window-back s) in
    let before : to_z w64 (of_z w64 c.min-last.result) ≤ℤ c.args.to = omega (arith, ints, int_min_is, last.ensures.value, last.type_inv, to) in
    let at = number-seconds c.of_seconds.result (passed-day s later early c.of_seconds.ensures.day) in
    let seconds : local_seconds c.of_seconds.result ≡ to_z w64 (of_z w64 c.min-last.result) = c.of_seconds.ensures.value in
    let place = c.pass.ensures.place in
    record {
      left = refl;
      on = omega (arith, place);
      passed = λ n l u. omega (arith, ints, l, u, place, at, seconds, before);
      source = record { zones = refl; event = refl; window = refl; rule = refl; from = refl; end = refl };
      day = refl;
    }

pub returns-else-self-last : goal.returns-else-self-last
returns-else-self-last c = record {
  left = refl;
  on = omega arith;
  passed = λ n l u. absurd (omega (arith, l, u));
  source = record { zones = refl; event = refl; window = refl; rule = refl; from = refl; end = refl };
  day = refl;
}
