use Rattle.std.proofs.Common.{◌≡◌, ◌∙◌, ◌+ℤ◌, pos, rules, ap, arith, w64, to_z, of_z, SFits}
use Rattle.std.proofs.lemmas.Int.{ints}
use Rattle.ics_starts.proofs.KeptLemmas.{kept-same}
use Rattle.ics_starts.proofs.TakenLemmas.{next-taken, place-back}
use Rattle.ics_starts.proofs.rule_starts.RuleStarts.removed_from.Goals as goal

pub returns-then-self-local-clause-removed : goal.returns-then-self-local-clause-removed
returns-then-self-local-clause-removed c = λ n l u. let from : SFits w64 c.args.from = c.ranges.from in absurd (omega (arith, ints, l, u))

pub returns-then-to-seconds-clause-removed : goal.returns-then-to-seconds-clause-removed
returns-then-to-seconds-clause-removed c = λ n l u. let from : SFits w64 c.args.from = c.ranges.from in absurd (omega (arith, ints, l, u))

pub invariant_of-self-in-Some : goal.invariant_of-self-in-Some
invariant_of-self-in-Some c =
    let m = c.removed_at-to.new.self in
    record {
      rule_of = m.rule_of;
      rises = m.rises;
      are = m.are;
      past_end = m.past_end;
      stretched = m.stretched;
      spanned = m.spanned;
      own = m.own;
      looked = m.looked;
      placed = m.placed;
      known = kept-same m.event.now m.kept _ c.leave.ensures m.known;
      reached = m.reached;
      early = m.early;
      none = m.none;
      none_day = m.none_day;
    }

pub returns-in-None-clause-removed : goal.returns-in-None-clause-removed
returns-in-None-clause-removed c = λ n l u.
    let from : SFits w64 c.args.from = c.ranges.from in
    let fits : SFits w64 c.removed_days.result = search rules in
    c.removed_days.ensures n (omega (arith, ints, l)) (omega (arith, ints, u))

pub returns-else-to-seconds-clause-removed : goal.returns-else-to-seconds-clause-removed
returns-else-to-seconds-clause-removed c = λ n l u.
    let from : SFits w64 c.args.from = c.ranges.from in
    let fits : SFits w64 c.removed_at-to.result = search rules in
    let same : to_z w64 (of_z w64 c.args.from) ≡ c.args.from = omega (arith, ints) in
    let years = c.requires in
    let place = place-back (to_z w64 (of_z w64 c.args.from)) (omega (arith, ints, same, years)) (omega (arith, ints, same, years))
    ∙ ap (λ at. at +ℤ pos 62_167_219_200) same in
    next-taken c.args.self.now c.args.exclusions.now.instants.items c.args.exclusions.now.days.items c.in-Some.local c.args.from
    c.removed_at-to.result (rw c.get.ensures at c.in-Some.ensures.next) place c.removed_at-to.ensures.removed n l (omega (arith, ints, u))

pub invariant_of-self : goal.invariant_of-self
invariant_of-self c =
    let s = c.args.self.now in
    record {
      rule_of = s.rule_of;
      rises = s.rises;
      are = s.are;
      past_end = s.past_end;
      stretched = s.stretched;
      spanned = s.spanned;
      own = s.own;
      looked = s.looked;
      placed = s.placed;
      known = kept-same s.event.now s.kept _ c.known_next.ensures.same s.known;
      reached = s.reached;
      early = s.early;
      none = s.none;
      none_day = s.none_day;
    }
