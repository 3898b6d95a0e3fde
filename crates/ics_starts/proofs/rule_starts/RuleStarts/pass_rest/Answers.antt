use Rattle.std.proofs.Common.{◌≡◌, ◌∙◌, ◌≤◌, ◌≤ℤ◌, ℤ, List, false, max, refl, sym, ap, subst, arith, w32, w64, to_z, of_z}
use Rattle.std.proofs.lemmas.Int.{ints}
use Rattle.ics_fields.specs.Locals.{number}
use Rattle.ics_rule.specs.Cursors.{place_of}
use Rattle.ics_rule.specs.Next.{NoneKept}
use Rattle.ics_listing.specs.declared.start.Start.{Start}
use Rattle.ics_starts.specs.FileZones.{clocks_in}
use Rattle.ics_starts.specs.Quiet.{AreBeyond}
use Rattle.ics_starts.specs.RuleFeed.{held_in}
use Rattle.ics_starts.specs.RuleStarts.{is_behind, read_from, settled_from, IsReadTo}
use Rattle.ics_starts.proofs.QuietLemmas.{beyond-none}
use Rattle.ics_starts.proofs.PassedLemmas.{by-test}
use Rattle.ics_starts.proofs.RuleStepLemmas.{behind-early, bound-days, day-back, end-days, none-read, signed-back}
use Rattle.ics_starts.proofs.rule_starts.RuleStarts.pass_rest.Goals as goal

pub number-requires-2 : goal.number-requires-2
number-requires-2 c =
    let b = c.bound-bound in
    bound-days c.args.self.now b.type_inv b.ensures.later b.ensures.within c.at-to.ensures

pub pass-requires-clause-day : goal.pass-requires-clause-day
pass-requires-clause-day c =
    let b = c.bound-bound in
    bound-days c.args.self.now b.type_inv b.ensures.later b.ensures.within c.at-to.ensures

pub number-requires-3 : goal.number-requires-3
number-requires-3 c =
    let b = c.bound-bound in
    bound-days c.args.self.now b.type_inv b.ensures.later b.ensures.within c.at-to.ensures

-- the cursor was asked, and nothing was passed over
pub invariant_of-self-then-number : goal.invariant_of-self-then-number
invariant_of-self-then-number c =
    let s = c.args.self.now in
    let place = sym c.quiet-next.ensures.place in
    let looked = rw c.get.ensures at c.quiet-next.ensures.looked in
    record {
      rule_of = s.rule_of;
      rises = s.rises;
      are = s.are;
      past_end = subst (λ p. AreBeyond (clocks_in s.zones) s.event.now s.rule s.window (number s.from) p s.beyond) place s.past_end;
      stretched = s.stretched;
      spanned = s.spanned;
      own = rw c.get.ensures at c.quiet-next.ensures.own;
      looked = λ before m. looked _ before (s.looked before m);
      placed = s.placed ∙ place;
      known = s.known;
      reached = subst (IsReadTo s.day s.asked s.end s.next) place s.reached;
      early = s.early;
      none = s.none;
      none_day = s.none_day;
    }

pub invariant_of-self-2 : goal.invariant_of-self-2
invariant_of-self-2 c =
    let s = c.args.self.now in
    let b = c.bound-bound in
    let none = rw c.get.ensures at c.quiet-next.ensures.none in
    let to : number c.at-to.result ≤ number c.quiet-next.result = omega (arith, c.number.ensures.value, c.number-2.ensures.value, c.if-number.false) in
    let none-to : NoneKept s.rule (place_of s.cursor) (number c.at-to.result) = λ n l u. none n l (omega (arith, u, to)) in
    let place = c.pass.ensures.place ∙ ap (λ p. max p (number c.at-to.result)) c.quiet-next.ensures.place in
    let r = none-read s b.type_inv b.ensures.later b.ensures.within c.at-to.ensures b.ensures.held (none-to, place) c.seconds-self.ensures in
    let looked = rw c.get.ensures at c.quiet-next.ensures.looked in
    let passed = rw c.get-2.ensures at c.pass.ensures.looked in
    record {
      rule_of = s.rule_of;
      rises = r.rises;
      are = r.are;
      past_end = beyond-none s (none-to, place);
      stretched = s.stretched;
      spanned = s.spanned;
      own = rw c.get-2.ensures at c.pass.ensures.own;
      looked = λ before m. passed _ before (looked _ before (s.looked before (omega (arith, r.before, m))));
      placed = omega (arith, s.placed, place, c.number-3.ensures.value, c.max-self.ensures);
      known = s.known;
      reached = r.reached;
      early = s.early;
      none = λ n l u. none n (omega (arith, l, s.placed)) u;
      none_day = c.quiet-next.ensures.day;
    }

pub returns-clause-left : goal.returns-clause-left
returns-clause-left c =
    let s = c.args.self.now in
    let b = c.bound-bound in
    let none = rw c.get.ensures at c.quiet-next.ensures.none in
    let to : number c.at-to.result ≤ number c.quiet-next.result = omega (arith, c.number.ensures.value, c.number-2.ensures.value, c.if-number.false) in
    let none-to : NoneKept s.rule (place_of s.cursor) (number c.at-to.result) = λ n l u. none n l (omega (arith, u, to)) in
    let place = c.pass.ensures.place ∙ ap (λ p. max p (number c.at-to.result)) c.quiet-next.ensures.place in
    let r = none-read s b.type_inv b.ensures.later b.ensures.within c.at-to.ensures b.ensures.held (none-to, place) c.seconds-self.ensures in
    r.same

-- where no day is left to be read the first start is known
rest-known : (settled day end to : ℤ) (held : List Start) → end ≤ℤ day → is_behind settled day end to held ≡ false
rest-known settled day end to held late =
    by-test (is_behind settled day end to held) (λ b. let early = behind-early settled day end to held b in absurd (omega (arith, ints, early, late))) (λ e. e)

pub returns-clause-rest : goal.returns-clause-rest
returns-clause-rest c = λ is.
    let s = c.args.self.now in
    let b = c.bound-bound in
    let day = signed-back b.result b.result b.type_inv refl in
    let late : c.args.self.now.end ≤ℤ to_z w32 (of_z w32 c.bound-bound.result) =
    omega (arith, ints, day, c.if-bound-self.false, day-back s.end (end-days s)) in
    let last = to_z w32 (of_z w32 c.bound-bound.result) in
    let settled = settled_from s.stretch s.bounds.most (read_from s.event.now.start.stamp last (to_z w64 (of_z w64 c.seconds-self.result))) in
    rest-known settled last s.end s.window.to (held_in s) late
