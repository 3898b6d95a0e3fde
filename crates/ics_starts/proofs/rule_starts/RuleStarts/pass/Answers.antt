use Rattle.std.proofs.Common.{◌≡◌, List, drop, map, sym, ◌∙◌, ap, subst, arith, rules, w64, of_z, SFits}
use Rattle.std.proofs.lemmas.Int.{ints}
use Rattle.ics_listing.specs.StartOrder.{moment_cmp}
use Rattle.ics_listing.specs.Listing.{IsIn}
use Rattle.ics_listing.specs.Rising.{Rises}
use Rattle.ics_starts.specs.RuleFeed.{held_in}
use Rattle.ics_listing.specs.Waiting.{start_of, starts_in, waiting_in}
use Rattle.ics_listing.specs.declared.queue.Waiting.{Waiting}
use Rattle.ics_starts.proofs.QueueLemmas.{cut-waiting, drop-starts, none-waiting, uncut-waiting}
use Rattle.ics_listing.proofs.WaitingLemmas.{in-drop, rises-drop}
use Rattle.ics_starts.proofs.RuleStepLemmas.{passed-left}
use Rattle.ics_starts.proofs.rule_starts.RuleStarts.pass.Goals as goal

pub invariant_of-self : goal.invariant_of-self
invariant_of-self c =
    let s = c.args.self.now in
    let e : starts_in c.args.self.now.event.now.start c.drop_first.new.self ≡ drop 1 (held_in c.args.self.now) =
    ap (λ (ws : List Waiting). map (start_of c.args.self.now.event.now.start) ws) c.drop_first.ensures
    ∙ drop-starts c.args.self.now.event.now.start (waiting_in c.args.self.now.held) in
    record {
      rule_of = s.rule_of;
      rises = subst (Rises moment_cmp) (sym e) (rises-drop (held_in s) s.rises);
      are = λ t m. s.are t (in-drop t (held_in s) (subst (IsIn t) e m));
      past_end = s.past_end;
      stretched = s.stretched;
      spanned = s.spanned;
      own = s.own;
      looked = s.looked;
      placed = s.placed;
      known = s.known;
      reached = s.reached;
      early = s.early;
      none = s.none;
      none_day = s.none_day;
    }

pub returns-then-first-start-clause-left : goal.returns-then-first-start-clause-left
returns-then-first-start-clause-left c =
    let s = c.args.self.now in
    let fits : SFits w64 c.in-Some.first.moment = search rules in
    let fits2 : SFits w64 c.args.start.now.moment = search rules in
    let tied : c.args.start.now.moment ≡ c.in-Some.first.moment = omega (arith, ints, c.if-first-start.true) in
    passed-left s c.args.start.now _
    (cut-waiting s.event.now.start c.args.start.now (waiting_in s.held) _ c.in-Some.first c.drop_first.ensures (sym c.first.ensures ∙ c.in-Some.is) tied)
    c.requires

pub returns-else-first-start-clause-left : goal.returns-else-first-start-clause-left
returns-else-first-start-clause-left c =
    let s = c.args.self.now in
    passed-left s c.args.start.now _
    (uncut-waiting s.event.now.start c.args.start.now (waiting_in s.held) c.in-Some.first (sym c.first.ensures ∙ c.in-Some.is)
    (λ same. c.if-first-start.false (ap (λ t. of_z w64 t) (sym same)))) c.requires

pub returns-in-None-clause-left : goal.returns-in-None-clause-left
returns-in-None-clause-left c =
    let s = c.args.self.now in
    passed-left s c.args.start.now _
    (none-waiting s.event.now.start c.args.start.now (waiting_in s.held) (sym c.first.ensures ∙ c.in-None.is)) c.requires
