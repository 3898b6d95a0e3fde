use Rattle.std.proofs.Common.{Some, ap, map, sym, subst, ◌∙◌, rules, option_map}
use Rattle.ics_listing.specs.Entry.{entry_of}
use Rattle.ics_listing.specs.Listing.{IsIn}
use Rattle.ics_listing.specs.Inner.Tournament.{first_place, first_turn, turn_of}
use Rattle.ics_listing.proofs.LeadLemmas.{ended, first-comes, held-turn, nothing-comes, uncut-first, near-each, near-past, near-to_come, near-whole}
use Rattle.ics_listing.proofs.UidOrderLemmas.{head-in}
use Rattle.ics_listing.proofs.merge.MergeFeed.next.Goals as goal

pub invariant_of-self-clause-follows : goal.invariant_of-self-clause-follows
invariant_of-self-clause-follows g c =
    let met : g.claim c.lifetimes = search rules in
    let self = c.skip_given.new.self in
    (first-comes (λ x. x.unread) (λ x. x.head) (λ x. g.F.Coming.coming x.feed) (λ x. x.ahead) self.leads.items self.winners.items self.counted self.settled
    (λ x. (g.met.F.Feed c.lifetimes met).rises x.feed) self.last c.in-Some.first
    (held-turn (λ x. x.unread) (λ x. x.head) self.leads.items (first_place self.winners.items) (entry_of c.in-Some.first)
    (sym c.first.ensures ∙ ap (option_map entry_of) c.in-Some.is)).0 c.in_ok-skip_given.ensures.skipped self.follows).1

pub invariant_of-self-clause-last_sorted : goal.invariant_of-self-clause-last_sorted
invariant_of-self-clause-last_sorted g c =
    let self = c.skip_given.new.self in
    rw (c.first_place-self.ensures ∙ ap first_place c.deref.ensures.value)
    (self.sorted (first_place self.winners.items) (entry_of c.in-Some.first) (head-in (λ x. x.head) (λ x. g.F.Coming.coming x.feed) self.leads.items
    (first_place self.winners.items) (entry_of c.in-Some.first)
    (held-turn (λ x. x.unread) (λ x. x.head) self.leads.items (first_place self.winners.items) (entry_of c.in-Some.first)
    (sym c.first.ensures ∙ ap (option_map entry_of) c.in-Some.is)).1))

pub returns-in-Some-clause-ok : goal.returns-in-Some-clause-ok
returns-in-Some-clause-ok g c =
    let met : g.claim c.lifetimes = search rules in
    let self = c.skip_given.new.self in
    sym c.in_ok-skip_given.ensures.same
    ∙ (first-comes (λ x. x.unread) (λ x. x.head) (λ x. g.F.Coming.coming x.feed) (λ x. x.ahead) self.leads.items self.winners.items self.counted
    self.settled (λ x. (g.met.F.Feed c.lifetimes met).rises x.feed) self.last c.in-Some.first
    (held-turn (λ x. x.unread) (λ x. x.head) self.leads.items (first_place self.winners.items) (entry_of c.in-Some.first)
    (sym c.first.ensures ∙ ap (option_map entry_of) c.in-Some.is)).0 c.in_ok-skip_given.ensures.skipped self.follows).0

pub returns-in-None-clause-ok : goal.returns-in-None-clause-ok
returns-in-None-clause-ok g c =
    let self = c.skip_given.new.self in
    let nothing =
    nothing-comes (λ x. x.unread) (λ x. x.head) (λ x. g.F.Coming.coming x.feed) (λ x. x.ahead) self.leads.items self.winners.items self.counted self.settled
    self.last (ended self.last (first_turn (map (λ x. turn_of x.unread x.head) self.leads.items) self.winners.items)
    (sym c.first.ensures ∙ ap (option_map entry_of) c.in-None.is) c.in_ok-skip_given.ensures.skipped) in
    (sym c.in_ok-skip_given.ensures.same ∙ nothing, nothing)

pub invariant_of-self-clause-near : goal.invariant_of-self-clause-near
invariant_of-self-clause-near g c =
    let met : g.claim c.lifetimes = search rules in
    let self = c.skip_given.new.self in
    near-past (λ x. x.head) (λ x. g.F.Coming.coming x.feed) (λ x. g.F.Coming.near x.feed) (Some c.in-Some.first) self.leads.items
    (near-whole (λ x. x.head) (λ x. g.F.Coming.coming x.feed) (λ x. g.F.Coming.near x.feed) self.last self.leads.items
    (uncut-first (λ x. x.unread) (λ x. x.head) (λ x. g.F.Coming.coming x.feed) (λ x. x.ahead) self.leads.items self.winners.items self.counted self.settled
    (λ x. (g.met.F.Feed c.lifetimes met).rises x.feed) self.last c.in-Some.first
    (held-turn (λ x. x.unread) (λ x. x.head) self.leads.items (first_place self.winners.items) (entry_of c.in-Some.first)
    (sym c.first.ensures ∙ ap (option_map entry_of) c.in-Some.is)).0 c.in_ok-skip_given.ensures.skipped self.follows) self.near)

pub returns-in-Some-clause-near : goal.returns-in-Some-clause-near
returns-in-Some-clause-near g c = λ o m.
    let met : g.claim c.lifetimes = search rules in
    let self = c.skip_given.new.self in
    near-each (λ x. x.head) (λ x. g.F.Coming.coming x.feed) (λ x. g.F.Coming.near x.feed) o self.leads.items
    (near-whole (λ x. x.head) (λ x. g.F.Coming.coming x.feed) (λ x. g.F.Coming.near x.feed) self.last self.leads.items
    (uncut-first (λ x. x.unread) (λ x. x.head) (λ x. g.F.Coming.coming x.feed) (λ x. x.ahead) self.leads.items self.winners.items self.counted self.settled
    (λ x. (g.met.F.Feed c.lifetimes met).rises x.feed) self.last c.in-Some.first
    (held-turn (λ x. x.unread) (λ x. x.head) self.leads.items (first_place self.winners.items) (entry_of c.in-Some.first)
    (sym c.first.ensures ∙ ap (option_map entry_of) c.in-Some.is)).0 c.in_ok-skip_given.ensures.skipped self.follows) self.near)

pub returns-in-None-clause-near : goal.returns-in-None-clause-near
returns-in-None-clause-near g c = λ o m.
    let self = c.skip_given.new.self in
    near-to_come (λ x. x.head) (λ x. g.F.Coming.coming x.feed) (λ x. g.F.Coming.near x.feed) self.last o self.leads.items self.follows
    (subst (IsIn o) (sym c.skip_given.ensures.same) m) self.near

pub returns-in_err-skip_given-clause-near : goal.returns-in_err-skip_given-clause-near
returns-in_err-skip_given-clause-near g c = λ o m.
    let self = c.skip_given.new.self in
    near-to_come (λ x. x.head) (λ x. g.F.Coming.coming x.feed) (λ x. g.F.Coming.near x.feed) self.last o self.leads.items self.follows
    (subst (IsIn o) (sym c.skip_given.ensures.same) m) self.near
