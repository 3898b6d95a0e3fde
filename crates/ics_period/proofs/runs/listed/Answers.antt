use Rattle.std.proofs.Common.{◌∙◌, arith}
use Rattle.ics_fields.specs.Sets.{contains}
use Rattle.ics_period.proofs.RunLemmas.{listed_first, listed_more, listed_done}
use Rattle.ics_period.proofs.runs.listed.Goals as goal

pub loop-n-init : goal.loop-n-init
loop-n-init c = (
  λ n h. listed_first c.args.places.now.front (contains c.args.places.now.back) c.args.size h c.front-listed.ensures.members
      c.front-listed.ensures.bound,
  omega arith,
)

pub returns-then-n-size : goal.returns-then-n-size
returns-then-n-size c = λ n h. listed_done (contains c.args.places.now.front) (contains c.args.places.now.back) c.args.size c.loop-n.from h
    (λ x l m. c.in-Some.ensures.next.least x l (omega (arith, m, c.if-n-size.true))) (c.loop-n.invariant.0 n h)

pub loop-n-preserved : goal.loop-n-preserved
loop-n-preserved c = (
  λ n h. c.insert.ensures.members n ∙ listed_more (contains c.args.places.now.front) (contains c.args.places.now.back) c.args.size
      h (omega (arith, c.loop-n.invariant.1, c.in-Some.ensures.next.low)) (omega (arith, c.if-n-size.false)) c.in-Some.ensures.next
      (c.loop-n.invariant.0 n h),
  omega arith,
)

pub returns : goal.returns
returns c = λ n h. listed_done (contains c.args.places.now.front) (contains c.args.places.now.back) c.args.size c.loop-n.from h
    (λ x l m. c.in_default.ensures.next x l) (c.loop-n.invariant.0 n h)
