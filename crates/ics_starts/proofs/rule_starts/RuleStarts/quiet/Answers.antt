use Rattle.std.proofs.Common.{◌∙◌, inl, inr, sym, arith, rules, w64, SFits}
use Rattle.std.proofs.lemmas.Bool.{cases_lt}
use Rattle.std.proofs.lemmas.Int.{ints}
use Rattle.ics_rule.specs.Cursors.{place_of}
use Rattle.ics_starts.proofs.QuietLemmas.{quiet-ended}
use Rattle.ics_starts.proofs.RuleStepLemmas.{settled-before}
use Rattle.ics_starts.proofs.rule_starts.RuleStarts.quiet.Goals as goal

pub returns-in-Some-clause-to : goal.returns-in-Some-clause-to
returns-in-Some-clause-to c =
    let s = c.args.self.now in
    quiet-ended s _ (sym (rw c.get.ensures at c.until_moment.ensures) ∙ c.in-Some.is)
    (omega (arith, ints, c.if-until-self.true, s.window.ordered, s.window.not_early, s.window.not_late))

pub returns-in_default-clause-to : goal.returns-in_default-clause-to
returns-in_default-clause-to c =
    let s = c.args.self.now in
    let fits : SFits w64 c.args.self.now.beyond = search rules in
    λ n l late. elim (cases_lt n (place_of s.cursor)) [
      | inl early ↦ λ by end. omega (arith, ints, fits, s.past_end n l early by end)
      | inr on ↦ λ by end. omega (arith, ints, fits, settled-before s n on, c.settled.ensures, c.if-self-settled.true)
    ]

pub quiet_to-to-requires-in_default-3-clause-none : goal.quiet_to-to-requires-in_default-3-clause-none
quiet_to-to-requires-in_default-3-clause-none c = rw c.get-in_default-3.ensures at c.quiet-next.ensures.none

pub put_mark-requires-in_default-3-clause-looked : goal.put_mark-requires-in_default-3-clause-looked
put_mark-requires-in_default-3-clause-looked c =
    let looked = rw c.get-in_default-3.ensures at c.quiet-next.ensures.looked in
    λ before h. looked _ before (c.args.self.now.looked before h)
