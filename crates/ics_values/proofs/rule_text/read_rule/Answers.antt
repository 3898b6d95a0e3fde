use Rattle.std.proofs.Common.{rules}
use Rattle.ics_values.proofs.RuleLemmas.{rule_of-walk}
use Rattle.ics_values.proofs.rule_text.read_rule.Goals as goal

pub returns-in_err-draft : goal.returns-in_err-draft
returns-in_err-draft c = let e = rule_of-walk c.args.text.now c.draft_of.ensures in search rules

pub returns-then-not-contains : goal.returns-then-not-contains
returns-then-not-contains c = let e = rule_of-walk c.args.text.now c.draft_of.ensures in search rules

pub returns-then-draft : goal.returns-then-draft
returns-then-draft c = let e = rule_of-walk c.args.text.now c.draft_of.ensures in search rules

pub returns : goal.returns
returns c = let e = rule_of-walk c.args.text.now c.draft_of.ensures in search rules
