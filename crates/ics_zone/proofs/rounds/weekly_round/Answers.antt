use Rattle.std.proofs.Common.{rules, ◌≡◌, ◌∙◌, ◌*◌, ◌≤◌, true, ap, subst, sym}
use Rattle.ics_fields.specs.declared.frequency.Frequency.TheVariants.{Daily, Weekly}
use Rattle.ics_fields.specs.RuleParts.{RuleParts}
use Rattle.ics_zone.specs.Inner.Repeats.{IsRoundOf}
use Rattle.ics_zone.proofs.RepeatLemmas.{daily_is, weekly_is}
use Rattle.ics_zone.proofs.rounds.weekly_round.Goals as goal

pub returns-in-Weekly : goal.returns-in-Weekly
returns-in-Weekly c =
    let p = c.args.parts.now in
    let alone = c.names_weekdays_alone-is_alone.ensures in
    let yes : c.names_weekdays_alone-is_alone.result ≡ true = search rules in
    let some : 1 ≤ p.interval = subst (λ (p : RuleParts). 1 ≤ p.interval) c.parts.view_is c.parts.invariant.interval in
    let is : p.frequency ≡ Weekly = subst (λ (p : RuleParts). p.frequency ≡ Weekly) c.parts.view_is c.in-Weekly.is in
    let same : 604_800 * c.from.result ≡ 604_800 * p.interval =
    ap (λ x. 604_800 * x) c.from.ensures ∙ ap (λ (p : RuleParts). 604_800 * p.interval) c.parts.view_is in
    subst (IsRoundOf p) (sym same) (weekly_is p (alone.months yes) (alone.month_days yes) (alone.year_days yes) (alone.weeks yes) some is)

pub returns-in-Daily : goal.returns-in-Daily
returns-in-Daily c =
    let p = c.args.parts.now in
    let alone = c.names_weekdays_alone-is_alone.ensures in
    let yes : c.names_weekdays_alone-is_alone.result ≡ true = search rules in
    let some : 1 ≤ p.interval = subst (λ (p : RuleParts). 1 ≤ p.interval) c.parts.view_is c.parts.invariant.interval in
    let is : p.frequency ≡ Daily = subst (λ (p : RuleParts). p.frequency ≡ Daily) c.parts.view_is c.in-Daily.is in
    let same : 604_800 * c.from-in-Daily.result ≡ 604_800 * p.interval =
    ap (λ x. 604_800 * x) c.from-in-Daily.ensures ∙ ap (λ (p : RuleParts). 604_800 * p.interval) c.parts.view_is in
    subst (IsRoundOf p) (sym same) (daily_is p (alone.months yes) (alone.month_days yes) (alone.year_days yes) (alone.weeks yes) some is)
