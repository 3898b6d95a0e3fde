use Rattle.std.proofs.Common.{◌≡◌, ◌∙◌, sym, false, arith}
use Rattle.ics_fields.specs.Ordinals.{lists_none_wide}
use Rattle.ics_period.specs.Ranks.{count}
use Rattle.ics_period.specs.RecurrencePeriods.{holds, is_listed}
use Rattle.ics_period.proofs.Counts.{count_mono}
use Rattle.ics_period.proofs.RankLemmas.{count-ranked}
use Rattle.ics_fields.specs.Locals.{calendar_end}
use Rattle.ics_period.proofs.recurrence_period.RecurrencePeriod.taken_before.Goals as goal

pub listed_below-requires-clause-some : goal.listed_below-requires-clause-some
listed_below-requires-clause-some c = let more = count_mono c.args.n calendar_end (holds c.args.self.now) (omega (arith, c.requires.n)) in
    omega (arith, more, c.rank_before-rank.ensures.value, c.size.ensures.value)

pub returns-else-is_empty-clause-value : goal.returns-else-is_empty-clause-value
returns-else-is_empty-clause-value c =
    let some : lists_none_wide c.args.positions.now ≡ false = sym c.is_empty.ensures ∙ c.if-is_empty.false in
    rw some ((rw (c.positions.view_is, c.rank_before-rank.ensures.value, c.size.ensures.value) at c.listed_below.ensures.value)
    ∙ sym (count-ranked c.args.n (holds c.args.self.now) (is_listed c.args.positions.now (count calendar_end (holds c.args.self.now)))))
