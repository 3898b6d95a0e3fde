use Rattle.std.proofs.Common.{◌≡◌, ◌+◌, ◌-◌, ◌≤◌, inl, inr, ap, sym, ◌∙◌, arith}
use Rattle.std.proofs.lemmas.Bool.{cases_lt}
use Rattle.ics_fields.specs.Sets.{contains_wide}
use Rattle.ics_fields.proofs.SetLemmas.{wide_past}
use Rattle.ics_period.specs.Ranks.{count}
use Rattle.ics_period.specs.RecurrencePeriods.{IsNth}
use Rattle.ics_period.proofs.Counts.{count_mono}
use Rattle.ics_period.proofs.RankLemmas.{last_below, none_below, none_past_last}
use Rattle.ics_period.proofs.recurrence_period.ranks.next_back.Goals as goal
use Rattle.ics_period.proofs.recurrence_period.ranks.next_back.Goals.{After-nth_member}

pub nth_member-requires : goal.nth_member-requires
nth_member-requires c =
    let up = count_mono (c.min-most.result + 1) 384 (contains_wide c.args.back.now) (omega (arith, c.min-most.ensures)) in
    omega (arith, up, c.members_below-members.ensures.value, c.if-members-eq0.false)

pub returns-then-members-eq0 : goal.returns-then-members-eq0
returns-then-members-eq0 c = record {
  none = λ k low high. elim (cases_lt (c.args.size - k) (c.min-most.result + 1)) [
    | inl l ↦ none_below (contains_wide c.args.back.now) (c.min-most.result + 1) (c.args.size - k)
        (sym c.members_below-members.ensures.value ∙ c.if-members-eq0.true) l
    | inr g ↦ wide_past c.args.back.now (c.args.size - k) (omega (arith, c.min-most.ensures, c.saturating_sub.ensures, low, high, g))
  ];
  high = omega arith;
  found = λ less. absurd (omega (arith, less));
}

last : (c : After-nth_member) → IsNth (contains_wide c.args.back.now) (count (c.min-most.result + 1) (contains_wide c.args.back.now) - 1) c.nth_member.result
last c = rw c.members_below-members.ensures.value at c.nth_member.ensures.nth

near : (c : After-nth_member) → c.nth_member.result ≤ c.args.size - c.args.from
near c =
    let below = last_below (contains_wide c.args.back.now) (c.min-most.result + 1) (last c)
    (omega (arith, c.members_below-members.ensures.value, c.if-members-eq0.false)) in
    omega (arith, below, c.min-most.ensures, c.saturating_sub.ensures)

pub overflow_sub-result : goal.overflow_sub-result
overflow_sub-result c = let most = near (goal.at.overflow_sub-result c).After-nth_member in omega (arith, most)

pub returns : goal.returns
returns c =
    let at = (goal.at.returns c).After-nth_member in
    let most = near at in
    let same : c.args.size - (c.args.size - c.nth_member.result) ≡ c.nth_member.result = omega (arith, most) in
    record {
      none = λ k low high. elim (cases_lt (c.args.size - k) (c.min-most.result + 1)) [
        | inl l ↦ none_past_last (contains_wide c.args.back.now) (c.min-most.result + 1) {k = c.args.size - k} (last at) (omega (arith, most, high)) l
        | inr g ↦ wide_past c.args.back.now (c.args.size - k) (omega (arith, c.min-most.ensures, c.saturating_sub.ensures, low, high, g))
      ];
      high = omega arith;
      found = λ less. (omega (arith, most, less), ap (contains_wide c.args.back.now) same ∙ IsNth.passes (last at));
    }
