-- What looks up to its place leave of a cursor under COUNT.
use Rattle.std.proofs.Common.{◌≡◌, ℕ, ◌+◌, ◌-◌, ◌*◌, ◌<◌, ◌≤◌, true, false, Option, Some, None, MatchOption, min, refl, sym, subst, ap, ◌∙◌, arith}
use Rattle.std.proofs.lemmas.Bool.{cases_lt}
use Rattle.std.proofs.lemmas.Bool.Decides.{nat_tests}
use Rattle.jiff_core.specs.Weekday.{monday_zero}
use Rattle.ics_period.specs.declared.effective_rule.EffectiveRule.{EffectiveRule}
use Rattle.ics_period.specs.declared.recurrence_period.RecurrencePeriod.{RecurrencePeriod}
use Rattle.ics_rule.specs.declared.cursor.Cursor.{Cursor}
use Rattle.ics_period.specs.Candidates.{is_stepped, period_in}
use Rattle.ics_period.specs.Ranks.{count, is_chosen}
use Rattle.ics_period.specs.RecurrencePeriods.{first_local, IsPeriodOf}
use Rattle.ics_rule.specs.Cursors.{fresh, looks_from}
use Rattle.ics_rule.specs.Inner.Searches.{is_chosen_within, IsNextOpen, IsTurned, IsUnderCount, IsWalked, after_look}
use Rattle.ics_rule.specs.Inner.Rounds.{IsEvenRound, IsPassedTo, CountsFrom, HasCountedTo}
use Rattle.std.proofs.Math.Nat.{mul-le-mul_right}
use Rattle.ics_period.proofs.PeriodLemmas.{begun, period_mono}
use Rattle.ics_period.proofs.Counts.{count_most}
use Rattle.ics_rule.proofs.CountLemmas.{IsCountedStep, none_before_first}
use Rattle.ics_period.proofs.CountBounds.{repeats_often}
use Rattle.ics_rule.proofs.RoundLemmas.{step_repeats}
use Rattle.ics_period.proofs.IntervalLemmas.{stepped_parts, none_between}
use Rattle.ics_rule.proofs.CursorLemmas.{meets, moved_on, own_moved, looks_once}
use Rattle.ics_rule.proofs.WalkLemmas.{step_first}
use Rattle.ics_period.specs.PeriodNumbers.{rules_end}
use Rattle.ics_fields.specs.Locals.{calendar_end}

-- the period of a place is that of the last local before the next
pub top_of : (q : EffectiveRule) (place number : ℕ) → number ≤ period_in q place → number ≤ period_in q (place + 1 - 1)
top_of q place number h = grind arith

-- a period before that of the place has nothing from the place on
pub none_within : (q : EffectiveRule) (start : ℕ) {number : ℕ} (place : ℕ) → number < period_in q place → (m : ℕ) → place ≤ m →
    is_chosen_within q start number m ≡ false
none_within q start place h m l = let up = period_mono q.frequency (monday_zero q.week_start) place m l in grind (arith, nat_tests)

-- a step that is not passed
pub not_past : {q : EffectiveRule} {first number next end : ℕ} → 1 ≤ q.interval → is_stepped first q.interval number ≡ true →
    is_stepped first q.interval end ≡ true → number < end
    → IsNextOpen q first (number + q.interval) next → IsNextOpen q first (number + q.interval) (min end next)
not_past some here there h is_next = grind (arith, cases_lt, here, none_between)

-- a walk that turns to the period of the place or an earlier one
pub passed_to : {q : EffectiveRule} {start number : ℕ} {o : Option ℕ} {before after : Cursor} {p : RecurrencePeriod} → IsTurned q start o number after p →
    IsWalked q start o (before.place + 1) None before after → number ≤ period_in q before.place → before.place < calendar_end
    → HasCountedTo q start o number before after
passed_to {q = q} {before = before} {after = after} {p = p} turned walked top inside =
    let moved = walked.moved in
    let place = ap (period_in q) moved.place in record {
      period = p;
      turned = turned;
      passed = record {
        own = own_moved {n = after.place} after.place moved (rw turned.held (turned.product, omega (arith, turned.number, top, place))) (omega arith)
            walked.counted (omega (arith, moved.place, inside));
        moved = moved;
      };
    }

-- and looks on, at a later step
pub passed_on : {q : EffectiveRule} {start number target total : ℕ} {o : Option ℕ} {before after now : Cursor} {p : RecurrencePeriod} →
    IsUnderCount q start o before → HasCountedTo q start o number before after → IsCountedStep q start number target before.place total
    → now ≡ after_look after p total → IsPeriodOf q p × (p.number ≡ target) → IsPassedTo q start o before now
passed_on {q = q} {start = start} {target = target} {total = total} {before = before} {after = after} {p = p} under counted is e own =
    let same = own.1 in
    let to = rw under.some at counted in
    let fresh_target = subst (λ o. fresh o ≤ target) (sym to.turned.held) (omega (arith, to.turned.number, is.later)) in
    let moved = moved_on to.passed.moved (looks_once total after p fresh_target refl same) (λ a b l few.
    meets q start a b {place = start} {stop = before.place + 1}
    few.low (omega (arith, under.after)) l is.step (stepped_parts (period_in q start) q.interval target is.step).0
    (top_of q before.place target is.top)) in
    let place = ap (period_in q) to.passed.moved.place in
    rw (e, under.some) (record {
      own = own_moved {n = after.place} after.place moved (own.0, omega (arith, same, is.top, place)) (omega arith) (record {
        step = ap (is_stepped (period_in q start) q.interval) same ∙ is.step;
        total = is.total ∙ ap (λ x. count (first_local q.frequency (monday_zero q.week_start) x) (is_chosen q start)) (sym same);
        most = to.turned.counted.most;
        quiet = λ n l u. absurd (omega (arith, u));
      }) (omega (arith, moved.place, under.own.inside));
      moved = moved;
    })

-- looks up to a place, and then more of them
pub passed_twice : {q : EffectiveRule} {start : ℕ} {o : Option ℕ} {before between now : Cursor} → IsPassedTo q start o before between →
    IsPassedTo q start o between now → IsPassedTo q start o before now
passed_twice {start = start} {o = o} {before = before} {between = between} {now = now} first last = record {
  own = last.own;
  moved = record {
    place = last.moved.place ∙ first.moved.place;
    looks = (let a = first.moved.looks in let b = last.moved.looks in grind (arith, nat_tests));
    begun = last.moved.begun;
    steps = last.moved.steps;
    looked = λ a b s few. last.moved.looked a b (omega (arith, s, first.moved.place)) record {
      low = subst (λ x. a ≤ looks_from o start x) (sym first.moved.place) few.low;
      few = first.moved.looked a b s few;
    };
  };
}

pub passed_under : {q : EffectiveRule} {start : ℕ} {o : Option ℕ} {before now : Cursor} → IsUnderCount q start o before → IsPassedTo q start o before now →
    IsUnderCount q start o now
passed_under under to = let same = to.moved.place in
    record { count = under.count; some = under.some; after = omega (arith, under.after); early = omega (arith, under.early); own = to.own }

-- looks up to a period, or to where COUNT keeps none later
pub passed_through : {q : EffectiveRule} {start : ℕ} {o : Option ℕ} {before now : Cursor} (reached : Option ℕ) → MatchOption reached
    (IsPassedTo q start o before now) (λ number. HasCountedTo q start o number before now) → IsPassedTo q start o before now
passed_through None to = to
passed_through (Some number) to = to.passed

-- steps are few
pub turned_room : {q : EffectiveRule} {start number : ℕ} {o : Option ℕ} {before after : Cursor} → HasCountedTo q start o number before after →
    after.steps ≤ number + 1
turned_room {after = after} to = let few = subst (λ x. after.steps ≤ fresh x) to.turned.held to.passed.moved.steps in omega (arith, few, to.turned.number)

-- the period from which rounds are counted
pub record IsRoundsBegin (q : EffectiveRule) (start begin before : ℕ) : Type 0 where
  pub step : is_stepped (period_in q start) q.interval begin ≡ true
  pub total : before ≡ count (first_local q.frequency (monday_zero q.week_start) begin) (is_chosen q start)

pub counts_from : {q : EffectiveRule} {start first begin before : ℕ} {o : Option ℕ} {cursor : Cursor} → 1 ≤ q.interval → IsUnderCount q start o cursor →
    first ≡ period_in q start → CountsFrom first begin before cursor → IsRoundsBegin q start begin before
counts_from some under ef is = let counted = rw under.some at under.own.counted in grind (arith, none_before_first, step_first)

-- some steps later is a step
pub steps_on : {q : EffectiveRule} {start begin before : ℕ} (steps : ℕ) → IsRoundsBegin q start begin before →
    is_stepped (period_in q start) q.interval (begin + q.interval * steps) ≡ true
steps_on {q = q} {start = start} {begin = begin} steps from =
    step_repeats q.interval steps (period_in q start) begin (stepped_parts (period_in q start) q.interval begin from.step).0 ∙ from.step

-- where the first round ends, and the last
pub first_step : {q : EffectiveRule} {start begin before round : ℕ} → IsEvenRound q start round → IsRoundsBegin q start begin before →
    is_stepped (period_in q start) q.interval (begin + round) ≡ true
first_step {q = q} {start = start} {begin = begin} is from =
    is.step (period_in q start) begin (stepped_parts (period_in q start) q.interval begin from.step).0 ∙ from.step

pub rounds_end : {q : EffectiveRule} {start begin round rounds before one place : ℕ} → IsEvenRound q start round → IsRoundsBegin q start begin before →
    (2 ≤ begin) × (2 ≤ rounds) → begin + rounds * round ≤ period_in q place → place < rules_end
    → one ≡ count (first_local q.frequency (monday_zero q.week_start) (begin + round)) (is_chosen q start)
    → (before ≤ one) × IsCountedStep q start (begin + round) (begin + rounds * round) place (before + rounds * (one - before))
rounds_end {q = q} {start = start} {begin = begin} {round = round} {rounds = rounds} {before = before} {one = one} {place = place} even from some top
    early e =
    let first = (stepped_parts (period_in q start) q.interval begin from.step).0 in
    let reach = begun q.frequency (monday_zero q.week_start) (begin + rounds * round) place top in
    let counts = even.total begin rounds before one record {
      low = some.0;
      step = from.step;
      some = omega (arith, some.1);
      early = omega (arith, reach, early);
      before_first = from.total;
      before_second = e;
    } in (
      counts.0,
      record {
        later = (let up = mul-le-mul_right {m = 2} {n = rounds} round some.1 in omega (arith, up, even.some));
        step = repeats_often (is_stepped (period_in q start) q.interval) {low = period_in q start} round (even.step (period_in q start)) rounds begin first
            ∙ from.step;
        top = top;
        total = counts.1;
      },
    )

-- counts stay small
pub counted_reach : {q : EffectiveRule} {start number target place chosen : ℕ} → IsCountedStep q start number target place chosen →
    first_local q.frequency (monday_zero q.week_start) target ≤ place
counted_reach {q = q} {target = target} {place = place} is = begun q.frequency (monday_zero q.week_start) target place is.top

pub total_small : {q : EffectiveRule} {start number target place chosen : ℕ} → IsCountedStep q start number target place chosen → chosen ≤ place
total_small is = let low = counted_reach is in let total = is.total in grind (arith, count_most)
