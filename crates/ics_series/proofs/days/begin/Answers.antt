use Rattle.std.proofs.lemmas.Grind.{common_steps}
use Rattle.std.proofs.lemmas.Int.{ints}
use Rattle.std.proofs.Common.{◌≡◌, ◌<ℤ◌, ◌≤ℤ◌, ◌∙◌, None, Some, ap, rules, arith, option_map, subst, sym, to_z, of_z, w32}
use Rattle.ics_starts.specs.Clocks.{display_clock}
use Rattle.ics_days.specs.ShownDays.{date_at}
use Rattle.ics_listing.specs.Entry.{key_rank}
use Rattle.ics_listing.specs.DayKeys.{day_key_rank, DayRank}
use Rattle.ics_listing.proofs.Cases.{some-same}
use Rattle.ics_series.proofs.AheadLemmas.{begins-first}
use Rattle.ics_series.proofs.days.begin.Goals as goal
use Rattle.ics_series.proofs.days.begin.Goals.{in_default-via-in-Some+else-first-after, in_default-via-in_default}

pub returns-in-Some-clause-begins : goal.returns-in-Some-clause-begins
returns-in-Some-clause-begins c = grind (arith, common_steps)

pub returns-in_default-clause-begins : goal.returns-in_default-clause-begins
returns-in_default-clause-begins c =
    let shown = c.first_shown-first.ensures in
    let fits : to_z w32 (of_z w32 c.first_shown-first.result) ≡ c.first_shown-first.result = search rules in
    begins-first (display_clock c.args.display.now) c.args.window.now (to_z w32 (of_z w32 c.first_shown-first.result))
    (λ t from to. subst (λ d. d ≤ℤ date_at (display_clock c.args.display.now) t) (sym fits) (shown.shown t from to))
    (option_map (λ key. day_key_rank key.now) c.args.after) (option_map (λ key. key_rank key.now) c.key_near.result)
    (λ a e. elim c.in_default.branch [
      | in_default-via-in-Some+else-first-after w ↦
          let is = ap (option_map (λ key. day_key_rank key.now)) w.in-Some.is in
          let same = ap (λ (r : DayRank). r.day) (some-same (day_key_rank w.in-Some.after.now) a (sym is ∙ e)) in
          let less : w.in-Some.after.now.day <ℤ c.first_shown-first.result = search (arith, rules) in
          omega (arith, ints, fits, same, less)
      | in_default-via-in_default w ↦
          let none = ap (option_map (λ key. day_key_rank key.now)) w.in_default.is in
          let no : None ≡ Some a = sym none ∙ e in absurd cc
    ])
    c.key_near.ensures.shown

pub returns-in_default-clause-behind : goal.returns-in_default-clause-behind
returns-in_default-clause-behind c = grind (arith, common_steps)
