-- What a rule keeps repeats after a round.
use Rattle.std.proofs.Common.{◌≡◌, ℕ, zero, suc, ◌+◌, ◌-◌, ◌*◌, ◌/◌, ◌%◌, ◌<◌, ◌≤◌, Bool, true, false, ◌&&◌, ◌||◌, ◌==◌, nat_le, refl, sym, ap, subst, ◌∙◌}
use Rattle.std.proofs.Common.{inl, inr, arith, IfSome, option_map, Option, Some, None, MatchOption, Contains, ℤ, pos, neg_ℤ, ◌+ℤ◌, ◌-ℤ◌, ◌<ℤ◌, ◌≤ℤ◌}
use Rattle.std.specs.Int.{int_min}
use Rattle.std.proofs.lemmas.Int.{ints}
use Rattle.std.proofs.lemmas.Bool.{eq-eqb}
use Rattle.std.proofs.lemmas.Bool.Decides.{nat_tests}
use Rattle.jiff_core.specs.Calendar.{IsWithin}
use Rattle.jiff_core.specs.Weekday.{monday_zero}
use Rattle.ics_fields.specs.declared.frequency.Frequency.TheVariants.{Daily, Weekly}
use Rattle.ics_fields.specs.declared.local.Local.{Local}
use Rattle.ics_fields.specs.declared.until.Until.{Until}
use Rattle.ics_fields.specs.declared.until.Until.TheVariants as until
use Rattle.ics_fields.specs.Days.{day_index}
use Rattle.ics_fields.specs.Locals.{number, calendar_end}
use Rattle.ics_fields.specs.Ordinals.{lists_none, lists_none_wide}
use Rattle.ics_fields.specs.RuleParts.{RuleParts}
use Rattle.ics_fields.specs.Sets.{is_empty}
use Rattle.ics_period.specs.declared.effective_rule.EffectiveRule.{EffectiveRule}
use Rattle.ics_period.specs.declared.kind.Kind.{Kind}
use Rattle.ics_period.specs.declared.kind.Kind.TheVariants.{DateTime}
use Rattle.ics_period.specs.DateParts.{names_weekdays_alone}
use Rattle.ics_period.specs.EffectiveRules.{effective, effective_at}
use Rattle.ics_period.specs.Recurrence.{Recurrence}
use Rattle.ics_period.specs.PeriodNumbers.{day_of, rules_end}
use Rattle.ics_period.specs.Candidates.{is_stepped, lets_clock, lets_date, period_in}
use Rattle.ics_period.specs.Ranks.{count, is_chosen}
use Rattle.ics_period.specs.RecurrencePeriods.{first_local, is_let_in}
use Rattle.ics_period.proofs.Counts.{count-from, count-same}
use Rattle.ics_period.proofs.PeriodLemmas.{before_first, begins, begun, is_short, period_mono}
use Rattle.ics_period.proofs.RankLemmas.{count_flat}
use Rattle.ics_period.proofs.Tests.{keep_true, unequal}
use Rattle.ics_rule.specs.ByTable.{is_nth}
use Rattle.ics_rule.specs.Inner.Rounds.{calendar_periods, seconds_of, IsRound}
use Rattle.ics_rule.specs.Inner.Searches.{is_wanted}
use Rattle.ics_rule.specs.Kept.{is_by_until, is_kept}
use Rattle.ics_rule.proofs.CalendarRounds.{calendar_is}
use Rattle.ics_rule.proofs.ChosenLemmas.{beside_let_in, chosen_by}
use Rattle.ics_rule.proofs.NextLemmas.{kept_later}
use Rattle.ics_rule.proofs.RoundLemmas.{round_is}
use Rattle.ics_rule.proofs.RoundLemmas as rounds
use Rattle.ics_zone.specs.declared.gaps.Gap.{Gap}
use Rattle.ics_zone.specs.declared.onsets.Onsets.{Onsets}
use Rattle.ics_zone.specs.declared.rounds.Round.{Round}
use Rattle.ics_zone.specs.Observances.{ObservanceSaid, instant_by}
use Rattle.ics_zone.specs.Inner.OnsetSets.{Has, HasRound, IsGap, IsKeptAt, IsKeptBy, IsSound, held_rule}
use Rattle.ics_zone.specs.Inner.Repeats.{IsCalendar, IsRepeated, IsRoundOf, Repeats, third_year}
use Rattle.ics_zone.proofs.Cases.{less_or_not_z}
use Rattle.ics_zone.proofs.FoundLemmas.{round_of}
use Rattle.ics_zone.proofs.KeptLemmas.{from_kept, to_kept}

-- a local that the rule lets in, and its place among those of its period
chosen_is : (q : EffectiveRule) (start n : ℕ) → is_chosen q start n
    ≡ (is_stepped (period_in q start) q.interval (period_in q n) && ((lets_date q (day_of n) && lets_clock q n)
    && (lists_none_wide q.positions || is_nth q.positions (is_let_in q (period_in q n)) n)))
chosen_is q start n =
    chosen_by q start n (is_stepped (period_in q start) q.interval (period_in q n)) (lets_date q (day_of n) && lets_clock q n) (is_let_in q (period_in q n))
    (grind arith)
    (ap (λ x. x && (lets_date q (day_of n) && lets_clock q n)) (eq-eqb (period_in q n) (period_in q n) refl))
    (λ step m l. beside_let_in q start n m step refl)

alike : {s t i j x y : Bool} (b : Bool) → s ≡ t → i ≡ j → x ≡ y → (s && (i && (b || x))) ≡ (t && (j && (b || y)))
alike b s i x = rw (s, i, x) refl

shifted : (a b k : ℕ) → (a + k == b + k) ≡ (a == b)
shifted a b k = grind (arith, nat_tests)

module _ (q : EffectiveRule) {periods seconds : ℕ} (round : IsRound q periods seconds) where
  abbrev first : ℕ → ℕ
  first p = first_local q.frequency (monday_zero q.week_start) p

  let_in_again : (p n : ℕ) → is_let_in q (p + periods) (n + seconds) ≡ is_let_in q p n
  let_in_again p n = rw (round.period n, shifted (period_in q n) p periods, round.let_in n) refl

  none_before : (p n : ℕ) → 2 ≤ p → n < seconds → is_let_in q (p + periods) n ≡ false
  none_before p n some less =
      let early = before_first q.frequency (monday_zero q.week_start) (p + periods) n (let at = round.first p some in omega (arith, at, less)) in
      ap (λ x. x && (lets_date q (day_of n) && lets_clock q n)) (unequal (period_in q n) (p + periods) (inl early))

  none_after : (p n : ℕ) → first (suc p) ≤ n → is_let_in q p n ≡ false
  none_after p n late =
      let past = begins q.frequency (monday_zero q.week_start) (suc p) n late in
      ap (λ x. x && (lets_date q (day_of n) && lets_clock q n)) (unequal (period_in q n) p (inr past))

  count_again : (p n : ℕ) → 2 ≤ p → count (seconds + n) (is_let_in q (p + periods)) ≡ count n (is_let_in q p)
  count_again p n some =
      count-from seconds n (is_let_in q (p + periods)) (λ m l. none_before p m some l)
      ∙ count-same n (λ k. is_let_in q (p + periods) (seconds + k)) (is_let_in q p)
      (λ k l. ap (is_let_in q (p + periods)) (let e : seconds + k ≡ k + seconds = omega arith in e) ∙ let_in_again p k)

  count_to : (p n m : ℕ) → 2 ≤ p → m ≡ n + seconds → count m (is_let_in q (p + periods)) ≡ count n (is_let_in q p)
  count_to p n m some e = ap (λ x. count x (is_let_in q (p + periods))) (let f : m ≡ seconds + n = omega (arith, e) in f) ∙ count_again p n some

  -- the whole of the period is before the end of the calendar
  count_all : (p : ℕ) → 2 ≤ p → first (suc p) + seconds ≤ calendar_end → count calendar_end (is_let_in q (p + periods)) ≡ count calendar_end (is_let_in q p)
  count_all p some inside =
      let rest = count_flat (calendar_end - seconds) calendar_end (is_let_in q p) (omega arith) (λ m low high. none_after p m (omega (arith, low, inside))) in
      count_to p (calendar_end - seconds) calendar_end some (omega (arith, inside)) ∙ sym rest

  nth_again : (p n : ℕ) → 2 ≤ p → first (suc p) + seconds ≤ calendar_end
      → is_nth q.positions (is_let_in q (p + periods)) (n + seconds) ≡ is_nth q.positions (is_let_in q p) n
  nth_again p n some inside =
      rw (count_to p (suc n) (suc (n + seconds)) some (omega arith), count_to p n (n + seconds) some refl, count_all p some inside) refl

  pub chosen_again : (start n : ℕ) → start < n → 2 ≤ period_in q n → n + seconds < rules_end → is_chosen q start (n + seconds) ≡ is_chosen q start n
  chosen_again start n after some early =
      let p = period_in q n in
      let low = period_mono q.frequency (monday_zero q.week_start) start n (omega (arith, after)) in
      let own = begun q.frequency (monday_zero q.week_start) (p + periods) (n + seconds) (let at = round.period n in omega (arith, at)) in
      let short = is_short q.frequency (monday_zero q.week_start) p in
      let at = round.first p some in
      let inside : first (suc p) + seconds ≤ calendar_end = omega (arith, own, short, at, early) in
      chosen_is q start (n + seconds)
      ∙ alike (lists_none_wide q.positions)
      (ap (is_stepped (period_in q start) q.interval) (round.period n) ∙ round.step (period_in q start) p low)
      (round.let_in n)
      (ap (λ x. is_nth q.positions (is_let_in q x) (n + seconds)) (round.period n) ∙ nth_again p n some inside)
      ∙ sym (chosen_is q start n)

by_earlier : (kind : Kind) (u : Option Until) (n m : ℕ) → n ≤ m → is_by_until kind u m ≡ true → is_by_until kind u n ≡ true
by_earlier kind u n m order by = grind (arith, nat_tests)

later_periods : (q : EffectiveRule) (n : ℕ) → third_year ≤ n → 2 ≤ period_in q n
later_periods q n late =
    let zero = begun q.frequency (monday_zero q.week_start) (period_in q 0) 0 (omega arith) in
    let one = is_short q.frequency (monday_zero q.week_start) (period_in q 0) in
    let two = is_short q.frequency (monday_zero q.week_start) (suc (period_in q 0)) in
    let past = begins q.frequency (monday_zero q.week_start) (suc (suc (period_in q 0))) n (omega (arith, zero, one, two, late)) in
    omega (arith, past)

-- so a rule without COUNT keeps the same a round later
pub repeats : (r : Recurrence) {periods seconds : ℕ} → IsRound (effective r) periods seconds → r.parts.count ≡ None → Repeats r seconds
repeats r {seconds = seconds} round free n after late early by =
    kept_is (n + seconds) (omega (arith, after)) early by
    ∙ chosen_again (effective r) round (number r.start) n after (later_periods (effective r) n late) early
    ∙ sym (kept_is n after (omega (arith, early)) (by_earlier r.kind r.parts.until n (n + seconds) (omega arith) by))
  where
    kept_is : (n : ℕ) → number r.start < n → n < rules_end → is_by_until r.kind r.parts.until n ≡ true
        → is_kept r n ≡ is_chosen (effective r) (number r.start) n
    kept_is n after early by =
        kept_later r n after early
        ∙ ap (λ b. is_wanted (effective r) (number r.start) r.parts.count n && b) by
        ∙ keep_true (is_wanted (effective r) (number r.start) r.parts.count n)
        ∙ ap (λ o. is_wanted (effective r) (number r.start) o n) free

-- and many rounds later
pub often : (offset : ℤ) (r : Recurrence) (round : Round) → IsRepeated offset r round → (j n : ℕ) → round.after <ℤ instant_by offset n
    → instant_by offset (n + j * round.seconds) ≤ℤ round.to → is_kept r (n + j * round.seconds) ≡ is_kept r n
often offset r round on zero n late early = ap (is_kept r) (let same : n + 0 * round.seconds ≡ n = omega arith in same)
often offset r round on (suc j) n late early =
    let same : n + suc j * round.seconds ≡ n + j * round.seconds + round.seconds = omega arith in
    let before : n + j * round.seconds ≤ n + suc j * round.seconds = omega (arith, same) in
    ap (is_kept r) same
    ∙ (on (n + j * round.seconds) (omega (arith, ints, late)) (rw (sym same) early)).1
    ∙ often offset r round on j n late (omega (arith, ints, early, before))

-- a rule of days or weeks that names weekdays alone repeats after a week, or as many as its interval
module _ (p : RuleParts) (months : is_empty p.months ≡ true) (month_days : lists_none p.month_days ≡ true)
    (year_days : lists_none_wide p.year_days ≡ true) (weeks : lists_none p.weeks ≡ true) (some : 1 ≤ p.interval) where
  weeks_are : (unit : ℕ) (kind : Kind) (n : ℕ) → unit ≡ seconds_of p.frequency → 0 < unit → 604_800 % unit ≡ 0
      → names_weekdays_alone (effective_at p kind n) ≡ true
      → IsRound (effective_at p kind n) (p.interval * (604_800 / unit)) (p.interval * (604_800 / unit) * unit)
  weeks_are unit kind n is fine whole alone =
      round_is {q = effective_at p kind n} {seconds = 604_800} {unit = unit} is fine whole (omega arith) some
      (rounds.repeats (effective_at p kind n) alone (rw (sym is) fine) 604_800 (inr refl) (inr refl) (inr refl) (inr refl))

  weekly : p.frequency ≡ Weekly → (kind : Kind) (n : ℕ) → (k : ℕ) × IsRound (effective_at p kind n) k (604_800 * p.interval)
  weekly is kind n =
      let alone : names_weekdays_alone (effective_at p kind n) ≡ true = rw is (rw (months, month_days, year_days, weeks) refl) in
      let same : p.interval * (604_800 / 604_800) * 604_800 ≡ 604_800 * p.interval = omega arith in (
        p.interval * (604_800 / 604_800),
        subst (IsRound (effective_at p kind n) (p.interval * (604_800 / 604_800))) same
            (weeks_are 604_800 kind n (rw is refl) (omega arith) refl alone),
      )

  daily : p.frequency ≡ Daily → (kind : Kind) (n : ℕ) → (k : ℕ) × IsRound (effective_at p kind n) k (604_800 * p.interval)
  daily is kind n =
      let alone : names_weekdays_alone (effective_at p kind n) ≡ true = rw is (rw (months, month_days, year_days, weeks) refl) in
      let same : p.interval * (604_800 / 86_400) * 86_400 ≡ 604_800 * p.interval = omega arith in (
        p.interval * (604_800 / 86_400),
        subst (IsRound (effective_at p kind n) (p.interval * (604_800 / 86_400))) same
            (weeks_are 86_400 kind n (rw is refl) (omega arith) refl alone),
      )

-- whatever its COUNT is
module _ (p : RuleParts) (months : is_empty p.months ≡ true) (month_days : lists_none p.month_days ≡ true)
    (year_days : lists_none_wide p.year_days ≡ true) (weeks : lists_none p.weeks ≡ true) (some : 1 ≤ p.interval) where
  pub weekly_is : p.frequency ≡ Weekly → IsRoundOf p (604_800 * p.interval)
  weekly_is is o kind n = weekly (record p { count = o }) months month_days year_days weeks some is kind n

  pub daily_is : p.frequency ≡ Daily → IsRoundOf p (604_800 * p.interval)
  daily_is is o kind n = daily (record p { count = o }) months month_days year_days weeks some is kind n

-- each rule repeats after as many of the calendar's 400 years as are whole steps
pub calendar_round_is : (p : RuleParts) (seconds : ℕ) → IsCalendar p.frequency p.interval seconds → IsRoundOf p seconds
calendar_round_is p seconds is o kind n =
    let q = effective_at (record p { count = o }) kind n in (
      is.cycles * calendar_periods p.frequency,
      subst (IsRound q (is.cycles * calendar_periods p.frequency)) (sym is.whole)
          (calendar_is q (is.cycles * calendar_periods p.frequency) (record { cycles = is.cycles; some = is.some; whole = refl; step = is.step })),
    )

pub calendar_rounds_are : (p : RuleParts) (o : Option ℕ) → IfSome o (IsCalendar p.frequency p.interval) → IfSome o (IsRoundOf p)
calendar_rounds_are p None is = tt
calendar_rounds_are p (Some seconds) is = calendar_round_is p seconds is

-- UNTIL lets through what is not later
pub until_local : (u : Until) (l : Local) (n : ℕ) → u ≡ until.Local l → nat_le n (number l) ≡ true → is_by_until DateTime (Some u) n ≡ true
until_local u l n is h = rw is h

pub until_date : (u : Until) (d : ℤ) (n : ℕ) → u ≡ until.Date d → nat_le (day_of n) (day_index d) ≡ true → is_by_until DateTime (Some u) n ≡ true
until_date u d n is h = rw is h

pub by_local : (offset at : ℤ) (n m k : ℕ) → at ≡ instant_by offset m → m ≡ k → instant_by offset n ≤ℤ at → nat_le n k ≡ true
by_local offset at n m k is same h = let low : n ≤ k = omega (arith, ints, is, same, h) in grind (arith, nat_tests)

pub by_date : (offset at : ℤ) (n m d : ℕ) → at ≡ instant_by offset m → m ≡ d * 86_400 → instant_by offset n ≤ℤ at → nat_le (day_of n) d ≡ true
by_date offset at n m d is same h =
    let low : n ≤ m = omega (arith, ints, is, h) in let day : n / 86_400 ≤ d = omega (arith, same, low) in grind (arith, nat_tests)

effective_is : (start : Local) (p : RuleParts) → effective (held_rule start p) ≡ effective_at (record p { count = None }) DateTime (number start)
unfolding effective
effective_is start p = refl

-- the round of the rule of an observance
pub repeated : (offset : ℤ) (start : Local) (p : RuleParts) (round : Round) → IsWithin 86_399 offset → IsRoundOf p round.seconds
    → neg_ℤ (pos 62_072_524_800) ≤ℤ round.after → instant_by offset (number start) ≤ℤ round.after → round.to ≤ℤ pos 247_059_417_600
    → ((n : ℕ) → instant_by offset n ≤ℤ round.to → is_by_until DateTime p.until n ≡ true) → IsRepeated offset (held_rule start p) round
repeated offset start p round within is third after last lets n late early =
    let inside : n + round.seconds < rules_end = omega (arith, ints, early, last, within) in
    let own = is None DateTime (number start) in
    let round_is = subst (λ q. IsRound q own.0 round.seconds) (sym (effective_is start p)) own.1 in
    let low : third_year ≤ n = omega (arith, ints, late, third, within) in
    (inside, repeats (held_rule start p) round_is refl n (omega (arith, ints, late, after)) low inside (lets (n + round.seconds) early))

pub round_there : (p : ObservanceSaid) (o : RuleParts) (start : Local) (offset : ℤ) (round : Round) → p.rule ≡ Some o → p.start ≡ start
    → p.offset_from ≡ offset → IsRepeated offset (held_rule start o) round
    → IfSome (option_map (held_rule p.start) p.rule) (λ r. IsRepeated p.offset_from r round)
round_there p o start offset round is at from h = rw (is, at, from) h

-- the earlier of two ends
pub next_by : (next far back one two least : ℤ) → far ≡ int_min next (pos 1_000_000_000_000) → one ≡ far +ℤ back → least ≡ int_min one two
    → least ≤ℤ (next +ℤ back)
next_by next far back one two least a b c = grind (arith, ints, less_or_not_z)

pub next_to : (to end one two least : ℤ) → end ≡ int_min to (pos 1_000_000_000_000) → two ≡ end +ℤ pos 1 → least ≡ int_min one two → least ≤ℤ (to +ℤ pos 1)
next_to to end one two least a b c = grind (arith, ints, less_or_not_z)

pub next_about : (next far back to end one two least : ℤ) → far ≡ int_min next (pos 1_000_000_000_000) → one ≡ far +ℤ back
    → end ≡ int_min to (pos 1_000_000_000_000) → two ≡ end +ℤ pos 1 → least ≡ int_min one two → pos 0 ≤ℤ back
    → (t : ℤ) → t <ℤ (next +ℤ back) → t ≤ℤ to → t ≤ℤ pos 247_059_417_600 → t <ℤ least
next_about next far back to end one two least a b c d e some t early in_end low = grind (arith, ints, less_or_not_z)

rule_some : (o : Option Recurrence) (offset until t : ℤ) → MatchOption o ⊥ (λ r. IsKeptBy offset until r t) → (r : Recurrence) × (o ≡ Some r)
rule_some None offset until t h = absurd h
rule_some (Some r) offset until t h = (r, refl)

round_kept : (s : Onsets) (r : Recurrence) → s.rule ≡ Some r → HasRound s → IsRepeated s.offset_from r s.round
round_kept s r contains has =
    subst (λ (o : Option Recurrence). MatchOption o (Unit {0}) (λ r. IsRepeated s.offset_from r s.round)) contains (round_of s has)

-- a gap some rounds later
module _ (s : Onsets) (sound : IsSound s) (j : ℕ) (gap new : Gap) (m : ℤ) (is : IsGap (Has s) gap)
    (listed : (t : ℤ) → Contains s.listed.items t → t <ℤ gap.last) (from : s.round.after <ℤ gap.last)
    (last : new.last ≡ gap.last +ℤ pos (j * s.round.seconds)) (about : new.last ≤ℤ m) (until : m ≤ℤ s.until) (to : m ≤ℤ s.round.to)
    (high : m ≤ℤ pos 247_059_417_600) (near : new.next ≤ℤ (gap.next +ℤ pos (j * s.round.seconds))) (bound : new.next ≤ℤ (s.round.to +ℤ pos 1)) where
  module _ (r : Recurrence) (contains : s.rule ≡ Some r) (k : IsKeptBy s.offset_from s.until r gap.last) where
    kept_later_on : IsKeptAt s new.last
    kept_later_on =
        let at : instant_by s.offset_from (k.local + j * s.round.seconds) ≡ new.last = omega (arith, ints, k.is, last) in
        let same = often s.offset_from r s.round (round_kept s r contains sound.repeats) j k.local (omega (arith, ints, k.is, from))
        (omega (arith, ints, at, about, to)) in
        to_kept s contains new.last (record {
          local = k.local + j * s.round.seconds;
          early = omega (arith, ints, at, about, high, sound.from_in);
          kept = same ∙ k.kept;
          is = sym at;
          by_end = omega (arith, ints, about, until);
        })

    not_before : (t : ℤ) → IsKeptBy s.offset_from s.until r t → new.last <ℤ t → t ≤ℤ s.round.to → new.next ≤ℤ t
    not_before t o late early =
        let far : j * s.round.seconds ≤ o.local = omega (arith, ints, o.is, k.is, late, last) in
        let back : o.local - j * s.round.seconds + j * s.round.seconds ≡ o.local = omega (arith, far) in
        let at : instant_by s.offset_from (o.local - j * s.round.seconds) ≡ t -ℤ pos (j * s.round.seconds) = omega (arith, ints, o.is, far, back) in
        let same = often s.offset_from r s.round (round_kept s r contains sound.repeats) j (o.local - j * s.round.seconds)
        (omega (arith, ints, at, late, last, from)) (omega (arith, ints, back, o.is, early)) in
        let kept : IsKeptAt s (t -ℤ pos (j * s.round.seconds)) = to_kept s contains (t -ℤ pos (j * s.round.seconds)) (record {
          local = o.local - j * s.round.seconds;
          early = omega (arith, o.early);
          kept = sym same ∙ ap (is_kept r) back ∙ o.kept;
          is = sym at;
          by_end = omega (arith, ints, o.by_end);
        }) in
        let past = is.next (t -ℤ pos (j * s.round.seconds)) (inr kept) (omega (arith, ints, late, last)) in
        omega (arith, ints, past, near)

  last_is : IsKeptAt s gap.last
  last_is = elim is.is [
    | inl first ↦ absurd (let less = listed gap.last first in omega (arith, ints, less))
    | inr kept ↦ kept
  ]

  pub later_gap : IsGap (Has s) new
  later_gap =
      let r = rule_some s.rule s.offset_from s.until gap.last last_is in
      let k = from_kept s r.1 gap.last last_is in
      record {
        is = inr (kept_later_on r.0 r.1 k);
        next = λ t h late. elim h [
          | inl first ↦ absurd (let less = listed t first in omega (arith, ints, less, late, last))
          | inr kept ↦ elim (less_or_not_z s.round.to t) [
            | inl past ↦ omega (arith, ints, past, bound)
            | inr early ↦ not_before r.0 r.1 k t (from_kept s r.1 t kept) late early
          ]
        ];
      }
