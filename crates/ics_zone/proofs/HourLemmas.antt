-- What two hours tell of the onsets of a rule.
use Rattle.std.proofs.Common.{◌≡◌, ℕ, ◌+◌, ◌-◌, ◌*◌, ◌/◌, ◌%◌, ◌<◌, ◌&&◌, inl, inr, refl, true, false, sym, ap, ◌∙◌, arith}
use Rattle.std.proofs.Common.{Some, List, length, set, ℤ, pos, ◌+ℤ◌, ◌-ℤ◌, ◌<ℤ◌, ◌≤ℤ◌, int_lt}
use Rattle.std.proofs.lemmas.Bool.{cases_lt, cases_eq, eq-eqb, ne_eqb, and_parts, and_from}
use Rattle.std.proofs.lemmas.Int.{ints}
use Rattle.ics_fields.specs.Sets.{contains}
use Rattle.ics_period.specs.Recurrence.{Recurrence}
use Rattle.ics_rule.specs.Kept.{is_kept}
use Rattle.ics_period.specs.PeriodNumbers.{rules_end}
use Rattle.ics_zone.specs.declared.hours.Hours.{Hours}
use Rattle.ics_zone.specs.declared.times.Times.{Times}
use Rattle.ics_zone.specs.declared.onsets.Onsets.{Onsets}
use Rattle.ics_zone.specs.Observances.{epoch, instant_by}
use Rattle.ics_zone.specs.ZoneOffsets.{natural}
use Rattle.ics_zone.specs.Inner.OnsetSets.{IsKeptAt}
use Rattle.ics_zone.specs.Inner.Hours.{keeps_time, keeps, AreHoursOf, IsToldAt, IsTold}
use Rattle.ics_zone.specs.Inner.Marks.{is_marked, IsMarked}
use Rattle.ics_zone.proofs.Cases.{int_lt_true, true_int_lt}
use Rattle.ics_zone.proofs.KeptLemmas.{to_kept, from_kept}
use Rattle.ics_zone.proofs.MinuteLemmas.{IsFront, front_is, marked-set_same, marked-set_other}
use Rattle.ics_zone.specs.Inner.Searches.{natural-is}

-- an hour and the next
pub hours_of : (r : Recurrence) (local : ℕ) (here next : Times) → ((n : ℕ) → n / 3_600 ≡ local / 3_600 → is_kept r n ≡ keeps_time here n)
    → ((n : ℕ) → n / 3_600 ≡ local / 3_600 + 1 → is_kept r n ≡ keeps_time next n)
    → AreHoursOf r local (record { hour = local / 3_600; here = here; next = next })
hours_of r local here next now later n from early = elim (cases_eq (n / 3_600) (local / 3_600)) [
  | inl e ↦ rw (eq-eqb (n / 3_600) (local / 3_600) e) (now n e)
  | inr ne ↦ rw (ne_eqb (n / 3_600) (local / 3_600) ne) (later n (omega arith))
]

-- a word of the minute that begins at a local: its seconds are the last of one minute of the clock and the first of the next
pub record IsOfTwoMinutes (hours : Hours) (local here next word : ℕ) : Type 0 where
  pub is_here : (n : ℕ) → n < 60 → contains here n ≡ keeps hours (local / 60 * 60 + n)
  pub is_next : (n : ℕ) → n < 60 → contains next n ≡ keeps hours ((local / 60 + 1) * 60 + n)
  pub low : (n : ℕ) → n + local % 60 < 60 → contains word n ≡ contains here (n + local % 60)
  pub high : (n m : ℕ) → m < local % 60 → n + local % 60 ≡ m + 60 → contains word n ≡ contains next m

-- a minute that begins at a local has the seconds of two minutes of the clock
pub minute_from_both : {hours : Hours} {local here next word : ℕ} → IsOfTwoMinutes hours local here next word
    → (n : ℕ) → n < 60 → contains word n ≡ keeps hours (local + n)
minute_from_both {hours = hours} {local = local} both n small = elim (cases_lt (n + local % 60) 60) [
  | inl less ↦ both.low n less ∙ both.is_here (n + local % 60) less ∙ ap (keeps hours) (omega arith)
  | inr more ↦ both.high n (n + local % 60 - 60) (omega arith) (omega arith) ∙ both.is_next (n + local % 60 - 60) (omega arith) ∙ ap (keeps hours) (omega arith)
]

-- two hours without times keep nothing
pub keeps_nothing : (hours : Hours) → ((n : ℕ) → keeps_time hours.here n ≡ false) → ((n : ℕ) → keeps_time hours.next n ≡ false)
    → (n : ℕ) → keeps hours n ≡ false
keeps_nothing hours here next n = grind (arith, ints)

-- the words of an hour, with one minute more
module _ (hours : Hours) (local : ℕ) (marks : List ℕ) where
  pub words_more : {minute : ℕ} {count : ℤ} {size word part : ℕ} → minute < length marks
      → IsFront minute count size word part → ((n : ℕ) → n < 60 → contains word n ≡ keeps hours (local + minute * 60 + n))
      → ((k : ℕ) → k < minute * 60 → is_marked marks k ≡ (int_lt (pos k) count && keeps hours (local + k))) → (k : ℕ) → k < (minute + 1) * 60
      → is_marked (set marks minute part) k ≡ (int_lt (pos k) count && keeps hours (local + k))
  words_more {minute = minute} {part = part} inside front is_word old k early = elim (cases_eq (k / 60) minute) [
    | inl e ↦ (
        let there : local + minute * 60 + k % 60 ≡ local + k = omega arith in
        rw (marked-set_same marks minute part k inside e, front_is front k e, is_word (k % 60) (omega arith), there) refl)
    | inr ne ↦ marked-set_other marks minute part k ne ∙ old k (omega arith)
  ]

-- two hours tell of each instant of an hour whether the rule has an onset there
pub told_by : {s : Onsets} {r : Recurrence} {hours : Hours} (from : ℤ) (local : ℕ) → s.rule ≡ Some r → from ≡ instant_by s.offset_from local
    → local + 7_200 < rules_end → AreHoursOf r local hours → IsTold s (from -ℤ pos 1) (from +ℤ pos 3_600) hours
told_by {s = s} {r = r} from local contains is early h = λ t low high.
    let at = natural-is (t +ℤ s.offset_from +ℤ pos epoch) (omega (arith, ints)) in
    record {
      rule = r;
      is_rule = contains;
      local = natural (t +ℤ s.offset_from +ℤ pos epoch);
      early = omega (arith, ints);
      is = omega (arith, ints);
      same = h (natural (t +ℤ s.offset_from +ℤ pos epoch)) (omega (arith, ints)) (omega (arith, ints));
    }

module _ (s : Onsets) (hours : Hours) (t : ℤ) (told : IsToldAt s hours t) (n : ℕ) (at : t ≡ instant_by s.offset_from n) where
  same_local : n ≡ told.local
  same_local = omega (arith, ints)

  kept_told : keeps hours n ≡ true → t ≤ℤ s.until → IsKeptAt s t
  kept_told so by_end = grind (arith, ints, same_local, to_kept)

  told_kept : IsKeptAt s t → keeps hours n ≡ true
  told_kept h = let k = from_kept s told.is_rule t h in let same : k.local ≡ n = omega (arith, ints) in grind (arith, ints, same_local)

-- what the words of an hour tell of the onsets of a rule
module _ (s : Onsets) (hours : Hours) (from : ℤ) (local : ℕ) (count : ℤ) (marks : List ℕ) (told : IsTold s (from -ℤ pos 1) (from +ℤ pos 3_600) hours)
    (at : from ≡ instant_by s.offset_from local) (words : (k : ℕ) → k < 3_600 → is_marked marks k ≡ (int_lt (pos k) count && keeps hours (local + k)))
    (down : (k : ℕ) → pos k <ℤ count → (from +ℤ pos k) ≤ℤ s.until) (up : (k : ℕ) → k < 3_600 → (from +ℤ pos k) ≤ℤ s.until → pos k <ℤ count) where
  told_at : (k : ℕ) → k < 3_600 → IsToldAt s hours (from +ℤ pos k)
  told_at k low = told (from +ℤ pos k) (omega (arith, ints)) (omega (arith, ints, low))

  known : (k : ℕ) → k < 3_600 → IsMarked marks k → IsKeptAt s (from +ℤ pos k)
  known k low m =
      let both = and_parts (int_lt (pos k) count) (keeps hours (local + k)) (sym (words k low) ∙ m) in
      kept_told s hours (from +ℤ pos k) (told_at k low) (local + k) (omega (arith, ints)) both.1 (down k (int_lt_true (pos k) count both.0))

  complete : (k : ℕ) → k < 3_600 → IsKeptAt s (from +ℤ pos k) → IsMarked marks k
  complete k low h =
      let t = told_at k low in
      let by_end = (from_kept s t.is_rule (from +ℤ pos k) h).by_end in
      words k low ∙ and_from (int_lt (pos k) count) (keeps hours (local + k)) (true_int_lt (pos k) count (up k low by_end))
      (told_kept s hours (from +ℤ pos k) t (local + k) (omega (arith, ints)) h)

  pub words_tell : ((k : ℕ) → k < 3_600 → IsMarked marks k → IsKeptAt s (from +ℤ pos k)) × ((k : ℕ) → k < 3_600 → IsKeptAt s (from +ℤ pos k) → IsMarked marks k)
  words_tell = (known, complete)
