-- A set to which the items of a list were added has the numbers that stand in the list, and its own.
use Rattle.std.proofs.Common.{◌≡◌, ℕ, zero, suc, ◌<◌, ◌≤◌, ◌/◌, ◌%◌, ◌^◌, Bool, true, false, ◌&&◌, ◌||◌, ◌==◌, List, [], ◌∷◌, length}
use Rattle.std.proofs.Common.{Option, Some, None, cond, refl, ap, ◌∙◌, inl, inr, get_or-set_same, get_or-set_other, set, arith, not, fold, nat_le, is_some}
use Rattle.std.specs.List.{list_any, list_all}
use Rattle.std.proofs.Math.ListN.{length-set}
use Rattle.std.proofs.lemmas.Bool.{and_parts, and_left, and_right, cond_both, leb-true, cases_eq, ne_eqb, eq-eqb}
use Rattle.std.proofs.lemmas.Bool.Decides.{nat_tests}
use Rattle.std.proofs.lemmas.Nat.{le_or_r, pow_pos}
use Rattle.jiff_core.specs.declared.civil.weekday.Weekday.{Weekday}
use Rattle.jiff_core.specs.Weekday.{monday_zero}
use Rattle.ics_fields.specs.declared.ordinals.Side.{Side}
use Rattle.ics_fields.specs.declared.ordinals.Side.TheVariants.{Front, Back}
use Rattle.ics_fields.specs.declared.ordinals.Ordinals.{Ordinals}
use Rattle.ics_fields.specs.declared.ordinals.WideOrdinals.{WideOrdinals}
use Rattle.ics_fields.specs.declared.ordinals.Weekdays.{Weekdays}
use Rattle.ics_values.specs.Digits.{are_digits, number_of}
use Rattle.ics_values.specs.Texts.{begins, is_minus, unsigned}
use Rattle.ics_fields.specs.Sets.{contains, is_empty, is_empty_wide, with_number}
use Rattle.ics_fields.specs.Ordinals.{lists_none, lists_none_wide, all_list_none, lists_no_weekday, numbers_of}
use Rattle.ics_fields.specs.Ordinals.{with_ordinal, with_wide_ordinal, with_weekday, with_numbered_weekday}
use Rattle.ics_values.specs.RuleTexts.{is_number, is_signed, is_day_item, side_of, weekday_of, day_text, number_before}
use Rattle.ics_values.specs.Rules.{with_day}
use Rattle.ics_values.specs.RuleLaws.{has_place, has_wide_place, is_side, is_place, is_day, is_weekday, is_numbered}
use Rattle.ics_fields.proofs.SetLemmas.{contains-with_number, contains_wide-with_number}
use Rattle.ics_fields.proofs.PlaceLemmas.{monday_zero_small}

-- each item that is in order adds what it tests for, and keeps the state fine
pub record Adds {S : Type 0} (step : S → List ℕ → S) (sees : S → Bool) (test fits : List ℕ → Bool) (Fine : S → Type 0) : Type 0 where
  pub fine : (s : S) (i : List ℕ) → fits i ≡ true → Fine s → Fine (step s i)
  pub adds : (s : S) (i : List ℕ) → fits i ≡ true → Fine s → sees (step s i) ≡ (test i || sees s)

pub gathered : {S : Type 0} {step : S → List ℕ → S} {sees : S → Bool} {test fits : List ℕ → Bool} {Fine : S → Type 0} → Adds step sees test fits Fine
    → (items : List (List ℕ)) → list_all fits items ≡ true → (s : S) → Fine s → sees (fold step s items) ≡ (list_any test items || sees s)
gathered a [] h s f = refl
gathered {step = step} {sees = sees} {test = test} {fits = fits} a (i ∷ items) h s f =
    let p = and_parts (fits i) (list_all fits items) h in
    gathered a items p.1 (step s i) (a.fine s i p.0 f)
    ∙ ap (λ t. list_any test items || t) (a.adds s i p.0 f)
    ∙ grind (arith, nat_tests)

-- a number that is in order is not larger than the last
pub number_high : (low high : ℕ) (text : List ℕ) → is_number low high text ≡ true → number_of text ≤ high
number_high low high text h = leb-true (number_of text) high (and_parts (are_digits text && nat_le low (number_of text)) (nat_le (number_of text) high) h).1

pub adds_number : (f : List ℕ → ℕ) (fits : List ℕ → Bool) → ((i : List ℕ) → fits i ≡ true → f i < 64) → (n : ℕ)
    → Adds (λ s i. with_number (f i) s) (λ s. contains s n) (λ i. n == f i) fits (λ s. Unit {0})
adds_number f fits small n = record { fine = λ s i h u. tt; adds = λ s i h u. contains-with_number s (f i) n (small i h) }

place_added : (side : Side) (minus : Bool) (n k : ℕ) (p : Ordinals) → k < 64 →
    has_place side n (with_ordinal (cond minus Back Front) k p) ≡ ((is_side side minus && (n == k)) || has_place side n p)
place_added Front false n k p h = contains-with_number p.front k n h
place_added Back true n k p h = contains-with_number p.back k n h
place_added _ _ n k p h = refl

pub adds_place : (high : ℕ) → high < 64 → (side : Side) (n : ℕ)
    → Adds (λ p i. with_ordinal (side_of i) (number_of (unsigned i)) p) (has_place side n) (is_place side n) (is_signed high) (λ p. Unit {0})
adds_place high small side n = record {
  fine = λ p i h u. tt;
  adds = λ p i h u. let last = number_high 1 high (unsigned i) h in place_added side (begins is_minus i) n (number_of (unsigned i)) p (omega arith);
}

-- a wide set has six words
pub record IsWide (p : WideOrdinals) : Type 0 where
  pub front : length p.front ≡ 6
  pub back : length p.back ≡ 6

wide_kept : (b : Bool) (k : ℕ) (p : WideOrdinals) → IsWide p → IsWide (with_wide_ordinal (cond b Back Front) k p)
wide_kept true k p w = record { front = w.front; back = length-set p.back (k / 64) _ ∙ w.back }
wide_kept false k p w = record { front = length-set p.front (k / 64) _ ∙ w.front; back = w.back }

wide_added : (side : Side) (minus : Bool) (n k : ℕ) {p : WideOrdinals} → k < 384 → IsWide p
    → has_wide_place side n (with_wide_ordinal (cond minus Back Front) k p) ≡ ((is_side side minus && (n == k)) || has_wide_place side n p)
wide_added Front false n k {p} h w = contains_wide-with_number p.front k n (let e = w.front in omega arith) h
wide_added Back true n k {p} h w = contains_wide-with_number p.back k n (let e = w.back in omega arith) h
wide_added _ _ n k h w = refl

pub adds_wide_place : (high : ℕ) → high < 384 → (side : Side) (n : ℕ)
    → Adds (λ p i. with_wide_ordinal (side_of i) (number_of (unsigned i)) p) (has_wide_place side n) (is_place side n) (is_signed high) IsWide
adds_wide_place high small side n = record {
  fine = λ p i h w. wide_kept (begins is_minus i) (number_of (unsigned i)) p w;
  adds = λ p i h w. let last = number_high 1 high (unsigned i) h in wide_added side (begins is_minus i) n (number_of (unsigned i)) (omega arith) w;
}

day_small : (d : Weekday) → monday_zero d < 64
day_small d = let small = monday_zero_small d in omega arith

pub adds_weekday : (d : Weekday) →
    Adds (λ w i. with_day (weekday_of (day_text i)) i w) (λ w. contains w.plain (monday_zero d)) (is_weekday d) is_day_item (λ w. Unit {0})
adds_weekday d = record { fine = λ w i h u. tt; adds = λ w i h u. by_day w i (weekday_of (day_text i)) }
  where
    by_length : (w : Weekdays) (n : List ℕ) (e : Weekday) (t : Bool) →
        contains (cond t (with_weekday e w) (with_numbered_weekday e (side_of n) (number_of (unsigned n)) w)).plain (monday_zero d)
        ≡ (((monday_zero d == monday_zero e) && t) || contains w.plain (monday_zero d))
    by_length w n e true = grind (arith, nat_tests, contains-with_number w.plain (monday_zero e) (monday_zero d) (day_small e))
    by_length w n e false = grind (arith, nat_tests)

    by_day : (w : Weekdays) (i : List ℕ) (o : Option Weekday) →
        contains (with_day o i w).plain (monday_zero d) ≡ ((is_day d o && (length i == 2)) || contains w.plain (monday_zero d))
    by_day w i None = refl
    by_day w i (Some e) = by_length w (number_before i) e (length i == 2)

-- the numbers of BYDAY stand beside seven weekdays
abbrev pub HasSeven : Weekdays → Type 0
HasSeven w = length w.numbered ≡ 7

seven_kept : (o : Option Weekday) (i : List ℕ) (w : Weekdays) → HasSeven w → HasSeven (with_day o i w)
seven_kept None i w h = h
seven_kept (Some e) i w h = cond_both (length i == 2) _ _ HasSeven (λ two. h) (λ more. length-set w.numbered (monday_zero e) _ ∙ h)

pub adds_numbered : (d : Weekday) (side : Side) (n : ℕ)
    → Adds (λ w i. with_day (weekday_of (day_text i)) i w) (λ w. has_place side n (numbers_of w (monday_zero d))) (is_numbered d side n) is_day_item HasSeven
adds_numbered d side n = record {
  fine = λ w i h u. seven_kept (weekday_of (day_text i)) i w u;
  adds = λ w i h u. by_day w i (weekday_of (day_text i)) u
      (and_parts (is_some (weekday_of (day_text i))) ((length i == 2) || is_signed 53 (number_before i)) h).1;
}
  where
    added : (e : Weekday) (item : List ℕ) (w : Weekdays) → is_signed 53 item ≡ true → HasSeven w
        → has_place side n (numbers_of (with_numbered_weekday e (side_of item) (number_of (unsigned item)) w) (monday_zero d))
        ≡ (((monday_zero d == monday_zero e) && is_place side n item) || has_place side n (numbers_of w (monday_zero d)))
    added e item w fits seven = elim (cases_eq (monday_zero d) (monday_zero e)) [
      | inl same ↦
          let last = monday_zero_small e in
          let inside : monday_zero e < length w.numbered = omega arith in
          let high = number_high 1 53 (unsigned item) fits in
          rw (same, get_or-set_same, eq-eqb (monday_zero e) (monday_zero e) refl)
          (place_added side (begins is_minus item) n (number_of (unsigned item)) (numbers_of w (monday_zero e)) (omega arith))
      | inr other ↦ rw (get_or-set_other, ne_eqb (monday_zero d) (monday_zero e) other) refl
    ]

    by_length : (w : Weekdays) (item : List ℕ) (e : Weekday) (t : Bool) → HasSeven w → (t || is_signed 53 item) ≡ true
        → has_place side n (numbers_of (cond t (with_weekday e w) (with_numbered_weekday e (side_of item) (number_of (unsigned item)) w)) (monday_zero d))
        ≡ ((((monday_zero d == monday_zero e) && not t) && is_place side n item) || has_place side n (numbers_of w (monday_zero d)))
    by_length w item e true u h = rw (and_right (monday_zero d == monday_zero e) false refl) refl
    by_length w item e false u h = grind (arith, nat_tests, added e item w h u)

    by_day : (w : Weekdays) (i : List ℕ) (o : Option Weekday) → HasSeven w → ((length i == 2) || is_signed 53 (number_before i)) ≡ true
        → has_place side n (numbers_of (with_day o i w) (monday_zero d))
        ≡ (((is_day d o && not (length i == 2)) && is_place side n (number_before i)) || has_place side n (numbers_of w (monday_zero d)))
    by_day w i None u h = refl
    by_day w i (Some e) u h = by_length w (number_before i) e (length i == 2) u h

-- what an item is put into is not empty
some_number : (n s : ℕ) → is_empty (with_number n s) ≡ false
some_number n s = ne_eqb (with_number n s) 0 (λ e. let low = le_or_r s (2 ^ n) in let some = pow_pos n in omega arith)

module _ {A : Type 0} (none : A → Bool) (all : List A → Bool) (each : (x : A) (xs : List A) → all (x ∷ xs) ≡ (none x && all xs)) where
  some_set : (xs : List A) (k : ℕ) {x : A} → k < length xs → none x ≡ false → all (set xs k x) ≡ false
  some_set [] k l h = absurd (omega arith)
  some_set (y ∷ ys) zero {x} l h = each x ys ∙ and_left (none x) (all ys) h
  some_set (y ∷ ys) (suc k) {x} l h = each y (set ys k x) ∙ and_right (none y) (all (set ys k x)) (some_set ys k (omega arith) h)

some_place : (side : Side) (n : ℕ) (p : Ordinals) → lists_none (with_ordinal side n p) ≡ false
some_place Front n p = and_left (is_empty (with_number n p.front)) (is_empty p.back) (some_number n p.front)
some_place Back n p = and_right (is_empty p.front) (is_empty (with_number n p.back)) (some_number n p.back)

some_wide_place : (side : Side) (n : ℕ) (p : WideOrdinals) → n < 384 → IsWide p → lists_none_wide (with_wide_ordinal side n p) ≡ false
some_wide_place Front n p h w =
    and_left _ _ (some_set is_empty is_empty_wide (λ x xs. refl) p.front (n / 64) (let e = w.front in omega arith) (some_number (n % 64) _))
some_wide_place Back n p h w =
    and_right _ _ (some_set is_empty is_empty_wide (λ x xs. refl) p.back (n / 64) (let e = w.back in omega arith) (some_number (n % 64) _))

some_day : (o : Option Weekday) (i : List ℕ) (w : Weekdays) → is_some o ≡ true → HasSeven w → lists_no_weekday (with_day o i w) ≡ false
some_day None i w h seven = cc
some_day (Some d) i w h seven = cond_both (length i == 2) _ _ (λ v. lists_no_weekday v ≡ false)
    (λ two. and_left _ _ (some_number (monday_zero d) w.plain))
    (λ more. and_right _ _ (some_set lists_none all_list_none (λ p ps. refl) w.numbered (monday_zero d) (let small = monday_zero_small d in omega arith)
    (some_place (side_of (number_before i)) (number_of (unsigned (number_before i))) (numbers_of w (monday_zero d)))))

-- each item that is in order leaves the state with something in it
abbrev pub Fills : {S : Type 0} → (S → List ℕ → S) → (S → Bool) → (List ℕ → Bool) → (S → Type 0) → Type 0
Fills step empty fits Fine = Adds step (λ s. not (empty s)) (λ i. true) fits Fine

pub fills_number : (f : List ℕ → ℕ) (fits : List ℕ → Bool) → Fills (λ s i. with_number (f i) s) is_empty fits (λ s. Unit {0})
fills_number f fits = record { fine = λ s i h u. tt; adds = λ s i h u. ap not (some_number (f i) s) }

pub fills_place : (fits : List ℕ → Bool) → Fills (λ p i. with_ordinal (side_of i) (number_of (unsigned i)) p) lists_none fits (λ p. Unit {0})
fills_place fits = record { fine = λ p i h u. tt; adds = λ p i h u. ap not (some_place (side_of i) (number_of (unsigned i)) p) }

pub fills_wide_place : (high : ℕ) → high < 384 → Fills (λ p i. with_wide_ordinal (side_of i) (number_of (unsigned i)) p) lists_none_wide (is_signed high) IsWide
fills_wide_place high small = record {
  fine = (adds_wide_place high small Front 0).fine;
  adds = λ p i h w. let last = number_high 1 high (unsigned i) h in ap not (some_wide_place (side_of i) (number_of (unsigned i)) p (omega arith) w);
}

pub fills_day : Fills (λ w i. with_day (weekday_of (day_text i)) i w) lists_no_weekday is_day_item HasSeven
fills_day = record {
  fine = λ w i h u. seven_kept (weekday_of (day_text i)) i w u;
  adds = λ w i h u. ap not (some_day (weekday_of (day_text i)) i w (and_parts (is_some (weekday_of (day_text i))) _ h).0 u);
}
