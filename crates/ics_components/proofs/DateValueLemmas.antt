-- The values of RDATE and EXDATE, as they are read.
use Rattle.std.proofs.Common.{◌≡◌, ℕ, ◌+◌, Bool, ◌==◌, ◌&&◌, ◌||◌, not, false, List, [], ◌∷◌, length, take, drop, refl, sym, ap, ◌∙◌, cond, arith}
use Rattle.std.proofs.Common.{map, Option, Some, None, Result, Ok, Err, subst, Bor}
use Rattle.std.specs.Prelude.{nat_lt, is_none, ◌++◌}
use Rattle.std.specs.List.{list_any, position, position_or_len}
use Rattle.std.specs.Ordering.{ord_min}
use Rattle.std.specs.Result.{result_err}
use Rattle.std.proofs.lemmas.Bool.{ne_eqb}
use Rattle.std.proofs.lemmas.Bool.Decides.{nat_tests}
use Rattle.std.proofs.lemmas.List.{map-append}
use Rattle.std.proofs.lemmas.List.Folds.{list_any-append}
use Rattle.std.proofs.lemmas.Simd.{map-map}
use Rattle.ics_values.specs.Stamps.{is_date_time_form, date_exists, time_exists, stamp_of}
use Rattle.ics_values.specs.declared.stamp.Stamp.{Stamp}
use Rattle.ics_values.specs.declared.stamp.StampFault.{StampFault}
use Rattle.ics_values.specs.declared.stamp.StampFault.TheVariants as stamp
use Rattle.ics_components.specs.DateValues.{DateValue, At, date_time_of, period_of, rdate_of, rdate_in}
use Rattle.ics_components.specs.DateValues.{values_of, local_in, is_not_local}
use Rattle.ics_components.specs.contracts.fault.FaultKindOrd.TheImpl as order
use Rattle.ics_components.specs.declared.fault.FaultKind.{FaultKind}
use Rattle.ics_components.specs.declared.fault.FaultKind.TheVariants.{ObservanceField}
use Rattle.ics_components.specs.Faults.{Dates}
use Rattle.ics_components.specs.declared.refused.Refused.{Refused}
use Rattle.ics_components.specs.declared.refused.Refused.TheVariants.{Fault}
use Rattle.ics_components.specs.Lines.{Answers, misread, unfit, judged}
use Rattle.ics_components.specs.Pass.{unless}
use Rattle.ics_components.specs.declared.date_values.Listing.TheVariants as listing
use Rattle.ics_values.specs.declared.time.Rdate.{Rdate}

-- a stamp whose text has not the length of a DATE is a DATE-TIME
pub date_time-is : (zoned : Bool) (text : List ℕ) → (length text ≡ 8 → ⊥) → stamp_of zoned text ≡ date_time_of zoned text
date_time-is zoned text other =
    rw (ne_eqb (length text) 8 other) (by_form (is_date_time_form text) (date_exists text) (time_exists text) _)
  where
    by_form : (f d t : Bool) (r : Result Stamp StampFault) →
        cond (not (f && d && t)) (Err stamp.BadStamp) r ≡ cond f (cond (not (f && d && t)) (Err stamp.BadStamp) r) (Err stamp.BadStamp)
    by_form f d t r = grind arith

-- an element passes exactly where there is a first that does
pub any-first : (p : ℕ → Bool) (xs : List ℕ) → list_any p xs ≡ nat_lt (position_or_len p xs) (length xs)
any-first p [] = refl
any-first p (x ∷ xs) = let again = any-first p xs in grind (arith, nat_tests)

-- a value with a `/` at that place, and one without
abbrev pub rdate_at : Bool → List ℕ → Option ℕ → DateValue
rdate_at zoned text (Some i) = period_of zoned (take i text) (drop (i + 1) text)
rdate_at zoned text None = At (stamp_of zoned text)

pub rdate-is : (zoned : Bool) (text : List ℕ) {o : Option ℕ} → position (λ b. b == 47) text ≡ o → rdate_at zoned text o ≡ rdate_of zoned text
rdate-is zoned text e = let any = any-first (λ b. b == 47) text in grind arith

-- the least fault of several values
abbrev pub dates_fault : List DateValue → Option FaultKind
dates_fault values = misread (Dates values)

-- THE LESSER OF TWO FAULTS, where each may not be there
abbrev pub least : Option FaultKind → Option FaultKind → Option FaultKind
least o None = o
least None (Some kind) = Some kind
least (Some had) (Some kind) = Some (ord_min order.ghosts.cmp had kind)

-- the least fault of the values of a line with one more
dates-more : (vs : List DateValue) (v : DateValue) → dates_fault (vs ++ v ∷ []) ≡ least (dates_fault vs) (dates_fault (v ∷ []))
dates-more vs v = simp list_any-append (grind arith)

judged-is : (zone : Option (List ℕ)) (v : DateValue) → judged zone v ≡ unless (dates_fault (v ∷ [])) (rdate_in zone v)
judged-is tzid v = grind arith

-- an answer that is a fault
pub answers-fault : {X : Type 0} {result : Result X FaultKind} (refused : Refused) (kind : FaultKind) → refused ≡ Fault kind →
    Answers {X = X} (Err refused) result → result ≡ Err kind
answers-fault {result = result} refused kind e h = subst (λ r. Answers (Err r) result) e h

-- WHAT IS READ of the values of a line: the least fault, and what they say where there is none.
pub record IsRead (zone : Option (List ℕ)) (vs : List DateValue) (o : Option FaultKind) (ls : List (Rdate (List ℕ))) : Type 0 where
  pub fault : dates_fault vs ≡ o
  pub said : o ≡ None → ls ≡ map (rdate_in zone) vs

-- what is kept, with what one value more says
abbrev pub and_read : List (Rdate (List ℕ)) → Result (Rdate (List ℕ)) FaultKind → List (Rdate (List ℕ))
and_read ls (Ok x) = ls ++ x ∷ []
and_read ls (Err k) = ls

one-more : (o q : Option FaultKind) (ls ms : List (Rdate (List ℕ))) (x : Rdate (List ℕ)) → (o ≡ None → ls ≡ ms) →
    (least o q ≡ least o (result_err (unless q x))) × (least o (result_err (unless q x)) ≡ None → and_read ls (unless q x) ≡ ms ++ x ∷ [])
one-more o q ls ms x h = (grind arith, λ n. grind arith)

pub read-more : {A : Type 0} (zone : Option (List ℕ)) (f : A → DateValue) (ys : List A) (y : A) {o : Option FaultKind} {ls : List (Rdate (List ℕ))}
    {r : Result (Rdate (List ℕ)) FaultKind} →
    IsRead zone (map f ys) o ls → judged zone (f y) ≡ r → IsRead zone (map f (ys ++ y ∷ [])) (least o (result_err r)) (and_read ls r)
read-more zone f ys y {o = o} {ls = ls} h e =
    let one = one-more o (dates_fault (f y ∷ [])) ls (map (rdate_in zone) (map f ys)) (rdate_in zone (f y)) h.said in
    rw (← e, judged-is zone (f y), map-append f ys (y ∷ [])) (record {
      fault = rw (dates-more (map f ys) (f y), h.fault) one.0;
      said = rw (map-append (rdate_in zone) (map f ys) (f y ∷ [])) one.1;
    })

pub read-all : (zone : Option (List ℕ)) (f : List ℕ → DateValue) (ys : List (Bor (List ℕ))) {texts : List (List ℕ)} {o : Option FaultKind}
    {ls : List (Rdate (List ℕ))} → map (λ y. y.now) ys ≡ texts → IsRead zone (map (λ y. f y.now) ys) o ls → IsRead zone (map f texts) o ls
read-all zone f ys {o = o} {ls = ls} e h = subst (λ vs. IsRead zone vs o ls) (sym (map-map f (λ y. y.now) ys) ∙ ap (map f) e) h

-- a value is no local exactly where it says none
abbrev pub is_other : Rdate (List ℕ) → Bool
is_other date = is_none (local_in date)

pub others-listed : (vs : List DateValue) → list_any is_not_local vs ≡ list_any is_other (map (rdate_in None) vs)
others-listed [] = refl
others-listed (v ∷ vs) = ap (λ t. is_not_local v || t) (others-listed vs)

-- the fault on an RDATE of an observance, where its values have none
pub locals-fault : (text : List ℕ) (dates : List (Rdate (List ℕ))) → dates_fault (values_of listing.Rdate false text) ≡ None →
    dates ≡ map (rdate_in None) (values_of listing.Rdate false text) →
    unfit (Dates (values_of listing.Rdate false text)) ≡ cond (list_any is_other dates) (Some ObservanceField) None
locals-fault text dates none e = rw (none, e, others-listed (values_of listing.Rdate false text))
