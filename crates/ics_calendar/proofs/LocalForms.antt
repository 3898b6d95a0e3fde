-- A stamp in a time zone is a local form that stands in its value, with neither a digit nor a Z behind it.
use Rattle.std.proofs.Common.{◌≡◌, ℕ, ◌+◌, Bool, true, false, ◌||◌, ◌&&◌, ◌==◌, List, [], ◌∷◌, ◌++◌, length, take, drop, map, refl, sym, ap, ◌∙◌}
use Rattle.std.proofs.Common.{append_assoc, arith, cond, Option, Ok, Err, suc, ⊎_elim}
use Rattle.std.proofs.Math.Seq.{drop-append_seam, take-append_seam}
use Rattle.std.proofs.lemmas.Bool.Decides.{nat_tests}
use Rattle.std.proofs.lemmas.List.{append-nil, take-append-drop}
use Rattle.std.specs.Prelude.{is_some, not}
use Rattle.std.specs.List.{Contains, list_any, onto_first, position_or_len}
use Rattle.ics_text.specs.Bytes.{begins}
use Rattle.ics_values.specs.Periods.{first_half, lasts, second_half}
use Rattle.ics_values.specs.RuleTexts.{pieces}
use Rattle.ics_values.specs.Stamps.{date_exists, day_of, is_date_form, is_date_time_form, is_local_form, is_stamp_text, is_stamp_year, is_utc_form, local_of}
use Rattle.ics_values.specs.Stamps.{stamp_of}
use Rattle.ics_values.specs.Stamps.{stamp_said, time_exists, year_of}
use Rattle.ics_values.specs.Zoned.{is_zoned}
use Rattle.ics_values.specs.declared.stamp.Stamp.TheVariants.{Date, Floating, Utc, Zoned}
use Rattle.ics_values.specs.declared.stamp.StampFault.TheVariants.{BadStamp, YearRange}
use Rattle.ics_components.specs.DateValues.{At, date_time_of, has_slash, has_zoned, period_of, rdate_in, rdate_of, value_of, values_of}
use Rattle.ics_components.specs.declared.date_values.Listing.{Listing}
use Rattle.ics_components.specs.declared.date_values.Listing.TheVariants as listing
use Rattle.ics_components.specs.EventLines.{begins_with_local, goes_on, has_local}
use Rattle.ics_components.specs.Values.{stamp_in, stamp_read, zone_name}
use Rattle.ics_calendar.proofs.PartLaws.{at-cons, here, no-element, there}
use Rattle.ics_components.proofs.RestFaults.{either-of, right-or}

-- A ZONED STAMP is a local form.
shape : (d u l a b c : Bool) → ((d && a) || ((u || l) && b && c)) ≡ true → d ≡ false → u ≡ false → l ≡ true
shape true u l a b c e d f = let no : true ≡ false = d in cc
shape false true l a b c e d f = let no : true ≡ false = f in cc
shape false false true a b c e d f = refl
shape false false false a b c e d f = let no : false ≡ true = e in cc

form : (text : List ℕ) → is_stamp_text text ≡ true → is_date_form text ≡ false → is_utc_form text ≡ false → is_local_form text ≡ true
form text s d u =
    shape (is_date_form text) (is_utc_form text) (is_local_form text) (date_exists text) (date_exists text) (time_exists text) s d u

said-form : (zoned : Bool) (text : List ℕ) → is_stamp_text text ≡ true → is_zoned (stamp_said zoned text) ≡ true → is_local_form text ≡ true
said-form zoned text s e = by_tests (is_date_form text) (is_utc_form text) refl refl e
  where
    by_tests : (d u : Bool) → is_date_form text ≡ d → is_utc_form text ≡ u →
        is_zoned (cond d (Date (day_of text)) (cond u (Utc (local_of text)) (cond zoned (Zoned (local_of text)) (Floating (local_of text))))) ≡ true →
        is_local_form text ≡ true
    by_tests true u d f e = let no : false ≡ true = e in cc
    by_tests false true d f e = let no : false ≡ true = e in cc
    by_tests false false d f e = form text s d f

zoned-form : (zoned : Bool) (text : List ℕ) → is_zoned (stamp_in (stamp_of zoned text)) ≡ true → is_local_form text ≡ true
zoned-form zoned text e = by_tests (is_stamp_text text) (is_stamp_year (year_of text)) refl e
  where
    by_tests : (s y : Bool) → is_stamp_text text ≡ s →
        is_zoned (stamp_in (cond (not s) (Err BadStamp) (cond (not y) (Err YearRange) (Ok (stamp_said zoned text))))) ≡ true → is_local_form text ≡ true
    by_tests false y s e = let no : false ≡ true = e in cc
    by_tests true false s e = let no : false ≡ true = e in cc
    by_tests true true s e = said-form zoned text s e

half-form : (zoned : Bool) (text : List ℕ) → is_zoned (stamp_in (date_time_of zoned text)) ≡ true → is_local_form text ≡ true
half-form zoned text e = by_test (is_date_time_form text) e
  where
    by_test : (t : Bool) → is_zoned (stamp_in (cond t (stamp_of zoned text) (Err BadStamp))) ≡ true → is_local_form text ≡ true
    by_test true e = zoned-form zoned text e
    by_test false e = let no : false ≡ true = e in cc

-- A TEXT STANDS in a value where what follows does not go on.
abbrev pub Stands : List ℕ → List ℕ → Type 0
Stands value text = (front : List ℕ) × (rest : List ℕ) × (value ≡ front ++ (text ++ rest)) × (begins goes_on rest ≡ false)

stands-itself : (text : List ℕ) → Stands text text
stands-itself text = ([], [], sym (append-nil text), refl)

both-stop : (a b : List ℕ) → begins goes_on a ≡ false → begins goes_on b ≡ false → begins goes_on (a ++ b) ≡ false
both-stop [] b e f = f
both-stop (x ∷ a) b e f = e

stands-in : (value text part : List ℕ) → Stands value text → Stands text part → Stands value part
stands-in value text part s p = (
  s.0 ++ p.0,
  p.1 ++ s.1,
  s.2 ∙ ap (λ t. s.0 ++ (t ++ s.1)) p.2 ∙ ap (λ t. s.0 ++ t) (append_assoc p.0 (part ++ p.1) s.1 ∙ ap (λ t. p.0 ++ t) (append_assoc part p.1 s.1))
      ∙ sym (append_assoc s.0 p.0 (part ++ (p.1 ++ s.1))),
  both-stop p.1 s.1 p.3 s.3,
)

first-true : (l a b c : Bool) → (l && a && b && c) ≡ true → l ≡ true
first-true true a b c e = refl
first-true false a b c e = let no : false ≡ true = e in cc

local-long : (text : List ℕ) → is_local_form text ≡ true → length text ≡ 15
local-long text e =
    let is : (length text == 15) ≡ true = first-true (length text == 15) _ _ _ e in grind (arith, nat_tests, is)

local-begins : (text rest : List ℕ) → is_local_form text ≡ true → begins goes_on rest ≡ false → begins_with_local (text ++ rest) ≡ true
local-begins text rest e f =
    let long = local-long text e in
    let taken : take 15 (text ++ rest) ≡ text = ap (λ n. take n (text ++ rest)) (sym long) ∙ take-append_seam text rest in
    let left : drop 15 (text ++ rest) ≡ rest = ap (λ n. drop n (text ++ rest)) (sym long) ∙ drop-append_seam text rest in
    let first : is_local_form (take 15 (text ++ rest)) ≡ true = ap is_local_form taken ∙ e in
    let stops : not (begins goes_on (drop 15 (text ++ rest))) ≡ true = ap (λ r. not (begins goes_on r)) left ∙ ap not f in
    λ i. first i && stops i

now-has : (text : List ℕ) → begins_with_local text ≡ true → has_local text ≡ true
now-has [] e = let no : false ≡ true = e in cc
now-has (b ∷ bs) e = ap (λ t. t || has_local bs) e

then-has : (front text : List ℕ) → has_local text ≡ true → has_local (front ++ text) ≡ true
then-has [] text e = e
then-has (b ∷ front) text e = right-or (begins_with_local (b ∷ (front ++ text))) (has_local (front ++ text)) (then-has front text e)

pub stands-has : (value text : List ℕ) → Stands value text → is_local_form text ≡ true → has_local value ≡ true
stands-has value text s e = ap has_local s.2 ∙ then-has s.0 (text ++ s.1) (now-has (text ++ s.1) (local-begins text s.1 e s.3))

-- A STAMP of a line.
pub stamp-has : (params value : List ℕ) → is_zoned (stamp_in (stamp_read params value)) ≡ true → has_local value ≡ true
stamp-has params value e = stands-has value value (stands-itself value) (zoned-form (is_some (zone_name params)) value e)

-- THE HALVES of a PERIOD stand in it.
first-stands : (text : List ℕ) → (rest : List ℕ) × (text ≡ first_half text ++ rest) × (begins goes_on rest ≡ false)
first-stands [] = ([], refl, refl)
first-stands (b ∷ bs) = by_test (b == 47) refl (first-stands bs)
  where
    rest_of_it : ℕ
    rest_of_it = position_or_len (λ b. b == 47) bs

    slash : (b == 47) ≡ true → goes_on b ≡ false
    slash is = let same : b ≡ 47 = grind (arith, nat_tests, is) in ap goes_on same

    by_test : (t : Bool) → (b == 47) ≡ t → (rest : List ℕ) × (bs ≡ first_half bs ++ rest) × (begins goes_on rest ≡ false) →
        (rest : List ℕ) × ((b ∷ bs) ≡ take (cond (not t) (1 + rest_of_it) 0) (b ∷ bs) ++ rest) × (begins goes_on rest ≡ false)
    by_test true is again = (b ∷ bs, refl, slash is)
    by_test false is again =
        let one : suc rest_of_it ≡ 1 + rest_of_it = omega arith in
        (again.0, ap (λ (xs : List ℕ). b ∷ xs) again.1 ∙ ap (λ n. take n (b ∷ bs) ++ again.0) one, again.2)

first-in : (text : List ℕ) → Stands text (first_half text)
first-in text = let is = first-stands text in ([], is.0, is.1, is.2)

second-in : (text : List ℕ) → Stands text (second_half text)
second-in text =
    let n = position_or_len (λ b. b == 47) text + 1 in
    (take n text, [], sym (take-append-drop n text) ∙ ap (λ t. take n text ++ t) (sym (append-nil (drop n text))), refl)

-- A VALUE of an RDATE or an EXDATE.
rdate-has : (zone : Option (List ℕ)) (zoned : Bool) (text : List ℕ) → has_zoned (rdate_in zone (rdate_of zoned text)) ≡ true →
    (part : List ℕ) × Stands text part × (is_local_form part ≡ true)
rdate-has zone zoned text e = by_slash (has_slash text) e
  where
    Found : Type 0
    Found = (part : List ℕ) × Stands text part × (is_local_form part ≡ true)

    start : is_zoned (stamp_in (date_time_of zoned (first_half text))) ≡ true → Found
    start e = (first_half text, first-in text, half-form zoned (first_half text) e)

    stop : is_zoned (stamp_in (date_time_of zoned (second_half text))) ≡ true → Found
    stop e = (second_half text, second-in text, half-form zoned (second_half text) e)

    by_end : (t : Bool) → lasts (second_half text) ≡ t → has_zoned (rdate_in zone (period_of zoned (first_half text) (second_half text))) ≡ true → Found
    by_end true is e = start (rw is at e)
    by_end false is e =
        ⊎_elim start stop
        (either-of (is_zoned (stamp_in (date_time_of zoned (first_half text)))) (is_zoned (stamp_in (date_time_of zoned (second_half text)))) (rw is at e))

    by_slash : (t : Bool) → has_zoned (rdate_in zone (cond t (period_of zoned (first_half text) (second_half text)) (At (stamp_of zoned text)))) ≡ true → Found
    by_slash true e = by_end (lasts (second_half text)) refl e
    by_slash false e = (text, stands-itself text, zoned-form zoned text e)

value-has : (list : Listing) (zone : Option (List ℕ)) (zoned : Bool) (text : List ℕ) → has_zoned (rdate_in zone (value_of list zoned text)) ≡ true →
    (part : List ℕ) × Stands text part × (is_local_form part ≡ true)
value-has listing.Rdate zone zoned text e = rdate-has zone zoned text e
value-has listing.Exdate zone zoned text e = (text, stands-itself text, zoned-form zoned text e)

-- THE PIECES between commas stand in a value.
abbrev Pieces : List ℕ → List (List ℕ) → Type 0
Pieces value [] = ⊥
Pieces value (piece ∷ more) =
    ((rest : List ℕ) × (value ≡ piece ++ rest) × (begins goes_on rest ≡ false)) × ((other : List ℕ) → Contains more other → Stands value other)

all-stand : (value : List ℕ) (ps : List (List ℕ)) → Pieces value ps → (other : List ℕ) → Contains ps other → Stands value other
all-stand value [] h other k = absurd h
all-stand value (piece ∷ more) h other k =
    ⊎_elim (λ (same : piece ≡ other). ([], h.0.0, h.0.1 ∙ ap (λ p. p ++ h.0.0) same, h.0.2)) (h.1 other) (at-cons piece more other k)

behind : (b : ℕ) (value other : List ℕ) → Stands value other → Stands (b ∷ value) other
behind b value other s = (b ∷ s.0, s.1, ap (λ (xs : List ℕ). b ∷ xs) s.2, s.3)

onto : (b : ℕ) (value : List ℕ) (ps : List (List ℕ)) → Pieces value ps → Pieces (b ∷ value) (onto_first b ps)
onto b value [] h = absurd h
onto b value (piece ∷ more) h =
    ((h.0.0, ap (λ (xs : List ℕ). b ∷ xs) h.0.1, h.0.2), λ other k. behind b value other (h.1 other k))

pieces-stand : (value : List ℕ) → Pieces value (pieces 44 value)
pieces-stand [] = (([], refl, refl), λ other k. absurd (no-element other k))
pieces-stand (b ∷ bs) = by_test (b == 44) refl (pieces-stand bs)
  where
    comma : (b == 44) ≡ true → goes_on b ≡ false
    comma is = let same : b ≡ 44 = grind (arith, nat_tests, is) in ap goes_on same

    by_test : (t : Bool) → (b == 44) ≡ t → Pieces bs (pieces 44 bs) → Pieces (b ∷ bs) (cond t ([] ∷ pieces 44 bs) (onto_first b (pieces 44 bs)))
    by_test true is again = ((b ∷ bs, refl, comma is), λ other k. behind b bs other (all-stand bs (pieces 44 bs) again other k))
    by_test false is again = onto b bs (pieces 44 bs) again

any-piece : (list : Listing) (zone : Option (List ℕ)) (zoned : Bool) (ps : List (List ℕ)) →
    list_any has_zoned (map (rdate_in zone) (map (value_of list zoned) ps)) ≡ true →
    (piece : List ℕ) × Contains ps piece × (has_zoned (rdate_in zone (value_of list zoned piece)) ≡ true)
any-piece list zone zoned [] e = let no : false ≡ true = e in cc
any-piece list zone zoned (piece ∷ ps) e =
    ⊎_elim (λ h. (piece, here piece ps, h))
    (λ h. let more = any-piece list zone zoned ps h in (more.0, there piece ps more.0 more.1, more.2))
    (either-of (has_zoned (rdate_in zone (value_of list zoned piece))) (list_any has_zoned (map (rdate_in zone) (map (value_of list zoned) ps))) e)

-- THE VALUES of a line that lists dates.
pub list-has : (list : Listing) (zone : Option (List ℕ)) (zoned : Bool) (value : List ℕ) →
    list_any has_zoned (map (rdate_in zone) (values_of list zoned value)) ≡ true → has_local value ≡ true
list-has list zone zoned value e =
    let piece = any-piece list zone zoned (pieces 44 value) e in
    let part = value-has list zone zoned piece.0 piece.2 in
    stands-has value part.0
    (stands-in value piece.0 part.0 (all-stand value (pieces 44 value) (pieces-stand value) piece.0 piece.1) part.1) part.2
