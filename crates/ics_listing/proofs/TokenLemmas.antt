-- No point stands in a number, and the spelling of a key, or of a key under a day, gives the key back.
use Rattle.std.proofs.Common.{◌≡◌, ℕ, suc, ◌<◌, List, [], ◌∷◌, ◌++◌, length, get_or, refl, sym, ◌∙◌, ap, subst, arith, drop, ℤ, pos, negsuc, FitsSigned}
use Rattle.std.proofs.Common.{◌≢◌, codes, w64, w32}
use Rattle.std.specs.Char.{digit_value}
use Rattle.std.specs.Fmt.{decimal, signed_decimal}
use Rattle.std.specs.Str.Parse.{AllDigits}
use Rattle.std.specs.List.{AllByRecursion}
use Rattle.std.proofs.lemmas.Fmt.{decimal_is_IsNumeral, signed_decimal_injective}
use Rattle.std.proofs.lemmas.List.Elements.{All-from_recursion}
use Rattle.hex.specs.Hex.{encode_lower, decode_of}
use Rattle.hex.proofs.HexLemmas.{decode_of-encode_lower}
use Rattle.ics_listing.specs.Entry.{Rank}
use Rattle.ics_listing.specs.Tokens.{spelling, IsKey, day_spelling, IsDayKey}
use Rattle.ics_listing.specs.DayKeys.{DayRank}

no-point-in : (ds : List ℕ) → AllDigits 10 ds → AllByRecursion (λ c. c ≢ 46) ds
no-point-in [] h = tt
no-point-in (c ∷ cs) h = (λ e. let k : digit_value 46 < 10 = subst (λ x. digit_value x < 10) e h.0 in absurd (omega arith), no-point-in cs h.1)

pub no-point-list : (z : ℤ) → FitsSigned w64 z → AllByRecursion (λ c. c ≢ 46) (signed_decimal z)
no-point-list (pos n) f = no-point-in (decimal n) (decimal_is_IsNumeral n (omega (arith, f.sfits))).0.1
no-point-list (negsuc n) f = (λ e. omega arith, no-point-in (decimal (suc n)) (decimal_is_IsNumeral (suc n) (omega (arith, f.sfits))).0.1)

pub no-point : (z : ℤ) → FitsSigned w64 z → (i : ℕ) → i < length (signed_decimal z) → get_or (signed_decimal z) i 0 ≢ 46
no-point z f i l = All-from_recursion (λ c. c ≢ 46) (signed_decimal z) (no-point-list z f) i 0 l

-- the first point parts a text in one way
module _ (one other : List ℕ) where
  pub one-cut : (xs ys : List ℕ) → AllByRecursion (λ c. c ≢ 46) xs → AllByRecursion (λ c. c ≢ 46) ys → xs ++ (46 ∷ one) ≡ ys ++ (46 ∷ other) →
      (xs ≡ ys) × (one ≡ other)
  one-cut [] [] h k e = (refl, cc)
  one-cut [] (y ∷ ys) h k e = let same : y ≡ 46 = cc in absurd (k.0 same)
  one-cut (x ∷ xs) [] h k e = let same : x ≡ 46 = cc in absurd (h.0 same)
  one-cut (x ∷ xs) (y ∷ ys) h k e =
      let heads : x ≡ y = cc in
      let rests : xs ++ (46 ∷ one) ≡ ys ++ (46 ∷ other) = cc in
      let r = one-cut xs ys h.1 k.1 rests in (cc, r.1)

-- what stands behind the mark of a key's token
abbrev fields : Rank → List ℕ
fields key = signed_decimal key.start ++ (46 ∷ (signed_decimal key.recurrence ++ (46 ∷ encode_lower key.uid)))

-- no two keys share a spelling
pub one-spelling : (a b : Rank) → IsKey a → IsKey b → spelling a ≡ spelling b → a ≡ b
one-spelling a b h k e =
    let inner : fields a ≡ fields b = ap (drop 3) e in
    let first = one-cut (signed_decimal a.recurrence ++ (46 ∷ encode_lower a.uid)) (signed_decimal b.recurrence ++ (46 ∷ encode_lower b.uid))
    (signed_decimal a.start) (signed_decimal b.start) (no-point-list a.start h.start) (no-point-list b.start k.start) inner in
    let second = one-cut (encode_lower a.uid) (encode_lower b.uid) (signed_decimal a.recurrence) (signed_decimal b.recurrence)
    (no-point-list a.recurrence h.recurrence) (no-point-list b.recurrence k.recurrence) first.1 in
    let uid : a.uid ≡ b.uid = let q = sym (decode_of-encode_lower a.uid h.uid) ∙ (ap decode_of second.1 ∙ decode_of-encode_lower b.uid k.uid) in cc in
    let start = signed_decimal_injective a.start b.start h.start.sfits k.start.sfits first.0 in
    let recurrence = signed_decimal_injective a.recurrence b.recurrence h.recurrence.sfits k.recurrence.sfits second.0 in
    λ i. record { start = start i; uid = uid i; recurrence = recurrence i }

-- Keys under days.
fits-wider : (z : ℤ) → FitsSigned w32 z → FitsSigned w64 z
fits-wider (pos n) f = record { sfits = omega (arith, f.sfits) }
fits-wider (negsuc n) f = record { sfits = omega (arith, f.sfits) }

-- no two keys under days share a spelling
pub one-day-spelling : (a b : DayRank) → IsDayKey a → IsDayKey b → day_spelling a ≡ day_spelling b → a ≡ b
one-day-spelling a b h k e =
    let inner : signed_decimal a.day ++ (46 ∷ fields a.key) ≡ signed_decimal b.day ++ (46 ∷ fields b.key) = ap (drop 3) e in
    let wide = fits-wider a.day h.day in
    let wide-other = fits-wider b.day k.day in
    let first = one-cut (fields a.key) (fields b.key) (signed_decimal a.day) (signed_decimal b.day) (no-point-list a.day wide) (no-point-list b.day wide-other)
    inner in
    let day = signed_decimal_injective a.day b.day wide.sfits wide-other.sfits first.0 in
    let key = one-spelling a.key b.key h.is_key k.is_key (ap (λ t. codes "K1." ++ t) first.1) in
    λ i. record { day = day i; key = key i }
