-- Bytes that end with an LF.
use Rattle.std.proofs.Common.{◌≡◌, ℕ, ◌-◌, ◌<◌, true, nat_eq, List, [], ◌∷◌, ◌++◌, length, slice_index_or, refl, ap, ◌∙◌, arith}
use Rattle.ics_text.specs.Cuts.{IsCut, ends_line}

last-one : (b : ℕ) (bs : List ℕ) → nat_eq (slice_index_or (b ∷ bs) (length bs) 0) 10 ≡ ends_line (b ∷ bs)
last-one b [] = refl
last-one b (c ∷ cs) = last-one c cs

pub last-lf : (bytes : List ℕ) → 0 < length bytes → nat_eq (slice_index_or bytes (length bytes - 1) 0) 10 ≡ ends_line bytes
last-lf [] some = absurd (omega (arith, some))
last-lf (b ∷ bs) some =
    let last : length (b ∷ bs) - 1 ≡ length bs = omega arith in
    ap (λ at. nat_eq (slice_index_or (b ∷ bs) at 0) 10) last ∙ last-one b bs

pub ends-behind : (before head : List ℕ) → ends_line head ≡ true → ends_line (before ++ head) ≡ true
ends-behind [] head ends = ends
ends-behind (b ∷ []) [] ends = cc
ends-behind (b ∷ []) (c ∷ cs) ends = ends
ends-behind (b ∷ c ∷ cs) head ends = ends-behind (c ∷ cs) head ends

pub cut-behind : (before head rest : List ℕ) → IsCut head rest → IsCut (before ++ head) rest
cut-behind before head rest cut = record { ends = ends-behind before head cut.ends; begins = cut.begins }
