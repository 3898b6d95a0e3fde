-- The parts of a content line as slices, and that they are what its grammar relates.
use Rattle.std.proofs.Common.{◌≡◌, ℕ, ◌+◌, Bool, true, false, List, [], ◌∷◌, drop, refl, ap, ◌∙◌, arith, Option, Some, None, one-add, ◌-◌}
use Rattle.std.proofs.Common.{◌++◌, length, take, sym, append_assoc, subst, length-append, option_map, ◌↔◌}
use Rattle.std.specs.List.{prefix_len, list_all}
use Rattle.ics_text.specs.Bytes.{is_name_byte}
use Rattle.ics_text.specs.ScanSteps.{Start, colon_from}
use Rattle.std.proofs.lemmas.Bool.{and_parts}
use Rattle.std.proofs.lemmas.List.{take_rest, drop-drop}
use Rattle.std.proofs.Math.Seq.{take-append_seam, drop-append_seam}
use Rattle.ics_text.specs.ContentLines.{Param, params_text, IsContent, Parts, cut_at, content_of}
use Rattle.ics_text.proofs.Spelled.{Found, found, comes}

pub prefix_len-front : (p : ℕ → Bool) (xs : List ℕ) (y : ℕ) (ys : List ℕ) → list_all p xs ≡ true → p y ≡ false → prefix_len p (xs ++ y ∷ ys) ≡ length xs
prefix_len-front p [] y ys h n = rw n refl
prefix_len-front p (x ∷ xs) y ys h n = let parts = and_parts (p x) (list_all p xs) h in rw (parts.0, prefix_len-front p xs y ys parts.1 n) (one-add (length xs))

-- the name ends where no byte of a name follows
pub name-length : (name : List ℕ) (ps : List Param) (value : List ℕ) → list_all is_name_byte name ≡ true →
    prefix_len is_name_byte ((name ++ params_text ps) ++ 58 ∷ value) ≡ length name
name-length name [] value h = rw (append_assoc name [] (58 ∷ value)) (prefix_len-front is_name_byte name 58 value h refl)
name-length name (p ∷ ps) value h =
    subst (λ t. prefix_len is_name_byte t ≡ length name) (sym (append_assoc name (params_text (p ∷ ps)) (58 ∷ value)))
    (prefix_len-front is_name_byte name 59 _ h refl)

-- where a line is a content line, the slices before and behind its colon are its parts
slices : {line name params value : List ℕ} (c : IsContent line name params value) →
    cut_at line (length (name ++ params)) ≡ record { name = name; params = params; value = value }
slices {line} {name} {params} {value} c =
    let e : line ≡ (name ++ params) ++ 58 ∷ value = c.spelled in
    let l = ap (prefix_len is_name_byte) e ∙ (rw (← c.params_ok.spelled) at (name-length name c.ps value c.name_ok.bytes)) in
    let whole : (name ++ params) ++ 58 ∷ value ≡ name ++ (params ++ 58 ∷ value) = append_assoc name params (58 ∷ value) in
    let rest : length (name ++ params) - prefix_len is_name_byte line ≡ length params = omega (arith, l, length-append name params) in
    let name_is : take (prefix_len is_name_byte line) line ≡ name = rw (l, e, whole) (take-append_seam name (params ++ 58 ∷ value)) in
    let params_are : take (length (name ++ params) - prefix_len is_name_byte line) (drop (prefix_len is_name_byte line) line) ≡ params =
    rw rest (rw (l, e, whole) (rw (drop-append_seam name (params ++ 58 ∷ value)) (take-append_seam params (58 ∷ value)))) in
    let value_is : drop (length (name ++ params) + 1) line ≡ value =
    rw e (sym (drop-drop 1 (length (name ++ params)) ((name ++ params) ++ 58 ∷ value)) ∙ ap (drop 1) (drop-append_seam (name ++ params) (58 ∷ value))) in
    rw (name_is, params_are, value_is) refl

-- the slices of what stands behind the name are slices of the line
pub slices_behind : {name behind : List ℕ} (line : List ℕ) (k : ℕ) → name ≡ take (prefix_len is_name_byte line) line
    → behind ≡ drop (prefix_len is_name_byte line) line →
    ◌≡◌ {A = Parts} (record { name = name; params = take k behind; value = take (length behind - (k + 1)) (drop (k + 1) behind) })
    (cut_at line (k + prefix_len is_name_byte line))
slices_behind {name} {behind} line k name_is behind_is =
    let len = prefix_len is_name_byte line in
    let between : k ≡ k + len - len = omega arith in
    let after : len + (k + 1) ≡ k + len + 1 = omega arith in
    rw (take_rest behind (k + 1), name_is, behind_is, drop-drop (k + 1) len line, after)
    (ap (λ n. record { name = take len line; params = take n (drop len line); value = drop (k + len + 1) line }) between)

-- what the walk finds is a content line
computed : (line : List ℕ) (parts : Parts) (k : Option ℕ) → colon_from line Start ≡ k → option_map (cut_at line) k ≡ Some parts →
    IsContent line parts.name parts.params parts.value
computed line parts None e h = cc
computed line parts (Some k) e h =
    let f : Found Start line k = rw e at (found line Start) in
    let t = f.tail in
    let c : IsContent line t.bytes (params_text t.ps) f.behind =
    record { ps = t.ps; name_ok = f.ok.0; params_ok = record { in_order = f.ok.1; spelled = refl }; spelled = f.text } in
    let cut : cut_at line k ≡ parts = cc in
    subst (λ (p : Parts). IsContent line p.name p.params p.value) (sym (slices c) ∙ sym (ap (cut_at line) f.count) ∙ cut) c

-- where a line is a content line, the walk comes to its colon
walks : {line name params value : List ℕ} (c : IsContent line name params value) → colon_from line Start ≡ Some (length (name ++ params))
walks {value = value} c = ap (λ l. colon_from l Start) c.spelled ∙ rw c.params_ok.spelled (comes value _ c.ps c.name_ok c.params_ok.in_order)

related : (line : List ℕ) (parts : Parts) → IsContent line parts.name parts.params parts.value → content_of line ≡ Some parts
related line parts c = ap (option_map (cut_at line)) (walks c) ∙ ap Some (slices c)

pub content-grammar : (line : List ℕ) (parts : Parts) → content_of line ≡ Some parts ↔ IsContent line parts.name parts.params parts.value
content-grammar line parts = (computed line parts (colon_from line Start) refl, related line parts)

pub refuses : (line : List ℕ) → content_of line ≡ None → (name params value : List ℕ) → IsContent line name params value → ⊥
refuses line none name params value c = let some = related line (record { name = name; params = params; value = value }) c in cc

pub one_reading : {name params value : List ℕ} (line : List ℕ) (parts : Parts) → content_of line ≡ Some parts → IsContent line name params value →
    (name ≡ parts.name) × (params ≡ parts.params) × (value ≡ parts.value)
one_reading {name} {params} {value} line parts e c =
    let same = related line (record { name = name; params = params; value = value }) c in (cc, cc, cc)
