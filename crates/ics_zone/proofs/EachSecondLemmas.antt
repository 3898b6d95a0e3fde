-- The offset of a clock at each second of some days.
use Rattle.std.proofs.Common.{◌≡◌, ◌≢◌, ℕ, ◌<◌, ◌≤◌, inl, inr, ap, subst, ◌∙◌, arith, Bool, List, [], ◌∷◌, ◌++◌, length, get_or}
use Rattle.std.proofs.Common.{ℤ, pos, ◌+ℤ◌, ◌-ℤ◌, ◌<ℤ◌, ◌≤ℤ◌}
use Rattle.std.specs.Prelude.{MatchBool}
use Rattle.std.proofs.lemmas.Bool.{cases_lt}
use Rattle.std.proofs.lemmas.Int.{ints}
use Rattle.std.proofs.lemmas.List.{get_or_append_left, get_or_at, length-append}
use Rattle.ics_zone.specs.Moments.{shown}
use Rattle.ics_zone.specs.Inner.ZoneOnsets.{IsJump}
use Rattle.ics_zone.proofs.Cases.{less_or_not_z}

-- the k-th offset is the one that the clock has k seconds after an instant
abbrev pub TellsFrom : (ℤ → ℤ) → ℤ → List ℤ → Type 0
TellsFrom offset from items = (k : ℕ) (d : ℤ) → k < length items → get_or items k d ≡ offset (from +ℤ pos k)

-- an offset more is told
pub told_more : (offset : ℤ → ℤ) (from : ℤ) (was now : List ℤ) (value : ℤ) → now ≡ was ++ value ∷ [] → TellsFrom offset from was
    → value ≡ offset (from +ℤ pos (length was)) → TellsFrom offset from now
told_more offset from was now value is told more k d inside = elim (cases_lt k (length was)) [
  | inl before ↦ ap (λ l. get_or l k d) is ∙ get_or_append_left was (value ∷ []) d k before ∙ told k d before
  | inr after ↦ (
      let last : k < length (was ++ value ∷ []) = rw is at inside in
      let same : length was ≡ k = omega (arith, last, after, length-append was (value ∷ [])) in
      ap (λ l. get_or l k d) is ∙ get_or_at was value [] d k same ∙ more ∙ ap (λ n. offset (from +ℤ pos n)) same)
]

-- the second after so many is in a span, if it is not before the first second of the span, and before its end
pub in_span : {from begin next : ℤ} {first count : ℕ} (len : ℕ) → (from ≤ℤ begin → begin ≡ from +ℤ pos first) → (from ≤ℤ next → next ≡ from +ℤ pos count)
    → (next <ℤ from → count ≡ 0) → first ≤ len → len < count → (begin ≤ℤ (from +ℤ pos len)) × ((from +ℤ pos len) <ℤ next)
in_span {from = from} {begin = begin} {next = next} len begins ends before low high = (
  elim (less_or_not_z begin from) [
    | inl less ↦ omega (arith, ints)
    | inr more ↦ (let is = begins more in omega (arith, ints))
  ],
  elim (less_or_not_z next from) [
    | inl less ↦ absurd (let none = before less in omega arith)
    | inr more ↦ (let is = ends more in omega (arith, ints))
  ],
)

-- a second more has an offset, or another than that
pub same_on : (clock : ℤ → ℤ) (at next offset : ℤ) (has : Bool)
    → ((t : ℤ) → at ≤ℤ t → t <ℤ next → MatchBool has (clock t ≡ offset) (clock t ≢ offset)) → MatchBool has (clock next ≡ offset) (clock next ≢ offset)
    → (to : ℤ) → to ≡ next +ℤ pos 1 → (t : ℤ) → at ≤ℤ t → t <ℤ to → MatchBool has (clock t ≡ offset) (clock t ≢ offset)
same_on clock at next offset has before here to on t low high = elim (less_or_not_z t next) [
  | inl less ↦ before t low less
  | inr more ↦ (
      let same : next ≡ t = omega (arith, ints) in
      subst (λ u. MatchBool has (clock u ≡ offset) (clock u ≢ offset)) same here)
]

-- the locals that an offset shows at the instants from one on and before another
pub shown_between : {from to begin end last local : ℤ} (offset : ℤ) → begin ≡ from -ℤ offset → end ≡ to -ℤ offset → begin ≤ℤ last → last ≤ℤ end
    → local ≡ last +ℤ offset → (from ≤ℤ local) × (local ≤ℤ to)
shown_between offset b e low high is = (omega (arith, ints), omega (arith, ints))

pub instant_between : {from begin last end local : ℤ} (offset : ℤ) → begin ≡ from -ℤ offset → end ≡ last +ℤ offset → from ≤ℤ local → local <ℤ end
    → (begin ≤ℤ (local -ℤ offset)) × ((local -ℤ offset) <ℤ last)
instant_between offset b e low high = (omega (arith, ints), omega (arith, ints))

-- no instant before shows a later local
pub first_jump : {offset : ℤ → ℤ} {local most : ℤ} (begin at : ℤ) → begin ≡ local -ℤ most → ((t : ℤ) → offset t ≤ℤ most)
    → ((t : ℤ) → begin ≤ℤ t → t <ℤ at → shown offset t ≤ℤ local) → local <ℤ shown offset at → IsJump offset local at
first_jump {offset = offset} {local = local} {most = most} begin at is bound before later = record {
  is_later = later;
  first = λ s past. elim (less_or_not_z s at) [
    | inr not ↦ not
    | inl less ↦ absurd (elim (less_or_not_z s begin) [
      | inl early ↦ (let high = bound s in omega (arith, ints))
      | inr late ↦ (let high = before s late less in omega (arith, ints))
    ])
  ];
}

-- a second more shows no later local
pub earlier_on : (offset : ℤ → ℤ) (begin local at : ℤ) → ((t : ℤ) → begin ≤ℤ t → t <ℤ at → shown offset t ≤ℤ local) → shown offset at ≤ℤ local
    → (t : ℤ) → begin ≤ℤ t → t <ℤ (at +ℤ pos 1) → shown offset t ≤ℤ local
earlier_on offset begin local at before here t low high = elim (less_or_not_z t at) [
  | inl less ↦ before t low less
  | inr more ↦ (
      let same : at ≡ t = omega (arith, ints) in
      subst (λ u. shown offset u ≤ℤ local) same here)
]
