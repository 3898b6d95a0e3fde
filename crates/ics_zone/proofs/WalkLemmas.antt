-- What spans in their order tell of the instant of a local.
use Rattle.std.proofs.Common.{◌≡◌, ◌≢◌, ◌⊎◌, inl, inr, arith, refl, sym, subst, Option, Some, None, MatchOption, IfSome, ℤ, pos, ◌+ℤ◌, ◌-ℤ◌, ◌<ℤ◌, ◌≤ℤ◌}
use Rattle.std.proofs.Common.{Bool, true, false, cond, ◌∙◌, ◌<◌, ℕ, length, get_or, set, List, [], ◌∷◌, ◌++◌}
use Rattle.std.specs.Int.{int_max}
use Rattle.std.proofs.lemmas.Int.{ints, clamps}
use Rattle.std.proofs.lemmas.List.Elements.{All-push, All-set}
use Rattle.ics_zone.specs.declared.answers.Answer.{Answer}
use Rattle.ics_zone.specs.declared.latest.Steady.{Steady}
use Rattle.ics_zone.specs.declared.walk.Walk.{Walk}
use Rattle.ics_zone.specs.Moments.{shown, IsFirstTime, IsInGap, IsMomentBy}
use Rattle.ics_zone.specs.Inner.Answers.{AreAnswersBy}
use Rattle.ics_zone.specs.Inner.ZoneOnsets.{AreSteady, IsSteady}
use Rattle.ics_zone.specs.Inner.Walks.{IsShort, IsGapRead, IsWalk}

-- a span more, or none where memory is refused
pub steady_pushed : {offset : ℤ → ℤ} (was : List Steady) {now : List Steady} (s : Steady) (b : Bool) → now ≡ cond b (was ++ s ∷ []) was
    → AreSteady offset was → IsSteady offset s.from s.next s.offset → AreSteady offset now
steady_pushed {offset = offset} was s true is spans steady =
    rw is (All-push (λ (s : Steady). IsSteady offset s.from s.next s.offset) was s spans steady)
steady_pushed was s false is spans steady = rw is spans

-- two spans of one offset, of which the first reaches to the second, become one
pub steady_joined : {offset : ℤ → ℤ} (spans : List Steady) (place : ℕ) (first second whole : Steady) → place < length spans
    → first ≡ get_or spans place first → second.from ≤ℤ first.next → first.offset ≡ second.offset
    → (whole.from ≡ first.from) × ((whole.next ≡ int_max first.next second.next) × (whole.offset ≡ first.offset))
    → AreSteady offset spans → IsSteady offset second.from second.next second.offset → AreSteady offset (set spans place whole)
steady_joined {offset = offset} spans place first second whole inside here meets same is steady more =
    All-set (λ (s : Steady). IsSteady offset s.from s.next s.offset) spans place whole (λ t low high.
    elim (less_or_not t first.next) [
      | inl less ↦ is.1.1 ∙ before t (omega (arith, ints, low, is.0)) less
      | inr late ↦ is.1.1 ∙ same ∙ more t (omega (arith, ints, late, meets)) (omega (arith, ints, clamps, high, is.1.0, late))
    ]) steady
  where
    less_or_not : (a b : ℤ) → (a <ℤ b) ⊎ (b ≤ℤ a)
    less_or_not a b = grind (arith, ints)

    before : IsSteady offset first.from first.next first.offset
    before = rw here (steady place first inside)

-- an answer more, or none where memory is refused
pub answer_pushed : {offset : ℤ → ℤ} (was : List Answer) {now : List Answer} (a : Answer) (b : Bool) → now ≡ cond b (was ++ a ∷ []) was
    → AreAnswersBy offset was → IsMomentBy offset a.seconds a.moment → AreAnswersBy offset now
answer_pushed {offset = offset} was a true is answers right =
    rw is (All-push (λ (a : Answer). IsMomentBy offset a.seconds a.moment) was a answers right)
answer_pushed was a false is answers right = rw is answers

pub walk_begins : {offset : ℤ → ℤ} {local low before : ℤ} → IsShort offset → low ≤ℤ (local -ℤ pos 86_400)
    → IsWalk offset local (record { low = low; before = before; gap = None })
walk_begins short is = record {
  unseen = λ t h e. let bound = short t in omega (arith, ints);
  before = λ h. absurd (omega (arith, ints));
  gap = λ t h. let bound = short t in omega (arith, ints);
}

module _ {offset : ℤ → ℤ} {local : ℤ} (short : IsShort offset) {walk : Walk} (walked : IsWalk offset local walk) where
  -- the gap is read at the end
  pub gap_read : (g : Option ℤ) → walk.gap ≡ g → (local +ℤ pos 86_400) <ℤ walk.low → IfSome g (IsInGap offset local)
  gap_read None is late = tt
  gap_read (Some t) is late =
      let read : IsGapRead offset local t =
      subst (λ g. MatchOption g ((t : ℤ) → t <ℤ walk.low → shown offset t <ℤ local) (IsGapRead offset local)) is walked.gap in
      record {
        skipped = λ s e. let bound = short s in let none : (walk.low ≤ℤ s) ⊎ (s <ℤ walk.low) = grind (arith, ints) in elim none [
          | inl more ↦ omega (arith, ints)
          | inr less ↦ walked.unseen s less e
        ];
        past = read.0;
        is_later = read.1.0.is_later;
        first = read.1.0.first;
        before = read.1.1;
      }

  module _ {from next value moment : ℤ} (steady : IsSteady offset from next value) (begun : from ≤ℤ walk.low) (reaches : walk.low <ℤ next)
      (at : moment ≡ local -ℤ value) where
    sides : (t : ℤ) → (walk.low ≤ℤ t) ⊎ (t <ℤ walk.low)
    sides t = grind (arith, ints)

    pub walk_shows : walk.low ≤ℤ moment → moment <ℤ next → IsFirstTime offset local moment
    walk_shows low high = record {
      shows = let here = steady moment (omega (arith, ints)) high in omega (arith, ints);
      first = λ s e. elim (sides s) [
        | inl more ↦ (let late : (moment ≤ℤ s) ⊎ (s <ℤ moment) = grind (arith, ints) in elim late [
          | inl here ↦ here
          | inr less ↦ absurd (let there = steady s (omega (arith, ints)) (omega (arith, ints)) in omega (arith, ints))
        ])
        | inr less ↦ absurd (walked.unseen s less e)
      ];
    }

    not_here : (moment <ℤ walk.low) ⊎ (next ≤ℤ moment) → (t : ℤ) → t <ℤ next → shown offset t ≢ local
    not_here out t h e = elim (sides t) [
      | inr less ↦ walked.unseen t less e
      | inl more ↦ (let there = steady t (omega (arith, ints)) h in elim out [ inl a ↦ omega (arith, ints) | inr b ↦ omega (arith, ints) ])
    ]

    jumps : moment <ℤ walk.low → ((t : ℤ) → t <ℤ walk.low → shown offset t <ℤ local) → IsGapRead offset local (local -ℤ walk.before)
    jumps early earlier =
        let here = steady walk.low begun reaches in
        let bound = short walk.low in
        let before = walked.before (omega (arith, ints)) in (
          walk.low,
          (
            record {
              is_later = omega (arith, ints);
              first = λ s later. elim (sides s) [
                | inl more ↦ more
                | inr less ↦ absurd (let none = earlier s less in omega (arith, ints))
              ];
            },
            omega (arith, ints),
          ),
        )

    -- the gap after the span
    gap_on : (moment <ℤ walk.low) ⊎ (next ≤ℤ moment) → (old new : Option ℤ) → walk.gap ≡ old
        → MatchOption old (MatchOption new (walk.low ≤ℤ moment) (λ t. (moment <ℤ walk.low) × (t ≡ local -ℤ walk.before))) (λ g. new ≡ old)
        → MatchOption new ((t : ℤ) → t <ℤ next → shown offset t <ℤ local) (IsGapRead offset local)
    gap_on out (Some g) new is same = subst (λ o. MatchOption o ((t : ℤ) → t <ℤ next → shown offset t <ℤ local) (IsGapRead offset local)) (sym same)
        (subst (λ o. MatchOption o ((t : ℤ) → t <ℤ walk.low → shown offset t <ℤ local) (IsGapRead offset local)) is walked.gap)
    gap_on out None None is low =
        let earlier : (t : ℤ) → t <ℤ walk.low → shown offset t <ℤ local =
        subst (λ o. MatchOption o ((t : ℤ) → t <ℤ walk.low → shown offset t <ℤ local) (IsGapRead offset local)) is walked.gap in
        λ t h. elim (sides t) [
          | inr less ↦ earlier t less
          | inl more ↦ (let there = steady t (omega (arith, ints)) h in elim out [ inl a ↦ omega (arith, ints) | inr b ↦ omega (arith, ints) ])
        ]
    gap_on out None (Some t) is read =
        let earlier : (t : ℤ) → t <ℤ walk.low → shown offset t <ℤ local =
        subst (λ o. MatchOption o ((t : ℤ) → t <ℤ walk.low → shown offset t <ℤ local) (IsGapRead offset local)) is walked.gap in
        subst (IsGapRead offset local) (sym read.1) (jumps read.0 earlier)

    pub walk_on : {new : Option ℤ} → (moment <ℤ walk.low) ⊎ (next ≤ℤ moment)
        → MatchOption walk.gap (MatchOption new (walk.low ≤ℤ moment) (λ t. (moment <ℤ walk.low) × (t ≡ local -ℤ walk.before))) (λ g. new ≡ walk.gap)
        → IsWalk offset local (record { low = next; before = value; gap = new })
    walk_on {new = new} out gap = record {
      unseen = not_here out;
      before = λ h. steady (next -ℤ pos 1) (omega (arith, ints)) (omega (arith, ints));
      gap = gap_on out walk.gap new refl gap;
    }
