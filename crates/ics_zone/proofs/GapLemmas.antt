-- What spans in their order tell of the locals that a clock skips.
use Rattle.std.proofs.Common.{◌≡◌, inl, inr, sym, ap, ◌∙◌, arith, refl, ℕ, ◌≤◌, List, length, get_or, Contains, All, ℤ, pos, neg_ℤ, ◌+ℤ◌, ◌-ℤ◌, ◌<ℤ◌, ◌≤ℤ◌}
use Rattle.std.proofs.lemmas.Int.{ints}
use Rattle.ics_zone.specs.declared.gap_stretch.Jump.{Jump}
use Rattle.ics_zone.specs.declared.latest.Steady.{Steady}
use Rattle.ics_zone.specs.declared.stretch.Stretch.{Stretch}
use Rattle.ics_zone.specs.Moments.{moment_by}
use Rattle.ics_zone.specs.Stretches.{IsStretch}
use Rattle.ics_zone.specs.Inner.GapStretches.{AreUnshown, IsUnpassed, IsJumpRead}
use Rattle.ics_zone.specs.Inner.Narrowed.{IsGreatestOf}
use Rattle.ics_zone.specs.Inner.Walks.{IsShort}
use Rattle.ics_zone.specs.Inner.ZoneOnsets.{IsSteady}
use Rattle.ics_zone.proofs.Cases.{less_or_not_z}
use Rattle.ics_zone.proofs.MomentLemmas.{moment_found, moment_unique}

-- where each offset is among them, none is greater than the greatest
pub not_greater : {offset : ℤ → ℤ} {most : ℤ} (offsets : List ℤ) → All (λ o. o ≤ℤ most) offsets → ((t : ℤ) → Contains offsets (offset t))
    → (t : ℤ) → offset t ≤ℤ most
not_greater {offset = offset} offsets all contains t =
    let at = contains t in
    let high = all at.0 (offset t) at.1 in
    omega (arith, ints, at.2)

-- no instant before the local less the greatest offset shows a later one
pub unpassed_begins : {offset : ℤ → ℤ} {local most : ℤ} (span : Steady) → IsSteady offset span.from span.next span.offset → ((t : ℤ) → offset t ≤ℤ most)
    → span.from ≤ℤ (local -ℤ most) → IsUnpassed offset local span
unpassed_begins span steady most begun = record {
  steady = steady;
  earlier = λ t h. let high = most t in omega (arith, ints);
}

module _ {offset : ℤ → ℤ} {local : ℤ} {last : Steady} (span : Steady) (known : IsUnpassed offset local last) (passed : last.next ≤ℤ (local -ℤ last.offset))
    (steady : IsSteady offset span.from span.next span.offset) (on : span.from ≡ last.next) where
  earlier_to : (t : ℤ) → t <ℤ span.from → (t +ℤ offset t) ≤ℤ local
  earlier_to t h = elim (less_or_not_z t last.from) [
    | inl less ↦ known.earlier t less
    | inr more ↦ (let there = known.steady t more (omega (arith, ints)) in omega (arith, ints))
  ]

  -- the next span shows no later local at its beginning
  pub unpassed_on : IsUnpassed offset local span
  unpassed_on = record { steady = steady; earlier = earlier_to }

  -- the next span does
  pub jump_at : last.from <ℤ last.next → span.from <ℤ span.next → (local -ℤ span.offset) <ℤ span.from
      → IsJumpRead offset local (record { at = span.from; before = last.offset; offset = span.offset })
  jump_at some more later =
      let here = steady span.from (omega (arith, ints)) more in
      record {
        jump = record {
          is_later = omega (arith, ints);
          first = λ t is. elim (less_or_not_z t span.from) [
            | inl less ↦ absurd (let low = earlier_to t less in omega (arith, ints))
            | inr not ↦ not
          ];
        };
        before = known.steady (span.from -ℤ pos 1) (omega (arith, ints)) (omega (arith, ints));
        after = here;
      }

-- a local that no offset shows is not shown
pub unshown_of : {offset : ℤ → ℤ} (short : IsShort offset) (offsets : List ℤ) (contains : (t : ℤ) → Contains offsets (offset t)) (k : ℕ)
    → length offsets ≤ k → {s : Stretch} → IsGreatestOf offset offsets k s → s.offset ≤ℤ neg_ℤ (pos 86_400) → AreUnshown offset s
unshown_of {offset = offset} short offsets contains k all known none local t low high shows =
    let at = contains t in
    let bound = short t in
    let is : t ≡ local -ℤ get_or offsets at.0 (offset t) = omega (arith, ints, at.2) in
    elim (known.unseen at.0 (offset t) local (omega arith) low high) [
      | inl not_greater ↦ omega (arith, ints, at.2)
      | inr other ↦ absurd (other (ap offset (sym is) ∙ sym at.2))
    ]

-- the locals that are not shown are skipped, up to what the clock shows after the jump, and as long as the offset holds at the instants that they mean
pub gap_found : {offset : ℤ → ℤ} (short : IsShort offset) {jump : Jump} (span : Steady) (s : Stretch) → AreUnshown offset s → IsJumpRead offset s.from jump
    → IsSteady offset span.from span.next span.offset → span.from ≤ℤ (s.from -ℤ jump.before) → (s.from -ℤ jump.before) <ℤ span.next
    → (new : Stretch) → new.from ≡ s.from → new.offset ≡ jump.before → new.shown ≡ span.offset → new.to ≤ℤ s.to → new.to ≤ℤ (jump.at +ℤ jump.offset)
    → new.to ≤ℤ (span.next +ℤ jump.before) → IsStretch offset (moment_by offset) new
gap_found {offset = offset} short {jump = jump} span s unshown read steady begun reaches new from is now to later end =
    let before = short (jump.at -ℤ pos 1) in
    let was = read.before in
    let here = steady (s.from -ℤ jump.before) begun reaches in
    let bound = short (s.from -ℤ jump.before) in
    record {
      moments = λ local low high. rw is (moment_unique offset local (moment_by offset local) (local -ℤ jump.before) (moment_found offset short local)
          (inr (record {
            skipped = λ t. unshown local t (omega (arith, ints)) (omega (arith, ints));
            past = jump.at;
            is_later = let after = read.after in omega (arith, ints);
            first = λ t more. read.jump.first t (omega (arith, ints));
            before = rw was refl;
          })));
      offsets = λ local low high. rw (is, now) (let there = steady (local -ℤ jump.before) (omega (arith, ints)) (omega (arith, ints)) in sym there);
      short = (omega (arith, ints), omega (arith, ints));
      shown_short = (omega (arith, ints), omega (arith, ints));
    }
