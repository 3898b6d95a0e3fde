use Rattle.std.proofs.Common.{◌≡◌, true, false, rules, arith, is_some, SFits, w32, w64}
use Rattle.std.proofs.lemmas.Int.{ints, to_z-of_z}
use Rattle.ics_rule.specs.Kept.{is_kept}
use Rattle.ics_rule.proofs.NextLemmas.{kept_start}
use Rattle.ics_zone.proofs.EndLemmas.{none_there, ends_at_last}
use Rattle.ics_zone.proofs.onsets.end_of.Goals as goal
use Rattle.ics_zone.proofs.onsets.end_of.Goals.{then-is_plain, else-is_plain}

pub returns-then-is_some : goal.returns-then-is_some
returns-then-is_some c =
    let from : SFits w32 c.args.offset_from = c.ranges.offset_from in
    let until : SFits w64 c.until_of-until.result = search rules in
    let last : SFits w64 c.instant.result = search rules in
    let is = rw (simp (to_z-of_z, from) at c.instant.ensures) at (simp (to_z-of_z, until, last) at c.min.ensures.value) in
    rw (to_z-of_z w64 c.min.result (search rules), ← c.parts.view_is)
    (rw c.new-rule.ensures at (ends_at_last c.new-rule.result c.args.offset_from c.until_of-until.ensures (λ n early. omega (arith, ints))
    c.last_of_all.result c.last_of_all.ensures.kept c.last_of_all.ensures.last is))

pub returns-else-is_some-2 : goal.returns-else-is_some-2
returns-else-is_some-2 c =
    let from : SFits w32 c.args.offset_from = c.ranges.offset_from in
    let until : SFits w64 c.until_of-until.result = search rules in
    let start : SFits w64 c.instant-else-is_some-2.result = search rules in
    let is = rw (simp (to_z-of_z, from) at c.instant-else-is_some-2.ensures) at (simp (to_z-of_z, until, start) at c.min-else-is_some-2.ensures.value) in
    let kept : is_kept c.new-rule.result c.number-first.result ≡ true =
    rw (c.new-rule.ensures, c.number-first.ensures.value) (kept_start _) in
    elim c.if-is_plain.branch [
      | then-is_plain w ↦ absurd (let plain = w.value-is in let not = c.if-is_some-2.false in cc)
      | else-is_plain w ↦ (
          let none : is_some w.next_kept.result ≡ false =
          (let is = w.is_some-else-is_plain.ensures in let value = w.value-is in let not = c.if-is_some-2.false in cc) in
          let past = none_there _ _ w.next_kept.result w.next_kept.ensures none in
          rw (to_z-of_z w64 c.min-else-is_some-2.result (search rules), ← c.parts.view_is)
          (rw c.new-rule.ensures at (ends_at_last c.new-rule.result c.args.offset_from c.until_of-until.ensures (λ n early. omega (arith, ints))
          c.number-first.result kept (λ n low high. past n (omega (arith, low, high, c.min-after.ensures)) high) is)))
    ]
