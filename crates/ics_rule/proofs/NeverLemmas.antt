-- A walk of a rule that chooses nothing.
use Rattle.std.proofs.Common.{ℕ, ◌<◌, Option, None, arith}
use Rattle.ics_period.specs.declared.effective_rule.EffectiveRule.{EffectiveRule}
use Rattle.ics_rule.specs.declared.cursor.Cursor.{Cursor}
use Rattle.ics_rule.specs.Cursors.{IsCursorIn}
use Rattle.ics_rule.specs.Inner.Searches.{IsWalked}
use Rattle.ics_rule.proofs.CursorLemmas.{held_mono, moved_none}

-- it finds nothing, and changes nothing
pub none_walked : {q : EffectiveRule} {start : ℕ} {o : Option ℕ} {cursor : Cursor} (stop : ℕ) → cursor.place < stop → IsCursorIn q start o cursor →
    IsWalked q start o stop None cursor cursor
none_walked {q = q} {cursor = cursor} stop h own = record {
  moved = moved_none stop own;
  held = held_mono q cursor.held cursor.place stop own.held (omega (arith, h));
  found = tt;
  counted = own.counted;
}
