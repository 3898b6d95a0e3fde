-- The numbers of the lines of a part of a file.
use Rattle.std.proofs.Common.{ℕ, ◌+◌, ◌≤◌, Bool, true, false, List, [], ◌∷◌, length, arith, cond, filter, inl, inr}
use Rattle.std.proofs.lemmas.Bool.{cases_Bool}
use Rattle.ics_text.specs.Parts.{Part, last_number, lines_left}
use Rattle.ics_text.specs.Unfolded.{Line, Within, attach, goes_on, is_line, joined, numbered, physical_lines}
use Rattle.ics_text.proofs.Rising.{few}

numbered-within : (last n : ℕ) (lines : List (List ℕ)) → n + length lines ≤ last + 1 → Within last (numbered n lines)
numbered-within last n [] few = tt
numbered-within last n (line ∷ lines) few = (omega (arith, few), numbered-within last (n + 1) lines (omega (arith, few)))

joined-within : (last : ℕ) (lines : List Line) → Within last lines → Within last (joined lines)
joined-within last [] within = tt
joined-within last (line ∷ lines) within = by_fold (goes_on lines) (joined lines) (joined-within last lines within.1)
  where
    by_fold : (t : Bool) (later : List Line) → Within last later → Within last (cond t (attach line later) (line ∷ later))
    by_fold true [] more = (within.0, tt)
    by_fold true (next ∷ later) more = (within.0, more.1)
    by_fold false later more = (within.0, more)

filter-within : (last : ℕ) (lines : List Line) → Within last lines → Within last (filter is_line lines)
filter-within last [] within = tt
filter-within last (line ∷ lines) within = elim (cases_Bool (is_line line)) [
  | inl some ↦ rw some (within.0, filter-within last lines within.1)
  | inr none ↦ rw none (filter-within last lines within.1)
]

pub part-last : (part : Part) → last_number part ≤ part.breaks + length part.bytes + 1
part-last part = omega (arith, few part.bytes)

pub part-within : (part : Part) → Within (part.breaks + length part.bytes + 1) (lines_left part)
part-within part =
    let last : ℕ = part.breaks + length part.bytes + 1 in
    let lines : List Line = numbered (part.breaks + 1) (physical_lines part.bytes) in
    filter-within last (joined lines)
    (joined-within last lines (numbered-within last (part.breaks + 1) (physical_lines part.bytes) (omega (arith, few part.bytes))))
