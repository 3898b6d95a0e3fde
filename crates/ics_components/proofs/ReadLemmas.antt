-- Lines in their places, also where whole components are taken out or UIDs are made, are read to what they say, or to their first fault.
use Rattle.std.proofs.Common.{◌≡◌, ℕ, ◌<◌, ◌==◌, List, [], ◌∷◌, ◌++◌, refl, sym, ap, ◌∙◌, append_assoc, arith, Option, Some, None, subst, false}
use Rattle.std.specs.Prelude.{find}
use Rattle.std.proofs.lemmas.Bool.{eq-eqb}
use Rattle.std.proofs.lemmas.List.{append-nil}
use Rattle.std.proofs.lemmas.List.Elements.{All-nil, All-push, All-weaker, filter-append}
use Rattle.ics_text.specs.Unfolded.{Line}
use Rattle.ics_text.specs.ContentLines.{Parts}
use Rattle.ics_components.specs.declared.fault.FaultKind.{FaultKind}
use Rattle.ics_components.specs.declared.fault.FaultKind.TheVariants.{BadLine}
use Rattle.ics_components.specs.PlacedLines.{Placed, Open, named, path_behind, innermost, lines_in, beside}
use Rattle.ics_components.specs.Faults.{stands, kinds}
use Rattle.ics_components.specs.FirstFault.{found, first_from, first_fault, fault_at_end}
use Rattle.ics_components.specs.ParsedFileSeen.{ParsedFileSeen}
use Rattle.ics_components.specs.ParsedFiles.{nothing_parsed, and_line}
use Rattle.ics_components.specs.Lines.{behind, passing}
use Rattle.ics_components.specs.Parted.{AreInPlace, Reads, read_behind, read_on, unless_faulty}
use Rattle.ics_components.specs.Pass.{bottom, at_end, unless}
use Rattle.ics_components.proofs.Blocks.{broken-stays, concluded}
use Rattle.ics_components.proofs.Table.{any-part, frame_of, IsAsked, least-same}
use Rattle.ics_components.proofs.Bundles.{Bundle, Keeps, Before, falls, open_of, opens, opens-behind, top_beside, zone-beside}
use Rattle.ics_components.proofs.Bundles.{bundles_behind, keeps}
use Rattle.ics_components.proofs.Frames.{frames_of, with, Closes, frames-behind, fault-top, passing-top}
use Rattle.ics_components.proofs.Order.{Absent, Falls, absent-behind, below, inside, nested}
use Rattle.ics_components.proofs.EndOrder.{picked-same, IsMatched}
use Rattle.ics_components.proofs.PartPaths.{absent-inner}
use Rattle.ics_components.proofs.PassLemmas.{end-is-known, parsed_from}

-- no line stands any more in a component that is closed
none-in : (ls : List Placed) (b n : ℕ) (path : List Open) → 0 < b → b < n → Absent b path → AreInPlace n path ls → lines_in b ls ≡ []
none-in [] b n path some less gone h = refl
none-in (l ∷ ls) b n path some less gone h =
    let out : Absent b l.path = rw (h.0) gone in
    rw (absent-inner b l.path some out)
    (none-in ls b l.number (path_behind l) some (omega (arith, less, h.1)) (absent-behind b l (omega (arith, less, h.1)) out) h.4)

pub own-whole : (before : List Placed) (l : Placed) (ls : List Placed) {c : Open} → l.path ≡ c ∷ path_behind l → Falls (inside l) →
    AreInPlace l.number (path_behind l) ls → lines_in c.begun (before ++ l ∷ ls) ≡ lines_in c.begun before ++ l ∷ []
own-whole before l ls {c = c} at f h =
    let inner : innermost l.path ≡ c.begun = ap innermost at in
    let out : Falls (c ∷ path_behind l) = subst Falls at f.1 in
    rw (
      filter-append (λ k. innermost k.path == c.begun) before (l ∷ ls),
      eq-eqb (innermost l.path) c.begun inner,
      none-in ls c.begun l.number (path_behind l) (omega (arith, out.0)) (omega (arith, inner, f.0)) (below c.begun (path_behind l) out.1 out.0) h,
    )

-- Where the reading is: on a line behind those before it, with a bundle of lines for each component that is open.
pub record IsOn (whole before : List Placed) (bundles : List Bundle) (l : Placed) (ls : List Placed) : Type 0 where
  pub parts : whole ≡ before ++ l ∷ ls
  pub stands : l.path ≡ opens bundles
  pub kept : Keeps before [] bundles
  pub earlier : Before l.number before
  pub inner : innermost l.path < l.number
  pub later : AreInPlace l.number (path_behind l) ls

abbrev pub IsAt : List Placed → List Placed → List Bundle → List Placed → Type 0
IsAt whole before bundles [] = Unit {0}
IsAt whole before bundles (l ∷ ls) = IsOn whole before bundles l ls

pub at-next : {whole before : List Placed} {bundles : List Bundle} (l : Placed) (ls : List Placed) → IsOn whole before bundles l ls →
    IsAt whole (before ++ l ∷ []) (bundles_behind l bundles) ls
at-next l [] on = tt
at-next {before = before} {bundles = bundles} l (m ∷ ms) on =
    let h = on.later in
    record {
      parts = on.parts ∙ sym (append_assoc before (l ∷ []) (m ∷ ms));
      stands = h.0 ∙ sym (opens-behind l bundles (sym on.stands));
      kept = keeps before l bundles on.earlier on.inner (sym on.stands) on.kept;
      earlier =
          All-push (λ k. innermost k.path < m.number) before l
          (All-weaker (λ k. innermost k.path < l.number) (λ k. innermost k.path < m.number) (λ k less. omega (arith, less, h.1)) before on.earlier)
          (omega (arith, on.inner, h.1));
      inner = rw (h.0) h.3;
      later = h.4;
    }

abbrev pub last_in : Option ℕ → List Placed → Option ℕ
last_in last [] = last
last_in last (l ∷ ls) = last_in (Some l.number) ls

abbrev Known : List Placed → Type 0
Known ls =
    (whole before : List Placed) (bundles : List Bundle) (last : Option ℕ) (had : ParsedFileSeen) → IsAt whole before bundles ls →
    at_end (frames_of whole bundles) last ≡ fault_at_end before →
    concluded (last_in last ls) (read_behind (Reads (frames_of whole bundles) had) ls)
    ≡ unless (first_from stands fault_at_end before ls) (parsed_from whole had before ls)

abbrev line_at : ℕ → Line
line_at number = record { number = number; bytes = []; folded = false }

-- the lines of a component all stand before its END
closes-here : (whole before : List Placed) (number : ℕ) (o : Option Parts) (bundles : List Bundle) {ls : List Placed} →
    IsOn whole before bundles (with (line_at number) (opens bundles) o) ls → Closes whole before (with (line_at number) (opens bundles) o) bundles
closes-here whole before number o [] on = tt
closes-here whole before number o (f ∷ fs) {ls} on =
    λ e. ap (lines_in f.begin.number) on.parts
    ∙ own-whole before (with (line_at number) (opens (f ∷ fs)) o) ls (ap (λ p. open_of f ∷ p) (sym e)) (on.inner, falls before [] (f ∷ fs) on.kept) on.later

-- A line with parts, before lines of which it is known.
module _ (number : ℕ) {ls : List Placed} (again : Known ls) (v : Parts) {whole before : List Placed} {bundles : List Bundle}
    (on : IsOn whole before bundles (with (line_at number) (opens bundles) (Some v)) ls) (had : ParsedFileSeen) where
  abbrev l : Placed
  l = with (line_at number) (opens bundles) (Some v)

  abbrev now : ParsedFileSeen
  now = and_line number (passing (named v) v (frame_of whole (opens bundles) (beside before l) ∷ [])) had

  parsed-step : IsMatched l → parsed_from whole now (before ++ l ∷ []) ls ≡ parsed_from whole had before (l ∷ ls)
  parsed-step m = let same = picked-same whole (line_at number) v (beside before l) (opens bundles) m in simp (append_assoc, same.0, same.1)

  asked : IsAsked whole (opens bundles) (beside before l)
  asked z = zone-beside before bundles on.kept z ∙ any-part whole (beside before l)

  by_first : (o : Option FaultKind) → find (λ kind. stands kind (beside before l) l) kinds ≡ o →
      concluded (last_in (Some number) ls) (read_behind (unless_faulty number o (Reads (behind number (named v) v (frames_of whole bundles)) now)) ls)
      ≡ unless (found number o (first_from stands fault_at_end (before ++ l ∷ []) ls)) (parsed_from whole had before (l ∷ ls))
  by_first (Some k) e = rw (broken-stays ls (record { line = number; kind = k })) refl
  by_first None e =
      let moved = opens-behind l bundles refl in
      ap (λ fs. concluded (last_in (Some number) ls) (read_behind (Reads fs now) ls))
      (sym (frames-behind whole before (line_at number) v bundles on.kept (closes-here whole before number (Some v) bundles on)))
      ∙ again whole (before ++ l ∷ []) (bundles_behind l bundles) (Some number) now (at-next l ls on)
      (end-is-known whole before l (bundles_behind l bundles) moved)
      ∙ ap (unless (first_from stands fault_at_end (before ++ l ∷ []) ls)) (parsed-step (nested (λ kind. stands kind (beside before l) l) e))

step : (number : ℕ) {ls : List Placed} → Known ls → (o : Option Parts) {whole before : List Placed} {bundles : List Bundle} →
    IsOn whole before bundles (with (line_at number) (opens bundles) o) ls → (had : ParsedFileSeen) →
    concluded (last_in (Some number) ls) (read_behind (read_on number o (Reads (frames_of whole bundles) had)) ls)
    ≡ unless (first_from stands fault_at_end before (with (line_at number) (opens bundles) o ∷ ls))
    (parsed_from whole had before (with (line_at number) (opens bundles) o ∷ ls))
step number {ls} again None on had = rw (broken-stays ls (record { line = number; kind = BadLine })) refl
step number again (Some v) {whole} {before} {bundles} on had =
    let l : Placed = with (line_at number) (opens bundles) (Some v) in
    rw (
      passing-top whole before (named v) v bundles,
      fault-top whole before (named v) v bundles,
      top_beside before bundles on.kept,
      ← least-same whole (opens bundles) number v (beside before l) (asked number again v on had),
    ) (by_first number again v on had (find (λ kind. stands kind (beside before l) l) kinds) refl)

known : (ls : List Placed) → Known ls
known [] whole before bundles last had on e = simp (e, append-nil)
known (l ∷ ls) whole before bundles last had on e =
    let same : with (line_at l.number) (opens bundles) l.content ≡ l =
    λ i. record { number = l.number; content = l.content; path = sym on.stands i } in
    subst (λ (k : Placed).
    concluded (last_in (Some k.number) ls) (read_behind (read_on k.number k.content (Reads (frames_of whole bundles) had)) ls)
    ≡ unless (first_from stands fault_at_end before (k ∷ ls)) (parsed_from whole had before (k ∷ ls))) same
    (step l.number (known ls) l.content (subst (λ (k : Placed). IsOn whole before bundles k ls) (sym same) on) had)

first-at : (ls : List Placed) → AreInPlace 0 [] ls → IsAt ls [] [] ls
first-at [] h = tt
first-at (l ∷ ls) h =
    record {
      parts = refl;
      stands = h.0;
      kept = tt;
      earlier = All-nil (λ k. innermost k.path < l.number);
      inner = rw (h.0) h.3;
      later = h.4;
    }

-- LINES IN THEIR PLACES are read to what they say, or to their first fault.
pub read_whole : (ls : List Placed) → AreInPlace 0 [] ls →
    concluded (last_in None ls) (read_behind (Reads (bottom ∷ []) nothing_parsed) ls)
    ≡ unless (first_fault ls) (parsed_from ls nothing_parsed [] ls)
read_whole ls h = known ls ls [] [] None nothing_parsed (first-at ls h) refl
