-- Lines that the pass goes over unread.
use Rattle.std.proofs.Common.{◌≡◌, ℕ, not, false, List, refl, sym, ap, ◌∙◌, Some, Result, Ok, Err, IfOk}
use Rattle.ics_text.specs.Passing.{IsUnread, IsPassed}
use Rattle.ics_text.specs.Unfolded.{Line}
use Rattle.ics_values.specs.KeptTexts.{KeptTexts, all_texts}
use Rattle.ics_components.specs.declared.first_round.FirstRound.{FirstRound}
use Rattle.ics_components.specs.declared.name.Name.{Name}
use Rattle.ics_components.specs.declared.name.Name.TheVariants as name
use Rattle.ics_values.specs.declared.text_name.TextName.TheVariants as text
use Rattle.ics_components.specs.declared.refused.Refused.{Refused}
use Rattle.ics_components.specs.declared.refused.Refused.TheVariants.{Memory, Fault}
use Rattle.ics_text.specs.ContentLines.{Parts}
use Rattle.ics_components.specs.Known.{is_kept, is_known, kept_name, read_name}
use Rattle.ics_components.specs.KeptPass.{pass_on}
use Rattle.ics_components.specs.Inner.GoingBehind.{GoesBehind}
use Rattle.ics_components.specs.Names.{same_name}
use Rattle.ics_components.specs.Parted.{Reads}
use Rattle.ics_components.specs.Inner.PassedLines.{Passes}
use Rattle.ics_components.specs.Inner.Passing.{GoesOn, ReadsOn}
use Rattle.ics_components.specs.PlacedLines.{named}

-- a property that is not read has no name of its own
unnamed : (n : Name) → not (same_name n name.Other) ≡ false → n ≡ name.Other
unnamed name.Other e = refl
unnamed _ e = cc

pub unread-other : {bytes : List ℕ} (u : IsUnread is_known bytes) → name.Other ≡ named u.parts
unread-other u = sym (unnamed (named u.parts) u.unread)

-- what the components that are open judge of every line that is not read
abbrev pub Judges : Result Unit Refused → FirstRound → Type 0
Judges result round = (number : ℕ) (content : Parts) → Passes result number name.Other content round.stack

-- where all texts are kept, each property is read by its own name
all-kept : (n : Name) → kept_name all_texts n ≡ n
all-kept (name.Text text.Summary) = refl
all-kept _ = refl

module _ (keep : KeptTexts) where
  unread-kept : {bytes : List ℕ} (u : IsUnread (is_kept keep) bytes) → read_name keep u.parts ≡ name.Other
  unread-kept u = unnamed (read_name keep u.parts) u.unread

  pub read-whole : (parts : Parts) → keep ≡ all_texts → read_name keep parts ≡ named parts
  read-whole parts all = ap (λ (k : KeptTexts). kept_name k (named parts)) all ∙ all-kept (named parts)

  goes-over : (result : Result Unit Refused) (round next : FirstRound) (line : Line) (u : IsUnread (is_kept keep) line.bytes) →
      Passes result line.number name.Other u.parts round.stack → IfOk result (λ _. next ≡ record round { last = Some line.number }) →
      GoesBehind keep result line round next
  goes-over (Ok t) round next line u p n = λ lines.
      rw (u.are, unread-kept u, p.0, sym p.1, sym (p.2 round.parsed)) (ap (λ (r : FirstRound). pass_on keep r lines) (sym n))
  goes-over (Err Memory) round next line u p n = tt
  goes-over (Err (Fault kind)) round next line u p n = λ lines. rw (u.are, unread-kept u, p) refl

  reads-over : (result : Result Unit Refused) (round next : FirstRound) (line : Line) (u : IsUnread (is_kept keep) line.bytes) →
      Passes result line.number name.Other u.parts round.stack → IfOk result (λ _. next ≡ record round { last = Some line.number }) →
      next.parsed ≡ round.parsed → ReadsOn keep result line round next
  reads-over (Ok t) round next line u p n e = λ all.
      let other : named u.parts ≡ name.Other = sym (read-whole u.parts all) ∙ unread-kept u in
      rw (u.are, other, p.0, sym p.1, sym (p.2 round.parsed)) (ap (λ (r : FirstRound). Reads r.stack r.parsed) (sym n))
  reads-over (Err Memory) round next line u p n e = tt
  reads-over (Err (Fault kind)) round next line u p n e = e

  pub passed-on : (number : ℕ) (lines rest : List Line) (round next : FirstRound) → IsPassed (is_kept keep) number lines rest → Judges (Ok tt) round →
      next ≡ record round { last = Some number } → GoesOn keep (Ok tt) number lines rest round next
  passed-on number lines rest round next p judged n =
      let passes = judged p.line.number p.unread.parts in
      record {
        line = p.line;
        first = p.first;
        is = p.number;
        goes = goes-over (Ok tt) round next p.line p.unread passes (rw p.number n);
        reads = reads-over (Ok tt) round next p.line p.unread passes (rw p.number n) (ap (λ (r : FirstRound). r.parsed) n);
        last = ap (λ (r : FirstRound). r.last) n;
      }

  pub refused-there : (number : ℕ) (lines rest : List Line) (round : FirstRound) (refused : Refused) → IsPassed (is_kept keep) number lines rest →
      Judges (Err refused) round → GoesOn keep (Err refused) number lines rest round round
  refused-there number lines rest round refused p judged =
      let passes = judged p.line.number p.unread.parts in
      record {
        line = p.line;
        first = p.first;
        is = p.number;
        goes = goes-over (Err refused) round round p.line p.unread passes tt;
        reads = reads-over (Err refused) round round p.line p.unread passes tt refl;
        last = tt;
      }
