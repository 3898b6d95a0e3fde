-- The pass over some lines and then over others: what is gathered is concatenated, and the first fault is that of the first lines that have one.
use Rattle.std.proofs.Common.{◌≡◌, ℕ, List, [], ◌∷◌, ◌++◌, refl, sym, ap, ◌∙◌, append_assoc, Option, Some, None}
use Rattle.std.specs.Prelude.{Result, Err}
use Rattle.std.proofs.lemmas.List.{append-nil}
use Rattle.ics_text.specs.Unfolded.{Line}
use Rattle.ics_text.specs.ContentLines.{Parts, content_of}
use Rattle.ics_components.specs.declared.fault.Fault.{Fault}
use Rattle.ics_components.specs.declared.fault.FaultKind.{FaultKind}
use Rattle.ics_components.specs.declared.frame.Frame.{Frame}
use Rattle.ics_components.specs.Lines.{behind, fault_on, passing}
use Rattle.ics_components.specs.ParsedFileSeen.{ParsedFileSeen}
use Rattle.ics_components.specs.ParsedFiles.{and_line, nothing_parsed}
use Rattle.ics_components.specs.Parted.{LinesRead, Reads, Broken, read_behind, read_on, unless_faulty}
use Rattle.ics_components.specs.Pass.{at_end, on_content, on_line, pass, unless}
use Rattle.ics_components.specs.PlacedLines.{Placed, Open, named, path_behind, placed_from}
use Rattle.ics_components.proofs.Frames.{with}

-- what the pass answers where its lines end
abbrev pub concluded : Option ℕ → LinesRead → Result ParsedFileSeen Fault
concluded last (Reads frames had) = unless (at_end frames last) had
concluded last (Broken fault) = Err fault

abbrev pub last_number : Option ℕ → List Line → Option ℕ
last_number last [] = last
last_number last (line ∷ lines) = last_number (Some line.number) lines

-- what is gathered of some lines and then of others
abbrev pub and_parsed : ParsedFileSeen → ParsedFileSeen → ParsedFileSeen
and_parsed had more = record { zones = had.zones ++ more.zones; events = had.events ++ more.events; checks = had.checks ++ more.checks }

abbrev pub and_read : ParsedFileSeen → LinesRead → LinesRead
and_read had (Reads frames more) = Reads frames (and_parsed had more)
and_read had (Broken fault) = Broken fault

-- nothing is read behind a fault
pub broken-stays : (ls : List Placed) (fault : Fault) → read_behind (Broken fault) ls ≡ Broken fault
broken-stays [] fault = refl
broken-stays (l ∷ ls) fault = broken-stays ls fault

-- some lines and then others
pub read-append : (ls ms : List Placed) (read : LinesRead) → read_behind read (ls ++ ms) ≡ read_behind (read_behind read ls) ms
read-append [] ms read = refl
read-append (l ∷ ls) ms read = read-append ls ms (read_on l.number l.content read)

-- THE PASS over the lines of a file is the reading of them in their places, and what stands at their end.
pub pass-reads : (lines : List Line) (path : List Open) (frames : List Frame) (last : Option ℕ) (had : ParsedFileSeen) →
    pass frames last had lines ≡ concluded (last_number last lines) (read_behind (Reads frames had) (placed_from path lines))
pass-reads [] path frames last had = refl
pass-reads (line ∷ lines) path frames last had =
    by_content (content_of line.bytes) (λ path frames had. pass-reads lines path frames (Some line.number) had)
  where
    Later : Type 0
    Later =
        (path : List Open) (frames : List Frame) (had : ParsedFileSeen) →
        pass frames (Some line.number) had lines
        ≡ concluded (last_number (Some line.number) lines) (read_behind (Reads frames had) (placed_from path lines))

    by_content : (o : Option Parts) → Later →
        on_content line.number o frames had (λ frames had. pass frames (Some line.number) had lines)
        ≡ concluded (last_number (Some line.number) lines)
        (read_behind (read_on line.number o (Reads frames had)) (placed_from (path_behind (with line path o)) lines))
    by_content None later = rw (broken-stays (placed_from (path_behind (with line path None)) lines) _) refl
    by_content (Some c) later = by_fault (fault_on (named c) c frames)
      where
        by_fault : (o : Option FaultKind) →
            on_line line.number o
            (pass (behind line.number (named c) c frames) (Some line.number) (and_line line.number (passing (named c) c frames) had) lines)
            ≡ concluded (last_number (Some line.number) lines)
            (read_behind
            (unless_faulty line.number o
            (Reads (behind line.number (named c) c frames) (and_line line.number (passing (named c) c frames) had)))
            (placed_from (path_behind (with line path (Some c))) lines))
        by_fault None =
            later (path_behind (with line path (Some c))) (behind line.number (named c) c frames)
            (and_line line.number (passing (named c) c frames) had)
        by_fault (Some kind) = rw (broken-stays (placed_from (path_behind (with line path (Some c))) lines) _) refl

-- WHAT WAS GATHERED BEFORE stands before what is gathered of some lines.
one-more : (number : ℕ) (content : Option Parts) (frames : List Frame) (had more : ParsedFileSeen) →
    read_on number content (Reads frames (and_parsed had more)) ≡ and_read had (read_on number content (Reads frames more))
one-more number None frames had more = refl
one-more number (Some c) frames had more = by_fault (fault_on (named c) c frames)
  where
    by_fault : (o : Option FaultKind) →
        unless_faulty number o (Reads (behind number (named c) c frames) (and_line number (passing (named c) c frames) (and_parsed had more)))
        ≡ and_read had (unless_faulty number o (Reads (behind number (named c) c frames) (and_line number (passing (named c) c frames) more)))
    by_fault None = simp append_assoc
    by_fault (Some kind) = refl

and-read : (ls : List Placed) (had : ParsedFileSeen) (read : LinesRead) → read_behind (and_read had read) ls ≡ and_read had (read_behind read ls)
and-read [] had read = refl
and-read (l ∷ ls) had (Broken fault) = and-read ls had (Broken fault)
and-read (l ∷ ls) had (Reads frames more) =
    ap (λ r. read_behind r ls) (one-more l.number l.content frames had more) ∙ and-read ls had (read_on l.number l.content (Reads frames more))

pub read_from : (ls : List Placed) (frames : List Frame) (had : ParsedFileSeen) →
    read_behind (Reads frames had) ls ≡ and_read had (read_behind (Reads frames nothing_parsed) ls)
read_from ls frames had =
    ap (λ g. read_behind (Reads frames g) ls) (sym (whole had)) ∙ and-read ls had (Reads frames nothing_parsed)
  where
    whole : (had : ParsedFileSeen) → and_parsed had nothing_parsed ≡ had
    whole had = simp append-nil
