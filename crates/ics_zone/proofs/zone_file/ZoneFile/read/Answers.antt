-- What jiff's reader answers for the bytes of a zone file, and what the file says.
use Rattle.std.proofs.Common.{◌≡◌, ℕ, ◌≤◌, List, length, Some, None, Ok, arith, rules, sym, ap, ◌∙◌}
use Rattle.std.proofs.lemmas.Bool.Decides.{nat_tests}
use Rattle.jiff_core.specs.declared.error.Error.{Error}
use Rattle.jiff_core.specs.declared.error.Error.TheVariants.{OutOfMemory}
use Rattle.jiff_tz.specs.Tzif.{tzif_view, RuleAgrees, IsParseFailure}
use Rattle.jiff_tz.specs.TzifReader.{read_tzif}
use Rattle.jiff_tz.specs.declared.tzif.Tzif.{Tzif}
use Rattle.ics_zone.specs.ZoneFiles.{zone_file}
use Rattle.ics_zone.proofs.FileLemmas.{agrees-Decides}
use Rattle.ics_zone.proofs.zone_file.ZoneFile.read.Goals as goal

-- a table is what the file says
file_read : (bytes : List ℕ) (z : Tzif) → length bytes ≤ 1_048_576 → read_tzif bytes ≡ Ok (tzif_view z) → RuleAgrees z
    → zone_file bytes ≡ Some (tzif_view z)
file_read bytes z short read agree = grind (arith, nat_tests, agrees-Decides)

-- bytes for which the reader fails, and not for want of memory, are no zone file
file_refused : (bytes : List ℕ) (e : Error) → IsParseFailure e bytes → (e ≡ OutOfMemory → ⊥) → zone_file bytes ≡ None
file_refused bytes e failure other = grind (arith, nat_tests, agrees-Decides)

pub returns-in-Ok-new-clause-file : goal.returns-in-Ok-new-clause-file
returns-in-Ok-new-clause-file c =
    let short : length c.args.bytes.now ≤ 1_048_576 = search rules in
    file_read c.args.bytes.now c.in-Ok.table short c.in-Ok.ensures.value c.in-Ok.ensures.agrees
    ∙ ap (λ (z : Tzif). Some (tzif_view z)) (sym c.in-Ok-new.ensures)

pub returns-in_default-clause-bad : goal.returns-in_default-clause-bad
returns-in_default-clause-bad c = λ same. file_refused c.args.bytes.now c.in-Err.error c.in-Err.ensures.err c.in_default.not-OutOfMemory
