-- The laws of what a file is.
use Rattle.std.proofs.Common.{◌≡◌, List, [], ◌∷◌, ◌++◌, inl, inr, refl, sym, ◌∙◌, ap, subst, append_assoc, ℕ, Bool, true, false, ◌==◌, Some}
use Rattle.std.proofs.Common.{Ok, Err, Result, cond, drop_of_length-le, arith, Option}
use Rattle.std.specs.List.{All}
use Rattle.std.proofs.lemmas.Bool.{cases_Bool, ltb-false, and_parts}
use Rattle.std.specs.Prelude.{◌≢◌, find}
use Rattle.ics_text.specs.Unfolded.{Line, unfolded}
use Rattle.ics_text.specs.ContentLines.{content_of}
use Rattle.ics_values.specs.Durations.{duration_of}
use Rattle.ics_values.specs.Periods.{first_half, second_half, lasts, both, half_of, stamp_half, lasting_end, at_end}
use Rattle.ics_values.specs.Stamps.{is_date_time_form, stamp_of}
use Rattle.ics_values.specs.declared.duration.Duration.{Duration}
use Rattle.ics_values.specs.declared.duration.DurationFault.{DurationFault}
use Rattle.ics_values.specs.declared.period.Period.{Period}
use Rattle.ics_values.specs.declared.period.PeriodFault.{PeriodFault}
use Rattle.ics_values.specs.declared.period.PeriodFault.TheVariants.{BadStamp}
use Rattle.ics_values.specs.declared.stamp.Stamp.{Stamp}
use Rattle.ics_values.specs.declared.stamp.StampFault.{StampFault}
use Rattle.ics_values.specs.Texts.{begins, is_minus}
use Rattle.ics_values.specs.declared.stamp.StampFault.TheVariants as stamp
use Rattle.ics_components.specs.Faults.{stands, kinds}
use Rattle.ics_calendar.specs.LaterFaults.{stands_later, is_in_unknown_zone, tzid_on}
use Rattle.ics_calendar.specs.Files.{UnresolvedSaid, FaultsLookBack, IsFile, file_of, wanted_names}
use Rattle.ics_calendar.specs.Settled.{known_in, settled_by}
use Rattle.ics_components.specs.ParsedFileSeen.{ParsedFileSeen}
use Rattle.ics_components.specs.Pass.{parsed_of}
use Rattle.ics_text.proofs.Rising.{unfolded-rises}
use Rattle.ics_components.specs.FirstFault.{Round, IsFirst, end_fault, last_of}
use Rattle.ics_components.specs.declared.fault.Fault.{Fault}
use Rattle.ics_components.specs.PlacedLines.{Open, Placed, placed, placed_from, path_behind, beside}
use Rattle.ics_components.specs.DateValues.{DateValue, Between, Lasting, date_time_of, has_slash, is_accepted, period_said, OnePeriod}
use Rattle.ics_components.specs.Values.{allowed}
use Rattle.ics_components.specs.declared.fault.FaultKind.{FaultKind}
use Rattle.ics_components.specs.declared.fault.FaultKind.TheVariants.{BadZoneFile}
use Rattle.ics_calendar.specs.DeferredChecks.{KnownZones}
use Rattle.ics_calendar.specs.GivenFiles.{GivenFiles, no_files}
use Rattle.ics_calendar.specs.Wanted.{each_once, unknown_names, zones_with}
use Rattle.ics_calendar.specs.Zones.{zones_on}
use Rattle.ics_components.proofs.DateValueLemmas.{any-first}
use Rattle.ics_calendar.proofs.FilesGiven.{with-no-files, with-agreed}
use Rattle.ics_calendar.proofs.Whole.{is-file, unresolved_at, parsed}

-- A fault of the first round is found without the lines behind it: they stand behind those before them, in their places.
placed-split : (path : List Open) (xs ys : List Line) → (rest : List Placed) × (placed_from path (xs ++ ys) ≡ placed_from path xs ++ rest)
placed-split path [] ys = (placed_from path ys, refl)
placed-split path (line ∷ xs) ys =
    let l : Placed = record { number = line.number; content = content_of line.bytes; path = path } in
    let split = placed-split (path_behind l) xs ys in (split.0, ap (λ (ls : List Placed). l ∷ ls) split.1)

pub look-back : FaultsLookBack
look-back files file longer more fault e f h =
    let split = placed-split [] (unfolded file) more in
    let first : IsFirst stands [] (placed file ++ split.0) fault = record {
      front = h.front;
      line = h.line;
      rest = h.rest ++ split.0;
      parts = ap (λ (ls : List Placed). ls ++ split.0) h.parts ∙ append_assoc h.front (h.line ∷ h.rest) split.0;
      earlier = h.earlier;
      number = h.number;
      least = h.least;
    } in
    inr (f, inl (inl (rw (e, split.1) first)))

-- A file reads of a PERIOD what the reader of periods does.
-- a text without a `/` has no second half
no-second-half : (text : List ℕ) → has_slash text ≡ false → second_half text ≡ []
no-second-half text h = let none = ltb-false _ _ (sym (any-first (λ b. b == 47) text) ∙ h) in drop_of_length-le text (omega (arith, none))

-- a half is a stamp with a time, or the fault that it has
half-is : (form : Bool) (s : Result Stamp StampFault) → cond form (stamp_half s) (Err BadStamp) ≡ stamp_half (cond form s (Err stamp.BadStamp))
half-is form s = grind arith

-- by its halves, where the second is a duration or a stamp: if both accept them, they read the same
abbrev Agree : Result Period PeriodFault → DateValue → Type 0
Agree period value = (p : Period) → period ≡ Ok p → is_accepted value ≡ true → period_said value ≡ Some p

halves-agree : (t minus : Bool) (a b : Result Stamp StampFault) (d : Result Duration DurationFault) →
    Agree (both (stamp_half a) (cond t (lasting_end d) (at_end (stamp_half b)))) (cond t (Lasting a (allowed minus d)) (Between a b))
halves-agree t minus a b d p h k = grind arith

no-period : (a : Result Stamp PeriodFault) (p : Period) → both a (Err BadStamp) ≡ Ok p → ⊥
no-period a p h = grind arith

pub one-period : OnePeriod
one-period zoned text p h k = elim (cases_Bool (has_slash text)) [
  | inl e ↦ rw e (halves-agree (lasts (second_half text)) (begins is_minus (second_half text)) (date_time_of zoned (first_half text))
      (date_time_of zoned (second_half text)) (duration_of (second_half text)) p
      (rw (
        ← half-is (is_date_time_form (first_half text)) (stamp_of zoned (first_half text)),
        ← half-is (is_date_time_form (second_half text)) (stamp_of zoned (second_half text)),
      ) h) (rw e at k))
  | inr e ↦ absurd (no-period (half_of zoned (first_half text)) p (rw (no-second-half text e) at h))
]

-- What a file is with no zone files, and with files that agree on the names that it wants.
pub zones-alone : (lines : List Placed) → zones_with no_files lines ≡ zones_on lines
zones-alone lines = with-no-files (zones_on lines) (each_once (unknown_names lines))

-- what is found is so
found-is : (p : FaultKind → Bool) (ks : List FaultKind) (kind : FaultKind) → find p ks ≡ Some kind → p kind ≡ true
found-is p [] kind e = cc
found-is p (k ∷ ks) kind e = let again = found-is p ks kind in grind (arith, again)

first-stands : (round : Round) {before lines : List Placed} {fault : Fault} (r : IsFirst round before lines fault) →
    round fault.kind (beside (before ++ r.front) r.line) r.line ≡ true
first-stands round {before} {lines} {fault} r =
    found-is (λ kind. round kind (beside (before ++ r.front) r.line) r.line) kinds fault.kind r.least

-- WHERE NO FILE IS GIVEN, none is bad.
never-bad : (file : List ℕ) (line : ℕ) → IsFile no_files file (Err (record { line = line; kind = BadZoneFile })) → ⊥
never-bad file line (inl h) = let other = ap (λ (f : Fault). f.kind) h.1 in cc
never-bad file line (inr (b, inl (inl r))) = let found = first-stands stands r in cc
never-bad file line (inr (b, inl (inr r))) = at_end (last_of (placed file)) r.1
  where
    at_end : (o : Option Placed) → end_fault o ≢ Some (record { line = line; kind = BadZoneFile })
    at_end o e = grind arith
never-bad file line (inr (b, inr r)) =
    let known : KnownZones = zones_with no_files (placed file) in
    let bad = and_parts (is_in_unknown_zone known r.2.line) (known.is_bad (tzid_on r.2.line)) (first-stands (stands_later known) r.2) in
    let other : false ≡ true = ap (λ (known : KnownZones). known.is_bad (tzid_on r.2.line)) (sym (zones-alone (placed file))) ∙ bad.1 in cc

pub no-bad-file : (file : List ℕ) (line : ℕ) → file_of no_files file ≢ Err (record { line = line; kind = BadZoneFile })
no-bad-file file line e = never-bad file line (subst (IsFile no_files file) e (is-file no_files file))

-- FILES THAT AGREE on the wanted names.
pub only-wanted : (files others : GivenFiles) (file : List ℕ) → All (λ name. files name ≡ others name) (wanted_names file) →
    file_of files file ≡ file_of others file
only-wanted files others file =
    subst (λ (d : UnresolvedSaid). All (λ name. files name ≡ others name) d.wants → d.says files ≡ d.says others) (sym (parsed file (unfolded-rises file)))
    (by_unresolved (parsed_of file))
  where
    by_unresolved : (g : Result ParsedFileSeen Fault) → All (λ name. files name ≡ others name) (unresolved_at g).wants →
        (unresolved_at g).says files ≡ (unresolved_at g).says others
    by_unresolved (Err fault) h = refl
    by_unresolved (Ok g) h = ap (λ known. settled_by known g.events g.checks) (with-agreed (known_in g.zones) files others (unresolved_at (Ok g)).wants h)
