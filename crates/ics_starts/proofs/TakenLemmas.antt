-- Which locals of a rule EXDATEs remove.
use lib.IntN.{nat_abs}
use Rattle.std.proofs.Common.{◌≡◌, inl, inr, ℕ, ℤ, pos, ◌-ℤ◌, ◌+ℤ◌, ◌<ℤ◌, ◌≤ℤ◌, true, false, List, ⊎_elim, sym, ◌∙◌, ap, subst, arith, w64, to_z, of_z}
use Rattle.std.proofs.lemmas.Bool.{cases_lt, or_left, or_right}
use Rattle.std.proofs.lemmas.Int.{ints}
use Rattle.ics_fields.specs.Days.{IsDayNumber}
use Rattle.ics_fields.specs.Locals.{local_seconds, number, year_number}
use Rattle.ics_fields.specs.declared.local.Local.{Local}
use Rattle.ics_rule.specs.Kept.{is_kept}
use Rattle.ics_values.specs.declared.stamp.Stamp.TheVariants.{Date}
use Rattle.ics_zone.proofs.Cases.{less_or_not_z}
use Rattle.ics_listing.specs.FileClocks.{Clock}
use Rattle.ics_listing.specs.StartTimes.{time_at}
use Rattle.ics_listing.specs.Waiting.{starts_in}
use Rattle.ics_listing.proofs.StartOrderLemmas.{number-seconds}
use Rattle.ics_starts.specs.declared.rule_starts.RuleStarts.{RuleStarts}
use Rattle.ics_starts.specs.Clocks.{clock_of, instant}
use Rattle.ics_starts.specs.Exclusions.{is_among, is_day_in, takes_out}
use Rattle.ics_starts.specs.FileZones.{clocks_in}
use Rattle.ics_starts.specs.Inner.Finds.{IsNextLocal}
use Rattle.ics_starts.specs.RuleFeed.{held_in, AreTakenOut, HasSameSource, HasStayed, IsTakenOut}
use Rattle.ics_starts.specs.RuleStarts.{moment_numbered, to_come}
use Rattle.ics_starts.proofs.SettledLemmas.{moment-read}
use Rattle.ics_starts.proofs.StartSourceLemmas.{numbered-number}

-- the place of a local, by its seconds
pub place-back : (at : ℤ) → (pos 0 -ℤ pos 62_167_219_200) ≤ℤ at → at ≤ℤ pos 1_000_000_000_000
    → pos (nat_abs (to_z w64 (of_z w64 (at +ℤ pos 62_167_219_200)))) ≡ at +ℤ pos 62_167_219_200
place-back at low high = omega (arith, ints, low, high)

module _ (s : RuleStarts) (instants days : List ℤ) where
  abbrev clock : Clock
  clock = clock_of (clocks_in s.zones) s.event.now.start

  -- what a date-time on a removed day gives is removed
  pub day-taken : ((day : ℤ) → s.event.now.start.stamp ≡ Date day → ⊥) → (n : ℕ)
      → is_day_in clock days (clock.moment (pos n -ℤ pos (year_number 1_970))) ≡ true → IsTakenOut instants days s n
  day-taken apart n shown kept =
      let t = moment_numbered (clocks_in s.zones) s.event.now n in
      or_right (is_among instants t) (is_day_in clock days t) (ap (is_day_in clock days) (moment-read (clocks_in s.zones) s.event.now apart n) ∙ shown)

  -- what a local gives whose instant is removed is so
  pub instant-taken : (local : Local) → IsDayNumber local.day → is_among instants (instant (clocks_in s.zones) (time_at s.event.now.start local)) ≡ true
      → IsTakenOut instants days s (number local)
  instant-taken local day among kept =
      let t = moment_numbered (clocks_in s.zones) s.event.now (number local) in
      let same : t ≡ instant (clocks_in s.zones) (time_at s.event.now.start local) =
      ap (λ l. instant (clocks_in s.zones) (time_at s.event.now.start l)) (numbered-number local day) in
      or_left (is_among instants t) (is_day_in clock days t) (ap (is_among instants) same ∙ among)

  -- one local alone
  pub one-taken : (local : Local) (n : ℕ) → IsDayNumber local.day → (local_seconds local +ℤ pos (year_number 1_970)) ≤ℤ pos n
      → pos n <ℤ (local_seconds local +ℤ pos 1 +ℤ pos (year_number 1_970)) → IsTakenOut instants days s (number local) → IsTakenOut instants days s n
  one-taken local n day l u out = subst (IsTakenOut instants days s) (omega (arith, ints, l, u, number-seconds local day)) out

  -- before the next local that the rule keeps there is nothing to remove
  pub next-taken : (local : Local) {place : ℕ} (from to : ℤ) → IsNextLocal s.rule place local → pos place ≡ from +ℤ pos (year_number 1_970)
      → AreTakenOut instants days s (local_seconds local) to → AreTakenOut instants days s from to
  next-taken local from to next at out n l u kept = elim (cases_lt n (number local)) [
    | inl early ↦ absurd (let no : true ≡ false = sym kept ∙ next.next.least n (omega (arith, ints, at, l)) early in cc)
    | inr late ↦ out n (omega (arith, ints, late, number-seconds local next.day)) u kept
  ]

  -- and what comes next is removed with it
  pub taken-on : (from mid to : ℤ) → AreTakenOut instants days s from mid → AreTakenOut instants days s mid to → AreTakenOut instants days s from to
  taken-on from mid to a b n l u =
      ⊎_elim (λ e. a n l (omega (arith, ints, e))) (λ e. b n (omega (arith, ints, e)) u) (less_or_not_z (pos n) (mid +ℤ pos (year_number 1_970)))

pub stayed-on : {a b c : RuleStarts} → HasStayed a b → HasStayed b c → HasStayed a c
stayed-on p q = record {
  source = record {
    zones = q.source.zones ∙ p.source.zones;
    event = q.source.event ∙ p.source.event;
    window = q.source.window ∙ p.source.window;
    rule = q.source.rule ∙ p.source.rule;
    from = q.source.from ∙ p.source.from;
    end = q.source.end ∙ p.source.end;
  };
  day = q.day ∙ p.day;
  next = q.next ∙ p.next;
  cursor = q.cursor ∙ p.cursor;
  held = q.held ∙ p.held;
}

-- what is removed of starts that stayed is removed of them before
pub taken-stayed : {a b : RuleStarts} (instants days : List ℤ) (from to : ℤ) → HasStayed a b → AreTakenOut instants days b from to
    → AreTakenOut instants days a from to
taken-stayed {a = a} {b = b} instants days from to same out n l u kept =
    let s = same.source in
    let one : takes_out (clock_of (clocks_in a.zones) a.event.now.start) instants days (moment_numbered (clocks_in a.zones) a.event.now n)
    ≡ takes_out (clock_of (clocks_in b.zones) b.event.now.start) instants days (moment_numbered (clocks_in b.zones) b.event.now n) =
    sym (λ i. takes_out (clock_of (clocks_in (s.zones i)) (s.event i).now.start) instants days (moment_numbered (clocks_in (s.zones i)) (s.event i).now n)) in
    one ∙ out n l u (ap (λ r. is_kept r n) s.rule ∙ kept)

-- and what they give from a place on is the same
pub come-stayed : {a b : RuleStarts} (place : ℕ) → HasStayed a b
    → to_come (clocks_in b.zones) b.event.now b.rule b.window (held_in b) place ≡ to_come (clocks_in a.zones) a.event.now a.rule a.window (held_in a) place
come-stayed place same =
    let s = same.source in
    λ i. to_come (clocks_in (s.zones i)) (s.event i).now (s.rule i) (s.window i) (starts_in (s.event i).now.start (same.held i)) place

pub source-on : {a b c : RuleStarts} → HasSameSource a b → HasSameSource b c → HasSameSource a c
source-on p q = record {
  zones = q.zones ∙ p.zones;
  event = q.event ∙ p.event;
  window = q.window ∙ p.window;
  rule = q.rule ∙ p.rule;
  from = q.from ∙ p.from;
  end = q.end ∙ p.end;
}
