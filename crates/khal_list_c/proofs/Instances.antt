-- Instances of a rule: kept locals whose instants an UNTIL in UTC allows.
use Rattle.std.proofs.Common.{◌≡◌, ◌≢◌, ℕ, ℤ, pos, ◌+◌, ◌+ℤ◌, ◌-ℤ◌, ◌≤ℤ◌, ◌<ℤ◌, int_le, ◌<◌, ◌≤◌, min, max, Bool, true, false, Option, Some, refl}
use Rattle.std.proofs.Common.{subst, ⊎_elim, arith}
use Rattle.std.proofs.lemmas.Grind.{common_steps}
use Rattle.std.proofs.lemmas.Bool.{cases_lt}
use Rattle.std.proofs.lemmas.Int.{ints}
use Rattle.ics_fields.specs.Days.{IsDayNumber}
use Rattle.ics_fields.specs.Locals.{number, local_seconds, year_seconds}
use Rattle.ics_fields.specs.declared.local.Local.{Local}
use Rattle.ics_fields.proofs.DayLemmas.{day_index_parts}
use Rattle.ics_rule.specs.Kept.{is_kept, until_moment}
use Rattle.ics_rule.specs.Next.{IsNextKept, NoneKept}
use Rattle.ics_period.specs.PeriodNumbers.{rules_end}
use Rattle.ics_period.specs.Recurrence.{Recurrence}
use Rattle.ics_zone.specs.ZoneSaid.{ZoneSaid, Always, said_moment, said_offset, zone_said}
use Rattle.ics_zone.specs.declared.zone.ZoneKind.{ZoneKind}
use Rattle.ics_zone.specs.Inner.ZoneBounds.{said_moment_near, said_offset_near}
use Rattle.khal_list_c.specs.Clocks.{instant_in, epoch}
use Rattle.khal_list_c.specs.Conversions.{IsInstant}
use Rattle.khal_list_c.specs.Times.{is_by_instant, is_instance, IsNextOf, NoneOf}

pub not-kept : (r : Recurrence) (clock : Option ZoneSaid) (n : ℕ) → is_kept r n ≡ false → is_instance r clock n ≡ false
unfolding is_instance
not-kept r clock n e = rw e refl

pub started : (r : Recurrence) (clock : Option ZoneSaid) (n : ℕ) → is_kept r n ≡ true → n ≡ number r.start → is_instance r clock n ≡ true
unfolding is_instance
started r clock n kept same = grind (arith, common_steps)

pub allowed : (r : Recurrence) (clock : Option ZoneSaid) (n : ℕ) → is_kept r n ≡ true → is_by_instant (until_moment r) clock n ≡ true
    → is_instance r clock n ≡ true
unfolding is_instance
allowed r clock n kept allows = grind (arith, common_steps)

pub refused : (r : Recurrence) (clock : Option ZoneSaid) (n : ℕ) → n ≢ number r.start → is_by_instant (until_moment r) clock n ≡ false
    → is_instance r clock n ≡ false
unfolding is_instance
refused r clock n other refuses = grind (arith, common_steps)

pub none-on : (r : Recurrence) (clock : Option ZoneSaid) (a b c : ℕ) → NoneOf (is_instance r clock) a b → NoneKept r b c
    → NoneOf (is_instance r clock) a c
none-on r clock a b c none kept n low high = ⊎_elim (λ less. none n low less) (λ more. not-kept r clock n (kept n (omega arith) high)) (cases_lt n b)

pub next-of : (r : Recurrence) (clock : Option ZoneSaid) (a b bound n : ℕ) → a ≤ b → NoneOf (is_instance r clock) a b → IsNextKept r b bound n
    → is_instance r clock n ≡ true → IsNextOf (is_instance r clock) a bound n
next-of r clock a b bound n up none next passes = record {
  passes = passes;
  from_place = let low = next.from_place in omega arith;
  in_bound = next.in_bound;
  least = none-on r clock a b n none next.least;
}

pub none-past : (r : Recurrence) (clock : Option ZoneSaid) (a b bound n : ℕ) → NoneOf (is_instance r clock) a b → IsNextKept r b bound n
    → is_instance r clock n ≡ false → NoneOf (is_instance r clock) a (n + 1)
none-past r clock a b bound n none next not m low high = ⊎_elim
    (λ less. none-on r clock a b n none next.least m low less)
    (λ more. let same : n ≡ m = omega arith in subst (λ k. is_instance r clock k ≡ false) same not)
    (cases_lt m n)

-- From e on an UNTIL in UTC allows no instant, so that no local from it on is an instance after the start.
pub none-from : (r : Recurrence) (clock : Option ZoneSaid) (e end before : ℕ)
    → ((n : ℕ) → e ≤ n → n < rules_end → is_by_instant (until_moment r) clock n ≡ false)
    → before ≤ rules_end → end ≡ min before (max e (number r.start + 1)) → NoneOf (is_instance r clock) end before
none-from r clock e end before past high is n low under = refused r clock n (λ same. omega arith) (past n (omega arith) (omega arith))

pub none-both : (test : ℕ → Bool) (a b c : ℕ) → NoneOf test a b → NoneOf test b c → NoneOf test a c
none-both test a b c before after n low high = ⊎_elim (λ less. before n low less) (λ more. after n (omega arith) high) (cases_lt n b)

pub widened : (test : ℕ → Bool) (a end before n : ℕ) → end ≤ before → IsNextOf test a end n → IsNextOf test a before n
widened test a end before n up next = record {
  passes = next.passes;
  from_place = next.from_place;
  in_bound = let low = next.in_bound in omega arith;
  least = next.least;
}

-- in UTC a local has its own seconds
pub instant-utc : (n : ℕ) → instant_in (Always (pos 0)) n ≡ pos n -ℤ pos epoch
unfolding said_moment
instant-utc n = omega (arith, ints)

-- the seconds of a local from 1970-01-01 on, by its number
pub seconds-numbered : (l : Local) → IsDayNumber l.day → pos (number l) -ℤ pos epoch ≡ local_seconds l
seconds-numbered l h = grind (arith, ints, day_index_parts)

pub late : (until : ℤ) (t : ℤ) → until <ℤ t → int_le t until ≡ false
late until t h = grind (arith, ints)

-- a local and its instant are less than two days apart
pub past_utc : (until : ℤ) (n : ℕ) → (until +ℤ pos 62_167_392_000) ≤ℤ pos n → is_by_instant (Some until) (Some (Always (pos 0))) n ≡ false
past_utc until n after = let same = instant-utc n in late until _ (omega (arith, ints))

pub past_zone : (zone : ZoneKind) (until : ℤ) (n : ℕ) → (until +ℤ pos 62_167_392_000) ≤ℤ pos n
    → is_by_instant (Some until) (Some (zone_said zone)) n ≡ false
past_zone zone until n after = let near = said_moment_near zone (pos n -ℤ pos epoch) in late until _ (omega (arith, ints))

-- so that the local at an instant of the years 0001 to 9800 is of the years 0000 to 9899
pub shown_between : (zone : ZoneKind) (t seconds : ℤ) → IsInstant t → seconds ≡ t +ℤ said_offset (zone_said zone) t
    → (year_seconds 0 ≤ℤ seconds) × (seconds ≤ℤ year_seconds 9_900)
shown_between zone t seconds years is = let near = said_offset_near zone t in (omega (arith, ints), omega (arith, ints))
