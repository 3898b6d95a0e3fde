-- The onsets of one observance, as a zone holds them.
use Rattle.std.specs.Prelude.{◌≡◌, ℕ, ◌+◌, ◌<◌, ◌≤◌, ◌⊎◌, Bool, true, ◌&&◌, ◌||◌, ◌==◌, List, length, Option, MatchOption, slice_index_or}
use Rattle.std.specs.Prelude.{int_le, ℤ, ◌<ℤ◌, ◌≤ℤ◌}
use Rattle.std.specs.List.{All, Contains, list_any}
use Rattle.jiff_core.specs.Calendar.{IsWithin}
use Rattle.ics_fields.specs.RuleParts.{RuleParts}
use Rattle.ics_fields.specs.declared.local.Local.{Local}
use Rattle.ics_period.specs.Recurrence.{Recurrence}
use Rattle.ics_rule.specs.CountBounds.{without_count}
use Rattle.ics_rule.specs.Kept.{is_kept, until_moment}
use Rattle.ics_rule.specs.Next.{NoneKept, IsNextKept}
use Rattle.ics_fields.specs.Locals.{number}
use Rattle.ics_zone.specs.declared.gaps.Gap.{Gap}
use Rattle.ics_zone.specs.declared.onsets.Onsets.{Onsets}
use Rattle.ics_zone.specs.Observances.{ObservanceSaid, instant_by, is_until, is_onset, rule_from}
use Rattle.ics_zone.specs.Inner.Latest.{IsInOrder}
use Rattle.ics_zone.specs.Inner.Repeats.{IsRepeated}
use Rattle.ics_period.specs.PeriodNumbers.{rules_end}

-- an instant or a local about which onsets are searched for: about 9,500 years either way, so that the years 0000 to 9950 have room on both sides
abbrev pub IsSearched : ℤ → Type 0
IsSearched seconds = IsWithin 300_000_000_000 seconds

-- how many locals are shown up to an instant and up to an end
pub record IsShownTo (from until t : ℤ) (count : ℕ) : Type 0 where
  pub bound : count ≤ rules_end
  pub shown : (n : ℕ) → n < count → instant_by from n ≤ℤ t
  pub by_until : (n : ℕ) → n < count → instant_by from n ≤ℤ until
  pub later : (n : ℕ) → count ≤ n → n < rules_end → instant_by from n ≤ℤ until → t <ℤ instant_by from n

-- how many locals are shown up to an instant
pub record IsShownBy (from m : ℤ) (count : ℕ) : Type 0 where
  pub bound : count ≤ rules_end
  pub shown : (n : ℕ) → n < count → instant_by from n ≤ℤ m
  pub later : (n : ℕ) → count ≤ n → n < rules_end → m <ℤ instant_by from n

-- t is the instant of a local that the rule keeps, and is not after an end
pub record IsKeptBy (from until : ℤ) (r : Recurrence) (t : ℤ) : Type 0 where
  pub local : ℕ
  pub early : local < rules_end
  pub kept : is_kept r local ≡ true
  pub is : t ≡ instant_by from local
  pub by_end : t ≤ℤ until

abbrev pub IsKeptAt : Onsets → ℤ → Type 0
IsKeptAt onsets t = MatchOption onsets.rule ⊥ (λ r. IsKeptBy onsets.offset_from onsets.until r t)

-- t is one of the onsets
abbrev pub Has : Onsets → ℤ → Type 0
Has onsets t = Contains onsets.listed.items t ⊎ IsKeptAt onsets t

-- the rule of an observance as a zone holds it: without COUNT
abbrev pub held_rule : Local → RuleParts → Recurrence
held_rule start parts = without_count (rule_from start parts)

-- a local that the rule keeps is one of an onset by UNTIL exactly if the rule without COUNT keeps it and its instant is not after this one
abbrev pub IsEnd : ℤ → ℤ → Recurrence → Type 0
IsEnd from end r =
    (n : ℕ) → n < rules_end
    → (is_kept r n && is_until (until_moment r) (instant_by from n)) ≡ (is_kept (without_count r) n && int_le (instant_by from n) end)

-- a list has, in order, those of a set of instants that are after one instant and before another, and no other
pub record AreFound (set : ℤ → Type 0) (from to : ℤ) (list : List ℤ) : Type 0 where
  pub in_order : IsInOrder list
  pub known : (t : ℤ) → Contains list t → set t
  pub late : (t : ℤ) → Contains list t → from <ℤ t
  pub early : (t : ℤ) → Contains list t → t <ℤ to
  pub complete : (t : ℤ) → set t → from <ℤ t → t <ℤ to → Contains list t

-- those after one instant and before another are found
unfoldable pub IsFound : Onsets → Type 0
IsFound onsets = AreFound (Has onsets) onsets.known_from onsets.known_to onsets.found.items

-- a gap begins at an instant of a set, and none of the set is later and before its end
pub record IsGap (set : ℤ → Type 0) (gap : Gap) : Type 0 where
  pub is : set gap.last
  pub next : (t : ℤ) → set t → gap.last <ℤ t → gap.next ≤ℤ t

-- the gaps held are gaps between the onsets
unfoldable pub HasGaps : Onsets → Type 0
HasGaps onsets = All (IsGap (Has onsets)) onsets.gaps.items

-- of the locals shown up to t, the rule keeps local `last`, and after it `next`, or none if there is none
pub record IsGapKept (onsets : Onsets) (r : Recurrence) (t : ℤ) (last : ℕ) (next : Option ℕ) : Type 0 where
  pub end : ℕ
  pub shown : IsShownTo onsets.offset_from onsets.until t end
  pub kept : is_kept r last ≡ true
  pub early : last < end
  pub follows : MatchOption next (NoneKept r (last + 1) end) (IsNextKept r (last + 1) end)

-- what the rule keeps repeats
unfoldable pub HasRound : Onsets → Type 0
HasRound onsets = MatchOption onsets.rule (Unit {0}) (λ r. IsRepeated onsets.offset_from r onsets.round)

-- the onsets are listed in order, none is earlier than the first listed one, and those of a time are found
pub record IsSound (onsets : Onsets) : Type 0 where
  pub from_in : IsWithin 86_399 onsets.offset_from
  pub some : 0 < length onsets.listed.items
  pub in_order : IsInOrder onsets.listed.items
  pub first : (t d : ℤ) → IsKeptAt onsets t → slice_index_or onsets.listed.items 0 d ≤ℤ t
  pub found : IsFound onsets
  pub gaps : HasGaps onsets
  pub repeats : HasRound onsets

-- the onsets are those of an observance
pub record AreOnsetsOf (p : ObservanceSaid) (onsets : Onsets) : Type 0 where
  pub sound : IsSound onsets
  pub from : onsets.offset_from ≡ p.offset_from
  pub to : onsets.offset_to ≡ p.offset_to
  pub known : (t : ℤ) → Has onsets t → is_onset p t ≡ true
  pub complete : (t : ℤ) → is_onset p t ≡ true → Has onsets t

-- local n is DTSTART or an RDATE
abbrev pub is_listed : ObservanceSaid → ℕ → Bool
is_listed p n = n == number p.start || list_any (λ l. number l == n) p.rdates

-- a list of the instants of DTSTART and of the RDATEs, in order
pub record IsListing (p : ObservanceSaid) (list : List ℤ) : Type 0 where
  pub in_order : IsInOrder list
  pub known : (t : ℤ) → Contains list t → (n : ℕ) × ((t ≡ instant_by p.offset_from n) × (is_listed p n ≡ true))
  pub complete : (n : ℕ) → is_listed p n ≡ true → Contains list (instant_by p.offset_from n)
