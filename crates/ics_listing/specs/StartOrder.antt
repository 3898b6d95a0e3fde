-- Starts, their order, and of several at one instant the first.
use Rattle.std.specs.Prelude.{◌≡◌, ℕ, ℤ, pos, List, [], ◌∷◌, Option, Some, if◌then◌else◌}
use Rattle.std.specs.Option.{option_eq}
use Rattle.std.specs.Ordering.{int_cmp, int_eq, nat_cmp, on, then_cmp}
use Rattle.std.specs.declared.cmp.Ordering.{Ordering}
use Rattle.ics_listing.specs.declared.start.StartSource.{StartSource}
use Rattle.ics_listing.specs.declared.start.StartSource.TheVariants.{Kept, Listed}
use Rattle.ics_listing.specs.declared.start.Start.{Start}
use Rattle.ics_listing.specs.Listing.{IsIn}
use Rattle.ics_listing.specs.Rising.{Rises}
use Rattle.ics_listing.specs.StartTimes.{IsNotAfter}

-- the list has a start at this instant, from this source or an earlier one
pub record HasStart (starts : List Start) (source : StartSource) (t : ℤ) : Type 0 where
  pub start : Start
  pub stands : IsIn start starts
  pub same : start.moment ≡ t
  pub earlier : IsNotAfter start.source source

-- by instant
abbrev pub moment_cmp : Start → Start → Ordering
moment_cmp = on (λ s. s.moment) int_cmp

-- the part of the order of a source: locals come before RDATEs
abbrev pub part_of : StartSource → ℕ
part_of (Kept local) = 0
part_of (Listed place) = 1

-- the day of a local
abbrev pub day_in : StartSource → ℤ
day_in (Kept local) = local.day
day_in (Listed place) = pos 0

-- the second of a local, and the place of an RDATE
abbrev pub place_in : StartSource → ℕ
place_in (Kept local) = local.second
place_in (Listed place) = place

-- locals come first, in their order, and then RDATEs in the order of the file
abbrev pub source_cmp : StartSource → StartSource → Ordering
source_cmp = then_cmp (on part_of nat_cmp) (then_cmp (on day_in int_cmp) (on place_in nat_cmp))

-- by instant, then by what gives the start
abbrev pub start_cmp : Start → Start → Ordering
start_cmp = then_cmp moment_cmp (on (λ s. s.source) source_cmp)

-- of these starts, at each instant the one from the first source
pub record AreFirsts (starts firsts : List Start) : Type 0 where
  pub rises : Rises moment_cmp firsts
  pub are : (s : Start) → IsIn s firsts → IsIn s starts
  pub all : (s : Start) → IsIn s starts → HasStart firsts s.source s.moment

-- the first of each run of starts at one instant, if the list so far ended with a start at the instant `last`
abbrev pub firsts_after : Option ℤ → List Start → List Start
firsts_after last [] = []
firsts_after last (s ∷ starts) =
    if option_eq int_eq last (Some s.moment) then firsts_after (Some s.moment) starts else s ∷ firsts_after (Some s.moment) starts
