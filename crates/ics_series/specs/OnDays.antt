-- The listing of a window under each day.
use Rattle.std.specs.Prelude.{ℤ, ◌≡◌, true, List, ◌∷◌, Option, Some, None, ◌≤ℤ◌, ◌&&◌, ◌||◌, int_lt, ◌++◌}
use Rattle.std.specs.Ordering.{int_eq}
use Rattle.ics_file.specs.File.{FileSaid}
use Rattle.ics_listing.specs.declared.window.Window.{Window}
use Rattle.ics_listing.specs.FileClocks.{Clock}
use Rattle.ics_listing.specs.Entry.{Rank}
use Rattle.ics_days.specs.ShownDays.{is_on}
use Rattle.ics_series.specs.Meets.{IsListed}
use Rattle.ics_starts.specs.MeetsWindow.{Meets}
use Rattle.ics_listing.specs.After.{is_after}
use Rattle.ics_listing.specs.Listing.{IsListing}
use Rattle.ics_listing.specs.DayKeys.{DayRank, OnDay, day_rank_of, on_day_cmp, is_day_after, after_day_key}

-- an occurrence of the folder that meets the window, under one of its days there
pub record IsOnDay (files : List FileSaid) (display : Clock) (w : Window) (p : OnDay) : Type 0 where
  pub listed : IsListed files display w p.entry
  pub on : is_on display w p.entry p.day ≡ true

-- Of what is shown in a window, what comes after the key of a day is what stands under later days than this one, and under this one what comes
-- after the key.
abbrev pub Begins : Clock → Window → Option DayRank → ℤ → Option Rank → Type 0
Begins clock w after day key =
    (p : OnDay) → Meets w p.entry → is_on clock w p.entry p.day ≡ true
    → is_day_after after p ≡ (int_lt day p.day || (int_eq p.day day && is_after key p.entry))

-- a listing begins on the day of the key or later, and on that day behind the key itself
abbrev pub IsBehindKey : Option DayRank → ℤ → Option Rank → Type 0
IsBehindKey None day key = Unit {0}
IsBehindKey (Some after) day key = (after.day ≤ℤ day) × (day ≡ after.day → key ≡ Some after.key)

-- a window has one listing under each day at most
abbrev pub OneDayListing : Type 0
OneDayListing =
    (files : List FileSaid) (display : Clock) (w : Window) (xs ys : List OnDay)
    → IsListing on_day_cmp (IsOnDay files display w) xs → IsListing on_day_cmp (IsOnDay files display w) ys → xs ≡ ys

-- what comes after the key of one of its entries is what stands behind it
abbrev pub DayListingBehind : Type 0
DayListingBehind =
    (files : List FileSaid) (display : Clock) (w : Window) (front : List OnDay) (p : OnDay) (behind : List OnDay)
    → IsListing on_day_cmp (IsOnDay files display w) (front ++ p ∷ behind) → after_day_key (Some (day_rank_of p)) (front ++ p ∷ behind) ≡ behind
