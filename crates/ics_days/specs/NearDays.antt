-- The days that a clock can show in a window, known from two offsets between which it stays there, and what is searched of the window near such a day.
use Rattle.std.specs.Prelude.{ℤ, pos, ◌+ℤ◌, ◌-ℤ◌, ◌≡◌, ◌≤ℤ◌, ◌<ℤ◌, false}
use Rattle.std.specs.Int.{int_max, int_min}
use Rattle.ics_fields.specs.Locals.{day_of_local, midnight}
use Rattle.ics_listing.specs.FileClocks.{Clock}
use Rattle.ics_listing.specs.declared.window.Window.{Window}
use Rattle.ics_zone.specs.Seconds.{IsNear}
use Rattle.ics_zone.specs.declared.bounds.Bounds.{Bounds}
use Rattle.ics_days.specs.ShownDays.{date_at}

-- In the window a clock stays between the two offsets, which are less than two days.
pub record HasOffsets (clock : Clock) (w : Window) (b : Bounds) : Type 0 where
  pub offsets : (t : ℤ) → w.from ≤ℤ t → t <ℤ w.to → (b.least ≤ℤ clock.offset t) × (clock.offset t ≤ℤ b.most)
  pub least_short : IsNear b.least
  pub most_short : IsNear b.most

-- the day that the lesser offset shows at the window's first instant, and that the greater shows at its last
abbrev pub first_near : Window → Bounds → ℤ
first_near w b = day_of_local (w.from +ℤ b.least)

abbrev pub last_near : Window → Bounds → ℤ
last_near w b = day_of_local ((w.to -ℤ pos 1) +ℤ b.most)

-- What a window holds from the day's midnight by the greater offset on, to an instant no later than the next midnight by the lesser. From there on, and
-- before the window's end, the clock shows later days.
pub record IsNearDay (clock : Clock) (w : Window) (b : Bounds) (day : ℤ) (n : Window) : Type 0 where
  pub from : n.from ≡ int_max w.from (midnight day -ℤ b.most)
  pub to : n.to ≤ℤ int_min w.to (midnight (day +ℤ pos 1) -ℤ b.least)
  pub later : (t : ℤ) → n.to ≤ℤ t → t <ℤ w.to → day <ℤ date_at clock t
  pub all : n.notstarted ≡ false
