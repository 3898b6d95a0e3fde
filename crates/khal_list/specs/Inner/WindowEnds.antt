-- What contracts see of a window's ends.
use Rattle.std.specs.Prelude.{ℤ, Option, option_map}
use Rattle.ics_listing.specs.declared.window.Window.{Window}

abbrev pub ends_by : Option Window → Option (ℤ × ℤ)
ends_by window = option_map (λ w. (w.from, w.to)) window
