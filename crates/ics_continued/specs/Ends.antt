-- From which instant on an occurrence meets no window.
use Rattle.std.specs.Prelude.{ℤ, pos, negsuc, ◌+ℤ◌}
use Rattle.std.specs.Int.{int_max}
use Rattle.ics_listing.specs.Entry.{Entry}

-- the first instant from which on an occurrence meets no window
abbrev pub end_of : Entry → ℤ
end_of o = int_max o.finish (o.start +ℤ pos 1)

-- the first instant of all that a number of 64 bits tells
abbrev pub first_instant : ℤ
first_instant = negsuc 9_223_372_036_854_775_807
