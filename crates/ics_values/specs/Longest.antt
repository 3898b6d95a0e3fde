-- How long an event may last.
use Rattle.std.specs.Prelude.{ℕ, ◌*◌}

-- the longest event, in seconds
abbrev pub longest : ℕ
longest = 36_525 * 86_400
