-- Entries that are the same, and their order.
use Rattle.std.proofs.Common.{◌≡◌, int_cmp, Ordering}
use Rattle.std.specs.Ordering.{on}
use Rattle.ics_listing.specs.Entry.{Entry}

pub same-entry : (o q : Entry) → o.start ≡ q.start → o.finish ≡ q.finish → o.recurrence ≡ q.recurrence → o.event ≡ q.event → o ≡ q
same-entry o q a b c d = λ i. record { start = a i; finish = b i; recurrence = c i; event = d i }

-- by start
abbrev pub entry_start_cmp : Entry → Entry → Ordering
entry_start_cmp = on (λ e. e.start) int_cmp
