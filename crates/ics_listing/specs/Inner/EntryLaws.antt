-- The order of entries is total.
use Rattle.std.specs.Cmp.{IsTotalOrder}
use Rattle.std.proofs.lemmas.Cmp.{int_cmp_total, nat_list_cmp_total, on_total, then_total}
use Rattle.ics_listing.specs.Entry.{rank_of, rank_cmp, entry_cmp}

pub rank_total : IsTotalOrder rank_cmp
rank_total = then_total (on_total (λ r. r.start) int_cmp_total)
    (then_total (on_total (λ r. r.uid) nat_list_cmp_total) (on_total (λ r. r.recurrence) int_cmp_total))

pub entry_total : IsTotalOrder entry_cmp
entry_total = on_total rank_of rank_total
