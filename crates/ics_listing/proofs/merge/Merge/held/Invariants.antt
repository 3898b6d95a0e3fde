use Rattle.std.proofs.Common.{◌≡◌, [], ◌+◌, ◌-◌, ◌^◌, length, min, sum_by, take}
use Rattle.ics_listing.specs.Leads.{listed}
use Rattle.ics_listing.proofs.merge.Merge.held.Given as goal

abbrev pub invariant-loop-lead : goal.invariant-loop-lead
invariant-loop-lead g l = l.held
    ≡ min (length (listed l.self.last []) + sum_by (λ x. length (listed x.head (g.F.Holding.holds x.feed))) (take l.lead-index l.self.leads.items)) (2 ^ 64 - 1)
