use Rattle.std.proofs.Common.{◌≡◌, ◌-◌, ◌^◌, min, sum_by, take}
use Rattle.ics_listing.proofs.merge.Merge.steps.Given as goal

abbrev pub invariant-loop-lead : goal.invariant-loop-lead
invariant-loop-lead g l = l.steps ≡ min (sum_by (λ x. g.F.Holding.looked x.feed) (take l.lead-index l.self.leads.items)) (2 ^ 64 - 1)
