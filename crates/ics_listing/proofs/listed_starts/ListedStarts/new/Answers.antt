use Rattle.std.proofs.Common.{None, ◌∙◌, ap, sym, subst, rules}
use Rattle.ics_listing.specs.StartOrder.{firsts_after, moment_cmp, start_cmp, AreFirsts}
use Rattle.ics_listing.specs.Rising.{Rises}
use Rattle.ics_listing.proofs.FirstLemmas.{firsts-of, start_total}
use Rattle.ics_listing.proofs.ListingLemmas.{climbs-by}
use Rattle.ics_listing.proofs.listed_starts.ListedStarts.new.Goals as goal

pub invariant_of-result : goal.invariant_of-result
invariant_of-result c =
    let firsts : AreFirsts c.args.starts.items (firsts_after None c.sort_unstable_by.new.self.items) =
    firsts-of c.args.starts.items c.sort_unstable_by.new.self.items c.sort_unstable_by.ensures.permutation
    (climbs-by start_cmp start_total c.sort_unstable_by.new.self.items c.sort_unstable_by.ensures.sorted (λ f a r f' k. search rules)) in
    record { rises = subst (Rises moment_cmp) (sym (c.in_ok-starts.ensures ∙ ap (firsts_after None) c.deref.ensures.value)) firsts.rises }

pub returns : goal.returns
returns c =
    subst (AreFirsts c.args.starts.items) (sym (c.in_ok-starts.ensures ∙ ap (firsts_after None) c.deref.ensures.value))
    (firsts-of c.args.starts.items c.sort_unstable_by.new.self.items c.sort_unstable_by.ensures.permutation
    (climbs-by start_cmp start_total c.sort_unstable_by.new.self.items c.sort_unstable_by.ensures.sorted (λ f a r f' k. search rules)))
