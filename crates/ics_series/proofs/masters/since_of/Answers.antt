use Rattle.std.proofs.Common.{◌≡◌, ◌+ℤ◌, ◌∙◌, ℤ, rules, pos, w64, to_z, of_z, ap, sym, arith, SFits, option_map, nat_cmp}
use Rattle.std.proofs.lemmas.Int.{ints}
use Rattle.std.specs.Cmp.Lexicographic.{slice_cmp}
use Rattle.std.specs.Int.{saturate_signed}
use Rattle.std.specs.Ordering.{ordering_then}
use Rattle.ics_listing.specs.Entry.{key_rank}
use Rattle.ics_series.proofs.AfterLemmas.{since-next, since-none, since-start, turned}
use Rattle.ics_series.proofs.SourceLemmas.{from-next}
use Rattle.ics_series.proofs.masters.since_of.Goals as goal

pub returns-in_default : goal.returns-in_default
returns-in_default c =
    let none = ap (option_map (λ key. key_rank key.now)) c.in_default.is in
    record { since = since-none _ c.args.uid.now none; from = rw none tt }

pub returns-in-Greater : goal.returns-in-Greater
returns-in-Greater c =
    let key = key_rank c.in-Some.key.now in
    let is = ap (option_map (λ key. key_rank key.now)) c.in-Some.is in
    let fits : to_z w64 (of_z w64 c.in-Some.key.now.start) ≡ c.in-Some.key.now.start = search rules in
    let order : c.then.result ≡ turned (key_rank c.in-Some.key.now) c.args.uid.now =
    c.then.ensures ∙ (λ i. ordering_then ((c.cmp.ensures ∙ ap (slice_cmp nat_cmp c.args.uid.now) c.as_slice.ensures.value) i) (c.cmp-2.ensures i)) in
    record {
      since = since-start c.args.uid.now is (sym order ∙ c.in-Greater.is) fits;
      from = rw is (omega (arith, ints, fits));
    }

pub returns-in_default-then : goal.returns-in_default-then
returns-in_default-then c =
    let key = key_rank c.in-Some.key.now in
    let is = ap (option_map (λ key. key_rank key.now)) c.in-Some.is in
    let fits : SFits w64 c.in-Some.key.now.start = search rules in
    let own : to_z w64 (of_z w64 c.in-Some.key.now.start) ≡ c.in-Some.key.now.start = search rules in
    let given : to_z w64 (of_z w64 c.saturating_add.result) ≡ c.saturating_add.result = search rules in
    let next : to_z w64 (of_z w64 c.saturating_add.result) ≡ saturate_signed w64 (c.in-Some.key.now.start +ℤ pos 1) =
    given ∙ (c.saturating_add.ensures ∙ ap (λ (t : ℤ). saturate_signed w64 (t +ℤ pos 1)) own) in
    let order : c.then.result ≡ turned (key_rank c.in-Some.key.now) c.args.uid.now =
    c.then.ensures ∙ (λ i. ordering_then ((c.cmp.ensures ∙ ap (slice_cmp nat_cmp c.args.uid.now) c.as_slice.ensures.value) i) (c.cmp-2.ensures i)) in
    record {
      since = since-next c.args.uid.now is (λ g. c.in_default-then.not-Greater (order ∙ g)) next fits;
      from = rw is (from-next key _ next fits);
    }
