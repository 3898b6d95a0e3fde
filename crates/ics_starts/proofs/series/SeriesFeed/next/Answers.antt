use Rattle.std.proofs.lemmas.Grind.{common_steps}
use Rattle.std.proofs.Common.{◌≡◌, ◌∙◌, suc, length, option_map, None, ap, inl, refl, rules, sym, subst, arith}
use Rattle.ics_listing.specs.Entry.{entry_of}
use Rattle.ics_listing.specs.Listing.{IsIn}
use Rattle.ics_starts.specs.SeriesFeed.{series_left}
use Rattle.ics_starts.proofs.SameLemmas.{both-same, dropped, same-coming, same-left, same-sources, told-end}
use Rattle.ics_starts.proofs.SeriesLemmas.{series-near}
use Rattle.ics_starts.proofs.series.SeriesFeed.next.Goals as goal

pub told-told-requires : goal.told-told-requires
told-told-requires c = let first = rw c.in-Some.is at c.in_ok-start.ensures.first in c.peek.new.self.known c.in-Some.start (rw first (inl refl))

pub wanted-wanted-requires-clause-start : goal.wanted-wanted-requires-clause-start
wanted-wanted-requires-clause-start c =
    let first = rw c.in-Some.is at c.in_ok-start.ensures.first in
    let told = c.told-told in
    told.new.self.known c.in-Some.start (rw (told.ensures.rule, told.ensures.listed, first) (inl refl))

pub wanted-wanted-requires-clause-told : goal.wanted-wanted-requires-clause-told
wanted-wanted-requires-clause-told c = told-end c.peek.new.self c.told-told.new.self c.told-told.ensures.same c.in-Some.start c.told-told.result
    c.told-told.ensures.told

pub pass-requires-clause-first : goal.pass-requires-clause-first
pass-requires-clause-first c =
    let first = rw c.in-Some.is at c.in_ok-start.ensures.first in
    rw (c.told-told.ensures.rule, c.told-told.ensures.listed) first

pub returns-in_err-start-clause-near : goal.returns-in_err-start-clause-near
returns-in_err-start-clause-near c = λ o m.
    series-near c.peek.new.self o (subst (IsIn o) (sym (c.peek.ensures.coming ∙ c.loop-start.invariant.coming)) m)

pub returns-in-Some-wanted-clause-near : goal.returns-in-Some-wanted-clause-near
returns-in-Some-wanted-clause-near c = λ o m.
    let told = c.told-told in
    let left = same-left c.peek.new.self told.new.self told.ensures.same told.ensures.rule told.ensures.listed in
    let coming = same-coming c.peek.new.self told.new.self told.ensures.same left in
    c.pass.ensures.near o (subst (IsIn o) (sym (coming ∙ (c.peek.ensures.coming ∙ c.loop-start.invariant.coming))) m)

pub loop-start-smaller : goal.loop-start-smaller
loop-start-smaller c =
    let told = c.told-told in
    let left = ap length (same-left c.peek.new.self told.new.self told.ensures.same told.ensures.rule told.ensures.listed) in
    let one : length (series_left told.new.self) ≡ suc (length (series_left c.pass.new.self)) = ap length c.pass.ensures.taken in
    omega (arith, one, left, c.peek.ensures.fewer, c.skip.ensures.fewer)

pub loop-start-preserved : goal.loop-start-preserved
loop-start-preserved c =
    let told = c.told-told in
    let left = same-left c.peek.new.self told.new.self told.ensures.same told.ensures.rule told.ensures.listed in
    let coming = same-coming c.peek.new.self told.new.self told.ensures.same left in
    let same = both-same c.peek.ensures.same (both-same told.ensures.same (both-same c.pass.ensures.same c.skip.ensures.same)) in
    let none : c.wanted-wanted.result ≡ None = search rules in
    let unwanted = sym c.wanted-wanted.ensures ∙ ap (option_map entry_of) none in
    record {
      coming = c.skip.ensures.coming
          ∙ (dropped told.new.self c.pass.new.self c.pass.ensures.same c.in-Some.start unwanted c.pass.ensures.taken
          ∙ (coming ∙ (c.peek.ensures.coming ∙ c.loop-start.invariant.coming)));
      sources = same-sources c.loop-start.self c.skip.new.self same ∙ c.loop-start.invariant.sources;
    }

pub returns-in-Some-wanted-clause-ok : goal.returns-in-Some-wanted-clause-ok
returns-in-Some-wanted-clause-ok c = grind (arith, common_steps)

pub returns-clause-ok : goal.returns-clause-ok
returns-clause-ok c = grind (arith, common_steps)

pub returns-clause-near : goal.returns-clause-near
returns-clause-near c = grind (arith, common_steps)
