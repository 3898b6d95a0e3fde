use Rattle.std.proofs.Common.{◌≡◌, ◌∙◌, Option, None, Some, MatchOption, ⊎_elim, sym, subst, arith, to_z, of_z, w64}
use Rattle.std.proofs.lemmas.Int.{int_min_is, ints}
use Rattle.ics_listing.proofs.Cases.{some-same}
use Rattle.ics_starts.specs.FileZones.{clocks_in}
use Rattle.ics_starts.specs.RuleMarks.{IsBegun, IsCountMark, IsMarked, IsMarkOf}
use Rattle.ics_starts.specs.SeriesStarts.{first_of, HasOwnRule}
use Rattle.ics_starts.specs.declared.mark.Mark.{Mark}
use Rattle.ics_starts.specs.declared.rule_starts.RuleStarts.{RuleStarts}
use Rattle.ics_starts.specs.declared.series.Series.{Series}
use Rattle.ics_starts.proofs.QuietLemmas.{again-less, quiet-less, quiet-to}
use Rattle.ics_starts.proofs.series.Series.quiet.Goals as goal

-- a mark that is put in place of one is that of the event's rule
mark-put : (s : Series) (old new : Option Mark) → MatchOption s.rule_starts (new ≡ old) (λ r. IsMarked r.rule old new) → IsMarkOf s.event.now old
    → IsMarkOf s.event.now new
mark-put s old new = by s.rule_starts s.own_rule
  where
    marked : (r : RuleStarts) (m : Option Mark) → r.event.now ≡ s.event.now → MatchOption m ⊥ (IsCountMark r.rule) → IsMarkOf s.event.now m
    marked r None e h = absurd h
    marked r (Some m) e h = λ rule has.
        let same : Some r.rule ≡ Some rule = sym (rw e at r.rule_of.of) ∙ has in
        subst (λ x. IsBegun x m.from m.cursor) (some-same r.rule rule same) h.begun

    by : (o : Option RuleStarts) → HasOwnRule s.zones s.event.now s.window (first_of (clocks_in s.zones) s.window s.event.now s.since) o
        → MatchOption o (new ≡ old) (λ r. IsMarked r.rule old new) → IsMarkOf s.event.now old → IsMarkOf s.event.now new
    by None own same is = subst (IsMarkOf s.event.now) (sym same) is
    by (Some r) own put is = ⊎_elim (λ same. subst (IsMarkOf s.event.now) (sym same) is) (marked r new own.event_is) put

pub returns-clause-to : goal.returns-clause-to
returns-clause-to c =
    let s = c.args.self.now in
    let w = s.window in
    let fits : to_z w64 (of_z w64 c.args.self.now.window.to) ≡ c.args.self.now.window.to = omega (arith, ints, w.ordered, w.not_early, w.not_late) in
    let again = rw fits at c.listed_again-listed.ensures in
    let least = c.min.ensures.value in
    quiet-to s.zones s.event.now s.own s.window s.since (to_z w64 (of_z w64 c.min.result))
    (again-less (omega (arith, ints, int_min_is, least, c.min.type_inv, c.listed_again-listed.type_inv, c.rule_quiet.type_inv)) again)
    s.rule_starts s.own_rule
    (quiet-less s.rule_starts (omega (arith, ints, int_min_is, least, c.min.type_inv, c.listed_again-listed.type_inv, c.rule_quiet.type_inv))
    c.rule_quiet.ensures.to)

pub returns-clause-mark : goal.returns-clause-mark
returns-clause-mark c = mark-put c.args.self.now c.args.mark.now c.rule_quiet.new.mark c.rule_quiet.ensures.mark
