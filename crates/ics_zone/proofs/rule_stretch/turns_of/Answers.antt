use Rattle.std.proofs.Common.{◌≡◌, ℤ, IfSome, option_map, refl, sym, ap, subst, ◌∙◌, arith, inl, inr}
use Rattle.jiff_core.proofs.SignedLemmas.{signed_arith}
use Rattle.jiff_tz.proofs.YearLemmas.{back_year}
use Rattle.jiff_tz.specs.PosixRule.{first_nanosecond, next_at, transition_view}
use Rattle.jiff_tz.specs.PosixText.{dst_view, tz_view}
use Rattle.ics_zone.specs.Inner.RuleTurns.{first_second, AreShown, AreTurns}
use Rattle.ics_zone.specs.declared.rule_stretch.Turns.{Turns}
use Rattle.ics_zone.proofs.RuleStretchLemmas.{if_some}
use Rattle.ics_zone.proofs.RuleTurnLemmas.{turns_by, AreFirst}
use Rattle.ics_zone.proofs.rule_stretch.turns_of.Goals as goal

pub returns-then-is_dst : goal.returns-then-is_dst
returns-then-is_dst c =
    let rule = c.args.rule in
    let dst = c.args.dst in
    let year = c.args.year in
    let one = c.in-Some-next_transition.one in
    let two = c.in-Some-next_transition-2.two in
    let back = back_year year c.requires.year in
    let first : c.ends_of.result.0 ≡ first_second year = c.ends_of.ensures.first ∙ ap first_second back in
    let at : c.in-Some.january.nanosecond ≡ first_nanosecond year = omega (arith, signed_arith, c.in-Some.ensures, first, c.ends_of.ensures.first_bound) in
    let turns : AreFirst rule dst year one.timestamp.nanosecond two.timestamp.nanosecond = record {
      own = c.requires.own;
      year_in = c.requires.year;
      one = transition_view one;
      two = transition_view two;
      first = ap (next_at rule) (sym at) ∙ sym c.next_transition.ensures ∙ ap (option_map transition_view) c.in-Some-next_transition.is;
      second = sym c.next_transition-2.ensures ∙ ap (option_map transition_view) c.in-Some-next_transition-2.is;
      order = inl (sym c.is_dst.ensures ∙ c.if-is_dst.true, refl, refl);
    } in
    let shown = λ (y : ℤ) (t : Turns).
    AreShown y one.timestamp.nanosecond two.timestamp.nanosecond rule.std_offset.seconds dst.offset.seconds t.begin t.end in
    if_some (shown year) (λ t. AreTurns (tz_view rule) (dst_view dst) year t.begin t.end) c.turns_at.result
    (λ t h. turns_by turns h) (subst (λ y. IfSome c.turns_at.result (shown y)) back c.turns_at.ensures)

pub returns-else-is_dst : goal.returns-else-is_dst
returns-else-is_dst c =
    let rule = c.args.rule in
    let dst = c.args.dst in
    let year = c.args.year in
    let one = c.in-Some-next_transition.one in
    let two = c.in-Some-next_transition-2.two in
    let back = back_year year c.requires.year in
    let first : c.ends_of.result.0 ≡ first_second year = c.ends_of.ensures.first ∙ ap first_second back in
    let at : c.in-Some.january.nanosecond ≡ first_nanosecond year = omega (arith, signed_arith, c.in-Some.ensures, first, c.ends_of.ensures.first_bound) in
    let turns : AreFirst rule dst year two.timestamp.nanosecond one.timestamp.nanosecond = record {
      own = c.requires.own;
      year_in = c.requires.year;
      one = transition_view one;
      two = transition_view two;
      first = ap (next_at rule) (sym at) ∙ sym c.next_transition.ensures ∙ ap (option_map transition_view) c.in-Some-next_transition.is;
      second = sym c.next_transition-2.ensures ∙ ap (option_map transition_view) c.in-Some-next_transition-2.is;
      order = inr (sym c.is_dst.ensures ∙ c.if-is_dst.false, refl, refl);
    } in
    let shown = λ (y : ℤ) (t : Turns).
    AreShown y two.timestamp.nanosecond one.timestamp.nanosecond rule.std_offset.seconds dst.offset.seconds t.begin t.end in
    if_some (shown year) (λ t. AreTurns (tz_view rule) (dst_view dst) year t.begin t.end) c.turns_at-else-is_dst.result
    (λ t h. turns_by turns h) (subst (λ y. IfSome c.turns_at-else-is_dst.result (shown y)) back c.turns_at-else-is_dst.ensures)
