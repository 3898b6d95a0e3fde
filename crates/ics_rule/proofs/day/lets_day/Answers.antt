use Rattle.std.proofs.Common.{◌≡◌, ◌*◌, Bool, true, false, ◌&&◌, arith}
use Rattle.ics_rule.proofs.DayLemmas.{each_step}
use Rattle.ics_rule.proofs.day.lets_day.Goals as goal

with_true : (a b c : Bool) → a ≡ true → b ≡ c → b ≡ (a && c)
with_true a b c h is = grind arith

with_false : (a b c : Bool) → b ≡ c → b ≡ false → b ≡ (a && c)
with_false a b c is h = grind arith

pub returns-then-parts-eq1 : goal.returns-then-parts-eq1
returns-then-parts-eq1 c =
    with_true _ _ _ (each_step c.args.parts.now c.args.start (c.args.day * 86_400) c.if-parts-eq1.true (omega (arith, c.requires.after)))
    c.lets_date-is_let_in.ensures

pub returns-else-is_let_in : goal.returns-else-is_let_in
returns-else-is_let_in c = with_false _ _ _ c.lets_date-is_let_in.ensures c.if-is_let_in.false
