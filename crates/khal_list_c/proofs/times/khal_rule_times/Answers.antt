use Rattle.std.proofs.Common.{inl, refl, sym, subst}
use Rattle.khal_list_c.specs.Clocks.{clock_said}
use Rattle.khal_list_c.specs.Times.{bounded, Fills, is_instance}
use Rattle.khal_list_c.proofs.times.khal_rule_times.Goals as goal

pub returns-in-Ok-clock_of : goal.returns-in-Ok-clock_of
returns-in-Ok-clock_of c =
    let test = is_instance c.in-Ok.said.rule (clock_said c.in-Ok-clock_of.clock) in
    inl (
      refl,
      record {
        said = c.in-Ok.said;
        says = sym c.in-Ok.ensures.said;
        clock = clock_said c.in-Ok-clock_of.clock;
        clocked = c.in-Ok-clock_of.ensures.clock;
        fills = subst (λ n. Fills test n (bounded c.args.before) c.fill-count.new.times c.fill-count.result) c.min.ensures
            (subst (λ n. Fills test c.min.result n c.fill-count.new.times c.fill-count.result) c.min-in-Ok-clock_of.ensures c.fill-count.ensures);
      },
    )
