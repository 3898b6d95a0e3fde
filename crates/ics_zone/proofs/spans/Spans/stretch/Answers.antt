use Rattle.std.proofs.Common.{◌∙◌}
use Rattle.ics_zone.proofs.spans.Spans.stretch.Goals as goal

pub returns-in-Some : goal.returns-in-Some
returns-in-Some c = λ offset moment known.
    let told = c.in-Some.ensures offset known.short (rw (c.as_slice-spans.ensures.value, c.deref-2.ensures) known.steady)
    (rw (c.as_slice-offsets.ensures.value, c.deref.ensures) known.offsets) in
    record {
      moments = λ local low high. known.moments local ∙ told.moments local low high;
      offsets = told.offsets;
      short = told.short;
      shown_short = told.shown_short;
    }

pub returns-in-None : goal.returns-in-None
returns-in-None c = λ offset moment known. c.none.ensures offset moment
