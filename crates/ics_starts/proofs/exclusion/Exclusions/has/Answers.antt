use Rattle.std.proofs.Common.{◌≡◌, false, w32, w64, to_z, of_z, refl, sym, ◌∙◌, ap, arith, SFits}
use Rattle.std.proofs.lemmas.Int.{ints}
use Rattle.ics_listing.specs.FileClocks.{Clock}
use Rattle.ics_starts.specs.Clocks.{clock_of}
use Rattle.ics_starts.specs.Exclusions.{is_among, shown_day}
use Rattle.ics_starts.specs.FileZones.{clocks_in}
use Rattle.ics_starts.proofs.exclusion.Exclusions.has.Goals as goal

pub returns : goal.returns
returns c =
    let day : to_z w32 (of_z w32 c.shown_day.result) ≡ c.shown_day.result = omega (arith, ints, c.shown_day.type_inv) in
    let fits : SFits w64 c.args.moment = c.ranges.moment in
    let same : to_z w64 (of_z w64 c.args.moment) ≡ c.args.moment = omega (arith, ints) in
    let clock : Clock = clock_of (clocks_in c.args.zones) c.args.first in
    let shown : c.shown_day.result ≡ shown_day clock c.args.moment = c.shown_day.ensures ∙ ap (shown_day clock) same in
    let other : false ≡ is_among c.args.self.now.instants.items c.args.moment = sym c.if-is_among.false
    ∙ (c.is_among.ensures ∙ (ap (is_among c.deref.result.now) same ∙ ap (λ xs. is_among xs c.args.moment) c.deref.ensures.value)) in
    rw (c.has_day.ensures, day, shown, ← other) refl
