use Rattle.std.proofs.Common.{◌≡◌, sym, ◌∙◌, ap, arith, true}
use Rattle.std.proofs.lemmas.Int.{ints}
use Rattle.ics_event.specs.Event.{stamp_seconds}
use Rattle.ics_fields.specs.Locals.{local_seconds}
use Rattle.ics_fields.specs.declared.local.Local.{Local}
use Rattle.ics_listing.proofs.Cases.{moment-back}
use Rattle.ics_starts.specs.Clocks.{is_in}
use Rattle.ics_starts.specs.FileZones.{clocks_in}
use Rattle.ics_starts.proofs.StretchLemmas.{instant-inside, seconds-of}
use Rattle.ics_starts.proofs.instants.instant_in.Goals as goal

pub returns-then-is_in : goal.returns-then-is_in
returns-then-is_in c =
    let s = c.args.stretch in
    let back = moment-back c.seconds-local.result c.seconds-local.type_inv in
    let is : c.seconds-local.result ≡ stamp_seconds c.args.time.stamp =
    c.seconds-local.ensures ∙ (ap (λ (l : Local). local_seconds l) c.local_of.ensures ∙ seconds-of c.args.time.stamp) in
    let within : is_in s c.seconds-local.result ≡ true = ap (is_in s) (sym back) ∙ (sym c.is_in.ensures ∙ c.if-is_in.true) in
    let told = instant-inside (clocks_in c.args.zones) c.args.time s c.requires.stretch c.seconds-local.result is within in
    let short = c.requires.stretch.short in
    omega (arith, ints, told, back, short)
