use Rattle.std.proofs.Common.{◌≡◌, ◌⊎◌, inl, inr, ℤ, pos, ◌-ℤ◌, ◌≤ℤ◌, ℕ, Option, sym, subst, arith}
use Rattle.std.proofs.lemmas.Int.{ints}
use Rattle.ics_fields.specs.declared.local.Local.{Local}
use Rattle.ics_values.specs.declared.stamp.Stamp.{Stamp}
use Rattle.ics_values.specs.declared.stamp.Stamp.TheVariants.{Date, Floating, Zoned}
use Rattle.ics_zone.specs.declared.bounds.Bounds.{Bounds}
use Rattle.ics_starts.specs.Clocks.{clock_by, utc_clock, IsBounded}
use Rattle.ics_listing.specs.FileClocks.{Clock, Clocks}
use Rattle.ics_starts.specs.FileZones.{clocks_in}
use Rattle.ics_starts.specs.Leeway.{seconds_off}
use Rattle.ics_starts.proofs.instants.bounds.Goals as goal

-- what is ensured of a time whose stamp is known
record Stays (clocks : Clocks) (zone : Option ℕ) (s : Stamp) (b : Bounds) : Type 0 where
  pub bounded : IsBounded (clock_by clocks zone s) b
  pub most : b.most ≤ℤ seconds_off s
  pub least : (pos 0 -ℤ seconds_off s) ≤ℤ b.least

of-display : (clocks : Clocks) (zone : Option ℕ) (s : Stamp) (b : Bounds) → ((day : ℤ) × (s ≡ Date day)) ⊎ ((local : Local) × (s ≡ Floating local))
    → IsBounded clocks.display b → Stays clocks zone s b
of-display clocks zone s b (inl k) h =
    subst (λ t. Stays clocks zone t b) (sym k.1) (record { bounded = h; most = omega (arith, ints, h.most_short); least = omega (arith, ints, h.least_short) })
of-display clocks zone s b (inr k) h =
    subst (λ t. Stays clocks zone t b) (sym k.1) (record { bounded = h; most = omega (arith, ints, h.most_short); least = omega (arith, ints, h.least_short) })

pub returns-in-Date : goal.returns-in-Date
returns-in-Date c =
    let time = c.args.time in
    let k = of-display (clocks_in c.args.zones) time.zone time.stamp c.bounds.result c.in-Date.is c.bounds.ensures in
    record { bounded = k.bounded; most = k.most; least = k.least }

-- the clock of UTC has one offset
utc-stays : IsBounded utc_clock (record { least = pos 0; most = pos 0 })
utc-stays = record {
  offsets = λ t. (omega (arith, ints), omega (arith, ints));
  moments = λ x. (omega (arith, ints), omega (arith, ints));
  least_short = (omega (arith, ints), omega (arith, ints));
  most_short = (omega (arith, ints), omega (arith, ints));
}

pub returns-in-Utc : goal.returns-in-Utc
returns-in-Utc c =
    let time = c.args.time in
    let k = subst (λ t. Stays (clocks_in c.args.zones) time.zone t (record { least = pos 0; most = pos 0 })) (sym c.in-Utc.is)
    (record { bounded = utc-stays; most = omega (arith, ints); least = omega (arith, ints) }) in
    record { bounded = k.bounded; most = k.most; least = k.least }

pub returns-in-Zoned : goal.returns-in-Zoned
returns-in-Zoned c =
    let time = c.args.time in
    let clocks = clocks_in c.args.zones in
    let h : IsBounded (clock_by clocks c.args.time.zone (Zoned c.in-Zoned.field-0)) c.bounds-in-Zoned.result =
    subst (λ (clock : Clock). IsBounded clock c.bounds-in-Zoned.result) c.zone_of.ensures c.bounds-in-Zoned.ensures in
    let k = subst (λ t. Stays clocks time.zone t c.bounds-in-Zoned.result) (sym c.in-Zoned.is)
    (record { bounded = h; most = omega (arith, ints, h.most_short); least = omega (arith, ints, h.least_short) }) in
    record { bounded = k.bounded; most = k.most; least = k.least }
