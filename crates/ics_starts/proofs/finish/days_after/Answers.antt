use Rattle.std.proofs.Common.{◌≡◌, ◌+ℤ◌, ℕ, ℤ, Option, ◌⊎◌, inl, inr, sym, ◌∙◌, ap, w64, arith, to_z-of_z, SFits}
use Rattle.std.proofs.lemmas.Int.{ints}
use Rattle.ics_fields.specs.declared.local.Local.{Local}
use Rattle.ics_fields.specs.Locals.{whole_days}
use Rattle.ics_values.specs.declared.stamp.Stamp.{Stamp}
use Rattle.ics_values.specs.declared.stamp.Stamp.TheVariants.{Date, Floating}
use Rattle.ics_listing.specs.FileClocks.{Clock, Clocks}
use Rattle.ics_starts.specs.Clocks.{clock_by, clock_of, local_at, zone_clock}
use Rattle.ics_zone.specs.ZoneSaid.{zone_said}
use Rattle.ics_starts.specs.FileZones.{clocks_in}
use Rattle.ics_listing.proofs.Cases.{moment-back}
use Rattle.ics_starts.proofs.finish.days_after.Goals as goal

by-display : (clocks : Clocks) (zone : Option ℕ) (s : Stamp) → ((day : ℤ) × (s ≡ Date day)) ⊎ ((local : Local) × (s ≡ Floating local)) →
    clock_by clocks zone s ≡ clocks.display
by-display clocks zone s (inl d) = ap (clock_by clocks zone) d.1
by-display clocks zone s (inr f) = ap (clock_by clocks zone) f.1

pub returns-in-Date : goal.returns-in-Date
returns-in-Date c =
    let fits : SFits w64 c.args.start = c.ranges.start in
    let same = moment-back c.days_after_at.result c.days_after_at.type_inv in
    let shown = simp to_z-of_z at c.days_after_at.ensures.value in
    let clock : clock_of (clocks_in c.args.zones) c.args.time ≡ (clocks_in c.args.zones).display =
    by-display (clocks_in c.args.zones) c.args.time.zone c.args.time.stamp c.in-Date.is in
    record {
      value = same ∙ (shown ∙ sym (ap (λ (k : Clock). k.moment (local_at k c.args.start +ℤ whole_days c.args.days)) clock));
      late = omega (arith, ints, same, c.days_after_at.ensures.late, fits);
      early = omega (arith, ints, same, c.days_after_at.ensures.early, fits);
    }

pub returns-in-Zoned : goal.returns-in-Zoned
returns-in-Zoned c =
    let fits : SFits w64 c.args.start = c.ranges.start in
    let same = moment-back c.days_after_at-in-Zoned.result c.days_after_at-in-Zoned.type_inv in
    let shown = simp to_z-of_z at c.days_after_at-in-Zoned.ensures.value in
    let clock : clock_of (clocks_in c.args.zones) c.args.time ≡ zone_clock (zone_said c.zone_of.result.now) =
    ap (clock_by (clocks_in c.args.zones) c.args.time.zone) c.in-Zoned.is ∙ sym c.zone_of.ensures in
    record {
      value = same ∙ (shown ∙ sym (ap (λ (k : Clock). k.moment (local_at k c.args.start +ℤ whole_days c.args.days)) clock));
      late = omega (arith, ints, same, c.days_after_at-in-Zoned.ensures.late, fits);
      early = omega (arith, ints, same, c.days_after_at-in-Zoned.ensures.early, fits);
    }
