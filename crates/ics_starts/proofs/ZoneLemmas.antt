-- The zones of a file, and the times that are read by them.
use Rattle.std.specs.Prelude.{◌==◌, is_none}
use Rattle.std.proofs.Common.{◌≡◌, ℕ, suc, ◌<◌, true, false, List, [], ◌∷◌, map, length, get_or, Option, Some, None, refl, sym, ◌∙◌, ap, subst, arith}
use Rattle.std.proofs.lemmas.Bool.{eqb-true}
use Rattle.std.proofs.lemmas.List.{get_or-map, length-map}
use Rattle.ics_fields.specs.RuleParts.{RuleParts}
use Rattle.ics_values.specs.declared.stamp.Stamp.{Stamp}
use Rattle.ics_event.specs.Event.{EndsBelow, HasZonesBelow, IsEvent, IsLength}
use Rattle.ics_file.specs.File.{IsEventOf}
use Rattle.ics_event.specs.declared.event.Event.{Event}
use Rattle.ics_event.specs.Event.{Length}
use Rattle.ics_values.specs.declared.time.Length.TheVariants.{Open, Until, Lasting}
use Rattle.ics_event.specs.Event.{Rdate}
use Rattle.ics_zone.specs.ZoneSaid.{zone_said}
use Rattle.ics_zone.specs.declared.zone.ZoneKind.{ZoneKind}
use Rattle.ics_listing.specs.declared.start.StartSource.{StartSource}
use Rattle.ics_starts.specs.declared.zones.FileZones.{FileZones}
use Rattle.ics_starts.specs.Clocks.{utc_clock, zone_clock}
use Rattle.ics_listing.specs.StartTimes.{time_of}
use Rattle.ics_starts.specs.Starts.{GivesStart}
use Rattle.ics_starts.specs.FileZones.{clocks_in, IsEndOf, IsOwnEvent, IsTimeOf}
use Rattle.ics_starts.proofs.StartSourceLemmas.{gives-below, gives-value}
use Rattle.ics_listing.proofs.StartOrderLemmas.{rdate-below, rdate-time}
use Rattle.ics_starts.proofs.InstantLemmas.{ends-near}

pub clock-there : (zones : List ZoneKind) (i : ℕ) (d : ZoneKind) → i < length zones →
    zone_clock (zone_said (get_or zones i d)) ≡ get_or (map zone_clock (map zone_said zones)) i utc_clock
clock-there zones i d l =
    ap zone_clock (sym (get_or-map zone_said zones i d (zone_said d) l))
    ∙ sym (get_or-map zone_clock (map zone_said zones) i (zone_said d) utc_clock (subst (λ n. i < n) (sym (length-map zones zone_said)) l))

pub none-of : {A : Type 0} (xs : List A) → (length xs == 0) ≡ true → xs ≡ []
none-of [] e = refl
none-of (x ∷ xs) e = absurd (omega (arith, eqb-true (suc (length xs)) 0 e))

pub rule-none : (o : Option RuleParts) → is_none o ≡ true → o ≡ None
rule-none None e = refl
rule-none (Some parts) e = let f : false ≡ true = e in absurd cc

-- what gives a start of an event is a time of its file
pub given-time : (zones : FileZones) (event : Event) (source : StartSource) (given : Rdate) → IsOwnEvent zones event →
    GivesStart (clocks_in zones) event source given → IsTimeOf zones.zones.now (time_of given)
given-time zones event source given h g = record {
  is_time = rdate-time given (gives-value (clocks_in zones) event source given h.is_event.start h.is_event.rdates g);
  within = rdate-below (length zones.zones.now) given (gives-below (clocks_in zones) event source given h.below g);
}

end-of : (zones : List ZoneKind) (first : Stamp) (lasts : Length) → IsLength first lasts → EndsBelow (length zones) lasts → IsEndOf zones lasts
end-of zones first Open l b = tt
end-of zones first (Lasting duration) l b = tt
end-of zones first (Until end) l b = record { is_time = l.0; within = b }

-- an event of the file
pub own-event : (zones : FileZones) (event : Event) → IsEvent event → IsEventOf (map zone_said zones.zones.now) event → IsOwnEvent zones event
own-event zones event h own =
    let below : HasZonesBelow (length zones.zones.now) event = subst (λ n. HasZonesBelow n event) (length-map zones.zones.now zone_said) own.below in
    record {
      start = record { is_time = h.start; within = below.start };
      end = end-of zones.zones.now event.start.stamp event.length h.length below.length;
      near = ends-near zones event.start event.length h.start h.length own.short;
      is_event = h;
      below = below;
    }
