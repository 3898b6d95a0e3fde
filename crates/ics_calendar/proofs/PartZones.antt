-- The time zones of a part are those of the file that its events name.
use Rattle.std.proofs.Common.{◌≡◌, inl, inr, ℕ, Bool, true, false, ◌&&◌, ◌==◌, List, [], ◌∷◌, ◌++◌, filter, flat_map, map, refl, sym, ap, ◌∙◌, cond}
use Rattle.std.proofs.Common.{Result, Ok, Err, arith}
use Rattle.std.specs.List.{list_any}
use Rattle.std.specs.Str.{bytes_eq}
use Rattle.std.proofs.lemmas.List.Elements.{filter-append}
use Rattle.ics_components.specs.declared.fault.Fault.{Fault}
use Rattle.ics_components.specs.declared.name.Name.TheVariants as name
use Rattle.ics_components.specs.declared.deferred_check.ZoneName.{ZoneName}
use Rattle.ics_components.specs.declared.parsed_file.CalendarZone.{CalendarZone}
use Rattle.ics_components.specs.EventLines.{is_event, is_well_nested, texts_in, zones_named}
use Rattle.ics_components.specs.Observances.{begins_zone}
use Rattle.ics_components.specs.ParsedFileSeen.{ParsedFileSeen}
use Rattle.ics_components.specs.Parted.{AreInPlace, component_seen, parted_lines}
use Rattle.ics_components.specs.PlacedLines.{Placed, innermost}
use Rattle.ics_components.proofs.ItemFaults.{IsIn}
use Rattle.ics_components.proofs.RestFaults.{in-filter}
use Rattle.ics_components.proofs.Paths.{bytes_eq-back}
use Rattle.ics_calendar.specs.Parts.{Part, is_zone_of}
use Rattle.ics_calendar.specs.Inner.PartsRead.{sound_zones, zones_in}
use Rattle.ics_calendar.proofs.PartFirst.{IsPart, calendar-plain, event-path, is_zone_for, zone-plain}
use Rattle.ics_calendar.proofs.PartWords.{names, own_zones}
use Rattle.ics_calendar.proofs.ZoneNames.{AreCalled, IsOnly, zone_called}

-- A CHOICE of the items of some lines, by the lines and by what is read of them.
module _ (f : Placed → List CalendarZone) (q : Placed → Bool) (r : CalendarZone → Bool) where
  flat-filter : (ks : List Placed) → ((k : Placed) → IsIn k ks → filter r (f k) ≡ cond (q k) (f k) []) → flat_map f (filter q ks) ≡ filter r (flat_map f ks)
  flat-filter [] each = refl
  flat-filter (k ∷ ks) each =
      by_test (q k) (each k (inl refl)) (flat-filter ks (λ m i. each m (inr i))) ∙ sym (filter-append r (f k) (flat_map f ks))
    where
      by_test : (t : Bool) → filter r (f k) ≡ cond t (f k) [] → flat_map f (filter q ks) ≡ filter r (flat_map f ks) →
          flat_map f (cond t (k ∷ filter q ks) (filter q ks)) ≡ filter r (f k) ++ filter r (flat_map f ks)
      by_test true one more = rw (one, more) refl
      by_test false one more = rw (one, more) refl

-- what is read of each of some time zones
pub seen-each : (ls ks : List Placed) → flat_map (λ z. zones_in (component_seen ls z).read) ks ≡ sound_zones (map (component_seen ls) ks)
seen-each ls [] = refl
seen-each ls (k ∷ ks) = ap (λ zs. zones_in (component_seen ls k).read ++ zs) (seen-each ls ks)

-- Zones that are called alike are chosen all or not at all.
all-or-none : (r : CalendarZone → Bool) (t : Bool) (all : List (List ℕ)) (k : ℕ) (zs : List CalendarZone) → AreCalled all k zs →
    ((zone : CalendarZone) → IsOnly all k zone.name → r zone ≡ t) → filter r zs ≡ cond t zs []
all-or-none r true all k [] called each = refl
all-or-none r false all k [] called each = refl
all-or-none r true all k (z ∷ zs) called each = rw (each z called.0, all-or-none r true all k zs called.1 each) refl
all-or-none r false all k (z ∷ zs) called each = rw (each z called.0, all-or-none r false all k zs called.1 each) refl

-- AN EVENT NAMES A TIME ZONE by its one text in its calendar.
any-named : (a : Bool) (text : List ℕ) (used : List (List ℕ)) →
    (a && list_any (λ zone. list_any (bytes_eq zone) (text ∷ [])) used) ≡ list_any (λ zone. a && bytes_eq text zone) used
any-named true text [] = refl
any-named false text [] = refl
any-named true text (zone ∷ used) = let one = bytes_eq-back zone text in let more = any-named true text used in grind (arith, one, more)
any-named false text (zone ∷ used) = any-named false text used

module _ (ls : List Placed) (z : Placed) (zone : begins_zone z ≡ true) (used : ZoneName) (only : IsOnly (texts_in name.Tzid ls z) (innermost z.path) used) where
  event-names : (e : Placed) → is_event e ≡ true → names ls used e ≡ is_zone_of ls e z
  event-names e t =
      rw (only.called, zone, only.only, sym (calendar-plain z.path (zone-plain z zone)), sym (calendar-plain e.path (event-path e t)))
      (sym (any-named (innermost z.path == innermost e.path) only.text (zones_named ls e)))

  part-names : (part : Part) → IsPart ls part → list_any (names ls used) part ≡ is_zone_for ls part z
  part-names [] is = refl
  part-names (e ∷ es) is = rw (event-names e is.0.1, part-names es is.1) refl

module _ (ls : List Placed) (h : AreInPlace 0 [] ls) (part : Part) (is : IsPart ls part) where
  abbrev is_named : CalendarZone → Bool
  is_named zone = list_any (names ls zone.name) part

  zone-chosen : (z : Placed) → IsIn z (filter begins_zone ls) →
      filter is_named (zones_in (component_seen ls z).read) ≡ cond (is_zone_for ls part z) (zones_in (component_seen ls z).read) []
  zone-chosen z i = by_read (component_seen ls z).read refl
    where
      there : IsIn z ls × (begins_zone z ≡ true)
      there = in-filter begins_zone ls z i

      either : (t : Bool) (zones : List CalendarZone) → zones ≡ cond t zones zones
      either true zones = refl
      either false zones = refl

      by_read : (r : Result ParsedFileSeen Fault) → (component_seen ls z).read ≡ r →
          filter is_named (zones_in r) ≡ cond (is_zone_for ls part z) (zones_in r) []
      by_read (Err fault) e = either (is_zone_for ls part z) []
      by_read (Ok read) e =
          all-or-none is_named (is_zone_for ls part z) (texts_in name.Tzid ls z) (innermost z.path) read.zones (zone_called ls h z there.0 there.1 read e)
          (λ zone only. part-names ls z there.1 zone.name only part is)

pub part-zones : (ls : List Placed) → AreInPlace 0 [] ls → is_well_nested ls ≡ true → (part : Part) → IsPart ls part →
    own_zones ls part ≡ filter (λ zone. list_any (names ls zone.name) part) (sound_zones (parted_lines ls).zones)
part-zones ls h nested part is =
    flat-filter (λ z. zones_in (component_seen ls z).read) (is_zone_for ls part) (is_named ls h part is) (filter begins_zone ls) (zone-chosen ls h part is)
    ∙ ap (filter (is_named ls h part is)) (seen-each ls (filter begins_zone ls))
