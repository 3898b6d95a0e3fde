use Rattle.std.proofs.Common.{◌≡◌, ◌<◌, List, map, length, get_or, true, false, Option, Some, None, option_map, refl, sym, ◌∙◌, ap, subst, slice_get, IsSome}
use Rattle.std.proofs.Common.{option_and_then}
use Rattle.std.proofs.lemmas.Option.{get_or_from_slice_get, slice_get-map, slice_get_within}
use Rattle.ics_zone.specs.ZoneSaid.{zone_said}
use Rattle.ics_file.specs.File.{said_by, FileSaid, FileSeen, IsEventOf}
use Rattle.ics_event.specs.declared.event.Event.{Event}
use Rattle.ics_file.specs.declared.events.FileEvents.{FileEvents}
use Rattle.ics_series.specs.declared.spot.Spot.{Spot}
use Rattle.ics_series.specs.PlacedEvents.{zones_in, zones_of}
use Rattle.ics_series.specs.Spots.{event_at}
use Rattle.ics_series.proofs.spot.Spot.event.Goals as goal

-- What stands at a spot of a folder's files.
module _ (files : List FileEvents) (spot : Spot) (is_there : IsSome (event_at (map said_by files) spot)) where
  abbrev event_in : Option FileSaid → Option Event
  event_in = option_and_then (λ f. slice_get f.events spot.place)

  file-some : (f : FileEvents) × (slice_get files spot.file ≡ Some f) × IsSome (slice_get f.events spot.place)
  file-some = by (slice_get files spot.file) refl (subst (λ o. IsSome (event_in o)) (slice_get-map said_by files spot.file) is_there)
    where
      by : (o : Option FileEvents) → slice_get files spot.file ≡ o → IsSome (event_in (option_map said_by o)) →
          (f : FileEvents) × (slice_get files spot.file ≡ Some f) × IsSome (slice_get f.events spot.place)
      by (Some f) e h = (f, e, h)
      by None e h = let f : false ≡ true = h in absurd cc

  module _ (file : FileEvents) (is : file ≡ get_or files spot.file file) where
    same-file : file ≡ file-some.0
    same-file = is ∙ get_or_from_slice_get files spot.file file-some.0 file file-some.1

    -- what the file says, among what they say
    said-there : slice_get (map said_by files) spot.file ≡ Some (said_by file)
    said-there = slice_get-map said_by files spot.file ∙ (ap (option_map said_by) file-some.1 ∙ ap (λ f. Some (said_by f)) (sym same-file))

    -- the event is one of the file's
    event-within : spot.place < length file.events
    event-within = by (slice_get file.events spot.place) refl (subst (λ (f : FileEvents). IsSome (slice_get f.events spot.place)) (sym same-file) file-some.2)
      where
        by : (o : Option Event) → slice_get file.events spot.place ≡ o → IsSome o → spot.place < length file.events
        by (Some event) e h = slice_get_within file.events spot.place event e
        by None e h = let f : false ≡ true = h in absurd cc

pub returns-clause-own : goal.returns-clause-own
returns-clause-own c =
    let file = c.index-files-self.result in
    let there : c.args.self.place < length c.file.inside.events.items =
    subst (λ (v : FileSeen). c.args.self.place < length v.events) (sym c.file.view_is)
    (event-within c.args.files.now c.args.self c.requires file c.index-files-self.is) in
    let zones : map zone_said c.file.inside.zones.items ≡ zones_in (map said_by c.args.files.now) c.args.self.file =
    ap (λ (v : FileSeen). map zone_said v.zones) c.file.view_is
    ∙ sym (ap zones_of (said-there c.args.files.now c.args.self c.requires file c.index-files-self.is)) in
    let own : IsEventOf (map zone_said c.file.inside.zones.items) c.index.result.now =
    subst (IsEventOf (map zone_said c.file.inside.zones.items)) (sym c.index.ensures) (c.file.invariant c.args.self.place c.index.result.now there) in
    subst (λ zs. IsEventOf zs c.index.result.now) zones own
