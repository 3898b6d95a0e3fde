-- The check of a line names a time zone that the line names beside a local form.
use Rattle.std.proofs.Common.{◌≡◌, ℕ, Bool, true, false, List, [], ◌∷◌, map, refl, sym, ap, ◌∙◌, cond, Option, Some, None, Ok, Err, ⊎_elim}
use Rattle.std.specs.Prelude.{is_some, not}
use Rattle.std.specs.List.{list_any}
use Rattle.ics_text.specs.ContentLines.{Parts}
use Rattle.ics_values.specs.Periods.{first_half, lasts, second_half}
use Rattle.ics_values.specs.RuleTexts.{pieces}
use Rattle.ics_values.specs.Stamps.{day_of, is_date_form, is_date_time_form, is_stamp_text, is_stamp_year, is_utc_form, local_of, stamp_of, stamp_said, year_of}
use Rattle.ics_values.specs.Zoned.{is_zoned}
use Rattle.ics_values.specs.declared.stamp.Stamp.TheVariants.{Date, Floating, Utc}
use Rattle.ics_values.specs.declared.stamp.StampFault.TheVariants.{BadStamp, YearRange}
use Rattle.ics_components.specs.DateValues.{At, date_time_of, has_slash, has_zoned, list_of, period_of, rdate_in, rdate_of, value_of, values_of}
use Rattle.ics_components.specs.declared.date_values.Listing.{Listing}
use Rattle.ics_components.specs.declared.date_values.Listing.TheVariants as listing
use Rattle.ics_components.specs.declared.deferred_check.ZoneName.{ZoneName}
use Rattle.ics_components.specs.declared.name.Name.{Name}
use Rattle.ics_components.specs.declared.name.Name.TheVariants as name
use Rattle.ics_components.specs.EventLines.{has_local, named_by}
use Rattle.ics_components.specs.Lines.{builder_zone, check_in, end_check, event_zone}
use Rattle.ics_components.specs.SecondRound.{are_of_one_zone, both_compared, compared, ends_in, instant_in, list_zone, time_zone, zone_check, zone_named}
use Rattle.ics_components.specs.declared.builder.Builder.{Builder}
use Rattle.ics_components.specs.declared.builder.Builder.TheVariants as builder
use Rattle.ics_components.specs.declared.deferred_check.DeferredCheck.TheVariants as check
use Rattle.ics_components.specs.declared.deferred_check.Instant.{Instant}
use Rattle.ics_components.specs.declared.deferred_check.Instant.TheVariants as instant
use Rattle.ics_components.specs.declared.frame.Frame.{Frame}
use Rattle.ics_fields.specs.Locals.{local_seconds}
use Rattle.ics_values.specs.declared.time.Time.{Time}
use Rattle.ics_components.specs.Values.{is_out, stamp_in, stamp_read, time_of, zone_name}
use Rattle.ics_components.proofs.RestFaults.{either-of}
use Rattle.ics_calendar.proofs.LocalForms.{list-has, stamp-has}

-- WITHOUT A TZID no stamp is in a time zone.
unzoned-said : (text : List ℕ) → is_zoned (stamp_said false text) ≡ true → ⊥
unzoned-said text e = by_tests (is_date_form text) (is_utc_form text) e
  where
    by_tests : (d u : Bool) → is_zoned (cond d (Date (day_of text)) (cond u (Utc (local_of text)) (Floating (local_of text)))) ≡ true → ⊥
    by_tests true u e = let no : false ≡ true = e in cc
    by_tests false true e = let no : false ≡ true = e in cc
    by_tests false false e = let no : false ≡ true = e in cc

unzoned : (text : List ℕ) → is_zoned (stamp_in (stamp_of false text)) ≡ true → ⊥
unzoned text e = by_tests (is_stamp_text text) (is_stamp_year (year_of text)) e
  where
    by_tests : (s y : Bool) → is_zoned (stamp_in (cond (not s) (Err BadStamp) (cond (not y) (Err YearRange) (Ok (stamp_said false text))))) ≡ true → ⊥
    by_tests false y e = let no : false ≡ true = e in cc
    by_tests true false e = let no : false ≡ true = e in cc
    by_tests true true e = unzoned-said text e

unzoned-half : (text : List ℕ) → is_zoned (stamp_in (date_time_of false text)) ≡ true → ⊥
unzoned-half text e = by_test (is_date_time_form text) e
  where
    by_test : (t : Bool) → is_zoned (stamp_in (cond t (stamp_of false text) (Err BadStamp))) ≡ true → ⊥
    by_test true e = unzoned text e
    by_test false e = let no : false ≡ true = e in cc

unzoned-rdate : (zone : Option (List ℕ)) (text : List ℕ) → has_zoned (rdate_in zone (rdate_of false text)) ≡ true → ⊥
unzoned-rdate zone text e = by_slash (has_slash text) e
  where
    by_end : (t : Bool) → lasts (second_half text) ≡ t → has_zoned (rdate_in zone (period_of false (first_half text) (second_half text))) ≡ true → ⊥
    by_end true is e = unzoned-half (first_half text) (rw is at e)
    by_end false is e =
        ⊎_elim (unzoned-half (first_half text)) (unzoned-half (second_half text))
        (either-of (is_zoned (stamp_in (date_time_of false (first_half text)))) (is_zoned (stamp_in (date_time_of false (second_half text)))) (rw is at e))

    by_slash : (t : Bool) → has_zoned (rdate_in zone (cond t (period_of false (first_half text) (second_half text)) (At (stamp_of false text)))) ≡ true → ⊥
    by_slash true e = by_end (lasts (second_half text)) refl e
    by_slash false e = unzoned text e

unzoned-value : (list : Listing) (zone : Option (List ℕ)) (text : List ℕ) → has_zoned (rdate_in zone (value_of list false text)) ≡ true → ⊥
unzoned-value listing.Rdate zone text e = unzoned-rdate zone text e
unzoned-value listing.Exdate zone text e = unzoned text e

unzoned-list : (list : Listing) (zone : Option (List ℕ)) (ps : List (List ℕ)) →
    list_any has_zoned (map (rdate_in zone) (map (value_of list false) ps)) ≡ true → ⊥
unzoned-list list zone [] e = let no : false ≡ true = e in cc
unzoned-list list zone (piece ∷ ps) e =
    ⊎_elim (unzoned-value list zone piece) (unzoned-list list zone ps)
    (either-of (has_zoned (rdate_in zone (value_of list false piece))) (list_any has_zoned (map (rdate_in zone) (map (value_of list false) ps))) e)

-- A LINE NAMES a time zone in a calendar.
abbrev pub IsNamedOn : ℕ → Parts → ZoneName → Type 0
IsNamedOn k c used = (used.calendar ≡ k) × (named_by c ≡ Some used.name)

-- the TZID, which is there
named-there : (k : ℕ) (c : Parts) (used : ZoneName) → has_local c.value ≡ true → zone_named k (zone_name c.params) ≡ used →
    (is_some (zone_name c.params) ≡ false → ⊥) → IsNamedOn k c used
named-there k c used local same some = by_zone (zone_name c.params) refl
  where
    by_zone : (o : Option (List ℕ)) → zone_name c.params ≡ o → IsNamedOn k c used
    by_zone None is = absurd (some (ap is_some is))
    by_zone (Some zone) is =
        let whole : zone_named k (Some zone) ≡ used = ap (zone_named k) (sym is) ∙ same in (
          sym (ap (λ (n : ZoneName). n.calendar) whole),
          ap (λ t. cond t (zone_name c.params) None) local ∙ is ∙ ap (λ (n : ZoneName). Some n.name) whole,
        )

time-named : (k : ℕ) (c : Parts) (used : ZoneName) → time_zone k (time_of c.params c.value) ≡ Some used → IsNamedOn k c used
time-named k c used e = by_test (is_zoned (stamp_in (stamp_read c.params c.value))) refl e
  where
    by_test : (t : Bool) → is_zoned (stamp_in (stamp_read c.params c.value)) ≡ t →
        cond t (Some (zone_named k (cond t (zone_name c.params) None))) None ≡ Some used → IsNamedOn k c used
    by_test false is e = cc
    by_test true is e =
        let same : zone_named k (zone_name c.params) ≡ used = cc in
        named-there k c used (stamp-has c.params c.value is) same
        (λ none. unzoned c.value (ap (λ z. is_zoned (stamp_in (stamp_of z c.value))) (sym none) ∙ is))

list-named : (k : ℕ) (list : Listing) (c : Parts) (used : ZoneName) → list_zone k (list_of list c.params c.value) ≡ Some used → IsNamedOn k c used
list-named k list c used e = by_test (list_any has_zoned (map (rdate_in zone) (values_of list (is_some zone) c.value))) refl e
  where
    zone : Option (List ℕ)
    zone = zone_name c.params

    by_test : (t : Bool) → list_any has_zoned (map (rdate_in zone) (values_of list (is_some zone) c.value)) ≡ t →
        cond t (Some (zone_named k zone)) None ≡ Some used → IsNamedOn k c used
    by_test false is e = cc
    by_test true is e =
        let same : zone_named k zone ≡ used = cc in
        named-there k c used (list-has list zone (is_some zone) c.value is) same
        (λ none. unzoned-list list zone (pieces 44 c.value)
        (ap (λ z. list_any has_zoned (map (rdate_in zone) (values_of list z c.value))) (sym none) ∙ is))

-- THE TIME ZONE of a property of an event is one that its line names.
pub property-named : (k : ℕ) (n : Name) (c : Parts) (used : ZoneName) → event_zone k n c ≡ Some used → IsNamedOn k c used
property-named k name.Dtstart c used e = time-named k c used e
property-named k name.Dtend c used e = time-named k c used e
property-named k name.RecurrenceId c used e = time-named k c used e
property-named k name.Rdate c used e = list-named k listing.Rdate c used e
property-named k name.Exdate c used e = list-named k listing.Exdate c used e
property-named k _ c used e = let no : None ≡ Some used = e in cc

-- THE CHECK of a line.
zone-of-check : (o : Option ZoneName) (used : ZoneName) → zone_check o ≡ Some (check.Zone used) → o ≡ Some used
zone-of-check None used e = cc
zone-of-check (Some zone) used e = let same : zone ≡ used = cc in ap (λ (z : ZoneName). Some z) same

builder-named : (k : ℕ) (n : Name) (c : Parts) (b : Builder) (used : ZoneName) → builder_zone k n c b ≡ Some used → IsNamedOn k c used
builder-named k n c (builder.Event had) used e = property-named k n c used e
builder-named k n c _ used e = let no : None ≡ Some used = e in cc

compared-not : (start end : Instant) (used : ZoneName) → compared start end ≡ Some (check.Zone used) → ⊥
compared-not (instant.Utc a) (instant.Utc b) used e = by_test (is_out (local_seconds a) (local_seconds b)) e
  where
    by_test : (t : Bool) → cond t (Some check.End) None ≡ Some (check.Zone used) → ⊥
    by_test true e = cc
    by_test false e = cc
compared-not (instant.Utc a) (instant.Zoned b name) used e = cc
compared-not (instant.Zoned a name) end used e = cc

both-not : (start end : Option Instant) (used : ZoneName) → both_compared start end ≡ Some (check.Zone used) → ⊥
both-not None end used e = cc
both-not (Some start) None used e = cc
both-not (Some start) (Some end) used e = compared-not start end used e

ends-not : (k : ℕ) (start end : Option (Time (List ℕ))) (used : ZoneName) → ends_in k start end ≡ Some (check.Zone used) → ⊥
ends-not k None end used e = cc
ends-not k (Some start) None used e = cc
ends-not k (Some start) (Some end) used e = by_test (are_of_one_zone start end) e
  where
    by_test : (t : Bool) → cond t None (both_compared (instant_in k start) (instant_in k end)) ≡ Some (check.Zone used) → ⊥
    by_test true e = cc
    by_test false e = both-not (instant_in k start) (instant_in k end) used e

end-not : (k : ℕ) (b : Builder) (used : ZoneName) → end_check k b ≡ Some (check.Zone used) → ⊥
end-not k (builder.Event had) used e = ends-not k had.start had.end used e
end-not k _ used e = let no : None ≡ Some (check.Zone used) = e in cc

pub check-named : (n : Name) (c : Parts) (f : Frame) (used : ZoneName) → check_in n c f ≡ Some (check.Zone used) → IsNamedOn f.calendar c used
check-named name.Begin c f used e = let no : None ≡ Some (check.Zone used) = e in cc
check-named name.End c f used e = absurd (end-not f.calendar f.builder used e)
check-named n c f used e =
    builder-named f.calendar n c f.builder used (zone-of-check (builder_zone f.calendar n c f.builder) used e)
