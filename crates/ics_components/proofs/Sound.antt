-- What is read of a value is in order, and so are what is collected of a component and what ends of it.
use Rattle.std.proofs.Common.{◌≡◌, ℕ, Bool, true, false, not, List, [], ◌∷◌, refl, sym, ◌∙◌, subst, cond, Result, Ok, Err, map, ℤ, pos, arith, ◌≤◌}
use Rattle.std.proofs.Common.{◌+◌, ◌*◌, nat_le, ◌&&◌, ◌||◌, Option, Some, None, is_some, IfSome}
use Rattle.std.specs.Prelude.{filter_map, unwrap_or}
use Rattle.std.specs.List.{All, cons_option, list_any}
use Rattle.std.specs.Option.{option_or}
use Rattle.std.proofs.lemmas.Bool.{cond_both, or_left, or_right}
use Rattle.std.proofs.lemmas.Bool.Decides.{nat_tests}
use Rattle.std.proofs.lemmas.Int.{ints}
use Rattle.std.proofs.lemmas.List.Elements.{All-nil, All-cons, All-append, All-head, All-tail}
use Rattle.std.proofs.lemmas.Option.{IfSome_then}
use Rattle.jiff_core.specs.Calendar.{IsWithin}
use Rattle.ics_fields.specs.Days.{IsStampDay}
use Rattle.ics_fields.specs.Locals.{local_at}
use Rattle.ics_fields.specs.Observances.{is_finer_than_daily, is_finer_rule}
use Rattle.ics_fields.specs.RuleParts.{RuleParts}
use Rattle.ics_fields.specs.declared.local.Local.{Local}
use Rattle.ics_text.specs.ContentLines.{Parts}
use Rattle.ics_values.specs.Durations.{duration_of}
use Rattle.ics_values.specs.Offsets.{is_offset_form, is_offset_text, offset_hours, offset_minutes, offset_seconds, offset_size, offset_said, offset_of}
use Rattle.ics_values.specs.Periods.{first_half, second_half, lasts}
use Rattle.ics_values.specs.RuleTexts.{pieces}
use Rattle.ics_values.specs.Rules.{rule_of}
use Rattle.ics_values.specs.Stamps.{is_date_form, is_utc_form, is_date_time_form, is_stamp_text, is_stamp_year, year_of, stamp_said, stamp_of, stamp_day}
use Rattle.ics_values.specs.Texts.{begins, is_minus, with_sign}
use Rattle.ics_values.specs.declared.duration.Duration.{Duration}
use Rattle.ics_values.specs.declared.duration.DurationFault.{DurationFault}
use Rattle.ics_values.specs.declared.rule_text.RuleFault.{RuleFault}
use Rattle.ics_values.specs.declared.stamp.Stamp.{Stamp}
use Rattle.ics_values.specs.declared.stamp.Stamp.TheVariants.{Date, Floating, Utc}
use Rattle.ics_values.specs.declared.stamp.StampFault.{StampFault}
use Rattle.ics_values.specs.declared.stamp.StampFault.TheVariants as stamp
use Rattle.ics_values.proofs.StampLemmas.{stamp_day-said, date_of-stamp, day_number_range, stamp_years}
use Rattle.ics_components.specs.Builders.{observance_ended}
use Rattle.ics_components.specs.DateValues.{DateValue, At, Between, Lasting, list_of, date_time_of, period_of, has_slash, value_of, rdate_in, local_of}
use Rattle.ics_components.specs.DateValues.{local_in, has_zoned}
use Rattle.ics_components.specs.Lines.{event_zone, event_note, observance_note, end_fault}
use Rattle.ics_components.proofs.Judgements.{event_end, zone_end}
use Rattle.ics_components.specs.Observances.{locals_of, onset_in, offset_in, daily_in}
use Rattle.ics_components.specs.SecondRound.{zone_named, time_zone, list_zone, zone_check, ends_in}
use Rattle.ics_components.specs.Sound.{IsSoundTime, IsSoundRdate, IsSoundEvent, IsSoundObservance, IsSoundZone}
use Rattle.ics_components.specs.Values.{zone_name, stamp_in, duration_in, lasting_of, is_lasting, allowed, is_filled}
use Rattle.ics_components.specs.declared.observance_builder.ObservanceBuilder.{ObservanceBuilder}
use Rattle.ics_components.specs.declared.builder.Builder.TheVariants as builder
use Rattle.ics_components.specs.declared.builder.ZoneBuilder.{ZoneBuilder}
use Rattle.ics_values.specs.Times.{time_in}
use Rattle.ics_values.specs.Zoned.{is_zoned}
use Rattle.ics_values.specs.declared.time.Length.TheVariants as span_length
use Rattle.ics_values.specs.declared.time.Rdate.{Rdate}
use Rattle.ics_values.specs.declared.time.Rdate.TheVariants as rdate
use Rattle.ics_values.specs.declared.time.Time.{Time}
use Rattle.ics_components.specs.declared.date_values.Listing.{Listing}
use Rattle.ics_components.specs.declared.date_values.Listing.TheVariants as listing
use Rattle.ics_components.specs.declared.deferred_check.DeferredCheck.{DeferredCheck}
use Rattle.ics_components.specs.declared.event_fields.EventFields.{EventFields}
use Rattle.ics_components.specs.declared.fault.FaultKind.TheVariants.{MissingUid, MissingStart, BadEnd}
use Rattle.ics_components.specs.declared.name.Name.{Name}
use Rattle.ics_components.specs.declared.name.Name.TheVariants as name

-- WHAT A VALUE SAYS.
day-zero : IsStampDay (pos 0)
day-zero = (omega (arith, ints), omega (arith, ints))

-- A stamp lies in the years of stamps.
abbrev pub IsSoundStamp : Stamp → Type 0
IsSoundStamp stamp = IsStampDay (stamp_day stamp)

sound-stamp : (zoned : Bool) (text : List ℕ) → IsSoundStamp (stamp_in (stamp_of zoned text))
sound-stamp zoned text = by_tests (is_stamp_text text) (is_stamp_year (year_of text)) refl refl
  where
    by_tests : (t y : Bool) → is_stamp_text text ≡ t → is_stamp_year (year_of text) ≡ y →
        IsSoundStamp (stamp_in (cond (not t) (Err stamp.BadStamp) (cond (not y) (Err stamp.YearRange) (Ok (stamp_said zoned text)))))
    by_tests true true t y =
        let years = stamp_years (year_of text) y in
        subst (λ (d : ℤ). IsStampDay d) (sym (stamp_day-said zoned text)) (day_number_range (year_of text) _ _ (date_of-stamp text t) years.0 years.1)
    by_tests true false t y = day-zero
    by_tests false y t h = day-zero

-- without a TZID it is no zoned one
unzoned : (text : List ℕ) → is_zoned (stamp_in (stamp_of false text)) ≡ false
unzoned text = by_tests (is_stamp_text text) (is_stamp_year (year_of text)) (is_date_form text) (is_utc_form text) _ _
  where
    by_tests : (t y d u : Bool) (day : ℤ) (local : Local) →
        is_zoned (stamp_in (cond (not t) (Err stamp.BadStamp)
        (cond (not y) (Err stamp.YearRange) (Ok (cond d (Date day) (cond u (Utc local) (Floating local))))))) ≡ false
    by_tests false y d u day local = refl
    by_tests true false d u day local = refl
    by_tests true true true u day local = refl
    by_tests true true false true day local = refl
    by_tests true true false false day local = refl

allowed-sound : (minus : Bool) (r : Result Duration DurationFault) → is_lasting (duration_in (allowed minus r)) ≡ true
allowed-sound minus r = grind arith

sound-lasting : (text : List ℕ) → is_lasting (duration_in (lasting_of text)) ≡ true
sound-lasting text = allowed-sound (begins is_minus text) (duration_of text)

-- A TIME has the name of a zone where it is to have one.
named-zone : (zone : Option (List ℕ)) (s : Stamp) → (zone ≡ None → is_zoned s ≡ false) → is_some (time_in zone s).zone ≡ is_zoned s
named-zone None s n = grind (arith, n refl)
named-zone (Some z) s n = grind arith

-- THE TIMES of a line, and P holds of the check of the line's zone, if one of its stamps is in it.
module _ (P : DeferredCheck → Type 0) (k : ℕ) where
  abbrev HasZone : Time (List ℕ) → Type 0
  HasZone time = IfSome (zone_check (time_zone k time)) P

  sound-time : (zone : Option (List ℕ)) (text : List ℕ) → HasZone (time_in zone (stamp_in (stamp_of (is_some zone) text))) →
      IsSoundTime P k (time_in zone (stamp_in (stamp_of (is_some zone) text)))
  sound-time None text h = record { years = sound-stamp false text; zone = named-zone None _ (λ e. unzoned text); known = h }
  sound-time (Some z) text h = record { years = sound-stamp true text; zone = named-zone (Some z) _ (λ e. cc); known = h }

  abbrev LineZone : Bool → Option (List ℕ) → Type 0
  LineZone t zone = IfSome (zone_check (cond t (Some (zone_named k zone)) None)) P

  time-zones : (zone : Option (List ℕ)) (s : Stamp) (t : Bool) → (is_zoned s ≡ true → t ≡ true) → LineZone t zone → HasZone (time_in zone s)
  time-zones zone s t up c = by_zoned (is_zoned s) up
    where
      by_zoned : (z : Bool) → (z ≡ true → t ≡ true) → IfSome (zone_check (cond z (Some (zone_named k (cond z zone None))) None)) P
      by_zoned true up = rw (up refl) at c
      by_zoned false up = tt

  -- where a stamp of the line is in its zone if the line says so
  module _ (zone : Option (List ℕ)) (t : Bool) (c : LineZone t zone) where
    abbrev IsHere : DateValue → Type 0
    IsHere value = (has_zoned (rdate_in zone value) ≡ true → t ≡ true) → IsSoundRdate P k (rdate_in zone value)

    abbrev IsHereAt : Result Stamp StampFault → Type 0
    IsHereAt stamp = (is_zoned (stamp_in stamp) ≡ true → t ≡ true) → IsSoundTime P k (time_in zone (stamp_in stamp))

    sound-stamped : (text : List ℕ) → IsHereAt (stamp_of (is_some zone) text)
    sound-stamped text up = sound-time zone text (time-zones zone _ t up c)

    sound-date_time : (text : List ℕ) → IsHereAt (date_time_of (is_some zone) text)
    sound-date_time text =
        cond_both (is_date_time_form text) (stamp_of (is_some zone) text) (Err stamp.BadStamp) IsHereAt (λ e. sound-stamped text)
        (λ e up. record { years = day-zero; zone = named-zone zone (Date (pos 0)) (λ n. refl); known = tt })

    sound-period : (start end : List ℕ) → IsHere (period_of (is_some zone) start end)
    sound-period start end =
        cond_both (lasts end) (Lasting (date_time_of (is_some zone) start) (lasting_of end))
        (Between (date_time_of (is_some zone) start) (date_time_of (is_some zone) end)) IsHere
        (λ e up. (sound-date_time start up, sound-lasting end)) (λ e up.
        let first = is_zoned (stamp_in (date_time_of (is_some zone) start)) in
        let last = is_zoned (stamp_in (date_time_of (is_some zone) end)) in
        (sound-date_time start (λ h. up (or_left first last h)), sound-date_time end (λ h. up (or_right first last h))))

    sound-value : (l : Listing) (text : List ℕ) → IsHere (value_of l (is_some zone) text)
    sound-value listing.Rdate text =
        cond_both (has_slash text) (period_of (is_some zone) (first_half text) (second_half text)) (At (stamp_of (is_some zone) text)) IsHere
        (λ e. sound-period (first_half text) (second_half text)) (λ e. sound-stamped text)
    sound-value listing.Exdate text = sound-stamped text

    sound-texts : (l : Listing) (texts : List (List ℕ)) → (list_any has_zoned (map (rdate_in zone) (map (value_of l (is_some zone)) texts)) ≡ true → t ≡ true) →
        All (IsSoundRdate P k) (map (rdate_in zone) (map (value_of l (is_some zone)) texts))
    sound-texts l [] up = All-nil (IsSoundRdate P k)
    sound-texts l (x ∷ xs) up =
        let value = rdate_in zone (value_of l (is_some zone) x) in
        let values = map (rdate_in zone) (map (value_of l (is_some zone)) xs) in
        All-cons (IsSoundRdate P k) value values (sound-value l x (λ h. up (or_left (has_zoned value) (list_any has_zoned values) h)))
        (sound-texts l xs (λ h. up (or_right (has_zoned value) (list_any has_zoned values) h)))

  sound-list : (l : Listing) (v : Parts) → IfSome (zone_check (list_zone k (list_of l v.params v.value))) P →
      All (IsSoundRdate P k) (list_of l v.params v.value).values
  sound-list l v c = sound-texts (zone_name v.params) _ c l (pieces 44 v.value) (λ h. h)

abbrev pub IsSoundLocal : Local → Type 0
IsSoundLocal local = IsStampDay local.day

-- An offset is less than a day.
offset-small : (text : List ℕ) → is_offset_text text ≡ true → offset_size text ≤ 86_399
offset-small text t = by_tests (is_offset_form text) (offset_hours text) (offset_minutes text) (offset_seconds text) t
  where
    by_tests : (f : Bool) (h m s : ℕ) → (f && nat_le h 23 && nat_le m 59 && nat_le s 59) ≡ true → 3600 * h + 60 * m + s ≤ 86_399
    by_tests f h m s e = grind (arith, nat_tests)

sign-within : (negative : Bool) (n : ℕ) → n ≤ 86_399 → IsWithin 86_399 (with_sign negative n)
sign-within negative n h = (grind (arith, ints), grind (arith, ints))

-- WHAT AN OBSERVANCE'S VALUES SAY.
onset-sound : (r : Result Stamp StampFault) → IsSoundStamp (stamp_in r) → IsSoundLocal (onset_in r)
onset-sound r h = grind (arith, day-zero)

zero-within : IsWithin 86_399 (pos 0)
zero-within = sign-within false 0 (omega arith)

offset-sound : (text : List ℕ) → IsWithin 86_399 (offset_in (offset_of text))
offset-sound text =
    cond_both (is_offset_text text) (Ok (offset_said text)) (Err (record {})) (λ o. IsWithin 86_399 (offset_in o))
    (λ t. sign-within (begins is_minus text) (offset_size text) (offset-small text t)) (λ e. zero-within)

daily-sound : (r : Result RuleParts RuleFault) → is_finer_than_daily (daily_in r).frequency ≡ false
daily-sound r = grind arith

local-sound : (s : Stamp) → IsSoundStamp s → IfSome (local_of s) IsSoundLocal
local-sound (Floating local) h = h
local-sound _ h = tt

-- of values whose zones nobody asks for
abbrev Anything : DeferredCheck → Type 0
Anything check = Unit {0}

abbrev IsSoundValue : Rdate (List ℕ) → Type 0
IsSoundValue = IsSoundRdate Anything 0

anything : (o : Option DeferredCheck) → IfSome o Anything
anything None = tt
anything (Some check) = tt

rdate-local : (v : Rdate (List ℕ)) → IsSoundValue v → IfSome (local_in v) IsSoundLocal
rdate-local (rdate.At time) h = local-sound time.stamp h.years
rdate-local (rdate.Span start length) h = tt

with-local : (o : Option Local) (ls : List Local) → IfSome o IsSoundLocal → All IsSoundLocal ls → All IsSoundLocal (cons_option o ls)
with-local None ls h k = k
with-local (Some local) ls h k = All-cons IsSoundLocal local ls h k

locals-sound : (vs : List (Rdate (List ℕ))) → All IsSoundValue vs → All IsSoundLocal (filter_map local_in vs)
locals-sound [] h = All-nil IsSoundLocal
locals-sound (v ∷ vs) h =
    with-local (local_in v) (filter_map local_in vs) (rdate-local v (All-head IsSoundValue v vs h)) (locals-sound vs (All-tail IsSoundValue v vs h))

-- WHAT IS COLLECTED. The first of several values is kept.
or-first : {X : Type 0} (P : X → Type 0) (o : Option X) (x : X) → IfSome o P → P x → IfSome (option_or o (Some x)) P
or-first P (Some y) x h p = h
or-first P None x h p = p

-- a value that is there, or one in its place
unwrapped : {X : Type 0} (P : X → Type 0) (o : Option X) (x : X) → IfSome o P → P x → P (unwrap_or o x)
unwrapped P (Some y) x h p = h
unwrapped P None x h p = p

-- AN OBSERVANCE is one that a time zone may have.
abbrev IsDaily : RuleParts → Type 0
IsDaily rule = is_finer_than_daily rule.frequency ≡ false

abbrev pub IsSoundBegun : ObservanceBuilder → Type 0
IsSoundBegun had =
    IfSome had.start IsSoundLocal × IfSome had.from (IsWithin 86_399) × IfSome had.to (IsWithin 86_399) × IfSome had.rule IsDaily × All IsSoundLocal had.rdates

pub observance-noted : (n : Name) (v : Parts) (had : ObservanceBuilder) → IsSoundBegun had → IsSoundBegun (observance_note n v had)
observance-noted name.Dtstart v had h =
    (or-first IsSoundLocal had.start _ h.0 (onset-sound (stamp_of false v.value) (sound-stamp false v.value)), h.1, h.2, h.3, h.4)
observance-noted name.OffsetFrom v had h = (h.0, or-first (IsWithin 86_399) had.from _ h.1 (offset-sound v.value), h.2, h.3, h.4)
observance-noted name.OffsetTo v had h = (h.0, h.1, or-first (IsWithin 86_399) had.to _ h.2 (offset-sound v.value), h.3, h.4)
observance-noted name.Rrule v had h = (h.0, h.1, h.2, or-first IsDaily had.rule _ h.3 (daily-sound (rule_of v.value)), h.4)
observance-noted name.Rdate v had h =
    let values = sound-texts Anything 0 None _ (anything _) listing.Rdate (pieces 44 v.value) (λ h. h) in
    (h.0, h.1, h.2, h.3, All-append IsSoundLocal had.rdates (locals_of v.value) h.4 (locals-sound _ values))
observance-noted _ v had h = h

rule-sound : (o : Option RuleParts) → IfSome o IsDaily → is_finer_rule o ≡ false
rule-sound (Some rule) h = h
rule-sound None h = refl

pub observance-sound : (had : ObservanceBuilder) → IsSoundBegun had → IsSoundObservance (observance_ended had)
observance-sound had h = record {
  bounds = record {
    bounds = record {
      start_in = unwrapped IsSoundLocal had.start (local_at (pos 0) 0) h.0 day-zero;
      from_in = unwrapped (IsWithin 86_399) had.from (pos 0) h.1 zero-within;
      to_in = unwrapped (IsWithin 86_399) had.to (pos 0) h.2 zero-within;
    };
    rdates_in = h.4;
  };
  daily = rule-sound had.rule h.3;
}

-- A TIME ZONE that ends has an observance.
pub zone-sound : (had : ZoneBuilder) → All IsSoundObservance had.observances → end_fault true (builder.Zone had) ≡ None → IsSoundZone had.observances
zone-sound had h n = record { filled = λ e. let never = rw e at (sym (zone_end had) ∙ n) in cc; sound = h }

-- AN EVENT is in order as far as locals say.
no-faults : (filled started twice badly : Bool) →
    cond (not filled) (Some MissingUid) (cond (not started) (Some MissingStart) (cond (twice || badly) (Some BadEnd) None)) ≡ None →
    (filled ≡ true) × (started ≡ true) × (badly ≡ false)
no-faults filled started twice badly e = (grind arith, grind arith, grind arith)

-- What is collected is in order, and P holds of the zones that it names, in that calendar.
module _ (P : DeferredCheck → Type 0) (k : ℕ) where
  abbrev pub IsSoundStarted : EventFields → Type 0
  IsSoundStarted had =
      IfSome had.start (IsSoundTime P k) × IfSome had.end (IsSoundTime P k) × IfSome had.duration (λ d. is_lasting d ≡ true)
      × All (IsSoundRdate P k) had.rdates × All (IsSoundRdate P k) had.exdates × IfSome had.recurrence (IsSoundTime P k)

  pub event-noted : (n : Name) (v : Parts) (had : EventFields) → IsSoundStarted had → IfSome (zone_check (event_zone k n v)) P →
      IsSoundStarted (event_note n v had)
  event-noted name.Dtstart v had h c = (or-first (IsSoundTime P k) had.start _ h.0 (sound-time P k _ v.value c), h.1, h.2, h.3, h.4, h.5)
  event-noted name.Dtend v had h c = (h.0, or-first (IsSoundTime P k) had.end _ h.1 (sound-time P k _ v.value c), h.2, h.3, h.4, h.5)
  event-noted name.Duration v had h c = (h.0, h.1, or-first (λ d. is_lasting d ≡ true) had.duration _ h.2 (sound-lasting v.value), h.3, h.4, h.5)
  event-noted name.Rdate v had h c =
      (h.0, h.1, h.2, All-append (IsSoundRdate P k) had.rdates _ h.3 (sound-list P k listing.Rdate v c), h.4, h.5)
  event-noted name.Exdate v had h c =
      (h.0, h.1, h.2, h.3, All-append (IsSoundRdate P k) had.exdates _ h.4 (sound-list P k listing.Exdate v c), h.5)
  event-noted name.RecurrenceId v had h c = (h.0, h.1, h.2, h.3, h.4, or-first (IsSoundTime P k) had.recurrence _ h.5 (sound-time P k _ v.value c))
  event-noted _ v had h c = h

  pub event-sound : (had : EventFields) → IsSoundStarted had → end_fault true (builder.Event had) ≡ None → IfSome (ends_in k had.start had.end) P →
      IsSoundEvent P k had
  event-sound had h n c =
      let f = no-faults (is_filled had.uid) (is_some had.start) (is_some had.end && is_some had.duration) _ (sym (event_end had) ∙ n) in record {
        named = f.0;
        started = f.1;
        start = h.0;
        end = h.1;
        ends = f.2;
        lasting = h.2;
        rdates = h.3;
        exdates = h.4;
        recurrence = h.5;
        length = c;
      }

-- P holds of all checks of an event, and so does what follows from it.
module _ (P Q : DeferredCheck → Type 0) (w : (check : DeferredCheck) → P check → Q check) (k : ℕ) where
  time-weaker : (time : Time (List ℕ)) → IsSoundTime P k time → IsSoundTime Q k time
  time-weaker time h = record { years = h.years; zone = h.zone; known = IfSome_then (zone_check (time_zone k time)) h.known w }

  rdate-weaker : (r : Rdate (List ℕ)) → IsSoundRdate P k r → IsSoundRdate Q k r
  rdate-weaker (rdate.At time) h = time-weaker time h
  rdate-weaker (rdate.Span start (span_length.Until end)) h = (time-weaker start h.0, time-weaker end h.1)
  rdate-weaker (rdate.Span start (span_length.Lasting duration)) h = (time-weaker start h.0, h.1)
  rdate-weaker (rdate.Span start span_length.Open) h = absurd h.1

  pub event-weaker : (event : EventFields) → IsSoundEvent P k event → IsSoundEvent Q k event
  event-weaker e s = record {
    named = s.named;
    started = s.started;
    start = IfSome_then e.start s.start time-weaker;
    end = IfSome_then e.end s.end time-weaker;
    ends = s.ends;
    lasting = s.lasting;
    rdates = λ i d lt. rdate-weaker _ (s.rdates i d lt);
    exdates = λ i d lt. rdate-weaker _ (s.exdates i d lt);
    recurrence = IfSome_then e.recurrence s.recurrence time-weaker;
    length = IfSome_then _ s.length w;
  }
