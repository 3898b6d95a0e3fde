-- Where the search of a rule begins.
use Rattle.std.proofs.Common.{◌≡◌, ◌∙◌, ℕ, ◌+ℤ◌, ◌-ℤ◌, ◌≤ℤ◌, ◌<ℤ◌, ℤ, pos, refl, arith, to_z, of_z, w64}
use Rattle.std.proofs.Common.{true, Option, None, Some, MatchOption}
use Rattle.std.specs.Prelude.{is_none}
use Rattle.std.specs.Int.{int_min}
use Rattle.std.proofs.lemmas.Int.{int_min_is, ints}
use Rattle.ics_event.specs.declared.event.Event.{Event}
use Rattle.ics_fields.specs.Days.{IsDayNumber}
use Rattle.ics_fields.specs.Locals.{local_seconds, midnight, number, whole_days, year_number}
use Rattle.ics_fields.specs.RuleParts.{RuleParts}
use Rattle.ics_fields.specs.declared.local.Local.{Local}
use Rattle.ics_starts.specs.declared.rule_starts.RuleStarts.{RuleStarts}
use Rattle.ics_starts.specs.declared.zones.FileZones.{FileZones}
use Rattle.ics_listing.specs.StartTimes.{local_of}
use Rattle.ics_listing.specs.declared.window.Window.{Window}
use Rattle.ics_starts.specs.Leeway.{seconds_off}
use Rattle.ics_starts.specs.RuleStarts.{ends_at}
use Rattle.ics_starts.specs.SeriesStarts.{HasOwnRule, IsOwnRule, IsRuleBegin}
use Rattle.ics_starts.specs.FileZones.{clocks_in}
use Rattle.ics_starts.proofs.RuleStepLemmas.{ends-most}
use Rattle.ics_starts.proofs.SettledLemmas.{off-range}
use Rattle.ics_starts.proofs.SoughtLemmas.{late-event}

-- where the rule ends is told by the event as it is seen
pub ends-same : (w : Window) {o p : Option ℤ} {u v : Event} → o ≡ p → u ≡ v →
    ends_at w o (local_seconds (local_of u.start.stamp)) ≡ ends_at w p (local_seconds (local_of v.start.stamp))
ends-same w e f = λ i. ends_at w (e i) (local_seconds (local_of (f i).start.stamp))

pub first-same : (w : Window) {o p : Option ℤ} {u v : Event} → o ≡ p → u ≡ v →
    int_min (local_seconds (local_of u.start.stamp)) (ends_at w o (local_seconds (local_of u.start.stamp)) -ℤ pos 1)
    ≡ int_min (local_seconds (local_of v.start.stamp)) (ends_at w p (local_seconds (local_of v.start.stamp)) -ℤ pos 1)
first-same w e f = λ i. int_min (local_seconds (local_of (f i).start.stamp)) (ends_at w (e i) (local_seconds (local_of (f i).start.stamp)) -ℤ pos 1)

pub end-of-window : (w : Window) (o : Option ℤ) (end : ℤ) {u v : Event} → u ≡ v →
    midnight end <ℤ (ends_at w o (local_seconds (local_of u.start.stamp)) +ℤ (seconds_off u.start.stamp +ℤ whole_days 1))
    → midnight end <ℤ (w.to +ℤ whole_days 3)
end-of-window w o end {u = u} f l = omega (arith, ints, l, ends-most w o (local_seconds (local_of u.start.stamp)), off-range u.start.stamp)

less-by : {moment first late : ℤ} → moment <ℤ (first -ℤ late) → pos 0 ≤ℤ late → moment <ℤ first
less-by l h = omega (arith, ints, l, h)

-- a search that begins where the rule is read from is one of the event's own rule
pub own-begin : (zones : FileZones) (event : Event) (w : Window) (first : ℤ) (from : Local) (s : RuleStarts) → IsRuleBegin (clocks_in zones) event first from
    → (s.zones ≡ zones) × (s.event.now ≡ event) × (s.window ≡ w) × (s.from ≡ from) → IsOwnRule zones event w first s
own-begin zones event w first from s begin is =
    let ends = late-event zones w event begin.bounds begin.bounded in
    record {
      zones_are = is.0;
      event_is = is.1;
      window_is = is.2;
      day = rw is.3 begin.day;
      late = rw is.3 begin.late;
      low = rw is.3 (λ n on before. less-by (begin.low n on before) ends.0);
    }

lesser-day : (a b : ℤ) → IsDayNumber a → IsDayNumber b → IsDayNumber (int_min a b)
lesser-day a b h k = (omega (arith, ints, h.0, k.0, int_min_is a b), omega (arith, ints, h.1, k.1, int_min_is a b))

-- The midnight from which on is read, in an i64: that of the day where the search begins or, if that is earlier, of the end.
module _ {day end seconds : ℤ} (from : Local) (h : IsDayNumber from.day) (k : IsDayNumber end) (is : day ≡ int_min from.day end)
    (e : seconds ≡ midnight day) where
  midnight-back : to_z w64 (of_z w64 seconds) ≡ midnight day
  midnight-back = let own = lesser-day from.day end h k in omega (arith, ints, own.0, own.1, is, e)

  pub begun-on : midnight day ≤ℤ to_z w64 (of_z w64 seconds)
  begun-on = omega (arith, ints, midnight-back)

  pub begun-next : {place : ℕ} → place ≡ number from → (to_z w64 (of_z w64 seconds) +ℤ pos (year_number 1_970)) ≤ℤ pos place
  begun-next same = omega (arith, ints, h.0, h.1, int_min_is from.day end, is, midnight-back, same)

no-rule : (o : Option RuleParts) → is_none o ≡ true → o ≡ None
no-rule None e = refl
no-rule (Some parts) e = absurd cc

-- the starts of an event's own rule are of that event, also of one that is the same
pub own-rule : (zones : FileZones) (w : Window) (first : ℤ) {old event : Event} (o : Option RuleStarts) → HasOwnRule zones old w first o → old ≡ event
    → MatchOption o (event.rule ≡ None) (λ s. s.event.now ≡ event)
own-rule zones w first None own same = rw (← same) (no-rule _ own)
own-rule zones w first (Some s) own same = own.event_is ∙ same
