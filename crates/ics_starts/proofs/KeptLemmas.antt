-- What is kept of an event's rule.
use Rattle.std.specs.Global.{Box}
use Rattle.std.proofs.Common.{◌≡◌, ◌∙◌, Option, Some, None, MatchOption, ap, sym}
use Rattle.ics_event.specs.declared.event.Event.{Event}
use Rattle.ics_period.specs.Recurrence.{Recurrence}
use Rattle.ics_listing.proofs.Cases.{some-same}
use Rattle.ics_starts.specs.Inner.KeptLocals.{IsKeptOf}
use Rattle.ics_starts.specs.Starts.{recurrence_of}
use Rattle.ics_starts.specs.declared.kept_locals.KeptLocals.{KeptLocals}

module _ (event : Event) where
  pub kept-rule : (rule : Recurrence) (kept : Option (Box KeptLocals)) → recurrence_of event ≡ Some rule → IsKeptOf event kept
      → MatchOption kept (Unit {0}) (λ k. k.value.rule ≡ rule)
  kept-rule rule None has is = tt
  kept-rule rule (Some k) has is = some-same k.value.rule rule (sym k.value.of ∙ (ap recurrence_of is ∙ has))

  pub kept-same : (old new : Option (Box KeptLocals)) → MatchOption new (Unit {0}) (λ k. MatchOption old ⊥ (λ j. k.value.event ≡ j.value.event))
      → IsKeptOf event old → IsKeptOf event new
  kept-same old None same is = tt
  kept-same None (Some k) same is = absurd same
  kept-same (Some j) (Some k) same is = ap (λ e. e.now) same ∙ is
