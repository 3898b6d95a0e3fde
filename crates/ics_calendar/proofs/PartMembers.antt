-- The events of a file of which a test holds are some of its events.
use Rattle.std.proofs.Common.{◌≡◌, inl, inr, Bool, true, false, List, [], ◌∷◌, filter, refl, cond}
use Rattle.ics_components.specs.EventLines.{all_events, is_event}
use Rattle.ics_components.specs.PlacedLines.{Placed}
use Rattle.ics_components.proofs.ItemFaults.{IsIn}
use Rattle.ics_calendar.proofs.PartFirst.{IsPart}

some-events : (ls : List Placed) (p : Placed → Bool) (ks : List Placed) → ((k : Placed) → IsIn k ks → IsIn k ls) →
    IsPart ls (filter p (filter is_event ks))
some-events ls p [] among = tt
some-events ls p (k ∷ ks) among = by_event (is_event k) refl (some-events ls p ks (λ m i. among m (inr i)))
  where
    by_chosen : (t : Bool) → is_event k ≡ true → IsPart ls (filter p (filter is_event ks)) →
        IsPart ls (cond t (k ∷ filter p (filter is_event ks)) (filter p (filter is_event ks)))
    by_chosen true e more = ((among k (inl refl), e), more)
    by_chosen false e more = more

    by_event : (t : Bool) → is_event k ≡ t → IsPart ls (filter p (filter is_event ks))
        → IsPart ls (filter p (cond t (k ∷ filter is_event ks) (filter is_event ks)))
    by_event true e more = by_chosen (p k) e more
    by_event false e more = more

pub uid_part : (ls : List Placed) (p : Placed → Bool) → IsPart ls (filter p (all_events ls))
uid_part ls p = some-events ls p ls (λ k i. i)
