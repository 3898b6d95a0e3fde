-- Lists of starts that wait, and one more put in its place.
use Rattle.std.proofs.Common.{◌≡◌, ℤ, List, [], ◌∷◌, map, drop, slice_get, Some, None, refl, sym, ◌∙◌, ap, int_le, Ordering, Less, Equal, Greater}
use Rattle.std.proofs.lemmas.Option.{same_Some}
use Rattle.ics_event.specs.Event.{Time}
use Rattle.ics_listing.specs.declared.queue.Waiting.{Waiting}
use Rattle.ics_listing.specs.declared.start.Start.{Start}
use Rattle.ics_listing.specs.declared.start.StartSource.TheVariants.{Kept}
use Rattle.ics_fields.specs.declared.local.Local.{Local}
use Rattle.ics_event.specs.declared.event.Event.{Event}
use Rattle.ics_values.specs.declared.time.Rdate.TheVariants.{At}
use Rattle.ics_listing.specs.FileClocks.{Clocks}
use Rattle.ics_listing.specs.StartTimes.{time_at}
use Rattle.ics_listing.specs.StartOrder.{moment_cmp}
use Rattle.ics_starts.specs.Clocks.{instant}
use Rattle.ics_starts.specs.Found.{start_at}
use Rattle.ics_listing.specs.Merged.{by_order, cut, put, union}
use Rattle.ics_listing.specs.Rising.{IsBefore, Rises}
use Rattle.ics_starts.specs.RuleStarts.{is_ready}
use Rattle.ics_listing.specs.Waiting.{start_of, waiting_cmp}
use Rattle.ics_listing.proofs.Cases.{by-cases}
use Rattle.ics_listing.proofs.FirstLemmas.{same-moment, tied-moment}

-- The starts that waiting ones give.
abbrev started : Time → Local → ℤ → Start
started first local t = record { moment = t; source = Kept local; given = At (time_at first local) }

pub start-same : (clocks : Clocks) (event : Event) (w : Waiting) → w.moment ≡ instant clocks (time_at event.start w.local)
    → start_of event.start w ≡ start_at clocks event w.local
start-same clocks event w e = ap (started event.start w.local) e

module _ (first : Time) where
  put-starts : (w : Waiting) (ws : List Waiting) → map (start_of first) (put waiting_cmp w ws) ≡ put moment_cmp (start_of first w) (map (start_of first) ws)
  put-starts w [] = refl
  put-starts w (v ∷ ws) = by (waiting_cmp w v) (put-starts w ws)
    where
      by : (c : Ordering) → map (start_of first) (put waiting_cmp w ws) ≡ put moment_cmp (start_of first w) (map (start_of first) ws) →
          map (start_of first) (by_order c (w ∷ v ∷ ws) (w ∷ ws) (v ∷ put waiting_cmp w ws))
          ≡ by_order c (start_of first w ∷ start_of first v ∷ map (start_of first) ws) (start_of first w ∷ map (start_of first) ws)
          (start_of first v ∷ put moment_cmp (start_of first w) (map (start_of first) ws))
      by Less ih = refl
      by Equal ih = refl
      by Greater ih = ap (λ xs. start_of first v ∷ xs) ih

  pub union-starts : (ws vs : List Waiting) →
      map (start_of first) (union waiting_cmp ws vs) ≡ union moment_cmp (map (start_of first) ws) (map (start_of first) vs)
  union-starts [] vs = refl
  union-starts (w ∷ ws) vs = put-starts w (union waiting_cmp ws vs) ∙ ap (put moment_cmp (start_of first w)) (union-starts ws vs)

  before-waiting : (w : Waiting) (ws : List Waiting) → IsBefore moment_cmp (start_of first w) (map (start_of first) ws) → IsBefore waiting_cmp w ws
  before-waiting w [] h = tt
  before-waiting w (v ∷ ws) h = (h.0, before-waiting w ws h.1)

  pub rises-waiting : (ws : List Waiting) → Rises moment_cmp (map (start_of first) ws) → Rises waiting_cmp ws
  rises-waiting [] r = tt
  rises-waiting (w ∷ ws) r = (before-waiting w ws r.0, rises-waiting ws r.1)

  pub drop-starts : (ws : List Waiting) → map (start_of first) (drop 1 ws) ≡ drop 1 (map (start_of first) ws)
  drop-starts [] = refl
  drop-starts (w ∷ ws) = refl

  -- The first that waits goes where a start is at its instant, and else nothing does.
  pub cut-waiting : (t : Start) (ws vs : List Waiting) (w : Waiting) → vs ≡ drop 1 ws → slice_get ws 0 ≡ Some w → t.moment ≡ w.moment →
      map (start_of first) vs ≡ cut moment_cmp t (map (start_of first) ws)
  cut-waiting t [] vs w rest is e = absurd cc
  cut-waiting t (v ∷ ws) vs w rest is e =
      let same : w ≡ v = same_Some w v (sym is) in
      rw (rest, same-moment t (start_of first v) (e ∙ ap (λ (x : Waiting). x.moment) same)) refl

  pub uncut-waiting : (t : Start) (ws : List Waiting) (w : Waiting) → slice_get ws 0 ≡ Some w → (t.moment ≡ w.moment → ⊥) →
      map (start_of first) ws ≡ cut moment_cmp t (map (start_of first) ws)
  uncut-waiting t [] w is n = refl
  uncut-waiting t (v ∷ ws) w is n =
      by-cases (moment_cmp t (start_of first v)) (λ e. rw e refl)
      (λ e. absurd (n (tied-moment t (start_of first v) e ∙ ap (λ (x : Waiting). x.moment) (same_Some v w is)))) (λ e. rw e refl)

  pub none-waiting : (t : Start) (ws : List Waiting) → slice_get ws 0 ≡ None → map (start_of first) ws ≡ cut moment_cmp t (map (start_of first) ws)
  none-waiting t [] e = refl
  none-waiting t (w ∷ ws) e = absurd cc

  -- The first start that waits.
  pub some-start : (ws : List Waiting) (w : Waiting) → slice_get ws 0 ≡ Some w → Some (start_of first w) ≡ slice_get (map (start_of first) ws) 0
  some-start [] w is = absurd cc
  some-start (v ∷ ws) w is = ap (λ (x : Waiting). Some (start_of first x)) (same_Some w v (sym is))

  pub none-start : (ws : List Waiting) → slice_get ws 0 ≡ None → map (start_of first) ws ≡ []
  none-start [] is = refl
  none-start (w ∷ ws) is = absurd cc

  pub some-ready : (t : ℤ) (ws : List Waiting) (w : Waiting) → slice_get ws 0 ≡ Some w → int_le w.moment t ≡ is_ready t (map (start_of first) ws)
  some-ready t [] w is = absurd cc
  some-ready t (v ∷ ws) w is = ap (λ (x : Waiting). int_le x.moment t) (same_Some w v (sym is))
