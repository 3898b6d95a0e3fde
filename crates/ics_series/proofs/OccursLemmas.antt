-- No two occurrences of a folder have one UID and one recurrence, and none ends before it starts.
use Rattle.std.proofs.Common.{◌≡◌, ◌≤ℤ◌, ℕ, ℤ, List, Option, Some, None, inl, inr, sym, ◌∙◌, ap, arith, subst, option_map}
use Rattle.std.proofs.lemmas.Int.{int_max_is, ints}
use Rattle.ics_file.specs.File.{FileSaid}
use Rattle.ics_event.specs.declared.event.Event.{Event}
use Rattle.ics_series.specs.Chosen.{subject_of, SubjectSeen, IsMaster, IsOverride}
use Rattle.ics_listing.specs.FileClocks.{Clock, Clocks}
use Rattle.ics_starts.specs.Clocks.{instant}
use Rattle.ics_listing.specs.Entry.{Entry}
use Rattle.ics_series.specs.Occurs.{IsMoved, IsOfMaster, IsOfOverride, Occurs}
use Rattle.ics_starts.specs.Instances.{IsOf}
use Rattle.ics_series.specs.PlacedEvents.{Placed, clocks_at}
use Rattle.ics_starts.proofs.StartSourceLemmas.{one-instance}
use Rattle.ics_series.proofs.VersionLemmas.{one-chosen}
use Rattle.ics_starts.proofs.EntryLemmas.{same-entry}

abbrev sub : List ℕ → Option ℤ → SubjectSeen
sub uid recurrence = record { uid = uid; recurrence = recurrence }

one-of : {clocks : Clocks} {e : Event} {o q : Entry} → IsOf clocks e o → IsOf clocks e q → o.recurrence ≡ q.recurrence → o ≡ q
one-of {o = o} {q = q} h k r =
    let start : o.start ≡ q.start = sym h.recurrence ∙ (r ∙ k.recurrence) in
    same-entry o q start (one-instance (rw start at h.lasts) k.lasts) r (h.event ∙ sym k.event)

one-moved : {clocks : Clocks} {e : Event} {o q : Entry} → IsMoved clocks e o → IsMoved clocks e q → o.recurrence ≡ q.recurrence → o ≡ q
one-moved {o = o} {q = q} h k r = same-entry o q (h.starts ∙ sym k.starts) (h.ends ∙ sym k.ends) r (h.event ∙ sym k.event)

module _ (files : List FileSaid) (display : Clock) where
  -- the subject of a master, and of an override
  pub master-subject : (p : Placed) → IsMaster files display p → subject_of files display p ≡ sub p.event.uid None
  master-subject p h = ap (λ r. sub p.event.uid (option_map (instant (clocks_at files display p.file)) r)) h.single

  pub override-subject : (p : Placed) (t : ℤ) → IsOverride files display p t → subject_of files display p ≡ sub p.event.uid (Some t)
  override-subject p t h = ap (sub p.event.uid) h.of

  same-uid : (o q : Entry) {d e : Event} → o.event ≡ d → q.event ≡ e → o.event.uid ≡ q.event.uid → d.uid ≡ e.uid
  same-uid o q a b u = sym (ap (λ v. v.uid) a) ∙ (u ∙ ap (λ v. v.uid) b)

  module _ (o q : Entry) (u : o.event.uid ≡ q.event.uid) (r : o.recurrence ≡ q.recurrence) where
    both-masters : IsOfMaster files display o → IsOfMaster files display q → o ≡ q
    both-masters h k =
        let uid = same-uid o q h.of.event k.of.event u in
        let one : h.master ≡ k.master = one-chosen h.is.chosen k.is.chosen
        (master-subject h.master h.is ∙ (ap (λ x. sub x None) uid ∙ sym (master-subject k.master k.is))) in
        one-of (subst (λ (p : Placed). IsOf (clocks_at files display p.file) p.event o) one h.of) k.of r

    both-overrides : IsOfOverride files display o → IsOfOverride files display q → o ≡ q
    both-overrides h k =
        let uid = same-uid o q h.of.event k.of.event u in
        let one : h.override ≡ k.override = one-chosen h.is.chosen k.is.chosen
        (override-subject h.override o.recurrence h.is ∙ ((λ i. sub (uid i) (Some (r i))) ∙ sym (override-subject k.override q.recurrence k.is))) in
        one-moved (subst (λ (p : Placed). IsMoved (clocks_at files display p.file) p.event o) one h.of) k.of r

    not-both : IsOfMaster files display o → IsOfOverride files display q → ⊥
    not-both h k = h.kept (record {
      by = k.override;
      is = record { chosen = k.is.chosen; of = k.is.of ∙ ap Some (sym r) };
      same = sym (ap (λ v. v.uid) k.of.event) ∙ sym u;
    })

  pub one-recurrence : (o q : Entry) → Occurs files display o → Occurs files display q → o.event.uid ≡ q.event.uid → o.recurrence ≡ q.recurrence → o ≡ q
  one-recurrence o q (inl a) (inl b) u r = both-masters o q u r a b
  one-recurrence o q (inl a) (inr b) u r = absurd (not-both o q u r a b)
  one-recurrence o q (inr a) (inl b) u r = absurd (not-both q o (sym u) (sym r) b a)
  one-recurrence o q (inr a) (inr b) u r = both-overrides o q u r a b

-- an occurrence ends where it starts, or later
pub occurs-forward : (files : List FileSaid) (display : Clock) (o : Entry) → Occurs files display o → o.start ≤ℤ o.finish
occurs-forward files display o (inl m) = omega (arith, ints, m.of.lasts.starts, m.of.lasts.ends, int_max_is)
occurs-forward files display o (inr m) = omega (arith, ints, m.of.starts, m.of.ends, int_max_is)
