-- What a window lists, said plainly.
use Rattle.std.proofs.Common.{◌≡◌, ℤ, pos, ◌+ℤ◌, true, false, ◌⊎◌, inl, inr, ⊎_elim, List, ◌++◌, refl, sym, ◌∙◌, arith, ◌↔◌, ◌≤ℤ◌, ◌<ℤ◌, Less}
use Rattle.std.specs.Cmp.{int_cmp_is}
use Rattle.std.proofs.lemmas.Int.{int_max_is, ints}
use Rattle.ics_file.specs.File.{FileSaid}
use Rattle.ics_zone.proofs.Cases.{less_or_not_z}
use Rattle.ics_listing.specs.declared.window.Window.{Window}
use Rattle.ics_listing.specs.FileClocks.{Clock}
use Rattle.ics_listing.specs.Entry.{Entry, entry_cmp}
use Rattle.ics_listing.specs.Listing.{IsIn, IsListing}
use Rattle.ics_series.specs.Meets.{IsListed}
use Rattle.ics_starts.specs.MeetsWindow.{Meets}
use Rattle.ics_series.specs.Occurs.{Occurs}
use Rattle.ics_series.specs.WindowLaws.{IsJoined, IsWithin}
use Rattle.ics_days.proofs.NearDayLemmas.{lasts-from}
use Rattle.ics_series.proofs.OccursLemmas.{occurs-forward}
use Rattle.ics_starts.proofs.JoinedLemmas.{joined as joined-listing}

module _ (files : List FileSaid) (display : Clock) where
  starting : (w : Window) (o : Entry) → Occurs files display o → w.from ≤ℤ o.start → o.start <ℤ w.to → IsListed files display w o
  starting w o h from to =
      let long = lasts-from w.from o.start o.finish (occurs-forward files display o h) (omega (arith, ints, from, int_max_is)) in
      (h, record { begun = to; lasting = long; started = λ _. from })

  pub lists-starts : (w : Window) (o : Entry) → w.notstarted ≡ true
      → IsListed files display w o ↔ (Occurs files display o × (w.from ≤ℤ o.start) × (o.start <ℤ w.to))
  lists-starts w o e = ((λ h. (h.0, h.1.started e, h.1.begun)), (λ h. starting w o h.0 h.1 h.2))

  module _ (w : Window) where
    pub lists-under_way : (t : ℤ) (o : Entry) → w.from ≡ t → w.to ≡ t +ℤ pos 1 → w.notstarted ≡ false → o.start <ℤ o.finish
        → IsListed files display w o ↔ (Occurs files display o × (o.start ≤ℤ t) × (t <ℤ o.finish))
    lists-under_way t o from to all long = (
      (λ h.
          let begun : o.start ≤ℤ t = omega (arith, ints, h.1.begun, to) in
          let into : t <ℤ o.finish = ⊎_elim (λ l. omega (arith, ints, l, from)) (λ l. omega (arith, ints, l.0, long)) h.1.lasting in
          (h.0, begun, into)),
      (λ h. (
        h.0,
        record {
          begun = omega (arith, ints, h.1, to);
          lasting = inl (omega (arith, ints, h.2, from));
          started = λ s. let no : false ≡ true = sym all ∙ s in absurd cc;
        },
      )),
    )

  module _ (inner outer : Window) where
    -- what meets the inner window meets the outer
    wider : (o : Entry) → IsWithin inner outer → Meets inner o → Meets outer o
    wider o within h = record {
      begun = omega (arith, ints, h.begun, within.to);
      lasting = ⊎_elim (λ l. let l : outer.from <ℤ o.finish = omega (arith, ints, l, within.from) in inl l)
          (λ l. let s : outer.from ≤ℤ o.start = omega (arith, ints, l.1, within.from) in inr (l.0, s)) h.lasting;
      started = λ s. let i = h.started (within.starts s) in omega (arith, ints, i, within.from);
    }

    pub listing-within : (xs ys : List Entry) → IsWithin inner outer → IsListing entry_cmp (IsListed files display inner) xs
        → IsListing entry_cmp (IsListed files display outer) ys → (o : Entry) → IsIn o xs ↔ (IsIn o ys × Meets inner o)
    listing-within xs ys within h k o = (
      (λ m. let l = (h.exact o).0 m in ((k.exact o).1 (l.0, wider o within l.1), l.1)),
      (λ m. (h.exact o).1 (((k.exact o).0 m.0).0, m.1)),
    )

module _ (files : List FileSaid) (display : Clock) (first next whole : Window) (joined : IsJoined first next whole) where
  in_first : (o : Entry) → IsListed files display first o → IsListed files display whole o
  in_first o h =
      let s = (lists-starts files display first o joined.starts.0).0 h in
      starting files display whole o s.0 (omega (arith, ints, s.1, joined.from)) (omega (arith, ints, s.2, joined.adjoin, joined.to, next.ordered))

  in_next : (o : Entry) → IsListed files display next o → IsListed files display whole o
  in_next o h =
      let s = (lists-starts files display next o joined.starts.1).0 h in
      starting files display whole o s.0 (omega (arith, ints, s.1, joined.from, joined.adjoin, first.ordered)) (omega (arith, ints, s.2, joined.to))

  in_either : (o : Entry) → IsListed files display whole o → IsListed files display first o ⊎ IsListed files display next o
  in_either o h =
      let s = (lists-starts files display whole o joined.starts.2).0 h in
      ⊎_elim
      (λ l. inl (starting files display first o s.0 (omega (arith, ints, s.1, joined.from)) l))
      (λ l. inr (starting files display next o s.0 (omega (arith, ints, l, joined.adjoin)) (omega (arith, ints, s.2, joined.to))))
      (less_or_not_z o.start first.to)

  pub listings-join : (xs ys : List Entry) → IsListing entry_cmp (IsListed files display first) xs → IsListing entry_cmp (IsListed files display next) ys
      → IsListing entry_cmp (IsListed files display whole) (xs ++ ys)
  listings-join xs ys h k =
      joined-listing entry_cmp (IsListed files display whole) h k
      (λ o q a n.
      let b = (lists-starts files display next q joined.starts.1).0 n in
      rw (sym (int_cmp_is o.start q.start Less (omega (arith, ints, a.1.begun, b.1, joined.adjoin)))) refl)
      (λ o. ⊎_elim (in_first o) (in_next o)) in_either
