-- Listings under each day, and what of them comes after the key of one of their entries.
use Rattle.std.specs.Cmp.{IsTotalOrder, int_cmp_is}
use Rattle.std.specs.List.{filter}
use Rattle.std.specs.Ordering.{ordering_then}
use Rattle.std.proofs.Common.{◌≡◌, ℤ, List, [], ◌∷◌, ◌++◌, map, inl, true, refl, sym, ◌∙◌, ap, subst, Some, cond, ◌<ℤ◌, is_lt, Ordering, Less}
use Rattle.std.proofs.lemmas.Cmp.{int_cmp_total, on_total, then_total, tied_itself}
use Rattle.std.proofs.lemmas.Bool.{and_from, and_parts}
use Rattle.ics_file.specs.File.{FileSaid}
use Rattle.ics_listing.specs.declared.window.Window.{Window}
use Rattle.ics_series.specs.Ahead.{today}
use Rattle.ics_days.specs.ShownDays.{is_on}
use Rattle.ics_days.specs.Today.{is_today}
use Rattle.ics_listing.specs.FileClocks.{Clock}
use Rattle.ics_series.specs.OnDays.{IsOnDay}
use Rattle.ics_listing.specs.DayKeys.{day_rank_of, on_day, on_day_cmp, OnDay, after_day_key}
use Rattle.ics_listing.specs.Entry.{Entry, entry_cmp, rank_cmp, rank_of}
use Rattle.ics_listing.specs.Inner.EntryLaws.{rank_total}
use Rattle.ics_listing.specs.Listing.{IsIn, IsListing}
use Rattle.ics_listing.specs.WindowMeeting.{is_met}
use Rattle.ics_series.specs.Occurs.{Occurs}
use Rattle.ics_listing.specs.Rising.{IsBefore, Rises}
use Rattle.ics_listing.proofs.BeginsLemmas.{over}
use Rattle.ics_listing.proofs.ListingLemmas.{listing-filter, before-in, rises-on, in-append_right}
use Rattle.ics_series.proofs.VersionLemmas.{in-map, map-in}
use Rattle.ics_starts.proofs.MeetsLemmas.{is_met-meets, meets-is_met}

pub on_day_total : IsTotalOrder on_day_cmp
on_day_total = on_total day_rank_of (then_total (on_total (λ r. r.day) int_cmp_total) (on_total (λ r. r.key) rank_total))

-- Under one day the order is that of the occurrences.
rises-under : (day : ℤ) (xs : List Entry) → Rises entry_cmp xs → Rises on_day_cmp (map (on_day day) xs)
rises-under day xs h =
    (rises-on (on_day day) on_day_cmp xs).1 (subst (λ (R : Entry → Entry → Ordering). Rises R xs)
    (λ i x y. ordering_then (sym (tied_itself int_cmp_total day) i) (entry_cmp x y)) h)

-- an earlier day goes first
pub day-first : (p q : OnDay) → p.day <ℤ q.day → on_day_cmp p q ≡ Less
day-first p q h = ap (λ c. ordering_then c (rank_cmp (rank_of p.entry) (rank_of q.entry))) (sym (int_cmp_is p.day q.day Less h))

module _ (files : List FileSaid) (display : Clock) (w : Window) where
  -- what is shown under a day: occurrences that meet the window and have the day there
  pub shown-today : (p : OnDay) → IsOnDay files display w p → is_today display w p.day p.entry ≡ true
  shown-today p s = and_from (is_met w p.entry) (is_on display w p.entry p.day) (meets-is_met w p.entry s.listed.1) s.on

  pub today-shown : (day : ℤ) (o : Entry) → Occurs files display o → is_today display w day o ≡ true → IsOnDay files display w (on_day day o)
  today-shown day o occurs t =
      let parts = and_parts (is_met w o) (is_on display w o day) t in
      record { listed = (occurs, is_met-meets w o parts.0); on = parts.1 }

  pub today-listing : (day : ℤ) {P : Entry → Type 0} (Q : OnDay → Type 0) {xs : List Entry} → IsListing entry_cmp P xs
      → ((o : Entry) → P o → is_today display w day o ≡ true → Q (on_day day o))
      → ((p : OnDay) → Q p → (p.day ≡ day) × P p.entry × (is_today display w day p.entry ≡ true)) → IsListing on_day_cmp Q (today display w day xs)
  today-listing day {P = P} Q {xs = xs} l f g =
      let kept = listing-filter (λ o. is_today display w day o) entry_cmp P (λ o. P o × (is_today display w day o ≡ true)) xs l (λ o p t. (p, t)) (λ o h. h) in
      record {
        rises = rises-under day (filter (λ o. is_today display w day o) xs) kept.rises;
        exact = λ p. (
          λ m.
              let k = in-map (on_day day) p (filter (λ o. is_today display w day o) xs) m in
              let h = (kept.exact k.0).0 k.1 in
              subst Q (sym k.2) (f k.0 h.0 h.1),
          λ q.
              let k = g p q in
              let same : on_day day p.entry ≡ p = ap (λ d. on_day d p.entry) (sym k.0) in
              subst (λ x. IsIn x (today display w day xs)) same
              (map-in (on_day day) p.entry (filter (λ o. is_today display w day o) xs) ((kept.exact p.entry).1 (k.1, k.2))),
        );
      }

-- What of a rising list is greater than one of it stands behind it.
module _ {A : Type 0} (R : A → A → Ordering) (o : IsTotalOrder R) where
  abbrev pub greater : A → List A → List A
  greater x list = filter (λ y. is_lt (R x y)) list

  keeps-greater : (x : A) (ys : List A) → IsBefore R x ys → greater x ys ≡ ys
  keeps-greater x [] h = refl
  keeps-greater x (y ∷ ys) h = ap (λ c. cond (is_lt c) (y ∷ greater x ys) (greater x ys)) h.0 ∙ ap (λ l. y ∷ l) (keeps-greater x ys h.1)

  pub greater-behind : (front : List A) (x : A) (behind : List A) → Rises R (front ++ x ∷ behind) → greater x (front ++ x ∷ behind) ≡ behind
  greater-behind [] x behind h = rw (tied_itself o x) (keeps-greater x behind h.0)
  greater-behind (y ∷ ys) x behind h =
      rw (over R o y x (before-in R o y x (ys ++ x ∷ behind) h.0 (in-append_right x ys (x ∷ behind) (inl refl)))) (greater-behind ys x behind h.1)

module _ (files : List FileSaid) (display : Clock) (w : Window) where
  pub day-listing-behind : (front : List OnDay) (p : OnDay) (behind : List OnDay) → IsListing on_day_cmp (IsOnDay files display w) (front ++ p ∷ behind)
      → after_day_key (Some (day_rank_of p)) (front ++ p ∷ behind) ≡ behind
  day-listing-behind front p behind h = greater-behind on_day_cmp on_day_total front p behind h.rises
