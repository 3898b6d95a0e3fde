-- What a series gives.
use Rattle.std.proofs.Common.{◌≡◌, ℤ, ◌-ℤ◌, List, [], ◌∷◌, take, true, false, Option, Some, None, inl, inr, refl, sym, ◌∙◌, ap, subst, arith, ◌≤ℤ◌, ◌<ℤ◌}
use Rattle.std.proofs.Common.{slice_get, int_eq, Bool, ◌&&◌, not, if◌then◌else◌, int_cmp, length, ⊎_elim, int_le, int_lt, Greater}
use Rattle.std.proofs.lemmas.Int.{ints}
use Rattle.std.proofs.lemmas.List.{take-append-drop}
use Rattle.std.specs.List.{cons_option, filter_map}
use Rattle.std.proofs.lemmas.Bool.{and_parts, cond_both, or_parts}
use Rattle.ics_rule.specs.Cursors.{place_of}
use Rattle.ics_fields.specs.Locals.{midnight, whole_days}
use Rattle.ics_event.specs.declared.event.Event.{Event}
use Rattle.ics_event.specs.Event.{Rdate}
use Rattle.ics_listing.specs.declared.listed_starts.ListedStarts.{ListedStarts}
use Rattle.ics_starts.specs.declared.rule_starts.RuleStarts.{RuleStarts}
use Rattle.ics_starts.specs.declared.series.Series.{Series}
use Rattle.ics_listing.specs.declared.start.StartSource.{StartSource}
use Rattle.ics_listing.specs.declared.start.Start.{Start}
use Rattle.ics_listing.specs.declared.window.Window.{Window}
use Rattle.ics_starts.specs.declared.zones.FileZones.{FileZones}
use Rattle.ics_listing.specs.FileClocks.{Clocks}
use Rattle.ics_starts.specs.Clocks.{instant}
use Rattle.ics_listing.specs.Entry.{Entry, entry_cmp}
use Rattle.ics_starts.specs.Exclusions.{is_among, is_excluded}
use Rattle.ics_listing.specs.StartOrder.{moment_cmp, HasStart}
use Rattle.ics_starts.specs.Found.{AreStartsSince, IsStart, IsSought}
use Rattle.ics_listing.specs.Listing.{IsIn, IsListing}
use Rattle.ics_starts.specs.Meeting.{entry_from}
use Rattle.ics_listing.specs.WindowMeeting.{is_met}
use Rattle.ics_listing.specs.Merged.{cut, union, put}
use Rattle.ics_listing.specs.Rising.{IsBefore, Rises}
use Rattle.ics_starts.specs.RuleFeed.{held_in, starts_left}
use Rattle.ics_starts.specs.SeriesStarts.{first_of, given_of, has_moment, is_left_out, is_wanted, rule_asked, rule_left, wanted_by}
use Rattle.ics_starts.specs.SeriesStarts.{HasOwnRule, HasRuled, HasSameRule}
use Rattle.ics_starts.specs.SeriesStarts.{IsAskedNear, IsSeriesMet, IsFirstOf}
use Rattle.ics_listing.specs.KnownStarts.{listed_left}
use Rattle.ics_starts.specs.SeriesFeed.{series_left, series_near, series_of}
use Rattle.ics_starts.specs.Starts.{GivesStart}
use Rattle.ics_listing.specs.StartTimes.{time_of, IsNotAfter}
use Rattle.ics_starts.specs.FileZones.{clocks_in}
use Rattle.ics_listing.proofs.Cases.{equal-true, not-true, true-equal}
use Rattle.ics_listing.proofs.FirstLemmas.{int-less, moment_total, tied-moment, same-moment}
use Rattle.ics_starts.proofs.StartSourceLemmas.{same-given}
use Rattle.ics_listing.proofs.StartOrderLemmas.{same-source}
use Rattle.ics_listing.proofs.ListingLemmas.{before-in, rises-end, any-in, in-any, picked as picked-from, listing-picked as picked-listing, KeepsOrder}
use Rattle.ics_listing.proofs.ListingLemmas.{one-of-tied}
use Rattle.ics_starts.proofs.MeetsLemmas.{is_met-meets, meets-is_met}
use Rattle.ics_starts.proofs.RuleDayLemmas.{rises-to_come, less-start}
use Rattle.ics_starts.proofs.EntryLemmas.{entry_start_cmp, same-entry}
use Rattle.ics_starts.proofs.RuleStepLemmas.{left-near}
use Rattle.std.proofs.lemmas.Option.{cond_some}
use Rattle.ics_starts.specs.MeetsWindow.{Meets}
use Rattle.ics_listing.proofs.BeginsLemmas.{member-cut, begins-first, begins-second, not-after-front}
use Rattle.ics_zone.proofs.Cases.{int_le_true, int_lt_true}
use Rattle.ics_listing.specs.Inner.MergedLaws.{before-trans}
use Rattle.ics_listing.proofs.UnionLemmas.{in-union, itself-put, member-put}

-- The occurrences of one event that meet a window.
-- those of the occurrences with these starts that pass a test
abbrev pub picked : Clocks → Event → (Entry → Bool) → List Start → List Entry
picked clocks event test starts = filter_map (λ s. if test (entry_from clocks event s.given) then Some (entry_from clocks event s.given) else None) starts

module _ (clocks : Clocks) (event : Event) (test : Entry → Bool) where
  -- the occurrence with a start, which is picked if it passes
  abbrev own : Start → Entry
  own s = entry_from clocks event s.given

  abbrev pick : Start → Option Entry
  pick s = if test (own s) then Some (own s) else None

  pick-is : (s : Start) (e : Entry) → pick s ≡ Some e → (e ≡ own s) × (test e ≡ true)
  pick-is s e q = let k = cond_some (test (own s)) (own s) e q in (sym k.1, ap test (sym k.1) ∙ k.0)

  picks-keep : (ss : List Start) → ((s : Start) → IsIn s ss → IsStart clocks event s) → KeepsOrder pick moment_cmp entry_start_cmp (λ s. IsIn s ss)
  picks-keep ss o s t x y m n d e l =
      let one = pick-is s x d in
      let other = pick-is t y e in
      (λ i. entry_start_cmp (one.0 i) (other.0 i)) ∙ ((λ i. int_cmp (sym (o s m).moment i) (sym (o t n).moment i)) ∙ l)

  -- The members: e has one of these starts, and passes.
  pub record IsPicked (ss : List Start) (e : Entry) : Type 0 where
    pub start : Start
    pub stands : IsIn start ss
    pub is : e ≡ entry_from clocks event start.given
    pub passes : test e ≡ true

  pub in-picked : (ss : List Start) (e : Entry) → IsIn e (picked clocks event test ss) → IsPicked ss e
  in-picked ss e m =
      let k = picked-from pick e ss m in
      let is = pick-is k.0 e k.2 in
      record { start = k.0; stands = k.1; is = is.0; passes = is.1 }

  -- they are what P holds of, if it holds exactly of those that pass
  pub listing-picked : (P : Entry → Type 0) (ss : List Start) → Rises moment_cmp ss → ((s : Start) → IsIn s ss → IsStart clocks event s)
      → ((s : Start) → IsIn s ss → test (entry_from clocks event s.given) ≡ true → P (entry_from clocks event s.given)) → ((e : Entry) → P e → IsPicked ss e)
      → IsListing entry_start_cmp P (picked clocks event test ss)
  listing-picked P ss r o f g =
      picked-listing pick moment_cmp entry_start_cmp (λ s. IsIn s ss) (picks-keep ss o) P ss
      (record { rises = r; exact = λ s. (λ m. m, λ m. m) })
      (λ s e m q. let is = pick-is s e q in subst P (sym is.0) (f s m (ap test (sym is.0) ∙ is.1)))
      (λ e p.
      let k = g e p in
      (k.start, k.stands, ap (λ b. if b then Some (own k.start) else None) (ap test (sym k.is) ∙ k.passes) ∙ ap Some (sym k.is)))

-- What is wanted of the starts from an instant on is what the series has.
module _ (clocks : Clocks) (w : Window) (event : Event) (since : ℤ) (replaced : List ℤ) (starts : List Start)
    (h : AreStartsSince clocks event w since starts) where
  -- a start from which the event meets the window is sought
  own-sought : (source : StartSource) (given : Rdate) → GivesStart clocks event source given → Meets w (entry_from clocks event given) →
      IsSought clocks event w (instant clocks (time_of given))
  own-sought source given g m = record { source = source; given = given; gives = g; starts = refl; meets = m }

  wanted-is : (o : Entry) → is_wanted clocks w event since replaced o ≡ true
      → ((since ≤ℤ o.start) × Meets w o) × ((is_excluded clocks event o.start ≡ false) × (is_among replaced o.start ≡ false))
  wanted-is o e =
      let late = and_parts (int_le since o.start) (is_met w o && not (is_left_out clocks event replaced o.start)) e in
      let met = and_parts (is_met w o) (not (is_left_out clocks event replaced o.start)) late.1 in (
        (int_le_true since o.start late.0, is_met-meets w o met.0),
        or_parts (is_excluded clocks event o.start) (is_among replaced o.start) (not-true (is_left_out clocks event replaced o.start) met.1),
      )

  -- a start that is wanted is given by the first to do so
  found-is : (s : Start) → IsIn s starts → is_wanted clocks w event since replaced (entry_from clocks event s.given) ≡ true →
      IsSeriesMet clocks event w since replaced (entry_from clocks event s.given)
  found-is s m t =
      let start = h.are s m in
      let is = wanted-is (entry_from clocks event s.given) t in
      let sought = own-sought s.source s.given start.gives is.0.1 in (
        (
          record {
            event = refl;
            recurrence = refl;
            lasts = record {
              source = s.source;
              given = s.given;
              gives = start.gives;
              starts = refl;
              earliest = λ other value g e.
                  let found = h.all other value g (subst (IsSought clocks event w) (sym e) sought) (subst (λ x. since ≤ℤ x) (sym e) is.0.0) in
                  let same : found.start ≡ s = one-of-tied moment_cmp moment_total starts
                  (same-moment found.start s (found.same ∙ (e ∙ sym start.moment))) h.rises found.stands m in
                  subst (λ x. IsNotAfter x.source other) same found.earlier;
              ends = refl;
              stays = is.1.0;
            };
          },
          is.0.1,
        ),
        (is.0.0, is.1.1),
      )

  -- an occurrence of the series has a start that was found
  is-found : (e : Entry) → IsSeriesMet clocks event w since replaced e → IsPicked clocks event (is_wanted clocks w event since replaced) starts e
  is-found e o =
      let of = o.0.0.lasts in
      let by : e ≡ entry_from clocks event of.given = same-entry e (entry_from clocks event of.given) of.starts of.ends (o.0.0.recurrence
      ∙ of.starts) o.0.0.event in
      let found = h.all of.source of.given of.gives (own-sought of.source of.given of.gives (subst (Meets w) by o.0.1))
      (subst (λ x. since ≤ℤ x) of.starts o.1.0) in
      let start = h.are found.start found.stands in
      let above = of.earliest found.start.source found.start.given start.gives (sym start.moment ∙ (found.same ∙ sym of.starts)) in record {
        start = found.start;
        stands = found.stands;
        is = by ∙ ap (entry_from clocks event)
            (same-given clocks event of.given found.start.given (same-source of.source found.start.source above found.earlier) of.gives start.gives);
        passes = let met = meets-is_met w e o.0.1 in let late = o.1.0 in let stays = of.stays in let kept = o.1.1 in grind (arith, ints);
      }

  -- what starts later goes later
  before-later : (a : Entry) (es : List Entry) → IsBefore entry_start_cmp a es → IsBefore entry_cmp a es
  before-later a [] b = tt
  before-later a (e ∷ es) b = (rw b.0 refl, before-later a es b.1)

  rises-later : (es : List Entry) → Rises entry_start_cmp es → Rises entry_cmp es
  rises-later [] r = tt
  rises-later (e ∷ es) r = (before-later e es r.0, rises-later es r.1)

  pub series-listing : IsListing entry_cmp (IsSeriesMet clocks event w since replaced) (given_of clocks w event since replaced starts)
  series-listing =
      let listing =
      listing-picked clocks event (is_wanted clocks w event since replaced) (IsSeriesMet clocks event w since replaced) starts h.rises h.are
      found-is is-found in
      record { rises = rises-later (given_of clocks w event since replaced starts) listing.rises; exact = listing.exact }

-- Both kinds of starts rise.
pub rises-rule : (o : Option RuleStarts) → Rises moment_cmp (rule_left o)
rises-rule None = tt
rises-rule (Some s) = rises-to_come (clocks_in s.zones) s.event.now s.rule s.window (held_in s) (place_of s.cursor)

pub rises-listed : (s : ListedStarts) → Rises moment_cmp (listed_left s)
rises-listed s =
    rises-end moment_cmp moment_total (take s.gone s.starts.items) (listed_left s)
    (subst (Rises moment_cmp) (sym (take-append-drop s.gone s.starts.items)) s.rises)

-- What holds of some starts and what they give, where one of them goes.
pub rest-of : {P : Start → Type 0} {s : Start} {all rest : List Start} → all ≡ s ∷ rest → ((t : Start) → IsIn t all → P t) → (t : Start) → IsIn t rest → P t
rest-of e h t m = h t (rw e (inr m))

module _ (clocks : Clocks) (w : Window) (event : Event) where
  -- a start is the first of all that is left, and the rest stands behind it
  pub record IsFrontOf (t : Start) (all rest : List Start) : Type 0 where
    pub is : all ≡ t ∷ rest
    pub rises : Rises moment_cmp all
    pub timed : (s : Start) → IsIn s all → s.moment ≡ instant clocks (time_of s.given)

  rises-behind : (o : Option Entry) (es : List Entry) → Rises entry_cmp (cons_option o es) → Rises entry_cmp es
  rises-behind None es r = r
  rises-behind (Some e) es r = r.1

  pub rises-rest : (since : ℤ) (replaced : List ℤ) {s : Start} {all rest : List Start} → all ≡ s ∷ rest
      → Rises entry_cmp (given_of clocks w event since replaced all) → Rises entry_cmp (given_of clocks w event since replaced rest)
  rises-rest since replaced {s = s} {rest = rest} e r =
      rises-behind (wanted_by clocks w event since replaced s) (given_of clocks w event since replaced rest) (rw e at r)

-- Starts at an instant.
pub moment-in : (xs : List Start) (t : ℤ) → has_moment xs t ≡ true → (x : Start) × IsIn x xs × (x.moment ≡ t)
moment-in xs t e = let k = any-in (λ (s : Start). int_eq s.moment t) xs e in (k.0, k.1, equal-true k.0.moment t k.2)

pub in-moment : (x : Start) (t : ℤ) (xs : List Start) → x.moment ≡ t → IsIn x xs → has_moment xs t ≡ true
in-moment x t xs is m = in-any (λ (s : Start). int_eq s.moment t) x xs (true-equal x.moment t is) m

-- What goes before all that is left is not tied with what is still to come.
module _ (clocks : Clocks) (w : Window) (event : Event) (since : ℤ) (replaced : List ℤ) where
  begins-after : (t : Start) (rest : List Start) (o : Entry) → IsBefore moment_cmp t rest →
      ((s : Start) → IsIn s rest → s.moment ≡ instant clocks (time_of s.given)) → IsIn o (given_of clocks w event since replaced rest)
      → t.moment <ℤ o.start
  begins-after t rest o b timed m =
      let k = in-picked clocks event (is_wanted clocks w event since replaced) rest o m in
      let less = int-less t.moment k.start.moment (before-in moment_cmp moment_total t k.start rest b k.stands) in
      subst (λ x. t.moment <ℤ x) (timed k.start k.stands ∙ ap (λ (e : Entry). e.start) (sym k.is)) less

  in-behind : (o : Option Entry) (e : Entry) (es : List Entry) → IsIn e es → IsIn e (cons_option o es)
  in-behind None e es m = m
  in-behind (Some x) e es m = inr m

  pub ruled-rest : (a b : Option RuleStarts) {t : Start} {all rest : List Start} → HasSameRule a b → rule_left b ≡ cut moment_cmp t (rule_left a) →
      IsFrontOf clocks w event t all rest → HasRuled clocks event a (given_of clocks w event since replaced all)
      → HasRuled clocks event b (given_of clocks w event since replaced rest)
  ruled-rest None None same c front h = tt
  ruled-rest (Some a) (Some b) {t = t} {all = all} {rest = rest} same c front h = λ o m local k.
      let rises : Rises moment_cmp (t ∷ rest) = rw front.is at front.rises in
      let after = begins-after t rest o rises.0 (rest-of front.is front.timed) m in
      let there : IsIn o (given_of clocks w event since replaced all) =
      rw front.is (in-behind (wanted_by clocks w event since replaced t) o (given_of clocks w event since replaced rest) m) in
      let x = moment-in (starts_left a) o.start (h o there local k) in
      in-moment x.0 o.start (starts_left b) x.2
      (rw c (member-cut moment_cmp moment_total t x.0 (starts_left a)
      (λ tied. let same = tied-moment t x.0 tied in let is = x.2 in omega (arith, ints, after, same, is)) x.1))
  ruled-rest _ _ same c front h = absurd same

  -- such an occurrence begins at the instant of one of these starts, and not before that from which on they are given
  pub given-start : (starts : List Start) → ((s : Start) → IsIn s starts → s.moment ≡ instant clocks (time_of s.given)) → (o : Entry)
      → IsIn o (given_of clocks w event since replaced starts) → (since ≤ℤ o.start) × ((s : Start) × IsIn s starts × (s.moment ≡ o.start))
  given-start starts timed o m =
      let k = in-picked clocks event (is_wanted clocks w event since replaced) starts o m in
      let passes = and_parts (int_le since o.start) (is_met w o && not (is_left_out clocks event replaced o.start)) k.passes in (
        int_le_true since o.start passes.0,
        (k.start, k.stands, timed k.start k.stands ∙ ap (λ (e : Entry). e.start) (sym k.is)),
      )

  -- each occurrence that the starts of an event give is of it
  pub given-own : (starts : List Start) (e : Entry) → IsIn e (given_of clocks w event since replaced starts) → e.event ≡ event
  given-own starts e m = ap (λ (o : Entry). o.event) (in-picked clocks event (is_wanted clocks w event since replaced) starts e m).is

module _ (clocks : Clocks) (event : Event) where
  -- the same of the rule's starts, where there is one
  pub ruled-same : (a b : Option RuleStarts) {coming coming' : List Entry} → HasSameRule a b → rule_left b ≡ rule_left a → coming' ≡ coming →
      HasRuled clocks event a coming → HasRuled clocks event b coming'
  ruled-same None None same e f h = tt
  ruled-same (Some a) (Some b) same e f h = rw (e, f) h
  ruled-same _ _ same e f h = absurd same

  -- A rule has been read no further than three days past an occurrence that it gives and that is still to come.
  rule-near : (o : Option RuleStarts) (coming : List Entry) → HasRuled clocks event o coming → (e : Entry) → IsIn e coming →
      IsAskedNear clocks event (rule_asked o) e.start
  rule-near None coming ruled e m = tt
  rule-near (Some s) coming ruled e m = λ local k.
      let there = moment-in (starts_left s) e.start (ruled e m local k) in
      subst (λ t. (midnight s.asked -ℤ whole_days 3) ≤ℤ t) there.2 (left-near s there.0 there.1)

-- What is still to come is near.
pub series-near : (s : Series) (o : Entry) → IsIn o (series_of s (series_left s)) → series_near s o
series-near s o m = (
  given-own (clocks_in s.zones) s.window s.event.now s.since s.replaced (series_left s) o m,
  rule-near (clocks_in s.zones) s.event.now s.rule_starts (series_of s (series_left s)) s.ruled o m,
)

-- The starts of a series's rule stay those of its own rule.
module _ (zones : FileZones) (event : Event) (w : Window) where
  pub own-rule-same : (first : ℤ) (a b : Option RuleStarts) → HasSameRule a b → HasOwnRule zones event w first a → HasOwnRule zones event w first b
  own-rule-same first None None same h = h
  own-rule-same first (Some a) (Some b) same h = record {
    zones_are = same.zones ∙ h.zones_are;
    event_is = rw same.event h.event_is;
    window_is = same.window ∙ h.window_is;
    day = rw same.from h.day;
    late = rw same.from h.late;
    low = rw same.from h.low;
  }
  own-rule-same first _ _ same h = absurd same

-- the series with its rule read on, where the starts that are left stay the same
abbrev pub read : (s : Series) (rule : Option RuleStarts) → HasSameRule s.rule_starts rule → rule_left rule ≡ rule_left s.rule_starts → Series
read s rule same left = record s {
  rule_starts = rule;
  known = rw left s.known;
  ruled = ruled-same (clocks_in s.zones) s.event.now s.rule_starts rule same left
      (ap (λ xs. series_of s (union moment_cmp xs (listed_left s.listed))) left) s.ruled;
  own_rule = own-rule-same s.zones s.event.now s.window (first_of (clocks_in s.zones) s.window s.event.now s.since) s.rule_starts rule same s.own_rule;
  rising = rw left s.rising;
}

-- The starts still to come of a rule and of those that are known from the first, as one list.
not-greater-by : (a b : Start) → int_lt b.moment a.moment ≡ false → moment_cmp a b ≡ Greater → ⊥
not-greater-by a b e g = grind (arith, ints)

-- the first of two starts; if both are at one instant, the first of them
abbrev pub earlier : Option Start → Option Start → Option Start
earlier None listed = listed
earlier (Some a) None = Some a
earlier (Some a) (Some b) = if int_lt b.moment a.moment then Some b else Some a

first-of : (xs ys : List Start) → Rises moment_cmp xs → Rises moment_cmp ys → IsFirstOf (earlier (slice_get xs 0) (slice_get ys 0)) xs ys
first-of [] [] r k = refl
first-of [] (y ∷ ys) r k = begins-second moment_cmp moment_total y [] ys tt
first-of (x ∷ xs) [] r k = begins-first moment_cmp moment_total x xs [] r tt
first-of (x ∷ xs) (y ∷ ys) r k =
    cond_both (int_lt y.moment x.moment) (Some y) (Some x) (λ o. IsFirstOf o (x ∷ xs) (y ∷ ys))
    (λ t.
    let less = less-start y x (int_lt_true y.moment x.moment t) in
    begins-second moment_cmp moment_total y (x ∷ xs) ys (less, before-trans moment_cmp moment_total y x xs less r.0))
    (λ f. begins-first moment_cmp moment_total x xs (y ∷ ys) r (not-after-front moment_cmp moment_total x y ys (not-greater-by x y f) k))

-- of the first of both kinds the earlier one is the first
module _ {ruled listed first : Option Start} (is : earlier ruled listed ≡ first) where
  pub first-by : (xs ys : List Start) → Rises moment_cmp xs → Rises moment_cmp ys → ruled ≡ slice_get xs 0 → listed ≡ slice_get ys 0 → IsFirstOf first xs ys
  first-by xs ys r k e f = subst (λ o. IsFirstOf o xs ys) ((λ i. earlier (sym e i) (sym f i)) ∙ is) (first-of xs ys r k)

pub none-in : (xs : List Start) → length xs ≡ 0 → (s : Start) → IsIn s xs → ⊥
none-in [] e s m = m
none-in (x ∷ xs) e s m = absurd cc

-- Which lists have a start at an instant by a source or an earlier one.
pub put-has : (x : Start) (ys : List Start) (source : StartSource) (t : ℤ) → IsNotAfter x.source source → HasStart ys source t →
    HasStart (put moment_cmp x ys) source t
put-has x ys source t early h =
    ⊎_elim
    (λ m. record { start = h.start; stands = m; same = h.same; earlier = h.earlier })
    (λ tied. record { start = x; stands = itself-put moment_cmp moment_total x ys; same = tied-moment x h.start tied ∙ h.same; earlier = early })
    (member-put moment_cmp moment_total h.start x ys h.stands)

pub union-has : (xs ys : List Start) (source : StartSource) (t : ℤ) → ((x : Start) → IsIn x xs → IsNotAfter x.source source) → HasStart ys source t →
    HasStart (union moment_cmp xs ys) source t
union-has [] ys source t early h = h
union-has (x ∷ xs) ys source t early h = put-has x (union moment_cmp xs ys) source t (early x (inl refl)) (union-has xs ys source t (λ y m. early y (inr m)) h)

pub has-union : (xs ys : List Start) (source : StartSource) (t : ℤ) → Rises moment_cmp xs → HasStart xs source t → HasStart (union moment_cmp xs ys) source t
has-union xs ys source t r h = record {
  start = h.start;
  stands = in-union moment_cmp moment_total h.start xs ys r (inl h.stands);
  same = h.same;
  earlier = h.earlier;
}
