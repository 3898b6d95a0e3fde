-- What the feeds of some masters hold together is at most what these masters may hold, and a series has looked at so many periods of its rule at most.
use Rattle.std.proofs.Common.{inl, inr}
use Rattle.std.proofs.Common.{◌≡◌, ℕ, ◌+◌, ◌≤◌, ℤ, List, [], ◌∷◌, ◌++◌, cond, length, map, Option, Some, None, refl, sym, ◌∙◌, ap, arith, ◌+ℤ◌, true, false}
use Rattle.std.proofs.Common.{⊎_elim, sum_by, ◌≤ℤ◌, sum, length-append, nat_cmp, ◌&&◌, ◌==◌, nat_le}
use Rattle.std.specs.List.{flat_map, AllByRecursion}
use Rattle.std.proofs.lemmas.List.{length-map}
use Rattle.std.proofs.lemmas.List.Sums.{sum-map, sum_by-append, sum_by-cons}
use Rattle.std.proofs.lemmas.Simd.{map-map}
use Rattle.ics_event.specs.declared.event.Event.{Event}
use Rattle.ics_listing.specs.declared.occurrence.Occurrence.{Occurrence}
use Rattle.ics_series.specs.declared.part.Part.{Part}
use Rattle.ics_series.specs.declared.part.Part.TheVariants.{Singles, Series}
use Rattle.ics_starts.specs.declared.rule_starts.RuleStarts.{RuleStarts}
use Rattle.ics_starts.specs.declared.series.Series.{Series as SeriesFeed}
use Rattle.ics_listing.specs.declared.window.Window.{Window}
use Rattle.ics_starts.specs.declared.zones.FileZones.{FileZones}
use Rattle.ics_listing.specs.Entry.{Entry, entry_cmp}
use Rattle.ics_series.specs.HeldMost.{held_most, Master}
use Rattle.ics_starts.specs.RawStarts.{most_in_days}
use Rattle.ics_series.specs.Holding.{part_holds, part_looked}
use Rattle.ics_starts.specs.RuleHolding.{rule_held, series_holds, rule_looked}
use Rattle.ics_listing.specs.Leads.{listed, AreNear}
use Rattle.ics_starts.specs.Meeting.{entry_from}
use Rattle.ics_series.specs.AgendaParts.{part_sources, part_near}
use Rattle.ics_starts.specs.SeriesStarts.{first_of, HasOwnRule, rule_asked, IsAskedNear}
use Rattle.ics_series.specs.Sources.{is_once, master_of, recurring, AreApart, uid_cmp}
use Rattle.ics_listing.specs.FeedSources.{Recurring, Source}
use Rattle.ics_listing.specs.FeedSources.Source.{Of, Once}
use Rattle.ics_starts.specs.FileZones.{clocks_in}
use Rattle.ics_starts.proofs.RuleStepLemmas.{few-held, asked-number}
use Rattle.std.specs.Cmp.Lexicographic.{slice_cmp}
use Rattle.std.proofs.lemmas.Cmp.{nat_list_cmp_total}
use Rattle.std.proofs.lemmas.Int.{ints}
use Rattle.ics_rule.specs.Cursors.{looks_from, is_met, period_count}
use Rattle.ics_fields.specs.Locals.{local_seconds, number, midnight, whole_days, calendar_end}
use Rattle.ics_rule.proofs.CursorLemmas.{few_steps, count_within}
use Rattle.ics_listing.specs.Inner.EntryLaws.{entry_total}
use Rattle.ics_starts.specs.Leeway.{seconds_off}
use Rattle.ics_listing.specs.Listing.{IsIn}
use Rattle.ics_listing.specs.Merged.{merged}
use Rattle.ics_listing.specs.Rising.{Rises}
use Rattle.ics_starts.specs.RuleStarts.{ends_at, midnight_number}
use Rattle.ics_starts.specs.SingleEvents.{is_single}
use Rattle.ics_listing.specs.StartTimes.{local_of}
use Rattle.ics_starts.specs.Starts.{recurrence_of}
use Rattle.ics_series.specs.Steps.{HasStepBound}
use Rattle.ics_listing.proofs.StartOrderLemmas.{number-seconds}
use Rattle.ics_listing.proofs.ListingLemmas.{not-less-itself, all-as, in-all}
use Rattle.ics_listing.proofs.UnionLemmas.{from-one, IsInOne, merged-in}
use Rattle.std.proofs.lemmas.Bool.Decides.{nat_tests}
use Rattle.std.proofs.lemmas.Bool.{ltb-true, and_from, lt-ltb}
use Rattle.ics_period.specs.Candidates.{is_stepped, period_in}
use Rattle.ics_period.specs.EffectiveRules.{effective}
use Rattle.ics_period.specs.Ranks.{count}
use Rattle.ics_rule.specs.Kept.{until_moment}
use Rattle.ics_period.specs.Recurrence.{Recurrence}
use Rattle.ics_period.proofs.Counts.{count_mono}
use Rattle.ics_period.proofs.Tests.{and_true}

-- More locals lie in no fewer periods.
le-down : (a b m : ℕ) → b ≤ a → nat_le a m ≡ true → nat_le b m ≡ true
le-down a b m l e = grind (arith, nat_tests)

-- the periods that hold one of these locals are no more than those that hold one of more
pub periods-within : (r : Recurrence) {a b c d : ℕ} → c ≤ a → b ≤ d → period_count r a b ≤ period_count r c d
unfolding period_count
periods-within r {a = a} {b = b} {c = c} {d = d} low high =
    count_within calendar_end (is_met (effective r) (number r.start) a b) (is_met (effective r) (number r.start) c d)
    (λ p below met.
    let parts = and_true {a = is_stepped (period_in (effective r) (number r.start)) (effective r).interval p} met in
    let held = λ (from n : ℕ). nat_le from n && period_in (effective r) n == p in
    let some = ltb-true 0 (count b (held a)) parts.1 in
    let more = count_mono b d (held a) high in
    let wide = count_within d (held a) (held c)
    (λ n l e. let k = and_true {a = nat_le a n} e in and_from (nat_le c n) (period_in (effective r) n == p) (le-down a c n low k.0) k.1) in
    and_from (is_stepped (period_in (effective r) (number r.start)) (effective r).interval p) _ parts.0
    (lt-ltb 0 (count d (held c)) (omega (arith, some, more, wide))))

rule-few : (zones : FileZones) (event : Event) (w : Window) (first : ℤ) (o : Option RuleStarts) → HasOwnRule zones event w first o →
    length (rule_held o) ≤ most_in_days (clocks_in zones) event
rule-few zones event w first None h = omega arith
rule-few zones event w first (Some s) h =
    let same : most_in_days (clocks_in s.zones) s.event.now ≡ most_in_days (clocks_in zones) event =
    λ i. most_in_days (clocks_in (h.zones_are i)) (h.event_is i) in
    omega (arith, few-held s, same)

-- a series holds no more than its event has starts in any five days
pub series-few : (s : SeriesFeed) → length (series_holds s) ≤ most_in_days (clocks_in s.zones) s.event.now
series-few s =
    let few = rule-few s.zones s.event.now s.window (first_of (clocks_in s.zones) s.window s.event.now s.since) s.rule_starts s.own_rule in
    omega (arith, length-map (rule_held s.rule_starts) (λ start. entry_from (clocks_in s.zones) s.event.now start.given), few)

one-drawn : (head : Option Occurrence) (es : List Entry) → length (listed head es) ≤ 1 + length es
one-drawn None es = omega arith
one-drawn (Some o) es = omega arith

-- What masters may hold and do adds up over the sources of parts.
pub recurring-append : (xs ys : List Source) → recurring (xs ++ ys) ≡ recurring xs ++ recurring ys
recurring-append [] ys = refl
recurring-append (Once ∷ xs) ys = recurring-append xs ys
recurring-append (Of m ∷ xs) ys = ap (λ ms. m ∷ ms) (recurring-append xs ys)

pub sum_by-map : {A B : Type 0} (f : B → ℕ) (g : A → B) (xs : List A) → sum_by f (map g xs) ≡ sum_by (λ x. f (g x)) xs
sum_by-map f g xs = sym (sum-map f (map g xs)) ∙ (ap sum (map-map f g xs) ∙ sum-map (λ x. f (g x)) xs)

abbrev most_of : Recurring → ℕ
most_of m = 2 + most_in_days m.clocks m.event

abbrev once : Source → ℕ
once s = cond (is_once s) 1 0

abbrev pub master_in : SeriesFeed → Recurring
master_in s = record { clocks = clocks_in s.zones; event = s.event.now; window = s.window; since = s.since; replaced = s.replaced }

lead-few : (head : Option Occurrence) (p : Part) →
    length (listed head (part_holds p)) ≤ sum_by once (part_sources p) + sum_by most_of (recurring (part_sources p))
lead-few head (Singles s) = omega (arith, one-drawn head [], sum_by-cons once Once [])
lead-few head (Series s) =
    let inner = s.series.value.series in
    omega (arith, one-drawn head (series_holds inner), series-few inner, sum_by-cons most_of (master_in inner) [])

abbrev pub sources_in : {X : Type 0} → (X → Part) → List X → List Source
sources_in part xs = flat_map (λ x. part_sources (part x)) xs

-- Leads, each with what is drawn of its part and the part.
module _ {X : Type 0} (head : X → Option Occurrence) (part : X → Part) where
  abbrev held_by : List X → List Entry
  held_by xs = flat_map (λ x. listed (head x) (part_holds (part x))) xs

  leads-few : (xs : List X) → length (held_by xs) ≤ sum_by once (sources_in part xs) + sum_by most_of (recurring (sources_in part xs))
  leads-few [] = omega arith
  leads-few (x ∷ xs) =
      let own = part_sources (part x) in
      let long = length-append (listed (head x) (part_holds (part x))) (held_by xs) in
      let more = sources_in part xs in
      let sums = ap (sum_by most_of) (recurring-append own more) ∙ sum_by-append most_of (recurring own) (recurring more) in
      omega (arith, long, sums, sum_by-append once own more, lead-few (head x) (part x), leads-few xs)

  -- of which one at most is of the events that start once, and one more that was given last
  pub held-with-last : (last : Option Occurrence) (xs : List X) → AreApart (sources_in part xs) →
      length (listed last (held_by xs)) ≤ held_most (map master_of (recurring (sources_in part xs)))
  unfolding held_most
  held-with-last last xs apart =
      let most = sum_by-map (λ (m : Master). 2 + most_in_days m.clocks m.event) master_of (recurring (sources_in part xs)) in
      omega (arith, one-drawn last (held_by xs), leads-few xs, apart.0, most)

looks-earlier : (o : Option ℕ) (start a place : ℕ) → a ≤ place → looks_from o start a ≤ looks_from o start place
looks-earlier None start a place l = l
looks-earlier (Some c) start a place l = omega arith

abbrev pub InOne : Entry → List (List Entry) → Type 0
InOne e lists = IsInOne entry_cmp entry_total e lists

-- its rule is read near an occurrence of it that begins at its instant or later
abbrev IsReadNear : SeriesFeed → Option RuleStarts → Entry → Type 0
IsReadNear s rule e = e.event ≡ s.event.now → s.since ≤ℤ e.start → IsAskedNear (clocks_in s.zones) s.event.now (rule_asked rule) e.start

-- A series whose rule has been read no further than its occurrences still to come ask.
series-most : (s : SeriesFeed) (coming : List Entry) (most : ℕ) → ((e : Entry) → IsIn e coming → IsReadNear s s.rule_starts e)
    → HasStepBound (master_in s) coming most → rule_looked s.rule_starts ≤ most
series-most s coming most near bound = by s.rule_starts s.own_rule near
  where
    by : (o : Option RuleStarts) → HasOwnRule s.zones s.event.now s.window (first_of (clocks_in s.zones) s.window s.event.now s.since) o
        → ((e : Entry) → IsIn e coming → IsReadNear s o e) → rule_looked o ≤ most
    by None own near = omega arith
    by (Some r) own near =
        let p = bound r.rule (sym (ap recurrence_of own.event_is) ∙ r.rule_of.of) in
        let ends = λ (w : Window) (v : Event). ends_at w (until_moment r.rule) (local_seconds (local_of v.start.stamp)) in
        let off = λ (v : Event). seconds_off v.start.stamp in
        let end : midnight r.asked ≤ℤ (ends r.window r.event.now +ℤ (off r.event.now +ℤ whole_days 1)) =
        omega (arith, ints, r.reached.by_end, r.rule_of.soon) in
        let off-is : off r.event.now ≡ off s.event.now = ap off own.event_is in
        let to-is : ends r.window r.event.now ≡ ends s.window s.event.now = λ i. ends (own.window_is i) (own.event_is i) in
        let high : midnight_number r.asked ≤ p.b = ⊎_elim
        (λ past. omega (arith, ints, asked-number r, end, to-is, off-is, past))
        (λ o. let close = near o.occurrence o.stands o.of o.from o.local o.kept in omega (arith, ints, asked-number r, close, o.past)) p.to in
        let low : p.a ≤ number r.from = omega (arith, ints, p.from, own.late, number-seconds r.from own.day) in
        let steps = few_steps r.rule r.cursor (looks_from r.rule.parts.count (number r.rule.start) (number r.from)) (midnight_number r.asked) r.own
        (r.looked (midnight_number r.asked) (omega arith)) in
        let within = periods-within r.rule (looks-earlier r.rule.parts.count (number r.rule.start) p.a (number r.from) low) high in
        omega (arith, steps, within, p.count)

-- Parts, of which one at most is of the events that start once, and the masters of the others have UIDs of their own.
abbrev IsOfPart : Part → Entry → Type 0
IsOfPart (Singles s) e = is_single e.event ≡ true
IsOfPart (Series s) e = e.event ≡ s.series.value.series.event.now

pub not-single : (e : Entry) (event : Event) → e.event ≡ event → is_single e.event ≡ true → is_single event ≡ false → ⊥
not-single e event p s r = let no : true ≡ false = sym s ∙ (ap is_single p ∙ r) in absurd cc

-- what is near to a part is of it
of-near : (p : Part) (e : Entry) → part_near p e → IsOfPart p e
of-near (Singles s) e h = h
of-near (Series s) e h = h.0

-- an entry of two parts is near to both
abbrev AreBoth : Entry → Part → Part → Type 0
AreBoth e p q = IsOfPart p e → IsOfPart q e → part_near p e × part_near q e

-- the masters recur, each with a UID of its own
abbrev AreOwn : List Source → Type 0
AreOwn sources = AllByRecursion (λ m. is_single m.event ≡ false) (recurring sources) × Rises uid_cmp (recurring sources)

both-near : (e : Entry) (p q : Part) (more : List Source) → AreOwn (part_sources p ++ (part_sources q ++ more)) → AreBoth e p q
both-near e (Singles s) (Singles t) more own a b = (a, b)
both-near e (Singles s) (Series t) more own a b = absurd (not-single e t.series.value.series.event.now b a own.0.0)
both-near e (Series s) (Singles t) more own a b = absurd (not-single e s.series.value.series.event.now a b own.0.0)
both-near e (Series s) (Series t) more own a b =
    let uid = s.series.value.series.event.now.uid in
    absurd (not-less-itself (slice_cmp nat_cmp) nat_list_cmp_total uid (ap (λ (v : Event). slice_cmp nat_cmp uid v.uid) (sym a ∙ b) ∙ own.1.0.0))

own-rest : (p : Part) (more : List Source) → AreOwn (part_sources p ++ more) → AreOwn more
own-rest (Singles s) more own = own
own-rest (Series s) more own = (own.0.1, own.1.1)

own-without : (p q : Part) (more : List Source) → AreOwn (part_sources p ++ (part_sources q ++ more)) → AreOwn (part_sources p ++ more)
own-without (Series s) (Series t) more own = ((own.0.0, own.0.1.1), (own.1.0.1, own.1.1.1))
own-without (Singles s) q more own = own-rest q more own
own-without (Series s) (Singles t) more own = own

module _ {X : Type 0} (part : X → Part) (lists : X → List Entry) where
  abbrev IsNearOf : Entry → X → Type 0
  IsNearOf e x = IsOfPart (part x) e → part_near (part x) e

  abbrev AllNear : List X → Type 0
  AllNear xs = AllByRecursion (λ x. AreNear (part_near (part x)) (lists x)) xs

  module _ (e : Entry) where
    all-both : (p : Part) (ys : List X) → AreOwn (part_sources p ++ sources_in part ys) → AllByRecursion (λ y. AreBoth e p (part y)) ys
    all-both p [] own = tt
    all-both p (y ∷ ys) own = (both-near e p (part y) (sources_in part ys) own, all-both p ys (own-without p (part y) (sources_in part ys) own))

    -- what stands in a list behind
    near-ahead : (p : Part) (ys : List X) → AllByRecursion (λ y. AreBoth e p (part y)) ys → AllNear ys → InOne e (map lists ys) → IsOfPart p e → part_near p e
    near-ahead p [] both near k of = absurd k
    near-ahead p (y ∷ ys) both near k of =
        ⊎_elim (λ here. (both.0 of (of-near (part y) e (near.0 e here))).0) (λ there. near-ahead p ys both.1 near.1 there of) k

    -- so that what stands in one of the lists is near to the part that it is of
    own-near : (xs : List X) → AreOwn (sources_in part xs) → AllNear xs → InOne e (map lists xs) → AllByRecursion (IsNearOf e) xs
    own-near [] own near k = tt
    own-near (x ∷ xs) own near k =
        let both = all-both (part x) xs own in
        ⊎_elim
        (λ here. (
          λ of. near.0 e here,
          all-as (λ y. AreBoth e (part x) (part y)) (IsNearOf e) xs (λ y b of. (b (of-near (part x) e (near.0 e here)) of).1) both,
        ))
        (λ there. (near-ahead (part x) xs both near.1 there, own-near xs (own-rest (part x) (sources_in part xs) own) near.1 there))
        k

  module _ (coming : List Entry) (most : Recurring → ℕ) where
    abbrev AreBound : List Source → Type 0
    AreBound sources = AllByRecursion (λ m. HasStepBound m coming (most m)) (recurring sources)

    each-most : (xs : List X) → ((e : Entry) → IsIn e coming → AllByRecursion (IsNearOf e) xs) → AreBound (sources_in part xs)
        → sum_by (λ x. part_looked (part x)) xs ≤ sum_by most (recurring (sources_in part xs))
    each-most [] near bound = omega arith
    each-most (x ∷ xs) near bound =
        omega (arith, sum_by-cons (λ y. part_looked (part y)) x xs, by (part x) (λ e m. (near e m).0) bound (each-most xs (λ e m. (near e m).1)))
      where
        by : (p : Part) → ((e : Entry) → IsIn e coming → IsOfPart p e → part_near p e) → AreBound (part_sources p ++ sources_in part xs) →
            (AreBound (sources_in part xs) → sum_by (λ y. part_looked (part y)) xs ≤ sum_by most (recurring (sources_in part xs)))
            → part_looked p + sum_by (λ y. part_looked (part y)) xs ≤ sum_by most (recurring (part_sources p ++ sources_in part xs))
        by (Singles s) near bound rest = omega (arith, rest bound)
        by (Series s) near bound rest =
            let inner = s.series.value.series in
            let own = series-most inner coming (most (master_in inner)) (λ e m of from. (near e m of).1 from) bound.0 in
            omega (arith, own, sum_by-cons most (master_in inner) (recurring (sources_in part xs)), rest bound.1)

  -- Parts have together looked at no more periods than each of their masters may.
  pub steps-of-leads : (most : Recurring → ℕ) (xs : List X) → AreApart (sources_in part xs) → AllNear xs →
      ((m : Recurring) → IsIn m (recurring (sources_in part xs)) → HasStepBound m (merged entry_cmp (map lists xs)) (most m))
      → sum_by (λ x. part_looked (part x)) xs ≤ sum_by most (recurring (sources_in part xs))
  steps-of-leads most xs apart near bound =
      let coming = merged entry_cmp (map lists xs) in
      each-most coming most xs (λ e m.
      own-near e xs apart.1 near (from-one entry_cmp entry_total e (map lists xs) (merged-in entry_cmp entry_total e (map lists xs) m)))
      (in-all (λ m. HasStepBound m (merged entry_cmp (map lists xs)) (most m)) (recurring (sources_in part xs)) bound)

-- what bounds the periods for some that is to come does so for more
pub wider-bound : (m : Recurring) {xs ys : List Entry} {most : ℕ} → ((e : Entry) → IsIn e xs → IsIn e ys) → HasStepBound m xs most → HasStepBound m ys most
wider-bound m f bound rule has =
    let p = bound rule has in record {
      a = p.a;
      from = p.from;
      b = p.b;
      to = ⊎_elim inl
          (λ q. inr (record {
            occurrence = q.occurrence;
            stands = f q.occurrence q.stands;
            of = q.of;
            from = q.from;
            local = q.local;
            kept = q.kept;
            past = q.past;
          })) p.to;
      count = p.count;
    }
