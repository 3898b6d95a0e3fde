-- The versions whose events recur, one after the other: their lists, and their masters.
use Rattle.std.specs.List.{flat_map, AllByRecursion}
use Rattle.std.specs.Cmp.{IsTotalOrder}
use Rattle.std.specs.Cmp.Lexicographic.{slice_cmp}
use Rattle.std.specs.Int.{saturate_signed, w64}
use Rattle.std.specs.Ordering.{on, ordering_then}
use Rattle.std.proofs.Common.{◌≡◌, ℕ, suc, ◌+◌, ◌≤◌, ℤ, pos, ◌+ℤ◌, false, cond, List, [], ◌∷◌, ◌++◌, map, length, drop, take, inl, inr, ⊎_elim, Option, Some}
use Rattle.std.proofs.Common.{None}
use Rattle.std.proofs.Common.{refl, sym, ◌∙◌, ap, subst, arith, ◌≤ℤ◌, count_by, slice_get, nat_cmp, Ordering, Less, Equal, SFits, get_or, add-one}
use Rattle.std.proofs.lemmas.Cmp.{on_total}
use Rattle.std.proofs.lemmas.Int.{ints}
use Rattle.std.proofs.lemmas.List.{append_assoc, map-append, take-append-drop, take_all}
use Rattle.std.proofs.lemmas.List.Sums.{sum_by-cons}
use Rattle.ics_file.specs.File.{FileSaid}
use Rattle.ics_event.specs.declared.event.Event.{Event}
use Rattle.ics_series.specs.declared.part.Part.{Part}
use Rattle.ics_series.specs.declared.singles.Singles as single
use Rattle.ics_series.specs.declared.version.Version.{Version}
use Rattle.ics_series.specs.AgendaParts.{part_sources, IsFirstPart}
use Rattle.ics_listing.specs.declared.window.Window.{Window}
use Rattle.ics_listing.specs.FileClocks.{Clock}
use Rattle.ics_listing.specs.Entry.{Rank, Entry, entry_cmp}
use Rattle.ics_listing.specs.Listing.{IsIn, IsListing}
use Rattle.ics_series.specs.Replaced.{AreReplaced}
use Rattle.ics_series.specs.Inner.Masters.{HasSources, IsSource, IsSourceOf, Recurs, HasLists, IsOfVersion, IsOneOf}
use Rattle.ics_listing.specs.Rising.{Rises}
use Rattle.ics_starts.specs.SingleEvents.{is_single}
use Rattle.ics_series.specs.Sources.{is_once, recurring, uid_cmp, AreSources, IsFrom, IsMasterOf}
use Rattle.ics_listing.specs.FeedSources.{Recurring, Source}
use Rattle.ics_listing.specs.FeedSources.Source.{Of, Once}
use Rattle.ics_series.specs.Versions.{seen, subject_cmp, AreChosen, Label}
use Rattle.ics_listing.proofs.LeadLemmas.{all-pushed}
use Rattle.ics_listing.proofs.ListingLemmas.{front-before, split-at, all-as, all-in, get-in, in-append_left, in-append_right, in-append}
use Rattle.ics_series.proofs.OverrideLemmas.{chosen-rises}
use Rattle.ics_series.proofs.RecurringLemmas.{own-clocks, own-event, own-master, own-subject, own}
use Rattle.ics_series.proofs.VersionLemmas.{map-in, subject_total}
use Rattle.ics_starts.proofs.JoinedLemmas.{rises-append}
use Rattle.std.proofs.Math.Seq.{take-suc}
use Rattle.std.proofs.lemmas.Option.{get_or_from_slice_get, slice_get_within}

-- The lists of the versions whose events recur, one version after the other.
-- the first so many versions, and one more
pub taken : (vs : List Version) (i : ℕ) {v : Version} → slice_get vs i ≡ Some v → map seen (take i vs) ++ seen v ∷ [] ≡ map seen (take (i + 1) vs)
taken vs i {v = v} there =
    ap (λ (x : Version). map seen (take i vs) ++ seen x ∷ []) (sym (get_or_from_slice_get vs i v v there))
    ∙ sym (ap (λ n. map seen (take n vs)) (add-one i)
    ∙ (ap (map seen) (take-suc vs i v (slice_get_within vs i v there)) ∙ map-append seen (take i vs) (get_or vs i v ∷ [])))

module _ {files : List FileSaid} {display : Clock} {w : Window} {after : Option Rank} where
  wider-list : (labels : List Label) (l : Label) (list : List Entry) →
      IsOneOf files display w after labels list → IsOneOf files display w after (labels ++ l ∷ []) list
  wider-list labels l list h = record { label = h.label; stands = in-append_left h.label labels (l ∷ []) h.stands; listing = h.listing }

  module _ (vs : List Version) (i : ℕ) where
    -- a version whose event does not recur has none
    pub versions-skip : {v : Version} {before now new : List (List Entry)} → slice_get vs i ≡ Some v →
        HasLists files display w after (map seen (take i vs)) before now
        → (Recurs files (seen v) → ⊥) → new ≡ now → HasLists files display w after (map seen (take (i + 1) vs)) before new
    versions-skip {v = v} there h n e =
        let labels = map seen (take i vs) in
        rw (← taken vs i there)
        (record {
          more = h.more;
          are = record {
            each = all-as (IsOneOf files display w after labels) (IsOneOf files display w after (labels ++ seen v ∷ [])) h.more
                (wider-list labels (seen v)) h.are.each;
            every = λ k m r. ⊎_elim (λ a. h.are.every k a r) (⊎_elim (λ e. absurd (n (rw e at r))) (λ b. absurd b)) (in-append k labels (seen v ∷ []) m);
          };
          behind = e ∙ h.behind;
        })

    -- nor is that of a version there which has nothing
    pub versions-none : {v : Version} {before now new : List (List Entry)} → slice_get vs i ≡ Some v →
        HasLists files display w after (map seen (take i vs)) before now
        → ((o : Entry) → IsOfVersion files display w after (seen v) o → ⊥) → new ≡ now → HasLists files display w after (map seen (take (i + 1) vs)) before new
    versions-none {v = v} there h n e =
        let labels = map seen (take i vs) in
        rw (← taken vs i there)
        (record {
          more = h.more;
          are = record {
            each = all-as (IsOneOf files display w after labels) (IsOneOf files display w after (labels ++ seen v ∷ [])) h.more
                (wider-list labels (seen v)) h.are.each;
            every = λ k m r.
                ⊎_elim (λ a. h.are.every k a r)
                (⊎_elim
                (λ q. record { list = []; stands = inl refl; listing = record { rises = tt; exact = λ o. (λ x. absurd x, λ x. absurd (n o (rw q at x))) } })
                (λ b. absurd b))
                (in-append k labels (seen v ∷ []) m);
          };
          behind = e ∙ h.behind;
        })

    -- the list of a version stands behind those of the versions before it
    pub versions-more : {v : Version} {list : List Entry} {before now new : List (List Entry)} → slice_get vs i ≡ Some v →
        HasLists files display w after (map seen (take i vs)) before now → IsListing entry_cmp (IsOfVersion files display w after (seen v)) list
        → new ≡ now ++ list ∷ [] → HasLists files display w after (map seen (take (i + 1) vs)) before new
    versions-more {v = v} {list = list} {before = before} there h k e =
        let labels = map seen (take i vs) in
        rw (← taken vs i there)
        (record {
          more = h.more ++ list ∷ [];
          are = record {
            each = all-pushed (IsOneOf files display w after (labels ++ seen v ∷ [])) h.more list
                (all-as (IsOneOf files display w after labels) (IsOneOf files display w after (labels ++ seen v ∷ [])) h.more
                (wider-list labels (seen v)) h.are.each)
                (record { label = seen v; stands = in-append_right (seen v) labels (seen v ∷ []) (inl refl); listing = k });
            every = λ x m r.
                ⊎_elim
                (λ a. let s = h.are.every x a r in
                record { list = s.list; stands = ⊎_elim inl (λ n. inr (in-append_left s.list h.more (list ∷ []) n)) s.stands; listing = s.listing })
                (⊎_elim (λ q. record { list = list; stands = inr (in-append_right list h.more (list ∷ []) (inl refl)); listing = rw q k }) (λ b. absurd b))
                (in-append x labels (seen v ∷ []) m);
          };
          behind = e ∙ (ap (λ xs. xs ++ list ∷ []) h.behind ∙ append_assoc before h.more (list ∷ []));
        })

    pub versions-all : {before now : List (List Entry)} → length vs ≤ i → HasLists files display w after (map seen (take i vs)) before now →
        HasLists files display w after (map seen vs) before now
    versions-all {before = before} {now = now} l h = subst (λ xs. HasLists files display w after (map seen xs) before now) (take_all i vs l) h

-- The masters that recur among them, one after the other. Those that stand before a place come before what stands there
module _ {A B : Type 0} (R : B → B → Ordering) (o : IsTotalOrder R) (f : A → B) where
  before-at : (xs : List A) (i : ℕ) {v : A} (y : B) → slice_get xs i ≡ Some v → Rises R (map f xs) → IsIn y (map f (take i xs)) → R y (f v) ≡ Less
  before-at xs i {v = v} y e r m =
      front-before R o (map f (take i xs)) (map f (drop (suc i) xs))
      (subst (Rises R) (ap (map f) (split-at xs i e) ∙ map-append f (take i xs) (v ∷ drop (suc i) xs)) r) m

then-none : (c : Ordering) → ordering_then c Equal ≡ c
then-none Less = refl
then-none _ = refl

-- what comes by a key does not begin before it
pub from-next : (key : Rank) (t : ℤ) → t ≡ saturate_signed w64 (key.start +ℤ pos 1) → SFits w64 key.start → key.start ≤ℤ t
from-next key t e fits = by key.start e fits
  where
    by : (a : ℤ) → t ≡ saturate_signed w64 (a +ℤ pos 1) → SFits w64 a → a ≤ℤ t
    by (pos n) e f = grind (arith, ints)
    by _ e f = grind (arith, ints)

-- nor does what begins later
pub from-later : (after : Option Rank) {since least : ℤ} → IsFrom after since → since ≤ℤ least → IsFrom after least
from-later None is late = tt
from-later (Some key) is late = omega (arith, ints, is, late)

in-taken : (vs : List Version) (i : ℕ) (l : Label) → IsIn l (map seen (take i vs)) → IsIn l (map seen vs)
in-taken vs i l m =
    subst (IsIn l) (sym (map-append seen (take i vs) (drop i vs)) ∙ ap (map seen) (take-append-drop i vs))
    (in-append_left l (map seen (take i vs)) (map seen (drop i vs)) m)

recurring-of : (ms : List Recurring) → recurring (map Of ms) ≡ ms
recurring-of [] = refl
recurring-of (m ∷ ms) = ap (λ xs. m ∷ xs) (recurring-of ms)

none-once : (ms : List Recurring) → count_by is_once (map Of ms) ≡ 0
none-once [] = refl
none-once (m ∷ ms) = none-once ms

module _ {files : List FileSaid} {display : Clock} {w : Window} {after : Option Rank} where
  abbrev recurs-of : (label : Label) (m : Recurring) → IsSourceOf files display w after label m → Recurs files label
  recurs-of label m h = record { event = m.event; stands = h.stands; recurs = h.recurs }

  wider : (labels : List Label) (l : Label) (m : Recurring) → IsSource files display w after labels m → IsSource files display w after (labels ++ l ∷ []) m
  wider labels l m h = record { label = h.label; stands = in-append_left h.label labels (l ∷ []) h.stands; is = h.is }

  module _ {vs : List Version} (chosen : AreChosen files display vs) where
    subject-of : (label : Label) → IsIn label (map seen vs) → (m : Recurring) → IsSourceOf files display w after label m →
        label.subject ≡ record { uid = m.event.uid; recurrence = None }
    subject-of label there m h = own-subject chosen there (recurs-of label m h)

    earlier : (i : ℕ) {v : Version} (m n : Recurring) → slice_get vs i ≡ Some v → IsSource files display w after (map seen (take i vs)) m →
        IsSourceOf files display w after (seen v) n → uid_cmp m n ≡ Less
    earlier i {v = v} m n there h k =
        let before = before-at (on (λ (x : Label). x.subject) subject_cmp) (on_total (λ (x : Label). x.subject) subject_total) seen vs i h.label there
        (chosen-rises chosen) h.stands in
        let one = subject-of h.label (in-taken vs i h.label h.stands) m h.is in
        let other = subject-of (seen v) (map-in seen v vs (get-in v vs i there)) n k in
        -- masters are ordered by their UIDs
        sym (then-none (slice_cmp nat_cmp m.event.uid n.event.uid)) ∙ (rw (one, other) at before)

    pub sources-more : (i : ℕ) {v : Version} {m : Recurring} {before now new : List Source} → slice_get vs i ≡ Some v →
        HasSources files display w after (map seen (take i vs)) before now → IsSourceOf files display w after (seen v) m
        → new ≡ now ++ Of m ∷ [] → HasSources files display w after (map seen (take (i + 1) vs)) before new
    sources-more i {v = v} {m = m} {before = before} there h k e =
        let labels = map seen (take i vs) in
        rw (← taken vs i there)
        (record {
          more = h.more ++ m ∷ [];
          each = all-pushed (IsSource files display w after (labels ++ seen v ∷ [])) h.more m
              (all-as (IsSource files display w after labels) (IsSource files display w after (labels ++ seen v ∷ [])) h.more
              (wider labels (seen v)) h.each)
              (record { label = seen v; stands = in-append_right (seen v) labels (seen v ∷ []) (inl refl); is = k });
          rises = rises-append uid_cmp h.more (m ∷ []) h.rises (tt, tt)
              (λ x y s. ⊎_elim
              (λ q. ap (uid_cmp x) q ∙ earlier i x m there (all-in (IsSource files display w after labels) h.more h.each x s) k)
              (λ n. absurd n));
          behind = e ∙ (ap (λ xs. xs ++ Of m ∷ []) h.behind
              ∙ (append_assoc before (map Of h.more) (Of m ∷ []) ∙ ap (λ xs. before ++ xs) (sym (map-append Of h.more (m ∷ [])))));
        })

    pub sources-skip : (i : ℕ) {v : Version} {before now new : List Source} → slice_get vs i ≡ Some v →
        HasSources files display w after (map seen (take i vs)) before now → new ≡ now →
        HasSources files display w after (map seen (take (i + 1) vs)) before new
    sources-skip i {v = v} there h e =
        let labels = map seen (take i vs) in
        let each = all-as (IsSource files display w after labels) (IsSource files display w after (labels ++ seen v ∷ [])) h.more
        (wider labels (seen v)) h.each in
        rw (← taken vs i there)
        (record { more = h.more; each = each; rises = h.rises; behind = e ∙ h.behind })

    pub sources-all : (i : ℕ) {before now : List Source} → length vs ≤ i → HasSources files display w after (map seen (take i vs)) before now →
        HasSources files display w after (map seen vs) before now
    sources-all i {before = before} {now = now} l h = subst (λ xs. HasSources files display w after (map seen xs) before now) (take_all i vs l) h

    pub master-of : (m : Recurring) → IsSource files display w after (map seen vs) m → IsMasterOf files display w after m
    master-of m h =
        let same = own-event chosen h.stands (recurs-of h.label m h.is) in record {
          by = (own chosen h.stands (recurs-of h.label m h.is)).0;
          is = own-master chosen h.stands (recurs-of h.label m h.is);
          event = sym same;
          clocks = h.is.clocks ∙ sym (own-clocks chosen h.stands (recurs-of h.label m h.is));
          window = h.is.window;
          since = h.is.since;
          replaced = subst (λ (e : Event). AreReplaced files display e.uid m.replaced) (sym same) h.is.replaced;
        }

    -- with nothing before them that is of masters
    are-sources : {before sources : List Source} (h : HasSources files display w after (map seen vs) before sources)
        → count_by is_once (before ++ map Of h.more) ≤ 1 → recurring (before ++ map Of h.more) ≡ h.more → AreSources files display w after sources
    are-sources h once those =
        subst (AreSources files display w after) (sym h.behind)
        (record {
          apart = (
            once,
            rw those (all-as (IsSource files display w after (map seen vs)) (λ m. is_single m.event ≡ false) h.more (λ m s. s.is.recurs) h.each, h.rises),
          );
          each = subst (AllByRecursion (IsMasterOf files display w after)) (sym those)
              (all-as (IsSource files display w after (map seen vs)) (IsMasterOf files display w after) h.more master-of h.each);
        })

    -- behind the events that start once, if any of these is to come
    pub sources-behind : (s : single.Singles) {first : List Part} {sources : List Source} → IsFirstPart s first
        → HasSources files display w after (map seen vs) (flat_map part_sources first) sources → AreSources files display w after sources
    sources-behind s f h =
        ⊎_elim
        (λ e.
        let all = rw e at h in
        are-sources all (omega (arith, sum_by-cons (λ s. cond (is_once s) 1 0) Once (map Of all.more), none-once all.more)) (recurring-of all.more))
        (λ e. let all = rw e.0 at h in are-sources all (omega (arith, none-once all.more)) (recurring-of all.more)) f
