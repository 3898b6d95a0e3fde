-- What is known of the names that were asked for.
use Rattle.std.proofs.Common.{◌≡◌, ℕ, Bool, false, ◌||◌, ◌&&◌, List, [], ◌∷◌, ◌++◌, Some, None}
use Rattle.std.proofs.Common.{sym, ◌∙◌, ap, subst, append_assoc, append-nil}
use Rattle.std.proofs.Math.Bool.{or-false}
use Rattle.std.proofs.lemmas.List.{append_cancel_left}
use Rattle.std.proofs.lemmas.List.Folds.{list_any-append}
use Rattle.ics_calendar.specs.GivenFiles.{GivenFiles, no_files}
use Rattle.std.specs.BTreeSet.{contains}
use Rattle.std.specs.Cmp.Lexicographic.{slice_cmp}
use Rattle.std.specs.List.{list_any}
use Rattle.std.specs.Ordering.{nat_cmp}
use Rattle.std.specs.Str.{bytes_eq}
use Rattle.ics_calendar.specs.ZoneTables.{given_by}
use Rattle.khal_reading.specs.declared.answered.Answered.{Answered}
use Rattle.khal_reading.specs.Asked.{given_files, is_unread, names_of, was_unread, with_found, Asked, AsksAll}
use Rattle.khal_ports.specs.Finds.{found_of, FindAnswer, Found}
use Rattle.khal_reading.specs.Inner.Learned.{Keeps, Knows, Learns, LearnsSome}
use Rattle.khal_reading.proofs.AskedLemmas as lemma
use Rattle.khal_reading.proofs.AskedLemmas.{IsIn}

-- a name more is known
module _ (asked : List Asked) (one : Asked) (old new : Answered)
    (files : (name : List ℕ) → given_by new.files name ≡ with_found (given_by old.files) one name)
    (names : (name : List ℕ) → contains (slice_cmp nat_cmp) new.names name ≡ (bytes_eq name one.0 || contains (slice_cmp nat_cmp) old.names name))
    (unread : (name : List ℕ) → contains (slice_cmp nat_cmp) new.unread name
    ≡ ((bytes_eq name one.0 && was_unread one.1) || contains (slice_cmp nat_cmp) old.unread name)) where
  knows-one : Knows asked old → Knows (asked ++ one ∷ []) new
  knows-one k = record {
    files = λ name. files name ∙ (lemma.with_found-same (given_by old.files) (given_files asked) one name (k.files name)
        ∙ sym (lemma.given-one asked one name));
    names = λ name. names name ∙ (ap (λ (t : Bool). bytes_eq name one.0 || t) (k.names name)
        ∙ sym (ap (list_any (bytes_eq name)) (lemma.names-append asked (one ∷ [])) ∙ lemma.any-one (bytes_eq name) (names_of asked) one.0));
    unread = λ name. unread name ∙ (ap (λ (t : Bool). (bytes_eq name one.0 && was_unread one.1) || t) (k.unread name) ∙ sym (lemma.unread-one asked one name));
  }

module _ {Z : Type 0} (finds : Z → List ℕ → FindAnswer → Z → Type 0) where
  -- what is asked for next has no name that was asked for
  keeps-all : {asked : List Asked} {wanted : List (List ℕ)} {before : Z} {more : List Asked} {after : Z} → AsksAll finds asked wanted before more after →
      Keeps asked more
  keeps-all {asked} {wanted} {more = more} h = record {
    files = λ name is. ap (λ (f : GivenFiles). f name) (lemma.given_from-append no_files asked more)
        ∙ lemma.given-kept (given_files asked) more name (new name is);
    unread = λ name is. list_any-append _ asked more ∙ (ap (λ (t : Bool). is_unread asked name || t) (lemma.unread-kept more name (new name is))
        ∙ or-false (is_unread asked name));
  }
    where
      new : (name : List ℕ) → IsIn name (names_of asked) → list_any (bytes_eq name) (names_of more) ≡ false
      new name is =
          let all = lemma.and_names-more (names_of asked) wanted in
          rw (append_cancel_left (names_of asked) (names_of more) all.0 (sym (lemma.names-append asked more) ∙ h.names ∙ all.1)) (all.2 name is)

  pub learns-none : (asked : List Asked) (state : Z) (answered : Answered) → Knows asked answered → Learns finds asked [] state state answered
  learns-none asked state answered k = record {
    more = [];
    asks = lemma.none-asked finds asked state;
    knows = subst (λ (all : List Asked). Knows all answered) (sym (append-nil asked)) k;
    keeps = keeps-all (lemma.none-asked finds asked state);
  }

  pub learns-then : {asked : List Asked} {first then : List (List ℕ)} {before middle after : Z} {a b : Answered}
      → (h : Learns finds asked first before middle a) → Learns finds (asked ++ h.more) then middle after b → Learns finds asked (first ++ then) before after b
  learns-then {asked = asked} {b = b} h k = record {
    more = h.more ++ k.more;
    asks = lemma.all-then-all finds h.asks k.asks;
    knows = subst (λ (all : List Asked). Knows all b) (append_assoc asked h.more k.more) k.knows;
    keeps = keeps-all (lemma.all-then-all finds h.asks k.asks);
  }

  -- nothing is asked for
  pub learns-nothing : (asked : List Asked) (wanted : List (List ℕ)) (state : Z) → LearnsSome finds asked wanted state state
  learns-nothing asked wanted state = record {
    more = [];
    asks = lemma.some-front finds wanted (lemma.all-some finds (lemma.none-asked finds asked state));
  }

  module _ (asked : List Asked) {name slice : List ℕ} (before after : Z) (old : Answered) (k : Knows asked old) {had : Bool}
      (new-name : had ≡ contains (slice_cmp nat_cmp) old.names name) (not-had : had ≡ false) (same : slice ≡ name)
      (answer : FindAnswer) (given : finds before slice answer after) where
    fresh : list_any (bytes_eq name) (names_of asked) ≡ false
    fresh = sym (k.names name) ∙ sym new-name ∙ not-had

    f : finds before name answer after
    f = subst (λ (n : List ℕ). finds before n answer after) same given

    pub fails : None ≡ found_of answer → LearnsSome finds asked (name ∷ []) before after
    fails is = record { more = []; asks = lemma.one-failed finds asked name fresh f is }

    module _ (found : Found) (is : Some found ≡ found_of answer) where
      pub learns-some-one : LearnsSome finds asked (name ∷ []) before after
      learns-some-one = record {
        more = (name, found) ∷ [];
        asks = lemma.all-some finds (lemma.one-asked finds asked (name, found) fresh f (sym is));
      }

      pub learns-one : (new : Answered)
          → ((other : List ℕ) → given_by new.files other ≡ with_found (given_by old.files) (name, found) other)
          → ((other : List ℕ) → contains (slice_cmp nat_cmp) new.names other ≡ (bytes_eq other name || contains (slice_cmp nat_cmp) old.names other))
          → ((other : List ℕ) → contains (slice_cmp nat_cmp) new.unread other
          ≡ ((bytes_eq other name && was_unread found) || contains (slice_cmp nat_cmp) old.unread other))
          → Learns finds asked (name ∷ []) before after new
      learns-one new files names unread = record {
        more = (name, found) ∷ [];
        asks = lemma.one-asked finds asked (name, found) fresh f (sym is);
        knows = knows-one asked (name, found) old new files names unread k;
        keeps = keeps-all (lemma.one-asked finds asked (name, found) fresh f (sym is));
      }
