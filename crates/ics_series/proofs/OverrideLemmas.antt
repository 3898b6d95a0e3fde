-- The overrides among the versions that count, and what they name.
use Rattle.std.proofs.Common.{◌≡◌, ℕ, ℤ, ◌||◌, List, [], ◌∷◌, map, length, Option, Some, None, Result, Bool, true, false}
use Rattle.std.proofs.Common.{refl, sym, ◌∙◌, ap, subst, is_ok, filter}
use Rattle.std.proofs.Common.{is_eq, nat_cmp, Ordering, Less}
use Rattle.std.specs.List.{list_any}
use Rattle.std.specs.List.Sorted.{IsBinarySearchResult, IsSearchInRange, IsSorted}
use Rattle.std.specs.Cmp.Lexicographic.{slice_cmp}
use Rattle.std.specs.Ordering.{on, ordering_then}
use Rattle.std.proofs.lemmas.Cmp.{on_total, tied_itself}
use Rattle.ics_file.specs.File.{FileSaid}
use Rattle.ics_series.specs.declared.version.Version.{Version}
use Rattle.ics_series.specs.Chosen.{subject_of, IsOverridden, SubjectSeen}
use Rattle.ics_listing.specs.FileClocks.{Clock}
use Rattle.ics_listing.specs.Inner.MergedLaws.{rises-filter}
use Rattle.ics_listing.specs.Rising.{Rises}
use Rattle.ics_series.specs.Versions.{is_named, is_override, label_of, seen, subject_cmp, subject_seen, AreChosen, Label}
use Rattle.ics_listing.proofs.Cases.{eq-Equal}
use Rattle.ics_series.proofs.VersionLemmas.{in-map, map-in, exact-subject, subject_total}
use Rattle.ics_listing.proofs.ListingLemmas.{any-in, in-any, rises-on, rises-sorted, search-finds}
use Rattle.ics_series.proofs.OccursLemmas.{override-subject}

-- The versions that count are sorted by subject.
abbrev pub label_subject_cmp : Label → Label → Ordering
label_subject_cmp = on (λ l. l.subject) subject_cmp

pub chosen-rises : {files : List FileSaid} {display : Clock} {vs : List Version} → AreChosen files display vs → Rises label_subject_cmp (map seen vs)
chosen-rises {files = files} {display = display} h =
    subst (Rises label_subject_cmp) (sym h.are) ((rises-on (label_of files display) label_subject_cmp h.chosen).1 h.listing.rises)

-- The overrides among them.
pub overrides-sorted : {files : List FileSaid} {display : Clock} {vs : List Version} (os : List Version) → AreChosen files display vs →
    map seen os ≡ filter is_override (map seen vs) → IsSorted (on (λ v. subject_seen v.subject) subject_cmp) os
overrides-sorted {vs = vs} os h e =
    rises-sorted (on (λ v. subject_seen v.subject) subject_cmp) (on_total (λ v. subject_seen v.subject) subject_total) os
    ((rises-on seen label_subject_cmp os).0 (subst (Rises label_subject_cmp) (sym e)
    (rises-filter label_subject_cmp is_override (map seen vs) (chosen-rises h))))

-- an instance of a UID
abbrev pub instance : List ℕ → ℤ → SubjectSeen
instance uid t = record { uid = uid; recurrence = Some t }

-- an instance is named where an override names it
module _ (uid : List ℕ) (t : ℤ) where
  less-not : (c : Ordering) → is_eq (ordering_then c Less) ≡ false
  less-not Less = refl
  less-not _ = refl

  pub named-overrides : (ls : List Label) → is_named (instance uid t) (filter is_override ls) ≡ is_named (instance uid t) ls
  named-overrides [] = refl
  named-overrides (l ∷ ls) = by l.subject.recurrence (named-overrides ls)
    where
      by : (r : Option ℤ) → is_named (instance uid t) (filter is_override ls) ≡ is_named (instance uid t) ls →
          is_named (instance uid t) (filter is_override (record l { subject = record { uid = l.subject.uid; recurrence = r } } ∷ ls))
          ≡ is_named (instance uid t) (record l { subject = record { uid = l.subject.uid; recurrence = r } } ∷ ls)
      by None ih = ih ∙ ap (λ b. b || is_named (instance uid t) ls) (sym (less-not (slice_cmp nat_cmp l.subject.uid uid)))
      by (Some u) ih = ap (λ b. is_eq (subject_cmp (instance l.subject.uid u) (instance uid t)) || b) ih

any-map : {A B : Type 0} (f : A → B) (test : B → Bool) (xs : List A) → list_any test (map f xs) ≡ list_any (λ x. test (f x)) xs
any-map f test [] = refl
any-map f test (x ∷ xs) = ap (λ b. test (f x) || b) (any-map f test xs)

-- A subject found by halving.
module _ (s : SubjectSeen) where
  abbrev ranks : Version → Ordering
  ranks v = subject_cmp (subject_seen v.subject) s

  pub searched : (vs : List Version) (r : Result ℕ ℕ) → IsSorted (on (λ v. subject_seen v.subject) subject_cmp) vs → IsSearchInRange r (length vs) →
      IsBinarySearchResult ranks vs r
      → is_ok r ≡ is_named s (map seen vs)
  searched vs r sorted within found =
      search-finds subject_total (λ v. subject_seen v.subject) s vs r sorted within found ∙ sym (any-map seen (λ l. is_eq (subject_cmp l.subject s)) vs)

-- What is named is overridden.
module _ (files : List FileSaid) (display : Clock) (vs : List Version) (h : AreChosen files display vs) (uid : List ℕ) (t : ℤ) where
  pub named-overridden : is_named (instance uid t) (map seen vs) ≡ true → IsOverridden files display uid t
  named-overridden e =
      let test : Label → Bool = λ l. is_eq (subject_cmp l.subject (instance uid t)) in
      let named = any-in test (map (label_of files display) h.chosen) (ap (is_named (instance uid t)) (sym h.are) ∙ e) in
      let p = in-map (label_of files display) named.0 h.chosen named.1 in
      let same : subject_of files display p.0 ≡ instance uid t =
      exact-subject (subject_of files display p.0) (instance uid t)
      (eq-Equal (subject_cmp (subject_of files display p.0) (instance uid t)) (ap test (sym p.2) ∙ named.2)) in
      record {
        by = p.0;
        is = record { chosen = (h.listing.exact p.0).0 p.1; of = ap (λ (v : SubjectSeen). v.recurrence) same };
        same = ap (λ (v : SubjectSeen). v.uid) same;
      }

  pub overridden-named : IsOverridden files display uid t → is_named (instance uid t) (map seen vs) ≡ true
  overridden-named o =
      ap (is_named (instance uid t)) h.are
      ∙ in-any (λ (l : Label). is_eq (subject_cmp l.subject (instance uid t))) (label_of files display o.by) (map (label_of files display) h.chosen)
      (ap (λ u. is_eq (subject_cmp u (instance uid t))) (override-subject files display o.by t o.is ∙ ap (λ u. instance u t) o.same)
      ∙ ap is_eq (tied_itself subject_total (instance uid t)))
      (map-in (label_of files display) o.by h.chosen ((h.listing.exact o.by).1 o.is.chosen))

-- a version, where any serves
abbrev pub any_version : Version
any_version = record {
  subject = record { uid = record { ref_ptr = (0, 0); now = [] }; recurrence = None };
  sequence = 0;
  spot = record { file = 0; place = 0 };
  beginning = 0;
  begins = refl;
}
