-- Where nothing is found for any name, files are what they are without zone files.
use Rattle.std.proofs.Common.{◌≡◌, get_or, ℕ, false, List, [], ◌∷◌, Some, None, Ok, refl, sym, ◌∙◌, ap}
use Rattle.std.proofs.Math.Bool.{and-false}
use Rattle.std.proofs.lemmas.List.Folds.{list_any_none}
use Rattle.std.specs.List.{AllByRecursion}
use Rattle.ics_calendar.specs.GivenFiles.{no_files, GivenFiles}
use Rattle.khal_reading.specs.Asked.{given_from, is_unread, Asked, FindsEach}
use Rattle.khal_reading.specs.Gives.{FileGives, gives_with}
use Rattle.khal_ports.specs.Finds.{found_of, FindAnswer, Found}

one-absent : (answer : FindAnswer) (found : Found) → answer ≡ Ok None → found_of answer ≡ Some found → found ≡ Found.Absent
one-absent answer found none is = let e : Some Found.Absent ≡ Some found = sym (ap found_of none) ∙ is in cc

pub each-absent : {Z : Type 0} (finds : Z → List ℕ → FindAnswer → Z → Type 0) →
    ((before : Z) (name : List ℕ) (answer : FindAnswer) (after : Z) → finds before name answer after → answer ≡ Ok None)
    → (before : Z) (asked : List Asked) (after : Z) → FindsEach finds before asked after → AllByRecursion (λ one. one.1 ≡ Found.Absent) asked
each-absent finds none before [] after h = tt
each-absent finds none before (one ∷ asked) after h = (one-absent h.0 one.1 (none before one.0 h.0 h.1 h.2) h.3, each-absent finds none h.1 asked after h.4)

given-absent : (files : GivenFiles) (asked : List Asked) → AllByRecursion (λ one. one.1 ≡ Found.Absent) asked → given_from files asked ≡ files
given-absent files [] h = refl
given-absent files ((name, found) ∷ asked) h = rw h.0 (given-absent files asked h.1)

unread-absent : (asked : List Asked) → AllByRecursion (λ one. one.1 ≡ Found.Absent) asked → (name : List ℕ) → is_unread asked name ≡ false
unread-absent [] h name = refl
unread-absent ((other, found) ∷ asked) h name = rw (h.0, and-false) (unread-absent asked h.1 name)

pub same-file : (asked : List Asked) → AllByRecursion (λ one. one.1 ≡ Found.Absent) asked → (file : FileGives) →
    gives_with asked file ≡ file.gives no_files
same-file asked h file =
    rw (list_any_none (is_unread asked) file.wants (λ i d l. unread-absent asked h (get_or file.wants i d)), given-absent no_files asked h) refl
