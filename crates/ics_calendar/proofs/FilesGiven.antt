-- Time zones with those of zone files: one name at a time, and what holds of them still.
use Rattle.std.proofs.Common.{◌≡◌, ℕ, ◌<◌, Bool, true, ◌||◌, List, [], ◌∷◌, length, refl, sym, ap, ◌∙◌, arith, cond, Option, Some, None}
use Rattle.std.proofs.Common.{IfSome, subst, ◌≤◌}
use Rattle.std.specs.Prelude.{get_or, map}
use Rattle.std.specs.Cmp.Lexicographic.{bytes_decides, nat_list_eq_equiv}
use Rattle.std.specs.List.{All}
use Rattle.std.specs.Option.{option_or}
use Rattle.std.specs.Str.{bytes_eq}
use Rattle.std.proofs.Math.Bool.{or-false}
use Rattle.std.specs.Cmp.Lexicographic.{slice_cmp}
use Rattle.std.specs.Ordering.{is_eq, nat_cmp}
use Rattle.std.proofs.lemmas.Map.Text.{is_eq-slice_cmp}
use Rattle.std.proofs.lemmas.Grind.{common_steps}
use Rattle.std.proofs.lemmas.List.{append-nil, length-append}
use Rattle.std.proofs.lemmas.List.Elements.{All-head, All-tail}
use Rattle.std.proofs.lemmas.List.Quantifiers.{position-Some}
use Rattle.ics_components.specs.declared.deferred_check.ZoneName.{ZoneName}
use Rattle.ics_calendar.specs.DeferredChecks.{KnownZones, is_same, with_files}
use Rattle.ics_components.specs.declared.parsed_file.CalendarZone.{CalendarZone}
use Rattle.ics_calendar.specs.UnresolvedFiles.{IsTable}
use Rattle.ics_calendar.specs.Settled.{known_in}
use Rattle.ics_calendar.specs.GivenFiles.{GivenFiles, no_files, given_names, given_zones}
use Rattle.ics_calendar.specs.ZoneTables.{name_cmp}
use Rattle.std.proofs.Common.{◌+◌}
use Rattle.std.specs.List.{position_from}
use Rattle.std.proofs.lemmas.Bool.Decides.{nat_tests}

pub or-none : {X : Type 0} (o : Option X) → option_or o None ≡ o
or-none o = grind arith

pub same-known : (a b : KnownZones) → ((used : ZoneName) → a.index used ≡ b.index used) → a.zones ≡ b.zones →
    ((name : List ℕ) → a.is_bad name ≡ b.is_bad name) →
    a ≡ b
same-known a b e f g = λ i. record { index = λ used. e used i; zones = f i; is_bad = λ name. g name i }

-- THE FIRST of each name.
-- the order ties what is the same
pub ties : (key other : List ℕ) → is_eq (slice_cmp nat_cmp key other) ≡ bytes_eq other key
ties key other = is_eq-slice_cmp key other ∙ nat_list_eq_equiv.symm key other

-- a name more in a set
pub seen-more : (key name other : List ℕ) (had : Bool) → key ≡ name → cond (is_eq (slice_cmp nat_cmp key other)) true had ≡ (bytes_eq other name || had)
seen-more key name other had e = rw (e, ties name other) (grind arith)

pub names_tie : (name used : ZoneName) → is_eq (name_cmp name used) ≡ is_same used name
names_tie name used = grind (arith, nat_tests, ties name.name used.name)

-- NO NAME, and one name before others.
pub with-none : (known : KnownZones) (files : GivenFiles) → with_files known files [] ≡ known
with-none known files = simp (append-nil, or-none, or-false)

-- a place that is given where there is none, and then another
pub or-placed : {X : Type 0} (k r : Option X) (t : Bool) (x : X) → option_or (option_or k (cond t (Some x) None)) r ≡ option_or k (cond t (Some x) r)
or-placed k r t x = grind arith

pub with-further : (known : KnownZones) (files : GivenFiles) (n : List ℕ) (rest : List (List ℕ)) →
    with_files (with_files known files (n ∷ [])) files rest ≡ with_files known files (n ∷ rest)
with-further known files n rest =
    same-known _ _ (λ used. grind (arith, common_steps, or-placed)) (grind (arith, common_steps)) (λ name. grind (arith, common_steps))

-- FILES THAT AGREE on the names give the same, one name at a time.
pub with-agreed : (known : KnownZones) (files others : GivenFiles) (names : List (List ℕ)) → All (λ name. files name ≡ others name) names →
    with_files known files names ≡ with_files known others names
with-agreed known files others [] h = refl
with-agreed known files others (n ∷ ns) h =
    let same : with_files known files (n ∷ []) ≡ with_files known others (n ∷ []) = rw (All-head (λ name. files name ≡ others name) n ns h) in
    sym (with-further known files n ns)
    ∙ with-agreed (with_files known files (n ∷ [])) files others ns (All-tail (λ name. files name ≡ others name) n ns h)
    ∙ ap (λ known. with_files known others ns) same ∙ with-further known others n ns

-- no files give nothing
pub with-no-files : (known : KnownZones) (names : List (List ℕ)) → with_files known no_files names ≡ known
with-no-files known [] = with-none known no_files
with-no-files known (n ∷ ns) = with-no-files known ns

-- A NAME IN A TABLE: the place of a VTIMEZONE's.
if-some : {P : ℕ → Type 0} (o : Option ℕ) → ((i : ℕ) → o ≡ Some i → P i) → IfSome o P
if-some None h = tt
if-some (Some i) h = h i refl

pub table-known : (zones : List CalendarZone) → IsTable (known_in zones)
table-known zones =
    let names : List ZoneName = map (λ z. z.name) zones in
    record {
      below = λ used. if-some ((known_in zones).index used) (λ i e. grind (arith, common_steps, position-Some (is_same used) names i used e));
      single = λ a b i e f.
          let at : List ℕ = (get_or names i a).name in
          grind (arith, position-Some (is_same a) names i a, position-Some (is_same b) names i a, (bytes_decides a.name at).0, (bytes_decides b.name at).0);
    }

pub below-here : (known : KnownZones) → IsTable known → (used : ZoneName) (i : ℕ) → known.index used ≡ Some i → i < length known.zones
below-here known table used i e = subst (λ o. IfSome o (λ i. i < length known.zones)) e (table.below used)

-- and with those of zone files, which stand behind the others
from-place : (names : List (List ℕ)) (k : ℕ) (x y : List ℕ) (i : ℕ) → position_from (bytes_eq x) k names ≡ Some i →
    (k ≤ i) × (i < k + length names) × (position_from (bytes_eq y) k names ≡ Some i → x ≡ y)
from-place [] k x y i e = cc
from-place (n ∷ ns) k x y i e =
    let more = from-place ns (k + 1) x y i in
    (grind (arith, more), grind (arith, more), λ f. grind (arith, more, from-place ns (k + 1) y y i, (bytes_decides x n).0, (bytes_decides y n).0))

given-long : (files : GivenFiles) (names : List (List ℕ)) → length (given_names files names) ≡ length (given_zones files names)
given-long files [] = refl
given-long files (n ∷ ns) = grind (arith, given-long files ns)

pub table-with : (known : KnownZones) (files : GivenFiles) (names : List (List ℕ)) → IsTable known → IsTable (with_files known files names)
table-with known files names table =
    let from = from-place (given_names files names) (length known.zones) in
    let long = given-long files names in
    record {
      below = λ used. if-some ((with_files known files names).index used) (λ i e.
          grind (arith, length-append known.zones (given_zones files names), below-here known table used i, from used.name used.name i, long));
      single = λ a b i e f.
          grind (arith, table.single a b i, below-here known table a i, below-here known table b i, from a.name b.name i, from b.name a.name i);
    }
