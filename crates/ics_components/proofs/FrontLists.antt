-- The events and the checks of a front, of which the next stands last.
use Rattle.std.proofs.Common.{◌≡◌, ℕ, ◌-◌, ◌<◌, true, false, List, [], ◌∷◌, ◌++◌, length, reverse, take, drop, refl, sym, ap, ◌∙◌, subst, arith}
use Rattle.std.proofs.Common.{append_assoc, IsSome, Option, Some, None}
use Rattle.std.specs.Option.{option_to_list}
use Rattle.std.specs.Prelude.{◌↔◌, nat_le}
use Rattle.std.proofs.lemmas.Bool.{false≢true}
use Rattle.std.proofs.lemmas.List.{append-nil, length-drop, reverse-append, reverse-reverse, take-append-drop}
use Rattle.ics_components.specs.declared.parsed_file.CalendarEvent.{CalendarEvent}
use Rattle.ics_components.specs.declared.parsed_file.ClosedComponent.TheVariants.{Nothing}
use Rattle.ics_components.specs.declared.parsed_file.LineCheck.{LineCheck}
use Rattle.ics_components.specs.FrontSeen.{FrontSeen}
use Rattle.ics_components.specs.Inner.FrontParts.{TakesCheck, checks_behind, checks_until, is_due}
use Rattle.ics_components.specs.Lines.{line_result}
use Rattle.ics_components.specs.ParsedFiles.{and_line}
use Rattle.ics_components.specs.ParsedFileSeen.{ParsedFileSeen}

pub reversed_twice : {X : Type 0} (xs : List X) → reverse (reverse xs) ≡ xs
reversed_twice xs = reverse-reverse xs

-- THE NEXT CHECK is none that is due, or leaves.
pub not_due : (number : ℕ) (checks : List LineCheck) → is_due number checks ≡ false →
    (checks_until number checks ≡ []) × (checks_behind number checks ≡ checks)
not_due number [] e = (refl, refl)
not_due number (check ∷ checks) e = rw e (refl, refl)

pub takes_popped : (top : Option LineCheck) (number : ℕ) (events : List CalendarEvent) (was now : List LineCheck) → was ≡ now ++ option_to_list top →
    (IsSome top ↔ (0 < length was)) → is_due number (reverse was) ≡ true →
    TakesCheck top number (record { events = events; checks = reverse was }) (record { events = events; checks = reverse now })
takes_popped None number events [] now e some due = absurd (false≢true due)
takes_popped None number events (check ∷ was) now e some due = absurd (false≢true (some.1 (omega arith)))
takes_popped (Some check) number events was now e some due = (
  ap (λ checks. record { events = events; checks = reverse checks }) e ∙ ap (λ checks. record { events = events; checks = checks })
      (reverse-append now (check ∷ [])),
  due,
)

-- it is moved
pub check_moved : (number : ℕ) (parsed : ParsedFileSeen) (front behind : FrontSeen) (check : LineCheck) →
    front ≡ record behind { checks = check ∷ behind.checks } → is_due number front.checks ≡ true →
    (record (and_line check.line (line_result Nothing (Some check.check)) parsed) {
      checks = (and_line check.line (line_result Nothing (Some check.check)) parsed).checks ++ checks_until number behind.checks;
    }
    ≡ record parsed { checks = parsed.checks ++ checks_until number front.checks })
    × (record behind { checks = checks_behind number behind.checks } ≡ record front { checks = checks_behind number front.checks })
    × (length behind.checks < length front.checks)
check_moved number parsed front behind check e due =
    let there : nat_le check.line number ≡ true = sym (ap (λ (f : FrontSeen). is_due number f.checks) e) ∙ due in
    rw (e, there) (simp (append-nil, append_assoc), refl, omega arith)

last-alone : {X : Type 0} (xs ys : List X) → length ys ≡ 1 → (ys ≡ take 1 (reverse (xs ++ ys))) × (reverse xs ≡ drop 1 (reverse (xs ++ ys)))
last-alone xs [] e = absurd (omega (arith, e))
last-alone xs (y ∷ []) e = rw (reverse-append xs (y ∷ [])) (refl, refl)
last-alone xs (y ∷ z ∷ ys) e = absurd (omega (arith, e))

-- the last is split off
pub last_split : {X : Type 0} (xs : List X) (kept : ℕ) → kept ≡ length xs - 1 →
    (drop kept xs ≡ take 1 (reverse xs)) × (reverse (take kept xs) ≡ drop 1 (reverse xs))
last_split [] kept e = rw e (refl, refl)
last_split (x ∷ xs) kept e =
    subst (λ all. (drop kept (x ∷ xs) ≡ take 1 (reverse all)) × (reverse (take kept (x ∷ xs)) ≡ drop 1 (reverse all)))
    (take-append-drop kept (x ∷ xs)) (last-alone (take kept (x ∷ xs)) (drop kept (x ∷ xs)) (omega (arith, e, length-drop kept (x ∷ xs))))
