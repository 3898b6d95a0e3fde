-- What the walk over the lines finds is the first fault, and it finds one where there is one.
use Rattle.std.proofs.Common.{◌≡◌, ◌⊎◌, List, [], ◌∷◌, ◌++◌, refl, sym, ap, ◌∙◌, Option, Some, None, append_assoc, inl, inr}
use Rattle.std.proofs.lemmas.List.{append-nil}
use Rattle.ics_components.specs.declared.fault.FaultKind.{FaultKind}
use Rattle.ics_components.specs.PlacedLines.{Placed}
use Rattle.ics_components.specs.FirstFault.{Fault, Round, found, first_from, least_on, NoneStand, IsFirst}
use Rattle.ics_components.proofs.Order.{found-none}

abbrev AtEnd : Type 0
AtEnd = List Placed → Option Fault

-- the first fault is on a line, or else it stands at the end
abbrev pub Finds : Round → AtEnd → List Placed → List Placed → Fault → Type 0
Finds round at_end before lines f = IsFirst round before lines f ⊎ (NoneStand round before lines × (at_end (before ++ lines) ≡ Some f))

later-first : {round : Round} {before : List Placed} {l : Placed} {ls : List Placed} {f : Fault} → least_on round before l ≡ None →
    IsFirst round (before ++ l ∷ []) ls f → IsFirst round before (l ∷ ls) f
later-first {round = round} {before = before} {l = l} h r =
    record {
      front = l ∷ r.front;
      line = r.line;
      rest = r.rest;
      parts = ap (λ t. l ∷ t) r.parts;
      earlier = (h, r.earlier);
      number = r.number;
      least = ap (λ b. least_on round b r.line) (sym (append_assoc before (l ∷ []) r.front)) ∙ r.least;
    }

pub finds : (round : Round) (at_end : AtEnd) (before lines : List Placed) (f : Fault) → first_from round at_end before lines ≡ Some f →
    Finds round at_end before lines f
finds round at_end before [] f e = inr (tt, ap at_end (append-nil before) ∙ e)
finds round at_end before (l ∷ ls) f e = by_least (finds round at_end (before ++ l ∷ []) ls) (least_on round before l) refl e
  where
    later : least_on round before l ≡ None → Finds round at_end (before ++ l ∷ []) ls f → Finds round at_end before (l ∷ ls) f
    later h (inl r) = inl (later-first h r)
    later h (inr r) = inr ((h, r.0), ap at_end (sym (append_assoc before (l ∷ []) ls)) ∙ r.1)

    by_least : ((f : Fault) → first_from round at_end (before ++ l ∷ []) ls ≡ Some f → Finds round at_end (before ++ l ∷ []) ls f) →
        (o : Option FaultKind) → least_on round before l ≡ o → found l.number o (first_from round at_end (before ++ l ∷ []) ls) ≡ Some f →
        Finds round at_end before (l ∷ ls) f
    by_least again (Some kind) h e =
        let same : record { line = l.number; kind = kind } ≡ f = cc in
        inl (record {
          front = [];
          line = l;
          rest = ls;
          parts = refl;
          earlier = tt;
          number = ap (λ (g : Fault). g.line) (sym same);
          least = ap (λ b. least_on round b l) (append-nil before) ∙ h ∙ ap (λ (g : Fault). Some g.kind) same;
        })
    by_least again None h e = later h (again f e)

pub finds-none : (round : Round) (at_end : AtEnd) (before lines : List Placed) → first_from round at_end before lines ≡ None →
    NoneStand round before lines × (at_end (before ++ lines) ≡ None)
finds-none round at_end before [] e = (tt, ap at_end (append-nil before) ∙ e)
finds-none round at_end before (l ∷ ls) e =
    let none = found-none l.number (least_on round before l) (first_from round at_end (before ++ l ∷ []) ls) e in
    let rest = finds-none round at_end (before ++ l ∷ []) ls none.1 in
    ((none.0, rest.0), ap at_end (sym (append_assoc before (l ∷ []) ls)) ∙ rest.1)

-- lines on which no fault stands are passed
line_result : (round : Round) (at_end : AtEnd) (before front rest : List Placed) → NoneStand round before front →
    first_from round at_end before (front ++ rest) ≡ first_from round at_end (before ++ front) rest
line_result round at_end before [] rest n = ap (λ b. first_from round at_end b rest) (sym (append-nil before))
line_result round at_end before (l ∷ ls) rest n =
    ap (λ k. found l.number k (first_from round at_end (before ++ l ∷ []) (ls ++ rest))) n.0
    ∙ line_result round at_end (before ++ l ∷ []) ls rest n.1
    ∙ ap (λ b. first_from round at_end b rest) (append_assoc before (l ∷ []) ls)

-- where no fault stands on the lines, that at their end is the first
pub found-at-end : (round : Round) (at_end : AtEnd) (before lines : List Placed) {o : Option Fault} → NoneStand round before lines →
    at_end (before ++ lines) ≡ o → first_from round at_end before lines ≡ o
found-at-end round at_end before lines n e =
    ap (first_from round at_end before) (sym (append-nil lines)) ∙ line_result round at_end before lines [] n ∙ e

-- the first fault on a line is found
pub found-on-line : (round : Round) (at_end : AtEnd) (before lines : List Placed) (f : Fault) → IsFirst round before lines f →
    first_from round at_end before lines ≡ Some f
found-on-line round at_end before lines f r =
    ap (first_from round at_end before) r.parts
    ∙ line_result round at_end before r.front (r.line ∷ r.rest) r.earlier
    ∙ ap (λ k. found r.line.number k (first_from round at_end ((before ++ r.front) ++ r.line ∷ []) r.rest)) r.least
    ∙ ap (λ n. Some (record { line = n; kind = f.kind })) (sym r.number)
