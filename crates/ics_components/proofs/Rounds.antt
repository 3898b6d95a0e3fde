-- What the round does with a line, and with what stands in its place where UIDs are made.
use Rattle.std.proofs.Common.{◌≡◌, ℕ, Bool, true, false, ◌&&◌, not, List, [], ◌∷◌, ◌++◌, refl, sym, ap, ◌∙◌, arith, Option, Some, None, subst}
use Rattle.std.specs.Prelude.{codes, Result, Ok, Err, IfOk}
use Rattle.ics_text.specs.ContentLines.{Parts, IsContent}
use Rattle.ics_components.specs.declared.name.Name.{Name}
use Rattle.ics_components.specs.declared.name.Name.TheVariants as name
use Rattle.ics_components.specs.EventLines.{nests, uid_line}
use Rattle.ics_components.specs.Names.{same_name}
use Rattle.ics_components.specs.Parted.{lines_with}
use Rattle.ics_components.specs.Inner.PartsPass.{GoesOver, RoundSeen, Steps, here, is_event_uid, round_over}
use Rattle.ics_components.specs.PlacedLines.{Placed, Open, ends_event, in_event, is_begin, is_end, is_named, name_on, path_behind}

-- a line as it stands
plain-line : (file : Option (List ℕ)) (has : Bool) (l : Placed) (a b : RoundSeen) →
    ((rest : List Placed) → lines_with file (l ∷ rest) ≡ l ∷ lines_with file rest) → Steps has l a b → GoesOver has file l a b
plain-line file true l a b same s =
    (ap (λ (r : RoundSeen). r.path) s.1, λ rest. ap (round_over a) (same rest) ∙ rw (s.0) (ap (λ r. round_over r (lines_with file rest)) (sym s.1)))
plain-line file false l a b same s = λ rest. ap (round_over a) (same rest) ∙ rw s refl

pub steps_as_is : (has : Bool) (l : Placed) (a b : RoundSeen) → Steps has l a b → GoesOver has None l a b
steps_as_is has l a b s = plain-line None has l a b (λ rest. refl) s

-- where UIDs are made, a line that is neither a UID of an event nor its END
pub steps_other : (file : List ℕ) (has : Bool) (l : Placed) (a b : RoundSeen) → (in_event l && is_named name.Uid l) ≡ false → ends_event l ≡ false →
    Steps has l a b → GoesOver has (Some file) l a b
steps_other file has l a b u e s = plain-line (Some file) has l a b (λ rest. rw (u, e) refl) s

-- a UID of an event
pub uid-stays : (n : Name) → same_name n name.Uid ≡ true → (same_name n name.Begin ≡ false) × (same_name n name.End ≡ false)
uid-stays name.Uid e = (refl, refl)
uid-stays _ e = cc

pub steps_dropped : (file : List ℕ) (l : Placed) (a : RoundSeen) → a.path ≡ l.path → in_event l ≡ true → is_named name.Uid l ≡ true →
    GoesOver true (Some file) l a a
steps_dropped file l a at i u = let stays = uid-stays (name_on l.content) u in (rw (stays.0, stays.1) at, λ rest. rw (i, u) refl)

-- the END of an event
end-no-uid : (n : Name) → same_name n name.End ≡ true → same_name n name.Uid ≡ false
end-no-uid name.End e = refl
end-no-uid _ e = cc

no-uid : (a b : Bool) → b ≡ false → (a && b) ≡ false
no-uid a b e = grind (arith, e)

pub steps_made : (file : List ℕ) (has : Bool) (l : Placed) (a m b : RoundSeen) → ends_event l ≡ true → is_end l ≡ true →
    Steps true (uid_line file l) a m → Steps has l m b → GoesOver has (Some file) l a b
steps_made file true l a m b e is u s = (
  ap (λ (r : RoundSeen). r.path) s.1,
  λ rest.
      rw (no-uid (in_event l) (is_named name.Uid l) (end-no-uid (name_on l.content) is), e, u.0)
      (ap (λ r. round_over r (l ∷ lines_with (Some file) rest)) (sym u.1) ∙ rw (s.0) (ap (λ r. round_over r (lines_with (Some file) rest)) (sym s.1))),
)
steps_made file false l a m b e is u s =
    λ rest. rw (no-uid (in_event l) (is_named name.Uid l) (end-no-uid (name_on l.content) is), e, u.0)
    (ap (λ r. round_over r (l ∷ lines_with (Some file) rest)) (sym u.1) ∙ rw s refl)

-- THE LINE OF A UID THAT IS MADE is a content line, and may stand anywhere.
pub uid_is_content : (text : List ℕ) → IsContent (codes "UID:" ++ text) (codes "UID") [] text
uid_is_content text = record {
  ps = [];
  name_ok = record { some = λ e. cc; bytes = refl };
  params_ok = record { in_order = tt; spelled = refl };
  spelled = refl;
}

pub uid_nests : (number : ℕ) (text : List ℕ) (path : List Open) →
    nests (here number (Some (record { name = codes "UID"; params = []; value = text })) path) ≡ true
unfolding name_on
uid_nests number text path = refl

pub content_goes_on : (a u : Bool) → a ≡ true → (a && not (u && false)) ≡ true
content_goes_on a u e = grind (arith, e)

-- the same of an answer
pub as_is_result : {E : Type 0} (r : Result Bool E) (l : Placed) (a b : RoundSeen) → IfOk r (λ has. Steps has l a b) →
    IfOk r (λ has. GoesOver has None l a b)
as_is_result (Ok has) l a b s = steps_as_is has l a b s
as_is_result (Err e) l a b s = tt

pub plain_result : {E : Type 0} (file : List ℕ) (r : Result Bool E) (l : Placed) (a b : RoundSeen) → is_event_uid l ≡ false → ends_event l ≡ false →
    IfOk r (λ has. Steps has l a b) → IfOk r (λ has. GoesOver has (Some file) l a b)
plain_result file (Ok has) l a b u e s = steps_other file has l a b u e s
plain_result file (Err x) l a b u e s = tt

pub end-of : (a b c : Bool) → ((a && b) && c) ≡ true → a ≡ true
end-of a b c e = grind (arith, e)

pub made_result : {E : Type 0} (file : List ℕ) (r : Result Bool E) (l : Placed) (a m b : RoundSeen) → ends_event l ≡ true →
    Steps true (uid_line file l) a m → IfOk r (λ has. Steps has l m b) → IfOk r (λ has. GoesOver has (Some file) l a b)
made_result file (Ok has) l a m b e u s = steps_made file has l a m b e (end-of (is_end l) _ (in_event l) e) u s
made_result file (Err x) l a m b e u s = tt

pub made_none : (file : List ℕ) (l : Placed) (a m b : RoundSeen) → ends_event l ≡ true → Steps false (uid_line file l) a m →
    GoesOver false (Some file) l a b
made_none file l a m b e u =
    λ rest. rw (no-uid (in_event l) (is_named name.Uid l) (end-no-uid (name_on l.content) (end-of (is_end l) _ (in_event l) e)), e, u) refl

-- the line of a UID that is made leaves the components as they are
made-name : (file : List ℕ) (l : Placed) → name_on (uid_line file l).content ≡ name.Uid
unfolding name_on
made-name file l = refl

pub made_plain : (file : List ℕ) (l : Placed) → (is_begin (uid_line file l) ≡ false) × (path_behind (uid_line file l) ≡ l.path)
made_plain file l = rw (made-name file l) (refl, refl)

pub made_path : (file : List ℕ) (l : Placed) (a m : RoundSeen) → Steps true (uid_line file l) a m → m.path ≡ l.path
made_path file l a m s = ap (λ (r : RoundSeen). r.path) s.1 ∙ (made_plain file l).1

pub made_then : {E : Type 0} (file : List ℕ) (r : Result Bool E) (number : ℕ) (content : Option Parts) (a m b : RoundSeen) →
    ends_event (here number content a.path) ≡ true → Steps true (uid_line file (here number None a.path)) a m →
    IfOk r (λ has. Steps has (here number content m.path) m b) → IfOk r (λ has. GoesOver has (Some file) (here number content a.path) a b)
made_then file r number content a m b e u s =
    let l : Placed = here number content a.path in
    made_result file r l a m b e u (subst (λ (p : List Open). IfOk r (λ has. Steps has (here number content p) m b)) (made_path file l a m u) s)

-- a line that is no content line
bad-names : (number : ℕ) (path : List Open) → (is_event_uid (here number None path) ≡ false) × (ends_event (here number None path) ≡ false)
unfolding name_on
bad-names number path = (no-uid (in_event (here number None path)) false refl, refl)

pub bad_line : (file : Option (List ℕ)) (has : Bool) (number : ℕ) (path : List Open) (a b : RoundSeen) → Steps has (here number None path) a b →
    GoesOver has file (here number None path) a b
bad_line None has number path a b s = steps_as_is has (here number None path) a b s
bad_line (Some file) has number path a b s =
    let no = bad-names number path in steps_other file has (here number None path) a b no.0 no.1 s
