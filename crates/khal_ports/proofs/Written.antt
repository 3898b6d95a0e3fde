-- A text of which a sink has taken the first part.
use Rattle.std.proofs.Common.{◌≡◌, ℕ, List, [], ◌++◌, Option, Some, None, Result, Ok, Err, length, take, drop, refl, sym, ap, ◌∙◌, subst, arith}
use Rattle.std.proofs.Common.{append_assoc, append-nil, length-append}
use Rattle.std.specs.Prelude.{OnErr}
use Rattle.std.specs.Io.KnownBytes.{Appends}
use Rattle.std.proofs.lemmas.List.{take-append-drop, take_at}
use Rattle.khal_ports.specs.Growth.{TookFront, TookPart}

pub on_err : {T E : Type 0} {P : Type 0} (result : Result T E) → P → OnErr result P
on_err (Ok x) p = tt
on_err (Err e) p = p

-- the sink has taken what stands before the rest
pub record Written (told new : Option (List ℕ)) (rest whole : List ℕ) : Type 0 where
  pub done : List ℕ
  pub taken : Appends told new done
  pub whole_is : done ++ rest ≡ whole

-- nothing is added
pub appends-none : (told : Option (List ℕ)) → Appends told told []
appends-none None = tt
appends-none (Some bytes) = sym (append-nil bytes)

-- two texts after one another are one
pub appends-both : (told middle new : Option (List ℕ)) (first second : List ℕ) → Appends told middle first × Appends middle new second →
    Appends told new (first ++ second)
appends-both None middle new first second both = tt
appends-both (Some bytes) (Some more) (Some all) first second both = both.1 ∙ (ap (λ t. t ++ second) both.0 ∙ append_assoc bytes first second)
appends-both told middle new first second both = absurd assumption

pub appends-same : (told new : Option (List ℕ)) {first second : List ℕ} → first ≡ second → Appends told new first → Appends told new second
appends-same told new same h = subst (Appends told new) same h

-- a prefix of the text that is not all of it is a prefix of it
pub part_front : {told new : Option (List ℕ)} {text : List ℕ} → TookPart told new text → TookFront told new text
part_front p = record { count = p.count; within = omega (arith, p.within); taken = p.taken }

pub written-front : {told new : Option (List ℕ)} {rest whole : List ℕ} → Written told new rest whole → TookFront told new whole
written-front {told = told} {new = new} {rest = rest} w = record {
  count = length w.done;
  within = rw (← w.whole_is) (omega (arith, length-append w.done rest));
  taken = appends-same told new (rw (← w.whole_is) (sym (take_at w.done rest (length w.done) refl))) w.taken;
}

-- a front of the next piece
pub written-part : {told middle new : Option (List ℕ)} {piece whole : List ℕ} (rest : List ℕ) → Written told middle (piece ++ rest) whole
    → TookFront middle new piece → TookFront told new whole
written-part {told = told} {middle = middle} {new = new} {piece = piece} rest w f =
    let front = take f.count piece in
    let left = drop f.count piece in
    written-front {rest = left ++ rest} (record {
      done = w.done ++ front;
      taken = appends-both told middle new w.done front (w.taken, f.taken);
      whole_is = rw (append_assoc, ← append_assoc front left rest, take-append-drop) w.whole_is;
    })
