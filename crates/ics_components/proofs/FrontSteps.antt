-- What the parts' round with a front does with a line.
use Rattle.std.proofs.Common.{◌≡◌, ℕ, Bool, true, false, ◌&&◌, ◌||◌, List, [], ◌∷◌, refl, sym, ap, ◌∙◌, arith, cond, Option, Some, None}
use Rattle.std.specs.Option.{option_and_then, option_or}
use Rattle.std.specs.Prelude.{Result, IfOk}
use Rattle.ics_text.specs.Unfolded.{begins_with_fold, unfolded}
use Rattle.ics_text.proofs.Rising.{unfolded-rises}
use Rattle.ics_components.specs.EventLines.{is_uid}
use Rattle.ics_components.specs.Fronts.{IsFrontOf}
use Rattle.ics_components.specs.FrontSeen.{FrontSeen}
use Rattle.ics_components.specs.Inner.FrontParts.{has_events}
use Rattle.ics_components.specs.Inner.FrontedRound.{FrontedSeen, StepsFronted, begun_still, by_fronted, front_past, fronted_behind, fronted_over}
use Rattle.ics_components.specs.Inner.PartsPass.{Ends, PartSeen, RoundSeen, Steps, by_part, goes_on, here, if_sure, round_begun, round_over}
use Rattle.ics_components.specs.Parted.{PartedFileSeen, begins_part, if_parted, parted_of}
use Rattle.ics_components.specs.PlacedLines.{Placed, Open, name_on, path_behind, placed}
use Rattle.ics_components.proofs.FrontedWhole.{fronted_whole}
use Rattle.ics_components.proofs.Placing.{in_place, parted_whole}

-- behind the last event of the front
pub front_spent : (seen : FrontedSeen) (ls : List Placed) → has_events seen.front ≡ false → fronted_over seen ls ≡ round_over seen.round ls
front_spent seen [] e = refl
front_spent seen (l ∷ ls) e = rw e refl

-- a line of the front
pub front_goes_on : (seen next : FrontedSeen) (l : Placed) (ls : List Placed) → has_events seen.front ≡ true → StepsFronted true l seen next →
    fronted_over seen (l ∷ ls) ≡ fronted_over next ls
front_goes_on seen next l ls e s = rw (e, s.0) (ap (λ (f : FrontedSeen). fronted_over f ls) (sym s.1))

pub front_stops : (seen next : FrontedSeen) (l : Placed) (ls : List Placed) → has_events seen.front ≡ true → StepsFronted false l seen next →
    fronted_over seen (l ∷ ls) ≡ None
front_stops seen next l ls e s = rw (e, s) refl

-- a content line
pub steps_fronted : (l : Placed) (a b : RoundSeen) (front rest : FrontSeen) → goes_on l a ≡ true →
    b ≡ (fronted_behind l (record { round = a; front = front })).round → rest ≡ front_past (option_or a.part (begun_still l)) l front →
    StepsFronted true l (record { round = a; front = front }) (record { round = b; front = rest })
steps_fronted l a b front rest goes e f = (goes, λ i. record { round = e i; front = f i })

-- a line that is no content line
no-part : (a b : Bool) → ((a && false) || (b && false)) ≡ false
no-part a b = grind arith

nothing-begins : (number : ℕ) (path : List Open) → begins_part (here number None path) ≡ false
unfolding name_on
nothing-begins number path = no-part _ _

abbrev passed-by : Option PartSeen → Placed → FrontedSeen → FrontedSeen
passed-by p l seen =
    let taken : FrontedSeen = by_fronted p l seen in
    record taken { round = record taken.round { path = path_behind l; is_behind_uid = is_uid l } }

bad-part : (number : ℕ) (path : List Open) (a : RoundSeen) (front : FrontSeen) (p : Option PartSeen) →
    record {
      round = record (by_part p (here number None path) a) { path = path_behind (here number None path); is_behind_uid = is_uid (here number None path) };
      front = front;
    }
    ≡ passed-by p (here number None path) (record { round = a; front = front })
unfolding name_on
bad-part number path a front None = refl
bad-part number path a front (Some part) = refl

pub bad_fronted : (has : Bool) (number : ℕ) (path : List Open) (a b : RoundSeen) (front : FrontSeen) → Steps has (here number None path) a b →
    StepsFronted has (here number None path) (record { round = a; front = front }) (record { round = b; front = front })
bad_fronted false number path a b front s = s
bad_fronted true number path a b front s = (
  s.0,
  ap (λ (r : RoundSeen). record { round = r; front = front }) s.1
      ∙ rw (nothing-begins number path) (bad-part number path a front (option_or a.part None)),
)

-- the lines behind the front
pub ends_behind : {E : Type 0} (result : Result Bool E) (seen : FrontedSeen) (ls rest : List Placed) (round : RoundSeen) (parted : PartedFileSeen) →
    fronted_over seen ls ≡ round_over round rest → IfOk result (λ has. Ends has parted (round_over round rest)) →
    IfOk result (λ has. Ends has parted (fronted_over seen ls))
ends_behind result seen ls rest round parted e ends = rw e ends

-- WHAT IS GATHERED BEHIND A FRONT is what is to be gathered of the file.
pub fronted_parted : (bytes : List ℕ) (front : FrontSeen) → IsFrontOf (placed bytes) front →
    option_and_then (if_sure None) (fronted_over (record { round = round_begun; front = front }) (placed bytes)) ≡ if_parted None (placed bytes)
fronted_parted bytes front is =
    ap (option_and_then (if_sure None)) (fronted_whole (placed bytes) front (in_place None (unfolded bytes) 0 [] (unfolded-rises bytes) tt (omega arith)) is)
    ∙ parted_whole None bytes

pub plain-parted : (bytes : List ℕ) → (begins_with_fold bytes ≡ true → ⊥) → if_parted None (placed bytes) ≡ parted_of None bytes
plain-parted bytes plain = by_test (begins_with_fold bytes) plain
  where
    by_test : (t : Bool) → (t ≡ true → ⊥) → if_parted None (placed bytes) ≡ cond t None (if_parted None (placed bytes))
    by_test false plain = refl
    by_test true plain = absurd (plain refl)
