use Rattle.std.proofs.Common.{◌≡◌, ℕ, Bool, true, false, refl, ap, ◌∙◌, cond, Option, Some, None, unwrap_or}
use Rattle.std.specs.BTreeMap.{get}
use Rattle.std.specs.BTreeMap.Entry.{map_with_value}
use Rattle.std.specs.Cmp.Lexicographic.{bytes_decides}
use Rattle.std.specs.Option.{option_or}
use Rattle.std.specs.Ordering.{is_eq}
use Rattle.std.specs.Str.{bytes_eq}
use Rattle.std.proofs.lemmas.Grind.{common_steps}
use Rattle.std.proofs.Common.{arith}
use Rattle.ics_calendar.specs.Inner.SummedUids.{place_of, summed, summed_cmp}
use Rattle.ics_calendar.proofs.Shared.{or-nothing}
use Rattle.ics_calendar.proofs.SummedUids.{summed-ties}
use Rattle.ics_calendar.proofs.labels.number.Goals as goal

put-there : (old : Option ℕ) (there : Option ℕ) (t : Bool) (place : ℕ) → (t ≡ true → old ≡ there) →
    cond t (Some (unwrap_or there place)) old ≡ option_or old (cond t (Some place) None)
put-there old None true place same = rw (same refl) refl
put-there old (Some part) true place same = rw (same refl) refl
put-there old there false place same = or-nothing old

pub returns-clause-put : goal.returns-clause-put
returns-clause-put c = λ other.
    let uid = c.args.uid in
    let old = c.args.by_uid.now in
    let part = c.or_insert.result.now in
    let tie = ap (λ key. is_eq (summed_cmp key (summed other))) c.of-uid.ensures ∙ summed-ties uid other in
    let is : part ≡ unwrap_or (place_of old uid) c.args.place =
    c.or_insert.ensures.value
    ∙ ap (λ o. unwrap_or o c.args.place) (c.in_ok-by_uid.ensures.value ∙ ap (get summed_cmp old) c.of-uid.ensures) in
    let step : place_of (map_with_value c.in_ok-by_uid.field-0 part) other
    ≡ option_or (place_of old other) (cond (bytes_eq other uid) (Some c.args.place) None) =
    (c.in_ok-by_uid.ensures.update.0 part).0 (summed other)
    ∙ (λ i. cond (tie i) (Some (is i)) (place_of old other))
    ∙ put-there (place_of old other) (place_of old uid) (bytes_eq other uid) c.args.place (λ t. ap (place_of old) ((bytes_decides other uid).0 t)) in
    grind (arith, common_steps, step)
