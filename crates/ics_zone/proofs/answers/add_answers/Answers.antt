use Rattle.std.proofs.Common.{◌≡◌, arith, length, drop}
use Rattle.std.proofs.lemmas.List.{take_at}
use Rattle.ics_zone.proofs.answers.add_answers.Goals as goal

-- the slice is the whole list
pub returns : goal.returns
returns c = λ offset short steady before.
    let swept = c.sweep-reach.ensures.swept offset short steady in
    let long : length c.sweep-reach.new.seen ≡ c.in-Some.seen.len = omega (arith, c.sweep-reach.ensures.length, c.deref_mut.ensures.len, c.in-Some.seen.ok) in
    let whole = take_at c.sweep-reach.new.seen (drop (length c.sweep-reach.new.seen) c.in-Some.seen.items) c.in-Some.seen.len long in
    c.add_settled.ensures offset short (simp (c.deref.ensures.value) (rw whole swept)) before
