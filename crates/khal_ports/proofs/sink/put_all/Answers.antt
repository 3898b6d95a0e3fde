use Rattle.std.proofs.Common.{◌≡◌, ◌≤◌, ◌-◌, ℕ, List, length, take, drop, sym, arith, length-drop}
use Rattle.std.specs.Io.KnownBytes.{Appends}
use Rattle.std.proofs.lemmas.Grind.{common_steps}
use Rattle.std.proofs.Math.Seq.{take-add}
use Rattle.khal_ports.proofs.Written.{appends-both, appends-same}
use Rattle.khal_ports.proofs.sink.put_all.Goals as goal

pub loop-done-preserved : goal.loop-done-preserved
loop-done-preserved g c =
    let xs : List ℕ = c.args.text.now in
    let d : ℕ = c.loop-done.done in
    let n : ℕ = c.in-Ok.count in
    let whole : take (length xs - d) (drop d xs) ≡ drop d xs = grind (arith, common_steps) in
    let bound : n ≤ length (drop d xs) = rw whole at c.in-Ok.ensures.bound in
    let first = g.O.Sink.taken c.args.sink.now in
    let told = g.O.Sink.taken c.loop-done.sink in
    let new = g.O.Sink.taken c.put.new.self in
    let took : Appends told new (take n (drop d xs)) = rw whole at c.in-Ok.ensures.took in
    record {
      within = omega (arith, length-drop d xs);
      taken = appends-same first new (sym (take-add d n xs)) (appends-both first told new (take d xs) (take n (drop d xs)) (c.loop-done.invariant.taken, took));
    }
