use Rattle.std.proofs.Common.{rules, is_ok, subst, SFits, ◌≡◌, ◌++◌, ◌∷◌, [], w64}
use Rattle.std.proofs.lemmas.Int.{to_z-of_z}
use Rattle.ics_zone.proofs.TableLemmas.{pushed}
use Rattle.ics_zone.proofs.table.add_onset.Goals as goal

pub returns : goal.returns
returns c = λ e.
    let small : SFits w64 c.number_of-number.result = search rules in
    let number = simp (to_z-of_z, c.ranges.at) at c.number_of-number.ensures in
    subst (λ n. c.push.new.self.items ≡ c.args.list.now.items ++ n ∷ []) number
    (pushed c.args.list.now.items c.push.new.self.items c.number_of-number.result (is_ok c.push.result)
    (simp to_z-of_z at c.push.ensures.items) (search (rules, e)))
