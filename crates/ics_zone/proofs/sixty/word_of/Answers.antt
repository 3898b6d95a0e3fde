use Rattle.std.proofs.Common.{ap, sym, ◌∙◌, ◌&&◌, ◌≡◌, true, false, nat_lt, arith}
use Rattle.std.proofs.lemmas.Bool.{lt-ltb, and_parts}
use Rattle.ics_fields.specs.Sets.{contains}
use Rattle.ics_zone.proofs.SixtyLemmas.{word_more, word_same}
use Rattle.ics_zone.proofs.sixty.word_of.Goals as goal
use Rattle.ics_zone.proofs.sixty.word_of.Goals.{then-contains, else-contains}

pub loop-n-preserved : goal.loop-n-preserved
loop-n-preserved c = elim c.if-contains.branch [
  | then-contains w ↦ λ m.
      let there : contains c.args.set c.loop-n.n ≡ true =
      (and_parts (nat_lt c.loop-n.n 64) (contains c.args.set c.loop-n.n) (sym c.contains.ensures ∙ w.if-contains.true)).1 in
      ap (λ x. contains x m) w.word-is ∙ word_more c.args.set c.loop-n.word c.loop-n.n c.loop-n.invariant (omega arith) there m
  | else-contains w ↦ λ m.
      let not : contains c.args.set c.loop-n.n ≡ false =
      sym (ap (λ b. b && contains c.args.set c.loop-n.n) (lt-ltb c.loop-n.n 64 (omega arith))) ∙ sym c.contains.ensures ∙ w.if-contains.false in
      ap (λ x. contains x m) w.word-is ∙ word_same c.args.set c.loop-n.word c.loop-n.n c.loop-n.invariant not m
]
