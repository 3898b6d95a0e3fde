use Rattle.std.proofs.Common.{◌≡◌, ◌∙◌, inr, sym, subst, arith, is_some, true}
use Rattle.std.proofs.lemmas.Int.{ints}
use Rattle.ics_fields.specs.Locals.{number}
use Rattle.ics_rule.specs.Cursors.{HasLooked}
use Rattle.ics_starts.proofs.CountLemmas.{looks-counted}
use Rattle.ics_starts.proofs.RuleStepLemmas.{place-years}
use Rattle.ics_starts.proofs.rule_starts.RuleStarts.put_mark.Goals as goal

pub returns-then-self-from : goal.returns-then-self-from
returns-then-self-from c =
    let s = c.args.self.now in
    let from = c.numbered-from.result in
    let day = c.numbered-from.ensures.day in
    let counts : is_some c.args.self.now.rule.parts.count ≡ true = sym (c.is_counted.ensures s.rule s.rule_of.of) ∙ c.if-not-is_counted.false in
    inr (record {
      counts = counts;
      begun = record {
        day = day;
        own = c.requires.own;
        place = c.requires.place ∙ sym c.numbered-from.ensures.value;
        looked = λ before h.
            subst (λ a. HasLooked c.args.self.now.rule c.args.cursor.now a before)
            (looks-counted s.rule.parts.count (number s.rule.start) (number s.from) (number from) counts)
            (c.requires.looked before (omega (arith, ints, h)));
      };
    })

pub numbered-from-requires : goal.numbered-from-requires
numbered-from-requires c = place-years c.args.self.now
