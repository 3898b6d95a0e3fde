use Rattle.khal_list.proofs.ics_starts++rule_starts++RuleStarts+Destruct.drop.Goals as goal

pub invariant_of-drop : goal.invariant_of-drop
invariant_of-drop c =
    let s = c.args.arg1 in
    record {
      rule_of = s.rule_of;
      rises = s.rises;
      are = s.are;
      past_end = s.past_end;
      stretched = s.stretched;
      spanned = s.spanned;
      own = s.own;
      looked = s.looked;
      placed = s.placed;
      known = s.known;
      reached = s.reached;
      early = s.early;
      none = s.none;
      none_day = s.none_day;
    }
