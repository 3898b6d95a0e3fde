use Rattle.ics_starts.proofs.KeptLemmas.{kept-same}
use Rattle.ics_starts.proofs.rule_starts.RuleStarts.rest.Goals as goal

pub invariant_of-self : goal.invariant_of-self
invariant_of-self c =
    let s = c.args.self.now in
    record {
      rule_of = s.rule_of;
      rises = s.rises;
      are = s.are;
      past_end = s.past_end;
      stretched = s.stretched;
      spanned = s.spanned;
      own = s.own;
      looked = s.looked;
      placed = s.placed;
      known = kept-same s.event.now s.kept _ c.end.ensures s.known;
      reached = s.reached;
      early = s.early;
      none = s.none;
      none_day = s.none_day;
    }
