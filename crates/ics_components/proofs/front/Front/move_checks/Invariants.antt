use Rattle.std.proofs.Common.{◌≡◌, ◌++◌, length}
use Rattle.ics_components.specs.Inner.FrontParts.{checks_behind, checks_until}
use Rattle.ics_components.proofs.front.Front.move_checks.Given as goal

abbrev pub invariant-checks : goal.invariant-checks
invariant-checks l = record {
  moved : record l.parsed { checks = l.parsed.checks ++ checks_until l.number l.self.checks }
      ≡ record l.fn.parsed { checks = l.fn.parsed.checks ++ checks_until l.number l.fn.self.checks };
  rest : record l.self { checks = checks_behind l.number l.self.checks } ≡ record l.fn.self { checks = checks_behind l.number l.fn.self.checks };
}

abbrev pub decreases-checks : goal.decreases-checks
decreases-checks l = length l.self.checks
