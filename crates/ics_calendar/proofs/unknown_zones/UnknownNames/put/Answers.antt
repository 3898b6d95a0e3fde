use Rattle.std.proofs.Common.{◌≡◌, ℕ, List, [], ◌∷◌, ◌++◌, refl, arith, cond}
use Rattle.std.proofs.lemmas.Grind.{common_steps}
use Rattle.std.proofs.lemmas.List.Elements.{filter-append}
use Rattle.std.proofs.lemmas.List.Folds.{list_any-append}
use Rattle.std.specs.List.{list_any}
use Rattle.std.specs.Str.{bytes_eq}
use Rattle.ics_calendar.specs.Wanted.{each_once}
use Rattle.ics_calendar.proofs.FilesGiven.{ties}
use Rattle.ics_calendar.proofs.unknown_zones.UnknownNames.put.Goals as goal

-- a name behind others
each_once-push : (ns : List (List ℕ)) (n : List ℕ) → each_once (ns ++ n ∷ []) ≡ each_once ns ++ cond (list_any (bytes_eq n) ns) [] (n ∷ [])
each_once-push [] n = refl
each_once-push (x ∷ xs) n = grind (arith, filter-append, each_once-push xs n)

pub returns : goal.returns
returns c = λ names are. record {
  once = grind (arith, common_steps, each_once-push, ties, are.once, are.seen c.args.name.now);
  seen = λ q. grind (arith, common_steps, list_any-append, ties, are.seen q);
}

pub returns-then-not-branch : goal.returns-then-not-branch
returns-then-not-branch c = λ names are. record {
  once = grind (arith, common_steps, each_once-push, ties, are.once, are.seen c.args.name.now);
  seen = λ q. grind (arith, common_steps, list_any-append, ties, are.seen q);
}
