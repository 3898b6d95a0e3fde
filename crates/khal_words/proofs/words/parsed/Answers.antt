use Rattle.std.proofs.Common.{◌≡◌, ◌∙◌, true, rules, List, [], Ok, Err, Result, refl, IfOk, codes, sym, subst}
use Rattle.std.proofs.lemmas.Iterator.Adapters.{option_map_id}
use Rattle.std.proofs.lemmas.Result.{IfOk-weaker}
use Rattle.clap.specs.Words.{App, Text, HasMatchesOf, FailsBy, fault_of, is_simple_and_free, subcommand_of, subcommand_rows_of}
use Rattle.clap.specs.declared.builder.value_parser.ValueParser.TheVariants as vp
use Rattle.clap.specs.declared.error.Error.{Error}
use Rattle.clap.specs.declared.parser.matches.ArgMatches.{ArgMatches}
use Rattle.khal_words.specs.Commands.{khal_app}
use Rattle.khal_words.specs.Entries.{AreTested, Entries, IsFlag}
use Rattle.khal_words.proofs.CheckedRows.{ReadsIn, reads}
use Rattle.khal_words.proofs.LimitLemmas.{has_limit, limit_range}
use Rattle.khal_words.proofs.words.parsed.Goals as goal

flag_of : (id : Text) (entries : Entries) → ReadsIn id vp.Bool entries → IsFlag id entries
flag_of id entries reads = record { read = reads.1 ∙ option_map_id _; text = λ text e. rw e at reads.0 }

-- the entries of words that clap takes are tested
tested : (words : List Text) → fault_of khal_app words ≡ [] → AreTested (subcommand_of khal_app words)
tested words none =
    let entries = subcommand_of khal_app words in
    record {
      limit = has_limit entries (reads (codes "limit") limit_range khal_app words (search rules) none);
      notstarted = flag_of (codes "notstarted") entries (reads _ vp.Bool khal_app words (search rules) none);
      every_day = flag_of (codes "every-day") entries (reads _ vp.Bool khal_app words (search rules) none);
      keep_going = flag_of (codes "keep-going") entries (reads _ vp.Bool khal_app words (search rules) none);
    }

-- clap's model covers this command
module _ (app : App) (words : List Text) (r : Result ArgMatches Error) (is : app ≡ khal_app) where
  entries : IfOk r (HasMatchesOf app words) → IfOk r (λ m. subcommand_rows_of m ≡ subcommand_of khal_app words)
  entries h = IfOk-weaker r _ _ (λ m h. (subst (λ (a : App). HasMatchesOf a words m) is h refl).1) h

  faults : (is_simple_and_free app ≡ true → FailsBy (fault_of app words) r) → FailsBy (fault_of khal_app words) r
  faults h = subst (λ (a : App). is_simple_and_free a ≡ true → FailsBy (fault_of a words) r) is h refl

  taken : IfOk r (HasMatchesOf app words) → (is_simple_and_free app ≡ true → FailsBy (fault_of app words) r) → IfOk r (λ m. AreTested (subcommand_rows_of m))
  taken h k =
      elim r as (λ x. IfOk x (λ m. subcommand_rows_of m ≡ subcommand_of khal_app words) → FailsBy (fault_of khal_app words) x →
      IfOk x (λ m. AreTested (subcommand_rows_of m)))
      [ Ok m ↦ λ same none. subst AreTested (sym same) (tested words none) | Err e ↦ λ same none. tt ] (entries h) (faults k)

pub returns-clause-entries : goal.returns-clause-entries
returns-clause-entries c = entries _ _ _ c.in_ok-command.ensures.shape c.try_get_matches_from.ensures.matches

pub returns-clause-tested : goal.returns-clause-tested
returns-clause-tested c = taken _ _ _ c.in_ok-command.ensures.shape c.try_get_matches_from.ensures.matches c.try_get_matches_from.ensures.kinds

pub returns-clause-faults : goal.returns-clause-faults
returns-clause-faults c = faults _ _ _ c.in_ok-command.ensures.shape c.try_get_matches_from.ensures.kinds
