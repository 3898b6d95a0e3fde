use Rattle.std.proofs.Common.{◌≡◌, List, [], ◌∷◌, Result, inl, inr}
use Rattle.clap.specs.Kinds.{or_else}
use Rattle.clap.specs.Words.{Kinds, Text, FailsBy, HasKind, IsAmong, fault_of}
use Rattle.clap.specs.declared.error.Error.{Error}
use Rattle.clap.specs.declared.error.kind.ErrorKind.{ErrorKind}
use Rattle.clap.specs.declared.parser.matches.ArgMatches.{ArgMatches}
use Rattle.khal_words.specs.Commands.{khal_app}
use Rattle.khal_words.specs.Entries.{Entries, conflict_of, entries_of, refusal_of}
use Rattle.khal_words.proofs.words.matches.Goals as goal

-- the first kinds that there are
first : (kind : ErrorKind) (a b : Kinds) → IsAmong kind a → IsAmong kind (or_else a b)
first kind [] b h = absurd h
first kind (k ∷ ks) b h = h

refused : (error : Error) (a b : Kinds) → HasKind a error → HasKind (or_else a b) error
refused error a b (inl memory) = inl memory
refused error a b (inr among) = inr (first _ a b among)

-- what clap takes is refused for its conflict alone
taken : (words : List Text) (entries : Entries) (r : Result ArgMatches Error) → fault_of khal_app words ≡ [] → entries ≡ entries_of words
    → FailsBy (conflict_of entries) r → FailsBy (refusal_of words) r
taken words entries r none same fails = rw none (rw same at fails)

pub returns-in-Ok-clause-faults : goal.returns-in-Ok-clause-faults
returns-in-Ok-clause-faults c =
    taken _ _ c.free_of_conflict.result c.in-Ok.ensures.faults c.in-Ok.ensures.entries c.free_of_conflict.ensures.faults

pub returns-in-Err-clause-faults : goal.returns-in-Err-clause-faults
returns-in-Err-clause-faults c = refused c.in-Err.error _ _ c.in-Err.ensures.faults
