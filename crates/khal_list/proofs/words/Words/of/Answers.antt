use Rattle.std.proofs.Common.{◌≡◌, ◌⊎◌, inl, inr, map, List, Err}
use Rattle.clap.specs.Words.{kind_of, IsAmong, Text}
use Rattle.clap.specs.declared.error.kind.ErrorKind.{ErrorKind}
use Rattle.clap.specs.declared.error.kind.ErrorKind.TheVariants.{OutOfMemory}
use Rattle.khal_words.specs.Entries.{refusal_of}
use Rattle.khal_list.specs.RequestFaults.{IsFaultOf}
use Rattle.khal_list.specs.RequestOf.{WordsOf}
use Rattle.khal_list.specs.declared.request_fault.RequestFault.{RequestFault}
use Rattle.khal_list.specs.declared.request_fault.RequestFault.TheVariants.{Usage, Memory}
use Rattle.khal_list.proofs.words.Words.of.Goals as goal

-- what a refusal says of an answer to words
refused : (words : List Text) (kind : ErrorKind) (fault : RequestFault) →
    (kind ≡ OutOfMemory) ⊎ IsAmong kind (refusal_of words) → IsFaultOf kind fault → WordsOf words (Err fault)
refused words kind (Usage text help) (inl memory) h = absurd (h.0 memory)
refused words kind (Usage text help) (inr among) h = record { kind = kind; among = among; asks = h.1 }
refused words kind Memory some h = tt
refused words kind fault some h = absurd h

pub returns-in-Err : goal.returns-in-Err
returns-in-Err c = refused (map (λ word. word.now) c.args.words.now) (kind_of c.in-Err.error) c.of_clap.result c.in-Err.ensures.faults c.of_clap.ensures
