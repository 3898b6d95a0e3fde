use Rattle.std.proofs.Common.{◌≡◌, ◌≤◌, ◌∙◌, ℕ, Bool, List, [], Ok, Err, ap, subst, sym, length, slice_get}
use Rattle.std.proofs.lemmas.Option.{get_or_from_slice_get}
use Rattle.std.proofs.lemmas.Result.{IfOk-weaker, on_err_weaker}
use Rattle.khal_ports.specs.Answers.{most_bytes}
use Rattle.khal_reading.specs.Gives.{given_by_file, gives_in_parts, gives_whole, name_at}
use Rattle.khal_reading.proofs.OutcomeLemmas.{ends-behind, ends-unread, is-outcome, unread-outcome}
use Rattle.khal_ports.proofs.Written.{on_err}
use Rattle.khal_reading.proofs.outcome.read_outcome.Goals as goal

-- a file whose sound parts are kept: what is lent are its name and its bytes
pub outcome_in_parts-requires : goal.outcome_in_parts-requires
outcome_in_parts-requires g c =
    let given = c.in-Ok.ensures.reads in
    let lent = c.as_slice.ensures.value ∙ given.2.1 tt c.new-bytes.ensures.items in
    subst (λ (bytes : List ℕ). length bytes ≤ most_bytes) (sym lent) given.2.0

pub returns-then-keep_going-clause-read : goal.returns-then-keep_going-clause-read
returns-then-keep_going-clause-read g c =
    let given = c.in-Ok.ensures.reads in
    let bytes : List ℕ = given.0 in
    let names : List (List ℕ) = g.S.Source.names c.args.source.now in
    let lent = c.as_slice.ensures.value ∙ given.2.1 tt c.new-bytes.ensures.items in
    let name = sym (get_or_from_slice_get names c.args.index c.name-name.result.now []
    (ap (λ list. slice_get list c.args.index) (sym c.in-Ok.ensures.names) ∙ c.name-name.ensures)) in
    let same = ap (λ (n : List ℕ). gives_in_parts n c.as_slice.result.now) name
    ∙ (ap (λ (b : List ℕ). gives_in_parts (name_at names c.args.index) b) lent
    ∙ ap (λ (k : Bool). given_by_file k (name_at names c.args.index) bytes) (sym c.if-keep_going.true)) in (
      Ok bytes,
      given.1,
      IfOk-weaker c.outcome_in_parts.result _ _ (λ outcome settles. is-outcome same settles) c.outcome_in_parts.ensures.ok,
      on_err_weaker c.outcome_in_parts.result (λ learns. ends-behind same learns) c.outcome_in_parts.ensures.some,
    )

pub returns-in-Err-clause-read : goal.returns-in-Err-clause-read
returns-in-Err-clause-read g c = (
  Err c.in-Err.fault,
  c.in-Err.ensures.reads.1,
  IfOk-weaker c.not_read.result _ _ (λ outcome told. unread-outcome g.Z.ZoneSource.finds told) c.not_read.ensures.ok,
  on_err c.not_read.result (ends-unread g.Z.ZoneSource.finds c.args.zones.now c.in-Err.fault),
)

-- a file of which all events are listed or none
pub outcome_of_whole-requires : goal.outcome_of_whole-requires
outcome_of_whole-requires g c =
    let given = c.in-Ok-read_into.ensures.reads in (c.args.keep, given.0, given.2.1 c.args.keep c.new-pieces.ensures)

pub returns-in-Ok-read_into-clause-read : goal.returns-in-Ok-read_into-clause-read
returns-in-Ok-read_into-clause-read g c =
    let given = c.in-Ok-read_into.ensures.reads in
    let bytes : List ℕ = given.0 in
    let read = given.2.1 c.args.keep c.new-pieces.ensures in
    let same : gives_whole bytes ≡ given_by_file c.args.keep_going (name_at (g.S.Source.names c.args.source.now) c.args.index) bytes =
    ap (λ (k : Bool). given_by_file k (name_at (g.S.Source.names c.args.source.now) c.args.index) bytes) (sym c.if-keep_going.false) in (
      Ok bytes,
      given.1,
      IfOk-weaker c.outcome_of_whole.result _ _ (λ outcome settles. is-outcome same settles) (c.outcome_of_whole.ensures.ok c.args.keep bytes read),
      on_err_weaker c.outcome_of_whole.result (λ learns. ends-behind same learns) (c.outcome_of_whole.ensures.some c.args.keep bytes read),
    )

pub returns-in-Err-read_into-clause-read : goal.returns-in-Err-read_into-clause-read
returns-in-Err-read_into-clause-read g c = (
  Err c.in-Err-read_into.fault,
  c.in-Err-read_into.ensures.reads.1,
  IfOk-weaker c.not_read-in-Err-read_into.result _ _ (λ outcome told. unread-outcome g.Z.ZoneSource.finds told) c.not_read-in-Err-read_into.ensures.ok,
  on_err c.not_read-in-Err-read_into.result (ends-unread g.Z.ZoneSource.finds c.args.zones.now c.in-Err-read_into.fault),
)
