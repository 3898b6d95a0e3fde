use Rattle.std.proofs.Common.{◌≡◌, ◌≤◌, suc, length, map, [], slice_get, refl, sym, arith, ap, ◌∙◌}
use Rattle.std.proofs.lemmas.Option.{get_or_from_slice_get}
use Rattle.ics_file.specs.File.{said_by}
use Rattle.khal_reading.specs.Gives.{name_at}
use Rattle.khal_reading.proofs.OutcomeLemmas.{all-count}
use Rattle.khal_reading.proofs.ReadLemmas.{done-none, done-more, read-some, stops-after}
use Rattle.khal_reading.proofs.reading.read_all.Goals as goal

pub loop-index-init : goal.loop-index-init
loop-index-init g c = record {
  names = refl;
  done = done-none g.S.Source.reads g.Z.ZoneSource.finds c.new-answered.ensures (ap (map said_by) c.new-reading.ensures.files) c.new-reading.ensures.errors;
}

pub returns-in_err-outcome-clause-some : goal.returns-in_err-outcome-clause-some
returns-in_err-outcome-clause-some g c =
    let read = c.in_err-outcome.ensures.read in
    let names = g.S.Source.names c.args.source.now in
    let inside : suc c.loop-index.index ≤ length names = omega (arith, c.count-index-end.ensures) in
    let at : name_at (g.S.Source.names c.loop-index.source) c.loop-index.index ≡ name_at names c.loop-index.index =
    ap (λ list. name_at list c.loop-index.index) c.loop-index.invariant.names in
    read-some g.S.Source.reads g.Z.ZoneSource.finds c.loop-index.invariant.done inside read.1 (rw at at read.3)

pub returns-in_err-keep-clause-some : goal.returns-in_err-keep-clause-some
returns-in_err-keep-clause-some g c =
    let read = c.in_ok-outcome.ensures.read in
    let names = g.S.Source.names c.args.source.now in
    let inside : suc c.loop-index.index ≤ length names = omega (arith, c.count-index-end.ensures) in
    let at : name_at (g.S.Source.names c.loop-index.source) c.loop-index.index ≡ name_at names c.loop-index.index =
    ap (λ list. name_at list c.loop-index.index) c.loop-index.invariant.names in
    stops-after g.S.Source.reads g.Z.ZoneSource.finds c.loop-index.invariant.done inside read.1 (rw at at read.2)

pub loop-index-preserved : goal.loop-index-preserved
loop-index-preserved g c =
    let read = c.in_ok-outcome.ensures.read in
    let names = g.S.Source.names c.args.source.now in
    let inside : suc c.loop-index.index ≤ length names = omega (arith, c.count-index-end.ensures) in
    let kept : g.S.Source.names c.read_outcome.new.source ≡ names = c.in_ok-outcome.ensures.names ∙ c.loop-index.invariant.names in
    let at : name_at (g.S.Source.names c.loop-index.source) c.loop-index.index ≡ name_at names c.loop-index.index =
    ap (λ list. name_at list c.loop-index.index) c.loop-index.invariant.names in
    let lent : c.name.result.now ≡ name_at names c.loop-index.index =
    sym (get_or_from_slice_get names c.loop-index.index c.name.result.now []
    (ap (λ list. slice_get list c.loop-index.index) (sym kept) ∙ c.name.ensures)) in
    record {
      names = kept;
      done = done-more g.S.Source.reads g.Z.ZoneSource.finds c.loop-index.invariant.done inside
          (all-count c.only_wanted_files_count.ensures c.only_names_for_parts_count.ensures c.args.keep_going) read.1 (rw at at read.2)
          c.in_ok-keep.ensures.files (rw lent at c.in_ok-keep.ensures.errors);
    }
