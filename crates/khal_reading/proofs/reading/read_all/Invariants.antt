use Rattle.std.proofs.Common.{◌≡◌, map}
use Rattle.ics_file.specs.File.{said_by}
use Rattle.khal_reading.proofs.ReadLemmas.{Done}
use Rattle.khal_reading.proofs.reading.read_all.Given as goal

abbrev pub invariant-loop-index : goal.invariant-loop-index
invariant-loop-index g l = record {
  names : g.S.Source.names l.source ≡ g.S.Source.names l.fn.source;
  done : Done g.S.Source.reads g.Z.ZoneSource.finds l.fn.keep_going l.fn.keep (g.S.Source.names l.fn.source) l.fn.source l.fn.zones l.index l.source
      l.zones l.answered (map said_by l.reading.files.items) l.reading.errors.items;
}
