use Rattle.std.proofs.lemmas.Grind.{common_steps}
use Rattle.std.proofs.Common.{◌≡◌, Some, map, refl, sym, ◌∙◌, ap, arith, slice_get}
use Rattle.std.proofs.lemmas.List.{length-map}
use Rattle.std.proofs.lemmas.Option.{slice_get_read, slice_get_within}
use Rattle.ics_file.specs.File.{said_by}
use Rattle.ics_file.specs.declared.events.FileEvents.{FileEvents}
use Rattle.ics_starts.specs.Clocks.{display_clock}
use Rattle.ics_series.specs.Versions.{seen}
use Rattle.ics_series.proofs.VersionLemmas.{labels-step}
use Rattle.ics_series.proofs.WholeLemmas.{read-step}
use Rattle.ics_series.proofs.versions.versions.Goals as goal

pub loop-number-preserved : goal.loop-number-preserved
loop-number-preserved c =
    let files = c.args.files.now in
    let display = display_clock c.args.display.now in
    let file : FileEvents = record { zones = c.deref.result.now; events = c.deref-in-loop-number.result.now } in
    let same : c.index-files-number.result ≡ record { zones = c.deref.result.now; events = c.deref-in-loop-number.result.now } =
    sym c.file.view_is ∙ (λ i. record { zones = sym c.deref.ensures.value i; events = sym c.deref-in-loop-number.ensures.value i }) in
    let there : slice_get c.args.files.now c.loop-number.number ≡ Some (record { zones = c.deref.result.now; events = c.deref-in-loop-number.result.now }) =
    slice_get_read c.args.files.now _ c.loop-number.number c.index-files-number.result refl c.loop-number-test.true c.index-files-number.is ∙ ap Some same in
    record {
      labels = labels-step files display c.loop-number.number file (map seen c.loop-number.versions.items) there
          c.in_ok-push_versions.ensures.labels c.loop-number.invariant.labels;
      read = read-step files c.loop-number.number file there c.in_ok-push_versions.ensures.read c.loop-number.invariant.read;
    }

pub loop-number-init : goal.loop-number-init
loop-number-init c = record { labels = grind (arith, common_steps); read = λ p l h. absurd (omega (arith, l)) }

pub returns : goal.returns
returns c =
    let whole = c.loop-number.invariant.labels in
    let files = map said_by c.args.files.now in
    record {
      labels = grind (arith, common_steps, whole);
      read = λ p h. c.loop-number.invariant.read p
          (omega (arith, slice_get_within files p.file h.within.0 h.within.1, length-map c.args.files.now said_by, c.loop-number-test.false)) h;
    }
