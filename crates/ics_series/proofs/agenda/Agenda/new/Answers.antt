use Rattle.std.proofs.Common.{◌∙◌, ap, arith, filter, length, map, option_map, sym, subst, None}
use Rattle.ics_file.specs.File.{said_by}
use Rattle.ics_starts.specs.Clocks.{display_clock}
use Rattle.ics_listing.specs.Entry.{key_rank}
use Rattle.ics_series.specs.Inner.Kept.{AreKept}
use Rattle.ics_series.specs.Inner.Marks.{AreMarks}
use Rattle.ics_days.specs.NearPlaces.{AreBelow, AreNear}
use Rattle.ics_series.specs.Versions.{is_override, seen}
use Rattle.ics_series.proofs.MarkLemmas.{no-marks}
use Rattle.ics_series.proofs.SinglesLemmas.{behind-key}
use Rattle.ics_series.proofs.SpanLemmas.{no-spans}
use Rattle.ics_series.proofs.WholeLemmas.{keys, whole}
use Rattle.ics_series.proofs.agenda.Agenda.new.Goals as goal

pub search-requires-clause-chosen : goal.search-requires-clause-chosen
search-requires-clause-chosen c = rw c.deref-2.ensures.value c.in_ok-chosen.ensures.chosen

pub search-requires-clause-spans : goal.search-requires-clause-spans
search-requires-clause-spans c = record {
  floor = None;
  started = λ o after. tt;
  are = no-spans (map said_by c.args.files.now) (display_clock c.args.display.now) c.args.window None (map seen c.deref-2.result.now)
      (c.deref-5.ensures.value ∙ c.new-spans.ensures.items);
}

pub search-requires-clause-overrides : goal.search-requires-clause-overrides
search-requires-clause-overrides c =
    ap (map seen) c.deref-3.ensures.value
    ∙ (c.in_ok-overrides.ensures ∙ ap (λ vs. filter is_override (map seen vs)) (c.deref.ensures.value ∙ sym c.deref-2.ensures.value))

pub search-requires-clause-near : goal.search-requires-clause-near
search-requires-clause-near c =
    let count = c.len.ensures ∙ sym c.deref-2.ensures.len in
    rw c.deref-5.ensures.value
    (subst (AreNear c.new-spans.result.items c.args.window (length c.deref-2.result.now)) (sym c.deref-4.ensures.value)
    (record {
      rises = c.in_ok-near.ensures.rises;
      below = subst (λ n. AreBelow n c.in_ok-near.near.items) count c.in_ok-near.ensures.below;
      out = λ k within away. absurd (away (c.in_ok-near.ensures.all k (omega (arith, within, count))));
    }))

pub search-requires-clause-marks : goal.search-requires-clause-marks
search-requires-clause-marks c =
    subst (AreMarks (map said_by c.args.files.now) (map seen c.deref-2.result.now)) (sym c.new-marks.ensures.items)
    (no-marks (map said_by c.args.files.now) (map seen c.deref-2.result.now))

pub search-requires-clause-kept : goal.search-requires-clause-kept
search-requires-clause-kept c =
    subst (AreKept (map said_by c.args.files.now) (display_clock c.args.display.now)) (sym c.new-kept.ensures.items) tt

pub returns : goal.returns
returns c = record {
  listing = c.in_ok-search.ensures.listing;
  behind =
      behind-key (map said_by c.args.files.now) (display_clock c.args.display.now) c.args.window (option_map (λ key. key_rank key.now) c.args.after)
      (whole c.args.files.now c.args.display.now c.in_ok-chosen.ensures.chosen c.in_ok-chosen.ensures.read c.args.window) c.in_ok-search.ensures.listing;
  keys = keys c.args.files.now c.args.display.now c.in_ok-chosen.ensures.read;
  sources = c.in_ok-search.ensures.sources;
  since = c.in_ok-search.ensures.since c.new-kept.ensures.items;
}
