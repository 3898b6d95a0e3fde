use Rattle.std.proofs.lemmas.Grind.{common_steps}
use Rattle.std.proofs.Common.{◌∙◌, ◌+◌, ◌++◌, map, get_or, length, option_map, refl, sym, ap, arith, append-nil}
use Rattle.std.specs.List.{filter_map}
use Rattle.std.proofs.lemmas.List.{drop_all}
use Rattle.std.proofs.lemmas.Option.{slice_get-get_or, slice_get-map, slice_get_read}
use Rattle.ics_file.specs.File.{said_by}
use Rattle.ics_starts.specs.Clocks.{display_clock}
use Rattle.ics_listing.specs.Entry.{key_rank}
use Rattle.ics_series.specs.Singles.{single_at}
use Rattle.ics_starts.specs.SingleEvents.{single_entry}
use Rattle.ics_series.specs.Versions.{seen}
use Rattle.ics_series.proofs.GapLemmas.{looked-all, looked-none, looked-one, place-gap, place-low, place-within, singles-gap}
use Rattle.ics_series.proofs.OverrideLemmas.{any_version}
use Rattle.ics_series.proofs.SpanLemmas.{out-none, picked-skip}
use Rattle.ics_series.proofs.VersionLemmas.{stands}
use Rattle.ics_series.proofs.singles.to_come.Goals as goal

pub given-requires-clause-there : goal.given-requires-clause-there
given-requires-clause-there c =
    let k = get_or c.args.near.now c.loop-place.place-index 0 in
    stands k c.requires.chosen
    (slice_get_read c.args.chosen.now _ k c.index-chosen-place.result refl (place-within c.requires.near c.loop-place.place-index c.loop-place-test.true)
    c.index-chosen-place.is)

pub loop-place-init : goal.loop-place-init
loop-place-init c = (
  0,
  looked-none c.args.near.now (length c.args.chosen.now) c.requires.near.rises,
  ap (λ xs. map single_entry xs ++ filter_map
      (single_at (map said_by c.args.files.now) (display_clock c.args.display.now) c.args.window.now (map seen c.args.overrides.now)
      (option_map (λ key. key_rank key.now) c.args.after))
      (map seen c.args.chosen.now)) c.new-singles.ensures.items,
)

pub loop-place-preserved-then-is_out : goal.loop-place-preserved-then-is_out
loop-place-preserved-then-is_out c =
    let files = map said_by c.args.files.now in
    let display = display_clock c.args.display.now in
    let vs = c.args.chosen.now in
    let near = c.args.near.now in
    let i = c.loop-place.place-index in
    let k = get_or near i 0 in
    let at = slice_get-get_or near i 0 c.loop-place-test.true in
    let inv = c.loop-place.invariant in
    let within = place-within c.requires.near i c.loop-place-test.true in
    let os = map seen c.args.overrides.now in
    let after = option_map (λ key. key_rank key.now) c.args.after in
    let front = map single_entry c.loop-place.singles.items in
    let there = slice_get-map seen vs k ∙ ap (option_map seen) (slice_get-get_or vs k any_version within) in (
      k + 1,
      looked-one near i at inv.1 within,
      picked-skip (single_at files display c.args.window.now os after) vs k any_version front within
          (out-none files display c.args.window.now (map seen vs) c.args.spans.now c.requires.spans.1 k there
          (sym c.is_out.ensures ∙ c.if-is_out.true) os after)
          (singles-gap files display c.args.window.now vs c.args.spans.now c.requires.spans.1 near c.requires.near inv.0 k (place-low near i at inv.1)
          (omega (arith, within)) (place-gap near i at inv.1) os after front inv.2),
    )

pub loop-place-preserved-in_default : goal.loop-place-preserved-in_default
loop-place-preserved-in_default c =
    let files = map said_by c.args.files.now in
    let display = display_clock c.args.display.now in
    let vs = c.args.chosen.now in
    let near = c.args.near.now in
    let i = c.loop-place.place-index in
    let k = get_or near i 0 in
    let at = slice_get-get_or near i 0 c.loop-place-test.true in
    let inv = c.loop-place.invariant in
    let within = place-within c.requires.near i c.loop-place-test.true in
    let os = map seen c.args.overrides.now in
    let after = option_map (λ key. key_rank key.now) c.args.after in
    let front = map single_entry c.loop-place.singles.items in
    let here = singles-gap files display c.args.window.now vs c.args.spans.now c.requires.spans.1 near c.requires.near inv.0 k (place-low near i at inv.1)
    (omega (arith, within)) (place-gap near i at inv.1) os after front inv.2 in (
      k + 1,
      looked-one near i at inv.1 within,
      grind (arith, common_steps, here),
    )

pub loop-place-preserved : goal.loop-place-preserved
loop-place-preserved c =
    let files = map said_by c.args.files.now in
    let display = display_clock c.args.display.now in
    let vs = c.args.chosen.now in
    let near = c.args.near.now in
    let i = c.loop-place.place-index in
    let k = get_or near i 0 in
    let at = slice_get-get_or near i 0 c.loop-place-test.true in
    let inv = c.loop-place.invariant in
    let within = place-within c.requires.near i c.loop-place-test.true in
    let os = map seen c.args.overrides.now in
    let after = option_map (λ key. key_rank key.now) c.args.after in
    let front = map single_entry c.loop-place.singles.items in
    let here = singles-gap files display c.args.window.now vs c.args.spans.now c.requires.spans.1 near c.requires.near inv.0 k (place-low near i at inv.1)
    (omega (arith, within)) (place-gap near i at inv.1) os after front inv.2 in (
      k + 1,
      looked-one near i at inv.1 within,
      grind (arith, common_steps, here),
    )

pub returns : goal.returns
returns c =
    let files = map said_by c.args.files.now in
    let display = display_clock c.args.display.now in
    let vs = c.args.chosen.now in
    let near = c.args.near.now in
    let i = c.loop-place.place-index in
    let inv = c.loop-place.invariant in
    let os = map seen c.args.overrides.now in
    let after = option_map (λ key. key_rank key.now) c.args.after in
    let front = map single_entry c.loop-place.singles.items in
    let given = single_at files display c.args.window.now os after in
    let all = singles-gap files display c.args.window.now vs c.args.spans.now c.requires.spans.1 near c.requires.near inv.0 (length vs)
    inv.1.within (omega arith) (λ j a b m. looked-all near i inv.0 c.loop-place-test.false inv.1 j a m) os after front inv.2 in
    sym (append-nil front) ∙ (ap (λ xs. front ++ filter_map given (map seen xs)) (sym (drop_all (length vs) vs (omega arith))) ∙ all)
