use Rattle.std.proofs.Common.{◌≡◌, ap, arith, length, of_z, option_map, rules, sym, to_z, w32, w64, ◌∙◌}
use Rattle.std.proofs.lemmas.Int.{to_z-of_z}
use Rattle.jiff_tz.specs.PosixText.{tz_view}
use Rattle.jiff_tz.specs.Tzif.{tzif_view}
use Rattle.ics_zone.proofs.FileStretchLemmas.{after_last, before_next, by_rule, row_count, row_there}
use Rattle.ics_zone.specs.Inner.FileStretches.{left_at}
use Rattle.ics_zone.proofs.stretch.Stretch.before_row.Goals as goal

pub returns-then-count-rows : goal.returns-then-count-rows
returns-then-count-rows c =
    let z = c.args.table.now in
    let read = c.transitions-rows in
    let row = c.index-rows-count.result in
    let there = row_there z read.result.now c.args.count row read.ensures c.index-rows-count.is c.if-count-rows.true in
    let offset : to_z w64 (of_z w64 c.from-offset.result) ≡ row.before.seconds =
    to_z-of_z w64 c.from-offset.result (search rules) ∙ c.from-offset.ensures ∙ to_z-of_z w32 row.before.seconds (search rules) in
    before_next z c.args.count (omega (arith, c.if-count-rows.true, row_count z read.result.now read.ensures))
    (to_z-of_z w64 c.left_at.result (search rules) ∙ c.left_at.ensures ∙ ap left_at (sym there))
    (offset ∙ ap (λ row. row.before) (sym there)) (offset ∙ ap (λ row. row.before) (sym there)) (rw offset row.before.in_range)

pub returns-in-Some : goal.returns-in-Some
returns-in-Some c =
    let z = c.args.table.now in
    let read = c.transitions-rows in
    let all : c.args.count ≡ length (tzif_view z).transitions =
    omega (arith, c.requires.count, c.if-count-rows.false, row_count z read.result.now read.ensures) in
    rw all (by_rule z c.in-Some.rule (sym c.posix_tz.ensures ∙ ap (option_map tz_view) c.in-Some.is) c.of_rule.ensures)

pub returns-in-None : goal.returns-in-None
returns-in-None c =
    let z = c.args.table.now in
    let read = c.transitions-rows in
    let all : c.args.count ≡ length (tzif_view z).transitions =
    omega (arith, c.requires.count, c.if-count-rows.false, row_count z read.result.now read.ensures) in
    rw all (after_last z (sym c.posix_tz.ensures ∙ ap (option_map tz_view) c.in-None.is) (c.always.ensures.offset ∙ c.last_offset.ensures)
    (c.always.ensures.shown ∙ c.last_offset.ensures) (rw c.always.ensures.offset c.last_offset.result.in_range))
