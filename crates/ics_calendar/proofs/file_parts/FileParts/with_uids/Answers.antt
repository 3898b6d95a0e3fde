use Rattle.std.proofs.Common.{sym, ap, ◌∙◌}
use Rattle.std.specs.List.{list_all}
use Rattle.ics_components.specs.EventLines.{is_none_of}
use Rattle.ics_components.specs.Parted.{PartedFileSeen}
use Rattle.ics_calendar.proofs.PartsAre.{lacks-by, read-plain}
use Rattle.ics_calendar.proofs.file_parts.FileParts.with_uids.Goals as goal

pub returns-then-not-has_no_uids : goal.returns-then-not-has_no_uids
returns-then-not-has_no_uids c =
    let without = ap (λ (p : PartedFileSeen). list_all (λ event. is_none_of event.uids) p.events) (sym c.parted.view_is)
    ∙ (λ i. list_all (λ event. is_none_of event.uids) (sym c.deref.ensures.value i)) ∙ sym c.has_no_uids.ensures ∙ c.if-not-has_no_uids.true in
    read-plain c.args.name.now c.args.bytes.now c.args.parted c.requires.parted c.in_ok-of.field-0 without c.in_ok-of.ensures

pub made-requires : goal.made-requires
made-requires c =
    let without = ap (λ (p : PartedFileSeen). list_all (λ event. is_none_of event.uids) p.events) (sym c.parted.view_is)
    ∙ (λ i. list_all (λ event. is_none_of event.uids) (sym c.deref.ensures.value i)) ∙ sym c.has_no_uids.ensures ∙ c.if-not-has_no_uids.false in
    lacks-by c.args.bytes.now c.args.parted c.requires.parted without
