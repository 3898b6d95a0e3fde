use Rattle.std.proofs.Common.{◌≡◌, ◌∙◌, ◌+◌, ◌-◌, ℕ, suc, add-one, List, length, drop, take, map, int_cmp, get_or, refl, sym, ap, subst}
use Rattle.std.specs.List.Sorted.{IsPartitionedBy, IsSorted}
use Rattle.std.specs.Str.{bytes_eq}
use Rattle.std.proofs.lemmas.List.{take_rest}
use Rattle.std.proofs.lemmas.Option.{slice_get-get_or}
use Rattle.ics_listing.proofs.Cases.{some-same}
use Rattle.ics_series.specs.Inner.Masters.{named_by}
use Rattle.ics_series.specs.Versions.{seen}
use Rattle.ics_series.specs.declared.version.Version.{Version}
use Rattle.ics_series.proofs.ReplacedLemmas.{behind-parted, named-behind, named-point, named-sorted}
use Rattle.ics_series.proofs.masters.replaced_at.Goals as goal
use Rattle.ics_series.proofs.masters.replaced_at.Goals.{In_ok-instants}

-- the versions behind a place
behind-is : (vs : List Version) (place : ℕ) → take (length vs - (place + 1)) (drop (place + 1) vs) ≡ drop (suc place) vs
behind-is vs place = take_rest vs (place + 1) ∙ ap (λ n. drop n vs) (add-one place)

pub count_of-requires : goal.count_of-requires
count_of-requires c =
    let vs = c.args.chosen.now in
    let v = get_or c.args.chosen.now c.args.place c.index-chosen-place.result in
    subst (IsPartitionedBy (λ (x : Version). bytes_eq x.subject.uid.now v.subject.uid.now)) (sym (behind-is vs c.args.place))
    (behind-parted v.subject.uid.now vs c.args.place (slice_get-get_or vs c.args.place c.index-chosen-place.result c.requires.within) refl c.requires.rises)

-- the instants are those that the versions of the UID override
instants-are : (c : In_ok-instants) → let v = get_or c.args.chosen.now c.args.place c.index-chosen-place.result in
    c.in_ok-instants.instants.items ≡ named_by v.subject.uid.now (map seen c.args.chosen.now)
instants-are c =
    let vs = c.args.chosen.now in
    let v = get_or c.args.chosen.now c.args.place c.index-chosen-place.result in
    let there = slice_get-get_or vs c.args.place c.index-chosen-place.result c.requires.within in
    let master = c.requires.master v there in
    c.in_ok-instants.ensures
    ∙ (named-point v.subject.uid.now (take (length vs - (c.args.place + 1)) (drop (c.args.place + 1) vs)) c.count_of.result c.count_of.ensures.parts
    ∙ (ap (λ xs. named_by v.subject.uid.now (map seen xs)) (behind-is vs c.args.place)
    ∙ sym (named-behind v.subject.uid.now vs c.args.place there (λ i. record { uid = v.subject.uid.now; recurrence = master i }) c.requires.rises)))

pub new-requires : goal.new-requires
new-requires c =
    let v = get_or c.args.chosen.now c.args.place c.index-chosen-place.result in
    subst (IsSorted int_cmp) (sym (instants-are (goal.at.new-requires c).In_ok-instants))
    (named-sorted v.subject.uid.now (map seen c.args.chosen.now) c.requires.rises)

pub returns : goal.returns
returns c = λ version there.
    let own = slice_get-get_or c.args.chosen.now c.args.place c.index-chosen-place.result c.requires.within in
    let same = some-same (get_or c.args.chosen.now c.args.place c.index-chosen-place.result) version (sym own ∙ there) in
    let mine = ap (λ (v : Version). named_by v.subject.uid.now (map seen c.args.chosen.now)) same in
    c.new.ensures ∙ (instants-are (goal.at.returns c).In_ok-instants ∙ mine)
