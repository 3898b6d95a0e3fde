use Rattle.std.proofs.Common.{◌≡◌, ◌∙◌, ℤ, Option, Some, None, Bool, true, false, not, is_some, ap, length, option_map, refl, slice_get, sym}
use Rattle.std.proofs.lemmas.Option.{slice_get_read, slice_get-map}
use Rattle.std.proofs.lemmas.Slice.Eq.{bytes_eq-Decides}
use Rattle.ics_series.specs.Versions.{seen}
use Rattle.ics_series.proofs.masters.is_master_at.Goals as goal

none-is : (o : Option ℤ) (b : Bool) → is_some o ≡ not b → b ≡ true → o ≡ None
none-is None b e t = refl
none-is (Some x) b e t = let no : true ≡ false = e ∙ ap not t in absurd cc

pub returns-then-is_none : goal.returns-then-is_none
returns-then-is_none c = λ yes.
    let vs = c.args.versions.now in
    let v = c.in-Some.version.now in
    let lookup = c.in-Some.ensures.lookup in
    let at : slice_get c.args.versions.now c.args.place ≡ Some c.in-Some.version.now =
    slice_get_read vs (length vs) c.args.place v refl lookup.3.0 lookup.1 in
    record {
      label = seen v;
      there = slice_get-map seen vs c.args.place ∙ ap (option_map seen) at;
      same = (bytes_eq-Decides v.subject.uid.now c.args.uid.now).0 (sym c.eq.ensures ∙ yes);
      single = none-is v.subject.recurrence c.is_none.result c.is_none.ensures c.if-is_none.true;
    }
