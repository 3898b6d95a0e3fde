use Rattle.std.proofs.Common.{◌≡◌, ◌+◌, ◌<◌, Some, None, drop, take, option_map, sym, ap, ◌∙◌, refl, arith, true, ◌==◌}
use Rattle.std.proofs.lemmas.Grind.{common_steps}
use Rattle.std.specs.List.{prefix_len}
use Rattle.ics_text.specs.Bytes.{begins, is_name_byte}
use Rattle.ics_text.specs.ContentLines.{content_of, cut_at}
use Rattle.ics_text.specs.ScanSteps.{Start, colon_from}
use Rattle.ics_text.proofs.Walks.{no_name, over_name, colon_first}
use Rattle.ics_text.proofs.Parting.{slices_behind, content-grammar, one_reading, refuses}
use Rattle.ics_text.proofs.content_line.content.Goals as goal

pub returns-then-len-eq0-clause-refused : goal.returns-then-len-eq0-clause-refused
returns-then-len-eq0-clause-refused c =
    let line = c.args.line.now in
    refuses line (ap (option_map (cut_at line)) (no_name line (sym c.name_len-len.ensures.value ∙ c.if-len-eq0.true)))

pub returns-in_default-colon_of : goal.returns-in_default-colon_of
returns-in_default-colon_of c =
    let line = c.args.line.now in
    let len = c.name_len-len.ensures.value in
    let some : 0 < prefix_len is_name_byte line = rw (← len) (omega arith) in
    let behind_is : c.split_at.result.1.now ≡ drop (prefix_len is_name_byte line) line = rw (← len) c.split_at.ensures.back in
    let none : content_of line ≡ None = rw (over_name line some, ← behind_is, ← c.in_default-colon_of.ensures.value) refl in
    record { parts = tt; only = tt; refused = refuses line none; computes = sym none }

pub returns-in-58 : goal.returns-in-58
returns-in-58 c =
    let line = c.args.line.now in
    let len = c.name_len-len.ensures.value in
    let some : 0 < prefix_len is_name_byte line = rw (← len) (omega arith) in
    let name_is : c.split_at.result.0.now ≡ take (prefix_len is_name_byte line) line = rw (← len) c.split_at.ensures.front in
    let behind_is : c.split_at.result.1.now ≡ drop (prefix_len is_name_byte line) line = rw (← len) c.split_at.ensures.back in
    let first : begins (λ b. b == 58) c.split_at.result.1.now ≡ true = grind (arith, common_steps) in
    let colon : colon_from line Start ≡ Some (0 + prefix_len is_name_byte line) = rw (over_name line some, ← behind_is, colon_first _ first) refl in
    let is = ap (option_map (cut_at line)) colon ∙ ap Some (sym (slices_behind line 0 name_is behind_is)) in
    record { parts = (content-grammar line _).0 is; only = λ name params value h. one_reading line _ is h; refused = tt; computes = sym is }

pub returns : goal.returns
returns c =
    let line = c.args.line.now in
    let len = c.name_len-len.ensures.value in
    let some : 0 < prefix_len is_name_byte line = rw (← len) (omega arith) in
    let name_is : c.split_at.result.0.now ≡ take (prefix_len is_name_byte line) line = rw (← len) c.split_at.ensures.front in
    let behind_is : c.split_at.result.1.now ≡ drop (prefix_len is_name_byte line) line = rw (← len) c.split_at.ensures.back in
    let colon : colon_from line Start ≡ Some (c.in-Some.colon + prefix_len is_name_byte line) =
    rw (over_name line some, ← behind_is, ← c.in-Some.ensures.value) refl in
    let is = ap (option_map (cut_at line)) colon ∙ ap Some (sym (slices_behind line c.in-Some.colon name_is behind_is)) in
    record { parts = (content-grammar line _).0 is; only = λ name params value h. one_reading line _ is h; refused = tt; computes = sym is }
