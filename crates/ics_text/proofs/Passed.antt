-- Folded lines that are passed over.
use Rattle.std.proofs.Common.{◌≡◌, ℕ, ◌+◌, Bool, true, List, [], ◌∷◌, ◌++◌, refl, sym, ap, ◌∙◌, append_assoc, subst, Result, Ok, Err, IfOk}
use Rattle.ics_text.specs.ContentLines.{Parts, IsContent}
use Rattle.ics_text.specs.Unfolded.{Line, lines_from}
use Rattle.ics_text.specs.declared.folds.FirstLine.{FirstLine}
use Rattle.ics_text.specs.Inner.Reading.{line_of, kept, Begins}
use Rattle.ics_text.specs.Passing.{IsUnread, IsPassed}
use Rattle.ics_text.proofs.Parting.{content-grammar}

-- more of its value leaves a content line one of the same property
unread-longer : (reads : List ℕ → Bool) (first more : List ℕ) → IsUnread reads first → IsUnread reads (first ++ more)
unread-longer reads first more u =
    let name = u.parts.name in
    let params = u.parts.params in
    let value = u.parts.value in
    let says : IsContent first name params value = (content-grammar first u.parts).0 u.are in
    let longer : Parts = record { name = name; params = params; value = value ++ more } in
    let spelled : first ++ more ≡ name ++ params ++ 58 ∷ (value ++ more) =
    ap (λ t. t ++ more) says.spelled ∙ append_assoc (name ++ params) (58 ∷ value) more in
    record {
      parts = longer;
      are = (content-grammar (first ++ more) longer).1
          (record { ps = says.ps; name_ok = says.name_ok; params_ok = says.params_ok; spelled = spelled });
      unread = u.unread;
    }

-- the line is joined to a content line, so it is not empty
pub unread-passed : (reads : List ℕ → Bool) (n : ℕ) (first more : List ℕ) {lines behind : List Line} → IsUnread reads first →
    lines ≡ kept (line_of n (first ++ more) true) behind → IsPassed reads n lines behind
unread-passed reads n [] more u e = let none = u.are in cc
unread-passed reads n (b ∷ bs) more u e =
    record { line = line_of n ((b ∷ bs) ++ more) true; first = e; number = refl; unread = unread-longer reads (b ∷ bs) more u }

-- the first line of lines that are the same
pub begins-there : {E : Type 0} (reads : List ℕ → Bool) (r : Result FirstLine E) (lines there : ℕ → List Line) → ((n : ℕ) → lines n ≡ there n) →
    IfOk r (λ f. (n : ℕ) → Begins reads n f.bytes (there n) (lines_from (n + f.breaks) f.rest.now)) →
    IfOk r (λ f. (n : ℕ) → Begins reads n f.bytes (lines n) (lines_from (n + f.breaks) f.rest.now))
begins-there reads (Ok f) lines there e h = λ n. subst (λ (ls : List Line). Begins reads n f.bytes ls (lines_from (n + f.breaks) f.rest.now)) (sym (e n)) (h n)
begins-there reads (Err x) lines there e h = tt
