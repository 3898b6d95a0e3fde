-- The components that are open, as the pass holds them, stand for the path before a line and the lines beside it.
use Rattle.std.proofs.Common.{◌≡◌, suc, false, List, [], ◌∷◌, ◌++◌, drop, refl, sym, ap, ◌∙◌, Option, Some, ℕ, Bool, true, cond, None, arith}
use Rattle.std.specs.Prelude.{length, option_map}
use Rattle.std.proofs.lemmas.List.{append-nil, map-append}
use Rattle.ics_text.specs.Unfolded.{Line}
use Rattle.ics_text.specs.ContentLines.{Parts}
use Rattle.ics_components.specs.declared.component.Context.{Context}
use Rattle.ics_components.specs.declared.component.Context.TheVariants as context
use Rattle.ics_components.specs.declared.frame.Frame.{Frame}
use Rattle.ics_components.specs.declared.name.Name.{Name}
use Rattle.ics_components.specs.declared.name.Name.TheVariants as name
use Rattle.ics_values.specs.declared.text_name.TextName.TheVariants as text
use Rattle.ics_components.specs.Components.{component_of, is_observance_context}
use Rattle.ics_components.specs.PlacedLines.{Placed, Open, context_of, named, name_on, is_begin, component, path_behind, lines_in, value_of}
use Rattle.ics_components.specs.PlacedLines.{params_of, first_of, in_zone}
use Rattle.ics_components.specs.Builders.{observance_ended}
use Rattle.ics_components.specs.Pass.{bottom}
use Rattle.ics_components.specs.Lines.{opened, joined, closed, noted, behind, fault_in, fault_on, passing, is_mark, builder_note}
use Rattle.ics_components.proofs.NameLemmas.{begin-is, context-tests}
use Rattle.ics_components.proofs.Table.{builder_at, own, parts, frame_of, context-at, observance_of}
use Rattle.ics_components.proofs.Bundles.{Bundle, Keeps, open_of, opens, top_lines, add_line, close, bundles_behind}
use Rattle.std.specs.Option.{option_or}
use Rattle.std.proofs.lemmas.List.Elements.{filter-append}
use Rattle.std.proofs.lemmas.List.Concat.{flat_map-append}
use Rattle.std.proofs.Math.Bool.{and-false}
use Rattle.ics_fields.specs.Observances.{ObservanceSaid}
use Rattle.ics_components.specs.declared.builder.Builder.{Builder}
use Rattle.ics_components.specs.Observances.{begins_in_zone}
use Rattle.ics_components.proofs.Order.{inside}

-- what is kept of the first of some lines, with one line more
kept-more : {X : Type 0} (f : Placed → X) (ls : List Placed) (l : Placed) →
    option_map f (first_of (ls ++ l ∷ [])) ≡ option_or (option_map f (first_of ls)) (Some (f l))
kept-more f [] l = refl
kept-more f (k ∷ ks) l = refl

ruleset one_more = (filter-append, map-append, flat_map-append, append-nil, kept-more)

abbrev pub raw_name : Option Parts → List ℕ
raw_name None = []
raw_name (Some parts) = parts.name

-- the parts of a line, all empty where it is no content line
abbrev pub parts_at : Placed → Parts
parts_at l = record { name = raw_name l.content; params = params_of l.content; value = value_of l.content }

-- WHAT IS COLLECTED of a component, with one line more and these observances.
builder-note : (os : List ObservanceSaid) (ls : List Placed) (q : Context) (l : Placed) →
    builder_at os (ls ++ l ∷ []) q ≡ builder_note (name_on l.content) (parts_at l) (builder_at os ls q)
builder-note os ls q l = by_name q (name_on l.content) refl
  where
    by_name : (q : Context) (n : Name) → name_on l.content ≡ n → builder_at os (ls ++ l ∷ []) q ≡ builder_note n (parts_at l) (builder_at os ls q)
    by_name context.Outside n e = refl
    by_name context.Calendar n e = refl
    by_name context.Elsewhere n e = refl
    by_name _ (name.Text text.Url) e = simp (one_more, e)
    by_name _ _ e = simp (one_more, e)

-- a line that begins or ends a component says nothing of the one in which it stands
note-mark : (n : Name) (v : Parts) (b : Builder) → is_mark n ≡ true → builder_note n v b ≡ b
note-mark name.Begin v b m = grind arith
note-mark name.End v b m = grind arith
note-mark _ v b m = cc

-- THE OBSERVANCES of a time zone, with one line more.
parts-more : (whole ls : List Placed) (l : Placed) (t : Bool) → begins_in_zone l ≡ t →
    parts whole (ls ++ l ∷ []) ≡ parts whole ls ++ cond t (own whole l ∷ []) []
parts-more whole ls l true e = simp (filter-append, map-append, e)
parts-more whole ls l false e = simp (filter-append, map-append, e)

parts-same : (whole ls : List Placed) (l : Placed) → is_begin l ≡ false → parts whole (ls ++ l ∷ []) ≡ parts whole ls
parts-same whole ls l e = parts-more whole ls l false (rw e (and-false (in_zone l))) ∙ append-nil (parts whole ls)

-- an observance begins exactly on a STANDARD or DAYLIGHT in a time zone
observance-is : (l : Placed) → is_begin l ≡ true → begins_in_zone l ≡ is_observance_context (context_of (inside l))
observance-is l e = rw e (sym (context-tests (context_of l.path) (component l)).2)

-- WHAT IS COLLECTED of a component.
module _ (whole : List Placed) (ls : List Placed) (q : Context) where
  -- with one line more that begins none
  pub builder-more : (l : Placed) → is_begin l ≡ false →
      builder_at (parts whole (ls ++ l ∷ [])) (ls ++ l ∷ []) q
      ≡ builder_note (name_on l.content) (parts_at l) (builder_at (parts whole ls) ls q)
  builder-more l e = ap (λ os. builder_at os (ls ++ l ∷ []) q) (parts-same whole ls l e) ∙ builder-note (parts whole ls) ls q l

  -- with its END
  pub builder-end : (l : Placed) → name_on l.content ≡ name.End →
      builder_at (parts whole (ls ++ l ∷ [])) (ls ++ l ∷ []) q ≡ builder_at (parts whole ls) ls q
  builder-end l n = builder-more l (rw n) ∙ note-mark (name_on l.content) (parts_at l) (builder_at (parts whole ls) ls q) (rw n)

  -- with the BEGIN line of a component that has ended in it, and is one of its observances or changes nothing
  pub builder-begun : (b : Placed) (ks : List Placed) → name_on b.content ≡ name.Begin → own whole b ≡ observance_ended (observance_of ks) →
      builder_at (parts whole (ls ++ b ∷ [])) (ls ++ b ∷ []) q
      ≡ joined (builder_at (parts whole ls) ls q) (builder_at (parts whole ks) ks (context_of (inside b)))
  builder-begun b ks n o =
      builder-note (parts whole (ls ++ b ∷ [])) ls q b
      ∙ note-mark (name_on b.content) (parts_at b) (builder_at (parts whole (ls ++ b ∷ [])) ls q) (rw n)
      ∙ ap (λ os. builder_at os ls q) (parts-more whole ls b _ (observance-is b (rw n)))
      ∙ by_context q (context_of (inside b))
    where
      by_context : (q p : Context) → builder_at (parts whole ls ++ cond (is_observance_context p) (own whole b ∷ []) []) ls q
          ≡ joined (builder_at (parts whole ls) ls q) (builder_at (parts whole ks) ks p)
      by_context context.Zone p = grind (arith, append-nil, o)
      by_context _ p = refl

-- the frames that the bundles of lines stand for, in a file of all these lines
abbrev pub frames_of : List Placed → List Bundle → List Frame
frames_of whole [] = bottom ∷ []
frames_of whole (b ∷ bs) = frame_of whole (opens (b ∷ bs)) b.lines ∷ frames_of whole bs

abbrev pub with : Line → List Open → Option Parts → Placed
with line path content = record { number = line.number; content = content; path = path }

-- where the line ends the innermost component, all lines in that stand before it
abbrev pub Closes : List Placed → List Placed → Placed → List Bundle → Type 0
Closes whole before l [] = Unit {0}
Closes whole before l (f ∷ fs) = path_behind l ≡ opens fs → lines_in f.begin.number whole ≡ lines_in f.begin.number before ++ l ∷ []

module _ (whole before : List Placed) where
  -- a line joins the innermost component
  added : (l : Placed) (bundles : List Bundle) → is_begin l ≡ false →
      frames_of whole (add_line l bundles) ≡ noted (name_on l.content) (parts_at l) (frames_of whole bundles)
  added l [] e = refl
  added l (b ∷ bs) e =
      let path : List Open = opens (b ∷ bs) in
      ap (λ s. record (frame_of whole path b.lines) { builder = s } ∷ frames_of whole bs) (builder-more whole b.lines (context_of path) l e)

  begun : (l : Placed) (bundles : List Bundle) →
      frames_of whole (record { begin = l; lines = [] } ∷ bundles) ≡ opened l.number (component_of (component l)) (frames_of whole bundles)
  begun l [] = refl
  begun l (b ∷ []) = rw (context-at whole b.lines (open_of b) [])
  begun l (b ∷ d ∷ ds) = rw (context-at whole b.lines (open_of b) (opens (d ∷ ds)))

  closed-over : (l : Placed) (bundles : List Bundle) → Keeps before [] bundles → name_on l.content ≡ name.End →
      path_behind l ≡ drop 1 (opens bundles) → Closes whole before l bundles → frames_of whole (close bundles) ≡ closed (frames_of whole bundles)
  closed-over l [] k n moved w = refl
  closed-over l (f ∷ []) k n moved w = refl
  closed-over l (f ∷ g ∷ gs) k n moved w =
      let outer : Context = context_of (opens (g ∷ gs)) in
      let same : own whole f.begin ≡ observance_ended (observance_of f.lines) =
      let end = builder-end whole f.lines context.Observance l n in
      ap (λ ls. observance_ended (observance_of ls)) (w moved ∙ ap (λ ls. ls ++ l ∷ []) (k.0 ∙ append-nil f.lines)) ∙ cc in
      ap (λ s. record (frame_of whole (opens (g ∷ gs)) g.lines) { builder = s } ∷ frames_of whole gs)
      (builder-begun whole g.lines outer f.begin f.lines (begin-is (name_on f.begin.content) k.1.begins) same
      ∙ ap (λ (path : List Open). joined (builder_at (parts whole g.lines) g.lines outer)
      (builder_at (parts whole f.lines) f.lines (context_of (open_of f ∷ path)))) k.1.stands)

  -- a line keeps the frames
  pub frames-behind : (line : Line) (v : Parts) (bundles : List Bundle) → Keeps before [] bundles →
      Closes whole before (with line (opens bundles) (Some v)) bundles →
      frames_of whole (bundles_behind (with line (opens bundles) (Some v)) bundles)
      ≡ behind line.number (named v) v (frames_of whole bundles)
  unfolding name_on
  frames-behind line v bundles k w = by_name (named v) refl
    where
      l : Placed
      l = with line (opens bundles) (Some v)

      by_name : (n : Name) → name_on (Some v) ≡ n → frames_of whole (bundles_behind l bundles) ≡ behind line.number n v (frames_of whole bundles)
      by_name name.Begin m = rw m (begun l bundles)
      by_name name.End m = rw m (closed-over l bundles k m (rw m) w)
      by_name _ m = rw m (added l bundles (rw m) ∙ ap (λ n. noted n v (frames_of whole bundles)) m)

  length-frames : (bundles : List Bundle) → length (frames_of whole bundles) ≡ suc (length (opens bundles))
  length-frames [] = refl
  length-frames (b ∷ bs) = ap suc (length-frames bs)

  -- the fault on a line and what is gathered there read the innermost component alone
  pub fault-top : (n : Name) (v : Parts) (bundles : List Bundle) →
      fault_on n v (frames_of whole bundles) ≡ fault_in n v (frame_of whole (opens bundles) (top_lines before bundles)) (length (opens bundles))
  fault-top n v [] = refl
  fault-top n v (b ∷ bs) = ap (fault_in n v (frame_of whole (opens (b ∷ bs)) b.lines)) (length-frames bs)

  pub passing-top : (n : Name) (v : Parts) (bundles : List Bundle) →
      passing n v (frames_of whole bundles) ≡ passing n v (frame_of whole (opens bundles) (top_lines before bundles) ∷ [])
  passing-top n v [] = refl
  passing-top n v (b ∷ bs) = refl
