use Rattle.std.proofs.Common.{◌≡◌, ℕ, List, refl, sym, ap, ◌∙◌, find, bytes_eq}
use Rattle.std.specs.Prelude.{unwrap_or}
use Rattle.ics_values.specs.declared.text_name.TextName.TheVariants as text
use Rattle.khal_words.specs.declared.field.EntryField.{EntryField}
use Rattle.khal_words.specs.declared.field.EntryField.TheVariants as entry
use Rattle.khal_words.specs.declared.field.DayField.{DayField}
use Rattle.khal_words.specs.declared.field.DayField.TheVariants as day
use Rattle.khal_words.specs.Formats.{day_fields, day_name, entry_fields, entry_name, day_names_plain, entry_names_plain}
use Rattle.khal_words.proofs.FormatLemmas.{one_list}
use Rattle.khal_words.proofs.format_laws.one_format.Goals as goal

-- a name is that of the first of these that has it, and another is there for names that none has
abbrev named : {F : Type 0} → (F → List ℕ) → List F → F → List ℕ → F
named name fields other text = unwrap_or (find (λ field. bytes_eq text (name field)) fields) other

-- so it is that of one
one_name : {F : Type 0} (name : F → List ℕ) (of : List ℕ → F) → ((f : F) → of (name f) ≡ f) → (f g : F) → name f ≡ name g → f ≡ g
one_name name of back f g e = sym (back f) ∙ ap of e ∙ back g

entry_back : (field : EntryField) → named entry_name entry_fields entry.Cell (entry_name field) ≡ field
entry_back (entry.Text text.Summary) = refl
entry_back field = refl

day_back : (field : DayField) → named day_name day_fields day.Name (day_name field) ≡ field
day_back day.Name = refl
day_back day.Date = refl

pub returns-clause-entries : goal.returns-clause-entries
returns-clause-entries c = one_list entry_name entry_names_plain (one_name entry_name (named entry_name entry_fields entry.Cell) entry_back)

pub returns-clause-days : goal.returns-clause-days
returns-clause-days c = one_list day_name day_names_plain (one_name day_name (named day_name day_fields day.Name) day_back)
