-- THE TEXTS OF AN EVENT: the properties that are kept as texts (RFC 5545, sections 3.8.1 and 3.8.4.6). A further one is to be named here.
use Rattle.std.specs.Prelude.{ℕ, Bool, true, false, List, codes, Option, Some, None, if◌then◌else◌}
use Rattle.std.specs.Str.{bytes_eq}
use Rattle.ics_values.specs.Plain.{text_of}
use Rattle.ics_values.specs.declared.text_name.TextName.{TextName}
use Rattle.ics_values.specs.declared.text_name.TextName.TheVariants as text
use Rattle.ics_values.specs.declared.text_name.Texts.{Texts}

-- the one that a name in upper case stands for
abbrev pub text_named : List ℕ → Option TextName
text_named u =
    if bytes_eq u (codes "SUMMARY") then Some text.Summary
    else if bytes_eq u (codes "LOCATION") then Some text.Location
    else if bytes_eq u (codes "DESCRIPTION") then Some text.Description
    else if bytes_eq u (codes "URL") then Some text.Url
    else None

-- what a value says; that of a URL is no TEXT, and is kept as it stands
abbrev pub text_read : TextName → List ℕ → List ℕ
text_read text.Url value = value
text_read _ value = text_of value

abbrev pub same_text : TextName → TextName → Bool
same_text text.Summary text.Summary = true
same_text text.Location text.Location = true
same_text text.Description text.Description = true
same_text text.Url text.Url = true
same_text _ _ = false

-- ONE THING FOR EACH of them
abbrev pub texts_of : {X : Type 0} → (TextName → X) → Texts X
texts_of each = record {
  title = each text.Summary;
  location = each text.Location;
  description = each text.Description;
  url = each text.Url;
}

-- what stands there for one
abbrev pub text_at : {X : Type 0} → TextName → Texts X → X
text_at text.Summary texts = texts.title
text_at text.Location texts = texts.location
text_at text.Description texts = texts.description
text_at text.Url texts = texts.url

-- the same with another thing for one
abbrev pub with_text : {X : Type 0} → TextName → X → Texts X → Texts X
with_text text.Summary x texts = record texts { title = x }
with_text text.Location x texts = record texts { location = x }
with_text text.Description x texts = record texts { description = x }
with_text text.Url x texts = record texts { url = x }
