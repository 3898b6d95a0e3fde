-- The names of the properties that a file is read for (RFC 5545, section 3.8).
use Rattle.std.specs.Prelude.{ℕ, Bool, true, false, List, [], ◌∷◌, codes, Option, Some, None, if◌then◌else◌}
use Rattle.std.specs.Str.{bytes_eq}
use Rattle.ics_values.specs.TextNames.{same_text, text_named}
use Rattle.ics_values.specs.declared.text_name.TextName.{TextName}
use Rattle.ics_components.specs.declared.name.Name.{Name}
use Rattle.ics_components.specs.declared.name.Name.TheVariants as name

-- what a word stands for, or another thing where it is none of a table
abbrev pub named_in : {X : Type 0} → List (List ℕ × X) → X → List ℕ → X
named_in [] other u = other
named_in (n ∷ ns) other u = if bytes_eq u n.0 then n.1 else named_in ns other u

-- the words in upper case, in the order in which a name is compared with them
abbrev pub first_words : List (List ℕ × Name)
first_words =
    (codes "BEGIN", name.Begin) ∷ (codes "END", name.End) ∷ (codes "UID", name.Uid) ∷ (codes "DTSTART", name.Dtstart) ∷ (codes "DTEND", name.Dtend)
    ∷ (codes "DURATION", name.Duration) ∷ (codes "RRULE", name.Rrule) ∷ (codes "RECURRENCE-ID", name.RecurrenceId) ∷ (codes "SEQUENCE", name.Sequence)
    ∷ (codes "RDATE", name.Rdate) ∷ (codes "EXDATE", name.Exdate) ∷ []

abbrev pub other_words : List (List ℕ × Name)
other_words =
    (codes "EXRULE", name.Exrule) ∷ (codes "VERSION", name.Version) ∷ (codes "STATUS", name.Status) ∷ (codes "TZID", name.Tzid)
    ∷ (codes "TZOFFSETFROM", name.OffsetFrom) ∷ (codes "TZOFFSETTO", name.OffsetTo) ∷ []

-- the name of a text, or another
abbrev pub text_or : Name → Option TextName → Name
text_or n (Some text) = name.Text text
text_or n None = n

-- what a name in upper case stands for
abbrev pub name_of : List ℕ → Name
name_of u = named_in first_words (text_or (named_in other_words name.Other u) (text_named u)) u

abbrev pub same_name : Name → Name → Bool
same_name name.Begin name.Begin = true
same_name name.End name.End = true
same_name name.Uid name.Uid = true
same_name name.Dtstart name.Dtstart = true
same_name name.Dtend name.Dtend = true
same_name name.Duration name.Duration = true
same_name name.Rrule name.Rrule = true
same_name name.RecurrenceId name.RecurrenceId = true
same_name name.Sequence name.Sequence = true
same_name name.Rdate name.Rdate = true
same_name name.Exdate name.Exdate = true
same_name name.Exrule name.Exrule = true
same_name name.Version name.Version = true
same_name name.Status name.Status = true
same_name name.Tzid name.Tzid = true
same_name name.OffsetFrom name.OffsetFrom = true
same_name name.OffsetTo name.OffsetTo = true
same_name (name.Text a) (name.Text b) = same_text a b
same_name name.Other name.Other = true
same_name _ _ = false
