-- The properties that a file is read for, by their names, also where some texts are not kept.
use Rattle.std.specs.Prelude.{ℕ, Bool, not, List, map, if◌then◌else◌}
use Rattle.ics_text.specs.Bytes.{upper}
use Rattle.ics_text.specs.ContentLines.{Parts}
use Rattle.ics_values.specs.KeptTexts.{KeptTexts}
use Rattle.ics_values.specs.TextNames.{text_at}
use Rattle.ics_components.specs.declared.name.Name.{Name}
use Rattle.ics_components.specs.declared.name.Name.TheVariants as name
use Rattle.ics_components.specs.Names.{name_of, same_name}
use Rattle.ics_components.specs.PlacedLines.{named}

-- a name that a file is read for
abbrev pub is_known : List ℕ → Bool
is_known text = not (same_name (name_of (map upper text)) name.Other)

-- the name by which a property is read; that of a text that is not kept is none that a file is read for
abbrev pub kept_name : KeptTexts → Name → Name
kept_name keep (name.Text text) = if text_at text keep then name.Text text else name.Other
kept_name keep n = n

abbrev pub read_name : KeptTexts → Parts → Name
read_name keep content = kept_name keep (named content)

-- a name that a file is read for where these texts are kept
abbrev pub is_kept : KeptTexts → List ℕ → Bool
is_kept keep text = not (same_name (kept_name keep (name_of (map upper text))) name.Other)
