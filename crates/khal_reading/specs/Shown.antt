-- How the bytes of a text or a name are shown. The form is the program's own; RFC 5545, 3.1.4, says that they are UTF-8.
use Rattle.std.specs.Prelude.{ℕ, List, map, if◌then◌else◌, encode_utf8_all}
use Rattle.std.specs.Char.{is_ascii_control}
use Rattle.bstr.specs.Utf8.{lossy_chars}

-- bytes 0 to 31 and 127 are shown as a space
abbrev pub shown_byte : ℕ → ℕ
shown_byte b = if is_ascii_control b then 32 else b

-- bytes that are not UTF-8 are replaced by U+FFFD, one for each maximal piece of them
abbrev pub shown : List ℕ → List ℕ
shown bytes = map shown_byte (encode_utf8_all (lossy_chars bytes))
