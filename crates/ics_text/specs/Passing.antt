-- What a reader takes of the lines of a file that does not read each property (RFC 5545, section 3.1).
use Rattle.std.specs.Prelude.{◌≡◌, ℕ, Bool, false, List, ◌∷◌, Some}
use Rattle.ics_text.specs.ContentLines.{Parts, content_of}
use Rattle.ics_text.specs.Unfolded.{Line}

-- The bytes are a content line whose property is not read.
pub record IsUnread (reads : List ℕ → Bool) (bytes : List ℕ) : Type 0 where
  pub parts : Parts
  pub are : content_of bytes ≡ Some parts
  pub unread : reads parts.name ≡ false

-- The first of these lines is passed over: its number is n, its property is not read, and these are behind it.
pub record IsPassed (reads : List ℕ → Bool) (n : ℕ) (lines behind : List Line) : Type 0 where
  pub line : Line
  pub first : lines ≡ line ∷ behind
  pub number : line.number ≡ n
  pub unread : IsUnread reads line.bytes
