-- Printed ASCII is shown as it is.
use Rattle.std.proofs.Common.{◌≡◌, ℕ, ◌≤◌, List, All, get_or, IsAscii, arith}
use Rattle.std.proofs.lemmas.Bool.Decides.{nat_tests}
use Rattle.std.proofs.lemmas.Grind.{common_steps}
use Rattle.std.proofs.lemmas.List.Folds.{map_fixed}
use Rattle.std.proofs.lemmas.Str.{IsUtf8-from_ascii}
use Rattle.bstr.proofs.lemmas.EncodeLemmas.{lossy_chars-utf8}
use Rattle.khal_reading.specs.Shown.{shown, shown_byte}

-- a byte of printed ASCII
abbrev pub IsPrinted : ℕ → Type 0
IsPrinted b = (32 ≤ b) × (b ≤ 126)

byte_same : (b : ℕ) → IsPrinted b → shown_byte b ≡ b
byte_same b h = grind (arith, nat_tests)

printed_ascii : (bytes : List ℕ) → All IsPrinted bytes → IsAscii bytes
printed_ascii bytes all i = grind (arith, common_steps)

pub shown_same : (bytes : List ℕ) → All IsPrinted bytes → shown bytes ≡ bytes
shown_same bytes all =
    let read = lossy_chars-utf8 bytes (IsUtf8-from_ascii bytes (printed_ascii bytes all)) in
    rw read (map_fixed shown_byte bytes (λ k d lt. byte_same (get_or bytes k d) (all k d lt)))
