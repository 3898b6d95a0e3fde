-- Stretches that are known of a zone.
use Rattle.std.proofs.Common.{◌≡◌, ℤ, Bool, true, false, cond, List, [], ◌∷◌, ◌++◌}
use Rattle.std.proofs.lemmas.List.Elements.{All-push}
use Rattle.std.specs.List.{All}
use Rattle.ics_zone.specs.Stretches.{IsStretch}
use Rattle.ics_zone.specs.declared.stretch.Stretch.{Stretch}

-- a stretch more, or none where memory is refused
pub stretch_pushed : {offset moment : ℤ → ℤ} (was : List Stretch) {now : List Stretch} (s : Stretch) (b : Bool) → now ≡ cond b (was ++ s ∷ []) was
    → All (IsStretch offset moment) was → IsStretch offset moment s → All (IsStretch offset moment) now
stretch_pushed {offset = offset} {moment = moment} was s true is known stretch = rw is (All-push (IsStretch offset moment) was s known stretch)
stretch_pushed was s false is known stretch = rw is known
