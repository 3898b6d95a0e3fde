-- What is known of the occurrences that were given and last.
use Rattle.std.specs.Prelude.{◌≡◌, ◌⊎◌, ◌<ℤ◌, ◌≤ℤ◌, ℤ, Bool, true, List, [], ◌∷◌, ◌++◌}
use Rattle.std.specs.Coded.{Π_prop}
use Rattle.std.proofs.Props.{props}
use Rattle.ics_continued.specs.Ends.{end_of}
use Rattle.ics_continued.specs.declared.lasting.Lasting.{Lasting}
use Rattle.ics_listing.specs.Entry.{Entry}
use Rattle.ics_listing.specs.FeedSources.{Recurring}
use Rattle.ics_listing.specs.Listing.{IsIn}
use Rattle.ics_listing.specs.Rising.{Rises}
use Rattle.ics_starts.specs.FileZones.{clocks_in}
use Rattle.ics_starts.specs.SeriesStarts.{IsSeriesMet}
use Rattle.ics_starts.specs.declared.series.Series.{Series}
use Rattle.std.specs.declared.cmp.Ordering.{Ordering}

-- what a series is of
abbrev pub recurring_of : Series → Recurring
recurring_of s = record { clocks = clocks_in s.zones; event = s.event.now; window = s.window; since = s.since; replaced = s.replaced }

-- an occurrence of its event that meets its window and begins at this instant or later
abbrev pub IsAsked : Recurring → ℤ → Entry → Type 0
IsAsked m since o = IsSeriesMet m.clocks m.event m.window since m.replaced o

-- What was given and lasts, and what is still to come, is asked for. Of what is asked for, what ends after an instant is one of these, if it begins before
-- another.
pub record AreKept (m : Recurring) (since by gap : ℤ) (lasts coming : List Entry) : Type 0 where
  pub given : (o : Entry) → IsIn o lasts → IsAsked m since o
  pub left : (o : Entry) → IsIn o coming → IsAsked m since o
  pub all : (o : Entry) → IsAsked m since o → by <ℤ end_of o → o.start <ℤ gap → IsIn o lasts ⊎ IsIn o coming

-- nothing is to come, if that is so
abbrev pub IsDone : Bool → List Entry → Type 0
IsDone done coming = done ≡ true → (o : Entry) → IsIn o coming → ⊥

pub done-prop : (done : Bool) (coming : List Entry) → IsProp (IsDone done coming)
done-prop done coming = Π_prop λ d. Π_prop λ o. Π_prop λ m. hlevel props

-- an occurrence is put behind what lasts, or ends by an instant if that is told
abbrev pub IsNoted : List Lasting → List Lasting → Entry → ℤ → Bool → Type 0
IsNoted old new o by told =
    ((l : Lasting) × ((l.start ≡ o.start) × (l.finish ≡ o.finish)) × (new ≡ old ++ l ∷ [])) ⊎ ((new ≡ old) × (told ≡ true → end_of o ≤ℤ by))

-- what was known before the search begins before another instant
abbrev pub AreBefore : ℤ → List Lasting → Type 0
AreBefore begin known = (l : Lasting) → IsIn l known → l.start <ℤ begin

pub before-prop : (begin : ℤ) (known : List Lasting) → IsProp (AreBefore begin known)
before-prop begin known = Π_prop λ l. Π_prop λ m. hlevel props

-- what stands behind some of a list that rises does so too
pub rises-behind : {A : Type 0} (R : A → A → Ordering) (xs ys : List A) → Rises R (xs ++ ys) → Rises R ys
rises-behind R [] ys r = r
rises-behind R (x ∷ xs) ys r = rises-behind R xs ys r.1
