-- Marks of searches: which ones there are after one is put.
use Rattle.std.proofs.Common.{◌≡◌, ◌∙◌, ℕ, zero, suc, List, [], ◌∷◌, ◌++◌, map, replicate, take, Option, Some, None, MatchOption, Bor, is_none, true, false}
use Rattle.std.proofs.Common.{⊎_elim, refl, sym, ap, subst, slice_get, option_map}
use Rattle.std.specs.Option.{unwrap_or}
use Rattle.std.proofs.lemmas.Option.{slice_get-map}
use Rattle.ics_file.specs.File.{FileSaid}
use Rattle.ics_event.specs.declared.event.Event.{Event}
use Rattle.ics_starts.specs.declared.mark.Mark.{Mark}
use Rattle.ics_starts.specs.declared.series.Series.{Series}
use Rattle.ics_series.specs.declared.version.Version.{Version}
use Rattle.ics_series.specs.Inner.Marks.{AreMarks, HasNoMark, IsPut}
use Rattle.ics_starts.specs.RuleMarks.{IsMarkOf}
use Rattle.ics_starts.specs.SeriesFeed.{series_sources}
use Rattle.ics_listing.specs.FeedSources.{Recurring, Source}
use Rattle.ics_listing.specs.FeedSources.Source.{Of, Once}
use Rattle.ics_series.specs.Spots.{event_at}
use Rattle.ics_series.specs.Versions.{seen, Label}

-- where there is none each place has none
none-at : (marks : List (Option Mark)) (k : ℕ) (m : Option Mark) → HasNoMark marks → slice_get marks k ≡ Some m → is_none m ≡ true
none-at [] k m h e = let f : None ≡ Some m = e in absurd cc
none-at (x ∷ marks) zero m h e = subst (λ o. is_none (unwrap_or o m) ≡ true) e h.0
none-at (x ∷ marks) (suc k) m h e = none-at marks k m h.1 e

none-replicate : (n : ℕ) → HasNoMark (replicate n None)
none-replicate zero = tt
none-replicate (suc n) = (refl, none-replicate n)

pub none-added : (n k : ℕ) (old : List (Option Mark)) {new : List (Option Mark)} → old ≡ [] → new ≡ take n old ++ replicate k None → HasNoMark new
none-added n k old e is = subst HasNoMark (sym (is ∙ ap (λ xs. xs ++ replicate k None) (ap (take n) e ∙ take-none n))) (none-replicate k)
  where
    take-none : (n : ℕ) → take {A = Option Mark} n [] ≡ []
    take-none zero = refl
    take-none (suc n) = refl

no-mark-of : (event : Event) (mark : Option Mark) → is_none mark ≡ true → IsMarkOf event mark
no-mark-of event None h = tt
no-mark-of event (Some m) h = let f : false ≡ true = h in absurd cc

module _ (files : List FileSaid) (labels : List Label) where
  pub no-marks : AreMarks files labels []
  no-marks place mark label event m l e = let f : None ≡ Some mark = m in absurd cc

  pub marks-none : (marks : List (Option Mark)) → HasNoMark marks → AreMarks files labels marks
  marks-none marks h place mark label event m l e = no-mark-of event mark (none-at marks place mark h m)

  pub marks-put : (place : ℕ) (mark : Option Mark) (old new : List (Option Mark)) → AreMarks files labels old → IsPut old place mark new
      → ((label : Label) (event : Event) → slice_get labels place ≡ Some label → event_at files label.spot ≡ Some event → IsMarkOf event mark)
      → AreMarks files labels new
  marks-put place mark old new are put mine k m label event at l e =
      ⊎_elim (λ n. are k m label event n l e)
      (λ n. subst (λ x. IsMarkOf event x) (sym n.1) (mine label event (subst (λ j. slice_get labels j ≡ Some label) n.0 l) e))
      (put k m at)

  -- the mark of a version is that of its event's rule
  pub mark-of : (vs : List Version) → labels ≡ map seen vs → (place : ℕ) (mark : Option Mark) (marks : List (Option Mark)) → AreMarks files labels marks
      → MatchOption mark (Unit {0}) (λ m. slice_get marks place ≡ Some (Some m)) → (v : Version) (event : Event) → slice_get vs place ≡ Some v
      → event_at files v.spot ≡ Some event → IsMarkOf event mark
  mark-of vs is place None marks are at v event there e = tt
  mark-of vs is place (Some m) marks are at v event there e =
      are place (Some m) (seen v) event at (ap (λ ls. slice_get ls place) is ∙ (slice_get-map seen vs place ∙ ap (option_map seen) there)) e

-- what is read at a place is a mark, if each mark there is one
pub mark-at : (event : Event) (marks : List (Option Mark)) (place : ℕ) (mark : Option (Bor Mark))
    → ((m : Mark) → slice_get marks place ≡ Some (Some m) → IsMarkOf event (Some m))
    → MatchOption mark (Unit {0}) (λ m. slice_get marks place ≡ Some (Some m.now)) → MatchOption mark (Unit {0}) (λ m. IsMarkOf event (Some m.now))
mark-at event marks place None h at = tt
mark-at event marks place (Some m) h at = h m.now at

-- the first of these sources
abbrev pub first_source : Recurring → List Source → Recurring
first_source d [] = d
first_source d (Once ∷ sources) = d
first_source d (Of m ∷ sources) = m

-- what a series leaves is a mark of the version that it is of
module _ (files : List FileSaid) (vs : List Version) (k : ℕ) {v : Version} (there : slice_get vs k ≡ Some v) where
  pub own-mark : (series : Series) (mark : Option Mark) {m : Recurring} → event_at files v.spot ≡ Some m.event → series_sources series ≡ Of m ∷ []
      → IsMarkOf series.event.now mark → (label : Label) (event : Event) → slice_get (map seen vs) k ≡ Some label
      → event_at files label.spot ≡ Some event → IsMarkOf event mark
  own-mark series mark {m = m} stands sources is label event at e =
      let label-is : label ≡ seen v = ap (λ o. unwrap_or o label) (sym at ∙ (slice_get-map seen vs k ∙ ap (option_map seen) there)) in
      let mine : event ≡ m.event = ap (λ o. unwrap_or o event) (sym e ∙ (ap (λ (l : Label). event_at files l.spot) label-is ∙ stands)) in
      let series-is : series.event.now ≡ m.event = ap (λ ms. (first_source m ms).event) sources in
      subst (λ x. IsMarkOf x mark) (series-is ∙ sym mine) is
