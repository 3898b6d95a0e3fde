-- What a request shows of files of which only the texts are kept that its format names is what it shows of the files.
use Rattle.std.proofs.Common.{◌≡◌, ℕ, ℤ, Bool, true, false, ◌||◌, cond, List, [], ◌∷◌, ◌++◌, map, Option, Some, None, refl, sym, ap, ◌∙◌, subst}
use Rattle.std.specs.Prelude.{nat_lt, fold}
use Rattle.std.specs.List.{filter, list_any}
use Rattle.std.specs.Option.{option_map}
use Rattle.std.proofs.lemmas.Bool.{or_right}
use Rattle.std.proofs.lemmas.List.{length-map, take-map}
use Rattle.ics_file.specs.File.{FileSaid}
use Rattle.ics_values.proofs.TextNameLemmas.{kept-with, text-is, text-of}
use Rattle.ics_values.specs.KeptTexts.{kept_text, no_texts}
use Rattle.ics_values.specs.TextNames.{same_text, text_at}
use Rattle.ics_values.specs.declared.text_name.TextName.{TextName}
use Rattle.ics_event.specs.Event.{texts_in}
use Rattle.ics_event.specs.Kept.{KeptTexts}
use Rattle.ics_file.specs.Kept.{kept_said}
use Rattle.ics_listing.specs.After.{after_key}
use Rattle.ics_starts.specs.Clocks.{display_clock}
use Rattle.ics_listing.specs.Entry.{Entry, Rank, key_rank, rank_of}
use Rattle.ics_listing.specs.Listing.{IsIn}
use Rattle.ics_listing.specs.DayKeys.{DayRank, OnDay, after_day_key, day_key_rank, day_rank_of, is_day_after}
use Rattle.ics_listing.specs.Tokens.{day_spelling, spelling}
use Rattle.ics_series.proofs.KeptLemmas.{day_listing-kept, kept_entry, kept_on, listing-kept}
use Rattle.ics_series.proofs.VersionLemmas.{map-in}
use Rattle.khal_words.specs.declared.field.EntryField.{EntryField}
use Rattle.khal_words.specs.declared.field.EntryField.TheVariants.{Text}
use Rattle.khal_words.specs.declared.format.Piece.{Piece}
use Rattle.khal_words.specs.declared.format.Piece.TheVariants.{Byte, Field}
use Rattle.khal_words.specs.Formats.{filled, shown_piece}
use Rattle.khal_reading.specs.Shown.{shown}
use Rattle.khal_list.specs.declared.every_day.EveryDay.{EveryDay}
use Rattle.khal_list.specs.declared.request.Request.{Request}
use Rattle.khal_list.specs.Headline.{Shows, ShowsBy, ShowsDays, ShowsOnce}
use Rattle.khal_list.specs.Inner.Kept.{texts_named, with_piece}
use Rattle.khal_list.specs.Listed.{asked_after, asked_after_day, day_key_on, days_text_of, first_of, is_cut, key_by, key_on, last_by, listing_text, style_of}
use Rattle.khal_list.specs.Text.{Style, days_text_after, entry_field_text, heading_after, under}

-- THE TEXTS that some pieces name are kept.
abbrev names : TextName → Piece EntryField → Bool
names name (Field (Text one)) = same_text one name
names name _ = false

abbrev pub AreKept : KeptTexts → List (Piece EntryField) → Type 0
AreKept keep pieces = (name : TextName) → list_any (names name) pieces ≡ true → text_at name keep ≡ true

or-none : (a : Bool) → a ≡ (a || false)
or-none true = refl
or-none false = refl

or-joined : (a b c : Bool) → ((a || b) || c) ≡ (a || (b || c))
or-joined true b c = refl
or-joined false b c = refl

with_piece-at : (name : TextName) (keep : KeptTexts) (piece : Piece EntryField) → text_at name (with_piece keep piece) ≡ (text_at name keep || names name piece)
with_piece-at name keep (Byte b) = or-none (text_at name keep)
with_piece-at name keep (Field (Text one)) = kept-with one name keep
with_piece-at name keep (Field field) = or-none (text_at name keep)

fold-at : (name : TextName) (keep : KeptTexts) (pieces : List (Piece EntryField)) →
    text_at name (fold with_piece keep pieces) ≡ (text_at name keep || list_any (names name) pieces)
fold-at name keep [] = or-none (text_at name keep)
fold-at name keep (piece ∷ pieces) =
    fold-at name (with_piece keep piece) pieces ∙ (ap (λ t. t || list_any (names name) pieces) (with_piece-at name keep piece)
    ∙ or-joined (text_at name keep) (names name piece) (list_any (names name) pieces))

named-kept : (pieces : List (Piece EntryField)) → AreKept (texts_named pieces) pieces
named-kept pieces name any =
    fold-at name no_texts pieces ∙ (ap (λ t. t || list_any (names name) pieces) (text-of (λ name. false) name) ∙ any)

module _ (keep : KeptTexts) where
  rest-kept : (piece : Piece EntryField) (pieces : List (Piece EntryField)) → AreKept keep (piece ∷ pieces) → AreKept keep pieces
  rest-kept piece pieces h = λ name any. h name (or_right (names name piece) (list_any (names name) pieces) any)

  piece-kept : (style : Style) (day : ℤ) (o : Entry) (piece : Piece EntryField) (pieces : List (Piece EntryField)) → AreKept keep (piece ∷ pieces) →
      shown_piece (entry_field_text style day (kept_entry keep o)) piece ≡ shown_piece (entry_field_text style day o) piece
  piece-kept style day o (Byte b) pieces h = refl
  piece-kept style day o (Field (Text name)) pieces h =
      let text : List ℕ = text_at name (texts_in o.event) in
      let kept : text_at name keep ≡ true = h name (ap (λ t. t || list_any (names name) pieces) (text-is name)) in
      ap shown (text-of (λ name. kept_text (text_at name keep) (text_at name (texts_in o.event))) name ∙ ap (λ k. kept_text k text) kept)
  piece-kept style day o (Field field) pieces h = refl

  filled-kept : (style : Style) (day : ℤ) (o : Entry) (pieces : List (Piece EntryField)) → AreKept keep pieces →
      filled (entry_field_text style day (kept_entry keep o)) pieces ≡ filled (entry_field_text style day o) pieces
  filled-kept style day o [] h = refl
  filled-kept style day o (piece ∷ pieces) h =
      λ i. piece-kept style day o piece pieces h i ++ filled-kept style day o pieces (rest-kept piece pieces h) i

  -- LISTS, mapped to what is kept of their entries.
  days-kept : (style : Style) → AreKept keep style.entries → (before : Option ℤ) (list : List OnDay) →
      days_text_after style before (map (kept_on keep) list) ≡ days_text_after style before list
  days-kept style h before [] = refl
  days-kept style h before (p ∷ ps) = λ i.
      (heading_after style before p.day ++ (filled-kept style p.day p.entry style.entries h i ++ 10 ∷ [])) ++ days-kept style h (Some p.day) ps i

  under-kept : (style : Style) (list : List Entry) → map (under style) (map (kept_entry keep) list) ≡ map (kept_on keep) (map (under style) list)
  under-kept style [] = refl
  under-kept style (o ∷ os) = ap (λ more. kept_on keep (under style o) ∷ more) (under-kept style os)

-- a list of which some are left out, up to a limit
module _ {A : Type 0} (k : A → A) where
  filter-kept : (test : A → Bool) → ((x : A) → test (k x) ≡ test x) → (list : List A) → filter test (map k list) ≡ map k (filter test list)
  filter-kept test same [] = refl
  filter-kept test same (x ∷ xs) = (λ i. cond (same x i) (k x ∷ filter-kept test same xs i) (filter-kept test same xs i)) ∙ by_test (test x)
    where
      by_test : (t : Bool) → cond t (k x ∷ map k (filter test xs)) (map k (filter test xs)) ≡ map k (cond t (x ∷ filter test xs) (filter test xs))
      by_test true = refl
      by_test _ = refl

  first-kept : (limit : Option ℕ) (list : List A) → first_of limit (map k list) ≡ map k (first_of limit list)
  first-kept None list = refl
  first-kept (Some limit) list = take-map k limit list

  cut-kept : (limit : Option ℕ) (list : List A) → is_cut limit (map k list) ≡ is_cut limit list
  cut-kept None list = refl
  cut-kept (Some limit) list = ap (nat_lt limit) (length-map list k)

  last-kept : {K : Type 0} (rank : A → K) → ((x : A) → rank (k x) ≡ rank x) → (list : List A) → last_by rank (map k list) ≡ last_by rank list
  last-kept rank same [] = refl
  last-kept rank same (x ∷ []) = ap Some (same x)
  last-kept rank same (x ∷ y ∷ more) = last-kept rank same (y ∷ more)

  key-kept : {K : Type 0} (rank : A → K) → ((x : A) → rank (k x) ≡ rank x) → (limit : Option ℕ) (list : List A) →
      key_by rank limit (map k list) ≡ key_by rank limit list
  key-kept rank same limit list =
      let last = ap (last_by rank) (first-kept limit list) ∙ last-kept rank same (first_of limit list) in λ i. cond (cut-kept limit list i) (last i) None

module _ (request : Request) where
  abbrev pieces : List (Piece EntryField)
  pieces = request.formats.entries.pieces.items

  abbrev keep : KeptTexts
  keep = texts_named pieces

  after-kept : (after : Option Rank) (list : List Entry) → after_key after (map (kept_entry keep) list) ≡ map (kept_entry keep) (after_key after list)
  after-kept None list = refl
  after-kept (Some key) list = filter-kept (kept_entry keep) _ (λ o. refl) list

  after_day-kept : (after : Option DayRank) (list : List OnDay) → after_day_key after (map (kept_on keep) list) ≡ map (kept_on keep) (after_day_key after list)
  after_day-kept None list = filter-kept (kept_on keep) (is_day_after None) (λ p. refl) list
  after_day-kept (Some key) list = filter-kept (kept_on keep) (is_day_after (Some key)) (λ p. refl) list

  text-kept : (list : List Entry) → listing_text request (map (kept_entry keep) list) ≡ listing_text request list
  text-kept list =
      let style : Style = style_of request in
      let first : List Entry = first_of request.limit list in
      ap (λ list. days_text_after style None (map (under style) list)) (first-kept (kept_entry keep) request.limit list)
      ∙ (ap (days_text_after style None) (under-kept keep style first) ∙ days-kept keep style (named-kept pieces) None (map (under style) first))

  days_text-kept : (list : List OnDay) → days_text_of request (map (kept_on keep) list) ≡ days_text_of request list
  days_text-kept list =
      let style : Style = style_of request in
      ap (days_text_after style None) (first-kept (kept_on keep) request.limit list)
      ∙ days-kept keep style (named-kept pieces) None (first_of request.limit list)

  module _ (files : List FileSaid) (shown : List ℕ) (token : Option (List ℕ)) where
    once-kept : ShowsOnce (map (kept_said keep) files) request shown token → ShowsOnce files request shown token
    once-kept h =
        let whole = listing-kept keep files (display_clock request.zone) request.window h.list h.listing in
        let list : List Entry = whole.0 in
        let asked : asked_after request h.list ≡ map (kept_entry keep) (asked_after request list) =
        ap (asked_after request) (sym whole.1) ∙ after-kept (option_map key_rank request.after) list in
        record {
          list = list;
          listing = whole.2;
          tokens = λ o m. h.tokens (kept_entry keep o) (subst (IsIn (kept_entry keep o)) whole.1 (map-in (kept_entry keep) o list m));
          shown_is = h.shown_is ∙ (ap (listing_text request) asked ∙ text-kept (asked_after request list));
          token_is = h.token_is ∙ ap (option_map spelling) (ap (key_on request.limit) asked
              ∙ key-kept (kept_entry keep) rank_of (λ o. refl) request.limit (asked_after request list));
        }

    days_kept : (every_day : EveryDay) → ShowsDays (map (kept_said keep) files) request every_day shown token → ShowsDays files request every_day shown token
    days_kept every_day h =
        let whole = day_listing-kept keep files (display_clock request.zone) request.window h.list h.listing in
        let list : List OnDay = whole.0 in
        let asked : asked_after_day every_day h.list ≡ map (kept_on keep) (asked_after_day every_day list) =
        ap (asked_after_day every_day) (sym whole.1) ∙ after_day-kept (option_map day_key_rank every_day.after) list in
        record {
          list = list;
          listing = whole.2;
          tokens = λ p m. h.tokens (kept_on keep p) (subst (IsIn (kept_on keep p)) whole.1 (map-in (kept_on keep) p list m));
          shown_is = h.shown_is ∙ (ap (days_text_of request) asked ∙ days_text-kept (asked_after_day every_day list));
          token_is = h.token_is ∙ ap (option_map day_spelling) (ap (day_key_on request.limit) asked
              ∙ key-kept (kept_on keep) day_rank_of (λ p. refl) request.limit (asked_after_day every_day list));
        }

    -- WHAT A REQUEST SHOWS of what is kept of the files is what it shows of them.
    by-days : (every_day : Option EveryDay) → ShowsBy every_day (map (kept_said keep) files) request shown token → ShowsBy every_day files request shown token
    by-days None h = once-kept h
    by-days (Some every_day) h = days_kept every_day h

    pub shows-kept : Shows (map (kept_said keep) files) request shown token → Shows files request shown token
    shows-kept h = by-days request.every_day h
