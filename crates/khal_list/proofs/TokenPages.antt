-- A listing that goes on from a token, and the text of its parts.
use Rattle.std.proofs.Common.{◌≡◌, ℤ, true, false, List, [], ◌∷◌, ◌++◌, Option, Some, None, map, inl, inr, refl, ◌∙◌, ap, append_assoc, subst}
use Rattle.std.specs.Option.{option_map}
use Rattle.std.proofs.lemmas.List.{map-append}
use Rattle.std.proofs.lemmas.Cmp.{int_eq_equiv}
use Rattle.clap.specs.Words.{Text}
use Rattle.ics_zone.specs.ZoneSaid.{ZoneSaid}
use Rattle.ics_starts.specs.Clocks.{display_clock}
use Rattle.ics_listing.specs.Listing.{IsIn}
use Rattle.ics_listing.specs.DayKeys.{day_key_rank, day_rank_of, DayRank, OnDay, after_day_key}
use Rattle.ics_series.specs.OnDays.{DayListingBehind}
use Rattle.ics_listing.specs.Tokens.{day_spelling, IsDayKey, OneDaySpelling, OneSpelling, IsKey, spelling}
use Rattle.ics_listing.specs.Entry.{Entry, Rank, key_rank, rank_of}
use Rattle.ics_listing.specs.declared.day_key.DayKey.{DayKey}
use Rattle.ics_listing.specs.declared.window.Window.{Window}
use Rattle.ics_listing.specs.declared.key.Key.{Key}
use Rattle.khal_list.specs.Pages.{DayGoesOn, DayLineGoesOn, DayTokenGoesOn, LastDayLineShows, LastLineShows, LineGoesOn, TextGoesOn, TextSplits}
use Rattle.khal_list.specs.Pages.{TokenGoesOn, last_day, shown_day_token, shown_token}
use Rattle.khal_list.specs.RequestOf.{after_text, IsAfterBy, IsDayKeyOf, IsKeyOf}
use Rattle.khal_list.specs.Text.{Style, day_under, heading_text, line_text, text, text_after, under}
use Rattle.khal_list.proofs.PageLemmas.{goes-on, key-shows}
use Rattle.khal_list.proofs.Printed.{text-append}
use Rattle.khal_list.proofs.RequestLemmas.{no_both}
use Rattle.khal_list.proofs.Printed as Printed

-- the key that the words name is that of the token
key-named : OneSpelling → (given : Option Text) (key : Option Key) {rank : Rank} → IsKeyOf given key → given ≡ Some (spelling rank) → IsKey rank →
    option_map key_rank key ≡ Some rank
key-named one (Some text) (Some key) {rank = rank} h e k = ap Some (one (key_rank key) rank h.0 k (cc))
key-named one given key h e k = absurd (first_of (assumption, cc))

-- an entry is in a list in which it stands
stands-in : {A : Type 0} (front : List A) (x : A) (behind : List A) → IsIn x (front ++ x ∷ behind)
stands-in [] x behind = inl refl
stands-in (y ∷ ys) x behind = inr (stands-in ys x behind)

pub token-goes-on : OneSpelling → TokenGoesOn
token-goes-on one entries zone now files request front o behind r once given listing tokens =
    let after = subst (λ e. IsAfterBy entries zone request.window request.after e) once r.after in
    goes-on request front o behind listing (key-named one (after_text entries) request.after after.1 given (tokens o (stands-in front o behind)))

pub day-goes-on : DayListingBehind → DayGoesOn
day-goes-on behind-is files request every_day front p behind listing after =
    ap (λ k. after_day_key k (front ++ p ∷ behind)) after ∙ behind-is files (display_clock request.zone) request.window front p behind listing

-- the key under a day that the words name is that of the token
module _ (one : OneDaySpelling) (zone : ZoneSaid) (window : Window) where
  day-key-named : (given : Option Text) (key : Option DayKey) {rank : DayRank} → IsDayKeyOf zone window given key
      → given ≡ Some (day_spelling rank) → IsDayKey rank → option_map day_key_rank key ≡ Some rank
  day-key-named (Some text) (Some key) {rank = rank} (inl h) e k = ap Some (one (day_key_rank key) rank h.0 k (cc))
  day-key-named (Some text) (Some key) {rank = rank} (inr h) e k = absurd (no_both rank (key_rank key.key) (cc))
  day-key-named given key h e k = absurd (first_of (assumption, cc))

pub day-token-goes-on : OneDaySpelling → DayListingBehind → DayTokenGoesOn
day-token-goes-on one behind-is entries zone now files request every_day front p behind r some given listing tokens =
    let after = subst (λ e. IsAfterBy entries zone request.window request.after e) some r.after in
    day-goes-on behind-is files request every_day front p behind listing
    (day-key-named one zone request.window (after_text entries) every_day.after after.2 given (tokens p (stands-in front p behind)))

-- what a line shows is the token of its entry
shows-token : (style : Style) (o : Entry) → style.every_day ≡ false → shown_token style o ≡ spelling (rank_of o)
shows-token style o once = rw once refl

shows-day_token : (style : Style) (p : OnDay) → style.every_day ≡ true → shown_day_token style p ≡ day_spelling (day_rank_of p)
shows-day_token style p every = rw every refl

pub line-goes-on : OneSpelling → LineGoesOn
line-goes-on one entries zone now files style request front o behind r none once given =
    token-goes-on one entries zone now files request front o behind r none (given ∙ ap Some (shows-token style o once))

pub day-line-goes-on : OneDaySpelling → DayListingBehind → DayLineGoesOn
day-line-goes-on one behind-is entries zone now files style request every_day front p behind r some every given =
    day-token-goes-on one behind-is entries zone now files request every_day front p behind r some (given ∙ ap Some (shows-day_token style p every))

pub last-line-shows : LastLineShows
last-line-shows style limit list once = key-shows rank_of spelling (shown_token style) (λ o. shows-token style o once) limit list

pub last-day-line-shows : LastDayLineShows
last-day-line-shows style limit list every = key-shows day_rank_of day_spelling (shown_day_token style) (λ p. shows-day_token style p every) limit list

last-under : (style : Style) (before : Option ℤ) (front : List Entry) → Printed.last_day before (map (under style) front) ≡ last_day style before front
last-under style before [] = refl
last-under style before (e ∷ es) = last-under style (Some (day_under style e)) es

pub text-splits : TextSplits
text-splits style front rest =
    rw (map-append (under style) front rest, text-append style None (map (under style) front) (map (under style) rest), last-under style None front) refl

pub text-goes-on : TextGoesOn
text-goes-on style e es =
    let day = day_under style e in
    rw (append_assoc (heading_text style day) (line_text style day e) (text_after style (Some day) es), int_eq_equiv.refl day) refl
