-- Listings that continue from a key, and the pages that limits cut.
use Rattle.std.specs.Prelude.{◌≡◌, ◌+◌, ◌≤◌, ⊤, ℕ, ℤ, true, false, List, [], ◌∷◌, ◌++◌, Option, Some, None, length, if◌then◌else◌}
use Rattle.std.specs.Option.{option_map}
use Rattle.ics_zone.specs.ZoneSaid.{ZoneSaid}
use Rattle.ics_file.specs.File.{FileSaid}
use Rattle.ics_listing.specs.After.{after_key}
use Rattle.ics_listing.specs.DayKeys.{after_day_key, day_key_rank, day_rank_of, OnDay}
use Rattle.ics_listing.specs.Tokens.{day_spelling, spelling}
use Rattle.ics_listing.specs.Entry.{Entry, key_rank, rank_of}
use Rattle.khal_list.specs.declared.every_day.EveryDay.{EveryDay}
use Rattle.khal_list.specs.declared.request.Request.{Request}
use Rattle.khal_list.specs.Headline.{HaveDayTokens, HaveTokens, IsDayListingOf, IsListingOf}
use Rattle.khal_list.specs.Listed.{asked_after, asked_after_day, day_key_on, first_of, is_cut, key_by, key_on}
use Rattle.khal_words.specs.Entries.{Entries}
use Rattle.khal_words.specs.declared.field.EntryField.TheVariants.{Token}
use Rattle.khal_list.specs.RequestOf.{after_text, IsRequest}
use Rattle.khal_list.specs.Text.{Style, day_under, entry_field_text, heading_text, text, text_after}

-- the listing after the key of one of its entries is that of the entries after it
abbrev pub GoesOn : Type 0
GoesOn =
    (files : List FileSaid) (request : Request) (front : List Entry) (o : Entry) (behind : List Entry) → IsListingOf files request (front ++ o ∷ behind)
    → option_map key_rank request.after ≡ Some (rank_of o) → asked_after request (front ++ o ∷ behind) ≡ behind

-- in each display zone, words whose `--after` has the token of an entry of the listing, and which do not have `--every-day`, ask for exactly the
-- entries after it
abbrev pub TokenGoesOn : Type 0
TokenGoesOn =
    (entries : Entries) (zone : ZoneSaid) (now : ℤ) (files : List FileSaid) (request : Request) (front : List Entry) (o : Entry) (behind : List Entry)
    → IsRequest entries zone now request → request.every_day ≡ None → after_text entries ≡ Some (spelling (rank_of o))
    → IsListingOf files request (front ++ o ∷ behind) → HaveTokens (front ++ o ∷ behind) → asked_after request (front ++ o ∷ behind) ≡ behind

-- the listing under each day after the key of one of its entries is that of the entries after it
abbrev pub DayGoesOn : Type 0
DayGoesOn =
    (files : List FileSaid) (request : Request) (every_day : EveryDay) (front : List OnDay) (p : OnDay) (behind : List OnDay) →
    IsDayListingOf files request (front ++ p ∷ behind)
    → option_map day_key_rank every_day.after ≡ Some (day_rank_of p) → asked_after_day every_day (front ++ p ∷ behind) ≡ behind

-- in each display zone, words with `--every-day` whose `--after` has the token of an entry under its day ask for exactly the entries after it
abbrev pub DayTokenGoesOn : Type 0
DayTokenGoesOn =
    (entries : Entries) (zone : ZoneSaid) (now : ℤ) (files : List FileSaid) (request : Request) (every_day : EveryDay)
    (front : List OnDay) (p : OnDay) (behind : List OnDay)
    → IsRequest entries zone now request → request.every_day ≡ Some every_day → after_text entries ≡ Some (day_spelling (day_rank_of p))
    → IsDayListingOf files request (front ++ p ∷ behind) → HaveDayTokens (front ++ p ∷ behind) → asked_after_day every_day (front ++ p ∷ behind) ≡ behind

-- what the line of an entry shows for `{token}`, and that of an entry under its day
abbrev pub shown_token : Style → Entry → List ℕ
shown_token style o = entry_field_text style (day_under style o) o Token

abbrev pub shown_day_token : Style → OnDay → List ℕ
shown_day_token style p = entry_field_text style p.day p.entry Token

-- in each display zone, words whose `--after` has the token that the line of an entry shows, and which do not have `--every-day`, ask for exactly
-- the entries after that line
abbrev pub LineGoesOn : Type 0
LineGoesOn =
    (entries : Entries) (zone : ZoneSaid) (now : ℤ) (files : List FileSaid) (style : Style) (request : Request)
    (front : List Entry) (o : Entry) (behind : List Entry)
    → IsRequest entries zone now request → request.every_day ≡ None → style.every_day ≡ false → after_text entries ≡ Some (shown_token style o)
    → IsListingOf files request (front ++ o ∷ behind) → HaveTokens (front ++ o ∷ behind) → asked_after request (front ++ o ∷ behind) ≡ behind

-- the same of words with `--every-day`, and of a line under a day
abbrev pub DayLineGoesOn : Type 0
DayLineGoesOn =
    (entries : Entries) (zone : ZoneSaid) (now : ℤ) (files : List FileSaid) (style : Style) (request : Request) (every_day : EveryDay)
    (front : List OnDay) (p : OnDay) (behind : List OnDay)
    → IsRequest entries zone now request → request.every_day ≡ Some every_day → style.every_day ≡ true → after_text entries ≡ Some (shown_day_token style p)
    → IsDayListingOf files request (front ++ p ∷ behind) → HaveDayTokens (front ++ p ∷ behind) → asked_after_day every_day (front ++ p ∷ behind) ≡ behind

-- the token from which a listing continues, if a limit cuts it, is the one that the last of its lines shows
abbrev pub LastLineShows : Type 0
LastLineShows =
    (style : Style) (limit : Option ℕ) (list : List Entry) → style.every_day ≡ false →
    option_map spelling (key_on limit list) ≡ key_by (shown_token style) limit list

-- the same under each day
abbrev pub LastDayLineShows : Type 0
LastDayLineShows =
    (style : Style) (limit : Option ℕ) (list : List OnDay) → style.every_day ≡ true →
    option_map day_spelling (day_key_on limit list) ≡ key_by (shown_day_token style) limit list

-- the day under which the last of these entries is listed, or the day before them if there are none
abbrev pub last_day : Style → Option ℤ → List Entry → Option ℤ
last_day style before [] = before
last_day style before (e ∷ es) = last_day style (Some (day_under style e)) es

-- the text of a list is that of its first entries, followed by that of the rest after the last day of the first
abbrev pub TextSplits : Type 0
TextSplits = (style : Style) (front rest : List Entry) → text style (front ++ rest) ≡ text style front ++ text_after style (last_day style None front) rest

-- if the rest is listed alone, it begins with the heading of its first day, and its lines are the same
abbrev pub TextGoesOn : Type 0
TextGoesOn = (style : Style) (e : Entry) (es : List Entry) →
    text style (e ∷ es) ≡ heading_text style (day_under style e) ++ text_after style (Some (day_under style e)) (e ∷ es)

-- what listings with these limits list together, each from the key that the one before names, until one names none
abbrev pub joined : {A K : Type 0} → (A → K) → (Option K → List A → List A) → List ℕ → Option K → List A → List A
joined rank after [] key list = []
joined rank after (limit ∷ limits) key list =
    if is_cut (Some limit) (after key list)
    then first_of (Some limit) (after key list) ++ joined rank after limits (key_by rank (Some limit) (after key list)) list
    else first_of (Some limit) (after key list)

abbrev pub total : List ℕ → ℕ
total [] = 0
total (limit ∷ limits) = limit + total limits

-- each limit is 1 or more
abbrev pub ArePositive : List ℕ → Type 0
ArePositive [] = ⊤
ArePositive (limit ∷ limits) = (1 ≤ limit) × ArePositive limits

-- pages of any limits that are together enough for the listing join to it
abbrev pub Pages : Type 0
Pages =
    (files : List FileSaid) (request : Request) (list : List Entry) (limits : List ℕ) → IsListingOf files request list → ArePositive limits →
    length list ≤ total limits
    → joined rank_of after_key limits None list ≡ list

-- the same of a listing under each day
abbrev pub DayPages : Type 0
DayPages =
    (files : List FileSaid) (request : Request) (list : List OnDay) (limits : List ℕ) → IsDayListingOf files request list → ArePositive limits →
    length list ≤ total limits
    → joined day_rank_of after_day_key limits None list ≡ list
