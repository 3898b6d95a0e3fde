-- What a request shows of a list of entries, and how it is written.
use Rattle.std.specs.Prelude.{◌∷◌, ℕ, Bool, false, List, [], Option, Some, None, is_some, length, nat_lt, take, if◌then◌else◌}
use Rattle.std.specs.Option.{option_map}
use Rattle.ics_listing.specs.After.{after_key}
use Rattle.ics_starts.specs.Clocks.{display_clock}
use Rattle.ics_listing.specs.DayKeys.{day_key_rank, DayRank, after_day_key, day_rank_of, OnDay}
use Rattle.ics_listing.specs.Entry.{Entry, Rank, key_rank, rank_of}
use Rattle.khal_list.specs.declared.every_day.EveryDay.{EveryDay}
use Rattle.khal_list.specs.declared.request.Request.{Request}
use Rattle.khal_list.specs.Text.{Style, days_text, text}

-- the first entries, up to a limit
abbrev pub first_of : {A : Type 0} → Option ℕ → List A → List A
first_of None list = list
first_of (Some limit) list = take limit list

-- there are more than the limit
abbrev pub is_cut : {A : Type 0} → Option ℕ → List A → Bool
is_cut None list = false
is_cut (Some limit) list = nat_lt limit (length list)

-- the key of the last of these, if there is one
abbrev pub last_by : {A K : Type 0} → (A → K) → List A → Option K
last_by rank [] = None
last_by rank (x ∷ []) = Some (rank x)
last_by rank (x ∷ y ∷ more) = last_by rank (y ∷ more)

-- the key from which a listing continues: that of the last of the first ones, if there are more
abbrev pub key_by : {A K : Type 0} → (A → K) → Option ℕ → List A → Option K
key_by rank limit list = if is_cut limit list then last_by rank (first_of limit list) else None

-- of entries, and of entries under days
abbrev pub key_on : Option ℕ → List Entry → Option Rank
key_on limit list = key_by rank_of limit list

abbrev pub day_key_on : Option ℕ → List OnDay → Option DayRank
day_key_on limit list = key_by day_rank_of limit list

-- the part of the listing of the window that comes after the request's key
abbrev pub asked_after : Request → List Entry → List Entry
asked_after request list = after_key (option_map key_rank request.after) list

-- how the listing of a request is written
abbrev pub style_of : Request → Style
style_of request = record {
  clock = display_clock request.zone;
  from = request.window.from;
  every_day = is_some request.every_day;
  entries = request.formats.entries.pieces.items;
  days = request.formats.days.pieces.items;
}

-- the text of the first entries of a list, up to the request's limit
abbrev pub listing_text : Request → List Entry → List ℕ
listing_text request list = text (style_of request) (first_of request.limit list)

-- the part of the listing under each day that comes after this key
abbrev pub asked_after_day : EveryDay → List OnDay → List OnDay
asked_after_day every_day list = after_day_key (option_map day_key_rank every_day.after) list

abbrev pub days_text_of : Request → List OnDay → List ℕ
days_text_of request list = days_text (style_of request) (first_of request.limit list)
