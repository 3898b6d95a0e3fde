-- The keys of occurrences under their days.
use Rattle.std.specs.Prelude.{ℤ, Bool, ◌≡◌, true, List, [], ◌∷◌, filter, Option, Some, None}
use Rattle.std.specs.Ordering.{int_cmp, on, then_cmp, is_lt}
use Rattle.std.specs.declared.cmp.Ordering.{Ordering}
use Rattle.ics_listing.specs.Entry.{Entry, Rank, key_rank, rank_cmp, entry_of, rank_of}
use Rattle.ics_listing.specs.declared.day_key.DayKey.{DayKey}
use Rattle.ics_listing.specs.declared.occurrence.Occurrence.{Occurrence}

-- a day, counted from 1970-01-01, and the key of an occurrence under it
pub record DayRank : Type 0 where
  pub day : ℤ
  pub key : Rank

abbrev pub day_key_rank : DayKey → DayRank
day_key_rank key = record { day = key.day; key = key_rank key.key }

-- by day, then by key
abbrev pub day_rank_cmp : DayRank → DayRank → Ordering
day_rank_cmp = then_cmp (on (λ r. r.day) int_cmp) (on (λ r. r.key) rank_cmp)

-- an occurrence under one of its days
pub record OnDay : Type 0 where
  pub day : ℤ
  pub entry : Entry

abbrev pub on_day : ℤ → Entry → OnDay
on_day day o = record { day = day; entry = o }

abbrev pub on_day_of : ℤ × Occurrence → OnDay
on_day_of given = on_day given.0 (entry_of given.1)

-- what orders them
abbrev pub day_rank_of : OnDay → DayRank
day_rank_of p = record { day = p.day; key = rank_of p.entry }

abbrev pub on_day_cmp : OnDay → OnDay → Ordering
on_day_cmp = on day_rank_of day_rank_cmp

-- it comes after a key, if there is one
abbrev pub is_day_after : Option DayRank → OnDay → Bool
is_day_after None p = true
is_day_after (Some key) p = is_lt (day_rank_cmp key (day_rank_of p))

-- what of a list comes after a key
abbrev pub after_day_key : Option DayRank → List OnDay → List OnDay
after_day_key after list = filter (λ p. is_day_after after p) list

-- what gives its first of these gives this, and then has new to come
abbrev pub GivesOnDay : List OnDay → Option (ℤ × Occurrence) → List OnDay → Type 0
GivesOnDay old None new = (old ≡ []) × (new ≡ [])
GivesOnDay old (Some given) new = old ≡ on_day_of given ∷ new
