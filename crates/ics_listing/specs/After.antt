-- The entries of a list that come after a key.
use Rattle.std.specs.Prelude.{Bool, true, List, Option, Some, None, filter}
use Rattle.std.specs.Ordering.{is_lt}
use Rattle.ics_listing.specs.Entry.{Entry, Rank, rank_cmp, rank_of}

-- the entries with a greater key, or all if there is no key
abbrev pub after_key : Option Rank → List Entry → List Entry
after_key None list = list
after_key (Some key) list = filter (λ o. is_lt (rank_cmp key (rank_of o))) list

-- the key of an entry is greater than this one, if there is one
abbrev pub is_after : Option Rank → Entry → Bool
is_after None o = true
is_after (Some key) o = is_lt (rank_cmp key (rank_of o))
