-- How far a listing draws ahead of what it writes.
use Rattle.std.specs.Prelude.{◌≡◌, ◌≢◌, ◌≤◌, ◌++◌, ℕ, List, [], Option, Result, length, IfOk, OnErr, OnOk}
use Rattle.std.specs.Io.KnownBytes.{Appends}
use Rattle.std.specs.Option.{option_map}
use Rattle.ics_listing.specs.DayKeys.{day_key_rank, OnDay}
use Rattle.ics_listing.specs.declared.day_key.DayKey.{DayKey}
use Rattle.khal_ports.specs.declared.fault.RunFault.{RunFault}
use Rattle.khal_list.specs.declared.request.Request.{Request}
use Rattle.khal_ports.specs.Growth.{TookFront}
use Rattle.khal_list.specs.Listed.{day_key_on, days_text_of, style_of}
use Rattle.khal_list.specs.Text.{days_text}

-- What has a list to come has given entries whose text the sink has taken, and at most one more. Of the text of that one the sink has taken a prefix,
-- and something of it is left; if there is none, it has taken nothing more.
pub record DrewAhead {A : Type 0} (text : List A → List ℕ) (old new : List A) (out out' : Option (List ℕ)) : Type 0 where
  pub shown : List A
  pub ahead : List A
  pub part : List ℕ
  pub left : List ℕ
  pub given : shown ++ (ahead ++ new) ≡ old
  pub few : length ahead ≤ 1
  pub taken : Appends out out' (text shown ++ part)
  pub parted : text (shown ++ ahead) ≡ text shown ++ (part ++ left)
  pub unfinished : ahead ≢ [] → left ≢ []

-- Of entries under days that were to come the text of the first was written, up to the limit, or a prefix of it; and these are to come now. The
-- key is that of the last one written, if the limit cut the list.
pub record Puts (request : Request) (coming : List OnDay → Type 0) (list : List OnDay) (out out' : Option (List ℕ)) (result : Result (Option DayKey) RunFault) :
    Type 0 where
  pub text : OnOk result (Appends out out' (days_text_of request list))
  pub key : IfOk result (λ key. option_map day_key_rank key ≡ day_key_on request.limit list)
  pub front : OnErr result (TookFront out out' (days_text_of request list))
  pub rest : List OnDay
  pub to_come : coming rest
  pub drew : DrewAhead (days_text (style_of request)) list rest out out'
