-- THE HEADLINE: what a run reads, lists and writes.
use Rattle.std.specs.Prelude.{◌≡◌, ◌↔◌, ◌⊎◌, ℕ, List, [], ◌∷◌, ◌++◌, Option, Some, None, Any, IsTrue, codes}
use Rattle.std.specs.Io.KnownBytes.{Appends}
use Rattle.std.specs.Option.{option_map}
use Rattle.ics_file.specs.File.{FileSaid}
use Rattle.ics_starts.specs.Clocks.{display_clock}
use Rattle.ics_listing.specs.Tokens.{day_spelling, IsDayKey, IsKey, spelling}
use Rattle.ics_listing.specs.Entry.{Entry, entry_cmp, rank_of}
use Rattle.ics_listing.specs.Listing.{IsIn, IsListing}
use Rattle.ics_series.specs.Meets.{IsListed}
use Rattle.ics_listing.specs.DayKeys.{day_rank_of, on_day_cmp, OnDay}
use Rattle.ics_series.specs.OnDays.{IsOnDay}
use Rattle.khal_list.specs.declared.every_day.EveryDay.{EveryDay}
use Rattle.khal_list.specs.declared.request.Request.{Request}
use Rattle.khal_reading.specs.declared.status.Status.{Status}
use Rattle.khal_reading.specs.declared.status.Status.TheVariants.{Faulty}
use Rattle.khal_ports.specs.Answers.{Answer, Contents}
use Rattle.khal_reading.specs.Asked.{Asked, AsksAll, AsksSome}
use Rattle.khal_reading.specs.Gives.{Read, all_wanted, error_lines, is_faulty, listed_files, reads_of}
use Rattle.khal_ports.specs.Finds.{FindAnswer}
use Rattle.khal_ports.specs.Growth.{TookFront}
use Rattle.khal_list.specs.Listed.{asked_after, asked_after_day, day_key_on, days_text_of, key_on, listing_text}
use Rattle.khal_ports.specs.Reads.{ReadsAll, ReadsSome}

-- THE listing of the files: the one strictly rising list of exactly their occurrences that meet the window
abbrev pub IsListingOf : List FileSaid → Request → List Entry → Type 0
IsListingOf files request list = IsListing entry_cmp (IsListed files (display_clock request.zone) request.window) list

-- THE listing of the files under each day: the one strictly rising list of exactly their occurrences that meet the window, under their days there
abbrev pub IsDayListingOf : List FileSaid → Request → List OnDay → Type 0
IsDayListingOf files request list = IsListing on_day_cmp (IsOnDay files (display_clock request.zone) request.window) list

-- the key of each entry has a token
abbrev pub HaveTokens : List Entry → Type 0
HaveTokens list = (o : Entry) → IsIn o list → IsKey (rank_of o)

abbrev pub HaveDayTokens : List OnDay → Type 0
HaveDayTokens list = (p : OnDay) → IsIn p list → IsDayKey (day_rank_of p)

-- What a request shows of the files: the text of the first entries of their listing after its key, up to its limit, and the token of the last of
-- them, if the limit cuts the listing.
pub record ShowsOnce (files : List FileSaid) (request : Request) (shown : List ℕ) (token : Option (List ℕ)) : Type 0 where
  pub list : List Entry
  pub listing : IsListingOf files request list
  pub tokens : HaveTokens list
  pub shown_is : shown ≡ listing_text request (asked_after request list)
  pub token_is : token ≡ option_map spelling (key_on request.limit (asked_after request list))

-- the same of their listing under each day
pub record ShowsDays (files : List FileSaid) (request : Request) (every_day : EveryDay) (shown : List ℕ) (token : Option (List ℕ)) : Type 0 where
  pub list : List OnDay
  pub listing : IsDayListingOf files request list
  pub tokens : HaveDayTokens list
  pub shown_is : shown ≡ days_text_of request (asked_after_day every_day list)
  pub token_is : token ≡ option_map day_spelling (day_key_on request.limit (asked_after_day every_day list))

-- under each day, if the request asks for that
abbrev pub ShowsBy : Option EveryDay → List FileSaid → Request → List ℕ → Option (List ℕ) → Type 0
ShowsBy None files request shown token = ShowsOnce files request shown token
ShowsBy (Some every_day) files request shown token = ShowsDays files request every_day shown token

abbrev pub Shows : List FileSaid → Request → List ℕ → Option (List ℕ) → Type 0
Shows files request shown token = ShowsBy request.every_day files request shown token

-- an output has gained such a text, whose listing continues from this token, if there is one
abbrev pub Shown : (List ℕ → Option (List ℕ) → Type 0) → Option (List ℕ) → Option (List ℕ) → Option (List ℕ) → Type 0
Shown shows out out' token = (shown : List ℕ) × shows shown token × Appends out out' shown

-- it has gained a prefix of such a text, or nothing
abbrev pub ShownInPart : (List ℕ → Option (List ℕ) → Type 0) → Option (List ℕ) → Option (List ℕ) → Type 0
ShownInPart shows out out' = (out' ≡ out) ⊎ ((shown : List ℕ) × (token : Option (List ℕ)) × shows shown token × TookFront out out' shown)

-- the line with the token from which a listing continues, if there is one: `more: TOKEN` and LF
abbrev pub more_line : Option (List ℕ) → List ℕ
more_line None = []
more_line (Some token) = codes "more: " ++ (token ++ 10 ∷ [])

-- what the files of a source are called, and the source and that of zone files before a run and after it
pub record Inputs (S Z : Type 0) : Type 0 where
  pub names : List (List ℕ)
  pub source : S
  pub source_after : S
  pub zones : Z
  pub zones_after : Z

-- what the two outputs have taken before a run and after it
pub record Outputs : Type 0 where
  pub out : Option (List ℕ)
  pub out_after : Option (List ℕ)
  pub err : Option (List ℕ)
  pub err_after : Option (List ℕ)

-- Every file was read once, in order, and each name that the files want was asked for once, in order. `out` has gained exactly the text that the
-- request shows of what the files give: the events of the accepted ones and, if the request goes on behind faults, those of the accepted parts of the
-- others. `err` has gained exactly the lines of the files that are not listed, or not whole, and, if the limit cut the listing, the line with the token
-- from which it continues. The status is Faulty exactly if there is a line of a file.
pub record Lists {S Z : Type 0} (reads : S → ℕ → Answer → S → Type 0) (finds : Z → List ℕ → FindAnswer → Z → Type 0) (inputs : Inputs S Z)
    (request : Request) (outputs : Outputs) (status : Status) : Type 0 where
  pub contents : List Contents
  pub read : ReadsAll reads inputs.names inputs.source contents inputs.source_after
  pub asked : List Asked
  pub gave : AsksAll finds [] (all_wanted request.keep_going (reads_of inputs.names contents)) inputs.zones asked inputs.zones_after
  pub shown : List ℕ
  pub token : Option (List ℕ)
  pub shows : Shows (listed_files request.keep_going asked (reads_of inputs.names contents)) request shown token
  pub text : Appends outputs.out outputs.out_after shown
  pub errors : Appends outputs.err outputs.err_after (error_lines request.keep_going asked (reads_of inputs.names contents) ++ more_line token)
  pub faulty : (status ≡ Faulty) ↔ Any (λ read. IsTrue (is_faulty request.keep_going asked read)) (reads_of inputs.names contents)

-- What was written if a run ends with a fault after every file is read and all their lines are in `err`, which then has taken this: a prefix of the
-- text that the request shows in `out`, or that whole text and a prefix of the last line in `err`.
pub record StopsListing (asked : List Asked) (reads : List Read) (request : Request) (outputs : Outputs) (told : Option (List ℕ)) : Type 0 where
  pub shown : List ℕ
  pub token : Option (List ℕ)
  pub shows : Shows (listed_files request.keep_going asked reads) request shown token
  pub taken :
      ((outputs.err_after ≡ told) × TookFront outputs.out outputs.out_after shown)
      ⊎ (Appends outputs.out outputs.out_after shown × TookFront told outputs.err_after (more_line token))

-- What was written if a run ends with a fault while it reads: nothing in `out` and, in `err`, a prefix of the lines of the files that were read.
pub record StopsReading {S Z : Type 0} (reads : S → ℕ → Answer → S → Type 0) (finds : Z → List ℕ → FindAnswer → Z → Type 0) (inputs : Inputs S Z)
    (request : Request) (outputs : Outputs) : Type 0 where
  pub contents : List Contents
  pub read : ReadsSome reads inputs.names inputs.source contents inputs.source_after
  pub asked : List Asked
  pub gave : AsksSome finds [] (all_wanted request.keep_going (reads_of inputs.names contents)) inputs.zones asked inputs.zones_after
  pub none : outputs.out_after ≡ outputs.out
  pub lines : TookFront outputs.err outputs.err_after (error_lines request.keep_going asked (reads_of inputs.names contents))

-- The same if every file is read and all their lines are in `err`.
pub record StopsWriting {S Z : Type 0} (reads : S → ℕ → Answer → S → Type 0) (finds : Z → List ℕ → FindAnswer → Z → Type 0) (inputs : Inputs S Z)
    (request : Request) (outputs : Outputs) : Type 0 where
  pub contents : List Contents
  pub read : ReadsAll reads inputs.names inputs.source contents inputs.source_after
  pub asked : List Asked
  pub gave : AsksAll finds [] (all_wanted request.keep_going (reads_of inputs.names contents)) inputs.zones asked inputs.zones_after
  pub told : Option (List ℕ)
  pub lines : Appends outputs.err told (error_lines request.keep_going asked (reads_of inputs.names contents))
  pub stops : StopsListing asked (reads_of inputs.names contents) request outputs told

-- What was written if a run ends with a fault: it ended as it read, or in the listing or the last line.
abbrev pub Stops : {S Z : Type 0} → (S → ℕ → Answer → S → Type 0) → (Z → List ℕ → FindAnswer → Z → Type 0) → Inputs S Z → Request → Outputs → Type 0
Stops reads finds inputs request outputs = StopsReading reads finds inputs request outputs ⊎ StopsWriting reads finds inputs request outputs
