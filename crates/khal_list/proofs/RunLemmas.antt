-- What a run has done once every file is read and the lines of those that are not listed are written.
use Rattle.std.proofs.Common.{◌≡◌, ◌≢◌, ◌⊎◌, inl, inr, ℕ, List, [], map, Option, Some, None, append-nil, refl, sym, ap, ◌∙◌, subst, arith}
use Rattle.std.specs.Prelude.{◌↔◌}
use Rattle.std.specs.Io.KnownBytes.{Appends, Keeps}
use Rattle.std.specs.Option.{option_copied, option_map}
use denote.Ref.{Bor}
use Rattle.ics_file.specs.File.{FileSaid}
use Rattle.ics_event.specs.Kept.{KeptTexts}
use Rattle.ics_file.specs.Kept.{kept_said}
use Rattle.ics_zone.specs.declared.display.Display.{Display}
use Rattle.ics_listing.specs.After.{after_key}
use Rattle.ics_starts.specs.Clocks.{display_clock}
use Rattle.ics_listing.specs.DayKeys.{day_key_rank, day_rank_of, after_day_key, on_day_cmp, OnDay}
use Rattle.ics_series.specs.OnDays.{IsOnDay}
use Rattle.ics_listing.specs.Tokens.{day_spelling, IsDayKey, IsKey, spelling}
use Rattle.ics_listing.specs.Entry.{Entry, entry_cmp, key_rank, rank_of}
use Rattle.ics_listing.specs.declared.day_key.DayKey.{DayKey}
use Rattle.ics_listing.specs.declared.key.Key.{Key}
use Rattle.ics_listing.specs.Listing.{IsListing}
use Rattle.ics_series.specs.Meets.{IsListed}
use Rattle.ics_series.specs.Occurs.{Occurs}
use Rattle.khal_list.specs.declared.every_day.EveryDay.{EveryDay}
use Rattle.khal_list.specs.declared.request.Request.{Request}
use Rattle.khal_reading.specs.declared.status.Status.{Status}
use Rattle.khal_reading.specs.declared.status.Status.TheVariants.{Faulty}
use Rattle.khal_ports.specs.Answers.{Answer, Contents}
use Rattle.khal_reading.specs.Asked.{Asked, AsksAll, AsksSome}
use Rattle.khal_reading.specs.Gives.{all_wanted, error_lines, listed_files, reads_of, IsReading}
use Rattle.khal_ports.specs.Finds.{FindAnswer}
use Rattle.khal_ports.specs.Growth.{TookFront}
use Rattle.khal_list.specs.Headline.{more_line, Inputs, Lists, Outputs, Shown, ShownInPart, Shows, ShowsDays, ShowsOnce, Stops}
use Rattle.khal_list.specs.Inner.Kept.{texts_named}
use Rattle.khal_list.specs.Listed.{day_key_on, days_text_of, key_on, listing_text}
use Rattle.khal_ports.specs.Reads.{ReadsAll, ReadsSome}
use Rattle.khal_reading.proofs.AskedLemmas.{all-some}
use Rattle.khal_list.proofs.KeptLemmas.{shows-kept}
use Rattle.khal_reading.proofs.RefusedLemmas.{lines-refused}
use Rattle.khal_ports.proofs.Written.{appends-both, appends-none, appends-same, written-front}

-- the whole of a text is a front of it
pub whole-front : {told new : Option (List ℕ)} {text : List ℕ} → Appends told new text → TookFront told new text
whole-front {text = text} h = written-front (record { done = text; taken = h; whole_is = append-nil text })

-- what stays as it was has what was added before
keeps-added : (told middle new : Option (List ℕ)) (text : List ℕ) → Appends told middle text → Keeps middle new → Appends told new text
keeps-added None middle new text h k = tt
keeps-added (Some bytes) (Some more) (Some all) text h k = k ∙ h
keeps-added told middle new text h k = absurd assumption

-- a text that is shown is shown once the output is flushed, and in part if that fails
module _ (shows : List ℕ → Option (List ℕ) → Type 0) (told middle new token : Option (List ℕ)) (some : Shown shows told middle token)
    (kept : Keeps middle new) where
  pub shown-kept : Shown shows told new token
  shown-kept = (some.0, some.1, keeps-added told middle new some.0 some.2 kept)

  pub part-kept : ShownInPart shows told new
  part-kept = inr (some.0, token, some.1, whole-front (keeps-added told middle new some.0 some.2 kept))

-- the key that is lent
copied-key : {K R : Type 0} (rank : K → R) (lent : Option (Bor K)) (key : Option K) → option_copied lent ≡ key →
    option_map (λ k. rank k.now) lent ≡ option_map rank key
copied-key rank None key h = ap (option_map rank) h
copied-key rank (Some k) key h = ap (option_map rank) h

-- the text of what an agenda of these files has to come after the key that is lent is what the request shows once
pub shows-once : {files : List FileSaid} {display : Display} {request : Request} (lent : Option (Bor Key)) {coming : List Entry} {token : Option (List ℕ)} →
    display ≡ request.zone → option_copied lent ≡ request.after → ((o : Entry) → Occurs files (display_clock display) o → IsKey (rank_of o))
    → (list : List Entry) × IsListing entry_cmp (IsListed files (display_clock display) request.window) list
    × (coming ≡ after_key (option_map (λ k. key_rank k.now) lent) list)
    → token ≡ option_map spelling (key_on request.limit coming) → ShowsOnce files request (listing_text request coming) token
shows-once {request = request} lent zone key keys whole is =
    let coming = whole.2 ∙ ap (λ k. after_key k whole.0) (copied-key key_rank lent request.after key) in
    record {
      list = whole.0;
      listing = rw zone at whole.1;
      tokens = λ o m. keys o ((whole.1.exact o).0 m).0;
      shown_is = ap (listing_text request) coming;
      token_is = is ∙ ap (λ these. option_map spelling (key_on request.limit these)) coming;
    }

-- the text of what is to come under each day is what the request shows under each day
pub shows-days : {files : List FileSaid} {display : Display} {request : Request} {every_day : EveryDay} (lent : Option (Bor DayKey)) {list : List OnDay}
    {token : Option (List ℕ)} → display ≡ request.zone → option_copied lent ≡ every_day.after
    → ((p : OnDay) → IsOnDay files (display_clock display) request.window p → IsDayKey (day_rank_of p))
    → IsListing on_day_cmp (IsOnDay files (display_clock display) request.window) list
    → token ≡ option_map day_spelling (day_key_on request.limit (after_day_key (option_map (λ k. day_key_rank k.now) lent) list)) →
    ShowsDays files request every_day (days_text_of request (after_day_key (option_map (λ k. day_key_rank k.now) lent) list)) token
shows-days {request = request} {every_day = every_day} lent {list = list} zone key keys listing is =
    let same = copied-key day_key_rank lent every_day.after key in
    record {
      list = list;
      listing = rw zone at listing;
      tokens = λ p m. keys p ((listing.exact p).0 m);
      shown_is = ap (λ k. days_text_of request (after_day_key k list)) same;
      token_is = is ∙ ap (λ k. option_map day_spelling (day_key_on request.limit (after_day_key k list))) same;
    }

-- what is shown of the texts that are kept is what is shown of the files
module _ (request : Request) (shown : List ℕ) (token : Option (List ℕ)) where
  shows-whole : {keep : KeptTexts} {files : List FileSaid} (listed : List FileSaid) → files ≡ map (kept_said keep) listed →
      keep ≡ texts_named request.formats.entries.pieces.items → Shows files request shown token → Shows listed request shown token
  shows-whole listed are named shows =
      shows-kept request listed shown token
      (subst (λ these. Shows these request shown token) (are ∙ ap (λ (k : KeptTexts). map (kept_said k) listed) named) shows)

module _ {S Z : Type 0} {reads : S → ℕ → Answer → S → Type 0} {finds : Z → List ℕ → FindAnswer → Z → Type 0} {i : Inputs S Z} {request : Request} where
  -- an allocation failed while files were read
  pub stops-reading : {out err : Option (List ℕ)} → (contents : List Contents) × (asked : List Asked)
      × ReadsSome reads i.names i.source contents i.source_after
      × AsksSome finds [] (all_wanted request.keep_going (reads_of i.names contents)) i.zones asked i.zones_after →
      Stops reads finds i request (record { out = out; out_after = out; err = err; err_after = err })
  stops-reading {err = err} some = inl (record {
    contents = some.0;
    read = some.2;
    asked = some.1;
    gave = some.3;
    none = refl;
    lines = record { count = 0; within = omega arith; taken = appends-none err };
  })

  -- the files are read, and their lines are given to `err`
  module _ {o : Outputs} {keep : KeptTexts} {files : List FileSaid} {errors given : List ℕ}
      (all : (contents : List Contents) × (asked : List Asked) × ReadsAll reads i.names i.source contents i.source_after
      × AsksAll finds [] (all_wanted request.keep_going (reads_of i.names contents)) i.zones asked i.zones_after
      × IsReading request.keep_going keep asked (reads_of i.names contents) files errors) (same : given ≡ errors) where
    -- they were not written whole
    pub stops-lines : o.out_after ≡ o.out → TookFront o.err o.err_after given → Stops reads finds i request o
    stops-lines none front = inl (record {
      contents = all.0;
      read = record { last = i.source_after; from_first = all.2.from_first; ended = inl (refl, omega (arith, all.2.each)) };
      asked = all.1;
      gave = all-some finds all.3;
      none = none;
      lines = subst (TookFront o.err o.err_after) (same ∙ all.4.errors_are) front;
    })

    module _ (named : keep ≡ texts_named request.formats.entries.pieces.items) (told : Option (List ℕ)) (wrote : Appends o.err told given) where
      stops-writing : (shown : List ℕ) (token : Option (List ℕ)) → Shows files request shown token
          → ((o.err_after ≡ told) × TookFront o.out o.out_after shown) ⊎ (Appends o.out o.out_after shown × TookFront told o.err_after (more_line token)) →
          Stops reads finds i request o
      stops-writing shown token shows taken = inr (record {
        contents = all.0;
        read = all.2;
        asked = all.1;
        gave = all.3;
        told = told;
        lines = appends-same o.err told (same ∙ all.4.errors_are) wrote;
        stops = record {
          shown = shown;
          token = token;
          shows = shows-whole request shown token (listed_files request.keep_going all.1 (reads_of i.names all.0)) all.4.files_are named shows;
          taken = taken;
        };
      })

      -- the listing failed
      pub stops : o.err_after ≡ told → ShownInPart (Shows files request) o.out o.out_after → Stops reads finds i request o
      stops now (inl none) = stops-lines none (subst (λ end. TookFront o.err end given) (sym now) (whole-front wrote))
      stops now (inr some) = stops-writing some.0 some.1 some.2 (inl (now, some.3))

      -- the listing is written
      module _ (token : Option (List ℕ)) (some : Shown (Shows files request) o.out o.out_after token) where
        pub stops-more : TookFront told o.err_after (more_line token) → Stops reads finds i request o
        stops-more front = stops-writing some.0 token some.1 (inr (some.2, front))

        pub lists : Appends told o.err_after (more_line token) → (status : Status) → (status ≡ Faulty) ↔ (errors ≢ []) →
            Lists reads finds i request o status
        lists more status faulty = record {
          contents = all.0;
          read = all.2;
          asked = all.1;
          gave = all.3;
          shown = some.0;
          token = token;
          shows = shows-whole request some.0 token (listed_files request.keep_going all.1 (reads_of i.names all.0)) all.4.files_are named some.1;
          text = some.2;
          errors = appends-both o.err told o.err_after (error_lines request.keep_going all.1 (reads_of i.names all.0)) (more_line token)
              (appends-same o.err told (same ∙ all.4.errors_are) wrote, more);
          faulty = lines-refused request.keep_going all.1 (reads_of i.names all.0) (status ≡ Faulty)
              (subst (λ these. (status ≡ Faulty) ↔ (these ≢ [])) all.4.errors_are faulty);
        }
