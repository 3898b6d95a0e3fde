-- What a refusal of a token or of a format says of an answer to entries.
use Rattle.std.proofs.Common.{◌≡◌, ◌⊎◌, inl, inr, ℕ, ℤ, None, Some, Err, Option, Result, refl, sym, ap, ◌∙◌, subst, arith, get_or}
use Rattle.std.specs.Prelude.{IsErrOf, IsSome}
use Rattle.std.specs.Result.{IsErrAnd}
use Rattle.std.proofs.lemmas.Result.{err_from_is_err_and}
use Rattle.clap.specs.Words.{Text}
use Rattle.ics_zone.specs.ZoneSaid.{ZoneSaid}
use Rattle.ics_listing.specs.DayKeys.{day_key_rank, DayRank}
use Rattle.ics_listing.specs.Entry.{key_rank, Rank}
use Rattle.ics_listing.specs.Tokens.{day_spelling, spelling}
use Rattle.ics_listing.specs.declared.day_key.DayKey.{DayKey}
use Rattle.ics_listing.specs.declared.key.Key.{Key}
use Rattle.ics_listing.specs.declared.token.TokenFault.{TokenFault}
use Rattle.ics_listing.specs.declared.token.TokenFault.TheVariants as token
use Rattle.ics_listing.specs.declared.window.Window.{Window}
use Rattle.khal_words.specs.Entries.{Entries, day_format_text, format_text, span_of}
use Rattle.khal_words.specs.Formats.{day_name, entry_name, IsFormat}
use Rattle.khal_list.specs.RequestFaults.{format_fault, token_fault}
use Rattle.khal_list.specs.RequestOf.{AnswerIn, IsAfterBy, IsDayKeyOf, IsKeyOf, IsNoDayKey, IsNoKey, IsNoToken, after_text}
use Rattle.khal_list.specs.Windows.{ends_of}
use Rattle.khal_list.specs.declared.every_day.EveryDay.{EveryDay}
use Rattle.khal_words.specs.declared.format.FormatFault.{FormatFault}
use Rattle.khal_words.specs.declared.format.FormatFault.TheVariants as format
use Rattle.khal_list.specs.declared.request.Request.{Request}
use Rattle.khal_list.specs.declared.request_fault.RequestFault.{RequestFault}
use Rattle.khal_list.specs.declared.request_fault.RequestFault.TheVariants.{BadToken, BadFormat, Memory}

-- no key's token is one of a key under a day
pub no_both : (k : DayRank) (l : Rank) → day_spelling k ≡ spelling l → ⊥
no_both k l h = let digits : ◌≡◌ {A = ℕ} 50 49 = ap (λ (text : Text). get_or text 1 0) h in absurd (omega arith)

-- a text that gives a key is a token
token_of : (given : Option Text) (key : Option Key) → IsKeyOf given key → IsNoKey given → ⊥
token_of (Some text) (Some key) p bad = bad.none (key_rank key, p.0, (cc))
token_of given key p bad = absurd (first_of (assumption, cc bad.stands))

-- and one that gives a key under a day is a token, or one of an entry under a day
day_token_of : (zone : ZoneSaid) (window : Window) (given : Option Text) (key : Option DayKey) → IsDayKeyOf zone window given key → IsNoDayKey given → ⊥
day_token_of zone window (Some text) (Some key) (inl p) bad = bad.no_day (day_key_rank key, p.0, (cc))
day_token_of zone window (Some text) (Some key) (inr p) bad = bad.none (key_rank key.key, p.0, (cc))
day_token_of zone window given key p bad = absurd (first_of (assumption, cc bad.stands))

-- what gives the keys after which a listing goes on is a token
pub good_token : {entries : Entries} (zone : ZoneSaid) (window : Window) (after : Option Key) (every_day : Option EveryDay) →
    IsAfterBy entries zone window after every_day → IsNoToken entries → ⊥
good_token {entries = entries} zone window after None p bad = token_of (after_text entries) after p.1 bad.key
good_token {entries = entries} zone window after (Some every_day) p bad = day_token_of zone window (after_text entries) every_day.after p.2 (bad.day_key p.0)

module _ (entries : Entries) (zone : ZoneSaid) (now : ℤ) where
  abbrev pub Windowed : Type 0
  Windowed = IsSome (ends_of zone now (span_of entries))

  pub has_window : (window : Window) → Some (window.from, window.to) ≡ ends_of zone now (span_of entries) → Windowed
  has_window window ends = subst IsSome ends refl

  -- the fault that `?` passes on
  passed_on : (r : Result Request RequestFault) (fault : RequestFault) → IsErrAnd r (λ f. f ≡ fault) → AnswerIn entries zone now (Err fault) →
      AnswerIn entries zone now r
  passed_on r fault is h = let e = err_from_is_err_and r is in subst (AnswerIn entries zone now) (sym (e.1 ∙ ap Err e.2)) h

  pub no_token : {T : Type 0} (r : Result Request RequestFault) (fault : TokenFault) → IsErrAnd r (λ f. f ≡ token_fault fault)
      → Windowed → (IsErrOf {T = T} (Err fault) token.BadToken → IsNoToken entries) → AnswerIn entries zone now r
  no_token r token.BadToken gives window bad = passed_on r BadToken gives (record { window = window; token = bad refl })
  no_token r token.Memory gives window bad = passed_on r Memory gives tt

  pub no_format : {T : Type 0} (r : Result Request RequestFault) (fault : FormatFault) → IsErrAnd r (λ f. f ≡ format_fault fault)
      → Windowed → (¬ IsNoToken entries)
      → (IsErrOf {T = T} (Err fault) format.BadFormat → (¬ IsFormat entry_name (format_text entries)) ⊎ (¬ IsFormat day_name (day_format_text entries))) →
      AnswerIn entries zone now r
  no_format r format.BadFormat gives window token bad = passed_on r BadFormat gives (record { window = window; token = token; none = bad refl })
  no_format r format.Memory gives window token bad = passed_on r Memory gives tt
