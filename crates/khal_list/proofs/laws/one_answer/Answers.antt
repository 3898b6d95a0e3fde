use Rattle.std.proofs.Common.{◌≡◌, ◌⊎◌, inl, inr, ℕ, ℤ, pos, Bool, true, false, true≢false, List, Some, None, Ok, Err, Result, Option}
use Rattle.std.proofs.Common.{refl, sym, ◌∙◌, ap, subst}
use Rattle.std.proofs.lemmas.Bool.Decides.{same_from_decides}
use Rattle.std.specs.Prelude.{option_map, unwrap_or, IsSome}
use Rattle.clap.specs.Words.{Text, IsAmong}
use Rattle.ics_zone.specs.ZoneSaid.{ZoneSaid}
use Rattle.ics_listing.specs.DayKeys.{day_key_rank, DayRank}
use Rattle.ics_listing.specs.Tokens.{OneDaySpelling, OneSpelling}
use Rattle.ics_listing.specs.Entry.{key_rank, Rank}
use Rattle.ics_listing.specs.declared.day_key.DayKey.{DayKey}
use Rattle.ics_listing.specs.declared.window.Window.{Window}
use Rattle.ics_listing.specs.declared.key.Key.{Key}
use Rattle.khal_list.specs.Agree.{Agree, LeavesHelpOpen, SameRequest, day_after}
use Rattle.khal_words.specs.Entries.{Entries, day_format_text, entries_of, format_text, limit_text, span_of, refusal_of, IsRefused, AreTaken}
use Rattle.khal_words.specs.Formats.{day_name, entry_name, IsFormat, OneFormat}
use Rattle.khal_words.specs.Limits.{IsLimitOf}
use Rattle.khal_list.specs.RequestOf.{AnswerIn, EntriesAnswer, RequestOf, IsAfterBy, IsDayKeyBy, IsDayKeyOf, IsRequest, IsKeyOf, IsNoToken}
use Rattle.khal_list.specs.RequestOf.{after_text, day_from, zone_named}
use Rattle.khal_list.specs.Windows.{ends_of}
use Rattle.khal_list.specs.declared.every_day.EveryDay.{EveryDay}
use Rattle.khal_list.specs.declared.request.Request.{Request}
use Rattle.khal_list.specs.declared.request_fault.RequestFault.{RequestFault}
use Rattle.khal_list.specs.declared.request_fault.RequestFault.TheVariants.{Usage, BadZone, BadWindow, BadToken, BadFormat, Memory}
use Rattle.khal_list.proofs.RequestLemmas.{good_token, has_window, no_both}
use Rattle.khal_list.proofs.laws.one_answer.Goals as goal

same_limit : (given : Option Text) (a b : Option ℕ) → IsLimitOf given a → IsLimitOf given b → a ≡ b
same_limit None None None p q = refl
same_limit (Some text) (Some a) (Some b) p q = sym p.0 ∙ q.0
same_limit given a b p q = absurd assumption

-- the key of a token is one
same_key : OneSpelling → (given : Option Text) (a b : Option Key) → IsKeyOf given a → IsKeyOf given b → option_map key_rank a ≡ option_map key_rank b
same_key one None None None p q = refl
same_key one (Some text) (Some a) (Some b) p q = ap Some (one (key_rank a) (key_rank b) p.0 q.0 (sym p.1 ∙ q.1))
same_key one given a b p q = absurd assumption

-- the keys after which a listing goes on are the same
module _ (one : OneSpelling) (days : OneDaySpelling) (entries : Entries) (zone : ZoneSaid) (v w : Window) (from : (start : ℤ) →
    day_from zone v start ≡ day_from zone w start) where
  -- the key under a day of a token is one
  same_day_key : (text : Text) (k l : DayRank) → IsDayKeyBy zone v text k → IsDayKeyBy zone w text l → k ≡ l
  same_day_key text k l (inl p) (inl q) = days k l p.0 q.0 (sym p.1 ∙ q.1)
  same_day_key text k l (inl p) (inr q) = absurd (no_both k l.key (sym p.1 ∙ q.1))
  same_day_key text k l (inr p) (inl q) = absurd (no_both l k.key (sym q.1 ∙ p.1))
  same_day_key text k l (inr p) (inr q) =
      let key = one k.key l.key p.0 q.0 (sym p.1 ∙ q.1) in
      let day = p.2 ∙ (ap (λ (r : Rank). day_from zone v r.start) key ∙ (from l.key.start ∙ sym q.2)) in
      λ i. record { day = day i; key = key i }

  same_day_after : (given : Option Text) (k l : Option DayKey) → IsDayKeyOf zone v given k → IsDayKeyOf zone w given l →
      option_map day_key_rank k ≡ option_map day_key_rank l
  same_day_after None None None p q = refl
  same_day_after (Some text) (Some k) (Some l) p q = ap Some (same_day_key text (day_key_rank k) (day_key_rank l) p q)
  same_day_after given k l p q = absurd assumption

  same_after : (k l : Option Key) (c d : Option EveryDay) → IsAfterBy entries zone v k c → IsAfterBy entries zone w l d →
      (option_map key_rank k ≡ option_map key_rank l) × (option_map day_after c ≡ option_map day_after d)
  same_after k l None None p q = (same_key one (after_text entries) k l p.1 q.1, refl)
  same_after k l None (Some d) p q = absurd (p.0 q.0)
  same_after k l (Some c) None p q = absurd (q.0 p.0)
  same_after k l (Some c) (Some d) p q =
      (ap (option_map key_rank) (p.1 ∙ sym q.1), ap Some (same_day_after (after_text entries) c.after d.after p.2 q.2))

-- what the parts of a request are read as in one way
record Readings : Type 0 where
  spelling : OneSpelling
  day_spelling : OneDaySpelling
  entries : OneFormat entry_name
  days : OneFormat day_name

readings : OneSpelling → OneDaySpelling → OneFormat entry_name → OneFormat day_name → Readings
readings spelling day_spelling entries days = record { spelling = spelling; day_spelling = day_spelling; entries = entries; days = days }

same_request : Readings → {entries : Entries} {zone : ZoneSaid} {now : ℤ} {a b : Request} → IsRequest entries zone now a → IsRequest entries zone now b →
    SameRequest a b
same_request one {entries = entries} {zone = zone} {now = now} {a = a} {b = b} p q =
    let ends = p.window ∙ sym q.window in
    let from = ap (λ (o : Option (ℤ × ℤ)). (unwrap_or o (pos 0, pos 0)).0) ends in
    let to = ap (λ (o : Option (ℤ × ℤ)). (unwrap_or o (pos 0, pos 0)).1) ends in
    let day : (start : ℤ) → day_from zone a.window start ≡ day_from zone b.window start = λ start. simp (from, to) in
    let after = same_after one.spelling one.day_spelling entries zone a.window b.window day a.after b.after a.every_day b.every_day p.after q.after in
    record {
      folder = p.folder ∙ sym q.folder;
      zone = p.zone ∙ sym q.zone;
      zones = p.zones ∙ sym q.zones;
      keep_going = same_from_decides a.keep_going b.keep_going p.keep_going q.keep_going;
      from = from;
      to = to;
      notstarted = same_from_decides a.window.notstarted b.window.notstarted p.notstarted q.notstarted;
      limit = same_limit (limit_text entries) a.limit b.limit p.limit q.limit;
      after = after.0;
      every_day = after.1;
      format = one.entries _ _ (sym p.format ∙ q.format);
      day_format = one.days _ _ (sym p.day_format ∙ q.day_format);
    }

open_help : (words : List Text) → IsRefused words true → IsRefused words false → LeavesHelpOpen words
open_help words p q = record {
  help = subst (λ kind. IsAmong kind (refusal_of words)) (p.asks.0 refl) p.among;
  kind = q.kind;
  among = q.among;
  other = λ is. absurd (true≢false (sym (q.asks.1 is)));
}

-- help is shown by both of two refusals, or by neither, as far as clap's model tells
same_help : (words : List Text) (help asks : Bool) → IsRefused words help → IsRefused words asks → (help ≡ asks) ⊎ LeavesHelpOpen words
same_help words true true p q = inl refl
same_help words false false p q = inl refl
same_help words true false p q = inr (open_help words p q)
same_help words false true p q = inr (open_help words q p)

-- two answers in a display zone clash unless they are the same
module _ (one : Readings) (words : List Text) (entries : Entries) (zone : ZoneSaid) (now : ℤ) where
  windowed : (a : Request) → IsRequest entries zone now a → IsSome (ends_of zone now (span_of entries))
  windowed a p = has_window entries zone now a.window p.window

  no_window : IsSome (ends_of zone now (span_of entries)) → ends_of zone now (span_of entries) ≡ None → ⊥
  no_window has none = let some : IsSome {T = ℤ × ℤ} None = subst IsSome none has in absurd (true≢false (sym some))

  no_token : (a : Request) → IsRequest entries zone now a → IsNoToken entries → ⊥
  no_token a p bad = good_token zone a.window a.after a.every_day p.after bad

  no_format : (a : Request) → IsRequest entries zone now a →
      (¬ IsFormat entry_name (format_text entries)) ⊎ (¬ IsFormat day_name (day_format_text entries)) → ⊥
  no_format a p (inl none) = none (a.formats.entries.pieces.items, p.format)
  no_format a p (inr none) = none (a.formats.days.pieces.items, p.day_format)

  agree_in : (a b : Result Request RequestFault) → AnswerIn entries zone now a → AnswerIn entries zone now b → Agree words a b
  agree_in (Err Memory) b p q = tt
  agree_in a (Err Memory) p q = tt
  agree_in (Ok a) (Ok b) p q = same_request one p q
  agree_in (Err BadWindow) (Err BadWindow) p q = tt
  agree_in (Err BadToken) (Err BadToken) p q = tt
  agree_in (Err BadFormat) (Err BadFormat) p q = tt
  agree_in (Err BadToken) (Err BadFormat) p q = absurd (q.token p.token)
  agree_in (Err BadFormat) (Err BadToken) p q = absurd (p.token q.token)
  agree_in a b p q = absurd (search (windowed, no_window, no_token, no_format))

-- the same of two answers in the zone that is named, if one is
agree_by : Readings → (words : List Text) (zone : Option ZoneSaid) (now : ℤ) (a b : Result Request RequestFault)
    → EntriesAnswer (entries_of words) zone now a → EntriesAnswer (entries_of words) zone now b → Agree words a b
agree_by one words (Some zone) now a b p q = agree_in one words (entries_of words) zone now a b p q
agree_by one words None now (Err Memory) b p q = tt
agree_by one words None now a (Err Memory) p q = tt
agree_by one words None now (Err BadZone) (Err BadZone) p q = tt
agree_by one words None now a b p q = absurd assumption

-- and of two answers to words
module _ (one : Readings) (words : List Text) (now : ℤ) where
  taken : (help : Bool) → AreTaken words → IsRefused words help → ⊥
  taken help none refused = subst (IsAmong refused.kind) none refused.among

  agree : (a b : Result Request RequestFault) → RequestOf words now a → RequestOf words now b → Agree words a b
  agree (Err Memory) b p q = tt
  agree a (Err Memory) p q = tt
  agree (Err (Usage text help)) (Err (Usage other asks)) p q = same_help words help asks p q
  agree (Err (Usage text help)) b p q = absurd (taken help q.0 p)
  agree a (Err (Usage text help)) p q = absurd (taken help p.0 q)
  agree a b p q = agree_by one words (zone_named (entries_of words)) now a b p.1 q.1

pub returns-clause-words : goal.returns-clause-words
returns-clause-words c = agree (readings c.one_spelling.ensures c.one_day_spelling.ensures c.one_format.ensures.entries c.one_format.ensures.days)

pub returns-clause-zone : goal.returns-clause-zone
returns-clause-zone c = λ words.
    agree_in (readings c.one_spelling.ensures c.one_day_spelling.ensures c.one_format.ensures.entries c.one_format.ensures.days) words (entries_of words)
