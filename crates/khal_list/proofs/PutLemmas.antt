-- What is written of a list to come, and of a feed whose entries are each listed once.
use Rattle.std.proofs.Common.{◌≡◌, ℕ, List, [], ◌∷◌, ◌++◌, Option, Some, None, Result, Ok, Err, map, take, length, refl, sym, ap, ◌∙◌, subst, append_assoc}
use Rattle.std.specs.Prelude.{◌≤◌, Bool, true, false, IfOk, OnOk, nat_lt, if◌then◌else◌}
use Rattle.std.specs.Io.KnownBytes.{Appends}
use Rattle.std.specs.Option.{option_map}
use Rattle.std.specs.Result.{IsErr}
use Rattle.std.proofs.lemmas.List.{length-map, map-append, take-map, take_at}
use Rattle.std.proofs.lemmas.Result.{IfOk-from_err, IfOk-weaker}
use Rattle.ics_listing.specs.DayKeys.{day_key_rank, day_rank_of, DayRank, OnDay}
use Rattle.ics_listing.specs.declared.day_key.DayKey.{DayKey}
use Rattle.ics_listing.specs.Entry.{Entry, key_rank, rank_of}
use Rattle.khal_ports.specs.declared.fault.RunFault.{RunFault}
use Rattle.khal_list.specs.declared.request.Request.{Request}
use Rattle.khal_list.specs.Drawn.{DrewAhead, Puts}
use Rattle.khal_ports.specs.Growth.{TookFront}
use Rattle.khal_list.specs.Listed.{day_key_on, days_text_of, first_of, is_cut, key_on, last_by, style_of, listing_text}
use Rattle.khal_list.specs.Text.{Style, days_text, text, under}
use Rattle.khal_ports.proofs.Written.{on_err}

-- the first entries, each under its day, are the first of those under days
first-under : (style : Style) (limit : Option ℕ) (list : List Entry) → first_of limit (map (under style) list) ≡ map (under style) (first_of limit list)
first-under style None list = refl
first-under style (Some n) list = take-map (under style) n list

-- the key of the last of them, without its day
last-under : (style : Style) (list : List Entry) → option_map (λ r. r.key) (last_by day_rank_of (map (under style) list)) ≡ last_by rank_of list
last-under style [] = refl
last-under style (e ∷ []) = refl
last-under style (e ∷ f ∷ more) = last-under style (f ∷ more)

cut-under : (style : Style) (limit : Option ℕ) (list : List Entry) → is_cut limit (map (under style) list) ≡ is_cut limit list
cut-under style None list = refl
cut-under style (Some n) list = ap (nat_lt n) (length-map list (under style))

key-under : (style : Style) (limit : Option ℕ) (list : List Entry) → option_map (λ r. r.key) (day_key_on limit (map (under style) list)) ≡ key_on limit list
key-under style limit list =
    rw (cut-under style limit list, first-under style limit list) (chosen (is_cut limit list))
  where
    chosen : (cut : Bool) → option_map (λ r. r.key) (if cut then last_by day_rank_of (map (under style) (first_of limit list)) else None)
        ≡ (if cut then last_by rank_of (first_of limit list) else None)
    chosen true = last-under style (first_of limit list)
    chosen false = refl

pub text-under : (request : Request) (list : List Entry) → days_text_of request (map (under (style_of request)) list) ≡ listing_text request list
text-under request list = ap (days_text (style_of request)) (first-under (style_of request) request.limit list)

-- a list without its days
abbrev entries : List OnDay → List Entry
entries list = map (λ p. p.entry) list

entries-under : (style : Style) (list : List Entry) → entries (map (under style) list) ≡ list
entries-under style [] = refl
entries-under style (e ∷ es) = ap (λ l. e ∷ l) (entries-under style es)

-- a front of entries that each stand under their own day
front-under : (style : Style) (shown rest : List OnDay) (list : List Entry) → shown ++ rest ≡ map (under style) list → shown ≡ map (under style) (entries shown)
front-under style shown rest list h =
    let front : shown ≡ map (under style) (take (length shown) list) =
    sym (take_at shown rest (length shown) refl) ∙ (ap (take (length shown)) h ∙ take-map (under style) (length shown) list) in
    front ∙ ap (map (under style)) (sym (ap entries front ∙ entries-under style (take (length shown) list)))

pub drew-under : (style : Style) (old new : List Entry) {rest : List OnDay} {out out' : Option (List ℕ)} → rest ≡ map (under style) new
    → DrewAhead (days_text style) (map (under style) old) rest out out' → DrewAhead (text style) old new out out'
drew-under style old new {rest = rest} {out = out} {out' = out'} is d = record {
  shown = entries d.shown;
  ahead = entries d.ahead;
  part = d.part;
  given = rw (← entries-under style new, ← is) (simp map-append at (ap entries d.given) ∙ entries-under style old);
  few = subst (λ n. n ≤ 1) (sym (length-map d.ahead (λ (p : OnDay). p.entry))) d.few;
  taken = subst (λ (l : List OnDay). Appends out out' (days_text style l ++ d.part)) front d.taken;
  left = d.left;
  parted = ap (text style) (sym (map-append (λ p. p.entry) d.shown d.ahead))
      ∙ (ap (days_text style) (sym both) ∙ (d.parted ∙ ap (λ l. days_text style l ++ (d.part ++ d.left)) front));
  unfinished = λ some. d.unfinished (λ none. some (ap entries none));
}
  where
    front : d.shown ≡ map (under style) (entries d.shown)
    front = front-under style d.shown (d.ahead ++ rest) old d.given

    both : d.shown ++ d.ahead ≡ map (under style) (entries (d.shown ++ d.ahead))
    both = front-under style (d.shown ++ d.ahead) rest old (append_assoc d.shown d.ahead rest ∙ d.given)

-- what a fault leaves, and what the limit leaves
module _ {request : Request} {coming : List OnDay → Type 0} {list rest : List OnDay} {out out' : Option (List ℕ)} (r : Result (Option DayKey) RunFault)
    (front : TookFront out out' (days_text_of request list)) (to_come : coming rest) (drew : DrewAhead (days_text (style_of request)) list rest out out') where
  puts : OnOk r (Appends out out' (days_text_of request list)) → IfOk r (λ key. option_map day_key_rank key ≡ day_key_on request.limit list) →
      Puts request coming list out out' r
  puts text key = record { text = text; key = key; front = on_err r front; rest = rest; to_come = to_come; drew = drew }

  pub puts-fault : IsErr r → Puts request coming list out out' r
  puts-fault err = puts (IfOk-from_err r _ err) (IfOk-from_err r _ err)

  pub puts-cut : {last : Option DayRank} → IfOk r (λ key. option_map day_key_rank key ≡ last) → Appends out out' (days_text_of request list)
      → last ≡ day_key_on request.limit list → Puts request coming list out out' r
  puts-cut is text same = puts (IfOk-weaker r _ _ (λ key _. text) is) (IfOk-weaker r _ _ (λ key e. e ∙ same) is)

-- what is written of a feed, each of whose entries stands under its own day
abbrev PutsOnce : Request → List Entry → List Entry → Option (List ℕ) → Option (List ℕ) → Result (Option DayKey) RunFault → Type 0
PutsOnce request old new out out' result =
    Puts request (λ rest. rest ≡ map (under (style_of request)) new) (map (under (style_of request)) old) out out' result

module _ (request : Request) (old new : List Entry) {out out' : Option (List ℕ)} where
  pub front-once : (fault : RunFault) → PutsOnce request old new out out' (Err fault) → TookFront out out' (listing_text request old)
  front-once fault p = subst (λ t. TookFront out out' t) (text-under request old) p.front

  pub text-once : (key : Option DayKey) → PutsOnce request old new out out' (Ok key) → Appends out out' (listing_text request old)
  text-once key p = subst (λ t. Appends out out' t) (text-under request old) p.text

  pub key-once : (key : Option DayKey) → PutsOnce request old new out out' (Ok key) → option_map (λ (k : DayKey). key_rank k.key) key ≡ key_on request.limit old
  key-once None p = ap (option_map (λ r. r.key)) p.key ∙ key-under (style_of request) request.limit old
  key-once (Some key) p = ap (option_map (λ r. r.key)) p.key ∙ key-under (style_of request) request.limit old

  pub drew-once : (result : Result (Option DayKey) RunFault) → PutsOnce request old new out out' result → DrewAhead (text (style_of request)) old new out out'
  drew-once result p = drew-under (style_of request) old new p.to_come p.drew
