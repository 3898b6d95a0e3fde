-- What of a list to come is written so far: its first entries.
use Rattle.std.specs.Prelude.{ℤ, ◌≢◌, true}
use Rattle.std.proofs.Common.{◌≡◌, ℕ, zero, suc, pred, ◌+◌, ◌<◌, take, drop, List, [], ◌∷◌, ◌++◌, Option, Some, None, length, refl, sym, ap, ◌∙◌, arith}
use Rattle.std.proofs.Common.{append-nil, append_assoc, length-append}
use Rattle.std.specs.Io.KnownBytes.{Appends}
use Rattle.std.specs.Option.{option_map}
use Rattle.std.proofs.Math.Seq.{take-append-add}
use Rattle.std.proofs.lemmas.Bool.{lt-ltb}
use Rattle.std.proofs.lemmas.List.{length-drop, take-append-drop}
use Rattle.ics_listing.specs.Entry.{Entry}
use Rattle.ics_listing.specs.DayKeys.{DayRank, day_rank_of, OnDay}
use Rattle.khal_list.specs.Drawn.{DrewAhead}
use Rattle.khal_ports.specs.Growth.{TookFront, TookPart}
use Rattle.khal_list.specs.Listed.{day_key_on, first_of, is_cut, last_by}
use Rattle.khal_list.specs.Text.{Style, days_text, days_text_after, entry_field_text, entry_text, heading_after, line_text}
use Rattle.khal_words.specs.Formats.{filled}
use Rattle.khal_ports.proofs.Written.{Written, appends-both, appends-none, appends-same, written-front, written-part}

-- the day that the last of some entries stands under, or the day before them
abbrev pub last_day : Option ℤ → List OnDay → Option ℤ
last_day before [] = before
last_day before (p ∷ ps) = last_day (Some p.day) ps

pub text-append : (style : Style) (before : Option ℤ) (xs ys : List OnDay)
    → days_text_after style before (xs ++ ys) ≡ days_text_after style before xs ++ days_text_after style (last_day before xs) ys
text-append style before [] ys = refl
text-append style before (x ∷ xs) ys = simp (text-append style (Some x.day) xs ys, append_assoc)

day-more : (before : Option ℤ) (xs : List OnDay) (e : OnDay) → last_day before (xs ++ e ∷ []) ≡ Some e.day
day-more before [] e = refl
day-more before (x ∷ xs) e = day-more (Some x.day) xs e

key-more : (xs : List OnDay) (e : OnDay) → last_by day_rank_of (xs ++ e ∷ []) ≡ Some (day_rank_of e)
key-more [] e = refl
key-more (x ∷ []) e = refl
key-more (x ∷ y ∷ ys) e = key-more (y ∷ ys) e

-- the text of an entry is not empty
pub entry_some : (style : Style) (before : Option ℤ) (day : ℤ) (e : Entry) → 0 < length (entry_text style before day e)
entry_some style before day e =
    omega (
      arith,
      length-append (heading_after style before day) (line_text style day e),
      length-append (filled (entry_field_text style day e) style.entries) (10 ∷ []),
    )

-- a limit of which some entries take their part
first-behind : (limit left : Option ℕ) (xs ys : List OnDay) → limit ≡ option_map (λ n. length xs + n) left → first_of limit (xs ++ ys) ≡ xs ++ first_of left ys
first-behind limit None xs ys h = rw h refl
first-behind limit (Some n) xs ys h = rw h (take-append-add xs ys n)

-- of a list that was to come some entries are written, and the others are to come
pub record Printed (style : Style) (limit : Option ℕ) (all coming : List OnDay) (told taken : Option (List ℕ)) (before : Option ℤ) (left : Option ℕ)
    (last : Option DayRank) : Type 0 where
  pub done : List OnDay
  pub parted : done ++ coming ≡ all
  pub taken_is : Appends told taken (days_text style done)
  pub day_is : before ≡ last_day None done
  pub left_is : limit ≡ option_map (λ n. length done + n) left
  pub last_is : last ≡ last_by day_rank_of done

module _ {style : Style} {limit : Option ℕ} {all : List OnDay} {told : Option (List ℕ)} where
  module _ {coming : List OnDay} {taken : Option (List ℕ)} {before : Option ℤ} {left : Option ℕ} {last : Option DayRank}
      (p : Printed style limit all coming told taken before left last) where
    first-is : first_of limit all ≡ p.done ++ first_of left coming
    first-is = rw (← p.parted) (first-behind limit left p.done coming p.left_is)

    written : Written told taken (days_text_after style before (first_of left coming)) (days_text style (first_of limit all))
    written = record {
      done = days_text style p.done;
      taken = p.taken_is;
      whole_is = rw (first-is, text-append style None p.done (first_of left coming), ← p.day_is) refl;
    }

    pub printed-front : TookFront told taken (days_text style (first_of limit all))
    printed-front = written-front written

    pub drew-none : DrewAhead (days_text style) all coming told taken
    drew-none = record {
      shown = p.done;
      ahead = [];
      part = [];
      left = [];
      given = p.parted;
      few = omega arith;
      taken = appends-same told taken (sym (append-nil (days_text style p.done))) p.taken_is;
      parted = ap (days_text style) (append-nil p.done) ∙ sym (append-nil (days_text style p.done));
      unfinished = λ some. absurd (some refl);
    }

    module _ {e : OnDay} {es : List OnDay} (gives : coming ≡ e ∷ es) where
      text-more : days_text style p.done ++ entry_text style before e.day e.entry ≡ days_text style (p.done ++ e ∷ [])
      text-more = rw (text-append style None p.done (e ∷ []), p.day_is, append-nil) refl

      drew-part : (new : Option (List ℕ)) (part left : List ℕ) → Appends taken new part → part ++ left ≡ entry_text style before e.day e.entry
          → 0 < length left → DrewAhead (days_text style) all es told new
      drew-part new part left h whole some = record {
        shown = p.done;
        ahead = e ∷ [];
        part = part;
        left = left;
        given = ap (λ l. p.done ++ l) (sym gives) ∙ p.parted;
        few = omega arith;
        taken = appends-both told taken new (days_text style p.done) part (p.taken_is, h);
        parted = sym text-more ∙ ap (λ t. days_text style p.done ++ t) (sym whole);
        unfinished = λ _ none. omega (arith, some, ap length none);
      }

      pub drew-one : DrewAhead (days_text style) all es told taken
      drew-one = drew-part taken [] (entry_text style before e.day e.entry) (appends-none taken) refl (entry_some style before e.day e.entry)

      pub drew-took : (new : Option (List ℕ)) → TookPart taken new (entry_text style before e.day e.entry) → DrewAhead (days_text style) all es told new
      drew-took new f =
          let whole = entry_text style before e.day e.entry in
          drew-part new (take f.count whole) (drop f.count whole) f.taken (take-append-drop f.count whole)
          (omega (arith, f.within, length-drop f.count whole))

      first-none : left ≡ Some 0 → first_of limit all ≡ p.done
      first-none none = first-is ∙ (ap (λ l. p.done ++ first_of l coming) none ∙ append-nil p.done)

      pub cut-text : left ≡ Some 0 → Appends told taken (days_text style (first_of limit all))
      cut-text none = appends-same told taken (ap (days_text style) (sym (first-none none))) p.taken_is

      pub cut-key : left ≡ Some 0 → last ≡ day_key_on limit all
      cut-key none = rw (cut-is, first-none none) p.last_is
        where
          cut-is : is_cut limit all ≡ true
          cut-is = ap (λ l. is_cut l all) (p.left_is ∙ ap (option_map (λ n. length p.done + n)) none)
              ∙ lt-ltb (length p.done + 0) (length all) (omega (arith, simp length-append at (ap length p.parted), ap length gives))

      -- a limit of which something is left
      first-lower : (l : Option ℕ) → l ≢ Some 0 → first_of l (e ∷ es) ≡ e ∷ first_of (option_map pred l) es
      first-lower None some = refl
      first-lower (Some zero) some = absurd (some refl)
      first-lower (Some (suc n)) some = refl

      pub printed-part : left ≢ Some 0 → (new : Option (List ℕ)) → TookFront taken new (entry_text style before e.day e.entry) →
          TookFront told new (days_text style (first_of limit all))
      printed-part some new f =
          written-part (days_text_after style (Some e.day) (first_of (option_map pred left) es)) (rw (gives, first-lower left some) at written) f

      module _ (lower : Option ℕ) (lower-is : left ≡ option_map (λ n. n + 1) lower) where
        left-lower : (l : Option ℕ) → option_map (λ n. length p.done + n) (option_map (λ n. n + 1) l) ≡ option_map (λ n. length (p.done ++ e ∷ []) + n) l
        left-lower None = refl
        left-lower (Some n) = ap Some (omega (arith, length-append p.done (e ∷ [])))

        pub printed-more : (new : Option (List ℕ)) → Appends taken new (entry_text style before e.day e.entry) →
            Printed style limit all es told new (Some e.day) lower (Some (day_rank_of e))
        printed-more new h = record {
          done = p.done ++ e ∷ [];
          parted = append_assoc p.done (e ∷ []) es ∙ (ap (λ l. p.done ++ l) (sym gives) ∙ p.parted);
          taken_is = appends-same told new text-more
              (appends-both told taken new (days_text style p.done) (entry_text style before e.day e.entry) (p.taken_is, h));
          day_is = sym (day-more None p.done e);
          left_is = p.left_is ∙ (ap (option_map (λ n. length p.done + n)) lower-is ∙ left-lower lower);
          last_is = sym (key-more p.done e);
        }
