-- Each row of an argument in a walk in which nothing fails holds values that this argument takes.
use Rattle.std.proofs.Common.{◌≡◌, ◌∙◌, ◌&&◌, ◌++◌, ℕ, zero, suc, Bool, cond, true, false, List, [], ◌∷◌, length, encode_utf8}
use Rattle.std.proofs.Common.{drop, Option, Some, None, is_some, refl, sym, ap, IfSome, find, fold, option_and_then, slice_get, option_map, chars, bytes_eq}
use Rattle.std.specs.List.{AllByRecursion, list_all}
use Rattle.std.specs.Option.{option_map_or}
use Rattle.std.proofs.lemmas.Bool.{and_from, cond_both, true≢false}
use Rattle.std.proofs.lemmas.List.Folds.{list_all-append}
use Rattle.std.proofs.lemmas.Slice.Eq.{bytes_eq-Decides}
use Rattle.clap.specs.Faults.{action_fault, bundle_fault, bundle_step_fault, entered_fault, fault_of, flag_word_fault, flags_fault, level_fault, long_fault}
use Rattle.clap.specs.Faults.{option_fault, other_fault, positional_fault, react_fault, repeat_fault, set_fault, settle_fault, short_fault, step_fault}
use Rattle.clap.specs.Faults.{stray_fault, turn_fault, use_fault, values_fault, walk_fault, word_fault}
use Rattle.clap.specs.Facts.{parser_of_value}
use Rattle.clap.specs.Kinds.{Kinds, or_else, values_kinds}
use Rattle.clap.specs.Lexer.{long_of, short_of}
use Rattle.clap.specs.Simple.{App, Shape, built, entered, label_of, rows_at, subcommand_of}
use Rattle.clap.specs.Walk.{Held, Names, Outcome, Row, Rule, Step, Text, Waiting, Walk, action_of, after_flag, after_step, answers_to, arg_by_id, arg_by_index}
use Rattle.clap.specs.Walk.{arg_by_long, arg_by_short, attached_value, bundle_met, bundle_step, default_rows, done, first_of, flag_met, has_row}
use Rattle.clap.specs.Walk.{is_pending, long_met, long_or_other, more_values, nothing_held, option, one_of, option_met, option_word, plain, plain_word}
use Rattle.clap.specs.Walk.{reacted, reading_by, row_text, settled, settled_rows, short_met, short_or_plain, subcommand_met}
use Rattle.clap.specs.Walk.{subcommand_or_other, takes_several, takes_values, to_positional, used, used_as, used_by_id, value, values_or_missing, waits, walk}
use Rattle.clap.specs.Walk.{walk_from, walked, walked_from, with_default, with_values, without, word_met}
use Rattle.clap.specs.Values.{read_as, reading_of}
use Rattle.clap.specs.ValueTests.{accepts}
use Rattle.clap.specs.declared.builder.action.ArgAction.{ArgAction}
use Rattle.clap.specs.declared.builder.action.ArgAction.TheVariants.{Set, SetTrue, SetFalse, Append, Count}
use Rattle.clap.specs.declared.builder.value_parser.Reading.{Reading}
use Rattle.clap.specs.declared.builder.value_parser.ValueParser.{ValueParser}
use Rattle.clap.specs.declared.error.kind.ErrorKind.{ErrorKind}
use Rattle.clap.specs.declared.parser.matches.ValueSource.{ValueSource}
use Rattle.clap.specs.declared.parser.matches.ValueSource.TheVariants.{CommandLine, DefaultValue}
use Rattle.clap.proofs.WalkLemmas.{both}

both_none : (a b : Kinds) → or_else a b ≡ [] → (a ≡ []) × (b ≡ [])
both_none [] b e = (refl, e)
both_none (k ∷ ks) b e = cc

-- what a search finds is as each element is
found : {X : Type 0} (P : X → Type 0) (p : X → Bool) (xs : List X) → AllByRecursion P xs → IfSome (find p xs) P
found P p [] h = tt
found P p (x ∷ xs) h = cond_both (p x) (Some x) (find p xs) (λ o. IfSome o P) (λ _. h.0) (λ _. found P p xs h.1)

abbrev pub is_count : ArgAction → Bool
is_count Count = true
is_count _ = false

-- the argument of this name has this parser
module _ (id : Text) (parser : ValueParser) where
  -- it takes these texts
  abbrev pub Pass : List Text → Type 0
  Pass texts = list_all (accepts false parser) texts ≡ true

  -- each row is of another argument, or has been read so and holds texts that it takes
  abbrev pub AreChecked : List Row → Type 0
  AreChecked rows = AllByRecursion (λ r. r.id ≡ id → (r.reading ≡ reading_of parser) × Pass r.values) rows

  -- the argument heeds case and has this parser, which takes its defaults
  abbrev pub Takes : Rule → Type 0
  Takes a = (a.ignore_case ≡ false) × (parser_of_value a.parser ≡ parser) × Pass a.defaults

  -- an argument does not count, and has another name or is so
  abbrev pub Fits : Rule → Type 0
  Fits a = (is_count (action_of a) ≡ false) × cond (bytes_eq a.id id) (Takes a) (Unit {0})

  abbrev pub AllFit : List Rule → Type 0
  AllFit rules = AllByRecursion Fits rules

  -- if nothing of this fails, checked rows are followed by checked ones
  abbrev KeepsRows : Kinds → List Row → List Row → Type 0
  KeepsRows fault old new = fault ≡ [] → AreChecked old → AreChecked new

  all_pass : (texts : List Text) → values_kinds false parser texts ≡ [] → Pass texts
  all_pass [] e = refl
  all_pass (text ∷ rest) e = let none = both_none _ _ e in and_from _ _
      (cond_both _ _ _ (λ kinds. kinds ≡ [] → accepts false parser text ≡ true) (λ is _. is) (λ _ no. cc) none.0) (all_pass rest none.1)

  removed : (of : Text) (rows : List Row) → AreChecked rows → AreChecked (without of rows)
  removed of [] h = tt
  removed of (r ∷ rs) h = cond_both (bytes_eq r.id of) rs (r ∷ without of rs) AreChecked (λ _. h.1) (λ _. (h.0, removed of rs h.1))

  -- ---- one use of an argument

  module _ (a : Rule) (fits : Fits a) where
    must_take : a.id ≡ id → Takes a
    must_take same = rw ((bytes_eq-Decides a.id id).1 same) at fits.1

    added : (s : ValueSource) (texts : List Text) (rows : List Row) → (a.id ≡ id → Pass texts) → AreChecked rows
        → AreChecked (with_values a.id (reading_by a) s texts rows)
    added s texts [] pass h = (λ same. (ap reading_of (must_take same).1, pass same), tt)
    added s texts (r ∷ rs) pass h =
        cond_both (bytes_eq r.id a.id) (more_values s texts r ++ rs) (r ∷ with_values a.id (reading_by a) s texts rs) AreChecked (λ t. (
          λ e. (
            (h.0 e).0,
            list_all-append (accepts false parser) r.values texts
                ∙ and_from _ _ (h.0 e).1 (pass (sym ((bytes_eq-Decides r.id a.id).0 t) ∙ e)),
          ),
          h.1,
        )) (λ _. (h.0, added s texts rs pass h.1))

    uses : (again : Bool) (texts : List Text) (rows : List Row) → KeepsRows (use_fault again a texts rows) rows (used a texts rows)
    uses again texts rows none = acts (action_of a) (values_or_missing a texts) fits.0 (both_none _ _ none).1
      where
        puts : (given : List Text) (old : List Row) → AreChecked old → values_fault a given ≡ [] →
            AreChecked (with_values a.id (reading_by a) CommandLine given old)
        puts given old h none = added CommandLine given old (λ same. let takes = must_take same in all_pass given (rw (takes.0, takes.1) at none)) h

        sets : (given : List Text) → KeepsRows (set_fault again a given rows) rows (with_values a.id (reading_by a) CommandLine given (without a.id rows))
        sets given none h = puts given (without a.id rows) (removed a.id rows h) (both_none (repeat_fault again a.id rows) (values_fault a given) none).1

        acts : (x : ArgAction) (given : List Text) → is_count x ≡ false →
            KeepsRows (action_fault x again a given rows) rows (used_as x a.id (reading_by a) given rows)
        acts Set given t = sets given
        acts SetTrue given t = sets given
        acts SetFalse given t = sets given
        acts Append given t = λ none h. puts given rows h none
        acts Count given t = absurd (true≢false t)
        acts x given t = λ none h. h

    default_put : (rows : List Row) → AreChecked rows → AreChecked (with_default rows a)
    default_put rows h =
        cond_both (has_row a.id rows) rows (default_rows a.id (reading_by a) a.defaults rows) AreChecked (λ _. h)
        (λ _. put a.defaults (λ same. (must_take same).2))
      where
        put : (texts : List Text) → (a.id ≡ id → Pass texts) → AreChecked (default_rows a.id (reading_by a) texts rows)
        put [] pass = h
        put (text ∷ rest) pass = added DefaultValue (text ∷ rest) rows pass h

  abbrev Keeps : Kinds → Held → Held → Type 0
  Keeps fault h k = KeepsRows fault h.rows k.rows

  -- the chosen one of two ways does so, if each does
  either_way : {X : Type 0} {f g : Kinds} (h : Held) (held : X → Held) (b : Bool) (x y : X) → Keeps f h (held x) × Keeps g h (held y) →
      Keeps (cond b f g) h (held (cond b x y))
  either_way h held true x y ways = ways.0
  either_way h held false x y ways = ways.1

  -- ---- the walk

  module _ (c : List Rule) (again : Bool) (all : AllFit c) where
    settles : (p : Option (Text × List Text)) (rows : List Row) → KeepsRows (settle_fault c again (record nothing_held { rows = rows; pending = p })) rows
        (settled_rows c p rows)
    settles None rows = λ _ h. h
    settles (Some p) rows =
        elim (arg_by_id c p.0) as (λ o. IfSome o Fits → KeepsRows (option_map_or (λ a. use_fault again a p.1 rows) o []) rows (used_by_id o p.1 rows))
        [ None ↦ λ fits _ h. h | Some a ↦ λ fits. uses a fits again p.1 rows ] (found Fits _ c all)

    module _ (a : Rule) (fits : Fits a) where
      reacts : (texts : List Text) (h : Held) → Keeps (react_fault c again a texts h) h (reacted c a texts h)
      reacts texts h none rows = let none = both_none _ _ none in uses a fits again texts (settled c h).rows none.1 (settles h.pending h.rows none.0 rows)

      takes_option : (v : Option Text) (h : Held) → Keeps (option_fault c again a v h) h (option_met c a v h).0
      takes_option (Some v) h = reacts (v ∷ []) h
      takes_option None h = settles h.pending h.rows

      takes_flag : (v : Option Text) (h : Held) (k : ErrorKind) → Keeps (cond (is_some v) (k ∷ []) (react_fault c again a [] h)) h (flag_met c a v h).0
      takes_flag (Some v) h k = λ _ h. h
      takes_flag None h k = reacts [] h

    takes_long : (o : Option Rule) (v : Option Text) (h : Held) → IfSome o Fits → Keeps (long_fault c again o v h) h (long_met c o v h).0
    takes_long None v h fits = λ _ h. h
    takes_long (Some a) v h fits = either_way h (λ (p : Held × Outcome). p.0) (takes_values a) _ _ (takes_option a fits v h, takes_flag a fits v h _)

    -- that of a bundle of flags
    abbrev TakesBundle : ℕ → Type 0
    TakesBundle k = (flags : Text) (skip : ℕ) (so_far : Outcome) (h : Held) →
        Keeps (flags_fault c again k flags skip h) h (bundle_met c k flags skip so_far h).0

    takes_bundle : (k : ℕ) → TakesBundle k
    unfolding bundle_met flags_fault
    takes_bundle zero flags skip so_far h = λ _ h. h
    takes_bundle (suc k) flags skip so_far h = go (takes_bundle k) (slice_get (chars flags) 0) skip
      where
        short : TakesBundle k → (rest : Text) (o : Option Rule) → IfSome o Fits →
            Keeps (short_fault c again o rest h (flags_fault c again k rest 0)) h (short_met c o rest h (bundle_met c k rest 0 done)).0
        short more rest None fits = λ _ h. h
        short more rest (Some a) fits =
            either_way h (λ (p : Held × Outcome). p.0) (takes_values a) _ _ (
              takes_option a fits (attached_value rest) h,
              λ none rows.
                  let none = both_none _ _ none in more rest 0 done (reacted c a [] h) none.1 (reacts a fits [] h none.0 rows),
            )

        go : TakesBundle k → (o : Option ℕ) (n : ℕ) →
            Keeps (bundle_step_fault c again o flags n h (flags_fault c again k)) h (bundle_step c o flags n so_far h (bundle_met c k)).0
        go more None n = λ _ h. h
        go more (Some x) zero = short more (drop (length (encode_utf8 x)) flags) (arg_by_short c x) (found Fits _ c all)
        go more (Some x) (suc n) = more (drop (length (encode_utf8 x)) flags) n so_far h

  -- a word that is no flag changes no row
  stays : (c : List Rule) (waiting : Waiting) (word : Text) (h : Held) → AreChecked h.rows → AreChecked (plain_word c waiting word h).0.rows
  stays c (option id) word h rows = elim (arg_by_id c id) as (λ o. AreChecked (option_word o id word h).0.rows) [ None ↦ rows | Some a ↦ rows ]
  stays c waiting word h rows = rows

  stays_after : (c : List Rule) (waiting : Waiting) (word : Text) (h : Held) (outcome : Outcome) → AreChecked h.rows →
      AreChecked (after_flag c waiting word h outcome).0.rows
  stays_after c waiting word h done rows = rows
  stays_after c waiting word h (waits id) rows = rows
  stays_after c waiting word h outcome rows = stays c waiting word h rows

  module _ (s : Shape) (names : Names) (all : AllFit s.rules) where
    module _ (waiting : Waiting) (word : Text) (h : Held) where
      takes_flags : (o : Option (Text × Option Text)) →
          Keeps (flag_word_fault s.rules s.args_override_self o word h) h (long_or_other s.rules waiting word o h).0
      takes_flags (Some p) = λ none rows. stays_after s.rules waiting word _ _
          (takes_long s.rules s.args_override_self all (arg_by_long s.rules p.0) p.1 h (found Fits _ s.rules all) none rows)
      takes_flags None = go (short_of word)
        where
          go : (o : Option Text) →
              Keeps (option_map_or (λ flags. bundle_fault s.rules s.args_override_self flags h) o []) h (short_or_plain s.rules waiting word o h).0
          go None = λ none. stays s.rules waiting word h
          go (Some flags) = λ none rows. stays_after s.rules waiting word _ _
              (takes_bundle s.rules s.args_override_self all (length flags) flags h.skip plain (record h { skip = 0 }) none rows)

      takes_other : (position : ℕ) (o : Option Text) → Keeps (other_fault s o word h) h (subcommand_or_other s.rules o waiting position word h).0
      takes_other position (Some name) = λ _ h. h
      takes_other position None =
          either_way h (λ (p : Held × Step). p.0) (bytes_eq word (45 ∷ 45 ∷ [])) _ _ (λ _ rows. rows, takes_flags (long_of word))

      takes_word : (position : ℕ) (is_trailing : Bool) →
          Keeps (word_fault s names is_trailing waiting word h) h (word_met s.rules names is_trailing waiting position word h).0
      takes_word position true = λ _ h. h
      takes_word position false = takes_other position (subcommand_met names waiting word)

    module _ (w : Walk) (word : Text) where
      takes_step : (h : Held) (step : Step) → Keeps (step_fault s w.position h step) h (after_step s.rules word w h step).held
      takes_step h value = go (arg_by_index s.rules w.position)
        where
          go : (o : Option Rule) →
              Keeps (option_map_or (λ a. positional_fault s.rules s.args_override_self a h) o (stray_fault s)) h (to_positional s.rules o word w h).held
          go None = λ _ h. h
          go (Some a) = either_way h (λ (k : Held). k) (is_pending a h.pending && takes_several a) _ _
              (λ _ rows. rows, settles s.rules s.args_override_self all h.pending h.rows)
      takes_step h step = λ _ h. h

      takes_turn : Keeps (turn_fault s names w word) w.held (walked s.rules names w word).held
      unfolding walked
      takes_turn = go w.stopped _ (λ none rows.
          let none = both_none _ _ none in takes_step _ _ none.1 (takes_word w.waiting word w.held w.position w.is_trailing none.0 rows))
        where
          go : (o : Option (Text × List Text)) (fault : Kinds) → Keeps fault w.held (walked_from s.rules names None w word).held →
              Keeps (cond (is_some o) [] fault) w.held (walked_from s.rules names o w word).held
          go (Some p) fault met = λ _ h. h
          go None fault met = met

    walks : (words : List Text) (w : Walk) → Keeps (walk_fault s names w words) w.held (fold (walked s.rules names) w words).held
    unfolding walk_fault
    walks [] w none rows = rows
    walks (word ∷ rest) w none rows = let none = both_none _ _ none in walks rest (walked s.rules names w word) none.1 (takes_turn w word none.0 rows)

  -- ---- after the walk

  defaults_put : (rules : List Rule) (rows : List Row) → AllFit rules → AreChecked rows → AreChecked (fold with_default rows rules)
  defaults_put [] rows all h = h
  defaults_put (a ∷ rest) rows all h = defaults_put rest (with_default rows a) all.1 (default_put a all.0 rows h)

  -- ---- the text of the argument

  -- it is one that the argument takes, and is read as the parser says
  abbrev pub Reads : Option Text → Option Text → Type 0
  Reads given read = IfSome given (λ text. accepts false parser text ≡ true) × (read ≡ option_map (read_as (reading_of parser)) given)

  reads_row : (by : Reading) (texts : List Text) → by ≡ reading_of parser → Pass texts → Reads (slice_get texts 0) (option_map (read_as by) (slice_get texts 0))
  reads_row by [] is pass = (tt, refl)
  reads_row by (x ∷ xs) is pass = ((both _ _ pass).0, ap (λ (r : Reading). Some (read_as r x)) is)

  reads_rows : (rows : List Row) → AreChecked rows → Reads (first_of id rows) (one_of id rows)
  reads_rows [] h = (tt, refl)
  reads_rows (r ∷ rs) h =
      cond_both (bytes_eq r.id id) (Some r) (find (λ x. bytes_eq x.id id) rs)
      (λ (o : Option Row). Reads (option_and_then (λ x. slice_get x.values 0) o) (option_and_then row_text o))
      (λ t. let checked = h.0 ((bytes_eq-Decides r.id id).0 t) in reads_row r.reading r.values checked.0 checked.1) (λ _. reads_rows rs h.1)

  -- so are the texts that `get_str` and `get_one` give
  abbrev pub ReadsIn : Option (Text × List Row) → Type 0
  ReadsIn entries = Reads (option_and_then (λ f. first_of id f.1) entries) (option_and_then (λ f. one_of id f.1) entries)

  -- and so they are of words that clap takes
  pub reads : (a : App) (words : List Text) → AllByRecursion (λ s. AllFit s.rules) (built a).subs → fault_of a words ≡ [] → ReadsIn (subcommand_of a words)
  reads a words all none = enters _ (both_none _ _ (both_none _ _ none).1).0
    where
      go : (words : List Text) (o : Option Shape) → IfSome o (λ s. AllFit s.rules) →
          option_map_or (λ s. level_fault s [] nothing_held words false []) o [] ≡ [] → ReadsIn (option_map (λ s. rows_at s words) o)
      go words None fits none = (tt, refl)
      go words (Some s) fits none =
          let end = (walk s.rules [] nothing_held words).held in
          let first = both_none _ _ none in
          let after = both_none _ _ first.1 in
          reads_rows _ (defaults_put s.rules (settled s.rules end).rows fits
          (settles s.rules s.args_override_self fits end.pending end.rows after.0 (walks s [] fits words (walk_from nothing_held) first.0 tt)))

      enters : (stop : Option (Text × List Text)) → entered_fault (built a) stop ≡ [] → ReadsIn (entered (built a) stop)
      enters None none = (tt, refl)
      enters (Some p) none = go p.1 (find (λ s. answers_to p.0 (label_of s)) (built a).subs) (found (λ (s : Shape). AllFit s.rules) _ (built a).subs all) none
