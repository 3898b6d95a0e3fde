-- One read more.
use Rattle.std.proofs.Common.{◌≡◌, ◌≤◌, inl, inr, ℕ, suc, ◌+◌, Bool, true, false, cond, List, [], ◌∷◌, ◌++◌, map, Err, Option, Some, None, length, refl, sym}
use Rattle.std.proofs.Common.{◌∙◌, ap, subst}
use Rattle.std.proofs.Common.{arith, length-append, append-nil}
use Rattle.std.specs.Prelude.{slice_get}
use Rattle.std.specs.Cmp.Lexicographic.{nat_list_eq_equiv}
use Rattle.std.specs.List.{AllByRecursion, flat_map, list_any}
use Rattle.std.specs.Option.{option_map}
use Rattle.std.proofs.lemmas.List.{map-append}
use Rattle.std.proofs.lemmas.Grind.{flat_map-append}
use Rattle.std.proofs.lemmas.Option.{slice_get-get_or}
use Rattle.std.proofs.lemmas.Map.Views.{All-from_any}
use Rattle.ics_file.specs.File.{FileSaid}
use Rattle.ics_event.specs.Kept.{KeptTexts}
use Rattle.ics_file.specs.Kept.{kept_said}
use Rattle.khal_reading.specs.declared.answered.Answered.{Answered}
use Rattle.khal_ports.specs.Answers.{Answer, Contents, contents_of}
use Rattle.khal_reading.specs.Asked.{given_files, is_unread, names_of, Asked, AsksAll, AsksSome}
use Rattle.khal_reading.specs.Errors.{lines_of}
use Rattle.khal_reading.specs.Gives.{FileGives, Read, ReadGives, all_wanted, file_first, gives_of, gives_with, kept_gives, kept_read, listed_files, name_at}
use Rattle.khal_reading.specs.Gives.{read_gives, read_wants, reads_of, unread}
use Rattle.khal_ports.specs.Finds.{FindAnswer}
use Rattle.khal_reading.specs.Inner.Learned.{Keeps, Knows, WantedCount}
use Rattle.khal_reading.specs.Gives.{IsReading}
use Rattle.khal_reading.specs.Inner.Outcomes.{EndsReading, IsOutcome}
use Rattle.khal_ports.specs.Reads.{ReadsFrom, ReadsSome}
use Rattle.khal_ports.specs.declared.fault.SourceFault.TheVariants.{Memory}
use Rattle.khal_reading.proofs.AskedLemmas.{any-kept, all-some, all-then-all, all-then-some, in-back, in-front, wanted-in, IsIn}
use Rattle.khal_reading.proofs.OutcomeLemmas.{AllCount}

-- ---- one read more

reads_of-none : (names : List (List ℕ)) → reads_of names [] ≡ []
reads_of-none [] = refl
reads_of-none (name ∷ names) = refl

reads_of-more : (names : List (List ℕ)) (name : List ℕ) (contents : List Contents) (a : Contents) → slice_get names (length contents) ≡ Some name
    → reads_of names (contents ++ a ∷ []) ≡ reads_of names contents ++ (name, a) ∷ []
reads_of-more [] name contents a found = cc
reads_of-more (first ∷ names) name [] a found = let same : first ≡ name = cc in rw (reads_of-none names, same) refl
reads_of-more (first ∷ names) name (b ∷ contents) a found = ap (λ more. (first, b) ∷ more) (reads_of-more names name contents a found)

flat_map-one : {X Y : Type 0} (f : X → List Y) (xs : List X) (x : X) → flat_map f (xs ++ x ∷ []) ≡ flat_map f xs ++ f x
flat_map-one f xs x = rw (flat_map-append f xs (x ∷ []), append-nil (f x)) refl

-- ---- what is asked for later changes nothing of what a file gives

module _ (asked more : List Asked) (keeps : Keeps asked more) where
  file-kept : (file : FileGives) → WantedCount file → ((name : List ℕ) → IsIn name file.wants → IsIn name (names_of asked)) →
      gives_with (asked ++ more) file ≡ gives_with asked file
  file-kept file count in-asked =
      rw (
        any-kept (is_unread (asked ++ more)) (is_unread asked) file.wants (λ name h. keeps.unread name (in-asked name h)),
        count (given_files (asked ++ more)) (given_files asked)
            (All-from_any nat_list_eq_equiv (λ name. given_files (asked ++ more) name ≡ given_files asked name) file.wants
            (λ name h. keeps.files name (in-asked name h))),
      ) refl

  reads-kept : (keep_going : Bool) → AllCount keep_going → (reads : List Read)
      → ((name : List ℕ) → IsIn name (all_wanted keep_going reads) → IsIn name (names_of asked)) →
      AllByRecursion (λ read. read_gives keep_going (asked ++ more) read ≡ read_gives keep_going asked read) reads
  reads-kept keep_going count [] in-asked = tt
  reads-kept keep_going count (read ∷ reads) in-asked = (
    file-kept (gives_of keep_going read) (count read)
        (λ name h. in-asked name (in-front name (read_wants keep_going read) (all_wanted keep_going reads) h)),
    reads-kept keep_going count reads (λ name h. in-asked name (in-back name (read_wants keep_going read) (all_wanted keep_going reads) h)),
  )

-- what is kept of reads that give the same is the same
same-lists : {X : Type 0} (one : Read → ReadGives → List X) (keep_going : Bool) (asked others : List Asked) (reads : List Read)
    → AllByRecursion (λ read. read_gives keep_going asked read ≡ read_gives keep_going others read) reads →
    flat_map (λ read. one read (read_gives keep_going asked read)) reads ≡ flat_map (λ read. one read (read_gives keep_going others read)) reads
same-lists one keep_going asked others [] same = refl
same-lists one keep_going asked others (read ∷ reads) same =
    λ i. one read (same.0 i) ++ same-lists one keep_going asked others reads same.1 i

-- ---- the texts that are kept

kept-or : (keep : KeptTexts) (t : Bool) (gives : ReadGives) → cond t unread (kept_read keep gives) ≡ kept_read keep (cond t unread gives)
kept-or keep true gives = refl
kept-or keep false gives = refl

gives-kept : (asked : List Asked) (keep : KeptTexts) (file : FileGives) → gives_with asked (kept_gives keep file) ≡ kept_read keep (gives_with asked file)
gives-kept asked keep file = kept-or keep (list_any (is_unread asked) file.wants) (file.gives (given_files asked))

first-kept : (keep : KeptTexts) (file : Option FileSaid) → file_first (option_map (kept_said keep) file) ≡ map (kept_said keep) (file_first file)
first-kept keep None = refl
first-kept keep (Some file) = refl

listed-more : (keep_going : Bool) (keep : KeptTexts) (asked : List Asked) (reads : List Read) (read : Read) →
    map (kept_said keep) (listed_files keep_going asked reads) ++ file_first (kept_read keep (read_gives keep_going asked read)).file
    ≡ map (kept_said keep) (listed_files keep_going asked (reads ++ read ∷ []))
listed-more keep_going keep asked reads read =
    ap (λ more. map (kept_said keep) (listed_files keep_going asked reads) ++ more) (first-kept keep (read_gives keep_going asked read).file)
    ∙ (sym (map-append (kept_said keep) (listed_files keep_going asked reads) (file_first (read_gives keep_going asked read).file))
    ∙ ap (map (kept_said keep)) (sym (flat_map-one (λ read. file_first (read_gives keep_going asked read).file) reads read)))

module _ {S Z : Type 0} (reads : S → ℕ → Answer → S → Type 0) (finds : Z → List ℕ → FindAnswer → Z → Type 0) where
  -- a read of a file gave these contents
  pub record Gave (after : S) (j : ℕ) (a : Contents) (last : S) : Type 0 where
    pub answer : Answer
    pub read : reads after j answer last
    pub gives : contents_of answer ≡ Some a

  reads-more : (before : S) (i : ℕ) (contents : List Contents) {after : S} {j : ℕ} {a : Contents} {last : S} →
      ReadsFrom reads before i contents after → j ≡ i + length contents
      → Gave after j a last → ReadsFrom reads before i (contents ++ a ∷ []) last
  reads-more before i [] {j = j} {last = last} h e g =
      let at : j ≡ i = omega (arith, e) in
      (g.answer, last, subst (λ k. reads before k g.answer last) at (subst (λ state. reads state j g.answer last) h g.read), g.gives, refl)
  reads-more before i (b ∷ contents) h e g =
      (h.0, h.1, h.2, h.3, reads-more h.1 (i + 1) contents h.4 (omega (arith, e)) g)

  -- the reads of the first files, what is asked for, and what is kept of them
  pub record Done (keep_going : Bool) (keep : KeptTexts) (names : List (List ℕ)) (before : S) (zones : Z) (i : ℕ) (after : S) (zones' : Z) (answered : Answered)
      (files : List FileSaid) (errors : List ℕ) : Type 0 where
    pub contents : List Contents
    pub asked : List Asked
    pub from_first : ReadsFrom reads before 0 contents after
    pub long : length contents ≡ i
    pub asks : AsksAll finds [] (all_wanted keep_going (reads_of names contents)) zones asked zones'
    pub knows : Knows asked answered
    pub kept : IsReading keep_going keep asked (reads_of names contents) files errors

  pub done-none : {keep_going : Bool} {keep : KeptTexts} {names : List (List ℕ)} {before : S} {zones : Z} {answered : Answered} {files : List FileSaid}
      {errors : List ℕ} → Knows [] answered → files ≡ [] → errors ≡ [] → Done keep_going keep names before zones 0 before zones answered files errors
  done-none {names = names} k f e = record {
    contents = [];
    asked = [];
    from_first = refl;
    long = refl;
    asks = rw (reads_of-none names) (record { each = refl; names = refl });
    knows = k;
    kept = rw (reads_of-none names) (record { files_are = f; errors_are = e });
  }

  module _ {keep_going : Bool} {keep : KeptTexts} {names : List (List ℕ)} {before : S} {zones : Z} {i : ℕ} {after : S} {zones' : Z} {answered : Answered}
      {files : List FileSaid} {errors : List ℕ} (d : Done keep_going keep names before zones i after zones' answered files errors)
      (inside : suc i ≤ length names) where
    abbrev name : List ℕ
    name = name_at names i

    found : slice_get names i ≡ Some name
    found = slice_get-get_or names i [] inside

    -- only the first files are read, and not all their names are asked for
    abbrev Ended : S → Z → Type 0
    Ended last zones'' = (contents : List Contents) × (asked : List Asked) × ReadsSome reads names before contents last
        × AsksSome finds [] (all_wanted keep_going (reads_of names contents)) zones asked zones''

    more-reads : (a : Contents) → reads_of names (d.contents ++ a ∷ []) ≡ reads_of names d.contents ++ (name, a) ∷ []
    more-reads a = reads_of-more names name d.contents a (ap (slice_get names) d.long ∙ found)

    more-wanted : (a : Contents) → all_wanted keep_going (reads_of names (d.contents ++ a ∷ []))
        ≡ all_wanted keep_going (reads_of names d.contents) ++ read_wants keep_going (name, a)
    more-wanted a = ap (all_wanted keep_going) (more-reads a) ∙ flat_map-one (read_wants keep_going) (reads_of names d.contents) (name, a)

    -- nothing is kept of the next read
    ends-after : {a : Contents} {last : S} {zones'' : Z} {more : List Asked} → Gave after i a last →
        AsksSome finds d.asked (read_wants keep_going (name, a)) zones' more zones'' → Ended last zones''
    ends-after {a = a} {last = last} {zones'' = zones''} {more = more} g asks = (
      d.contents ++ a ∷ [],
      d.asked ++ more,
      record {
        last = last;
        from_first = reads-more before 0 d.contents d.from_first (omega (arith, d.long)) g;
        ended = inl (refl, omega (arith, length-append d.contents (a ∷ []), d.long, inside));
      },
      subst (λ wanted. AsksSome finds [] wanted zones (d.asked ++ more) zones'') (sym (more-wanted a)) (all-then-some finds d.asks asks),
    )

    -- an allocation failed in it, or after it
    pub read-some : {answer : Answer} {last : S} {zones'' : Z} → reads after i answer last →
        EndsReading finds keep_going name answer zones' zones'' answered → Ended last zones''
    read-some {last = last} r (EndsReading.InRead memory same) = (
      d.contents,
      d.asked,
      record {
        last = after;
        from_first = d.from_first;
        ended = inr (subst (λ k. reads after k (Err Memory) last) (sym d.long) (subst (λ a. reads after i a last) memory r), omega (arith, d.long, inside));
      },
      subst (λ z. AsksSome finds [] (all_wanted keep_going (reads_of names d.contents)) zones d.asked z) (sym same) (all-some finds d.asks),
    )
    read-some {answer = answer} r (EndsReading.AfterRead given gives learns) =
        ends-after (record { answer = answer; read = r; gives = gives }) (learns d.asked d.knows).asks

    -- it comes to something
    pub stops-after : {answer : Answer} {last : S} {zones'' : Z} {answered' : Answered} {outcome : ReadGives} → reads after i answer last →
        IsOutcome finds keep_going keep name answer zones' zones'' answered answered' outcome → Ended last zones''
    stops-after {answer = answer} r outcome =
        ends-after (record { answer = answer; read = r; gives = outcome.some }) (all-some finds (outcome.settles d.asked d.knows).learns.asks)

    pub done-more : {answer : Answer} {last : S} {zones'' : Z} {answered' : Answered} {outcome : ReadGives} {files' : List FileSaid} {errors' : List ℕ}
        → AllCount keep_going → reads after i answer last → IsOutcome finds keep_going keep name answer zones' zones'' answered answered' outcome
        → files' ≡ files ++ file_first outcome.file → errors' ≡ errors ++ lines_of name outcome.refusals
        → Done keep_going keep names before zones (i + 1) last zones'' answered' files' errors'
    done-more {answer = answer} {zones'' = zones''} count r outcome f e =
        let a : Contents = outcome.given in
        let settles = outcome.settles d.asked d.knows in
        let learns = settles.learns in
        let all : List Asked = d.asked ++ learns.more in
        let had : List Read = reads_of names d.contents in
        let same = reads-kept d.asked learns.more learns.keeps keep_going count had
        (λ n h. subst (IsIn n) (sym d.asks.names) (wanted-in n [] (all_wanted keep_going had) h)) in
        let file : Read → ReadGives → List FileSaid = λ read gives. file_first gives.file in
        let lines : Read → ReadGives → List ℕ = λ read gives. lines_of read.0 gives.refusals in
        let files-are = d.kept.files_are ∙ ap (map (kept_said keep)) (sym (same-lists file keep_going all d.asked had same)) in
        let outcome-is = settles.outcome_is ∙ gives-kept all keep (gives_of keep_going (name, a)) in
        let lines-are = d.kept.errors_are ∙ sym (same-lists lines keep_going all d.asked had same) in
        record {
          contents = d.contents ++ a ∷ [];
          asked = all;
          from_first = reads-more before 0 d.contents d.from_first (omega (arith, d.long)) (record { answer = answer; read = r; gives = outcome.some });
          long = omega (arith, length-append d.contents (a ∷ []), d.long);
          asks = subst (λ wanted. AsksAll finds [] wanted zones all zones'') (sym (more-wanted a)) (all-then-all finds d.asks learns.asks);
          knows = learns.knows;
          kept = rw (more-reads a) (record {
            files_are = f ∙ ((λ j. files-are j ++ file_first (outcome-is j).file) ∙ listed-more keep_going keep all had (name, a));
            errors_are = e ∙ ((λ j. lines-are j ++ lines_of name (outcome-is j).refusals)
                ∙ sym (flat_map-one (λ read. lines_of read.0 (read_gives keep_going all read).refusals) had (name, a)));
          });
        }
