-- What a run over files in memory reads and finds.
use Rattle.std.proofs.Common.{◌≡◌, ◌↔◌, ◌++◌, Any, IsTrue, ℕ, suc, ◌+◌, List, [], ◌∷◌, length, map, slice_get, Option, Some, None, Ok, Err}
use Rattle.std.proofs.Common.{string_bytes, refl, sym, ap, ap₂, subst, ◌∙◌, arith}
use Rattle.std.proofs.lemmas.Grind.{common_steps}
use Rattle.khal_list.specs.Headline.{Lists, Shows, more_line}
use Rattle.khal_list.specs.declared.request.Request.{Request}
use Rattle.khal_reading.specs.Asked.{Asked, FindsEach, and_names, names_of}
use Rattle.khal_reading.specs.Gives.{Read, all_wanted, error_lines, is_faulty, listed_files, reads_of}
use Rattle.khal_reading.specs.declared.status.Status.{Status}
use Rattle.khal_reading.specs.declared.status.Status.TheVariants.{Faulty}
use Rattle.khal_ports.specs.Answers.{Answer, Contents, IsRead}
use Rattle.khal_ports.specs.Answers as answers
use Rattle.khal_ports.specs.Finds.{FindAnswer, Found, IsFind, file_named, found_of}
use Rattle.khal_ports.specs.Reads.{ReadsFrom}
use Rattle.khal_ports.specs.declared.fault.SourceFault.TheVariants.{Device, TooLarge, Memory}
use Rattle.khal_ports.specs.declared.memory_source.MemoryFile.{MemoryFile}
use Rattle.khal_ports.specs.declared.memory_source.MemorySource.{MemorySource}
use Rattle.khal_ports.specs.declared.memory_zones.MemoryZones.{MemoryZones}
use Rattle.khal_list_c.specs.Given.{File, held_file, held_files, held_zones}
use Rattle.khal_list_c.specs.Listed.{asked_for, asked_of, contents_of, found_by, reads_given, ListsFiles}

-- how a source in memory is read, and how one of zone files is asked
abbrev pub reads_held : MemorySource → ℕ → Answer → MemorySource → Type 0
reads_held before index answer after = (after ≡ before) × IsRead (map (λ file. file.bytes.items) before.files.items) index answer

abbrev pub finds_held : MemoryZones → List ℕ → FindAnswer → MemoryZones → Type 0
finds_held before name answer after = (after ≡ before) × IsFind (map (λ file. (file.name.items, file.bytes.items)) before.files.items) name answer

moved : {X : Type 0} (xs : List X) (m n : ℕ) (o : Option X) → m ≡ n → slice_get xs m ≡ o → slice_get xs n ≡ o
moved xs m n o e h = subst (λ k. slice_get xs k ≡ o) e h

-- an answer about a file says what is in it
read-one : (all : List (List ℕ)) (i : ℕ) (file : File) (answer : Answer) (given : Contents) → slice_get all i ≡ Some file.1 → IsRead all i answer
    → answers.contents_of answer ≡ Some given → given ≡ contents_of file
read-one all i file (Ok read) given at is gives = let there = is.0 in let most = is.1 in grind (arith, common_steps)
read-one all i file (Err TooLarge) given at is gives = let there = is.1 in let more = is.2 in grind (arith, common_steps)
read-one all i file (Err Memory) given at is gives = absurd (cc)
read-one all i file (Err Device) given at is gives = absurd is

-- the reads from a place on give what is in the files from there on
read-all : (before after : MemorySource) (i : ℕ) (contents : List Contents) (rest : List File)
    → ((k : ℕ) → slice_get (map (λ file. file.bytes.items) before.files.items) (i + k) ≡ slice_get (map (λ file. file.1) rest) k)
    → length contents ≡ length rest → ReadsFrom reads_held before i contents after → contents ≡ map contents_of rest
read-all before after i [] [] same len reads = refl
read-all before after i [] (file ∷ rest) same len reads = absurd (cc)
read-all before after i (given ∷ contents) [] same len reads = absurd (cc)
read-all before after i (given ∷ contents) (file ∷ rest) same len (answer, next, (stays, is), gives, more) =
    let all : List (List ℕ) = map (λ file. file.bytes.items) before.files.items in
    let first : given ≡ contents_of file = read-one all i file answer given (moved all (i + 0) i (Some file.1) (omega arith) (same 0)) is gives in
    let others : contents ≡ map contents_of rest = read-all before after (i + 1) contents rest
    (λ k. moved all (i + suc k) (i + 1 + k) (slice_get (map (λ file. file.1) rest) k) (omega arith) (same (suc k))) (omega (arith, len))
    (subst (λ s. ReadsFrom reads_held s (i + 1) contents after) stays more) in
    cc

find-one : (all : List File) (name : List ℕ) (answer : FindAnswer) (found : Found) → IsFind all name answer → found_of answer ≡ Some found
    → found ≡ found_by (file_named all name)
find-one all name (Ok (Some bytes)) found is gives = let there = is.0 in let most = is.1 in grind (arith, common_steps)
find-one all name (Ok None) found is gives = let there = is.0 in grind (arith, common_steps)
find-one all name (Err TooLarge) found is gives = let there = is.1 in let more = is.2 in grind (arith, common_steps)
find-one all name (Err Memory) found is gives = absurd (cc)
find-one all name (Err Device) found is gives = absurd is

find-all : (before after : MemoryZones) (asked : List Asked) → FindsEach finds_held before asked after
    → asked ≡ map (asked_for (held_zones before)) (names_of asked)
find-all before after [] finds = refl
find-all before after ((name, found) ∷ asked) (answer, next, (stays, is), gives, more) =
    let first : found ≡ found_by (file_named (held_zones before) name) = find-one (held_zones before) name answer found is gives in
    let others : asked ≡ map (asked_for (held_zones before)) (names_of asked) =
    find-all before after asked (subst (λ z. FindsEach finds_held z asked after) stays more) in
    cc

bytes-held : (files : List MemoryFile) → map (λ file. file.bytes.items) files ≡ map (λ file. file.1) (map held_file files)
bytes-held [] = refl
bytes-held (file ∷ files) = ap (λ more. file.bytes.items ∷ more) (bytes-held files)

names-held : (files : List MemoryFile) → map (λ file. string_bytes file.name) files ≡ map (λ file. file.0) (map held_file files)
names-held [] = refl
names-held (file ∷ files) = ap (λ more. string_bytes file.name ∷ more) (names-held files)

length-held : (files : List MemoryFile) → length (map (λ file. string_bytes file.name) files) ≡ length (map held_file files)
length-held [] = refl
length-held (file ∷ files) = ap (λ n. suc n) (length-held files)

pub lists-files : (source source_after : MemorySource) (zones zones_after : MemoryZones) (request : Request) (out err : List ℕ) (status : Status)
    → Lists reads_held finds_held
    (record {
      names = map (λ file. string_bytes file.name) source.files.items;
      source = source;
      source_after = source_after;
      zones = zones;
      zones_after = zones_after;
    })
    request (record { out = Some []; out_after = Some out; err = Some []; err_after = Some err }) status
    → ListsFiles (held_files source) (held_zones zones) request out err status
lists-files source source_after zones zones_after request out err status lists =
    let files : List File = held_files source in
    let going = request.keep_going in
    let contents : lists.contents ≡ map contents_of files = read-all source source_after 0 lists.contents files
    (λ k. moved _ k (0 + k) _ (omega arith) (ap (λ all. slice_get all k) (bytes-held source.files.items)))
    (lists.read.each ∙ length-held source.files.items) lists.read.from_first in
    let read : reads_of (map (λ file. string_bytes file.name) source.files.items) lists.contents ≡ reads_given files =
    ap₂ reads_of (names-held source.files.items) contents in
    let asked : lists.asked ≡ asked_of going files (held_zones zones) =
    find-all zones zones_after lists.asked lists.gave.each
    ∙ ap (λ names. map (asked_for (held_zones zones)) names) (lists.gave.names ∙ ap (λ given. and_names [] (all_wanted going given)) read) in
    record {
      token = lists.token;
      shows = subst (λ a. Shows (listed_files going a (reads_given files)) request out lists.token) asked
          (subst (λ given. Shows (listed_files going lists.asked given) request out lists.token) read
          (subst (λ text. Shows (listed_files going lists.asked (reads_of (map (λ file. string_bytes file.name) source.files.items) lists.contents)) request
          text lists.token) (sym lists.text) lists.shows));
      told = subst (λ a. err ≡ error_lines going a (reads_given files) ++ more_line lists.token) asked
          (subst (λ given. err ≡ error_lines going lists.asked given ++ more_line lists.token) read lists.errors);
      faulty = subst (λ a. (status ≡ Faulty) ↔ Any (λ read. IsTrue (is_faulty going a read)) (reads_given files)) asked
          (subst (λ all. (status ≡ Faulty) ↔ Any (λ read. IsTrue (is_faulty going lists.asked read)) all) read lists.faulty);
    }
