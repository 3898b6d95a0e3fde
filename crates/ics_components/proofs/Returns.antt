-- A whole component leaves those around it as they were.
use Rattle.std.proofs.Common.{◌≡◌, ℕ, ◌<◌, true, false, ◌==◌, List, [], ◌∷◌, ◌++◌, refl, sym, ap, ◌∙◌, arith, Option, Some, None, filter}
use Rattle.std.proofs.Common.{subst}
use Rattle.std.specs.List.{list_any}
use Rattle.std.proofs.lemmas.Bool.{eq-eqb}
use Rattle.ics_text.specs.ContentLines.{Parts}
use Rattle.ics_components.specs.declared.builder.Builder.{Builder}
use Rattle.ics_components.specs.declared.fault.FaultKind.{FaultKind}
use Rattle.ics_components.specs.declared.fault.FaultKind.TheVariants.{BadLine}
use Rattle.ics_components.specs.declared.frame.Frame.{Frame}
use Rattle.ics_components.specs.declared.name.Name.{Name}
use Rattle.ics_components.specs.declared.name.Name.TheVariants as name
use Rattle.ics_components.specs.EventLines.{path_at_end}
use Rattle.ics_components.specs.FirstFault.{no_open}
use Rattle.ics_components.specs.Lines.{behind, fault_on, is_mark, joined, noted, passing}
use Rattle.ics_components.specs.Names.{same_name}
use Rattle.ics_components.specs.ParsedFileSeen.{ParsedFileSeen}
use Rattle.ics_components.specs.ParsedFiles.{and_line}
use Rattle.ics_components.specs.Parted.{AreInPlace, LinesRead, Reads, Broken, block_of, frames_around, read_behind, read_on, unless_faulty}
use Rattle.ics_components.specs.PartFaults.{is_within}
use Rattle.ics_components.specs.PlacedLines.{Placed, Open, component, innermost, is_begin, named, name_on, path_behind}
use Rattle.ics_components.proofs.Blocks.{broken-stays}
use Rattle.ics_components.proofs.NameLemmas.{begin-is}
use Rattle.ics_components.proofs.Order.{Absent, Falls, below}
use Rattle.ics_components.proofs.PartsLemmas.{elsewhere, no-lines, own-first}

abbrev pub ReturnsTo : List Frame → LinesRead → Type 0
ReturnsTo base (Reads frames had) = frames ≡ base
ReturnsTo base (Broken fault) = Unit {0}

-- one component is open above those around, and some in it
abbrev AreOver : List Frame → List Open → List Frame → Type 0
AreOver base [] [] = ⊥
AreOver base [] (f ∷ fs) = fs ≡ base
AreOver base (c ∷ cs) [] = ⊥
AreOver base (c ∷ cs) (f ∷ fs) = AreOver base cs fs

-- what ends in them leaves them as they are
abbrev IsSteady : List Frame → Type 0
IsSteady [] = ⊥
IsSteady (g ∷ gs) = (b : Builder) → joined g.builder b ≡ g.builder

around-steady : (path : List Open) → IsSteady (frames_around path)
around-steady [] = λ b. refl
around-steady (c ∷ cs) = λ b. refl

any-within : (inner : List Open) (own : Open) (q : List Open) → list_any (λ c. c.begun == own.begun) (inner ++ own ∷ q) ≡ true
any-within [] own q = rw (eq-eqb own.begun own.begun refl) refl
any-within (c ∷ cs) own q = let again = any-within cs own q in grind (arith, again)

still-open : (inner : List Open) (own : Open) (q : List Open) → no_open (inner ++ own ∷ q) ≡ false
still-open [] own q = refl
still-open (c ∷ cs) own q = refl

name-is : (o : Option Parts) (c : Parts) → o ≡ Some c → name_on o ≡ named c
unfolding name_on
name-is o c e = rw e refl

plain-behind : (number : ℕ) (n : Name) (c : Parts) (frames : List Frame) → is_mark n ≡ false → behind number n c frames ≡ noted n c frames
plain-behind number name.Begin c frames k = cc
plain-behind number name.End c frames k = cc
plain-behind number _ c frames k = refl

no-marks : (n : Name) → is_mark n ≡ false → (same_name n name.Begin ≡ false) × (same_name n name.End ≡ false)
no-marks name.Begin k = cc
no-marks name.End k = cc
no-marks _ k = (refl, refl)

abbrev Returns : List Placed → Type 0
Returns ls =
    (n : ℕ) (inner : List Open) (own : Open) (q : List Open) (base frames : List Frame) (had : ParsedFileSeen) → IsSteady base → 0 < own.begun →
    Absent own.begun q → AreInPlace n (inner ++ own ∷ q) ls → AreOver base inner frames → no_open (path_at_end (inner ++ own ∷ q) ls) ≡ true →
    ReturnsTo base (read_behind (Reads frames had) (filter (is_within own.begun) ls))

module _ (l : Placed) (ls : List Placed) (again : Returns ls) (c : Parts) (own : Open) (q : List Open) (base : List Frame) (had : ParsedFileSeen)
    (steady : IsSteady base) (some : 0 < own.begun) (gone : Absent own.begun q) where
  abbrev left : List Placed
  left = filter (is_within own.begun) ls

  abbrev Goes : List Frame → Type 0
  Goes frames = ReturnsTo base (read_behind (Reads frames had) left)

  goes : (inner : List Open) (frames : List Frame) → path_behind l ≡ inner ++ own ∷ q → AreInPlace l.number (path_behind l) ls →
      no_open (path_at_end (path_behind l) ls) ≡ true → AreOver base inner frames → Goes frames
  goes inner frames e h end over =
      again l.number inner own q base frames had steady some gone (subst (λ (p : List Open). AreInPlace l.number p ls) e h) over
      (ap (λ p. no_open (path_at_end p ls)) (sym e) ∙ end)

  begins : (inner : List Open) (frames : List Frame) → l.path ≡ inner ++ own ∷ q → name_on l.content ≡ name.Begin →
      AreInPlace l.number (path_behind l) ls → no_open (path_at_end (path_behind l) ls) ≡ true → AreOver base inner frames →
      Goes (behind l.number name.Begin c frames)
  begins [] [] at n h end over = absurd over
  begins (d ∷ ds) [] at n h end over = absurd over
  begins [] (f ∷ fs) at n h end over =
      goes (record { name = component l; begun = l.number } ∷ []) (behind l.number name.Begin c (f ∷ fs)) (rw (n, at) refl) h end over
  begins (d ∷ ds) (f ∷ fs) at n h end over =
      goes (record { name = component l; begun = l.number } ∷ d ∷ ds) (behind l.number name.Begin c (f ∷ fs)) (rw (n, at) refl) h end over

  ends-own : (frames : List Frame) → l.path ≡ own ∷ q → name_on l.content ≡ name.End → innermost l.path < l.number →
      AreInPlace l.number (path_behind l) ls → AreOver base [] frames → Goes (behind l.number name.End c frames)
  ends-own frames at n inner h over =
      let out : path_behind l ≡ q = rw (n, at) refl in
      let less : own.begun < l.number = rw at at inner in
      rw (no-lines ls own.begun (elsewhere ls own.begun l.number (path_behind l) some less (rw out gone) h)) (closed-base frames over base steady refl)
    where
      closed-base : (frames : List Frame) → AreOver base [] frames → (b : List Frame) → IsSteady b → base ≡ b →
          behind l.number name.End c frames ≡ base
      closed-base [] over b s e = absurd over
      closed-base (f ∷ fs) over [] s e = absurd s
      closed-base (f ∷ fs) over (g ∷ gs) s e = rw (over, e, s f.builder) refl

  ends-inner : (d : Open) (inner : List Open) (frames : List Frame) → l.path ≡ d ∷ inner ++ own ∷ q → name_on l.content ≡ name.End →
      AreInPlace l.number (path_behind l) ls → no_open (path_at_end (path_behind l) ls) ≡ true → AreOver base (d ∷ inner) frames →
      Goes (behind l.number name.End c frames)
  ends-inner d inner [] at n h end over = absurd over
  ends-inner d [] (f ∷ []) at n h end over = absurd over
  ends-inner d (e ∷ es) (f ∷ []) at n h end over = absurd over
  ends-inner d [] (f ∷ g ∷ gs) at n h end over =
      goes [] (behind l.number name.End c (f ∷ g ∷ gs)) (rw (n, at) refl) h end over
  ends-inner d (e ∷ es) (f ∷ g ∷ gs) at n h end over =
      goes (e ∷ es) (behind l.number name.End c (f ∷ g ∷ gs)) (rw (n, at) refl) h end over

  noted-over : (n : Name) (inner : List Open) (frames : List Frame) → AreOver base inner frames → AreOver base inner (noted n c frames)
  noted-over n [] [] over = absurd over
  noted-over n (d ∷ ds) [] over = absurd over
  noted-over n [] (f ∷ fs) over = over
  noted-over n (d ∷ ds) (f ∷ fs) over = over

  goes-noted : {m : Name} → name_on l.content ≡ m → is_mark m ≡ false → (inner : List Open) (frames : List Frame) → l.path ≡ inner ++ own ∷ q →
      AreInPlace l.number (path_behind l) ls → no_open (path_at_end (path_behind l) ls) ≡ true → AreOver base inner frames →
      Goes (behind l.number m c frames)
  goes-noted {m} n k inner frames at h end over =
      let no = no-marks m k in
      rw (plain-behind l.number m c frames k) (goes inner (noted m c frames) (rw (n, no.0, no.1) at) h end (noted-over m inner frames over))

  by_name : (n : Name) (inner : List Open) (frames : List Frame) → l.path ≡ inner ++ own ∷ q → name_on l.content ≡ n → innermost l.path < l.number →
      AreInPlace l.number (path_behind l) ls → no_open (path_at_end (path_behind l) ls) ≡ true → AreOver base inner frames →
      Goes (behind l.number n c frames)
  by_name name.Begin inner frames at n less h end over = begins inner frames at n h end over
  by_name name.End [] frames at n less h end over = ends-own frames at n less h over
  by_name name.End (d ∷ inner) frames at n less h end over = ends-inner d inner frames at n h end over
  by_name _ inner frames at n less h end over = goes-noted n refl inner frames at h end over

one-line : (l : Placed) (ls : List Placed) → Returns ls → (o : Option Parts) → l.content ≡ o → (n : ℕ) (inner : List Open) (own : Open) (q : List Open)
    (base frames : List Frame) (had : ParsedFileSeen) → IsSteady base → 0 < own.begun → Absent own.begun q → AreInPlace n (inner ++ own ∷ q) (l ∷ ls) →
    AreOver base inner frames → no_open (path_at_end (path_behind l) ls) ≡ true →
    ReturnsTo base (read_behind (read_on l.number o (Reads frames had)) (filter (is_within own.begun) ls))
one-line l ls again None e n inner own q base frames had steady some gone h over end =
    rw (broken-stays (filter (is_within own.begun) ls) (record { line = l.number; kind = BadLine })) tt
one-line l ls again (Some c) e n inner own q base frames had steady some gone h over end = by_fault (fault_on (named c) c frames)
  where
    by_fault : (o : Option FaultKind) →
        ReturnsTo base
        (read_behind (unless_faulty l.number o (Reads (behind l.number (named c) c frames) (and_line l.number (passing (named c) c frames) had)))
        (filter (is_within own.begun) ls))
    by_fault (Some kind) = rw (broken-stays (filter (is_within own.begun) ls) (record { line = l.number; kind = kind })) tt
    by_fault None =
        by_name l ls again c own q base (and_line l.number (passing (named c) c frames) had) steady some gone (named c) inner frames h.0
        (name-is l.content c e) (rw (h.0) h.3) h.4 end over

returns : (ls : List Placed) → Returns ls
returns [] n inner own q base frames had steady some gone h over end = let no = still-open inner own q in cc
returns (l ∷ ls) n inner own q base frames had steady some gone h over end =
    let within : is_within own.begun l ≡ true = ap (list_any (λ c. c.begun == own.begun)) (h.0) ∙ any-within inner own q in
    rw within (one-line l ls (returns ls) l.content refl n inner own q base frames had steady some gone h over end)

-- A COMPONENT from its BEGIN to its END, before other lines.
first-line : (path : List Open) (number : ℕ) (c : Parts) → named c ≡ name.Begin →
    AreOver (frames_around path) [] (behind number (named c) c (frames_around path))
first-line [] number c n = rw n refl
first-line (o ∷ os) number c n = rw n refl

pub begins-by-name : (o : Option Parts) → same_name (name_on o) name.Begin ≡ true → (c : Parts) → o ≡ Some c → named c ≡ name.Begin
begins-by-name o b c e = sym (name-is o c e) ∙ begin-is (name_on o) b

pub block_returns : (l : Placed) (ls : List Placed) (had : ParsedFileSeen) → is_begin l ≡ true → Falls l.path → innermost l.path < l.number →
    AreInPlace l.number (path_behind l) ls → no_open (path_at_end (path_behind l) ls) ≡ true →
    ReturnsTo (frames_around l.path) (read_behind (Reads (frames_around l.path) had) (block_of (l ∷ ls) l))
block_returns l ls had begin falls inner h end =
    rw (eq-eqb l.number l.number refl, own-first ls l (ap innermost opened) h) (by_content l.content refl)
  where
    own : Open
    own = record { name = component l; begun = l.number }

    opened : path_behind l ≡ own ∷ l.path
    opened = rw begin refl

    base : List Frame
    base = frames_around l.path

    gone : Absent l.number l.path
    gone = below l.number l.path falls inner

    by_content : (o : Option Parts) → l.content ≡ o →
        ReturnsTo base (read_behind (read_on l.number o (Reads base had)) (filter (is_within l.number) ls))
    by_content None e = rw (broken-stays (filter (is_within l.number) ls) (record { line = l.number; kind = BadLine })) tt
    by_content (Some c) e = by_fault (fault_on (named c) c base)
      where
        by_fault : (o : Option FaultKind) →
            ReturnsTo base
            (read_behind (unless_faulty l.number o (Reads (behind l.number (named c) c base) (and_line l.number (passing (named c) c base) had)))
            (filter (is_within l.number) ls))
        by_fault (Some kind) = rw (broken-stays (filter (is_within l.number) ls) (record { line = l.number; kind = kind })) tt
        by_fault None =
            returns ls l.number [] own l.path base (behind l.number (named c) c base) (and_line l.number (passing (named c) c base) had)
            (around-steady l.path) (omega (arith, inner)) gone (subst (λ (p : List Open). AreInPlace l.number p ls) opened h)
            (first-line l.path l.number c (begins-by-name l.content begin c e)) (ap (λ p. no_open (path_at_end p ls)) (sym opened) ∙ end)
