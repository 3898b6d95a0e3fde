-- A line leads to its colon exactly where it is spelled as a content line.
use Rattle.std.proofs.Common.{◌≡◌, ℕ, suc, ◌+◌, Bool, true, false, List, [], ◌∷◌, ◌++◌, drop, length, refl, sym, ap, ◌∙◌, append_assoc, add-one, Option}
use Rattle.std.proofs.Common.{Some, None, IfSome, subst, ◌==◌, option_map, if◌then◌else◌}
use Rattle.std.specs.List.{flat_map, AllByRecursion, list_all}
use Rattle.std.proofs.lemmas.Bool.{eqb-true, and_parts, true_from_ne_false}
use Rattle.ics_text.specs.Bytes.{comma, is_name_byte, is_quoted_byte, is_plain_byte}
use Rattle.ics_text.specs.ContentLines.{Value as Parameter, Param, value_text, params_text, IsName, IsValue, IsParam}
use Rattle.ics_text.specs.ScanSteps.{ScanState, Start, InName, BeforeParam, InParam, BeforeValue, InPlain, InQuotes, AfterQuotes}
use Rattle.ics_text.specs.ScanSteps.{Move, On, Value, Refused, step, counted, colon_from, ends_value, in_value}
use Rattle.ics_text.proofs.BytesLemmas.{quoted-no_quote, plain-no_sign}

-- what may follow a value: more values, and then parameters
abbrev pub more : List Parameter → List Param → List ℕ
more vs ps = flat_map (λ v. comma ∷ value_text v) vs ++ params_text ps

-- a parameter behind its `;`, and what follows it
abbrev pub body : List ℕ → Parameter → List Parameter → List Param → List ℕ
body name v vs ps = name ++ (61 ∷ (value_text v ++ more vs ps))

pub more-value : (v : Parameter) (vs : List Parameter) (ps : List Param) → more (v ∷ vs) ps ≡ 44 ∷ (value_text v ++ more vs ps)
more-value v vs ps = simp append_assoc

pub params-param : (p : Param) (ps : List Param) → params_text (p ∷ ps) ≡ 59 ∷ body p.name p.first p.others ps
params-param p ps = simp append_assoc

-- What the text from a place up to the colon is made of: bytes of what the place stands in, a value, values and parameters behind them.
pub record Tail : Type 0 where
  pub bytes : List ℕ
  pub first : Parameter
  pub vs : List Parameter
  pub ps : List Param

abbrev pub tail_text : ScanState → Tail → List ℕ
tail_text Start t = t.bytes ++ params_text t.ps
tail_text InName t = t.bytes ++ params_text t.ps
tail_text BeforeParam t = body t.bytes t.first t.vs t.ps
tail_text InParam t = body t.bytes t.first t.vs t.ps
tail_text BeforeValue t = value_text t.first ++ more t.vs t.ps
tail_text InPlain t = t.bytes ++ more t.vs t.ps
tail_text InQuotes t = t.bytes ++ (34 ∷ more t.vs t.ps)
tail_text AfterQuotes t = more t.vs t.ps

pub record Rest (vs : List Parameter) (ps : List Param) : Type 0 where
  pub values : AllByRecursion IsValue vs
  pub params : AllByRecursion IsParam ps

abbrev pub TailOk : ScanState → Tail → Type 0
TailOk Start t = IsName t.bytes × AllByRecursion IsParam t.ps
TailOk InName t = (list_all is_name_byte t.bytes ≡ true) × AllByRecursion IsParam t.ps
TailOk BeforeParam t = IsName t.bytes × IsValue t.first × Rest t.vs t.ps
TailOk InParam t = (list_all is_name_byte t.bytes ≡ true) × IsValue t.first × Rest t.vs t.ps
TailOk BeforeValue t = IsValue t.first × Rest t.vs t.ps
TailOk InPlain t = (list_all is_plain_byte t.bytes ≡ true) × Rest t.vs t.ps
TailOk InQuotes t = (list_all is_quoted_byte t.bytes ≡ true) × Rest t.vs t.ps
TailOk AfterQuotes t = Rest t.vs t.ps

abbrev none : Parameter
none = record { quoted = false; bytes = [] }

abbrev tail_of : List ℕ → Parameter → List Parameter → List Param → Tail
tail_of bytes v vs ps = record { bytes = bytes; first = v; vs = vs; ps = ps }

-- a text leads on by one byte to a text of the next place, and an empty one to the colon
abbrev OnTo : Move → List ℕ → Type 0
OnTo m text = (q : ScanState) × (t : Tail) × (m ≡ On q) × TailOk q t × (text ≡ tail_text q t)

abbrev Ahead : (ℕ → Move) → List ℕ → Type 0
Ahead move [] = move 58 ≡ Value
Ahead move (b ∷ text) = OnTo (move b) text

-- behind a name parameters follow, or the colon
params-ahead : (move : ℕ → Move) → (move 58 ≡ Value) × (move 59 ≡ On BeforeParam) → (ps : List Param) → AllByRecursion IsParam ps → Ahead move (params_text ps)
params-ahead move ends [] ok = ends.0
params-ahead move ends (p ∷ ps) ok = (
  BeforeParam,
  tail_of p.name p.first p.others ps,
  ends.1,
  (ok.0.name, ok.0.first, record { values = ok.0.others; params = ok.1 }),
  ap (drop 1) (params-param p ps),
)

-- and behind a value also more values
ends-ahead : (move : ℕ → Move) → (move 58 ≡ Value) × (move 59 ≡ On BeforeParam) → move 44 ≡ On BeforeValue → (vs : List Parameter) (ps : List Param)
    → Rest vs ps → Ahead move (more vs ps)
ends-ahead move ends values [] ps ok = params-ahead move ends ps ok.params
ends-ahead move ends values (v ∷ vs) ps ok =
    (BeforeValue, tail_of [] v vs ps, values, (ok.values.0, record { values = ok.values.1; params = ok.params }), append_assoc (value_text v) _ _)

value-ahead : (quoted : Bool) (bytes : List ℕ) (vs : List Parameter) (ps : List Param) → IsValue (record { quoted = quoted; bytes = bytes }) → Rest vs ps
    → Ahead (step BeforeValue) (value_text (record { quoted = quoted; bytes = bytes }) ++ more vs ps)
value-ahead true bytes vs ps h ok = (InQuotes, tail_of bytes none vs ps, refl, (h, ok), append_assoc bytes (34 ∷ []) (more vs ps))
value-ahead false [] vs ps h ok = ends-ahead (step BeforeValue) (refl, refl) refl vs ps ok
value-ahead false (b ∷ bs) vs ps h ok =
    let parts = and_parts (is_plain_byte b) (list_all is_plain_byte bs) h in
    (InPlain, tail_of bs none vs ps, rw (parts.0, (plain-no_sign b parts.0).quote) refl, (parts.1, ok), refl)

forth : (state : ScanState) (bytes : List ℕ) (v : Parameter) (vs : List Parameter) (ps : List Param) → TailOk state (tail_of bytes v vs ps)
    → Ahead (step state) (tail_text state (tail_of bytes v vs ps))
forth Start [] v vs ps ok = absurd (ok.0.some refl)
forth Start (b ∷ bs) v vs ps ok = let parts = and_parts (is_name_byte b) _ ok.0.bytes in (InName, tail_of bs v vs ps, rw parts.0 refl, (parts.1, ok.1), refl)
forth InName [] v vs ps ok = params-ahead (step InName) (refl, refl) ps ok.1
forth InName (b ∷ bs) v vs ps ok = let parts = and_parts (is_name_byte b) _ ok.0 in (InName, tail_of bs v vs ps, rw parts.0 refl, (parts.1, ok.1), refl)
forth BeforeParam [] v vs ps ok = absurd (ok.0.some refl)
forth BeforeParam (b ∷ bs) v vs ps ok =
    let parts = and_parts (is_name_byte b) _ ok.0.bytes in (InParam, tail_of bs v vs ps, rw parts.0 refl, (parts.1, ok.1, ok.2), refl)
forth InParam [] v vs ps ok = (BeforeValue, tail_of [] v vs ps, refl, (ok.1, ok.2), refl)
forth InParam (b ∷ bs) v vs ps ok = let parts = and_parts (is_name_byte b) _ ok.0 in (InParam, tail_of bs v vs ps, rw parts.0 refl, (parts.1, ok.1, ok.2), refl)
forth BeforeValue bytes v vs ps ok = value-ahead v.quoted v.bytes vs ps ok.0 ok.1
forth InPlain [] v vs ps ok = ends-ahead (step InPlain) (refl, refl) refl vs ps ok.1
forth InPlain (b ∷ bs) v vs ps ok = let parts = and_parts (is_plain_byte b) _ ok.0 in (InPlain, tail_of bs v vs ps, rw parts.0 refl, (parts.1, ok.1), refl)
forth InQuotes [] v vs ps ok = (AfterQuotes, tail_of [] v vs ps, refl, ok.1, refl)
forth InQuotes (b ∷ bs) v vs ps ok =
    let parts = and_parts (is_quoted_byte b) _ ok.0 in (InQuotes, tail_of bs v vs ps, rw (parts.0, quoted-no_quote b parts.0) refl, (parts.1, ok.1), refl)
forth AfterQuotes bytes v vs ps ok = ends-ahead ends_value (refl, refl) refl vs ps ok

-- a text leads from a place to the colon behind it
leads : (rest text : List ℕ) (state : ScanState) (t : Tail) → TailOk state t → text ≡ tail_text state t
    → colon_from (text ++ 58 ∷ rest) state ≡ Some (length text)
leads rest [] state t ok e =
    let h : step state 58 ≡ Value = subst (Ahead (step state)) (sym e) (forth state t.bytes t.first t.vs t.ps ok) in rw h refl
leads rest (b ∷ text) state t ok e =
    let ahead : OnTo (step state b) text = subst (Ahead (step state)) (sym e) (forth state t.bytes t.first t.vs t.ps ok) in
    let (q, u, s, fine, is) = ahead in
    rw (s, leads rest text q u fine is, add-one) refl

-- what is spelled as a content line leads to its colon
pub comes : (rest name : List ℕ) (ps : List Param) → IsName name → AllByRecursion IsParam ps →
    colon_from ((name ++ params_text ps) ++ 58 ∷ rest) Start ≡ Some (length (name ++ params_text ps))
comes rest name ps n h = leads rest (name ++ params_text ps) Start (tail_of name none [] ps) (n, h) refl

-- a text of one place, with a byte in front of it, is a text of the place before
abbrev pub Back : ScanState → ℕ → Tail → ScanState → Type 0
Back state b t q = TailOk q t → (u : Tail) × TailOk state u × (tail_text state u ≡ b ∷ tail_text q t)

all-cons : (p : ℕ → Bool) (b : ℕ) (bs : List ℕ) → p b ≡ true → list_all p bs ≡ true → list_all p (b ∷ bs) ≡ true
all-cons p b bs h k = rw (h, k) refl

no_end : (t : Bool) (q : ScanState) → (if t then Value else Refused) ≡ On q → ⊥
no_end true q e = cc
no_end false q e = cc

-- where a byte goes by a test
on_test : (P : ScanState → Type 0) {q : ScanState} {other : Move} (b : Bool) (p : ScanState) → (if b then On p else other) ≡ On q
    → (b ≡ true → P p) → (b ≡ false → other ≡ On q → P q) → P q
on_test P {q} true p e f g = let same : p ≡ q = cc in subst P same (f refl)
on_test P false p e f g = g refl e

-- the parameter that begins behind `;`
abbrev pub begun : Tail → Param
begun t = record { name = t.bytes; first = t.first; others = t.vs }

begun-ok : (t : Tail) → TailOk BeforeParam t → AllByRecursion IsParam (begun t ∷ t.ps)
begun-ok t ok = (record { name = ok.0; first = ok.1; others = ok.2.values }, ok.2.params)

begun-text : (b : ℕ) (t : Tail) → b ≡ 59 → params_text (begun t ∷ t.ps) ≡ b ∷ tail_text BeforeParam t
begun-text b t e = params-param (begun t) t.ps ∙ ap (λ c. c ∷ tail_text BeforeParam t) (sym e)

-- a byte that ends a value
back-ends : (b : ℕ) (q : ScanState) (t : Tail) → ends_value b ≡ On q → Back AfterQuotes b t q
back-ends b q t s = on_test (Back AfterQuotes b t) (b == 44) BeforeValue s
    (λ h ok. (
      tail_of [] none (t.first ∷ t.vs) t.ps,
      record { values = (ok.0, ok.1.values); params = ok.1.params },
      more-value t.first t.vs t.ps ∙ ap (λ c. c ∷ tail_text BeforeValue t) (sym (eqb-true b 44 h)),
    ))
    (λ h e. on_test (Back AfterQuotes b t) (b == 59) BeforeParam e
    (λ k ok. (tail_of [] none [] (begun t ∷ t.ps), record { values = tt; params = begun-ok t ok }, begun-text b t (eqb-true b 59 k)))
    (λ k e. absurd (no_end (b == 58) q e)))

back : (state : ScanState) (b : ℕ) (q : ScanState) (t : Tail) → step state b ≡ On q → Back state b t q
back Start b q t s = on_test (Back Start b t) (is_name_byte b) InName s
    (λ h ok. (record t { bytes = b ∷ t.bytes }, (record { some = λ e. cc; bytes = all-cons is_name_byte b t.bytes h ok.0 }, ok.1), refl))
    (λ h e. cc)
back InName b q t s = on_test (Back InName b t) (is_name_byte b) InName s
    (λ h ok. (record t { bytes = b ∷ t.bytes }, (all-cons is_name_byte b t.bytes h ok.0, ok.1), refl))
    (λ h e. on_test (Back InName b t) (b == 59) BeforeParam e
    (λ k ok. (tail_of [] none [] (begun t ∷ t.ps), (refl, begun-ok t ok), begun-text b t (eqb-true b 59 k)))
    (λ k e. absurd (no_end (b == 58) q e)))
back BeforeParam b q t s = on_test (Back BeforeParam b t) (is_name_byte b) InParam s
    (λ h ok. (record t { bytes = b ∷ t.bytes }, (record { some = λ e. cc; bytes = all-cons is_name_byte b t.bytes h ok.0 }, ok.1, ok.2), refl))
    (λ h e. cc)
back InParam b q t s = on_test (Back InParam b t) (is_name_byte b) InParam s
    (λ h ok. (record t { bytes = b ∷ t.bytes }, (all-cons is_name_byte b t.bytes h ok.0, ok.1, ok.2), refl))
    (λ h e. on_test (Back InParam b t) (b == 61) BeforeValue e
    (λ k ok. (record t { bytes = [] }, (refl, ok.0, ok.1), ap (λ c. c ∷ tail_text BeforeValue t) (sym (eqb-true b 61 k))))
    (λ k e. cc))
back AfterQuotes b q t s = back-ends b q t s
back InPlain b q t s = on_test (Back InPlain b t) (is_plain_byte b) InPlain s
    (λ h ok. (record t { bytes = b ∷ t.bytes }, (all-cons is_plain_byte b t.bytes h ok.0, ok.1), refl))
    (λ h e ok. let (u, rest, same) = back-ends b q t e ok in (record u { bytes = [] }, (refl, rest), same))
back BeforeValue b q t s = on_test (Back BeforeValue b t) (b == 34) InQuotes s
    (λ h ok. (
      record t { first = record { quoted = true; bytes = t.bytes } },
      (ok.0, ok.1),
      ap (λ r. 34 ∷ r) (append_assoc t.bytes (34 ∷ []) (more t.vs t.ps)) ∙ ap (λ c. c ∷ tail_text InQuotes t) (sym (eqb-true b 34 h)),
    ))
    (λ h e. on_test (Back BeforeValue b t) (is_plain_byte b) InPlain e
    (λ k ok. (record t { first = record { quoted = false; bytes = b ∷ t.bytes } }, (all-cons is_plain_byte b t.bytes k ok.0, ok.1), refl))
    (λ k e ok. let (u, rest, same) = back-ends b q t e ok in (record u { first = none }, (refl, rest), same)))
back InQuotes b q t s = on_test (Back InQuotes b t) (b == 34) AfterQuotes s
    (λ h ok. (record t { bytes = [] }, (refl, ok), ap (λ c. c ∷ tail_text AfterQuotes t) (sym (eqb-true b 34 h))))
    (λ h e. on_test (Back InQuotes b t) (is_quoted_byte b) InQuotes e
    (λ k ok. (record t { bytes = b ∷ t.bytes }, (all-cons is_quoted_byte b t.bytes k ok.0, ok.1), refl))
    (λ k e. cc))

-- where the byte is the colon before the value, nothing may be missing
abbrev Stops : ScanState → ℕ → Type 0
Stops state b = (b ≡ 58) × ((t : Tail) × TailOk state t × (tail_text state t ≡ []))

-- the byte that ends the parameters passes no test before the last
value_last : (t : Bool) (p : ScanState) (other : Move) → (if t then On p else other) ≡ Value → other ≡ Value
value_last true p other e = cc
value_last false p other e = e

is_colon : (b : ℕ) → (if b == 58 then Value else Refused) ≡ Value → b ≡ 58
is_colon b e = eqb-true b 58 (true_from_ne_false (b == 58) (λ not. let no = rw not at e in cc))

ends-colon : (b : ℕ) → ends_value b ≡ Value → b ≡ 58
ends-colon b s = is_colon b (value_last (b == 59) BeforeParam _ (value_last (b == 44) BeforeValue _ s))

value-colon : (b : ℕ) → in_value b ≡ Value → b ≡ 58
value-colon b s = ends-colon b (value_last (is_plain_byte b) InPlain _ s)

abbrev nothing : Tail
nothing = tail_of [] none [] []

no_rest : Rest [] []
no_rest = record { values = tt; params = tt }

stop : (state : ScanState) (b : ℕ) → step state b ≡ Value → Stops state b
stop Start b s = let no = value_last (is_name_byte b) InName Refused s in cc
stop InName b s = (is_colon b (value_last (b == 59) BeforeParam _ (value_last (is_name_byte b) InName _ s)), (nothing, (refl, tt), refl))
stop BeforeParam b s = let no = value_last (is_name_byte b) InParam Refused s in cc
stop InParam b s = let no = value_last (b == 61) BeforeValue Refused (value_last (is_name_byte b) InParam _ s) in cc
stop BeforeValue b s = (value-colon b (value_last (b == 34) InQuotes _ s), (nothing, (refl, no_rest), refl))
stop InPlain b s = (value-colon b s, (nothing, (refl, no_rest), refl))
stop InQuotes b s = let no = value_last (is_quoted_byte b) InQuotes Refused (value_last (b == 34) AfterQuotes _ s) in cc
stop AfterQuotes b s = (ends-colon b s, (nothing, no_rest, refl))

pub record Found (state : ScanState) (bs : List ℕ) (k : ℕ) : Type 0 where
  pub tail : Tail
  pub behind : List ℕ
  pub ok : TailOk state tail
  pub text : bs ≡ tail_text state tail ++ 58 ∷ behind
  pub count : k ≡ length (tail_text state tail)

-- what leads to its colon is spelled so
pub found : (bs : List ℕ) (state : ScanState) → IfSome (colon_from bs state) (Found state bs)
found [] state = tt
found (b ∷ bs) state = went (step state b) refl (found bs)
  where
    came : (q : ScanState) (o : Option ℕ) → step state b ≡ On q → IfSome o (Found q bs) → IfSome (option_map (λ n. n + 1) o) (Found state (b ∷ bs))
    came q None s f = tt
    came q (Some j) s f =
        let (u, ok, text) = back state b q f.tail s f.ok in
        record {
          tail = u;
          behind = f.behind;
          ok = ok;
          text = ap (λ r. b ∷ r) f.text ∙ ap (λ r. r ++ 58 ∷ f.behind) (sym text);
          count = add-one j ∙ ap suc f.count ∙ ap length (sym text);
        }

    went : (m : Move) → step state b ≡ m → ((q : ScanState) → IfSome (colon_from bs q) (Found q bs)) → IfSome (counted m (colon_from bs)) (Found state (b ∷ bs))
    went (On q) s later = came q (colon_from bs q) s (later q)
    went Value s later =
        let (colon, (t, ok, text)) = stop state b s in
        record { tail = t; behind = bs; ok = ok; text = ap (λ c. c ∷ bs) colon ∙ ap (λ r. r ++ 58 ∷ bs) (sym text); count = ap length (sym text) }
    went Refused s later = tt
