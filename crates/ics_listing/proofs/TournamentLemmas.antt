-- Which lead wins a tournament, and how one is put right from a lead upwards.
use Rattle.std.proofs.Common.{◌≡◌, ◌≢◌, ℕ, zero, suc, ◌+◌, ◌*◌, ◌/◌, ◌-◌, ◌<◌, ◌≤◌, false, cond, ◌⊎◌, inl, inr, ⊎_elim, List, length, get_or, replicate}
use Rattle.std.proofs.Common.{set, Option, Some, None, refl, sym, ◌∙◌, ap, subst, arith, length-set, get_or-set_same, nat_lt, slice_index, slice_index_or}
use Rattle.std.proofs.Common.{All, is_gt, is_lt, nat_cmp, Ordering, Less, Equal, Greater, get_or-set_other}
use Rattle.std.specs.Cmp.{IsTotalOrder}
use Rattle.std.specs.Cmp.Lexicographic.{options_total}
use Rattle.std.specs.Option.{option_cmp}
use Rattle.std.specs.Ordering.{ordering_reverse, ordering_then}
use Rattle.std.proofs.lemmas.Bool.{cases_cond, cases_eq, cases_lt}
use Rattle.std.proofs.lemmas.Bool.Decides.{nat_tests}
use Rattle.std.proofs.lemmas.Cmp.{back_total, int_cmp_total, nat_cmp_total, on_total, then_total, tied_itself, tied_back, upto}
use Rattle.std.proofs.lemmas.List.{get_or_past, get_or-replicate, length-replicate}
use Rattle.ics_listing.specs.Inner.EntryLaws.{entry_total}
use Rattle.ics_listing.proofs.Cases.{here-or-later}
use Rattle.ics_listing.specs.Inner.Tournament.{above, first_below, first_of, first_place, head_cmp, lead_cmp, node_count, turn_cmp, winner, AreSettled}
use Rattle.ics_listing.specs.Inner.Tournament.{AreSettledBut, AreSettledWhere, Turn}

turn_total : IsTotalOrder turn_cmp
turn_total = then_total (on_total (λ t. t.start) int_cmp_total) (on_total (λ t. t.entry) (options_total entry_total))

-- what has ended goes last
pub head_total : IsTotalOrder head_cmp
head_total = subst IsTotalOrder (λ i x y. same x y i) (back_total (options_total (back_total turn_total)))
  where
    same : (x y : Option Turn) → option_cmp (λ a b. turn_cmp b a) y x ≡ head_cmp x y
    same None None = refl
    same (Some x) (Some y) = refl
    same _ _ = refl

pub lead_total : (turns : List (Option Turn)) → IsTotalOrder (lead_cmp turns)
lead_total turns = then_total (on_total (λ lead. slice_index_or turns lead None) head_total) nat_cmp_total

-- by what two leads give next
pub lead-by : (turns : List (Option Turn)) (one other : ℕ) {a b : Option Turn} → get_or turns one None ≡ a → get_or turns other None ≡ b →
    lead_cmp turns one other ≡ ordering_then (head_cmp a b) (nat_cmp one other)
lead-by turns one other e f = λ i. ordering_then (head_cmp (e i) (f i)) (nat_cmp one other)

-- neither of two goes before the one that goes first
module _ (turns : List (Option Turn)) (a b : ℕ) where
  first_by : (c : Ordering) → lead_cmp turns a b ≡ c
      → (is_gt (lead_cmp turns (cond (is_lt c) a b) a) ≡ false) × (is_gt (lead_cmp turns (cond (is_lt c) a b) b) ≡ false)
  first_by Less e = (ap is_gt (tied_itself (lead_total turns) a), ap is_gt e)
  first_by Equal e = (ap is_gt (tied_back (lead_total turns) a b e), ap is_gt (tied_itself (lead_total turns) b))
  first_by Greater e =
      (ap is_gt ((lead_total turns).antisymm b a ∙ ap ordering_reverse e), ap is_gt (tied_itself (lead_total turns) b))

  pub first_of-first : (is_gt (lead_cmp turns (first_of turns a b) a) ≡ false) × (is_gt (lead_cmp turns (first_of turns a b) b) ≡ false)
  first_of-first = first_by (lead_cmp turns a b) refl

-- where nothing has been played yet
pub zeros-within : (n : ℕ) (winners : List ℕ) → winners ≡ replicate n 0 → All (λ lead. lead < n) winners
zeros-within n winners e k d l =
    let long : length winners ≡ n = ap length e ∙ length-replicate n 0 in
    let zero_at : get_or winners k d ≡ 0 = ap (λ ws. get_or ws k d) e ∙ get_or-replicate n k 0 d (omega arith) in
    omega arith

pub winner-node : (winners : List ℕ) (node : ℕ) → node < length winners → winner winners node ≡ slice_index winners node
winner-node winners node l = grind (arith, nat_tests)

winner-leaf : (winners : List ℕ) (node : ℕ) → length winners ≤ node → winner winners node ≡ node - length winners
winner-leaf winners node l = grind (arith, nat_tests)

pub winner-lead : (winners : List ℕ) (lead : ℕ) → winner winners (length winners + lead) ≡ lead
winner-lead winners lead = grind (arith, nat_tests)

-- several leads have as many nodes, and one alone has none
pub nodes-all : (n count : ℕ) → count ≡ node_count n → 1 < n → count ≡ n
nodes-all n count e l = grind (arith, nat_tests)

pub nodes-none : (n count : ℕ) → count ≡ node_count n → n < 2 → count ≡ 0
nodes-none n count e l = grind (arith, nat_tests)

-- a node is one of the two below the one above it
two_below : (node : ℕ) → (node ≡ 2 * (node / 2)) ⊎ (node ≡ 2 * (node / 2) + 1)
two_below node = ⊎_elim (λ l. inl (omega arith)) (λ l. inr (omega arith)) (cases_lt node (2 * (node / 2) + 1))

above-suc : (steps node : ℕ) → above (suc steps) node ≡ above steps node / 2
above-suc zero node = refl
above-suc (suc steps) node = above-suc steps (node / 2)

pub above-zero : (steps : ℕ) → above steps 0 ≡ 0
above-zero zero = refl
above-zero (suc steps) = above-zero steps

module _ (turns : List (Option Turn)) (winners : List ℕ) (settled : AreSettled turns winners) where
  -- each node but the first has lost to the winner above it, or is that
  over : (node : ℕ) → 1 < node → node < 2 * length winners → is_gt (lead_cmp turns (winner winners (node / 2)) (winner winners node)) ≡ false
  over node low high =
      let up : ℕ = node / 2 in
      let is : winner winners up ≡ first_below turns winners up =
      winner-node winners up (omega arith) ∙ settled up (omega arith) (omega arith) in
      let both = first_of-first turns (winner winners (2 * up)) (winner winners (2 * up + 1)) in
      ap (λ w. is_gt (lead_cmp turns w (winner winners node))) is
      ∙ ⊎_elim
      (λ e. ap (λ k. is_gt (lead_cmp turns (first_below turns winners up) (winner winners k))) e ∙ both.0)
      (λ e. ap (λ k. is_gt (lead_cmp turns (first_below turns winners up) (winner winners k))) e ∙ both.1)
      (two_below node)

  over_all : (fuel node : ℕ) → 0 < node → node ≤ fuel → node < 2 * length winners → is_gt (lead_cmp turns (winner winners 1) (winner winners node)) ≡ false
  over_all zero node low most high = absurd (omega arith)
  over_all (suc fuel) node low most high =
      ⊎_elim
      (λ e. ap (λ k. is_gt (lead_cmp turns (winner winners 1) (winner winners k))) (sym e) ∙ ap is_gt (tied_itself (lead_total turns) (winner winners 1)))
      (λ l. upto (lead_total turns) (winner winners 1) (winner winners (node / 2)) (winner winners node)
      (over_all fuel (node / 2) (omega arith) (omega arith) (omega arith)) (over node l high))
      (here-or-later 1 node (omega arith))

  -- no lead goes before the winner of all
  wins : (lead : ℕ) → lead < length winners → is_gt (lead_cmp turns (winner winners 1) lead) ≡ false
  wins lead l =
      ap (λ k. is_gt (lead_cmp turns (winner winners 1) k)) (sym (winner-lead winners lead))
      ∙ over_all (length winners + lead) (length winners + lead) (omega arith) (omega arith) (omega arith)

  pub goes-first-of : (n : ℕ) → length winners ≡ node_count n → (lead : ℕ) → lead < n → is_gt (lead_cmp turns (first_place winners) lead) ≡ false
  goes-first-of n e lead l =
      ⊎_elim
      (λ more.
      let full = nodes-all n (length winners) e more in
      ap (λ k. is_gt (lead_cmp turns k lead)) (sym (winner-node winners 1 (omega (arith, full)))) ∙ wins lead (omega (arith, full)))
      (λ one.
      let none = nodes-none n (length winners) e (omega arith) in
      let here : lead ≡ 0 = omega arith in
      let first : first_place winners ≡ 0 = get_or_past winners 1 0 (omega (arith, none)) in
      (λ i. is_gt (lead_cmp turns (first i) (here i))) ∙ ap is_gt (tied_itself (lead_total turns) 0))
      (cases_lt 1 n)

  -- the winner at a node is that at one of the two below it
  from_below : (node : ℕ) → 0 < node → node < length winners → (winner winners node ≡ winner winners (2 * node))
      ⊎ (winner winners node ≡ winner winners (2 * node + 1))
  from_below node low high =
      let a = winner winners (2 * node) in
      let b = winner winners (2 * node + 1) in
      cases_cond (is_lt (lead_cmp turns a b)) a b (winner winners node) (winner-node winners node high ∙ settled node low high)

  -- a lead has won at no node that is not above it
  elsewhere : {lead : ℕ} (fuel node : ℕ) → 0 < node → node < 2 * length winners → 2 * length winners ≤ node + fuel →
      ((steps : ℕ) → above steps (length winners + lead) ≢ node) → winner winners node ≢ lead
  elsewhere zero node low high most apart e = omega arith
  elsewhere {lead = lead} (suc fuel) node low high most apart e =
      ⊎_elim
      (λ l. ⊎_elim
      (λ s. elsewhere {lead = lead} fuel (2 * node) (omega arith) (omega arith) (omega arith) (below (2 * node) (omega arith)) (sym s ∙ e))
      (λ s. elsewhere {lead = lead} fuel (2 * node + 1) (omega arith) (omega arith) (omega arith) (below (2 * node + 1) (omega arith)) (sym s ∙ e))
      (from_below node low l))
      (λ l. apart 0 (omega (arith, winner-leaf winners node l, e)))
      (cases_lt node (length winners))
    where
      below : (child : ℕ) → child / 2 ≡ node → (steps : ℕ) → above steps (length winners + lead) ≢ child
      below child up steps is = apart (suc steps) (above-suc steps (length winners + lead) ∙ (ap (λ k. k / 2) is ∙ up))

first_of-same : (turns news : List (Option Turn)) (a b : ℕ) → slice_index_or news a None ≡ slice_index_or turns a None →
    slice_index_or news b None ≡ slice_index_or turns b None
    → first_of news a b ≡ first_of turns a b
first_of-same turns news a b p q = λ i. cond (is_lt (ordering_then (head_cmp (p i) (q i)) (nat_cmp a b))) a b

-- where only one lead has changed, all is right but for what stands above it
pub settled_but : (turns news : List (Option Turn)) (winners : List ℕ) (lead : ℕ) →
    ((j : ℕ) → j ≢ lead → slice_index_or news j None ≡ slice_index_or turns j None)
    → AreSettled turns winners → AreSettledBut (above 1 (length winners + lead)) news winners
settled_but turns news winners lead same settled node low high apart =
    let other : (child : ℕ) → child / 2 ≡ node → child < 2 * length winners → 0 < child → winner winners child ≢ lead =
    λ child up within low. elsewhere turns winners settled {lead = lead} (2 * length winners) child low within (omega arith)
    (λ steps is. apart steps (above-suc steps (length winners + lead) ∙ (ap (λ k. k / 2) is ∙ up))) in
    settled node low high
    ∙ sym (first_of-same turns news (winner winners (2 * node)) (winner winners (2 * node + 1))
    (same _ (other (2 * node) (omega arith) (omega arith) (omega arith)))
    (same _ (other (2 * node + 1) (omega arith) (omega arith) (omega arith))))

-- a node's winner is not read where another is
winner-set : (winners : List ℕ) (node w k : ℕ) → k ≢ node → winner (set winners node w) k ≡ winner winners k
winner-set winners node w k h =
    let long = length-set winners node w in λ i. cond (nat_lt k (long i)) (get_or-set_other winners node k w 0 h i) (k - long i)

-- after a node is put right
module _ (turns : List (Option Turn)) (winners : List ℕ) (node : ℕ) where
  settle : (P Q : ℕ → Type 0) → 0 < node → node < length winners → AreSettledWhere P turns winners
      → ((k : ℕ) → 0 < k → k ≢ node → Q k → P k × ((2 * k ≢ node) × (2 * k + 1 ≢ node)))
      → AreSettledWhere Q turns (set winners node (first_below turns winners node))
  settle P Q low l settled more k k_low k_in q =
      let news : List ℕ = set winners node (first_below turns winners node) in
      let within : k < length winners = omega (arith, length-set winners node (first_below turns winners node)) in
      let below : 2 * k ≢ node → 2 * k + 1 ≢ node → first_below turns news k ≡ first_below turns winners k =
      λ p r. ap (λ a. first_of turns a (winner news (2 * k + 1))) (winner-set winners node (first_below turns winners node) (2 * k) p)
      ∙ ap (λ b. first_of turns (winner winners (2 * k)) b) (winner-set winners node (first_below turns winners node) (2 * k + 1) r) in
      ⊎_elim
      (λ e. ap (slice_index news) e ∙ (get_or-set_same winners node (first_below turns winners node) 0 l
      ∙ (ap (first_below turns winners) (sym e) ∙ sym (below (λ z. absurd (omega arith)) (λ z. absurd (omega arith))))))
      (λ h.
      let m = more k k_low h q in
      get_or-set_other winners node k (first_below turns winners node) 0 h ∙ (settled k k_low within m.0 ∙ sym (below m.1.0 m.1.1)))
      (cases_eq k node)

pub settle_up : (turns : List (Option Turn)) (winners : List ℕ) (node : ℕ) → 0 < node → node < length winners → AreSettledBut node turns winners
    → AreSettledBut (node / 2) turns (set winners node (first_below turns winners node))
settle_up turns winners node low l settled =
    settle turns winners node (λ k. (steps : ℕ) → above steps node ≢ k) (λ k. (steps : ℕ) → above steps (node / 2) ≢ k) low l settled
    (λ k k_low h apart. (not-above k h apart, (λ e. apart 0 (omega arith), λ e. apart 0 (omega arith))))
  where
    not-above : (k : ℕ) → k ≢ node → ((steps : ℕ) → above steps (node / 2) ≢ k) → (steps : ℕ) → above steps node ≢ k
    not-above k h apart zero e = h (sym e)
    not-above k h apart (suc steps) e = apart steps e

pub settle_down : (turns : List (Option Turn)) (winners : List ℕ) (node : ℕ) → 0 < node → node < length winners →
    AreSettledWhere (λ k. node + 1 ≤ k) turns winners
    → AreSettledWhere (λ k. node ≤ k) turns (set winners node (first_below turns winners node))
settle_down turns winners node low l settled =
    settle turns winners node (λ k. node + 1 ≤ k) (λ k. node ≤ k) low l settled
    (λ k k_low h q. (omega arith, (λ e. absurd (omega arith), λ e. absurd (omega arith))))
