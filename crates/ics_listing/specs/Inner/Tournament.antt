-- A tournament of several leads by what they give next: each node knows the first of the leads below it. The nodes
-- 2 k and 2 k + 1 are below k, and the leads follow the n nodes: lead i is node n + i.
use Rattle.std.specs.Prelude.{◌≡◌, ◌≢◌, ℕ, zero, suc, ◌+◌, ◌*◌, ◌/◌, ◌-◌, ◌<◌, ℤ, Bool, false, ◌||◌, if◌then◌else◌, is_none, nat_lt, List, length}
use Rattle.std.specs.Prelude.{slice_index, slice_index_or, Option, Some, None}
use Rattle.std.specs.Option.{option_cmp}
use Rattle.std.specs.Ordering.{int_cmp, is_lt, nat_cmp, on, then_cmp}
use Rattle.std.specs.declared.cmp.Ordering.{Ordering}
use Rattle.std.specs.declared.cmp.Ordering.TheVariants.{Less, Equal, Greater}
use Rattle.ics_listing.specs.Entry.{Entry, entry_cmp, entry_of}
use Rattle.ics_listing.specs.Leads.{is_given}
use Rattle.ics_listing.specs.declared.occurrence.Occurrence.{Occurrence}

-- what a lead gives next, as far as that is known: the entry that it holds, at its start, or entries from an instant on
pub record Turn : Type 0 where
  pub start : ℤ
  pub entry : Option Entry

-- a lead that was not read yet gives entries from an instant on; one that was read and holds nothing has ended
abbrev pub turn_of : Option ℤ → Option Occurrence → Option Turn
turn_of (Some from) head = Some (record { start = from; entry = None })
turn_of None None = None
turn_of None (Some o) = Some (record { start = o.start; entry = Some (entry_of o) })

-- by the start, then by what is held; what was not read yet comes first
abbrev pub turn_cmp : Turn → Turn → Ordering
turn_cmp = then_cmp (on (λ t. t.start) int_cmp) (on (λ t. t.entry) (option_cmp entry_cmp))

-- a lead that has ended comes after the others
abbrev pub head_cmp : Option Turn → Option Turn → Ordering
head_cmp None None = Equal
head_cmp None (Some y) = Greater
head_cmp (Some x) None = Less
head_cmp (Some x) (Some y) = turn_cmp x y

-- by the turns of the leads and, if these are the same, by their places
abbrev pub lead_cmp : List (Option Turn) → ℕ → ℕ → Ordering
lead_cmp turns = then_cmp (on (λ lead. slice_index_or turns lead None) head_cmp) nat_cmp

-- one of two leads holds nothing
abbrev pub IsUnheld : Option Occurrence → Option Occurrence → Type 0
IsUnheld (Some a) (Some b) = ⊥
IsUnheld _ _ = Unit {0}

-- the lead that has won at a node
abbrev pub winner : List ℕ → ℕ → ℕ
winner winners node = if nat_lt node (length winners) then slice_index winners node else node - length winners

-- how many nodes a tournament of so many leads has, one of which is not used: one lead alone needs none
abbrev pub node_count : ℕ → ℕ
node_count n = if nat_lt 1 n then n else 0

-- the lead that has won at the first node or, where there are no nodes, the first
abbrev pub first_place : List ℕ → ℕ
first_place winners = slice_index_or winners 1 0

-- the turn of the first of all leads
abbrev pub first_turn : List (Option Turn) → List ℕ → Option Turn
first_turn turns winners = slice_index_or turns (first_place winners) None

-- what is held by it
abbrev pub held_by : Option Turn → Option Entry
held_by None = None
held_by (Some t) = t.entry

-- it was not read yet
abbrev pub is_unread : Option Turn → Bool
is_unread None = false
is_unread (Some t) = is_none t.entry

-- it was not read yet, or what it holds has the key of the entry that was given last
abbrev pub must_draw : Option Occurrence → Option Turn → Bool
must_draw last None = false
must_draw last (Some t) = is_none t.entry || is_given last t.entry

-- the first of two leads
abbrev pub first_of : List (Option Turn) → ℕ → ℕ → ℕ
first_of turns a b = if is_lt (lead_cmp turns a b) then a else b

-- the first of the winners at the two nodes below a node
abbrev pub first_below : List (Option Turn) → List ℕ → ℕ → ℕ
first_below turns winners node = first_of turns (winner winners (2 * node)) (winner winners (2 * node + 1))

-- each node for which the condition is true has the right winner
abbrev pub AreSettledWhere : (ℕ → Type 0) → List (Option Turn) → List ℕ → Type 0
AreSettledWhere P turns winners =
    (node : ℕ) → 0 < node → node < length winners → P node → slice_index winners node ≡ first_below turns winners node

-- each node has the right winner
abbrev pub AreSettled : List (Option Turn) → List ℕ → Type 0
AreSettled turns winners = (node : ℕ) → 0 < node → node < length winners → slice_index winners node ≡ first_below turns winners node

-- the node that is `steps` steps above a node
abbrev pub above : ℕ → ℕ → ℕ
above zero node = node
above (suc steps) node = above steps (node / 2)

-- each node has the right winner, except perhaps the given one and those above it
abbrev pub AreSettledBut : ℕ → List (Option Turn) → List ℕ → Type 0
AreSettledBut start = AreSettledWhere (λ node. (steps : ℕ) → above steps start ≢ node)
