-- What the agents of a list of beacons are: in order, distinct, heard, and all of its senders at their least totals.
use Rattle.std.proofs.Common.{◌≡◌, ◌<◌, ◌≤◌, ◌⊎◌, inl, inr, ℕ, suc, Bool, true, false, cond, List, [], ◌∷◌, refl, sym, ◌∙◌, arith}
use Rattle.std.specs.Prelude.{not, nat_lt, ◌==◌, All, AllPairs, Any, Contains}
use Rattle.std.proofs.lemmas.Bool.{cases_lt, eqb-true, eqb-false}
use Rattle.std.proofs.lemmas.List.Elements.{All-nil, All-cons, All-head, All-tail, All-filter, All-contains_itself}
use Rattle.std.proofs.lemmas.List.Kept.{AllPairs-cons}
use Rattle.plc_base.specs.Addresses.{IsAddress}
use Rattle.plc_base.specs.Orders.{placed_by, ordered_by}
use Rattle.pan_discovery.specs.declared.agents.Agent.{Agent}
use Rattle.pan_discovery.specs.Agents.{rank, without, firsts, agents_of}
use Rattle.pan_discovery.specs.Laws.{ComesBefore, AgentsAreInOrder, AgentsAreDistinct, AgentsWereHeard, SendersAreAgents}
use Rattle.pan_discovery.proofs.Orders.{From, Sorted, Free, Distinct, sorted_all, agents_sorted, agents_distinct}

-- # What each agent keeps of the beacons

module _ (P : Agent → Type 0) where
  all_firsts : (xs : List Agent) → All P xs → All P (firsts xs)
  all_firsts [] h = h
  all_firsts (x ∷ xs) h =
      All-cons P x _ (All-head P x xs h) (All-filter (λ (a : Agent). not (a.address == x.address)) P (firsts xs) (all_firsts xs (All-tail P x xs h)))

  all_placed : (x : Agent) (xs : List Agent) → P x → All P xs → All P (placed_by rank x xs)
  all_placed x [] p h = All-cons P x [] p h
  all_placed x (y ∷ ys) p h = by_test (all_placed x ys p (All-tail P y ys h)) (nat_lt (rank x) (rank y))
    where
      by_test : All P (placed_by rank x ys) → (b : Bool) → All P (cond b (x ∷ (y ∷ ys)) (y ∷ placed_by rank x ys))
      by_test more true = All-cons P x (y ∷ ys) p h
      by_test more false = All-cons P y (placed_by rank x ys) (All-head P y ys h) more

  all_ordered : (xs : List Agent) → All P xs → All P (ordered_by rank xs)
  all_ordered [] h = h
  all_ordered (x ∷ xs) h = all_placed x (ordered_by rank xs) (All-head P x xs h) (all_ordered xs (All-tail P x xs h))

  pub all_agents : (heard : List Agent) → All P heard → All P (agents_of heard)
  all_agents heard h = all_firsts (ordered_by rank heard) (all_ordered heard h)

pub agents_heard : AgentsWereHeard
agents_heard heard = all_agents (Contains heard) heard (All-contains_itself heard)

-- # Order

-- an agent has another address
abbrev IsOther : ℕ → Agent → Type 0
IsOther n b = ¬ (n ≡ b.address)

-- a beacon's sender is among agents, and no dearer
abbrev IsAmong : List Agent → Agent → Type 0
IsAmong agents b = Any (λ (a : Agent). (a.address ≡ b.address) × (a.total ≤ b.total)) agents

others : (n : ℕ) (xs : List Agent) → Free n xs → All (IsOther n) xs
others n [] f = All-nil (IsOther n)
others n (x ∷ xs) f = All-cons (IsOther n) x xs (λ same. eqb-false _ _ f.0 (sym same)) (others n xs f.1)

apart : (xs : List Agent) → Distinct xs → AllPairs (λ (a b : Agent). ¬ (a.address ≡ b.address)) xs
apart [] d = λ i j d lt within. absurd (omega (arith, within))
apart (x ∷ xs) d = AllPairs-cons (λ (a : Agent). IsOther a.address) x xs (others x.address xs d.0) (apart xs d.1)

pub agents_apart : AgentsAreDistinct
agents_apart heard = apart (agents_of heard) (agents_distinct heard)

before : (a b : Agent) → IsAddress a.address → IsAddress b.address → rank a ≤ rank b → ¬ (a.address ≡ b.address) → ComesBefore a b
before a b fa fb le other = by_total (cases_lt a.total b.total)
  where
    by_total : ((a.total < b.total) ⊎ (b.total ≤ a.total)) → ComesBefore a b
    by_total (inl cheaper) = inl cheaper
    by_total (inr dearer) = inr (omega (arith, dearer, le, fa, fb), omega (arith, dearer, le, fa, fb, other))

all_before : (x : Agent) (xs : List Agent) → IsAddress x.address → All (λ (a : Agent). IsAddress a.address) xs → From (rank x) xs → Free x.address xs
    → All (ComesBefore x) xs
all_before x [] fx fits f free = All-nil (ComesBefore x)
all_before x (y ∷ ys) fx fits f free =
    All-cons (ComesBefore x) y ys (before x y fx (All-head (λ (a : Agent). IsAddress a.address) y ys fits) f.0 (λ same. eqb-false _ _ free.0 (sym same)))
    (all_before x ys fx (All-tail (λ (a : Agent). IsAddress a.address) y ys fits) f.1 free.1)

in_order : (xs : List Agent) → All (λ (a : Agent). IsAddress a.address) xs → Sorted xs → Distinct xs → AllPairs ComesBefore xs
in_order [] fits s d = λ i j d lt within. absurd (omega (arith, within))
in_order (x ∷ xs) fits s d =
    let rest = All-tail (λ (a : Agent). IsAddress a.address) x xs fits in
    AllPairs-cons ComesBefore x xs (all_before x xs (All-head (λ (a : Agent). IsAddress a.address) x xs fits) rest s.0 d.0) (in_order xs rest s.1 d.1)

pub agents_in_order : AgentsAreInOrder
agents_in_order heard fits =
    in_order (agents_of heard) (all_agents (λ (a : Agent). IsAddress a.address) heard fits) (agents_sorted heard) (agents_distinct heard)

-- # Each sender

-- the sender of a beacon stands in a list, no dearer
abbrev Has : Agent → List Agent → Type 0
Has b [] = ⊥
Has b (x ∷ xs) = ((x.address ≡ b.address) × (x.total ≤ b.total)) ⊎ Has b xs

abbrev Covers : List Agent → List Agent → Type 0
Covers agents [] = Unit {0}
Covers agents (b ∷ heard) = Has b agents × Covers agents heard

has_without : (b : Agent) (n : ℕ) (xs : List Agent) → ¬ (b.address ≡ n) → Has b xs → Has b (without n xs)
has_without b n [] other h = h
has_without b n (x ∷ xs) other h = by_test (λ r. has_without b n xs other r) (x.address == n) refl h
  where
    by_test : (Has b xs → Has b (without n xs)) → (c : Bool) → (x.address == n) ≡ c → Has b (x ∷ xs) → Has b (cond (not c) (x ∷ without n xs) (without n xs))
    by_test more true e (inl here) = absurd (other (sym here.0 ∙ eqb-true _ _ e))
    by_test more true e (inr later) = more later
    by_test more false e (inl here) = inl here
    by_test more false e (inr later) = inr (more later)

has_first : (b x : Agent) (agents : List Agent) → rank x ≤ rank b → Has b agents → Has b (x ∷ without x.address agents)
has_first b x agents le h = by_test (x.address == b.address) refl
  where
    by_test : (c : Bool) → (x.address == b.address) ≡ c → Has b (x ∷ without x.address agents)
    by_test true e = let same : x.address ≡ b.address = eqb-true _ _ e in inl (same, omega (arith, le, same))
    by_test false e = inr (has_without b x.address agents (λ same. eqb-false _ _ e (sym same)) h)

covers_first : (x : Agent) (agents heard : List Agent) → From (rank x) heard → Covers agents heard → Covers (x ∷ without x.address agents) heard
covers_first x agents [] f h = tt
covers_first x agents (b ∷ heard) f h = (has_first b x agents f.0 h.0, covers_first x agents heard f.1 h.1)

covers_firsts : (xs : List Agent) → Sorted xs → Covers (firsts xs) xs
covers_firsts [] s = tt
covers_firsts (x ∷ xs) s = (inl (refl, omega arith), covers_first x (firsts xs) xs s.0 (covers_firsts xs s.1))

covers_placed : (agents : List Agent) (x : Agent) (xs : List Agent) → Covers agents (placed_by rank x xs) → Has x agents × Covers agents xs
covers_placed agents x [] h = h
covers_placed agents x (y ∷ ys) h = by_test (λ r. covers_placed agents x ys r) (nat_lt (rank x) (rank y)) h
  where
    by_test : (Covers agents (placed_by rank x ys) → Has x agents × Covers agents ys) → (b : Bool)
        → Covers agents (cond b (x ∷ (y ∷ ys)) (y ∷ placed_by rank x ys)) → Has x agents × Covers agents (y ∷ ys)
    by_test more true h = h
    by_test more false h = let rest = more h.1 in (rest.0, (h.0, rest.1))

covers_ordered : (agents xs : List Agent) → Covers agents (ordered_by rank xs) → Covers agents xs
covers_ordered agents [] h = tt
covers_ordered agents (x ∷ xs) h = let parts = covers_placed agents x (ordered_by rank xs) h in (parts.0, covers_ordered agents xs parts.1)

any_of : (b : Agent) (xs : List Agent) → Has b xs → Any (λ (a : Agent). (a.address ≡ b.address) × (a.total ≤ b.total)) xs
any_of b [] h = absurd h
any_of b (x ∷ xs) (inl here) = (0, x, omega arith, refl, here)
any_of b (x ∷ xs) (inr later) = let more = any_of b xs later in (suc more.0, more.1, omega (arith, more.2), more.3, more.4)

covered : (agents heard : List Agent) → Covers agents heard → All (IsAmong agents) heard
covered agents [] h = All-nil (IsAmong agents)
covered agents (b ∷ heard) h = All-cons (IsAmong agents) b heard (any_of b agents h.0) (covered agents heard h.1)

pub senders_are_agents : SendersAreAgents
senders_are_agents heard = covered (agents_of heard) heard (covers_ordered (agents_of heard) heard (covers_firsts (ordered_by rank heard) (sorted_all heard)))
