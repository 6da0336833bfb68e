-- The agent whose turn it is, is within reach: a joined neighbour with power, in both directions.
use Rattle.std.proofs.Common.{◌≡◌, ℕ, zero, suc, ◌+◌, ◌*◌, eqb, ◌&&◌, cond, Bool, true, false, List, [], ◌∷◌, Option, Some, None, refl, sym, ap, ◌∙◌}
use Rattle.std.proofs.lemmas.Bool.{and_parts, cond_both, eqb-true}
use Rattle.std.specs.Prelude.{IfSome, slice_get, find, option_map}
use Rattle.std.specs.List.{fold}
use Rattle.line_place.specs.declared.link.Link.{Link}
use Rattle.line_place.specs.Rows.{hearers}
use Rattle.line_owner.specs.declared.agents.Agent.{Agent}
use Rattle.line_owner.specs.declared.member.Member.{Member}
use Rattle.line_owner.specs.Members.{member_at}
use Rattle.line_owner.specs.Agents.{IsWithinReach, cost_to, agent_over, agent_at, is_after, is_before, best_with, best_step}
use Rattle.line_owner.specs.Agents.{next_agent, nth_agent}

-- an agent that was found is within reach
abbrev pub IsReached : List (List Link) → List Member → ℕ → Option Agent → Type 0
IsReached rows members node found = IfSome found (λ agent. IsWithinReach rows members node agent)

-- # One neighbour

found : (p : Link → Bool) (links : List Link) (l : Link) → find p links ≡ Some l → (k : ℕ) × ((slice_get links k ≡ Some l) × (p l ≡ true))
found p [] l e = cc
found p (x ∷ xs) l e = by_test (found p xs l) (p x) refl e
  where
    by_test : (find p xs ≡ Some l → (k : ℕ) × ((slice_get xs k ≡ Some l) × (p l ≡ true)))
        → (b : Bool) → p x ≡ b → cond b (Some x) (find p xs) ≡ Some l → (k : ℕ) × ((slice_get (x ∷ xs) k ≡ Some l) × (p l ≡ true))
    by_test later true here is = (let same : x ≡ l = cc in (0, (ap Some same, ap p (sym same) ∙ here)))
    by_test later false here is = (let there = later is in (suc there.0, there.1))

leads_to : (links : List Link) (node cost : ℕ) → cost_to links node ≡ Some cost → (k : ℕ) × ((l : Link) × ((slice_get links k ≡ Some l) × (l.to ≡ node)))
unfolding cost_to
leads_to links node cost e = by_link (find (λ (l : Link). eqb l.to node) links) refl e
  where
    by_link : (o : Option Link) → find (λ (l : Link). eqb l.to node) links ≡ o → option_map (λ (l : Link). l.cost) o ≡ Some cost
        → (k : ℕ) × ((l : Link) × ((slice_get links k ≡ Some l) × (l.to ≡ node)))
    by_link None is c = cc
    by_link (Some l) is c =
        (let at = found (λ (l : Link). eqb l.to node) links l is in (at.0, (l, (at.1.0, eqb-true l.to node at.1.1))))

neighbour : (rows : List (List Link)) (members : List Member) (node k : ℕ) (link : Link) → slice_get (hearers rows node) k ≡ Some link
    → IsReached rows members node (agent_at rows members node link)
unfolding agent_at
neighbour rows members node k link there = by_cost (cost_to (hearers rows link.to) node) refl
  where
    by_cost : (o : Option ℕ) → cost_to (hearers rows link.to) node ≡ o → IsReached rows members node (agent_over members link.to o)
    by_cost None e = tt
    by_cost (Some cost) e =
        cond_both ((member_at link.to members).joined && (member_at link.to members).powered)
        (Some (record { weight = (member_at link.to members).depth * 8 + cost; node = link.to })) None (IsReached rows members node)
        (λ both. record {
          joined = (and_parts (member_at link.to members).joined (member_at link.to members).powered both).0;
          powered = (and_parts (member_at link.to members).joined (member_at link.to members).powered both).1;
          hears = (k, (link, (there, refl)));
          heard = leads_to (hearers rows link.to) node cost e;
        }) (λ _. tt)

-- # The best of all

best_of_both : (rows : List (List Link)) (members : List Member) (node : ℕ) (last best other : Option Agent)
    → IsReached rows members node best → IsReached rows members node other → IsReached rows members node (best_with last best other)
best_of_both rows members node last best None h o = h
best_of_both rows members node last None (Some a) h o = cond_both (is_after last a) (Some a) None (IsReached rows members node) (λ _. o) (λ _. tt)
best_of_both rows members node last (Some b) (Some a) h o =
    cond_both (is_after last a) (cond (is_before a b) (Some a) (Some b)) (Some b) (IsReached rows members node)
    (λ _. cond_both (is_before a b) (Some a) (Some b) (IsReached rows members node) (λ _. o) (λ _. h)) (λ _. h)

best_of_all : (rows : List (List Link)) (members : List Member) (node : ℕ) (last best : Option Agent) (links : List Link)
    → IsReached rows members node best
    → ((k : ℕ) (link : Link) → slice_get links k ≡ Some link → IsReached rows members node (agent_at rows members node link))
    → IsReached rows members node (fold (best_step rows members node last) best links)
unfolding best_step
best_of_all rows members node last best [] h each = h
best_of_all rows members node last best (link ∷ links) h each =
    best_of_all rows members node last (best_with last best (agent_at rows members node link)) links
    (best_of_both rows members node last best (agent_at rows members node link) h (each 0 link refl)) (λ k x e. each (suc k) x e)

next_is_reached : (rows : List (List Link)) (members : List Member) (node : ℕ) (last : Option Agent)
    → IsReached rows members node (next_agent rows members node last)
unfolding next_agent
next_is_reached rows members node last = best_of_all rows members node last None (hearers rows node) tt (neighbour rows members node)

pub nth_is_reached : (rows : List (List Link)) (members : List Member) (node k : ℕ) → IsReached rows members node (nth_agent rows members node k)
unfolding nth_agent
nth_is_reached rows members node zero = next_is_reached rows members node None
nth_is_reached rows members node (suc k) = next_is_reached rows members node (nth_agent rows members node k)
