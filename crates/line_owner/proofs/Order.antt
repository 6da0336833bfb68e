-- The next agent is the first of those that come after the last one.
use Rattle.std.proofs.Common.{◌≡◌, ℕ, zero, suc, ltb, eqb, ◌&&◌, ◌||◌, cond, true, false, List, [], ◌∷◌, Option, Some, None, sym, ap, subst, ◌∙◌}
use Rattle.std.proofs.Common.{arith}
use Rattle.std.proofs.lemmas.Bool.{cond_both, cond-true}
use Rattle.std.proofs.lemmas.Bool.Decides.{nat_tests}
use Rattle.std.specs.Prelude.{IfSome, slice_get}
use Rattle.std.specs.List.{fold}
use Rattle.line_place.specs.declared.link.Link.{Link}
use Rattle.line_place.specs.Rows.{hearers}
use Rattle.line_owner.specs.declared.agents.Agent.{Agent}
use Rattle.line_owner.specs.declared.member.Member.{Member}
use Rattle.line_owner.specs.Agents.{Precedes, AgentsComeInOrder, agent_at, is_after, is_before, best_with, best_step, next_agent}

-- # The order

numbers_irreflexive : (w n : ℕ) → (ltb w w || (eqb w w && ltb n n)) ≡ false
numbers_irreflexive w n = grind (arith, nat_tests)

numbers_transitive : (u m v n w k : ℕ) → (ltb v w || (eqb v w && ltb n k)) ≡ true → (ltb u w || (eqb u w && ltb m k)) ≡ false
    → (ltb u v || (eqb u v && ltb m n)) ≡ false
numbers_transitive u m v n w k h other = grind (arith, nat_tests)

irreflexive : (a : Agent) → is_before a a ≡ false
unfolding is_before
irreflexive a = numbers_irreflexive a.weight a.node

transitive : (b c a : Agent) → is_before c a ≡ true → is_before b a ≡ false → is_before b c ≡ false
unfolding is_before
transitive b c a h other = numbers_transitive b.weight b.node c.weight c.node a.weight a.node h other

-- # One more agent

kept : (last best other : Option Agent) (b : Agent) → Precedes best b → Precedes (best_with last best other) b
kept last best None b h = h
kept last None (Some c) b h = absurd h
kept last (Some a) (Some c) b h =
    cond_both (is_after last c) (cond (is_before c a) (Some c) (Some a)) (Some a) (λ o. Precedes o b)
    (λ _. cond_both (is_before c a) (Some c) (Some a) (λ o. Precedes o b) (λ e. transitive b c a e h) (λ _. h)) (λ _. h)

new : (last best : Option Agent) (c : Agent) → is_after last c ≡ true → Precedes (best_with last best (Some c)) c
new last None c e = subst (λ o. Precedes o c) (sym (cond-true (is_after last c) (Some c) None e)) (irreflexive c)
new last (Some a) c e =
    subst (λ o. Precedes o c) (sym (cond-true (is_after last c) (cond (is_before c a) (Some c) (Some a)) (Some a) e))
    (cond_both (is_before c a) (Some c) (Some a) (λ o. Precedes o c) (λ _. irreflexive c) (λ other. other))

after_one : (last best other : Option Agent) → IfSome best (λ a. is_after last a ≡ true) → IfSome (best_with last best other) (λ a. is_after last a ≡ true)
after_one last best None h = h
after_one last None (Some c) h = cond_both (is_after last c) (Some c) None (λ o. IfSome o (λ a. is_after last a ≡ true)) (λ e. e) (λ _. tt)
after_one last (Some a) (Some c) h =
    cond_both (is_after last c) (cond (is_before c a) (Some c) (Some a)) (Some a) (λ o. IfSome o (λ a. is_after last a ≡ true))
    (λ e. cond_both (is_before c a) (Some c) (Some a) (λ o. IfSome o (λ a. is_after last a ≡ true)) (λ _. e) (λ _. h)) (λ _. h)

-- # All of them

all_kept : (rows : List (List Link)) (members : List Member) (node : ℕ) (last best : Option Agent) (links : List Link) (b : Agent)
    → Precedes best b → Precedes (fold (best_step rows members node last) best links) b
unfolding best_step
all_kept rows members node last best [] b h = h
all_kept rows members node last best (link ∷ links) b h =
    all_kept rows members node last (best_with last best (agent_at rows members node link)) links b
    (kept last best (agent_at rows members node link) b h)

one_of_all : (rows : List (List Link)) (members : List Member) (node : ℕ) (last best : Option Agent) (links : List Link) (k : ℕ) (link : Link) (b : Agent)
    → slice_get links k ≡ Some link → agent_at rows members node link ≡ Some b → is_after last b ≡ true
    → Precedes (fold (best_step rows members node last) best links) b
unfolding best_step
one_of_all rows members node last best [] k link b at is e = cc
one_of_all rows members node last best (x ∷ links) zero link b at is e =
    let same : x ≡ link = cc in
    let here : agent_at rows members node x ≡ Some b = ap (agent_at rows members node) same ∙ is in
    all_kept rows members node last (best_with last best (agent_at rows members node x)) links b
    (subst (λ o. Precedes (best_with last best o) b) (sym here) (new last best b e))
one_of_all rows members node last best (x ∷ links) (suc k) link b at is e =
    one_of_all rows members node last (best_with last best (agent_at rows members node x)) links k link b at is e

all_after : (rows : List (List Link)) (members : List Member) (node : ℕ) (last best : Option Agent) (links : List Link)
    → IfSome best (λ a. is_after last a ≡ true) → IfSome (fold (best_step rows members node last) best links) (λ a. is_after last a ≡ true)
unfolding best_step
all_after rows members node last best [] h = h
all_after rows members node last best (link ∷ links) h =
    all_after rows members node last (best_with last best (agent_at rows members node link)) links
    (after_one last best (agent_at rows members node link) h)

pub in_order : AgentsComeInOrder
unfolding next_agent
in_order rows members node last = record {
  after = all_after rows members node last None (hearers rows node) tt;
  first = λ k link agent. one_of_all rows members node last None (hearers rows node) k link agent;
}
