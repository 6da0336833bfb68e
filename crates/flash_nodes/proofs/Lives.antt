-- A life over a store, step by step by the rules.
use Rattle.std.proofs.Common.{◌≡◌, inl, ℕ, List, [], ◌∷◌, length, Option, Some, None, refl, sym, ap, ◌∙◌, subst, ◌≤◌}
use Rattle.std.specs.Prelude.{IfSome, IsSome}
use Rattle.std.specs.Option.{option_map_or}
use Rattle.plc_base.specs.declared.keeper.Cut.{Cut}
use Rattle.plc_base.specs.declared.out_frame.Out.{Out}
use Rattle.plc_base.specs.Keeper.{Records}
use Rattle.node_rules.specs.Memory.{Memory, Node, Role}
use Rattle.node_rules.specs.NodeSteps.{NodeStep, acts, stays, left_by}
use Rattle.node_rules.specs.Plans.{Plan, carry_out}
use Rattle.node_rules.specs.States.{State}
use Rattle.node_rules.specs.CarriedPlans.{Carries}
use Rattle.flash_nodes.specs.Openings.{IsSettled, MayBeFound, IsDecidedBy}
use Rattle.flash_nodes.specs.Lives.{LifeEvent, Calls, Opens, StartsOver, Lives, with_cut, called, given_out, DoesByRule, restarted, LivesByRules, node_over}
use Rattle.flash_nodes.specs.Lives.{LivesAreByRules}
use Rattle.flash_nodes.proofs.DecidedCuts.{found_settled}
use Rattle.flash_nodes.proofs.DecidedCalls.{openings_decide, running_settled}

low_bound : (n : ℕ) (cut : Option Cut) → IfSome cut (λ c. (1 ≤ c.nth) × (c.nth ≤ n)) → IfSome cut (λ c. 1 ≤ c.nth)
low_bound n None h = tt
low_bound n (Some c) h = h.0

has_some : {M : Type 0} (o : Option M) (m : M) → o ≡ Some m → IsSome o
has_some None m e = absurd (no e)
  where
    no : None ≡ Some m → ⊥
    no e = cc
has_some (Some n) m e = refl

-- a node with a memory carries out the rule over it
called_is : {A : Type 0} (x : Node) (cut : Option Cut) (answer : A) (rule : Memory → Plan Memory A) (m : Memory) → x.memory ≡ Some m
    → called cut x answer rule ≡ left_by (with_cut cut x) (carry_out x.store.records cut (rule m))
unfolding acts
called_is x cut answer rule m here =
    ap (λ o. option_map_or (λ k. left_by (with_cut cut x) (carry_out x.store.records cut (rule k))) o (stays (with_cut cut x) answer)) here

-- What the rules' node did at a call, and what it is then.
record CallByRule {A : Type 0} (role : Role) (first mid : State Memory) (rule : Memory → Plan Memory A) (answer : A) (out : Out) (found : Records)
    (cut : Option Cut) : Type 0 where
  pub does : DoesByRule (node_over role first first.store.records) cut rule answer out
  pub node_is : (called cut (node_over role first first.store.records) answer rule).node ≡ node_over role mid found

one_call : {A : Type 0} (role : Role) (first mid : State Memory) (rule : Memory → Plan Memory A) (answer : A) (out : Out) (found : Records) (m : Memory)
    → IsSettled first.store → first.memory ≡ Some m → Carries first (rule m) answer out mid → MayBeFound mid.store found
    → (cut : Option Cut) × CallByRule role first mid rule answer out found cut
one_call {A} role first mid rule answer out found m settled here carries may =
    let k = openings_decide first mid (rule m) answer out found settled carries may in (k.0, by k.0 k.1)
  where
    by : (cut : Option Cut) → IsDecidedBy first.store.records (rule m) answer out mid.memory found cut → CallByRule role first mid rule answer out found cut
    by cut d =
        let is = called_is (node_over role first first.store.records) cut answer rule m here in
        let eui : mid.eui ≡ first.eui = ap (λ (s : State Memory). s.eui) carries.new_is in
        record {
          does = record {
            running = has_some first.memory m here;
            comes = low_bound (length (rule m).puts) cut d.comes;
            answer_is = ap (λ (n : NodeStep A). n.answer) is ∙ sym d.answer_is;
            out_is = ap given_out is ∙ sym d.out_is;
          };
          node_is = ap (λ (n : NodeStep A). n.node) is
              ∙ (λ i. record { role = role; eui = sym eui i; store = record { records = sym d.records_is i; cut = d.spent i }; memory = sym d.memory_is i });
        }

-- the rules' node restarts as the node starts over
restarted_is : (role : Role) (s mid : State Memory) (found : Records) → StartsOver role s found mid
    → restarted (node_over role s found) ≡ node_over role mid mid.store.records
restarted_is role s mid found is = λ i. record {
  role = role;
  eui = sym is.eui i;
  store = record { records = sym is.holds i; cut = None };
  memory = sym is.memory i;
}

-- What is found of a node's store before these events, and the events by the rules from there on.
record GoesByRules {A : Type 0} (role : Role) (first last : State Memory) (events : List (LifeEvent A)) (found : Records) : Type 0 where
  pub at : Records
  pub may : MayBeFound first.store at
  pub cuts : List (Option Cut)
  pub by : LivesByRules (node_over role first at) events cuts (node_over role last found)

goes : {A : Type 0} (role : Role) (first last : State Memory) (events : List (LifeEvent A)) (found : Records) → (IsSome first.memory → IsSettled first.store)
    → Lives role first events last → MayBeFound last.store found → GoesByRules role first last events found
unfolding Lives LivesByRules
goes role first last [] found settled is may = record {
  at = found;
  may = subst (λ (s : State Memory). MayBeFound s.store found) is may;
  cuts = [];
  by = ap (λ (s : State Memory). node_over role s found) is;
}
goes role first last (Opens f ∷ events) found settled (mid, starts, more) may =
    let rest = goes role mid last events found (λ running. starts.settled) more may in
    let same : rest.at ≡ mid.store.records = found_settled mid.store rest.at starts.settled rest.may in
    record {
      at = f;
      may = starts.found_is;
      cuts = rest.cuts;
      by = (
        refl,
        subst (λ (x : Node). LivesByRules x events rest.cuts (node_over role last found))
            (ap (λ (r : Records). node_over role mid r) same ∙ sym (restarted_is role first mid f starts)) rest.by,
      );
    }
goes role first last (Calls rule answer out ∷ events) found settled (m, mid, here, carries, more) may =
    let before : IsSettled first.store = settled (has_some first.memory m here) in
    let rest = goes role mid last events found (λ running. running_settled first mid (rule m) answer out before carries running) more may in
    let k = one_call role first mid rule answer out rest.at m before here carries rest.may in
    record {
      at = first.store.records;
      may = inl refl;
      cuts = k.0 ∷ rest.cuts;
      by = (
        k.1.does,
        subst (λ (x : Node). LivesByRules x events rest.cuts (node_over role last found)) (sym k.1.node_is) rest.by,
      );
    }

pub lives_by_rules : {A : Type 0} → LivesAreByRules A
lives_by_rules role first last events found settled is may =
    let g = goes role first last events found (λ running. settled) is may in (
      g.cuts,
      subst (λ (r : Records). LivesByRules (node_over role first r) events g.cuts (node_over role last found))
          (found_settled first.store g.at settled g.may) g.by,
    )
