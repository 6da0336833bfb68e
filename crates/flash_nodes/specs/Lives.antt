-- The life of a node over a store of which a failed put is decided at the next opening, and the same life by the rules.
use Rattle.std.specs.Prelude.{◌≡◌, List, [], ◌∷◌, map, Option, Some, None, IsSome, IfSome, ◌≤◌}
use Rattle.std.specs.Result.{result_ok}
use Rattle.plc_base.specs.Keeper.{Records}
use Rattle.plc_base.specs.declared.keeper.Cut.{Cut}
use Rattle.plc_base.specs.declared.out_frame.Out.{Out}
use Rattle.node_rules.specs.Memory.{Memory, Node, Role}
use Rattle.node_rules.specs.Plans.{Plan}
use Rattle.node_rules.specs.NodeSteps.{NodeStep, acts}
use Rattle.node_rules.specs.RestartStates.{memory_of}
use Rattle.node_rules.specs.States.{State}
use Rattle.node_rules.specs.CarriedPlans.{Carries}
use Rattle.flash_nodes.specs.Openings.{IsSettled, MayBeFound}
use Rattle.node_rules.specs.Ciphers.{network}
use Rattle.node_rules.specs.Frames.{spelled}

-- What happens to a node: a call, by a rule over its memory, with what it answered and gave out; or an opening of its store, after a start or after a failed
-- put, with the records that it found. The answers of all calls are of one type.
pub data LifeEvent (A : Type 0) : Type 0 where
  Calls : (rule : Memory → Plan Memory A) → (answer : A) → (out : Out) → LifeEvent A
  Opens : (found : Records) → LifeEvent A

-- # Over a store

-- The store of a node was opened and found with these records: nothing is pending, and the node has what they give, and nothing else.
pub record StartsOver (role : Role) (old : State Memory) (found : Records) (new : State Memory) : Type 0 where
  pub found_is : MayBeFound old.store found
  pub holds : new.store.records ≡ found
  pub settled : IsSettled new.store
  pub eui : new.eui ≡ old.eui
  pub memory : new.memory ≡ result_ok (memory_of role found)

-- a node went through these events, the first one first: at each call it ran and carried out the plan of the rule over its store
unfoldable pub Lives : {A : Type 0} → Role → State Memory → List (LifeEvent A) → State Memory → Type 0
Lives role first [] last = last ≡ first
Lives role first (Calls rule answer out ∷ events) last =
    (m : Memory) × (mid : State Memory) × (first.memory ≡ Some m) × Carries first (rule m) answer out mid × Lives role mid events last
Lives role first (Opens found ∷ events) last = (mid : State Memory) × StartsOver role first found mid × Lives role mid events last

-- # By the rules

-- a node with a loss of power that is to come, or none
abbrev pub with_cut : Option Cut → Node → Node
with_cut cut x = record x { store = record x.store { cut = cut } }

-- what it does at a call, under this loss of power
abbrev pub called : {A : Type 0} → Option Cut → Node → A → (Memory → Plan Memory A) → NodeStep A
called cut x answer rule = acts (with_cut cut x) answer rule

-- what a node gives out at a step, spelled
abbrev pub given_out : {A : Type 0} → NodeStep A → Out
given_out d = record { frames = map (spelled network) d.frames; tags = record { made = d.made; opened = d.opened } }

-- A node of the rules ran, and answered and gave out this at a call, under this loss of power
pub record DoesByRule {A : Type 0} (x : Node) (cut : Option Cut) (rule : Memory → Plan Memory A) (answer : A) (out : Out) : Type 0 where
  pub running : IsSome x.memory
  pub comes : IfSome cut (λ c. 1 ≤ c.nth)
  pub answer_is : (called cut x answer rule).answer ≡ answer
  pub out_is : given_out (called cut x answer rule) ≡ out

-- it restarts over what it has stored
abbrev pub restarted : Node → Node
restarted x = record x { memory = result_ok (memory_of x.role x.store.records) }

-- a node of the rules went through these events, with a loss of power, or none, at each call; where a store was opened it restarts
unfoldable pub LivesByRules : {A : Type 0} → Node → List (LifeEvent A) → List (Option Cut) → Node → Type 0
LivesByRules x [] cuts y = y ≡ x
LivesByRules x (Calls rule answer out ∷ events) [] y = ⊥
LivesByRules x (Calls rule answer out ∷ events) (cut ∷ cuts) y =
    DoesByRule x cut rule answer out × LivesByRules (called cut x answer rule).node events cuts y
LivesByRules x (Opens found ∷ events) cuts y = (x.store.records ≡ found) × LivesByRules (restarted x) events cuts y

-- # The law

-- a node as the rules have it, whose store was opened and found with these records
abbrev pub node_over : Role → State Memory → Records → Node
node_over role s found = record { role = role; eui = s.eui; store = record { records = found; cut = None }; memory = s.memory }

-- whatever a node goes through over its store, and whatever the next opening finds, the rules' node goes through the same under some losses of power
abbrev pub LivesAreByRules : Type 0 → Type 0
LivesAreByRules A =
    (role : Role) (first last : State Memory) (events : List (LifeEvent A)) (found : Records)
    → IsSettled first.store → Lives role first events last → MayBeFound last.store found
    → (cuts : List (Option Cut)) × LivesByRules (node_over role first first.store.records) events cuts (node_over role last found)
