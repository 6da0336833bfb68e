-- What a node did: a plan of its rules carried out over its own store.
use Rattle.std.specs.Prelude.{List, []}
use Rattle.std.specs.Option.{option_map_or}
use Rattle.plc_base.specs.declared.tags.PairTag.{PairTag}
use Rattle.node_rules.specs.Frames.{Sent}
use Rattle.node_rules.specs.Memory.{StationMemory, Memory, Node}
use Rattle.node_rules.specs.Plans.{Plan, Outcome, carry_out, resting, within}
use Rattle.node_rules.specs.MemoryDrafts.{with_station}

-- What a node did: the node that is left, its answer, its frames, and the pair tags that it made and opened.
pub record NodeStep (A : Type 0) : Type 0 where
  pub node : Node
  pub answer : A
  pub frames : List Sent
  pub made : List PairTag
  pub opened : List PairTag

-- the node is left as it is
abbrev pub stays : {A : Type 0} → Node → A → NodeStep A
stays x answer = record { node = x; answer = answer; frames = []; made = []; opened = [] }

-- the node with the store and the memory that a plan left
abbrev pub left_by : {A : Type 0} → Node → Outcome Memory A → NodeStep A
left_by x o = record {
  node = record x { store = record { records = o.records; cut = o.cut }; memory = o.memory };
  answer = o.answer;
  frames = o.frames;
  made = o.made;
  opened = o.opened;
}

-- a node carries out a plan over its memory; a halted one answers so, and nothing changes
unfoldable pub acts : {A : Type 0} → Node → A → (Memory → Plan Memory A) → NodeStep A
acts x halted plan =
    option_map_or (λ m. left_by x (carry_out x.store.records x.store.cut (plan m))) x.memory (stays x halted)

-- a plan of the line as one of the memory
abbrev pub of_station : {A : Type 0} → Memory → Plan StationMemory A → Plan Memory A
of_station m p = within (λ l. with_station l m) (λ a. a) p

-- what a node did, its answer read as another
abbrev pub answering : {A B : Type 0} → (A → B) → NodeStep A → NodeStep B
answering reads d =
    record { node = d.node; answer = reads d.answer; frames = d.frames; made = d.made; opened = d.opened }

-- a memory that changes without a store write
abbrev pub changing : {A : Type 0} → A → Memory → Plan Memory A
changing answer m = resting m answer answer
