-- Plans: what a call of a node answers, stores, leaves and sends; and what it is to carry one out over a store whose writes may
-- fail.
use Rattle.std.specs.Prelude.{List, [], Option, Some, None, if◌then◌else◌}
use Rattle.plc_base.specs.declared.keeper.Cut.{Cut}
use Rattle.plc_base.specs.declared.tags.PairTag.{PairTag}
use Rattle.plc_base.specs.Keeper.{Records, Write}
use Rattle.store_tables.specs.Writes.{Written, write}
use Rattle.node_rules.specs.Frames.{Sent}

-- A plan over a memory M with an answer A.
pub record Plan (M A : Type 0) : Type 0 where
  -- the answer where no store write fails, and the one where one fails
  pub answer : A
  pub failed : A
  -- the store writes, in order
  pub puts : List Write
  -- the memory, the frames and the pair tags that were made, where no write fails
  pub memory : M
  pub frames : List Sent
  pub made : List PairTag
  -- the pair tags that were checked and found right, also where a write fails
  pub opened : List PairTag

-- What became of a plan. A node whose write failed has no memory any more: it is halted.
pub record Outcome (M A : Type 0) : Type 0 where
  pub answer : A
  pub records : Records
  pub cut : Option Cut
  pub memory : Option M
  pub frames : List Sent
  pub made : List PairTag
  pub opened : List PairTag

-- every write was stored
abbrev pub finished : {M A : Type 0} → Written → Plan M A → Outcome M A
finished w p = record {
  answer = p.answer;
  records = w.records;
  cut = w.cut;
  memory = Some p.memory;
  frames = p.frames;
  made = p.made;
  opened = p.opened;
}

-- nothing is sent, handed up or made
abbrev pub halted : {M A : Type 0} → Written → Plan M A → Outcome M A
halted w p =
    record { answer = p.failed; records = w.records; cut = w.cut; memory = None; frames = []; made = []; opened = p.opened }

-- whether all were stored decides
abbrev pub outcome_of : {M A : Type 0} → Written → Plan M A → Outcome M A
outcome_of w p = if w.whole then finished w p else halted w p

-- a plan carried out over these records, under the loss of power that is to come
unfoldable pub carry_out : {M A : Type 0} → Records → Option Cut → Plan M A → Outcome M A
carry_out records cut p = outcome_of (write p.puts cut records) p

-- # Plans that change nothing

-- the answer alone, also where a write would fail, since none is made
unfoldable pub resting : {M A : Type 0} → M → A → A → Plan M A
resting m answer failed =
    record { answer = answer; failed = failed; puts = []; memory = m; frames = []; made = []; opened = [] }

-- # Plans of a part of the memory

-- a plan over the part of a memory, whose answer is read as another
abbrev pub within : {N M A B : Type 0} → (M → N) → (A → B) → Plan M A → Plan N B
within whole reads p = record {
  answer = reads p.answer;
  failed = reads p.failed;
  puts = p.puts;
  memory = whole p.memory;
  frames = p.frames;
  made = p.made;
  opened = p.opened;
}
