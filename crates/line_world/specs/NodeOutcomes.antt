-- What a call of a node did.
use Rattle.std.specs.Prelude.{◌≡◌, ℕ, List, map, slice_set}
use Rattle.plc_base.specs.declared.out_frame.Out.{Out}
use Rattle.node_rules.specs.Ciphers.{network}
use Rattle.node_rules.specs.Frames.{spelled}
use Rattle.node_rules.specs.Memory.{Node}
use Rattle.node_rules.specs.NodeSteps.{NodeStep}

-- what a step of a node gives out: its frames, spelled, and its pair tags
abbrev pub given_by : {A : Type 0} → NodeStep A → Out
given_by d =
    record { frames = map (spelled network) d.frames; tags = record { made = d.made; opened = d.opened } }

-- The node of this number took this step, and the others are as they were.
pub record Did {A : Type 0} (step : NodeStep A) (old : List Node) (number : ℕ) (answer : A) (out : Out)
    (new : List Node) : Type 0 where
  pub answer_is : answer ≡ step.answer
  pub out_is : out ≡ given_by step
  pub nodes_are : new ≡ slice_set old number step.node
