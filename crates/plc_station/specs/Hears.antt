-- What it is for a station to hear a frame.
use Rattle.std.specs.Prelude.{◌≡◌, Option}
use Rattle.plc_base.specs.declared.out_frame.Out.{Out}
use Rattle.node_rules.specs.declared.heard.Reply.{Reply}
use Rattle.node_rules.specs.Memory.{StationMemory}
use Rattle.node_rules.specs.Plans.{Plan}
use Rattle.node_rules.specs.Drafts.{Draft, alone, sealing}
use Rattle.node_rules.specs.HearingRules.{dropped}
use Rattle.node_rules.specs.States.{State}
use Rattle.node_rules.specs.CarriedPlans.{Carries}
use Rattle.node_rules.specs.Replies.{reply_sent}

-- the reply that a step sent which was carried to its end
abbrev pub reply_sent_by : Draft StationMemory → Option StationMemory → Option Reply
reply_sent_by d memory = reply_sent (sealing {H = Unit {0}} alone dropped d tt) memory

-- The plan was carried out, and the reply that it sent is kept.
pub record Hears {A : Type 0} (old : State StationMemory) (p : Plan StationMemory A) (answer : A) (out : Out)
    (new : State StationMemory) : Type 0 where
  pub carries : Carries old p answer out new
  pub replied : new.replied ≡ reply_sent p new.memory
