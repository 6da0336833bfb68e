-- What a meter gives out with a command to the coordinator.
use Rattle.std.specs.Prelude.{◌≡◌, ℕ, List, [], Result, Ok, Err, IfSome}
use Rattle.plc_base.specs.declared.out_frame.Out.{Out}
use Rattle.plc_base.specs.declared.tags.TagList.{TagList}
use Rattle.node_rules.specs.declared.heard.SentHow.{SentHow}
use Rattle.node_rules.specs.declared.refusal.SendRefusal.{SendRefusal}
use Rattle.node_rules.specs.Calls as calls
use Rattle.node_rules.specs.CarriedPlans.{Carries}
use Rattle.node_rules.specs.Memory.{StationMemory}
use Rattle.node_rules.specs.States.{State}

-- the pair tags of a step that are given out: where a put failed only those that were checked
abbrev pub tags_left : Result SentHow SendRefusal → TagList → TagList
tags_left (Ok how) tags = tags
tags_left (Err reason) tags = record { made = []; opened = tags.opened }

-- A station sent a command to the coordinator, or a put failed, and the pair tags of the step go out with what it sent.
pub record SentBeside (s : State StationMemory) (octets : List ℕ) (now : ℕ) (tags : TagList) (answer : Result SentHow SendRefusal)
    (out : Out) (t : State StationMemory) : Type 0 where
  pub sent : Out
  pub carries : IfSome s.memory (λ l. Carries s (calls.send_command l 0 octets now) answer sent t)
  pub given : out ≡ record sent { tags = tags_left answer tags }
