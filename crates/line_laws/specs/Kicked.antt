-- A meter that was kicked stays out, and so does each that the coordinator's book does not allow.
use Rattle.std.specs.Prelude.{◌≡◌, ◌≢◌, ℕ, true, List, [], ◌∷◌, ◌++◌, All, Some}
use Rattle.plc_base.specs.declared.key.Key.{Key}
use Rattle.node_rules.specs.Ciphers.{network}
use Rattle.node_rules.specs.Memory.{Node}
use Rattle.line_rules.specs.Agreement.{KickedStaysOut, NeverStood, NodeHasKey}
use Rattle.line_rules.specs.Runs.{Entry, IsLineRun, NoneForged}
use Rattle.line_rules.specs.Worlds.{World, node_at}
use Rattle.line_laws.specs.Shut.{ShutAt}

-- in every run of the network a meter that was kicked has no key that the coordinator came to hold after the kick, as long as it is not
-- allowed again
abbrev pub EveryKickedMeterStaysOut : Type 0
EveryKickedMeterStaysOut = (entries : List Entry) → IsLineRun network entries → KickedStaysOut entries

-- The meter of a number is shut out, once setup is over: no entry of the book that the coordinator's store gives allows it. So it is after a
-- kick, also after one whose write failed where the store has it; and it is so of a meter that was never allowed.
pub record IsShutOut (number : ℕ) (w : World) : Type 0 where
  pub other : number ≢ 0
  pub meter : Node
  pub there : node_at w number ≡ Some meter
  pub book : ShutAt meter.eui w
  pub running : w.running ≡ true

-- A meter that is shut out after an event, and after each of those that follow it, never has a key that had not stood in the coordinator's
-- ring up to that event, as long as no event is forged.
abbrev pub ShutOutStaysOut : List Entry → Type 0
ShutOutStaysOut entries =
    (number : ℕ) (before after rest : List Entry) (out : Entry) (key : Key) → entries ≡ before ++ out ∷ after ++ rest
    → NoneForged (before ++ out ∷ after)
    → IsShutOut number out.after → All (λ (x : Entry). IsShutOut number x.after) after → NeverStood key (before ++ out ∷ [])
    → All (λ (x : Entry). NodeHasKey x.after number key → ⊥) (before ++ out ∷ after)

-- so it is in every run of the network
abbrev pub EveryShutOutMeterStaysOut : Type 0
EveryShutOutMeterStaysOut = (entries : List Entry) → IsLineRun network entries → ShutOutStaysOut entries
