-- The sizes of what a node keeps beside its memory: checks of neighbours, the agents of a scan, the origins of broadcasts.
use Rattle.std.specs.Prelude.{◌≡◌, ℕ, ◌+◌, ◌≤◌, All, List, length, Some, IfSome}
use Rattle.node_rules.specs.Ciphers.{network}
use Rattle.node_rules.specs.Memory.{Memory, Node}
use Rattle.line_rules.specs.Further.{beside_at}
use Rattle.line_rules.specs.Runs.{Entry, IsLineRun}
use Rattle.line_rules.specs.Worlds.{World, node_at}

-- No table beside the memory of a node passes its size. A halted node knows nothing of its log.
pub record IsBesideSized (w : World) : Type 0 where
  pub neighbours : (number : ℕ) → length (beside_at w number).checks.checks + length (beside_at w number).checks.listed ≤ 64
  pub agents : (number : ℕ) → length (beside_at w number).scan.agents ≤ 16
  pub origins : (number : ℕ) (x : Node) → node_at w number ≡ Some x → IfSome x.memory (λ (m : Memory). length (beside_at w number).log.marks ≤ 32)

-- so it is after each event of every run
abbrev pub TablesBesideKeepTheirSizes : Type 0
TablesBesideKeepTheirSizes = (entries : List Entry) → IsLineRun network entries → All (λ (x : Entry). IsBesideSized x.after) entries
