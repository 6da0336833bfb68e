-- A frame that a node accepted.
use Rattle.std.specs.Prelude.{ℕ, List}
use Rattle.node_rules.specs.declared.heard.Path.{Path}

-- the way on which it came, and the octets of its unit, unread
pub record Accepted : Type 0 where
  pub path : Path
  pub payload : List ℕ
