-- Whether a node has an EUI.
use Rattle.std.proofs.Common.{◌∙◌, ap, Option, ℕ}
use Rattle.std.specs.Prelude.{is_some}
use Rattle.node_rules.specs.Memory.{Node}
use Rattle.node_rules.specs.Acceptance.{same_eui}
use Rattle.line_world.proofs.Places.{has_first}
use Rattle.line_world.proofs.nodes.Nodes.has.Goals as goal

pub returns : goal.returns
returns c =
    c.is_some.ensures ∙ ap (λ (o : Option ℕ). is_some o) c.number_of_eui.ensures ∙ has_first (λ (x : Node). same_eui x.eui c.args.eui) c.args.self.now
