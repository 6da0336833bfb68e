-- The text of a drill is that of the world that it leaves.
use Rattle.std.proofs.Common.{◌≡◌, subst}
use Rattle.std.specs.Prelude.{IfOk, string_bytes}
use Rattle.line_replay.specs.Drills.{Drilling, drill_from, drill_text, drilled, drill_text_of}
use Rattle.line_replay.proofs.drill.drill_text.Goals as goal

pub returns : goal.returns
unfolding drill_text drilled
returns c =
    subst (λ (d : Drilling). IfOk c.run_text.result (λ text. string_bytes text ≡ drill_text_of c.args.meters (drill_from c.args.meters d).world))
    c.in_ok-drill.ensures c.run_text.ensures
