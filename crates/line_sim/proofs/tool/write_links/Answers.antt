use Rattle.std.specs.Prelude.{ℕ, ◌≡◌, ◌+◌, ◌-◌, ◌^◌, min}
use Rattle.std.proofs.Common.{◌∙◌, ap, subst}
use Rattle.line_simulation.specs.Start.{nodes_of}
use Rattle.script_runs.specs.Texts.{WritesText}
use Rattle.script_runs.specs.declared.status.Status.TheVariants as status
use Rattle.line_sim.specs.Links.{links_text}
use Rattle.line_sim.specs.Tool.{Shows}
use Rattle.line_sim.proofs.tool.write_links.Goals as goal

pub returns-in-Ok : goal.returns-in-Ok
returns-in-Ok g c =
    let nodes : c.saturating_add.result ≡ nodes_of c.args.plan.now.place
    = c.saturating_add.ensures ∙ ap (λ (m : ℕ). min (m + 1) (2 ^ 32 - 1)) c.meters.ensures in
    Shows c.in-Ok-Some.links (rw c.in-Ok-Some.field-0-is at c.in-Ok-Some.ensures)
    (subst (λ (n : ℕ). WritesText (links_text c.in-Ok-Some.links n) status.Fine (g.K.Sink.state c.args.sink.now)
    (g.K.Sink.state c.write_whole.new.sink) c.write_whole.result)
    nodes (rw c.in-Ok.ensures at (rw c.as_bytes.ensures.value at c.write_whole.ensures)))
