use Rattle.std.proofs.Common.{[], Bool, ℕ, List, subst}
use Rattle.line_capture.specs.Captures.{Adds, blocks, run_of}
use Rattle.line_capture.proofs.file.written.Goals as goal

pub returns : goal.returns
returns c =
    let run = c.args.run.now in
    subst (λ (b : Bool). Adds [] c.push_blocks.new.packets.out.items (blocks b run.totals c.args.remark.now run.euis.now (run_of run)))
    c.new-packets.ensures.tap (
    subst (λ (old : List ℕ). Adds old c.push_blocks.new.packets.out.items
    (blocks c.new-packets.result.tap run.totals c.args.remark.now run.euis.now (run_of run))) c.new-packets.ensures.out c.in_ok-push_blocks.ensures
    )
