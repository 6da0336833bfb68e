use Rattle.std.proofs.Common.{Option, ◌∙◌, ap}
use Rattle.line_simulation.specs.declared.work.PendingWork.{PendingWork}
use Rattle.line_simulation.specs.Simulations.{state_of}
use Rattle.line_simulation.specs.Turns.{work_of}
use Rattle.line_simulation.proofs.Loops.{none_carried}
use Rattle.line_simulation.proofs.simulation.Simulation.carry_one.Goals as goal

pub returns-in_default : goal.returns-in_default
returns-in_default g c =
    none_carried g.R.Recording.recorder _ _ (c.next.ensures.none c.in_default.is)
    (c.next.ensures.first ∙ ap (λ (w : Option PendingWork). work_of w (state_of c.next.new.self).work) c.in_default.is) c.next.ensures.rest
