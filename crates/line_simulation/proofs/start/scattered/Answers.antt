use Rattle.line_simulation.proofs.start.scattered.Goals as goal

pub returns-in-Apart : goal.returns-in-Apart
returns-in-Apart c =
    let apart = rw c.in-Apart.is at c.in_ok-place.ensures in
    rw c.new-draws.ensures at apart.0
