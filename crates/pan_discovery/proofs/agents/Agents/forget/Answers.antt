-- `retain` keeps what the test keeps.
use Rattle.std.proofs.Common.{rules}
use Rattle.std.specs.Prelude.{◌==◌, not}
use Rattle.arrayvec.proofs.ArrayVecLemmas.{filter-from_retain}
use Rattle.pan_discovery.specs.declared.agents.Agent.{Agent}
use Rattle.pan_discovery.proofs.agents.Agents.forget.Goals as goal

pub returns : goal.returns
returns c = rw (← c.self.view_is)
    (filter-from_retain _ (λ (a : Agent). not (a.address == c.args.address)) _ (λ x b f' y called. search rules) _ _ c.retain.ensures.filtered)
