use Rattle.std.proofs.Common.{rules}
use Rattle.plc_base.specs.Times.{is_within}
use Rattle.arrayvec.proofs.ArrayVecLemmas.{filter-from_retain}
use Rattle.coordinator.proofs.sessions.Sessions.expire.Goals as goal
use Rattle.node_rules.specs.declared.session_time.TheConstants.{SESSION_TIME}

pub returns : goal.returns
returns c =
    rw (← c.self.view_is) (filter-from_retain _ (λ s. is_within SESSION_TIME c.args.now s.since) _ (λ x b f' y called. search rules) _ _
    c.retain.ensures.filtered)
