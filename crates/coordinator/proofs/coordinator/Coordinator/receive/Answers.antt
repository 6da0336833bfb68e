use Rattle.std.proofs.Common.{Err, refl}
use Rattle.node_rules.specs.Ciphers.{network}
use Rattle.node_rules.specs.Frames.{arrived}
use Rattle.coordinator.proofs.ReceivedFrames.{heard, refused, was_running}
use Rattle.coordinator.proofs.StoredChanges.{not_none}
use Rattle.coordinator.proofs.coordinator.Coordinator.receive.Goals as goal

pub returns-in-Ok-clause-halted : goal.returns-in-Ok-clause-halted
returns-in-Ok-clause-halted g c =
    not_none c.args.self.now.station.memory _ (was_running c.args.self.now.station.memory c.in-Ok.got _ c.in-Ok.ensures.halted)

pub returns-in-Ok-clause-received : goal.returns-in-Ok-clause-received
returns-in-Ok-clause-received g c =
    heard c.args.self.now c.accept_frame.new.self c.hear.new.self (arrived network c.args.octets.now) c.args.came.cost c.args.came.note c.args.came.time
    c.heard_or_why.result c.hear.new.out c.in-Ok.ensures.beside c.in-Ok.got c.hear.result c.in-Ok.ensures.carries c.in-Ok.ensures.running c.heard_or_why.ensures
    c.hear.ensures.carries

pub returns-in-Err-clause-received : goal.returns-in-Err-clause-received
returns-in-Err-clause-received g c =
    refused c.args.self.now c.accept_frame.new.self c.accept_frame.new.self (arrived network c.args.octets.now) c.args.came.cost c.args.came.note
    c.args.came.time
    (Err c.from.result) c.clear.new.self c.in-Err.ensures.beside c.in-Err.reason c.in-Err.ensures.carries (λ i. Err (c.from.ensures i)) c.clear.ensures refl
