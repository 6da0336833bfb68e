use Rattle.std.proofs.Common.{Err, ap, refl, ◌∙◌}
use Rattle.node_rules.specs.Ciphers.{network}
use Rattle.node_rules.specs.Frames.{arrived}
use Rattle.meter_node.specs.MeterStates.{MeterState}
use Rattle.meter_node.proofs.ReceivedFrames.{heard, refused}
use Rattle.meter_node.proofs.meter.Meter.receive.Goals as goal

pub returns-in-Ok-clause-received : goal.returns-in-Ok-clause-received
returns-in-Ok-clause-received g c =
    heard c.args.self.now c.accept_frame.new.self c.hear.new.self (arrived network c.args.octets.now) c.args.came.cost c.args.came.note c.args.came.time
    c.heard_or_why.result c.hear.new.out c.in-Ok.ensures.beside c.in-Ok.got c.hear.result c.in-Ok.ensures.carries c.in-Ok.ensures.running c.heard_or_why.ensures
    c.hear.ensures.carries

pub returns-in-Ok-clause-after : goal.returns-in-Ok-clause-after
returns-in-Ok-clause-after g c =
    record { agrees = c.hear.ensures.after.agrees; psk = c.hear.ensures.after.psk ∙ ap (λ (m : MeterState). m.psk) c.in-Ok.ensures.beside }

pub returns-in-Err-clause-received : goal.returns-in-Err-clause-received
returns-in-Err-clause-received g c =
    refused c.args.self.now c.accept_frame.new.self c.accept_frame.new.self (arrived network c.args.octets.now) c.args.came.cost c.args.came.note
    c.args.came.time
    (Err c.from.result) c.clear.new.self c.in-Err.ensures.beside c.in-Err.reason c.in-Err.ensures.carries (λ i. Err (c.from.ensures i)) c.clear.ensures refl

pub returns-in-Err-clause-after : goal.returns-in-Err-clause-after
returns-in-Err-clause-after g c = record { agrees = c.in-Err.ensures.agrees; psk = ap (λ (m : MeterState). m.psk) c.in-Err.ensures.beside }
