use Rattle.std.proofs.Common.{◌∷◌, [], ◌++◌, ◌+◌, Some, length, map, ap, ◌∙◌, arith}
use Rattle.std.proofs.lemmas.List.{length-append}
use Rattle.plc_base.specs.declared.out_frame.Out.{Out}
use Rattle.loadng_messages.specs.Grammar as messages
use Rattle.mesh_header.specs.declared.unit.Unit.TheVariants.{Local}
use Rattle.node_rules.specs.Ciphers.{network}
use Rattle.node_rules.specs.Frames.{spelled}
use Rattle.node_rules.specs.Drafts.{sealed_by}
use Rattle.fragment_buffers.specs.WaitingBodies.{leaving}
use Rattle.station_queues.specs.Frames.{frames_of}
use Rattle.plc_station.specs.SentFrames.{only_frames}
use Rattle.station_queues.proofs.Letters.{length-frames}
use Rattle.plc_station.proofs.Sealed.{sealed_then}
use Rattle.plc_station.proofs.sealing.seal_waiting_then.Goals as goal

pub seal_message-requires-clause-room : goal.seal_message-requires-clause-room
seal_message-requires-clause-room c =
    omega (
      arith,
      ap (λ (o : Out). length o.frames) c.seal_leaving.ensures,
      ap (λ (o : Out). length o.frames) c.requires.empty,
      length-append c.args.out.now.frames (frames_of c.args.grant.now c.sealing_key-key.result c.args.first
          (leaving c.args.grant.now.address c.args.offer.now.origin c.args.offer.now.by c.args.bodies.now.waiting)),
      length-frames c.args.grant.now c.sealing_key-key.result c.args.first
          (leaving c.args.grant.now.address c.args.offer.now.origin c.args.offer.now.by c.args.bodies.now.waiting),
      c.units_for-units.ensures.units c.args.grant.now.address c.args.offer.now.by,
      c.units_for-units.ensures.few,
    )

pub returns-clause-sent : goal.returns-clause-sent
returns-clause-sent c =
    c.seal_message.ensures.sent
    ∙ (λ i. record {
      frames = (c.seal_leaving.ensures i).frames
          ++ map (spelled network) (sealed_by (Some c.args.grant.now) (c.args.first
          + c.units_for-units.ensures.units c.args.grant.now.address c.args.offer.now.by i)
          (record { to = c.args.to; unit = Local 1 (messages.spelling c.args.message.now); note = 0 } ∷ []));
      tags = (c.seal_leaving.ensures i).tags;
    })
    ∙ (λ i. record {
      frames = ((c.requires.empty i).frames ++ frames_of c.args.grant.now c.sealing_key-key.result c.args.first
          (leaving c.args.grant.now.address c.args.offer.now.origin c.args.offer.now.by c.args.bodies.now.waiting))
          ++ map (spelled network) (sealed_by (Some c.args.grant.now) (c.args.first
          + length (leaving c.args.grant.now.address c.args.offer.now.origin c.args.offer.now.by c.args.bodies.now.waiting))
          (record { to = c.args.to; unit = Local 1 (messages.spelling c.args.message.now); note = 0 } ∷ []));
      tags = (c.requires.empty i).tags;
    })
    ∙ ap only_frames (sealed_then c.args.grant.now c.sealing_key-key.result c.args.first
    (leaving c.args.grant.now.address c.args.offer.now.origin c.args.offer.now.by c.args.bodies.now.waiting)
    (record { to = c.args.to; unit = Local 1 (messages.spelling c.args.message.now); note = 0 } ∷ []) c.sealing_key-key.ensures)
