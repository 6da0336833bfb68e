use Rattle.std.proofs.Common.{[], ◌∷◌, ◌++◌, List, ap, ◌∙◌}
use Rattle.plc_base.specs.declared.out_frame.OutFrame.{OutFrame}
use Rattle.loadng_messages.specs.Grammar as messages
use Rattle.mesh_header.specs.declared.unit.Unit.TheVariants.{Local}
use Rattle.station_queues.specs.Frames.{unit_frame, with_frames}
use Rattle.plc_station.proofs.Sealed.{one_sent}
use Rattle.plc_station.proofs.sealing.seal_message.Goals as goal

pub returns-clause-sent : goal.returns-clause-sent
returns-clause-sent c =
    c.seal.ensures
    ∙ ap (λ (body : List _). with_frames (c.args.out.now.frames
    ++ unit_frame c.args.grant.now c.args.key.now c.args.counter (record { to = c.args.to; unit = Local 1 body; note = 0 }) ∷ []) c.args.out.now)
    (c.new-octets.ensures ∙ c.octets.ensures.value ∙ c.write_message.ensures.spelled
    ∙ ap (λ (os : List _). os ++ messages.spelling c.args.message.now) c.new-body.ensures)
    ∙ ap (λ (frames : List OutFrame). with_frames (c.args.out.now.frames ++ frames) c.args.out.now)
    (one_sent c.args.grant.now c.args.key.now c.args.counter (record { to = c.args.to; unit = Local 1 (messages.spelling c.args.message.now); note = 0 })
    c.requires.key)
