use Rattle.std.proofs.Common.{◌++◌, ap, ◌∙◌}
use Rattle.fragment_buffers.specs.Loads.{load_of, all_go, units_of}
use Rattle.station_queues.specs.Frames.{frames_of}
use Rattle.plc_station.specs.SentFrames.{only_frames}
use Rattle.plc_station.proofs.Sealed.{sealed_alone}
use Rattle.plc_station.proofs.sealing.seal_own.Goals as goal

pub returns : goal.returns
returns c =
    c.seal_load.ensures
    ∙ (λ i. record {
      frames = (c.requires.empty i).frames
          ++ frames_of c.args.grant.now c.sealing_key-key.result c.args.first
          (all_go c.args.hop c.args.note (units_of c.args.grant.now.address c.args.to (load_of c.args.tag c.args.octets.now)));
      tags = (c.requires.empty i).tags;
    })
    ∙ ap only_frames (sealed_alone c.args.grant.now c.sealing_key-key.result c.args.first
    (all_go c.args.hop c.args.note (units_of c.args.grant.now.address c.args.to (load_of c.args.tag c.args.octets.now))) c.sealing_key-key.ensures)
