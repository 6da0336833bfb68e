-- What a step that sends gives out.
use Rattle.std.specs.Prelude.{List, []}
use Rattle.plc_base.specs.declared.out_frame.OutFrame.{OutFrame}
use Rattle.plc_base.specs.declared.out_frame.Out.{Out}

-- frames and no tag
abbrev pub only_frames : List OutFrame → Out
only_frames frames = record { frames = frames; tags = record { made = []; opened = [] } }
