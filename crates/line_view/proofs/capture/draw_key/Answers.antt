use Rattle.std.proofs.Common.{◌∷◌}
use Rattle.line_view.proofs.Captured.{key_drawn}
use Rattle.line_view.proofs.capture.draw_key.Goals as goal

pub returns : goal.returns
returns c = key_drawn (c.args.index ∷ c.args.key.now.0) c.args.keys.now c.draw.new.self c.in_ok-draw.ensures.known c.in_ok-draw.ensures.added
