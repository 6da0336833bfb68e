use Rattle.std.proofs.Common.{◌++◌, length, sym, ap, arith, ◌∙◌}
use Rattle.std.proofs.lemmas.List.{append-nil}
use Rattle.station_queues.specs.Frames.{body_at, frames_of}
use Rattle.station_queues.specs.Frames.{with_frames}
use Rattle.station_queues.proofs.Leaves.{one-leaves, none-leaves, length-units_by}
use Rattle.station_queues.proofs.bodies.Bodies.seal_if.Goals as goal

pub returns-then-not-waits_at : goal.returns-then-not-waits_at
returns-then-not-waits_at c =
    ap (λ fs. with_frames fs c.args.out.now) (sym (append-nil c.args.out.now.frames)
    ∙ ap (λ us. c.args.out.now.frames ++ frames_of c.args.grant.now c.args.key.now c.args.first us)
    (none-leaves c.args.grant.now.address c.args.dest c.args.hop (body_at c.args.self.now.waiting c.args.index) c.if-not-waits_at.ensures))

pub seal_at-requires-clause-left : goal.seal_at-requires-clause-left
seal_at-requires-clause-left c = omega (
  arith,
  c.requires.left,
  ap length (one-leaves c.args.grant.now.address c.args.dest c.args.hop (body_at c.args.self.now.waiting c.args.index) c.if-not-waits_at.ensures),
  length-units_by c.args.grant.now.address c.args.hop (body_at c.args.self.now.waiting c.args.index),
)

pub seal_at-requires-clause-room : goal.seal_at-requires-clause-room
seal_at-requires-clause-room c = omega (
  arith,
  c.requires.room,
  ap length (one-leaves c.args.grant.now.address c.args.dest c.args.hop (body_at c.args.self.now.waiting c.args.index) c.if-not-waits_at.ensures),
  length-units_by c.args.grant.now.address c.args.hop (body_at c.args.self.now.waiting c.args.index),
)

pub returns : goal.returns
returns c =
    c.seal_at.ensures
    ∙ ap (λ us. with_frames (c.args.out.now.frames ++ frames_of c.args.grant.now c.args.key.now c.args.first us) c.args.out.now)
    (one-leaves c.args.grant.now.address c.args.dest c.args.hop (body_at c.args.self.now.waiting c.args.index) c.if-not-waits_at.ensures)
