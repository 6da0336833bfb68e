use Rattle.std.proofs.Common.{◌≡◌, ◌+◌, ◌-◌, ◌<◌, ◌≤◌, List, [], ◌∷◌, ◌++◌, length, take, sym, ap, arith, ◌∙◌}
use Rattle.std.proofs.lemmas.List.{append-nil, append_assoc, length-append, length-map}
use Rattle.plc_base.specs.declared.out_frame.Out.{Out}
use Rattle.plc_base.specs.declared.out_frame.OutFrame.{OutFrame}
use Rattle.station_queues.specs.Bodies.{Held}
use Rattle.station_queues.specs.BodiesInPool.{body_in}
use Rattle.station_queues.specs.Frames.{body_at, frames_of}
use Rattle.fragment_buffers.specs.WaitingBodies.{leaving}
use Rattle.station_queues.specs.Frames.{with_frames}
use Rattle.station_queues.proofs.Leaves.{leaving-none, leaving-suc, leaving-few}
use Rattle.station_queues.proofs.Letters.{frames-append, length-frames}
use Rattle.station_queues.proofs.bodies.Bodies.seal_leaving.Goals as goal

pub loop-index-init : goal.loop-index-init
loop-index-init c =
    ap (λ fs. with_frames fs c.args.out.now) (sym (append-nil c.args.out.now.frames)
    ∙ ap (λ us. c.args.out.now.frames ++ frames_of c.args.grant.now c.args.key.now c.args.first us)
    (leaving-none c.args.grant.now.address c.args.dest c.args.hop))

-- how many frames there are so far
so_far : (c : goal.After-frames) → length c.loop-index.out.frames
    ≡ length c.args.out.now.frames + length (leaving c.args.grant.now.address c.args.dest c.args.hop (take c.loop-index.index c.args.self.now.waiting))
so_far c = ap (λ (o : Out). length o.frames) c.loop-index.invariant
    ∙ length-append c.args.out.now.frames (frames_of c.args.grant.now c.args.key.now c.args.first
    (leaving c.args.grant.now.address c.args.dest c.args.hop (take c.loop-index.index c.args.self.now.waiting)))
    ∙ ap (λ n. length c.args.out.now.frames
    + n) (length-frames c.args.grant.now c.args.key.now c.args.first
    (leaving c.args.grant.now.address c.args.dest c.args.hop (take c.loop-index.index c.args.self.now.waiting)))

sealed_is : (c : goal.After-frames) → length c.frames.result.now - length c.frames-before.result.now
    ≡ length (leaving c.args.grant.now.address c.args.dest c.args.hop (take c.loop-index.index c.args.self.now.waiting))
sealed_is c = omega (arith, so_far c, ap length c.frames.ensures, ap length c.frames-before.ensures)

-- with the next body there are no more than all
bounded : (c : goal.After-frames) → length (leaving c.args.grant.now.address c.args.dest c.args.hop (take c.loop-index.index c.args.self.now.waiting))
    + length (leaving c.args.grant.now.address c.args.dest c.args.hop ((body_at c.args.self.now.waiting c.loop-index.index) ∷ []))
    ≤ length (leaving c.args.grant.now.address c.args.dest c.args.hop c.args.self.now.waiting)
bounded c =
    let here : c.loop-index.index < length c.args.self.now.waiting =
    omega (
      arith,
      c.loop-index-test.true,
      c.len-index-end.ensures.value,
      ap (λ (h : Held). length h.waiting) c.self.view_is,
      length-map c.self.inside.waiting.items (body_in c.self.inside.pool),
    ) in
    omega (
      arith,
      ap length (leaving-suc c.args.grant.now.address c.args.dest c.args.hop c.args.self.now.waiting c.loop-index.index here),
      length-append (leaving c.args.grant.now.address c.args.dest c.args.hop (take c.loop-index.index c.args.self.now.waiting))
          (leaving c.args.grant.now.address c.args.dest c.args.hop ((body_at c.args.self.now.waiting c.loop-index.index) ∷ [])),
      leaving-few c.args.grant.now.address c.args.dest c.args.hop c.args.self.now.waiting (c.loop-index.index + 1),
    )

pub overflow_cast-sealed : goal.overflow_cast-sealed
overflow_cast-sealed c = omega (arith, sealed_is c, bounded c, c.requires.left)

pub overflow_add-first : goal.overflow_add-first
overflow_add-first c = omega (arith, sealed_is c, bounded c, c.requires.left)

-- the same, one step later
so_far_then : (c : goal.After-seal_if-arg-in-loop-index-1)
    → length c.loop-index.out.frames
    ≡ length c.args.out.now.frames + length (leaving c.args.grant.now.address c.args.dest c.args.hop (take c.loop-index.index c.args.self.now.waiting))
so_far_then c = ap (λ (o : Out). length o.frames) c.loop-index.invariant
    ∙ length-append c.args.out.now.frames (frames_of c.args.grant.now c.args.key.now c.args.first
    (leaving c.args.grant.now.address c.args.dest c.args.hop (take c.loop-index.index c.args.self.now.waiting)))
    ∙ ap (λ n. length c.args.out.now.frames
    + n) (length-frames c.args.grant.now c.args.key.now c.args.first
    (leaving c.args.grant.now.address c.args.dest c.args.hop (take c.loop-index.index c.args.self.now.waiting)))

sealed_then : (c : goal.After-seal_if-arg-in-loop-index-1)
    → length c.frames.result.now - length c.frames-before.result.now
    ≡ length (leaving c.args.grant.now.address c.args.dest c.args.hop (take c.loop-index.index c.args.self.now.waiting))
sealed_then c = omega (arith, so_far_then c, ap length c.frames.ensures, ap length c.frames-before.ensures)

bounded_then : (c : goal.After-seal_if-arg-in-loop-index-1)
    → length (leaving c.args.grant.now.address c.args.dest c.args.hop (take c.loop-index.index c.args.self.now.waiting))
    + length (leaving c.args.grant.now.address c.args.dest c.args.hop ((body_at c.args.self.now.waiting c.loop-index.index) ∷ []))
    ≤ length (leaving c.args.grant.now.address c.args.dest c.args.hop c.args.self.now.waiting)
bounded_then c =
    let here : c.loop-index.index < length c.args.self.now.waiting =
    omega (
      arith,
      c.loop-index-test.true,
      c.len-index-end.ensures.value,
      ap (λ (h : Held). length h.waiting) c.self.view_is,
      length-map c.self.inside.waiting.items (body_in c.self.inside.pool),
    ) in
    omega (
      arith,
      ap length (leaving-suc c.args.grant.now.address c.args.dest c.args.hop c.args.self.now.waiting c.loop-index.index here),
      length-append (leaving c.args.grant.now.address c.args.dest c.args.hop (take c.loop-index.index c.args.self.now.waiting))
          (leaving c.args.grant.now.address c.args.dest c.args.hop ((body_at c.args.self.now.waiting c.loop-index.index) ∷ [])),
      leaving-few c.args.grant.now.address c.args.dest c.args.hop c.args.self.now.waiting (c.loop-index.index + 1),
    )

pub seal_if-requires-clause-left : goal.seal_if-requires-clause-left
seal_if-requires-clause-left c = omega (arith, sealed_then c, bounded_then c, c.requires.left)

pub seal_if-requires-clause-room : goal.seal_if-requires-clause-room
seal_if-requires-clause-room c = omega (arith, so_far_then c, bounded_then c, c.requires.room)

pub loop-index-preserved : goal.loop-index-preserved
loop-index-preserved c =
    let here : c.loop-index.index < length c.args.self.now.waiting =
    omega (
      arith,
      c.loop-index-test.true,
      c.len-index-end.ensures.value,
      ap (λ (h : Held). length h.waiting) c.self.view_is,
      length-map c.self.inside.waiting.items (body_in c.self.inside.pool),
    ) in
    let count : length c.frames.result.now - length c.frames-before.result.now
    ≡ length (leaving c.args.grant.now.address c.args.dest c.args.hop (take c.loop-index.index c.args.self.now.waiting)) =
    omega (
      arith,
      ap (λ (o : Out). length o.frames) c.loop-index.invariant
          ∙ length-append c.args.out.now.frames (frames_of c.args.grant.now c.args.key.now c.args.first
          (leaving c.args.grant.now.address c.args.dest c.args.hop (take c.loop-index.index c.args.self.now.waiting)))
          ∙ ap (λ n. length c.args.out.now.frames
          + n) (length-frames c.args.grant.now c.args.key.now c.args.first
          (leaving c.args.grant.now.address c.args.dest c.args.hop (take c.loop-index.index c.args.self.now.waiting))),
      ap length c.frames.ensures,
      ap length c.frames-before.ensures,
    ) in
    c.seal_if.ensures
    ∙ (λ i. with_frames ((c.loop-index.invariant i).frames
    ++ frames_of c.args.grant.now c.args.key.now (c.args.first + count i)
    (leaving c.args.grant.now.address c.args.dest c.args.hop ((body_at c.args.self.now.waiting c.loop-index.index) ∷ []))) (c.loop-index.invariant i))
    ∙ ap (λ (fs : List OutFrame). with_frames fs c.args.out.now) (append_assoc c.args.out.now.frames _ _
    ∙ ap (λ (fs : List OutFrame). c.args.out.now.frames
    ++ fs) (sym (frames-append c.args.grant.now c.args.key.now c.args.first
    (leaving c.args.grant.now.address c.args.dest c.args.hop (take c.loop-index.index c.args.self.now.waiting))
    (leaving c.args.grant.now.address c.args.dest c.args.hop ((body_at c.args.self.now.waiting c.loop-index.index) ∷ [])))
    ∙ ap (frames_of c.args.grant.now c.args.key.now c.args.first)
    (sym (leaving-suc c.args.grant.now.address c.args.dest c.args.hop c.args.self.now.waiting c.loop-index.index here))))
