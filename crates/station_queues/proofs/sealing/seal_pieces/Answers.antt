use Rattle.std.proofs.Common.{[], ◌∷◌, ◌++◌, ◌+◌, List, length, sym, ap, arith, ◌∙◌}
use Rattle.std.proofs.lemmas.List.{length-append, append_assoc, append-nil}
use Rattle.plc_base.specs.declared.out_frame.Out.{Out}
use Rattle.plc_base.specs.declared.out_frame.OutFrame.{OutFrame}
use Rattle.mesh_header.specs.declared.unit.Mesh.{Mesh}
use Rattle.mesh_header.specs.declared.unit.Unit.TheVariants as mesh
use Rattle.mesh_header.specs.Pieces.{Placed}
use Rattle.mesh_header.specs.Grammar.{header_length}
use Rattle.station_queues.specs.Frames.{unit_frame, pieces_sent, with_frames}
use Rattle.station_queues.proofs.Letters.{pieces-suc, pieces-whole, pieces-length, piece-short}
use Rattle.station_queues.proofs.sealing.seal_pieces.Goals as goal

pub loop-k-init : goal.loop-k-init
loop-k-init c = λ i. record { frames = sym (append-nil c.args.out.now.frames) i; tags = c.args.out.now.tags }

pub seal-requires-clause-fits : goal.seal-requires-clause-fits
seal-requires-clause-fits c =
    omega (
      arith,
      ap (λ (m : Mesh). header_length m.hops) c.own_mesh.ensures,
      ap (λ (p : Placed). length p.octets) c.piece_at-piece.ensures.value,
      piece-short c.args.datagram.now c.args.tag c.loop-k.k,
    )

pub seal-requires-clause-room : goal.seal-requires-clause-room
seal-requires-clause-room c =
    omega (
      arith,
      ap (λ (o : Out). length o.frames) c.loop-k.invariant,
      length-append c.args.out.now.frames
          (pieces_sent c.args.grant.now c.args.key.now c.args.first c.args.to c.args.hop c.args.note c.args.datagram.now c.args.tag c.loop-k.k),
      pieces-length c.args.grant.now c.args.key.now c.args.first c.args.to c.args.hop c.args.note c.args.datagram.now c.args.tag c.loop-k.k,
      c.pieces-k-end.ensures,
    )

pub loop-k-preserved : goal.loop-k-preserved
loop-k-preserved c =
    c.seal.ensures
    ∙ (λ i. record {
      frames = (c.loop-k.invariant i).frames
          ++ unit_frame c.args.grant.now c.args.key.now (c.args.first + c.from.ensures i)
          (record { to = c.one.ensures.value i; unit = mesh.Part (c.own_mesh.ensures i) c.piece_at-piece.result; note = c.args.note }) ∷ [];
      tags = (c.loop-k.invariant i).tags;
    })
    ∙ ap (λ (frames : List OutFrame). with_frames frames c.args.out.now)
    (append_assoc c.args.out.now.frames _ _ ∙ ap (λ (fs : List OutFrame). c.args.out.now.frames ++ fs)
    (sym (pieces-suc c.args.grant.now c.args.key.now c.args.first c.args.to c.args.hop c.args.note c.args.datagram.now c.args.tag c.loop-k.k
    c.piece_at-piece.result c.requires.long (omega (arith, c.pieces-k-end.ensures)) c.piece_at-piece.ensures.kth)))

pub returns : goal.returns
returns c =
    c.loop-k.invariant
    ∙ ap (λ (frames : List OutFrame). with_frames (c.args.out.now.frames ++ frames) c.args.out.now)
    (pieces-whole c.args.grant.now c.args.key.now c.args.first c.args.to c.args.hop c.args.note c.args.datagram.now c.args.tag c.loop-k.k c.requires.long
    (omega (arith, c.pieces-k-end.ensures)))
