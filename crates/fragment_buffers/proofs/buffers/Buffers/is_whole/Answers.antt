use Rattle.std.proofs.Common.{List, ℕ, sym, ap, subst₂, arith}
use Rattle.std.specs.Bool.{MatchBool}
use Rattle.fragment_buffers.specs.declared.piece_span.PieceSpan.{PieceSpan}
use Rattle.fragment_buffers.specs.Entries.{Entry, AreCovering, LeaveGap}
use Rattle.fragment_buffers.proofs.OneList.{there, read}
use Rattle.fragment_buffers.proofs.buffers.Buffers.is_whole.Goals as goal

pub index-requires : goal.index-requires
index-requires c = omega (
  arith,
  c.self.inside.buffers.ok,
  there c.self.inside.buffers.items c.self.inside.places c.args.self.now c.args.index c.self.view_is
      c.requires,
)

pub returns-clause-value : goal.returns-clause-value
returns-clause-value c =
    let size = ap (λ (e : Entry). e.size) (read c.self.inside.buffers.items c.self.inside.places c.args.self.now c.args.index c.self.view_is c.requires
    c.index.result.now c.self.invariant.all c.index.ensures) in
    subst₂ (λ (n : ℕ) (ps : List PieceSpan). MatchBool c.cover_all.result (AreCovering n ps) (LeaveGap n ps)) (sym size) c.places_of.ensures.value
    c.cover_all.ensures
