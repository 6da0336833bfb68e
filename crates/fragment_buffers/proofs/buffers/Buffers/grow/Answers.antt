use Rattle.std.proofs.Common.{ap, sym, ◌∙◌, ◌≡◌, arith}
use Rattle.std.specs.List.{list_any}
use Rattle.fragment_buffers.specs.Entries.{entry_at, place_of, meet}
use Rattle.fragment_buffers.proofs.PieceWrites.{Fits}
use Rattle.fragment_buffers.proofs.GrownReassemblies.{AllBefore, emptied, left, Meets, used_before, fits_grown, within_grown, items_grown, changes_grown}
use Rattle.fragment_buffers.proofs.GrownReassemblies.{gathered_all}
use Rattle.fragment_buffers.proofs.buffers.Buffers.grow.Goals.{then-overlap, else-overlap}
use Rattle.fragment_buffers.proofs.buffers.Buffers.grow.Goals as goal

overlaps : (c : goal.After-write) → c.overlap.result ≡ list_any (meet (place_of c.args.piece.now)) (entry_at c.args.self.now c.args.index).places
overlaps c = c.overlap.ensures ∙ ap (list_any (meet (place_of c.args.piece.now))) c.places_of.ensures.value

before : (c : goal.After-write) → AllBefore c.args.self.now c.if-overlap.self c.args.index c.args.piece.now c.args.note c.args.now
before c = elim c.if-overlap.branch [
  | then-overlap w ↦ emptied (sym (overlaps c) ∙ w.if-overlap.true) (w.self-is ∙ w.discard.ensures)
  | else-overlap w ↦ left (sym (overlaps c) ∙ w.if-overlap.false) w.self-is
]

meets : (c : goal.After-write) → Meets c.args.pool.now c.args.self.now c.args.index c.args.piece.now
meets c = record {
  there = c.requires.there;
  entry = c.places_of.ensures.rule;
  rule = c.requires.rule;
  size_is = c.requires.size;
  long = c.requires.chain;
}

joined : (c : goal.After-write-arg-2-1) → AllBefore c.args.self.now c.if-overlap.self c.args.index c.args.piece.now c.args.note c.args.now
joined c = elim c.if-overlap.branch [
  | then-overlap w ↦ emptied (sym (c.overlap.ensures ∙ ap (list_any (meet (place_of c.args.piece.now))) c.places_of.ensures.value) ∙ w.if-overlap.true)
      (w.self-is ∙ w.discard.ensures)
  | else-overlap w ↦ left (sym (c.overlap.ensures ∙ ap (list_any (meet (place_of c.args.piece.now))) c.places_of.ensures.value) ∙ w.if-overlap.false) w.self-is
]

met : (c : goal.After-write-arg-2-1) → Meets c.args.pool.now c.args.self.now c.args.index c.args.piece.now
met c = record {
  there = c.requires.there;
  entry = c.places_of.ensures.rule;
  rule = c.requires.rule;
  size_is = c.requires.size;
  long = c.requires.chain;
}

fits : (c : goal.After-write-arg-2-1) → Fits c.args.pool.now (entry_at c.if-overlap.self c.args.index) c.args.piece.now
fits c =
    fits_grown c.args.pool.now c.args.pool.now c.args.self.now c.if-overlap.self c.args.self.now c.args.index c.args.piece.now c.args.note c.args.now (met c)
    (joined c)

pub write-requires-clause-there : goal.write-requires-clause-there
write-requires-clause-there c =
    within_grown c.args.pool.now c.args.pool.now c.args.self.now c.if-overlap.self c.args.self.now c.args.index c.args.piece.now c.args.note c.args.now (met c)
    (joined c)

pub write-requires-clause-size : goal.write-requires-clause-size
write-requires-clause-size c = (fits c).size_is

pub write-requires-clause-chain : goal.write-requires-clause-chain
write-requires-clause-chain c = (fits c).long

pub write-requires-clause-apart : goal.write-requires-clause-apart
write-requires-clause-apart c = (fits c).none

pub write-requires-clause-room : goal.write-requires-clause-room
write-requires-clause-room c =
    omega (
      arith,
      used_before c.args.self.now c.if-overlap.self c.args.index c.args.piece.now c.args.note c.args.now c.requires.there (joined c),
      c.requires.room,
    )

pub returns-clause-items : goal.returns-clause-items
returns-clause-items c =
    items_grown c.args.pool.now c.write.new.pool c.args.self.now c.if-overlap.self c.write.new.self c.args.index c.args.piece.now c.args.note
    c.args.now (meets c) (before c) c.write.ensures.places c.write.ensures.chains

pub returns-clause-changes : goal.returns-clause-changes
returns-clause-changes c = changes_grown c.args.pool.now c.write.new.pool c.args.self.now c.if-overlap.self c.write.new.self c.args.index c.args.piece.now
    c.args.note c.args.now (meets c) (before c) c.write.ensures.places c.write.ensures.chains c.write.ensures.free

pub returns-clause-gathered : goal.returns-clause-gathered
returns-clause-gathered c = gathered_all c.args.pool.now c.write.new.pool c.args.self.now c.if-overlap.self c.write.new.self c.args.index c.args.piece.now
    c.args.note c.args.now (meets c) (before c) c.write.ensures.places c.write.ensures.chains c.requires.tag
