use Rattle.std.proofs.Common.{◌≡◌, ◌<◌, ◌*◌, ◌++◌, ◌∷◌, [], false, length, set, sym, ap, subst, ◌∙◌, arith}
use Rattle.std.specs.List.{list_any}
use Rattle.std.specs.FinMap as map
use Rattle.block_pool.specs.Pool.{chain_octets, overwrite}
use Rattle.block_pool.proofs.Callers.{is_chain_if_long}
use Rattle.fragment_buffers.specs.declared.piece_span.PieceSpan.{PieceSpan}
use Rattle.fragment_buffers.specs.Entries.{Entry, IsPlace, entry_at, meet}
use Rattle.fragment_buffers.proofs.OneList.{there, read}
use Rattle.fragment_buffers.proofs.PieceWrites.{place_fits}
use Rattle.fragment_buffers.proofs.buffers.Buffers.write.Goals as goal

pub index-requires : goal.index-requires
index-requires c = omega (
  arith,
  c.self.inside.buffers.ok,
  there c.self.inside.buffers.items c.self.inside.places c.args.self.now c.args.index c.self.view_is
      c.requires.there,
)

pub write_at-requires-clause-ours : goal.write_at-requires-clause-ours
write_at-requires-clause-ours c =
    let entry = read c.self.inside.buffers.items c.self.inside.places c.args.self.now c.args.index c.self.view_is c.requires.there
    c.index.result.now c.self.invariant.all c.index.ensures in
    is_chain_if_long c.args.pool.now c.index.result.now.chain (subst (λ n. 0 < length (chain_octets c.args.pool.now n)) (ap (λ (e : Entry). e.chain) entry)
    (omega (arith, c.requires.chain, c.requires.size, c.requires.rule.size)))

pub write_at-requires-clause-room : goal.write_at-requires-clause-room
write_at-requires-clause-room c =
    let entry = read c.self.inside.buffers.items c.self.inside.places c.args.self.now c.args.index c.self.view_is c.requires.there
    c.index.result.now c.self.invariant.all c.index.ensures in
    let long = ap (λ (e : Entry). length (chain_octets c.args.pool.now e.chain)) entry in
    omega (
      arith,
      long,
      c.requires.chain,
      c.requires.size,
      c.requires.rule.within,
      c.start.ensures,
      ap (λ (p : PieceSpan). p.offset) c.of-place.ensures,
      ap length c.octets.ensures.value,
    )

pub push_place-requires-clause-place : goal.push_place-requires-clause-place
push_place-requires-clause-place c =
    subst (IsPlace (entry_at c.args.self.now c.args.index).size) (sym c.of-place.ensures)
    (place_fits (entry_at c.args.self.now c.args.index) c.args.piece.now c.requires.rule c.requires.size)

pub push_place-requires-clause-apart : goal.push_place-requires-clause-apart
push_place-requires-clause-apart c =
    subst (λ (p : PieceSpan). list_any (meet p) (entry_at c.args.self.now c.args.index).places ≡ false) (sym c.of-place.ensures) c.requires.apart

pub returns-clause-places : goal.returns-clause-places
returns-clause-places c =
    c.push_place.ensures ∙ ap (λ (p : PieceSpan). set c.args.self.now c.args.index (record (entry_at c.args.self.now c.args.index) {
      places = (entry_at c.args.self.now c.args.index).places ++ p ∷ [];
    })) c.of-place.ensures

pub returns-clause-chains : goal.returns-clause-chains
returns-clause-chains c =
    let entry = read c.self.inside.buffers.items c.self.inside.places c.args.self.now c.args.index c.self.view_is c.requires.there
    c.index.result.now c.self.invariant.all c.index.ensures in
    let start = c.start.ensures ∙ ap (λ (p : PieceSpan). p.offset * 8) c.of-place.ensures in
    let chain = sym (ap (λ (e : Entry). e.chain) entry) in
    c.write_at.ensures.chains ∙ (λ k. map.insert c.args.pool.now.chains (chain k) (overwrite (chain_octets c.args.pool.now (chain k)) (start k)
    (c.octets.ensures.value k)))
