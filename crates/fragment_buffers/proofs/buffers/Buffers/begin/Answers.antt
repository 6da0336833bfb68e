use Rattle.std.proofs.Common.{◌≡◌, [], ◌∷◌, ◌++◌, ◌*◌, length, sym, ap, subst, ◌∙◌, arith}
use Rattle.std.proofs.lemmas.List.{length-replicate, get_or_push, length_push}
use Rattle.std.proofs.lemmas.List.Sums.{sum_by_push}
use Rattle.std.specs.List.{list_any}
use Rattle.std.specs.FinMap as map
use Rattle.block_pool.specs.Pool.{IsChain, chain_octets, overwrite}
use Rattle.block_pool.proofs.Callers.{chain_octets-insert}
use Rattle.fragment_buffers.specs.PieceIntake.{blocks}
use Rattle.fragment_buffers.specs.Entries.{Entry, entry_at, no_entry, place_of, meet, blocks_used}
use Rattle.fragment_buffers.specs.Steps.{Stays}
use Rattle.fragment_buffers.proofs.PieceWrites.{Writes, entry_begun, begun_fits, gathered_begun, long_written, stays-insert}
use Rattle.fragment_buffers.proofs.GrownReassemblies.{begun_last, last_is, same_last, with_place}
use Rattle.fragment_buffers.proofs.buffers.Buffers.begin.Goals as goal

-- the reassembly before its piece is written
abbrev first : (c : goal.After-write-arg-2-1) → Entry
first c = entry_begun c.args.origin c.args.piece.now c.args.note c.args.now c.in-Ok.chain []

pushed : (c : goal.After-write-arg-2-1) → c.push.new.self ≡ c.args.self.now ++ first c ∷ []
pushed c =
    c.push.ensures
    ∙ (λ k. c.args.self.now ++ record (first c) { size = c.size-size.ensures.value k; tag = c.tag.ensures k } ∷ [])

here : (c : goal.After-write-arg-2-1) → entry_at c.push.new.self c.len-index.result ≡ first c
here c = ap (λ l. entry_at l c.len-index.result) (pushed c) ∙ get_or_push c.args.self.now (first c) no_entry c.len-index.result (sym c.len-index.ensures)

reserved : (c : goal.After-write-arg-2-1) → length (chain_octets c.reserve.new.self c.in-Ok.chain) ≡ c.args.piece.now.size
reserved c = ap length (chain_octets-insert c.args.pool.now c.reserve.new.self c.in-Ok.chain _ c.in-Ok.ensures.chains) ∙ length-replicate c.size-size.result 0
    ∙ c.size-size.ensures.value

pub write-requires-clause-there : goal.write-requires-clause-there
write-requires-clause-there c = omega (arith, ap length (pushed c), length_push c.args.self.now (first c), c.len-index.ensures)

pub write-requires-clause-size : goal.write-requires-clause-size
write-requires-clause-size c = ap (λ (e : Entry). e.size) (here c)

pub write-requires-clause-chain : goal.write-requires-clause-chain
write-requires-clause-chain c =
    ap (λ (e : Entry). length (chain_octets c.reserve.new.self e.chain)) (here c) ∙ reserved c ∙ sym (ap (λ (e : Entry). e.size) (here c))

pub write-requires-clause-apart : goal.write-requires-clause-apart
write-requires-clause-apart c = ap (λ (e : Entry). list_any (meet (place_of c.args.piece.now)) e.places) (here c)

pub write-requires-clause-room : goal.write-requires-clause-room
write-requires-clause-room c =
    omega (arith, ap (λ l. blocks_used l) (pushed c), sum_by_push (λ (e : Entry). blocks e.size) c.args.self.now (first c), c.requires.room)

list_is : (c : goal.After-write) → c.write.new.self ≡ c.args.self.now ++ with_place (first c.before) (place_of c.args.piece.now) ∷ []
list_is c = begun_last c.args.self.now c.push.new.self c.write.new.self c.len-index.result (first c.before) (place_of c.args.piece.now) (pushed c.before)
    c.len-index.ensures
    c.write.ensures.places

writes : (c : goal.After-write) → Writes c.reserve.new.self c.write.new.pool (first c.before) (entry_at c.write.new.self (length c.args.self.now))
    c.args.piece.now
writes c =
    let chain = ap (λ (e : Entry). e.chain) (here c.before) in
    record {
      places = last_is c.args.self.now c.write.new.self (with_place (first c.before) (place_of c.args.piece.now)) (list_is c);
      chains = subst (λ n. c.write.new.pool.chains ≡ map.insert c.reserve.new.self.chains n (overwrite (chain_octets c.reserve.new.self n)
          (c.args.piece.now.offset * 8) c.args.piece.now.octets)) chain c.write.ensures.chains;
    }

pub returns-clause-items : goal.returns-clause-items
returns-clause-items c = same_last c.args.self.now c.write.new.self (with_place (first c.before) (place_of c.args.piece.now)) (list_is c)

pub returns-clause-gathered : goal.returns-clause-gathered
returns-clause-gathered c =
    gathered_begun c.reserve.new.self c.write.new.pool (entry_at c.write.new.self (length c.args.self.now)) c.args.piece.now c.args.origin c.args.note
    c.args.now c.in-Ok.chain c.size-size.ensures.rule (reserved c.before) (writes c)

pub returns-clause-begins : goal.returns-clause-begins
returns-clause-begins c =
    let chain = ap (λ (e : Entry). e.chain) (writes c).places in
    let size = ap (λ (e : Entry). e.size) (writes c).places in
    record {
      new = λ is. c.in-Ok.ensures.new_number (subst (IsChain c.args.pool.now) chain is);
      long = long_written c.reserve.new.self c.write.new.pool (first c.before) _ c.args.piece.now
          (begun_fits c.reserve.new.self c.args.piece.now c.args.origin c.args.note c.args.now c.in-Ok.chain c.size-size.ensures.rule (reserved c.before))
          (writes c);
      free = omega (arith, ap (λ n. blocks n) size, ap (λ n. blocks n) c.size-size.ensures.value, c.write.ensures.free, c.in-Ok.ensures.free);
      others = λ d is.
          let ne = λ (e : d ≡ c.in-Ok.chain). c.in-Ok.ensures.new_number (subst (IsChain c.args.pool.now) e is) in
          let one : Stays c.args.pool.now c.reserve.new.self d = stays-insert c.args.pool.now c.reserve.new.self c.in-Ok.chain d _ c.in-Ok.ensures.chains ne
          is in
          let two : Stays c.reserve.new.self c.write.new.pool d = stays-insert c.reserve.new.self c.write.new.pool c.in-Ok.chain d _ (writes c).chains ne
          one.0 in
          (two.0, two.1 ∙ one.1);
    }
