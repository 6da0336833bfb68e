use Rattle.std.proofs.Common.{◌≡◌, [], ◌∷◌, ◌++◌, length, ap, sym, subst, refl, arith, ◌∙◌}
use Rattle.std.proofs.lemmas.List.{length-replicate}
use Rattle.block_pool.specs.Pool.{chain_octets, IsChain}
use Rattle.block_pool.proofs.Callers.{IsChain-insert, chain_octets-insert, overwrite_all}
use Rattle.fragment_buffers.proofs.PieceWrites.{Stays, stays-insert}
use Rattle.fragment_buffers.specs.Loads.{load_of}
use Rattle.station_queues.specs.Bodies.{Held, Slot}
use Rattle.station_queues.specs.BodiesInPool.{IsSound, bodies_in}
use Rattle.station_queues.proofs.Sound.{Reserves, HasRoom, room_is, sound_push, gathered_push, bodies_push, seen_waiting, blocks_more}
use Rattle.station_queues.specs.FirstEnd.{IsStill}
use Rattle.station_queues.proofs.FirstEnds.{still_pushed}
use Rattle.station_queues.proofs.bodies.Bodies.push.Goals.{After-push}
use Rattle.station_queues.proofs.bodies.Bodies.push.Goals as goal

slot : (c : After-push) → Slot
slot c = record { to = c.args.to; note = c.args.note; since = c.args.since; tag = c.args.tag; chain = c.in-Ok.chain; size = length c.args.octets.now }

reserves : (c : After-push) → Reserves c.self.inside.pool c.write_at.new.self (slot c) c.args.octets.now
unfolding slot
reserves c =
    let zeros = chain_octets-insert c.self.inside.pool c.reserve.new.self c.in-Ok.chain _ c.in-Ok.ensures.chains in
    record {
      new = c.in-Ok.ensures.new_number;
      there = IsChain-insert c.reserve.new.self c.write_at.new.self c.in-Ok.chain _ c.write_at.ensures.chains;
      octets = chain_octets-insert c.reserve.new.self c.write_at.new.self c.in-Ok.chain _ c.write_at.ensures.chains
          ∙ overwrite_all (chain_octets c.reserve.new.self c.in-Ok.chain) c.args.octets.now (sym (ap length zeros ∙ length-replicate _ 0));
      free = omega (arith, c.write_at.ensures.free, c.in-Ok.ensures.free);
      others = λ d is.
          let ne = λ (e : d ≡ c.in-Ok.chain). c.in-Ok.ensures.new_number (subst (IsChain c.self.inside.pool) e is) in
          let first : Stays c.self.inside.pool c.reserve.new.self d = stays-insert c.self.inside.pool c.reserve.new.self c.in-Ok.chain d _
          c.in-Ok.ensures.chains ne is in
          let then : Stays c.reserve.new.self c.write_at.new.self d = stays-insert c.reserve.new.self c.write_at.new.self c.in-Ok.chain d _
          c.write_at.ensures.chains ne first.0 in
          (then.0, then.1 ∙ first.1);
    }

has_room : (c : After-push) → HasRoom c.self.inside.waiting.items (slot c) c.args.octets.now
unfolding slot
has_room c = record {
  long = refl;
  some = omega (arith, c.requires.some);
  fits = c.requires.fits;
  command = c.requires.command;
  room = room_is c.self.inside.pool c.self.inside.reassembly c.self.inside.waiting.items c.args.self.now (length c.args.octets.now) c.self.view_is
      c.self.invariant.sound.waits c.requires.room;
}

pub unreachable-requires : goal.unreachable-requires
unreachable-requires c = omega (
  arith,
  c.in_default.ensures.full.0 refl,
  c.self.invariant.sound.total,
  c.self.invariant.sound.keeps.room,
  room_is c.self.inside.pool c.self.inside.reassembly c.self.inside.waiting.items c.args.self.now (length c.args.octets.now) c.self.view_is
      c.self.invariant.sound.waits c.requires.room,
)

pub write_at-requires-clause-ours : goal.write_at-requires-clause-ours
write_at-requires-clause-ours c = IsChain-insert c.self.inside.pool c.reserve.new.self c.in-Ok.chain _ c.in-Ok.ensures.chains

pub write_at-requires-clause-room : goal.write_at-requires-clause-room
write_at-requires-clause-room c =
    omega (arith, ap length (chain_octets-insert c.self.inside.pool c.reserve.new.self c.in-Ok.chain _ c.in-Ok.ensures.chains) ∙ length-replicate _ 0)

pub returns : goal.returns
unfolding slot
returns c =
    seen_waiting c.self.inside.pool c.write_at.new.self c.self.inside.reassembly c.self.inside.waiting.items c.push.new.self.items c.args.self.now _
    c.self.view_is
    (gathered_push c.self.inside.pool c.write_at.new.self c.self.inside.reassembly c.self.inside.waiting.items (slot c) c.args.octets.now c.self.invariant.sound
    (reserves c))
    (ap (bodies_in c.write_at.new.self) c.push.ensures.items
    ∙ bodies_push c.self.inside.pool c.write_at.new.self c.self.inside.reassembly c.self.inside.waiting.items (slot c) c.args.octets.now c.self.invariant.sound
    (reserves c)
    ∙ ap (λ (h : Held). h.waiting ++ record { to = c.args.to; note = c.args.note; since = c.args.since; load = load_of c.args.tag c.args.octets.now } ∷ [])
    c.self.view_is)

pub invariant_of-self : goal.invariant_of-self
unfolding slot
invariant_of-self c = record {
  sound = subst (IsSound c.write_at.new.self c.self.inside.reassembly) (sym c.push.ensures.items)
      (sound_push c.self.inside.pool c.write_at.new.self c.self.inside.reassembly c.self.inside.waiting.items (slot c) c.args.octets.now c.self.invariant.sound
      (reserves c) (has_room c));
  count = omega (arith, c.self.invariant.count, blocks_more c.self.inside.waiting.items _ (slot c) c.push.ensures.items);
  end = subst (IsStill c.earlier_end-self-inside.result) (sym (returns c))
      (still_pushed c.args.self.now (record { to = c.args.to; note = c.args.note; since = c.args.since; load = load_of c.args.tag c.args.octets.now })
      c.self.inside.next_end
      c.earlier_end-self-inside.result c.earlier_end-self-inside.ensures (subst (IsStill c.self.inside.next_end) c.self.view_is c.self.invariant.end));
}
