use Rattle.std.proofs.Common.{◌≡◌, true, sym, subst, arith}
use Rattle.plc_base.specs.Keeper.{IsOldOrNew}
use Rattle.store_tables.specs.Marks.{has_room}
use Rattle.store_tables.proofs.MarkEntries.{kept_covered, room_has}
use Rattle.frame_counters.specs.declared.fault.PeerFault.TheVariants.{Replayed, PeersFull}
use Rattle.frame_counters.specs.PeerMarks.{Table, AgreesWith, kept_after}
use Rattle.frame_counters.proofs.peer_marks.PeerMarks.keep.Goals as goal

pub keep-requires : goal.keep-requires
keep-requires g c =
    let records = (g.K.Keeper.store c.args.keeper.now).records in
    let room = room_has 0x0100 64 Replayed PeersFull c.args.self.now c.args.from c.args.counter c.requires.kept.short c.requires.room in (
      omega arith,
      (
        subst (λ (t : Table). has_room 0x0100 64 t c.args.from c.args.counter ≡ true) (sym c.self.view_is) room,
        subst (λ (t : Table). AgreesWith t records) (sym c.self.view_is) c.requires.kept,
      ),
    )

pub returns-clause-either : goal.returns-clause-either
returns-clause-either g c =
    let records = (g.K.Keeper.store c.keep.new.keeper).records in
    subst (λ (t : Table). IsOldOrNew AgreesWith t (kept_after t c.args.from c.args.counter) records) c.self.view_is c.keep.ensures.either

pub invariant_of-self : goal.invariant_of-self
invariant_of-self g c =
    kept_covered 0x0100 64 c.keep.result c.self.inside.marks c.keep.new.self c.args.from c.args.counter c.self.invariant (omega arith) c.keep.ensures.table
    c.keep.ensures.same
