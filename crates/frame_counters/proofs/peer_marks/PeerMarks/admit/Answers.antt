use Rattle.std.proofs.Common.{◌≡◌, Ok, Err, Result, sym, arith}
use Rattle.std.specs.Prelude.{OnOk}
use Rattle.frame_counters.specs.PeerMarks.{room_for}
use Rattle.frame_counters.proofs.Admitted.{room_is_fresh}
use Rattle.frame_counters.proofs.peer_marks.PeerMarks.admit.Goals as goal

on_ok : {T E P : Type 0} (r : Result T E) → P → OnOk r P
on_ok (Ok t) h = h
on_ok (Err e) h = tt

pub returns-in-Ok-clause-fresh : goal.returns-in-Ok-clause-fresh
returns-in-Ok-clause-fresh g c before history =
    let room : room_for c.args.self.now c.args.from c.args.counter ≡ Ok (tt {0}) = sym c.in-Ok.ensures in
    on_ok _ (room_is_fresh before c.args.self.now (g.K.Keeper.store c.args.keeper.now).records c.args.from c.args.counter history (omega arith) (omega arith)
    room)
