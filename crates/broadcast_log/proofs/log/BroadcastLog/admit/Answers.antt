use Rattle.std.proofs.Common.{◌≡◌, Ok, Err, Result, sym, ap, subst, ◌∙◌, arith}
use Rattle.std.specs.Prelude.{OnOk}
use Rattle.store_tables.proofs.MarkEntries.{room_has}
use Rattle.broadcast_log.specs.declared.fault.LogFault.TheVariants.{Old, OriginsFull}
use Rattle.broadcast_log.specs.Log.{Log}
use Rattle.broadcast_log.specs.OriginMarks.{MarksAgree, room_for}
use Rattle.broadcast_log.proofs.Runs.{admission_is_fresh}
use Rattle.broadcast_log.proofs.log.BroadcastLog.admit.Goals as goal

on_ok : {T E P : Type 0} (r : Result T E) → P → OnOk r P
on_ok (Ok t) h = h
on_ok (Err e) h = tt

pub keep-requires : goal.keep-requires
keep-requires g c =
    let records = (g.K.Keeper.store c.args.keeper.now).records in
    let kept = subst (λ (l : Log). MarksAgree l.marks records) (sym c.self.view_is) c.requires.marks in
    (omega arith, (room_has 0x0300 32 Old OriginsFull c.self.inside.marks c.args.origin c.args.number kept.short (sym c.in-Ok.ensures), kept))

pub returns-in-Ok-clause-fresh : goal.returns-in-Ok-clause-fresh
returns-in-Ok-clause-fresh g c given before run =
    let room : room_for c.args.self.now.marks c.args.origin c.args.number
    ≡ Ok (tt {0}) = ap (λ (l : Log). room_for l.marks c.args.origin c.args.number) (sym c.self.view_is) ∙ sym c.in-Ok.ensures in
    on_ok _ (admission_is_fresh given before c.args.self.now (g.K.Keeper.store c.args.keeper.now).records c.args.origin c.args.number run (omega arith)
    (omega arith) room)
