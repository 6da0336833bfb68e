use Rattle.std.proofs.Common.{◌≡◌, length, arith}
use Rattle.block_pool.proofs.PaddedTables.{set_here, pushed}
use Rattle.block_pool.proofs.numbers.set_slot.Goals as goal

pub returns-then-place-len-clause-items : goal.returns-then-place-len-clause-items
returns-then-place-len-clause-items c =
    set_here c.args.table.now.items c.args.slot c.args.number (omega (arith, c.if-place-len.true, c.len.ensures, c.args.table.now.ok))

pub returns-clause-items : goal.returns-clause-items
returns-clause-items c =
    let last : c.args.number ≡ length c.args.table.now.items = omega (arith, c.if-place-len.false, c.len.ensures, c.args.table.now.ok, c.requires.number) in
    pushed c.push.result c.args.table.now.items c.push.new.self.items c.args.slot c.args.number last
    (c.push.ensures.succeeds (omega (arith, last, c.args.table.now.ok, c.requires.reserved))) c.push.ensures.items
