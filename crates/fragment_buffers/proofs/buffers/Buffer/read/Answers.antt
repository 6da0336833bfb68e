use Rattle.std.proofs.Common.{arith}
use Rattle.block_pool.proofs.Callers.{is_chain_if_long}
use Rattle.fragment_buffers.proofs.buffers.Buffer.read.Goals as goal

pub read_at-requires-clause-ours : goal.read_at-requires-clause-ours
read_at-requires-clause-ours c =
    is_chain_if_long c.args.pool.now c.args.self.now.chain (omega (arith, c.requires.some, c.requires.chain))
