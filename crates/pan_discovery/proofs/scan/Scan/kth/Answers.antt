-- The first 16 agents have the k-th, and the clause on histories follows.
use Rattle.std.proofs.Common.{rules}
use Rattle.pan_discovery.proofs.Histories.{kth_first}
use Rattle.pan_discovery.proofs.scan.Scan.kth.Goals as goal

pub returns-in_err-agent-clause-history : goal.returns-in_err-agent-clause-history
returns-in_err-agent-clause-history c = kth_first _ c.args.k _ c.requires.first c.requires.last (search rules)

pub returns-clause-history : goal.returns-clause-history
returns-clause-history c = kth_first _ c.args.k _ c.requires.first c.requires.last (search rules)
