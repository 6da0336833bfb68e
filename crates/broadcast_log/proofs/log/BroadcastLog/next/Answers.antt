use Rattle.std.proofs.Common.{ap, subst, sym, ◌∙◌, ℕ}
use Rattle.broadcast_log.specs.Log.{Log}
use Rattle.store_tables.specs.Numberings.{AllBelow}
use Rattle.broadcast_log.proofs.Runs.{next_is_fresh}
use Rattle.broadcast_log.proofs.log.BroadcastLog.next.Goals as goal

pub returns-clause-fresh : goal.returns-clause-fresh
returns-clause-fresh g c given before run =
    subst (λ (n : ℕ). AllBelow n given) (sym (c.in-Ok.ensures.number ∙ ap (λ (l : Log). l.numbering.next) c.self.view_is))
    (next_is_fresh given before c.args.self.now (g.K.Keeper.store c.args.keeper.now).records run)
