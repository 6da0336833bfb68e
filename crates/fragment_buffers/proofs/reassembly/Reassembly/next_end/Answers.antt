use Rattle.std.proofs.Common.{ℕ, sym, ap, subst, ◌∙◌}
use Rattle.fragment_buffers.specs.Entries.{reassemblies_in}
use Rattle.fragment_buffers.specs.FirstEnd.{IsStill, first_end}
use Rattle.fragment_buffers.proofs.FirstEnds.{still}
use Rattle.fragment_buffers.proofs.reassembly.Reassembly.next_end.Goals as goal

pub returns-clause-value : goal.returns-clause-value
returns-clause-value c = c.first_end.ensures ∙ ap first_end c.self.view_is

pub returns-clause-still : goal.returns-clause-still
returns-clause-still c pool =
    subst (λ (n : ℕ). IsStill n (reassemblies_in pool c.args.self.now)) (sym (c.first_end.ensures ∙ ap first_end c.self.view_is)) (still pool c.args.self.now)
