use Rattle.std.proofs.Common.{sym, ap, ◌∙◌}
use Rattle.std.specs.Prelude.{fold}
use Rattle.fragment_buffers.specs.FirstEnd.{first_end}
use Rattle.fragment_buffers.specs.Buffers.{end_before}
use Rattle.fragment_buffers.proofs.Names.{same_end}
use Rattle.fragment_buffers.proofs.buffers.Buffers.first_end.Goals as goal

pub returns : goal.returns
returns c =
    c.first_end.ensures ∙ ap (fold end_before 18446744073709551615) c.deref.ensures.value
    ∙ sym (same_end c.self.inside.buffers.items c.self.inside.places) ∙ ap first_end c.self.view_is
