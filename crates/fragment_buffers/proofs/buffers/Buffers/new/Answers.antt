use Rattle.std.proofs.Common.{length, sym, ap, subst, ◌∙◌, arith}
use Rattle.std.proofs.lemmas.List.Elements.{All-nil}
use Rattle.std.specs.List.{All}
use Rattle.fragment_buffers.specs.Entries.{IsEntry}
use Rattle.fragment_buffers.specs.Buffers.{entries_from, pieces_in}
use Rattle.fragment_buffers.proofs.OneList.{no_entries}
use Rattle.fragment_buffers.proofs.buffers.Buffers.new.Goals as goal

pub returns : goal.returns
returns c = (λ i. entries_from (c.in_ok-buffers.ensures.items i) (c.in_ok-places.ensures i)) ∙ no_entries

pub invariant_of-result : goal.invariant_of-result
invariant_of-result c = record {
  entries = subst (All IsEntry) (sym ((λ i. entries_from (c.in_ok-buffers.ensures.items i) (c.in_ok-places.ensures i)) ∙ no_entries)) (All-nil IsEntry);
  all = ap pieces_in c.in_ok-buffers.ensures.items ∙ sym (ap length c.in_ok-places.ensures);
  few = omega (arith, ap length c.in_ok-places.ensures);
  reserved = omega (arith, c.in_ok-buffers.ensures.exact);
}
