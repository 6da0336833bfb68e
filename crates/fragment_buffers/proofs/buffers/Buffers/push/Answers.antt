use Rattle.std.proofs.Common.{◌≡◌, ◌∷◌, ◌++◌, [], length, sym, ap, subst, ◌∙◌, arith}
use Rattle.std.proofs.lemmas.List.Sums.{sum_by_push}
use Rattle.std.proofs.lemmas.List.Elements.{All-push}
use Rattle.std.specs.List.{All}
use Rattle.fragment_buffers.specs.declared.buffers.Buffer.{Buffer}
use Rattle.fragment_buffers.specs.Entries.{IsEntry}
use Rattle.fragment_buffers.specs.Buffers.{entry_of, entries_from, pieces_in}
use Rattle.fragment_buffers.proofs.OneList.{length-entries, entries_push, no_piece, if_ok}
use Rattle.fragment_buffers.proofs.buffers.Buffers.push.Goals as goal

pub unwrap-requires : goal.unwrap-requires
unwrap-requires c = c.push.ensures.succeeds (omega (
  arith,
  c.self.invariant.reserved,
  c.self.inside.buffers.ok,
  length-entries c.self.inside.buffers.items c.self.inside.places,
  ap length c.self.view_is,
  c.requires.few,
))

items : (c : goal.After-unwrap) → c.push.new.self.items ≡ c.self.inside.buffers.items ++ c.args.buffer ∷ []
items c = if_ok c.push.result (c.self.inside.buffers.items ++ c.args.buffer ∷ []) c.self.inside.buffers.items c.push.new.self.items
    (c.push.ensures.succeeds (omega (
      arith,
      c.self.invariant.reserved,
      c.self.inside.buffers.ok,
      length-entries c.self.inside.buffers.items c.self.inside.places,
      ap length c.self.view_is,
      c.requires.few,
    ))) c.push.ensures.items

pub returns : goal.returns
returns c =
    ap (λ l. entries_from l c.self.inside.places) (items c)
    ∙ entries_push c.self.inside.buffers.items c.args.buffer c.self.inside.places c.self.invariant.all c.requires.none
    ∙ ap (λ l. l ++ entry_of c.args.buffer [] ∷ []) c.self.view_is

pub invariant_of-self : goal.invariant_of-self
invariant_of-self c = record {
  entries = subst (All IsEntry) (sym (returns c)) (All-push IsEntry c.args.self.now (entry_of c.args.buffer [])
      (subst (All IsEntry) c.self.view_is c.self.invariant.entries) (no_piece c.args.buffer c.requires.size));
  all = ap pieces_in (items c)
      ∙ omega (arith, sum_by_push (λ (b : Buffer). b.pieces) c.self.inside.buffers.items c.args.buffer, c.requires.none, c.self.invariant.all);
  few = c.self.invariant.few;
  reserved = omega (arith, c.self.invariant.reserved, c.push.ensures.capacity);
}
