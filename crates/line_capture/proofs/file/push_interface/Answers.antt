use Rattle.std.proofs.Common.{◌++◌, ◌∙◌, ℕ, List, length, ap, arith}
use Rattle.pcapng.specs.Blocks.{INTERFACE, block_spelling, ended, interface_body}
use Rattle.line_capture.specs.Captures.{interface_notes, interface_of, link_type}
use Rattle.line_capture.proofs.AddedBlocks.{adds_one, interface_is}
use Rattle.line_capture.proofs.Options.{few_more, few_octets}
use Rattle.line_capture.proofs.file.push_interface.Goals as goal

pub append_interface-requires : goal.append_interface-requires
append_interface-requires c =
    let a = few_octets 60 (interface_notes c.args.node c.args.eui) c.in_ok-note_interface.ensures.few in
    omega (arith, a, ap (λ (l : List ℕ). length l) c.in_ok-note_interface.ensures.options)

pub returns : goal.returns
returns c =
    adds_one _ _ (interface_of c.args.tap c.args.node c.args.eui)
    (c.in_ok-append_interface.ensures
    ∙ ap (λ (k : ℕ). c.args.out.now.items ++ block_spelling INTERFACE (interface_body k (ended c.note_interface.new.notes.options)))
    c.link_type.ensures
    ∙ ap (λ (t : List ℕ). c.args.out.now.items ++ block_spelling INTERFACE (interface_body (link_type c.args.tap) (ended t)))
    c.in_ok-note_interface.ensures.options)
    (interface_is (link_type c.args.tap) (interface_notes c.args.node c.args.eui) (omega (arith, c.link_type.ensures, c.link_type.type_inv))
    (few_more 60 61 (interface_notes c.args.node c.args.eui) c.in_ok-note_interface.ensures.few (omega arith)))
