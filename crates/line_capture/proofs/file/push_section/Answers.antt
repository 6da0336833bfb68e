use Rattle.std.proofs.Common.{◌++◌, ◌∙◌, ℕ, List, length, ap, arith}
use Rattle.pcapng.specs.Blocks.{SECTION, block_spelling, ended, section_body}
use Rattle.line_capture.specs.Captures.{section, section_notes}
use Rattle.line_capture.proofs.AddedBlocks.{adds_one, section_is}
use Rattle.line_capture.proofs.Options.{few_more, few_octets}
use Rattle.line_capture.proofs.file.push_section.Goals as goal

pub append_section-requires : goal.append_section-requires
append_section-requires c =
    let a = few_octets 60 (section_notes c.args.totals.now c.args.remark.now) c.in_ok-note_section.ensures.few in
    omega (arith, a, ap (λ (l : List ℕ). length l) c.in_ok-note_section.ensures.options)

pub returns : goal.returns
returns c =
    adds_one _ _ (section c.args.totals.now c.args.remark.now)
    (c.in_ok-append_section.ensures
    ∙ ap (λ (t : List ℕ). c.args.out.now.items ++ block_spelling SECTION (section_body (ended t))) c.in_ok-note_section.ensures.options)
    (section_is _ (few_more 60 61 (section_notes c.args.totals.now c.args.remark.now) c.in_ok-note_section.ensures.few (omega arith)))
