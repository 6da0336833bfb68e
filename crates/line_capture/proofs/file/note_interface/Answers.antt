use Rattle.std.proofs.Common.{◌++◌, ◌∷◌, [], codes, arith}
use Rattle.sentence_parts.specs.declared.part.Part.TheVariants.{Number, Words}
use Rattle.pcapng.specs.Blocks.{BlockOption, NAME, RESOLUTION}
use Rattle.line_capture.specs.Captures.{description_notes}
use Rattle.line_capture.specs.Sentences.{AreFew, said}
use Rattle.line_capture.proofs.Options.{few_one, few_then}
use Rattle.line_capture.proofs.Sentences.{sentence, short_numbered, short_words}
use Rattle.line_capture.proofs.file.note_interface.Goals as goal

pub name-requires : goal.name-requires
name-requires c =
    sentence _ (omega arith) (
      short_words _ _ c.words.ensures (omega arith),
      (
        short_numbered _ c.args.node c.number.ensures (omega arith),
        tt,
      ),
    )

abbrev resolution : BlockOption
resolution = record { code = RESOLUTION; octets = 9 ∷ [] }

pub returns-clause-few : goal.returns-clause-few
returns-clause-few c =
    let name = said NAME (Words (codes "node ") ∷ Number c.args.node ∷ []) in
    let notes = description_notes c.args.node c.args.eui in
    let named : AreFew 1 name = rw (c.words.ensures, c.number.ensures) at c.in_ok-name.ensures.few in
    few_then 1 2 60 name (notes ++ resolution ∷ []) named
    (few_then 1 1 2 notes (resolution ∷ []) c.in_ok-note_description.ensures.few
    (few_one resolution (record { begun = omega arith; code = omega arith; size = omega arith })) (omega arith)) (omega arith)
