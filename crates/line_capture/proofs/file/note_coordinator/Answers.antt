use Rattle.std.proofs.Common.{◌≡◌, length, arith}
use Rattle.line_capture.proofs.Sentences.{sentence, short_device, short_words}
use Rattle.line_capture.proofs.file.note_coordinator.Goals as goal

pub description-requires : goal.description-requires
description-requires c =
    let eight : length c.args.eui.0 ≡ 8 = omega arith in
    sentence _ (omega arith) (
      short_words _ _ c.words.ensures (omega arith),
      (
        short_device _ c.args.eui c.place.ensures eight,
        tt,
      ),
    )
