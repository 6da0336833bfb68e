use Rattle.std.proofs.Common.{arith}
use Rattle.line_capture.proofs.Sentences.{sentence, short_numbered, short_words}
use Rattle.line_capture.proofs.comments.note_end.Goals as goal

pub comment-requires : goal.comment-requires
comment-requires c =
    sentence _ (omega arith) (
      short_words _ _ c.words.ensures (omega arith),
      (
        short_numbered _ c.args.lost c.number.ensures (omega arith),
        tt,
      ),
    )
