use Rattle.std.proofs.Common.{arith}
use Rattle.line_capture.proofs.Sentences.{sentence, short_numbered, short_words}
use Rattle.line_capture.proofs.comments.note_bearer.Goals as goal

pub comment-requires : goal.comment-requires
comment-requires c =
    sentence _ (omega arith) (
      short_words _ _ c.words.ensures (omega arith),
      (
        short_numbered _ c.args.event c.number.ensures (omega arith),
        (
          short_words _ _ c.words-2.ensures (omega arith),
          (
            short_numbered _ c.args.line c.number-2.ensures (omega arith),
            (
              short_words _ _ c.words-3.ensures (omega arith),
              (
                short_numbered _ c.args.flight c.number-3.ensures (omega arith),
                (
                  short_words _ _ c.words-4.ensures (omega arith),
                  (
                    short_numbered _ c.args.send c.number-4.ensures (omega arith),
                    tt,
                  ),
                ),
              ),
            ),
          ),
        ),
      ),
    )
