use Rattle.std.proofs.Common.{◌++◌, arith}
use Rattle.std.specs.Prelude.{codes}
use Rattle.line_script.specs.AnswerWords.{answer_word, verdict_word}
use Rattle.line_capture.specs.Comments.{forged_words}
use Rattle.line_capture.proofs.Sentences.{sentence, short_forged, short_numbered, short_said, short_spaced, short_word, short_words}
use Rattle.line_capture.proofs.comments.note_arrival.Goals as goal

pub comment-requires : goal.comment-requires
comment-requires c =
    let arrival = c.args.arrival.now in
    sentence _ (omega arith) (
      short_words _ _ c.words.ensures (omega arith),
      (
        short_numbered _ arrival.event c.number.ensures (omega arith),
        (
          short_words _ _ c.words-2.ensures (omega arith),
          (
            short_numbered _ arrival.node c.number-2.ensures (omega arith),
            (
              short_words _ _ c.words-3.ensures (omega arith),
              (
                short_said _ _ (verdict_word arrival.answer ++ codes " ") c.words-4.ensures c.verdict.ensures (short_spaced arrival.answer),
                (
                  short_said _ _ (answer_word arrival.answer) c.words-5.ensures c.answer_word.ensures (short_word arrival.answer),
                  (
                    short_said _ _ (forged_words arrival.forged) c.words-6.ensures c.forged_words.ensures (short_forged arrival.forged),
                    tt,
                  ),
                ),
              ),
            ),
          ),
        ),
      ),
    )
