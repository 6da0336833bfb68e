use Rattle.std.proofs.Common.{◌≡◌, ◌++◌, ◌∷◌, [], List, codes, subst, arith}
use Rattle.std.specs.Prelude.{OnOk}
use Rattle.pcapng.specs.Blocks.{options_spelling}
use Rattle.sentence_parts.specs.declared.part.Part.{Part}
use Rattle.sentence_parts.specs.declared.part.Part.TheVariants.{Count, Number, Words}
use Rattle.line_capture.specs.Sentences.{AreFew, comment}
use Rattle.line_capture.proofs.Sentences.{sentence, short_counted, short_numbered, short_words}
use Rattle.line_capture.proofs.file.note_totals.Goals as goal

pub comment-requires : goal.comment-requires
comment-requires c =
    let totals = c.args.totals.now in
    sentence _ (omega arith) (
      short_words _ _ c.words.ensures (omega arith),
      (
        short_counted _ totals.events (codes "event") c.count_of.ensures (omega arith) (omega arith),
        (
          short_words _ _ c.words-2.ensures (omega arith),
          (
            short_counted _ totals.flights (codes "flight") c.count_of-2.ensures (omega arith) (omega arith),
            (
              short_words _ _ c.words-3.ensures (omega arith),
              (
                short_counted _ totals.sends (codes "send") c.count_of-3.ensures (omega arith) (omega arith),
                (
                  short_words _ _ c.words-4.ensures (omega arith),
                  (
                    short_numbered _ totals.ups c.number.ensures (omega arith),
                    (
                      short_words _ _ c.words-5.ensures (omega arith),
                      (
                        short_numbered _ totals.forged c.number-2.ensures (omega arith),
                        (
                          short_words _ _ c.words-6.ensures (omega arith),
                          tt,
                        ),
                      ),
                    ),
                  ),
                ),
              ),
            ),
          ),
        ),
      ),
    )

pub returns-clause-options : goal.returns-clause-options
returns-clause-options c =
    let totals = c.args.totals.now in
    let same : c.words.result ∷ c.count_of.result ∷ c.words-2.result ∷ c.count_of-2.result ∷ c.words-3.result ∷ c.count_of-3.result ∷ c.words-4.result
    ∷ c.number.result ∷ c.words-5.result ∷ c.number-2.result ∷ c.words-6.result ∷ []
    ≡ Words (codes "run of script: ") ∷ Count totals.events (codes "event") ∷ Words (codes ", ") ∷ Count totals.flights (codes "flight") ∷ Words (codes ", ")
    ∷ Count totals.sends (codes "send") ∷ Words (codes ", ") ∷ Number totals.ups ∷ Words (codes " handed up, ") ∷ Number totals.forged
    ∷ Words (codes " forged") ∷ []
    = λ i. c.words.ensures i ∷ c.count_of.ensures i ∷ c.words-2.ensures i ∷ c.count_of-2.ensures i ∷ c.words-3.ensures i ∷ c.count_of-3.ensures i
    ∷ c.words-4.ensures i ∷ c.number.ensures i ∷ c.words-5.ensures i ∷ c.number-2.ensures i ∷ c.words-6.ensures i ∷ [] in
    subst (λ (ps : List Part). OnOk c.comment.result (c.comment.new.self.options ≡ c.args.notes.now.options ++ options_spelling (comment ps)))
    same c.comment.ensures.options

pub returns-clause-few : goal.returns-clause-few
returns-clause-few c =
    let totals = c.args.totals.now in
    let same : c.words.result ∷ c.count_of.result ∷ c.words-2.result ∷ c.count_of-2.result ∷ c.words-3.result ∷ c.count_of-3.result ∷ c.words-4.result
    ∷ c.number.result ∷ c.words-5.result ∷ c.number-2.result ∷ c.words-6.result ∷ []
    ≡ Words (codes "run of script: ") ∷ Count totals.events (codes "event") ∷ Words (codes ", ") ∷ Count totals.flights (codes "flight") ∷ Words (codes ", ")
    ∷ Count totals.sends (codes "send") ∷ Words (codes ", ") ∷ Number totals.ups ∷ Words (codes " handed up, ") ∷ Number totals.forged
    ∷ Words (codes " forged") ∷ []
    = λ i. c.words.ensures i ∷ c.count_of.ensures i ∷ c.words-2.ensures i ∷ c.count_of-2.ensures i ∷ c.words-3.ensures i ∷ c.count_of-3.ensures i
    ∷ c.words-4.ensures i ∷ c.number.ensures i ∷ c.words-5.ensures i ∷ c.number-2.ensures i ∷ c.words-6.ensures i ∷ [] in
    subst (λ (ps : List Part). AreFew 1 (comment ps)) same c.comment.ensures.few
