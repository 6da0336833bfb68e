use Rattle.std.proofs.Common.{ℕ, List, length, ap, arith}
use Rattle.line_capture.proofs.Sentences.{few_said, sentence_octets}
use Rattle.line_capture.proofs.notes.Notes.comment.Goals as goal

pub returns-in_err-say-clause-few : goal.returns-in_err-say-clause-few
returns-in_err-say-clause-few c = few_said 1 c.args.parts.now (omega arith) (omega arith) c.requires

pub comment-requires : goal.comment-requires
comment-requires c =
    let e = sentence_octets c.args.parts.now c.requires in
    omega (arith, e, ap (λ (l : List ℕ). length l) c.as_str.ensures.value, ap (λ (l : List ℕ). length l) c.in_ok-say.ensures.text)

pub returns-clause-few : goal.returns-clause-few
returns-clause-few c = few_said 1 c.args.parts.now (omega arith) (omega arith) c.requires
