-- What is said of a bad line is short.
use Rattle.std.proofs.Common.{ℕ, List, ◌<◌, ◌≤◌, ◌^◌, [], ◌∷◌, length, refl, arith}
use Rattle.std.specs.Prelude.{codes}
use Rattle.sentence_parts.specs.declared.part.Part.TheVariants.{Words, Number}
use Rattle.line_script.specs.Texts.{reason_word}
use Rattle.line_script.specs.declared.report.Reason.{Reason}
use Rattle.line_script.specs.declared.report.Reason.TheVariants as reasons
use Rattle.line_capture.proofs.Sentences.{sentence, sentence_octets, short_numbered, short_words}
use Rattle.line_view.specs.declared.bad_line.BadLine.{BadLine}
use Rattle.line_view.specs.BadLines.{bad_text}

short_reason : (reason : Reason) → length (reason_word reason) ≤ 100
short_reason reasons.Input = omega arith
short_reason reasons.Long = omega arith
short_reason reasons.Form = omega arith
short_reason reasons.Events = omega arith
short_reason reasons.Setup = omega arith
short_reason reasons.Node = omega arith
short_reason reasons.Flight = omega arith

pub bad_bound : (bad : BadLine) → bad.row < 2 ^ 64 → length (bad_text bad) ≤ 2000
unfolding bad_text
bad_bound bad h =
    let begin : List ℕ = codes "The run ends at line " in
    let middle : List ℕ = codes ", which is bad: " in
    let end : List ℕ = codes ". `line_view check` says why." in
    sentence_octets _
    (sentence (Words begin ∷ Number bad.row ∷ Words middle ∷ Words (reason_word bad.reason) ∷ Words end ∷ []) (omega arith) (
      short_words (Words begin) begin refl (omega arith),
      (
        short_numbered (Number bad.row) bad.row refl h,
        (
          short_words (Words middle) middle refl (omega arith),
          (
            short_words (Words (reason_word bad.reason)) (reason_word bad.reason) refl (short_reason bad.reason),
            (short_words (Words end) end refl (omega arith), tt),
          ),
        ),
      ),
    ))
