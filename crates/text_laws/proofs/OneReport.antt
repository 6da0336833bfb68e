-- A text that begins with a line begins with no other line, so lines and lists of them have texts of their own.
use Rattle.std.proofs.Common.{◌≡◌, ℕ, List, [], ◌∷◌, ◌++◌, refl, sym, ap, ◌∙◌}
use Rattle.std.proofs.lemmas.List.Elements.{All-head, All-tail}
use Rattle.text_laws.specs.ReportLines.{ReportLine, IsReportLine, line_text, line_words, report_text}
use Rattle.text_laws.specs.Laws.{OneLineForAText, OneReportForAText}
use Rattle.text_laws.proofs.WordLists.{no_text, same_words}
use Rattle.text_laws.proofs.LinesRead.{line_in, read_back}

same_line : (l m : ReportLine) (a b : List ℕ) → IsReportLine l → IsReportLine m → line_text l ++ a ≡ line_text m ++ b → (l ≡ m) × (a ≡ b)
unfolding line_text
same_line l m a b il im is =
    let first = read_back l il in
    let second = read_back m im in
    let words = same_words (line_words l) (line_words m) a b first.plain second.plain (first.some ∙ sym second.some) is in
    (sym first.back ∙ ap line_in words.0 ∙ second.back, words.1)

pub one_line : OneLineForAText
one_line l m il im is = (same_line l m [] [] il im (ap (λ (text : List ℕ). text ++ []) is)).0

-- no line is without a text
some_text : (l : ReportLine) (a : List ℕ) → IsReportLine l → [] ≡ line_text l ++ a → ⊥
unfolding line_text
some_text l a il is = no_text (line_words l) a (read_back l il).some is

pub one_report : OneReportForAText
unfolding report_text
one_report [] [] il im is = refl
one_report [] (m ∷ ms) il im is = absurd (some_text m (report_text ms) (All-head IsReportLine m ms im) is)
one_report (l ∷ ls) [] il im is = absurd (some_text l (report_text ls) (All-head IsReportLine l ls il) (sym is))
one_report (l ∷ ls) (m ∷ ms) il im is =
    let both = same_line l m (report_text ls) (report_text ms) (All-head IsReportLine l ls il) (All-head IsReportLine m ms im) is in
    let more = one_report ls ms (All-tail IsReportLine l ls il) (All-tail IsReportLine m ms im) both.1 in
    λ i. both.0 i ∷ more i
