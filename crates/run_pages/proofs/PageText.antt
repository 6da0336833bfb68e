-- A page is its start, its content and its end, and a part of it what one call after the other appends.
use Rattle.std.proofs.Common.{◌≡◌, ℕ, List, ◌++◌, OnOk, Result, ap, subst, append_assoc, ◌∙◌}
use Rattle.markup.specs.Frames.{page_end, page_start, page_text}
use Rattle.markup.proofs.Pages.{ends_meet}

whole : (o0 o1 o2 title content : List ℕ) → o1 ≡ o0 ++ page_start title → o2 ≡ o1 ++ content → o2 ++ page_end ≡ o0 ++ page_text title content
whole o0 o1 o2 title content starts fills =
    ap (λ (x : List ℕ). x ++ page_end) (fills ∙ ap (λ (x : List ℕ). x ++ content) starts)
    ∙ append_assoc (o0 ++ page_start title) content page_end
    ∙ append_assoc o0 (page_start title) (content ++ page_end)
    ∙ ap (λ (x : List ℕ). o0 ++ x) (ends_meet title content)

pub page_written : {T E : Type 0} (r : Result T E) (o0 o1 o2 o3 title content : List ℕ) → o1 ≡ o0 ++ page_start title → o2 ≡ o1 ++ content
    → OnOk r (o3 ≡ o2 ++ page_end) → OnOk r (o3 ≡ o0 ++ page_text title content)
page_written r o0 o1 o2 o3 title content starts fills ends =
    subst (λ (x : List ℕ). OnOk r (o3 ≡ x)) (whole o0 o1 o2 title content starts fills) ends

-- one part, and after it another
pub then : {T E : Type 0} (r : Result T E) (o0 o1 o2 first second : List ℕ) → o1 ≡ o0 ++ first → OnOk r (o2 ≡ o1 ++ second)
    → OnOk r (o2 ≡ o0 ++ (first ++ second))
then r o0 o1 o2 first second starts ends =
    subst (λ (x : List ℕ). OnOk r (o2 ≡ x)) (ap (λ (x : List ℕ). x ++ second) starts ∙ append_assoc o0 first second) ends
