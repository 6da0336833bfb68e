use Rattle.std.proofs.Common.{◌≡◌, ◌∙◌, inl, inr, true, false, length, ap}
use Rattle.flash_keeper.specs.Model.{bank_of, shown, counted}
use Rattle.flash_keeper.proofs.model_flash.ModelFlashFlashBank.erase.Goals as goal

never : false ≡ true → ⊥
never e = cc

pub returns-clause-erases : goal.returns-clause-erases
returns-clause-erases c =
    let words = c.power.ensures.words in
    let torn = c.power.ensures.torn in
    record {
      whole = λ e. absurd (never e);
      blank = λ e. absurd (never e);
      fresh = λ e. absurd (never e);
      cut = λ e. elim c.erase_partly.ensures.left [
        | inl same ↦ inl (λ i. bank_of ((same.0 ∙ words) i).items ((same.1 ∙ torn) i))
        | inr more ↦ (elim more [
          | inl all ↦ inr (inl (all.0, λ i. shown ((all.1 ∙ words) i).items, λ i. counted ((all.1 ∙ words) i).items))
          | inr blank ↦ inr (inr blank)
        ])
      ];
      size = c.erase_partly.ensures.size ∙ ap (λ w. length w.items) words;
    }
