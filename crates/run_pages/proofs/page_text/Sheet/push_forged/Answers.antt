use Rattle.std.proofs.Common.{◌≡◌, ◌++◌, ℕ, OnOk, Option, sym, subst, ◌∙◌}
use Rattle.markup.specs.Markups.{markup_text}
use Rattle.run_pages.specs.Pages.{forged_by}
use Rattle.run_pages.proofs.page_text.Sheet.push_forged.Goals as goal

pub returns : goal.returns
returns c =
    subst
    (λ (event : Option ℕ). OnOk c.push_forged_at.result
    (c.push_forged_at.new.out.items ≡ c.args.out.now.items ++ markup_text (forged_by event c.args.self.now)))
    (sym c.in-Some.is ∙ c.first_forged.ensures) c.push_forged_at.ensures
