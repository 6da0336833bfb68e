use Rattle.std.proofs.Common.{◌≡◌, ◌++◌, OnOk, List, ap, codes, subst, ◌∙◌}
use Rattle.markup.specs.Markups.{markup_text}
use Rattle.markup.specs.Parts.{heading}
use Rattle.line_record.specs.declared.story.Story.{Story}
use Rattle.run_pages.specs.Pages.{failed_from, failed_list}
use Rattle.run_pages.proofs.PageText.{then}
use Rattle.run_pages.proofs.page_text.Sheet.push_failed_list.Goals as goal

pub returns : goal.returns
unfolding failed_list
returns c =
    then c.push_failed_of.result c.args.out.now.items c.push_heading.new.out.items c.push_failed_of.new.out.items
    (markup_text (heading (codes "What failed"))) (markup_text (failed_from c.args.self.now c.args.run.now 300 0 c.args.self.now.account.stories))
    c.in_ok-push_heading.ensures
    (subst
    (λ (x : List Story). OnOk c.push_failed_of.result
    (c.push_failed_of.new.out.items ≡ c.push_heading.new.out.items ++ markup_text (failed_from c.args.self.now c.args.run.now 300 0 x)))
    (ap (λ a. a.stories) c.account.view_is ∙ ap (λ s. s.account.stories) c.self.view_is) c.push_failed_of.ensures)
