use Rattle.std.proofs.Common.{codes}
use Rattle.markup.specs.Markups.{markup_text}
use Rattle.run_pages.specs.Pages.{content, or_words}
use Rattle.run_pages.proofs.PageText.{page_written}
use Rattle.run_pages.proofs.page_text.Sheet.push_page.Goals as goal

pub returns : goal.returns
returns c =
    page_written c.push_page_end.result c.args.out.now.items c.push_page_start.new.out.items c.push_content.new.out.items c.push_page_end.new.out.items
    (or_words c.args.self.now.title (codes "A run")) (markup_text (content c.args.self.now c.args.run.now))
    (rw (← c.self.view_is) (rw c.or_words.ensures at c.in_ok-push_page_start.ensures)) c.in_ok-push_content.ensures c.push_page_end.ensures
