use Rattle.std.proofs.Common.{codes}
use Rattle.markup.specs.Markups.{markup_text}
use Rattle.markup.specs.Parts.{heading}
use Rattle.run_pages.specs.Pages.{card, whole}
use Rattle.run_pages.proofs.PageText.{then}
use Rattle.run_pages.proofs.page_text.push_whole.Goals as goal

pub returns : goal.returns
unfolding whole
returns c =
    then c.push_card.result c.args.out.now.items c.push_heading.new.out.items c.push_card.new.out.items
    (markup_text (heading (codes "The whole run in order"))) (markup_text (card c.args.run.now c.args.events.now)) c.in_ok-push_heading.ensures
    c.push_card.ensures
