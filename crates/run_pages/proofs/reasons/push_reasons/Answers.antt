use Rattle.std.proofs.Common.{codes}
use Rattle.markup.specs.Markups.{markup_text}
use Rattle.markup.specs.Parts.{heading}
use Rattle.run_pages.specs.Reasons.{reason_card, reasons}
use Rattle.run_pages.proofs.PageText.{then}
use Rattle.run_pages.proofs.reasons.push_reasons.Goals as goal

pub returns : goal.returns
unfolding reasons
returns c =
    then c.push_reason_card.result c.args.out.now.items c.push_heading.new.out.items c.push_reason_card.new.out.items
    (markup_text (heading (codes "Reasons for failure"))) (markup_text (reason_card c.args.account.now)) c.in_ok-push_heading.ensures
    c.push_reason_card.ensures
