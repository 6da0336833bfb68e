use Rattle.std.proofs.Common.{◌++◌, codes}
use Rattle.markup.specs.Markups.{markup_text}
use Rattle.markup.specs.Parts.{heading, map_keys}
use Rattle.run_pages.specs.Pages.{links, map_card}
use Rattle.run_pages.proofs.PageText.{then}
use Rattle.run_pages.proofs.page_text.push_links.Goals as goal

pub returns : goal.returns
unfolding links
returns c =
    then c.push_map_card.result c.args.out.now.items c.push_heading.new.out.items c.push_map_card.new.out.items
    (markup_text (heading (codes "Who hears whom"))) (markup_text map_keys ++ markup_text (map_card c.args.run.now c.args.homes.now))
    c.in_ok-push_heading.ensures
    (then c.push_map_card.result c.push_heading.new.out.items c.push_map_keys.new.out.items c.push_map_card.new.out.items
    (markup_text map_keys) (markup_text (map_card c.args.run.now c.args.homes.now)) c.in_ok-push_map_keys.ensures c.push_map_card.ensures)
