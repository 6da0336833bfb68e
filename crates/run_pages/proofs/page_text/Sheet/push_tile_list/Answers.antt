use Rattle.markup.specs.Markups.{markup_text}
use Rattle.run_pages.specs.Pages.{count_tiles, story_tiles, tile_list}
use Rattle.run_pages.proofs.PageText.{then}
use Rattle.run_pages.proofs.page_text.Sheet.push_tile_list.Goals as goal

pub returns : goal.returns
unfolding tile_list
returns c =
    then c.push_count_tiles.result c.args.out.now.items c.push_story_tiles.new.out.items c.push_count_tiles.new.out.items
    (markup_text (story_tiles c.args.self.now)) (markup_text (count_tiles c.args.self.now)) c.in_ok-push_story_tiles.ensures
    c.push_count_tiles.ensures
