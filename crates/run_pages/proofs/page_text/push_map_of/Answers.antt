use Rattle.run_pages.specs.Pages.{map_of}
use Rattle.run_pages.proofs.page_text.push_map_of.Goals as goal

pub returns : goal.returns
unfolding map_of
returns c = rw (← c.run.view_is) c.push_map.ensures
