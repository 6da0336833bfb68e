use Rattle.run_pages.proofs.PageNests.{page_nests}
use Rattle.run_pages.proofs.laws.pages_are_whole.Goals as goal

pub returns : goal.returns
returns c = page_nests
