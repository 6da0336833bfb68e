use Rattle.line_view.proofs.Paged.{page_follows}
use Rattle.line_view.proofs.PageNests.{is_page}
use Rattle.line_view.specs.PageRuns.{nothing_paged}
use Rattle.line_view.proofs.tool.page.Goals as goal

pub returns-clause-pages : goal.returns-clause-pages
returns-clause-pages g c =
    let account = c.account.ensures.accounts nothing_paged c.new.ensures page_follows in
    record { account = account; well_formed = is_page c.account.result account }
