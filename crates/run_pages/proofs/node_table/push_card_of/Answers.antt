use Rattle.run_pages.proofs.node_table.push_card_of.Goals as goal

pub returns : goal.returns
returns c = rw (← c.run.view_is) c.push_table_card.ensures
