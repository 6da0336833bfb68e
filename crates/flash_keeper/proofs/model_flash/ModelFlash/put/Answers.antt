use Rattle.flash_keeper.proofs.ModelLemmas.{counted_set, counted_other}
use Rattle.flash_keeper.proofs.model_flash.ModelFlash.put.Goals as goal

pub returns-clause-count : goal.returns-clause-count
returns-clause-count c = counted_set c.args.self.now.words.items c.args.at c.args.word c.requires

pub returns-clause-counts : goal.returns-clause-counts
returns-clause-counts c = λ i apart. counted_other c.args.self.now.words.items c.args.at i c.args.word apart
