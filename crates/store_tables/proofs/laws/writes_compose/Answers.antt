use Rattle.store_tables.proofs.WritesLemmas.{wrote_append, wrote_append_stop}
use Rattle.store_tables.proofs.laws.writes_compose.Goals as goal

pub returns-clause-compose : goal.returns-clause-compose
returns-clause-compose c = wrote_append

pub returns-clause-stop : goal.returns-clause-stop
returns-clause-stop c = wrote_append_stop
