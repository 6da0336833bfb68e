use Rattle.path_requests.proofs.Readings as lemmas
use Rattle.path_requests.proofs.laws.paths_are_read.Goals as goal

pub returns : goal.returns
returns c = lemmas.paths_read
