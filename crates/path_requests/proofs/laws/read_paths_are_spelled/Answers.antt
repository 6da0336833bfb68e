use Rattle.path_requests.proofs.Readings as lemmas
use Rattle.path_requests.proofs.laws.read_paths_are_spelled.Goals as goal

pub returns : goal.returns
returns c = lemmas.paths_spelled
