-- The law, by what each event keeps.
use Rattle.line_laws.proofs.FurtherStates.{every_issued_stood}
use Rattle.line_laws.proofs.laws.every_issued_key_stood.Goals as goal

pub returns : goal.returns
returns c = every_issued_stood
