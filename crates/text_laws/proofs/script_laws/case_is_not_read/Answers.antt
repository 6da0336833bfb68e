use Rattle.text_laws.proofs.OnlyLines.{case_not_read}
use Rattle.text_laws.proofs.script_laws.case_is_not_read.Goals as goal

pub returns : goal.returns
returns c = case_not_read
