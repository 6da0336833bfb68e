-- The law, by the cases of its rule.
use Rattle.line_progress.proofs.SendFates.{send_fates}
use Rattle.line_progress.proofs.laws.sends_have_fates.Goals as goal

pub returns : goal.returns
returns c = send_fates
