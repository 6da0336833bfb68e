use Rattle.reach_rules.proofs.CheckedReceptions.{frames_cleanly}
use Rattle.reach_rules.proofs.laws.frames_refuse_cleanly.Goals as goal

pub returns : goal.returns
returns g c = λ h checks_on x got now p clean. frames_cleanly h checks_on x got now p clean
