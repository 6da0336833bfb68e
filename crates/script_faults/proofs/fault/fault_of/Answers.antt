use Rattle.std.proofs.Common.{ap, ◌∙◌, sym, subst}
use Rattle.std.specs.Prelude.{is_some, IfSome}
use Rattle.script_faults.specs.Places.{IsPlace}
use Rattle.script_faults.proofs.Readable.{faults_are}
use Rattle.script_faults.proofs.LinePlaces.{places_are}
use Rattle.script_faults.proofs.fault.fault_of.Goals as goal

pub returns-clause-finds : goal.returns-clause-finds
returns-clause-finds c = ap is_some c.fault_in.ensures ∙ faults_are c.args.line.now

pub returns-clause-marks : goal.returns-clause-marks
returns-clause-marks c =
    subst (λ o. IfSome o (λ f. IsPlace c.args.line.now f.start f.end)) (sym c.fault_in.ensures) (places_are c.args.line.now)
