-- The law that a joining that is done was taken before, with the same random values.
use Rattle.std.proofs.Common.{◌≡◌, suc, false, List, ◌++◌, Option, Some, None, Ok, Err, refl}
use Rattle.std.specs.Prelude.{IfSome}
use Rattle.line_rules.specs.Worlds.{World, Pairing}
use Rattle.line_rules.specs.Steps.{Step}
use Rattle.line_rules.specs.Runs.{one_of}
use Rattle.line_rules.specs.Agreement.{WasTaken}
use Rattle.line_laws.proofs.IssueWords.{Among, Here, Later}
use Rattle.line_laws.proofs.AgreeSteps.{Confirmed, StepAgrees, Refused, Happened}

was_taken : (done : Pairing) (taken : List Pairing) → Among done taken → WasTaken done taken
was_taken done taken (Here rest) = record { place = 0; is = refl }
was_taken done taken (Later y rest a) = let p = was_taken done rest a in record { place = suc p.place; is = p.is }

pub if_taken : (o : Option Pairing) (taken : List Pairing) → IfSome o (λ p. Among p taken) → IfSome o (λ done. WasTaken done taken)
if_taken None taken h = tt
if_taken (Some p) taken h = was_taken p taken h

abbrev pub Agreed_in : List Pairing → Step → Type 0
Agreed_in taken (Ok r) = r.1.happenings.forged ≡ false → Confirmed r.0 (taken ++ one_of r.1.taken) × IfSome r.1.done (λ p. Among p taken)
Agreed_in taken (Err fault) = Unit {0}

pub agreed : (w : World) (taken : List Pairing) (s : Step) → StepAgrees w taken s → Agreed_in taken s
agreed w taken s (Refused fault) = tt
agreed w taken s (Happened r f) = f
