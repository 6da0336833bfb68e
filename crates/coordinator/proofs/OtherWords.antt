-- A step of the station, in the words of another call.
use Rattle.std.proofs.Common.{◌≡◌, Bool, true, false, Result, Ok, Err, refl}
use Rattle.std.specs.Prelude.{if◌then◌else◌}
use Rattle.plc_base.specs.declared.out_frame.Out.{Out}
use Rattle.node_rules.specs.Memory.{StationMemory}
use Rattle.node_rules.specs.Drafts.{Draft, Ends, alone, sealing}
use Rattle.node_rules.specs.States.{State}
use Rattle.node_rules.specs.CarriedPlans.{Carries}

-- one that was done
pub done_as : {H E F : Type 0} (ends : Ends E) (others : Ends F) (s t : State StationMemory) (d : Draft StationMemory) (u : Unit {0}) (answer : H)
    (out : Out)
    → Carries s (sealing {H = Unit {0}} alone ends d tt) (Ok u) out t
    → Carries s (sealing alone others d answer) (Ok answer) out t
done_as {H} {E} {F} ends others s t d u answer out c =
    record { done = c.done; wrote = c.wrote; answer_is = so c.done c.answer_is; out_is = c.out_is; new_is = c.new_is }
  where
    so : (done : Bool) → ◌≡◌ {A = Result (Unit {0}) E} (Ok u) (if done then Ok tt else Err ends.store)
        → ◌≡◌ {A = Result H F} (Ok answer) (if done then Ok answer else Err others.store)
    so true e = refl
    so false e = cc

-- one whose put failed
pub failed_as : {H E F : Type 0} (ends : Ends E) (others : Ends F) (s t : State StationMemory) (d : Draft StationMemory) (reason : E) (answer : H)
    (out : Out)
    → Carries s (sealing {H = Unit {0}} alone ends d tt) (Err reason) out t
    → Carries s (sealing alone others d answer) (Err others.store) out t
failed_as {H} {E} {F} ends others s t d reason answer out c =
    record { done = c.done; wrote = c.wrote; answer_is = so c.done c.answer_is; out_is = c.out_is; new_is = c.new_is }
  where
    so : (done : Bool) → ◌≡◌ {A = Result (Unit {0}) E} (Err reason) (if done then Ok tt else Err ends.store)
        → ◌≡◌ {A = Result H F} (Err others.store) (if done then Ok answer else Err others.store)
    so true e = cc
    so false e = refl
