-- What it is for a node to receive a frame: it is accepted or refused, and one that was accepted is heard.
use Rattle.std.specs.Prelude.{◌≡◌, Result, Ok, Err, IfSome, IsSome}
use Rattle.plc_base.specs.declared.out_frame.Out.{Out}
use Rattle.node_rules.specs.Accepted.{Accepted}
use Rattle.node_rules.specs.declared.refusal.Dropped.{Dropped}
use Rattle.node_rules.specs.declared.refusal.Dropped.TheVariants as drops
use Rattle.node_rules.specs.declared.refusal.FrameRefusal.{FrameRefusal}
use Rattle.node_rules.specs.declared.refusal.FrameRefusal.TheVariants as frames
use Rattle.node_rules.specs.declared.refusal.Unheard.{Unheard}
use Rattle.node_rules.specs.declared.refusal.Unheard.TheVariants as unheard
use Rattle.node_rules.specs.CarriedPlans.{Carries, nothing}
use Rattle.node_rules.specs.Plans.{Plan}
use Rattle.node_rules.specs.States.{State}

-- why a frame was not heard that was not accepted: a halt and a write that failed are words of their own
abbrev pub why_refused : FrameRefusal → Unheard
why_refused frames.Halted = unheard.Halted
why_refused frames.Store = unheard.Store
why_refused reason = unheard.Refused reason

-- why one was not heard that was accepted
abbrev pub why_dropped : Dropped → Unheard
why_dropped drops.Store = unheard.Store
why_dropped reason = unheard.Dropped reason

-- what was heard of an accepted frame, or why it was not
abbrev pub heard_or_why : {H : Type 0} → Result H Dropped → Result H Unheard
heard_or_why (Ok heard) = Ok heard
heard_or_why (Err reason) = Err (why_dropped reason)

-- A frame that was accepted is heard by its rule, at a node that is not halted.
pub record HearsAccepted {M H : Type 0} (rule : M → Plan M (Result H Dropped)) (mid : State M) (result : Result H Unheard) (out : Out)
    (new : State M) : Type 0 where
  pub running : IsSome mid.memory
  pub heard : Result H Dropped
  pub result_is : result ≡ heard_or_why heard
  pub carries : IfSome mid.memory (λ m. Carries mid (rule m) heard out new)

-- what comes after a frame was accepted, or refused: then nothing is given out, and nothing changes any more
abbrev pub FollowsAccepting : {M H : Type 0} → (Accepted → M → Plan M (Result H Dropped)) → Result Accepted FrameRefusal → State M → Result H Unheard → Out
    → State M → Type 0
FollowsAccepting hears (Ok got) mid result out new = HearsAccepted (hears got) mid result out new
FollowsAccepting hears (Err reason) mid result out new = (result ≡ Err (why_refused reason)) × (out ≡ nothing) × (new ≡ mid)

-- A frame was accepted or refused, as the rule of accepting says, and then what follows was done.
pub record Receives {M H : Type 0} (accepts : Plan M (Result Accepted FrameRefusal)) (hears : Accepted → M → Plan M (Result H Dropped)) (old : State M)
    (result : Result H Unheard) (out : Out) (new : State M) : Type 0 where
  pub answer : Result Accepted FrameRefusal
  pub mid : State M
  pub accepted : Carries old accepts answer nothing mid
  pub follows : FollowsAccepting hears answer mid result out new
