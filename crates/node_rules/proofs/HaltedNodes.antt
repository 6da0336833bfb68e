-- What a halted node has, and does.
use Rattle.std.proofs.Common.{refl}
use Rattle.node_rules.specs.NodeSteps.{acts}
use Rattle.node_rules.specs.Laws.{HaltedHasNoAddress, RinglessHasNoAddress, HaltedDoesNothing}

pub halted : HaltedHasNoAddress
halted x e = (rw e refl, λ dest. rw e refl)

pub ringless : RinglessHasNoAddress
ringless x m e r = (rw (e, r) refl, λ dest. rw (e, r) refl)

pub does_nothing : {A : Type 0} → HaltedDoesNothing A
unfolding acts
does_nothing x halted plan e = rw e refl
