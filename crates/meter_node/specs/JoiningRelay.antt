-- Which joining messages an agent carries, and which way.
use Rattle.std.specs.Prelude.{Bool, true, false}
use Rattle.joining_messages.specs.declared.message.JoinBody.{JoinBody}
use Rattle.joining_messages.specs.declared.message.JoinBody.TheVariants.{Join, Accept, Challenge, Decline, Kick, Activate}

-- whether an agent carries a body up: a node's JOIN
abbrev pub goes_up : JoinBody → Bool
goes_up (Join eap) = true
goes_up (Accept identifier) = false
goes_up (Challenge eap) = false
goes_up Decline = false
goes_up Kick = false
goes_up (Activate index) = false

-- whether an agent carries a body down: what the coordinator says to a node that joins
abbrev pub goes_down : JoinBody → Bool
goes_down (Join eap) = false
goes_down (Accept identifier) = true
goes_down (Challenge eap) = true
goes_down Decline = true
goes_down Kick = false
goes_down (Activate index) = false
