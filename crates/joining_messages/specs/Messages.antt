-- What joining messages are, and the one spelling of each.
use Rattle.std.specs.Prelude.{◌≡◌, ◌<◌, ◌≤◌, ◌^◌, ℕ, List, [], ◌∷◌, ◌++◌, length, ⊤}
use Rattle.joining_messages.specs.declared.message.JoinMessage.{JoinMessage}
use Rattle.joining_messages.specs.declared.message.JoinBody.{JoinBody}
use Rattle.joining_messages.specs.declared.message.JoinBody.TheVariants.{Join, Accept, Challenge, Decline, Kick, Activate}

-- the bodies, by kind
abbrev pub IsBody : JoinBody → Type 0
IsBody (Join eap) = length eap ≤ 128
IsBody (Accept identifier) = identifier < 2 ^ 8
IsBody (Challenge eap) = (0 < length eap) × (length eap ≤ 128)
IsBody Decline = ⊤
IsBody Kick = ⊤
IsBody (Activate index) = index ≤ 1

-- what the types of a body's parts leave open
abbrev pub IsAllowed : JoinBody → Type 0
IsAllowed (Join eap) = ⊤
IsAllowed (Accept identifier) = ⊤
IsAllowed (Challenge eap) = 0 < length eap
IsAllowed Decline = ⊤
IsAllowed Kick = ⊤
IsAllowed (Activate index) = index ≤ 1

abbrev pub code_of : JoinBody → ℕ
code_of (Join eap) = 1
code_of (Accept identifier) = 2
code_of (Challenge eap) = 3
code_of Decline = 4
code_of Kick = 5
code_of (Activate index) = 6

-- what stands after the EUI: of an acceptance an EAP success (RFC 3748, 4.2)
abbrev pub rest_of : JoinBody → List ℕ
rest_of (Join eap) = eap
rest_of (Accept identifier) = 3 ∷ identifier ∷ 0 ∷ 4 ∷ []
rest_of (Challenge eap) = eap
rest_of Decline = []
rest_of Kick = []
rest_of (Activate index) = index ∷ []

-- how many octets stand there
abbrev pub rest_length : JoinBody → ℕ
rest_length (Join eap) = length eap
rest_length (Accept identifier) = 4
rest_length (Challenge eap) = length eap
rest_length Decline = 0
rest_length Kick = 0
rest_length (Activate index) = 1

abbrev pub IsMessage : JoinMessage → Type 0
IsMessage message = (length message.eui.0 ≡ 8) × IsBody message.body

abbrev pub spelling : JoinMessage → List ℕ
spelling message = code_of message.body ∷ message.eui.0 ++ rest_of message.body

-- the octets are the message's, all of them
abbrev pub Spells : JoinMessage → List ℕ → Type 0
Spells message octets = IsMessage message × (octets ≡ spelling message)
