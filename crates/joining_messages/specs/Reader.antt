-- The joining message and the grant that stand in octets, as functions of the octets. `Spells` and `SpellsGrant` say which they
-- are; here they are read off, for definitions that go on from them.
use Rattle.std.specs.Prelude.{ℕ, List, length, Option, Some, None, is_some, ◌==◌, if◌then◌else◌}
use Rattle.plc_base.specs.Fields.{octet, two, part, after}
use Rattle.plc_base.specs.Grant.{Granted}
use Rattle.plc_base.specs.declared.key.Key.{Key}
use Rattle.joining_messages.specs.declared.message.JoinMessage.{JoinMessage}
use Rattle.joining_messages.specs.declared.message.JoinBody.{JoinBody}
use Rattle.joining_messages.specs.declared.message.JoinBody.TheVariants.{Join, Accept, Challenge, Decline, Kick, Activate}
use Rattle.joining_messages.specs.Faults.{join_fault}
use Rattle.joining_messages.specs.Grants.{is_parameter_list}

-- what is said, by the code
abbrev pub body_in : ℕ → List ℕ → JoinBody
body_in code octets =
    if code == 1 then Join (after 9 octets)
    else (if code == 2 then Accept (octet 10 octets)
    else (if code == 3 then Challenge (after 9 octets)
    else (if code == 4 then Decline
    else (if code == 5 then Kick
    else Activate (octet 9 octets)))))

-- the message that octets are, if they are one
unfoldable pub join_in : List ℕ → Option JoinMessage
join_in octets =
    if is_some (join_fault octets) then None
    else Some (record { eui = record { 0 = part 1 8 octets }; body = body_in (octet 0 octets) octets })

abbrev pub key_at : ℕ → List ℕ → Option Key
key_at at octets = Some (record { 0 = part at 16 octets })

-- the grant of a list with one key, which is at the active index, and of one with two
abbrev pub granted_in : List ℕ → Granted
granted_in octets =
    if length octets == 45
    then record { address = two 2 octets; active = octet 6 octets; key0 = key_at 10 octets; key1 = key_at 29 octets }
    else (if octet 6 octets == 0
    then record { address = two 2 octets; active = 0; key0 = key_at 10 octets; key1 = None }
    else record { address = two 2 octets; active = octet 6 octets; key0 = None; key1 = key_at 10 octets })

-- the grant that a parameter list gives, if octets are one
unfoldable pub grant_in : List ℕ → Option Granted
grant_in octets = if is_parameter_list octets then Some (granted_in octets) else None
