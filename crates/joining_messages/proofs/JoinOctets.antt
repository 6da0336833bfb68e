-- Joining messages and grants of octets spell octets, and what is read of octets is octets.
use Rattle.std.proofs.Common.{◌≡◌, Bool, true, false, ℕ, ◌<◌, List, [], ◌++◌, length, Option, Some, None, subst, arith}
use Rattle.std.specs.Prelude.{IfSome, if◌then◌else◌, ◌==◌}
use Rattle.std.proofs.lemmas.Option.{same_Some}
use Rattle.std.proofs.Math.Seq.{take-append_seam, drop-append_seam}
use Rattle.std.proofs.lemmas.List.Elements.{All-tail, All-take, All-drop}
use Rattle.plc_base.specs.Fields.{AreOctets, octet, two}
use Rattle.plc_base.proofs.Places.{octet_low}
use Rattle.plc_base.specs.declared.key.Key.{Key}
use Rattle.plc_base.proofs.OctetLists.{part_octets, Spelt, front, both, none, puts, joins, big_spelt}
use Rattle.joining_messages.specs.declared.message.JoinBody.{JoinBody}
use Rattle.joining_messages.specs.declared.message.JoinBody.TheVariants.{Join, Accept, Challenge, Decline, Kick, Activate}
use Rattle.joining_messages.specs.Messages.{code_of, rest_of, spelling}
use Rattle.joining_messages.specs.Grants.{key_then, is_parameter_list}
use Rattle.joining_messages.specs.Reader.{key_at, granted_in, grant_in}
use Rattle.joining_messages.specs.Laws.{JoinSpellingsAreOctets, ReadJoinsHaveOctets, GrantSpellingsAreOctets, ReadGrantsHaveOctets, GrantHasOctets}
use Rattle.joining_messages.proofs.Readings.{join_spelled}

abbrev IsOctet : ℕ → Type 0
IsOctet x = x < 256

-- # Messages

code_small : (b : JoinBody) → code_of b < 256
code_small (Join eap) = omega arith
code_small (Accept identifier) = omega arith
code_small (Challenge eap) = omega arith
code_small Decline = omega arith
code_small Kick = omega arith
code_small (Activate index) = omega arith

pub spelling_octets : JoinSpellingsAreOctets
spelling_octets m h = front (code_of m.body) (m.eui.0 ++ rest_of m.body) (code_small m.body) (both m.eui.0 (rest_of m.body) h.eui h.rest)

pub read_octets : ReadJoinsHaveOctets
read_octets m octets are is =
    let spelled : AreOctets (spelling m) = subst AreOctets (join_spelled m octets are is).1 are in
    let behind : AreOctets (m.eui.0 ++ rest_of m.body) = All-tail IsOctet (code_of m.body) (m.eui.0 ++ rest_of m.body) spelled in
    record {
      eui = subst AreOctets (take-append_seam m.eui.0 (rest_of m.body)) (All-take IsOctet (length m.eui.0) (m.eui.0 ++ rest_of m.body) behind);
      rest = subst AreOctets (drop-append_seam m.eui.0 (rest_of m.body)) (All-drop IsOctet (length m.eui.0) (m.eui.0 ++ rest_of m.body) behind);
    }

-- # Grants

key_octets : (index : ℕ) (key : Option Key) (rest : List ℕ) → index < 256 → IfSome key (λ k. AreOctets k.0) → AreOctets rest
    → AreOctets (key_then index key rest)
key_octets index None rest low held all = all
key_octets index (Some key) rest low held all =
    (puts {x = 3} (omega arith) (puts {x = 0x11} (omega arith) (puts low (joins (record { are = held }) (record { are = all }))))).are

pub grant_octets : GrantSpellingsAreOctets
grant_octets g h =
    let keys : Spelt (key_then 0 g.key0 (key_then 1 g.key1 [])) =
    record { are = key_octets 0 g.key0 (key_then 1 g.key1 []) (omega arith) h.key0 (key_octets 1 g.key1 [] (omega arith) h.key1 none) } in
    (puts {x = 1} (omega arith) (puts {x = 2} (omega arith)
    (joins (big_spelt 2 g.address) (puts {x = 2} (omega arith) (puts {x = 1} (omega arith) (puts h.active keys)))))).are

pub read_grant_octets : ReadGrantsHaveOctets
unfolding grant_in
read_grant_octets g octets are = by_list (is_parameter_list octets)
  where
    by_keys : (both first : Bool) → GrantHasOctets
        (if both then record { address = two 2 octets; active = octet 6 octets; key0 = key_at 10 octets; key1 = key_at 29 octets }
        else (if first then record { address = two 2 octets; active = 0; key0 = key_at 10 octets; key1 = None }
        else record { address = two 2 octets; active = octet 6 octets; key0 = None; key1 = key_at 10 octets }))
    by_keys true first = record { active = octet_low 6 octets are; key0 = part_octets 10 16 octets are; key1 = part_octets 29 16 octets are }
    by_keys false true = record { active = omega arith; key0 = part_octets 10 16 octets are; key1 = tt }
    by_keys false false = record { active = octet_low 6 octets are; key0 = tt; key1 = part_octets 10 16 octets are }

    by_list : (b : Bool) → (if b then Some (granted_in octets) else None) ≡ Some g → GrantHasOctets g
    by_list false e = absurd (cc)
    by_list true e = subst GrantHasOctets (same_Some _ _ e) (by_keys (length octets == 45) (octet 6 octets == 0))
