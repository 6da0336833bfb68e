-- The four messages of EAP-PSK, each as a relation between its values and its octets (RFC 4764, 5).
use Rattle.std.specs.Prelude.{◌≡◌, ℕ, ◌+◌, ◌*◌, List, [], ◌∷◌, ◌++◌, length}
use Rattle.byteorder.specs.Endian.{big_bytes}
use Rattle.plc_base.specs.Grant.{Granted}
use Rattle.joining_messages.specs.Grants.{grant_spelling}
use Rattle.eap_psk.specs.Keys.{mac_p, mac_s, channel}

-- what every message begins with: code, identifier, length, the type EAP-PSK, the number of the message in the two high bits of
-- an octet, RAND_S (RFC 3748, 4; RFC 4764, 5.1)
abbrev pub head : ℕ → ℕ → ℕ → ℕ → List ℕ → List ℕ
head code identifier count number rand_s = code ∷ identifier ∷ big_bytes 2 count ++ (0x2F ∷ 64 * number ∷ rand_s)

-- the plain text of the third message: success, an extension follows; the extension's type; the grant's parameters
abbrev pub granting_text : Granted → List ℕ
granting_text grant = 0xA0 ∷ 2 ∷ grant_spelling grant

-- the plain text of the fourth message: success
abbrev pub success_text : List ℕ
success_text = 0x80 ∷ []

-- a request from the server (RFC 4764, 5.1)
abbrev pub First : ℕ → List ℕ → List ℕ → List ℕ → Type 0
First identifier rand_s id_s packet = packet ≡ head 1 identifier 30 0 rand_s ++ id_s

-- a response under AK (RFC 4764, 5.2)
abbrev pub Second : List ℕ → ℕ → List ℕ → List ℕ → List ℕ → List ℕ → List ℕ → Type 0
Second ak identifier rand_s rand_p id_s id_p packet =
    packet ≡ head 2 identifier 62 1 rand_s ++ (rand_p ++ (mac_p ak id_p id_s rand_s rand_p ++ id_p))

-- the third message's header, which the channel's tag covers: of a text of this many octets
abbrev pub third_head : ℕ → List ℕ → ℕ → List ℕ
third_head identifier rand_s count = head 1 identifier (58 + count) 2 rand_s

-- a request under AK and TEK, with the plain text of its channel (RFC 4764, 5.3)
abbrev pub Third : List ℕ → List ℕ → ℕ → List ℕ → List ℕ → List ℕ → List ℕ → List ℕ → Type 0
Third ak tek identifier rand_s rand_p id_s text packet =
    packet ≡ third_head identifier rand_s (length text)
    ++ (mac_s ak id_s rand_p ++ channel tek 0 (third_head identifier rand_s (length text)) text)

-- the fourth message's header
abbrev pub fourth_head : ℕ → List ℕ → List ℕ
fourth_head identifier rand_s = head 2 identifier 43 3 rand_s

-- a response under TEK (RFC 4764, 5.4)
abbrev pub Fourth : List ℕ → ℕ → List ℕ → List ℕ → Type 0
Fourth tek identifier rand_s packet =
    packet ≡ fourth_head identifier rand_s ++ channel tek 1 (fourth_head identifier rand_s) success_text
