-- What path messages are, and the one spelling of each.
use Rattle.std.specs.Prelude.{◌≡◌, ◌≤◌, ℕ, true, false, List, ◌∷◌, ◌++◌, length}
use Rattle.byteorder.specs.Endian.{big_bytes}
use Rattle.plc_base.specs.Addresses.{IsAddress}
use Rattle.path_requests.specs.declared.message.PathMessage.{PathMessage}
use Rattle.path_requests.specs.declared.message.PathMessage.TheVariants.{Ask, Tell}
use Rattle.path_requests.specs.Walks.{has, is_walk, walk_octets}

-- The messages, by kind. The target of an ask is not in its walk.
abbrev pub IsPath : PathMessage → Type 0
IsPath (Ask target walk) =
    IsAddress target × (1 ≤ length walk) × (length walk ≤ 15) × (is_walk walk ≡ true) × (has target walk ≡ false)
IsPath (Tell walk) = (2 ≤ length walk) × (length walk ≤ 16) × (is_walk walk ≡ true)

-- the one spelling of each
abbrev pub path_spelling : PathMessage → List ℕ
path_spelling (Ask target walk) = 1 ∷ big_bytes 2 target ++ (length walk ∷ walk_octets walk)
path_spelling (Tell walk) = 2 ∷ length walk ∷ walk_octets walk

-- the octets are the message's, all of them
abbrev pub SpellsPath : PathMessage → List ℕ → Type 0
SpellsPath message octets = IsPath message × (octets ≡ path_spelling message)
