-- The lines of a node that is shown.
use Rattle.std.specs.Prelude.{ℕ, ◌+◌, ◌==◌, List, [], ◌∷◌, ◌++◌, codes, Option, None, Some, if◌then◌else◌}
use Rattle.std.specs.Fmt.{decimal}
use Rattle.byteorder.specs.Endian.{big_bytes}
use Rattle.hex.specs.Hex.{encode_lower}
use Rattle.plc_base.specs.declared.key.Key.{Key}
use Rattle.node_rules.specs.declared.shown.Shown.{Shown}
use Rattle.node_rules.specs.declared.shown.ShownRoute.{ShownRoute}
use Rattle.node_rules.specs.declared.shown.ShownPeer.{ShownPeer}

-- # Words

-- a short address, as 4 digits
abbrev pub short_word : ℕ → List ℕ
short_word address = encode_lower (big_bytes 2 address)

-- the short address of a node, or - where it has none
abbrev pub address_word : Option ℕ → List ℕ
address_word None = codes "-"
address_word (Some address) = short_word address

-- the index of the key that seals, or - where there is none
abbrev pub index_word : Option ℕ → List ℕ
index_word None = codes "-"
index_word (Some index) = decimal index

-- the address of a next hop, or - where no route is valid
abbrev pub next_word : Option ℕ → List ℕ
next_word None = codes "-"
next_word (Some next) = short_word next

-- # Lines

-- node <n> <address> <active> <next counter> <last number>
unfoldable pub head_text : ℕ → Shown → List ℕ
head_text node shown =
    codes "node " ++ (decimal node
    ++ (codes " " ++ (address_word shown.address ++ (codes " " ++ (index_word shown.active ++ (codes " "
    ++ (decimal shown.next_counter ++ (codes " " ++ (decimal shown.last_number ++ codes "\n")))))))))

-- key <index> <hex>
unfoldable pub key_text : ℕ → Option Key → List ℕ
key_text index None = []
key_text index (Some key) = codes "key " ++ (decimal index ++ (codes " " ++ (encode_lower key.0 ++ codes "\n")))

-- route <dest> <number> <cost> <next>
unfoldable pub route_text : ShownRoute → List ℕ
route_text route =
    codes "route " ++ (short_word route.dest
    ++ (codes " " ++ (decimal route.number ++ (codes " " ++ (decimal route.cost ++ (codes " "
    ++ (next_word route.next ++ codes "\n")))))))

abbrev pub routes_text : List ShownRoute → List ℕ
routes_text [] = []
routes_text (route ∷ routes) = route_text route ++ routes_text routes

-- floor <class> <number>, where it is above 0
unfoldable pub floor_text : ℕ → ℕ → List ℕ
floor_text class floor =
    if floor == 0 then [] else codes "floor " ++ (decimal class ++ (codes " " ++ (decimal floor ++ codes "\n")))

-- the floors of the classes from one on
abbrev pub floors_text : ℕ → List ℕ → List ℕ
floors_text class [] = []
floors_text class (floor ∷ floors) = floor_text class floor ++ floors_text (class + 1) floors

-- peer <address> <mark>
unfoldable pub peer_text : ShownPeer → List ℕ
peer_text peer = codes "peer " ++ (short_word peer.from ++ (codes " " ++ (decimal peer.mark ++ codes "\n")))

abbrev pub peers_text : List ShownPeer → List ℕ
peers_text [] = []
peers_text (peer ∷ peers) = peer_text peer ++ peers_text peers

-- # Nodes

-- the lines of a node that is not halted
unfoldable pub running_text : ℕ → Shown → List ℕ
running_text node shown =
    head_text node shown ++ (key_text 0 shown.key0 ++ (key_text 1 shown.key1
    ++ (routes_text shown.routes ++ (floors_text 0 shown.floors ++ peers_text shown.peers))))

-- node <n> halted, or the lines of a node that is not halted
unfoldable pub node_text : ℕ → Shown → List ℕ
node_text node shown =
    if shown.halted then codes "node " ++ (decimal node ++ codes " halted\n") else running_text node shown
