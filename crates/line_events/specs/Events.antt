-- Which events lines of a script can say. Whether their nodes and flights are there is another matter.
use Rattle.std.specs.Prelude.{◌≡◌, ℕ, ◌^◌, ◌<◌, ◌≤◌, List, length, All}
use Rattle.plc_base.specs.declared.address.Eui.{Eui}
use Rattle.plc_base.specs.declared.key.Key.{Key}
use Rattle.line_events.specs.declared.event.Event.{Event}
use Rattle.line_events.specs.declared.event.Event.TheVariants.{Coordinator, Meter, Depot, Near, Counter, Number, Allow, RandomOctets as GiveRand, Join, Leave}
use Rattle.line_events.specs.declared.event.Event.TheVariants.{Send}
use Rattle.line_events.specs.declared.event.Event.TheVariants.{Deliver, Inject, Lose, Break, Tick, Restart, Cut, Rekey, Challenge, Activate, Kick, Show, Checks}
use Rattle.line_events.specs.declared.event.Event.TheVariants.{Bcast, Scan, Choose, Path}

-- this many octets
abbrev pub AreOctets : ℕ → List ℕ → Type 0
AreOctets count octets = (length octets ≡ count) × All (λ x. x < 256) octets

-- an EUI has 8 octets
abbrev pub IsEui : Eui → Type 0
IsEui eui = AreOctets 8 eui.0

-- a key has 16 octets
abbrev pub IsKey : Key → Type 0
IsKey key = AreOctets 16 key.0

-- the octets that a line has in hexadecimal
abbrev pub IsLineOctets : List ℕ → Type 0
IsLineOctets octets = (0 < length octets) × (length octets ≤ 2048) × All (λ x. x < 256) octets

-- the number of a node, of a flight, a counter, and seconds
abbrev pub IsNumber : ℕ → Type 0
IsNumber n = n < 2 ^ 32

-- the cost of a link is 1 to 255
abbrev pub IsCost : ℕ → Type 0
IsCost cost = (1 ≤ cost) × (cost ≤ 255)

-- the fields of a line are in its ranges
abbrev pub IsEvent : Event → Type 0
IsEvent (Coordinator eui key) = IsEui eui × IsKey key
IsEvent (Meter eui psk) = IsEui eui × IsKey psk
IsEvent (Depot node) = IsNumber node
IsEvent (Near a b cost) = IsNumber a × IsNumber b × IsCost cost
IsEvent (Counter node value) = IsNumber node × IsNumber value
IsEvent (Number node value) = IsNumber node × (1 ≤ value) × (value < 2 ^ 16)
IsEvent (Allow node) = IsNumber node
IsEvent (GiveRand node value) = IsNumber node × AreOctets 16 value.0
IsEvent (Join node agent) = IsNumber node × IsNumber agent
IsEvent (Leave node) = IsNumber node
IsEvent (Send from to datagram) = IsNumber from × IsNumber to × IsLineOctets datagram
IsEvent (Deliver flight node cost) = IsNumber flight × IsNumber node × IsCost cost
IsEvent (Inject node cost octets) = IsNumber node × IsCost cost × IsLineOctets octets
IsEvent (Lose flight) = IsNumber flight
IsEvent (Break node next) = IsNumber node × IsNumber next
IsEvent (Tick seconds) = (1 ≤ seconds) × (seconds ≤ 86400)
IsEvent (Restart node) = IsNumber node
IsEvent (Cut node nth keeps_new) = IsNumber node × (1 ≤ nth) × (nth ≤ 1000)
IsEvent (Rekey index key) = (index ≤ 1) × IsKey key
IsEvent (Challenge node) = IsNumber node
IsEvent (Activate node index) = IsNumber node × (index ≤ 1)
IsEvent (Kick node) = IsNumber node
IsEvent (Show node) = IsNumber node
IsEvent Checks = Unit {0}
IsEvent (Bcast node datagram) = IsNumber node × IsLineOctets datagram
IsEvent (Scan node) = IsNumber node
IsEvent (Choose node k) = IsNumber node × (1 ≤ k) × (k ≤ 16)
IsEvent (Path from to) = IsNumber from × IsNumber to

-- every event of a list is one that a line can say
abbrev pub AreEvents : List Event → Type 0
AreEvents events = All IsEvent events
