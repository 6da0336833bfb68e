-- Which runs are safe: what is handed up was sent, no valid next hops form a loop, keys were issued, and no table passes its size.
use Rattle.std.specs.Prelude.{◌≡◌, ◌≢◌, ℕ, ◌≤◌, Bool, true, false, List, [], ◌∷◌, ◌++◌, length, All, Option, Some, None, IfSome, slice_get}
use Rattle.plc_base.specs.declared.address.Eui.{Eui}
use Rattle.plc_base.specs.declared.key.Key.{Key}
use Rattle.plc_base.specs.Grant.{Granted}
use Rattle.line_events.specs.declared.event.Answer.TheVariants as answers
use Rattle.line_events.specs.declared.event.Event.{Event}
use Rattle.line_events.specs.declared.event.Event.TheVariants as events
use Rattle.node_rules.specs.Laws.{IsLoad, IsWithin}
use Rattle.node_rules.specs.Memory.{Memory, Load, Node, Role, Coordinator, Meter, node_address, node_route}
use Rattle.line_rules.specs.Worlds.{World, node_at, Sending, Issued}
use Rattle.line_events.specs.declared.happenings.Handed.{Handed}
use Rattle.line_rules.specs.Runs.{Entry, sends, ups, issued, send_at}

-- # What holds of a world

-- no routing loop: a list of nodes toward an address, each with a valid route to it whose next hop is the address of the one after it, and
-- the last one's that of the first

-- the node of a number has a valid route to an address by a next hop
abbrev pub HasRoute : World → ℕ → ℕ → ℕ → Type 0
HasRoute w dest number next = IfSomeNode (node_at w number)
  where
    IfSomeNode : Option Node → Type 0
    IfSomeNode None = ⊥
    IfSomeNode (Some x) = node_route x dest ≡ Some next

-- the node of a number has this address
abbrev pub HasAddress : World → ℕ → ℕ → Type 0
HasAddress w number address = IfSomeNode (node_at w number)
  where
    IfSomeNode : Option Node → Type 0
    IfSomeNode None = ⊥
    IfSomeNode (Some x) = node_address x ≡ Some address

-- the nodes lead on, one to the next, from this one to an address
abbrev pub Leads : World → (dest : ℕ) → (first : ℕ) → List ℕ → (end : ℕ) → Type 0
Leads w dest first [] end = HasRoute w dest first end
Leads w dest first (second ∷ rest) end =
    ((address : ℕ) × (HasRoute w dest first address × HasAddress w second address)) × Leads w dest second rest end

-- they lead back to the first one
pub record IsLoop (w : World) (dest first : ℕ) (rest : List ℕ) : Type 0 where
  pub address : ℕ
  pub leads : Leads w dest first rest address
  pub closes : HasAddress w first address

-- no valid next hops lead back to where they began
abbrev pub HasNoLoop : World → Type 0
HasNoLoop w = (dest first : ℕ) (rest : List ℕ) → IsLoop w dest first rest → ⊥

-- every key of a meter that has an address was issued to it at its index
pub record WasIssued (given : List Issued) (eui : Eui) (index : ℕ) (key : Key) : Type 0 where
  pub place : ℕ
  pub is : slice_get given place ≡ Some (record { eui = eui; index = index; key = key })

-- a key that is held was issued
abbrev pub IsIssued : List Issued → Eui → ℕ → Option Key → Type 0
IsIssued given eui index None = Unit {0}
IsIssued given eui index (Some key) = WasIssued given eui index key

-- both keys of a ring were issued
abbrev pub HoldsIssued : List Issued → Eui → Granted → Type 0
HoldsIssued given eui g = IsIssued given eui 0 g.key0 × IsIssued given eui 1 g.key1

-- a meter that has a ring holds issued keys; the coordinator issues them
abbrev pub HasIssuedKeys : List Issued → Eui → Role → Option Memory → Type 0
HasIssuedKeys given eui Coordinator memory = Unit {0}
HasIssuedKeys given eui (Meter psk) None = Unit {0}
HasIssuedKeys given eui (Meter psk) (Some m) = IfSome m.station.ring (λ g. HoldsIssued given eui g)

-- each meter holds issued keys
abbrev pub HasOnlyIssuedKeys : List Issued → World → Type 0
HasOnlyIssuedKeys given w = All (λ (x : Node). HasIssuedKeys given x.eui x.role x.memory) w.nodes

-- No table of the world passes its size, and each load that waits is one of these.
pub record IsSizedBy (Is : Load → Type 0) (w : World) : Type 0 where
  pub nodes : length w.nodes ≤ 1000
  pub memories : All (λ (x : Node). IfSome x.memory (IsWithin Is)) w.nodes

-- so it is with the loads that nodes send
abbrev pub IsSized : World → Type 0
IsSized w = IsSizedBy IsLoad w

-- # A safe run

-- What is handed up was sent to that node with the same octets: its note is the number of that send.
pub record WasSent (up : Handed) (sent : List Sending) : Type 0 where
  pub send : Sending
  pub is : send_at sent up.note ≡ Some send
  pub node : send.to ≡ up.node
  pub octets : send.datagram ≡ up.octets

-- no datagram that was handed up has this note
abbrev pub IsNew : Handed → List Handed → Type 0
IsNew up handed = All (λ (v : Handed). v.note ≢ up.note) handed

-- An event is safe after what was sent, handed up and issued before it.
pub record IsSafeAt (before : List Entry) (x : Entry) : Type 0 where
  pub up : IfSome x.trace.happenings.up (λ up. WasSent up (sends before) × IsNew up (ups before))
  pub loops : HasNoLoop x.after
  pub keys : HasOnlyIssuedKeys (issued (before ++ x ∷ [])) x.after
  pub sizes : IsSized x.after
  pub flights : x.trace.happenings.flights ≤ 24

-- each event of a history before the first forged one is safe
abbrev pub IsSafeAfter : List Entry → List Entry → Type 0
IsSafeAfter before [] = Unit {0}
IsSafeAfter before (x ∷ xs) = x.trace.happenings.forged ≡ false → IsSafeAt before x × IsSafeAfter (before ++ x ∷ []) xs

-- Every datagram that a run hands up was sent to that node with the same octets, and none is handed up twice; after each event valid
-- next hops form no loop, a joined meter holds only keys that were issued to it, and no table passes its size. It holds of each prefix of
-- a run in which no event is forged.
abbrev pub IsSafe : List Entry → Type 0
IsSafe entries = IsSafeAfter [] entries

-- # Every run, forged or not

-- no table passes its size, each load that waits is one of these, and no step sends more than 24 frames
abbrev pub IsAlwaysSizedBy : (Load → Type 0) → List Entry → Type 0
IsAlwaysSizedBy Is entries = All (λ (x : Entry). IsSizedBy Is x.after × (x.trace.happenings.flights ≤ 24)) entries

-- so it is with the loads that nodes send
abbrev pub IsAlwaysSized : List Entry → Type 0
IsAlwaysSized entries = IsAlwaysSizedBy IsLoad entries

-- a restart finds a store that has a reading
abbrev pub is_restart : Event → Bool
is_restart (events.Restart node) = true
is_restart _ = false

-- every restart is answered Restarted
abbrev pub RestartsAreAnswered : List Entry → Type 0
RestartsAreAnswered entries =
    All (λ (x : Entry). is_restart x.event ≡ true → x.trace.happenings.answer ≡ answers.Restarted) entries
