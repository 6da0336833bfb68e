-- Which flights are live: those that the node whose address they name would still admit, by the mark that it has of their sender.
use Rattle.std.specs.Prelude.{◌≡◌, ℕ, Bool, true, false, not, ◌==◌, ◌&&◌, nat_lt, List, [], ◌∷◌, Option, Some, None}
use Rattle.std.specs.List.{list_any}
use Rattle.std.specs.Option.{option_map_or}
use Rattle.plc_base.specs.declared.address.Eui.{Eui}
use Rattle.mac_frames.specs.declared.head.MacHead.{MacHead}
use Rattle.mac_frames.specs.declared.head.MacHead.TheVariants as heads
use Rattle.mac_frames.specs.Reader.{head_in}
use Rattle.frame_counters.specs.PeerMarks as marks
use Rattle.group_keys.specs.KeyBook as books
use Rattle.node_rules.specs.Ciphers.{Ciphers}
use Rattle.node_rules.specs.Memory.{Memory, Role, Coordinator, Meter, Node}
use Rattle.node_rules.specs.RestartStates.{memory_of}
use Rattle.line_rules.specs.Forgery.{Comes, accepting}
use Rattle.line_rules.specs.Runs.{Entry, IsLineRun}
use Rattle.line_rules.specs.Steps.{memory_by}
use Rattle.line_rules.specs.Worlds.{World, Flight, node_at, start}
use Rattle.line_laws.specs.Owed.{KeepsRanges}
use Rattle.line_laws.specs.Laws.{FlightsAreOctets}
use Rattle.line_laws.specs.Places.{LiveFalls, opened_at}

-- # What a node holds

-- what a node holds in memory, and a halted one what a restart would find in its store
abbrev pub holding : Node → Option Memory
holding x = option_map_or (λ (m : Memory). Some m) x.memory (memory_by (memory_of x.role x.store.records))

abbrev pub marks_in : Option Memory → marks.Table
marks_in o = option_map_or (λ (m : Memory). m.station.marks) o []

-- the marks of a node, whose stored ones count where it is halted
abbrev pub marks_of : Node → marks.Table
marks_of x = marks_in (holding x)

-- whether marks admit a counter of a sender
abbrev pub admits : marks.Table → ℕ → ℕ → Bool
admits t from counter = option_map_or (λ (mark : ℕ). nat_lt mark counter) (marks.mark_of t from) true

-- # Addresses

abbrev pub book_in : Option Memory → books.Book
book_in o = option_map_or (λ (m : Memory). m.book) o []

-- the book of the line's coordinator
abbrev pub book_of : World → books.Book
book_of w = option_map_or (λ (c : Node). book_in (holding c)) (node_at w 0) []

abbrev pub home_by : books.Book → Role → Eui → Option ℕ
home_by b Coordinator eui = Some 0
home_by b (Meter psk) eui = books.address_of b eui

-- the address that is a node's for good, also while it has none: 0000 of the coordinator, and of a meter what the book has
abbrev pub home : books.Book → Node → Option ℕ
home b x = home_by b x.role x.eui

-- # Flights

-- a counter of a sender is past at a node that has this address, where it does not admit it any more
abbrev pub is_past : books.Book → (to from counter : ℕ) → Node → Bool
is_past b to from counter x = option_map_or (λ (a : ℕ). a == to) (home b x) false && not (admits (marks_of x) from counter)

-- a sealed frame is live until it is past; one to an address that is no node's yet is live
abbrev pub is_live : World → MacHead → Bool
is_live w (heads.Sealed ack seq pan to from counter index) = not (list_any (is_past (book_of w) to from counter) w.nodes)
is_live w (heads.Up ack version seq pan to from) = false
is_live w (heads.Down ack version seq pan to from) = false

abbrev pub live : World → Flight → Bool
live w f = is_live w (head_in f.octets)

-- # Marks rise

-- A node of a number is still there, with the same role and EUI, and admits no counter of a sender that it did not admit before.
pub record IsLater (v : World) (number : ℕ) (x : Node) : Type 0 where
  pub node : Node
  pub there : node_at v number ≡ Some node
  pub role : node.role ≡ x.role
  pub eui : node.eui ≡ x.eui
  pub marks : (from counter : ℕ) → admits (marks_of node) from counter ≡ true → admits (marks_of x) from counter ≡ true

-- so it is of each node of a world
pub record MarksRise (w v : World) : Type 0 where
  pub later : (number : ℕ) (x : Node) → node_at w number ≡ Some x → IsLater v number x

abbrev pub MarksAlwaysRise : World → List Entry → Type 0
MarksAlwaysRise w [] = Unit {0}
MarksAlwaysRise w (x ∷ xs) = MarksRise w x.after × MarksAlwaysRise x.after xs

-- in every run, forged or not, over restarts and failed writes, no node admits a counter again that it did not admit
abbrev pub EveryMarkRises : Type 0
EveryMarkRises =
    (ciphers : Ciphers) → KeepsRanges ciphers → (entries : List Entry) → IsLineRun ciphers entries
    → FlightsAreOctets entries → MarksAlwaysRise start entries

-- # No flight comes to life again

-- No flight comes to life in an event, and the flight that a node opens in it was live, and is not live any more.
pub record FlightsFall (ciphers : Ciphers) (w : World) (x : Entry) : Type 0 where
  pub falls : LiveFalls live w x.after None
  pub opened : (number : ℕ) (octets : List ℕ) (node : Node) → Comes w x.event number octets → node_at w number ≡ Some node
      → LiveFalls live w x.after (opened_at w octets (accepting ciphers node octets).answer)

-- in each event before the first forged one
abbrev pub FlightsAlwaysFall : Ciphers → World → List Entry → Type 0
FlightsAlwaysFall ciphers w [] = Unit {0}
FlightsAlwaysFall ciphers w (x ∷ xs) =
    FlightsFall ciphers w x × (x.trace.happenings.forged ≡ false → FlightsAlwaysFall ciphers x.after xs)

abbrev pub EveryFlightFalls : Type 0
EveryFlightFalls =
    (ciphers : Ciphers) → KeepsRanges ciphers → (entries : List Entry) → IsLineRun ciphers entries
    → FlightsAreOctets entries → FlightsAlwaysFall ciphers start entries
