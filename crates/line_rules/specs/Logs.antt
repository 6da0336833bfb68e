-- What stands beside the memories agrees with the stores: the log of each node is what its store gives, and where a node is halted some log
-- is.
use Rattle.std.specs.Prelude.{◌≡◌, ℕ, List, [], ◌∷◌, Option, Some, None, Ok}
use Rattle.plc_base.specs.Keeper.{Records}
use Rattle.store_tables.specs.LeadingPuts.{Reads}
use Rattle.broadcast_log.specs.Log.{Log}
use Rattle.broadcast_log.specs.Laws.{IsLogIn}
use Rattle.node_rules.specs.Accepted.{Accepted}
use Rattle.node_rules.specs.Ciphers.{Ciphers}
use Rattle.node_rules.specs.Memory.{Memory, Node}
use Rattle.node_rules.specs.Tables.{HasShortTables}
use Rattle.reach_rules.specs.ReachingNodes.{Beside}
use Rattle.reach_rules.specs.FurtherReceptions.{NeighbourCommand, command_of}
use Rattle.line_events.specs.declared.event.Event.{Event}
use Rattle.plc_base.specs.Fields.{AreOctets}
use Rattle.line_rules.specs.Forgery.{Comes, accepting}
use Rattle.line_rules.specs.Further.{line_step}
use Rattle.line_rules.specs.Worlds.{World, Trace, node_at, start}

-- the log of a node is what its records give; where it is halted some log is
abbrev pub LogIn : Log → Records → Option Memory → Type 0
LogIn log records (Some m) = IsLogIn log records
LogIn log records None = Reads IsLogIn records

-- so it is of each node, and each has something beside it
abbrev pub AreLogged : List Beside → List Node → Type 0
AreLogged [] [] = Unit {0}
AreLogged [] (x ∷ nodes) = ⊥
AreLogged (b ∷ beside) [] = ⊥
AreLogged (b ∷ beside) (x ∷ nodes) = LogIn b.log x.store.records x.memory × AreLogged beside nodes

-- so it is in a world
abbrev pub LogsKept : World → Type 0
LogsKept w = AreLogged w.beside w.nodes

-- the marks and the ranks of each node have at most as many entries as slots
abbrev pub HaveShortTables : World → Type 0
HaveShortTables w = (number : ℕ) (x : Node) (m : Memory) → node_at w number ≡ Some x → x.memory ≡ Some m → HasShortTables m.station

-- a command that a node accepts in an event is octets
abbrev pub CommandsAreOctets : Ciphers → World → Event → Type 0
CommandsAreOctets ciphers w event =
    (number : ℕ) (x : Node) (octets : List ℕ) (got : Accepted) (c : NeighbourCommand)
    → node_at w number ≡ Some x → Comes w event number octets → (accepting ciphers x octets).answer ≡ Ok got → command_of got ≡ Some c
    → AreOctets c.body

-- every event that is taken keeps it, whatever power is lost
abbrev pub LineStepsKeepLogs : Type 0
LineStepsKeepLogs =
    (ciphers : Ciphers) (w v : World) (event : Event) (d : Trace) → HaveShortTables w → CommandsAreOctets ciphers w event → LogsKept w
    → line_step ciphers w event ≡ Ok (v, d) → LogsKept v

-- and it is so before the first event
abbrev pub LogsKeptAtFirst : Type 0
LogsKeptAtFirst = LogsKept start
