-- What a recorder keeps.
use Rattle.std.specs.Prelude.{◌≡◌, ◌≤◌, ℕ, ◌/◌, Bool, false, List, [], ◌∷◌, ◌++◌, length, map, All, AllPairs, IfSome, Option, Some, unwrap_or}
use Rattle.std.specs.BTreeMap.{BTreeMap, get}
use Rattle.script_lines.specs.Lines.{Content, content_of, NoFeed, NoFeeds, script}
use Rattle.line_air.specs.Counts.{way_cmp}
use Rattle.line_rules.specs.Worlds.{World, start}
use Rattle.line_sim.specs.Arrivals.{Arrival, arrival_at, IsCausal, InOrder}
use Rattle.line_sim.specs.Scripts.{world_after, injects, said}
use Rattle.line_sim.specs.Times.{Time, Remarked, Stepped, time_at, IsUpTo}
use Rattle.line_sim.specs.declared.order.Delivery.{Delivery}
use Rattle.line_sim.specs.declared.order.Order.{Order}

-- What the lines so far ask of the next one: the flight that came last on each way, the second of the last line but `tick`, and the time of the last remark.
pub record Ordered : Type 0 where
  pub last : List ((ℕ × ℕ) × ℕ)
  pub second : ℕ
  pub remarked : ℕ

-- What a recorder is to its callers.
pub record Recorded : Type 0 where
  pub script : List ℕ
  pub world : World
  pub order : Ordered

abbrev pub ordered_of : Order → Ordered
ordered_of o = record { last = o.last.entries; second = o.second; remarked = o.remarked }

-- of no line
abbrev pub no_order : Ordered
no_order = record { last = []; second = 0; remarked = 0 }

-- # The order of lines

-- the flight that came last from a node to another, 0 where none did
abbrev pub last_of : BTreeMap (ℕ × ℕ) ℕ → ℕ → ℕ → ℕ
last_of last from to = unwrap_or (get way_cmp last (from, to)) 0

-- an arrival that is no later than the last of its way, and one that is no earlier
abbrev pub HasCome : Order → Arrival → Type 0
HasCome o a = (from : ℕ) → a.sender ≡ Some from → a.flight ≤ last_of o.last from a.node

abbrev pub MayCome : Order → Arrival → Type 0
MayCome o a = (from : ℕ) → a.sender ≡ Some from → last_of o.last from a.node ≤ a.flight

-- a time that has passed, and one that may come
abbrev pub HasPassed : Order → Time → Type 0
HasPassed o (Remarked a) = (a ≤ o.remarked) × (a / 1000 ≤ o.second)
HasPassed o (Stepped a) = a ≤ o.second

abbrev pub MayPass : Order → Time → Type 0
MayPass o (Remarked a) = (o.remarked ≤ a) × (o.second ≤ a / 1000)
MayPass o (Stepped a) = o.second ≤ a

-- What has come and passed stays so.
pub record Grows (o p : Order) : Type 0 where
  pub last : (from to : ℕ) → last_of o.last from to ≤ last_of p.last from to
  pub second : o.second ≤ p.second
  pub remarked : o.remarked ≤ p.remarked

-- A flight of a node comes to another, no earlier than the last that came this way, and is the last then.
pub record Brings (from : ℕ) (c : Delivery) (o p : Order) : Type 0 where
  pub apart : from ≡ c.node → ⊥
  pub may_come : last_of o.last from c.node ≤ c.flight
  pub has_come : c.flight ≤ last_of p.last from c.node

-- What a line says may come next, and has come then: a flight that comes to a node, and its time.
pub record Follows (arrival : Option Arrival) (time : Option Time) (o p : Order) : Type 0 where
  pub causal : IfSome arrival IsCausal
  pub may_come : IfSome arrival (MayCome o)
  pub has_come : IfSome arrival (HasCome p)
  pub may_pass : IfSome time (MayPass o)
  pub has_passed : IfSome time (HasPassed p)

-- # The script

-- The lines are in their order, as far as it has come.
pub record AreOrdered (o : Order) (contents : List Content) : Type 0 where
  pub causal : All IsCausal (said arrival_at start contents)
  pub in_order : AllPairs InOrder (said arrival_at start contents)
  pub have_come : All (HasCome o) (said arrival_at start contents)
  pub up_to : AllPairs IsUpTo (said time_at start contents)
  pub have_passed : All (HasPassed o) (said time_at start contents)

-- A text of whole lines, each with a line feed, which leads to a world. Octets may be injected or not.
pub record IsScriptOf (may_inject : Bool) (text : List ℕ) (w : World) (o : Order) : Type 0 where
  pub whole : List (List ℕ)
  pub feeds : NoFeeds whole
  pub spelled : text ≡ script whole []
  pub fits : length text ≤ 67108864
  pub leads : world_after start (map content_of whole) ≡ Some w
  pub quiet : may_inject ≡ false → All (λ content. injects content ≡ false) (map content_of whole)
  pub ordered : AreOrdered o (map content_of whole)

-- A line, with its line feed, is appended to a text.
pub record AppendsLine (old line new : List ℕ) : Type 0 where
  pub feed : NoFeed line
  pub short : length line ≤ 4096
  pub appended : new ≡ old ++ (line ++ 10 ∷ [])
  pub fits : length new ≤ 67108864
