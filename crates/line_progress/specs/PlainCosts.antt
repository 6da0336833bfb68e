-- What a frame without a seal costs a node at most that finds no pair tag right in it: such a frame anybody can make, who has no key.
use Rattle.std.specs.Prelude.{◌≡◌, ◌⊎◌, ◌≤◌, ℕ, true, false, List, [], ◌∷◌, ◌++◌, drop, length, Option, Ok, Err}
use Rattle.plc_base.specs.declared.address.Eui.{Eui}
use Rattle.group_keys.specs.KeyBook as books
use Rattle.node_rules.specs.Acceptance.{accept}
use Rattle.node_rules.specs.Accepted.{Accepted}
use Rattle.node_rules.specs.Coordinators.{CoordinatorIdentity, hear_coordinator, sessions_full, with_session}
use Rattle.node_rules.specs.Frames.{Arrived}
use Rattle.node_rules.specs.Memory.{CoordinatorSession, Memory, StationMemory}
use Rattle.node_rules.specs.Meters.{Identity, hear_meter}
use Rattle.node_rules.specs.Plans.{Plan, resting}
use Rattle.node_rules.specs.declared.heard.Path.{Path}
use Rattle.node_rules.specs.declared.heard.Path.TheVariants as paths
use Rattle.node_rules.specs.declared.refusal.FrameRefusal.TheVariants as refusals

-- the frame came without a seal: up to an agent, or down to a node
abbrev pub HasNoSeal : Path → Type 0
HasNoSeal (paths.Sealed from all key) = ⊥
HasNoSeal (paths.Up from) = Unit {0}
HasNoSeal (paths.Down from) = Unit {0}

-- # What is left

-- the list is as it was, or has one more at its end
abbrev pub HasOneMore : {A : Type 0} → List A → List A → Type 0
HasOneMore {A = A} xs ys = (ys ≡ xs) ⊎ ((x : A) × (ys ≡ xs ++ x ∷ []))

-- the list is as it was, or its first was taken
abbrev pub HasOneLess : {A : Type 0} → List A → List A → Type 0
HasOneLess xs ys = (ys ≡ xs) ⊎ (ys ≡ drop 1 xs)

-- Of a station its keys, marks, ranks and routes, the tag of the next datagram, and what is gathered are as they were; one body more waits at most.
pub record IsSpared (l k : StationMemory) : Type 0 where
  pub ring : k.ring ≡ l.ring
  pub marks : k.marks ≡ l.marks
  pub routing : k.routing ≡ l.routing
  pub next_tag : k.next_tag ≡ l.next_tag
  pub reassemblies : k.reassemblies ≡ l.reassemblies
  pub waiting : HasOneMore l.waiting k.waiting

-- A plan sends one frame at most and stores two records at most. It spares the station and the book, and takes one random value at most.
pub record CostsLittle {A : Type 0} (m : Memory) (p : Plan Memory A) : Type 0 where
  pub frames : length p.frames ≤ 1
  pub puts : length p.puts ≤ 2
  pub station : IsSpared m.station p.memory.station
  pub randoms : HasOneLess m.randoms p.memory.randoms
  pub book : p.memory.book ≡ m.book

-- # Sessions of the coordinator

-- A session more is open, of a meter that the book allows, and for which there was room; or it stands in the place of one of that meter.
pub record HasOpened (m n : Memory) : Type 0 where
  pub session : CoordinatorSession
  pub is : n.sessions ≡ (with_session session m).sessions
  pub allowed : books.is_allowed m.book session.server.eui ≡ true
  pub room : sessions_full m session.server.eui ≡ false

-- Nothing more waits, and one session at most was opened.
pub record OpensLittle (m n : Memory) : Type 0 where
  pub waiting : n.station.waiting ≡ m.station.waiting
  pub sessions : (n.sessions ≡ m.sessions) ⊎ HasOpened m n

-- # The laws

-- that it is accepted costs nothing
abbrev pub AcceptingPlainFramesIsFree : Type 0
AcceptingPlainFramesIsFree =
    (l : StationMemory) (own : Eui) (a : Option Arrived) (got : Accepted) → HasNoSeal got.path → (accept l own a).answer ≡ Ok got
    → accept l own a ≡ resting l (Ok got) (Err refusals.Store)

-- what a meter makes of it costs little
abbrev pub PlainFramesCostMetersLittle : Type 0
PlainFramesCostMetersLittle =
    (x : Identity) (m : Memory) (got : Accepted) (cost note now : ℕ) → HasNoSeal got.path → (hear_meter x m got cost note now).opened ≡ []
    → CostsLittle m (hear_meter x m got cost note now)

-- and what the coordinator makes of it
abbrev pub PlainFramesCostTheCoordinatorLittle : Type 0
PlainFramesCostTheCoordinatorLittle =
    (own : CoordinatorIdentity) (m : Memory) (got : Accepted) (cost note now : ℕ) → HasNoSeal got.path
    → (hear_coordinator own m got cost note now).opened ≡ []
    → CostsLittle m (hear_coordinator own m got cost note now) × OpensLittle m (hear_coordinator own m got cost note now).memory
