-- The tags that name the pieces of datagrams.
use Rattle.std.specs.Prelude.{◌≡◌, ℕ, ◌<◌, ◌≤◌, All, AllPairs, List, length, Some, Ok}
use Rattle.std.specs.FinMap.{get}
use Rattle.line_rules.specs.Runs.{Entry, sends, IsLineRun}
use Rattle.line_rules.specs.Worlds.{World, Sending, node_at}
use Rattle.node_rules.specs.Ciphers.{Ciphers}
use Rattle.node_rules.specs.Memory.{Node}
use Rattle.node_rules.specs.RestartStates.{tag_in}
use Rattle.line_laws.specs.Laws.{FlightsAreOctets}
use Rattle.line_laws.specs.Owed.{KeepsRanges}

-- of two datagrams of one node that are cut into pieces the later one has the higher tag
abbrev pub TagRises : Sending → Sending → Type 0
TagRises s t = s.from ≡ t.from → 375 < length s.datagram → 375 < length t.datagram → s.tag < t.tag

-- so it is of all sends of a run
abbrev pub TagsRise : List Entry → Type 0
TagsRise entries = AllPairs TagRises (sends entries)

-- so it is of every run, forged or not
abbrev pub EveryTagRises : Type 0
EveryTagRises =
    (ciphers : Ciphers) → KeepsRanges ciphers → (entries : List Entry) → IsLineRun ciphers entries
    → FlightsAreOctets entries → TagsRise entries

-- no datagram that was sent is empty
abbrev pub SendsHaveOctets : List Entry → Type 0
SendsHaveOctets entries = All (λ (s : Sending). 0 < length s.datagram) (sends entries)

-- so it is of every run, forged or not, whatever the ciphers are
abbrev pub EverySendHasOctets : Type 0
EverySendHasOctets = (ciphers : Ciphers) (entries : List Entry) → IsLineRun ciphers entries → SendsHaveOctets entries

-- # What holds of them in a world

-- the cut datagrams of a node have tags below this one
abbrev pub IsUnder : ℕ → ℕ → Sending → Type 0
IsUnder number tag s = s.from ≡ number → 375 < length s.datagram → s.tag < tag

-- The tag that a node's records give is above those of its sends, and no higher than the count of events.
pub record TagOf (sent : List Sending) (number bound : ℕ) (x : Node) : Type 0 where
  pub tag : ℕ
  pub is : tag_in (get x.store.records 4) ≡ Ok tag
  pub few : tag ≤ bound
  pub under : All (IsUnder number tag) sent

pub record TagsOk (w : World) (sent : List Sending) : Type 0 where
  pub nodes : (number : ℕ) (x : Node) → node_at w number ≡ Some x → TagOf sent number w.events x
  pub homes : All (λ (s : Sending). s.from < length w.nodes) sent
  pub pairs : AllPairs TagRises sent
