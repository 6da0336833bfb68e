-- What holds of every request and beacon, and of every list of beacons.
use Rattle.std.specs.Prelude.{◌≡◌, ◌<◌, ◌≤◌, ◌⊎◌, ℕ, List, ◌∷◌, take, Some, All, AllPairs, Any, Contains}
use Rattle.plc_base.specs.Addresses.{IsAddress}
use Rattle.plc_base.specs.Fields.{AreOctets}
use Rattle.pan_discovery.specs.declared.message.Discovery.{Discovery}
use Rattle.pan_discovery.specs.declared.agents.Agent.{Agent}
use Rattle.pan_discovery.specs.Messages.{SpellsDiscovery}
use Rattle.pan_discovery.specs.Reader.{discovery_in}
use Rattle.pan_discovery.specs.Agents.{agents_of, agents_after}
use Rattle.pan_discovery.specs.History.{Scanned, Entry, History, Begin, Clear, Beacon, begun, ended, taken_after, after_history}

-- the request or beacon that octets spell is read out of them
abbrev pub DiscoveriesAreRead : Type 0
DiscoveriesAreRead =
    (m : Discovery) (octets : List ℕ) → SpellsDiscovery m octets → discovery_in octets ≡ Some m

-- the request or beacon that is read out of octets is the one that they spell
abbrev pub ReadDiscoveriesAreSpelled : Type 0
ReadDiscoveriesAreSpelled =
    (m : Discovery) (octets : List ℕ) → AreOctets octets → discovery_in octets ≡ Some m → SpellsDiscovery m octets

-- The first 16 agents of a list with one more beacon follow from that beacon and the first 16 agents of the list: what
-- else was heard may be forgotten.
abbrev pub FirstAgentsSuffice : Type 0
FirstAgentsSuffice =
    (beacon : Agent) (heard : List Agent)
    → take 16 (agents_of (beacon ∷ heard)) ≡ agents_after beacon (take 16 (agents_of heard))

-- An agent comes before another where it is cheaper, or as cheap and of a lower address.
abbrev pub ComesBefore : Agent → Agent → Type 0
ComesBefore a b = (a.total < b.total) ⊎ ((a.total ≡ b.total) × (a.address < b.address))

-- Each agent of a list comes before all later ones, so none stands there twice; addresses have 16 bits.
abbrev pub AgentsAreInOrder : Type 0
AgentsAreInOrder =
    (heard : List Agent) → All (λ (a : Agent). IsAddress a.address) heard → AllPairs ComesBefore (agents_of heard)

-- no two agents of a list have the same address
abbrev pub AgentsAreDistinct : Type 0
AgentsAreDistinct = (heard : List Agent) → AllPairs (λ (a b : Agent). ¬ (a.address ≡ b.address)) (agents_of heard)

-- each agent of a list was heard so
abbrev pub AgentsWereHeard : Type 0
AgentsWereHeard = (heard : List Agent) → All (Contains heard) (agents_of heard)

-- The sender of each beacon of a list is an agent of it, and no dearer than by that beacon.
abbrev pub SendersAreAgents : Type 0
SendersAreAgents =
    (heard : List Agent)
    → All (λ (b : Agent). Any (λ (a : Agent). (a.address ≡ b.address) × (a.total ≤ b.total)) (agents_of heard)) heard

-- one more entry
abbrev pub entry_after : Scanned → Entry → Scanned
entry_after s Begin = begun
entry_after s Clear = ended
entry_after s (Beacon from cost link) = taken_after s from cost link

-- What a scan knows after one more entry follows from what it knew before it.
abbrev pub OneMoreEntry : Type 0
OneMoreEntry =
    (history : History) (entry : Entry) → after_history (entry ∷ history) ≡ entry_after (after_history history) entry
