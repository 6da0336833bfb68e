-- What a scan has heard after a history, as a property of the whole history.
use Rattle.std.specs.Prelude.{◌≡◌, ℕ, Bool, true, false, List, [], ◌∷◌, take, if◌then◌else◌}
use Rattle.pan_discovery.specs.declared.agents.Agent.{Agent}
use Rattle.pan_discovery.specs.Agents.{shown, agents_of, agents_after}

-- whether a meter scans, and the first 16 of the agents that it heard
pub record Scanned : Type 0 where
  pub scanning : Bool
  pub agents : List Agent

-- What a meter did and heard since it started: it began a scan; it ended one; it heard a beacon with its sender and the
-- cost in it, over a link of some cost.
pub data Entry : Type 0 where
  Begin : Entry
  Clear : Entry
  Beacon : (from cost link : ℕ) → Entry

-- the latest entry first
abbrev pub History : Type 0
History = List Entry

-- whether the meter scans: it began later than it last ended
abbrev pub scans : History → Bool
scans [] = false
scans (Begin ∷ past) = true
scans (Clear ∷ past) = false
scans (Beacon from cost link ∷ past) = scans past

-- what was heard since the last beginning or end, the latest first
abbrev pub agents_since : History → List Agent
agents_since [] = []
agents_since (Begin ∷ past) = []
agents_since (Clear ∷ past) = []
agents_since (Beacon from cost link ∷ past) =
    if scans past then shown from cost link ∷ agents_since past else agents_since past

-- after a history: the first 16 of all agents of what was heard
unfoldable pub after_history : History → Scanned
after_history history = record { scanning = scans history; agents = take 16 (agents_of (agents_since history)) }

-- a state that one history leads to is led on to another by one more entry
abbrev pub LeadsOn : (old : Scanned) (entry : Entry) (new : Scanned) → Type 0
LeadsOn old entry new = (history : History) → old ≡ after_history history → new ≡ after_history (entry ∷ history)

-- a scan with nothing heard, and none
abbrev pub begun : Scanned
begun = record { scanning = true; agents = [] }

abbrev pub ended : Scanned
ended = record { scanning = false; agents = [] }

-- after one more beacon
abbrev pub taken_after : Scanned → (from cost link : ℕ) → Scanned
taken_after s from cost link =
    if s.scanning then record s { agents = agents_after (shown from cost link) s.agents } else s
