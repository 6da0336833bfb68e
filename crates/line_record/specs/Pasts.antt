-- What nodes were over a run, and which way their frames to the coordinator go.
use Rattle.std.specs.Prelude.{ℕ, ◌-◌, ◌==◌, Bool, true, false, List, [], ◌∷◌, ◌++◌, length, slice_get, slice_set, Option, None, Some, if◌then◌else◌}
use Rattle.node_rules.specs.declared.shown.Shown.{Shown}
use Rattle.node_rules.specs.declared.shown.ShownRoute.{ShownRoute}
use Rattle.line_record.specs.declared.mode.Mode.{Mode}
use Rattle.line_record.specs.declared.mode.Mode.TheVariants as modes
use Rattle.line_record.specs.declared.past.Change.{Change}

-- # What a node is

abbrev pub key_mode : ℕ → Mode
key_mode index = if index == 0 then modes.Key0 else modes.Key1

abbrev pub keyed : Option ℕ → Mode
keyed None = modes.Out
keyed (Some index) = key_mode index

abbrev pub joined : Option ℕ → Option ℕ → Mode
joined None active = modes.Out
joined (Some address) active = keyed active

-- by what it shows
abbrev pub mode_of : Shown → Mode
mode_of shown = if shown.halted then modes.Halted else joined shown.address shown.active

-- # When that changed

abbrev pub is_same : Mode → Mode → Bool
is_same modes.Out modes.Out = true
is_same modes.Key0 modes.Key0 = true
is_same modes.Key1 modes.Key1 = true
is_same modes.Halted modes.Halted = true
is_same mode other = false

abbrev pub is_mode : Option Change → Mode → Bool
is_mode None mode = false
is_mode (Some change) mode = is_same change.mode mode

-- with what a node is after an event
abbrev pub changed : ℕ → Mode → List Change → List Change
changed event mode changes =
    if is_mode (slice_get changes (length changes - 1)) mode then changes else changes ++ (record { event = event; mode = mode } ∷ [])

-- # The way to the coordinator

-- the address of the next hop of the valid route to the coordinator, whose address is 0
abbrev pub next_hop_in : List ShownRoute → Option ℕ
next_hop_in [] = None
next_hop_in (route ∷ routes) = if route.dest == 0 then route.next else next_hop_in routes

-- # Nodes

pub record NodePast : Type 0 where
  -- its changes, in their order
  pub changes : List Change
  -- the address of its next hop to the coordinator, by what it showed last
  pub next_hop : Option ℕ

-- that of a node of which nothing is known so far
abbrev pub no_past : NodePast
no_past = record { changes = []; next_hop = None }

-- with what it shows after an event
abbrev pub past_after : ℕ → Shown → NodePast → NodePast
past_after event shown past =
    record { changes = changed event (mode_of shown) past.changes; next_hop = next_hop_in shown.routes }

abbrev pub looked_by : Option NodePast → ℕ → ℕ → Shown → List NodePast → List NodePast
looked_by None node event shown pasts = pasts
looked_by (Some past) node event shown pasts = slice_set pasts node (past_after event shown past)

-- with what a node shows after an event
abbrev pub looked : ℕ → ℕ → Shown → List NodePast → List NodePast
looked node event shown pasts = looked_by (slice_get pasts node) node event shown pasts

abbrev pub past_or_none : Option NodePast → NodePast
past_or_none None = no_past
past_or_none (Some past) = past

abbrev pub changes_at : List NodePast → ℕ → List Change
changes_at pasts node = (past_or_none (slice_get pasts node)).changes

abbrev pub next_hop_at : List NodePast → ℕ → Option ℕ
next_hop_at pasts node = (past_or_none (slice_get pasts node)).next_hop
