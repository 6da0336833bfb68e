-- Keys are issued as the coordinator holds them, and to meters that it allows.
use Rattle.std.specs.Prelude.{◌≡◌, ◌⊎◌, ℕ, Bool, true, false, List, [], ◌∷◌, Option, Some}
use Rattle.std.specs.Option.{option_and_then, option_map_or}
use Rattle.plc_base.specs.declared.address.Eui.{Eui}
use Rattle.plc_base.specs.declared.key.Key.{Key}
use Rattle.group_keys.specs.KeyRing as ring
use Rattle.group_keys.specs.KeyBook as books
use Rattle.line_events.specs.declared.event.Event.{Event}
use Rattle.line_events.specs.declared.event.Event.TheVariants as events
use Rattle.node_rules.specs.Ciphers.{network}
use Rattle.node_rules.specs.Memory.{Memory, Node}
use Rattle.line_rules.specs.Runs.{Entry, IsLineRun}
use Rattle.line_rules.specs.Worlds.{World, Issued, node_at, start}
use Rattle.line_laws.specs.Keyed.{Each}

-- the key that the coordinator's ring has at an index
abbrev pub coordinator_key : World → ℕ → Option Key
coordinator_key w index =
    option_and_then (λ (c : Node). option_and_then (λ (m : Memory). ring.key_in_ring m.station.ring index) c.memory) (node_at w 0)

-- whether the coordinator's book allows a meter
abbrev pub is_allowed_in : World → Eui → Bool
is_allowed_in w eui =
    option_map_or (λ (c : Node). option_map_or (λ (m : Memory). books.is_allowed m.book eui) c.memory false) (node_at w 0) false

-- An event joins a meter in the workshop, which allows it too.
pub record JoinsInWorkshop (w : World) (event : Event) (eui : Eui) : Type 0 where
  pub number : ℕ
  pub depot : event ≡ events.Depot number
  pub node : Node
  pub there : node_at w number ≡ Some node
  pub is : eui ≡ node.eui

-- A key is issued as it stood before the event: at its index in the coordinator's ring, to a meter that the coordinator's book allows, or that the
-- event joins in the workshop.
pub record IsIssuedRight (w : World) (event : Event) (i : Issued) : Type 0 where
  pub held : coordinator_key w i.index ≡ Some i.key
  pub allowed : (is_allowed_in w i.eui ≡ true) ⊎ JoinsInWorkshop w event i.eui

-- so is each key that an event issues, up to the first forged event and at it
abbrev pub AreIssuedRight : World → List Entry → Type 0
AreIssuedRight w [] = Unit {0}
AreIssuedRight w (x ∷ xs) =
    Each (IsIssuedRight w x.event) x.trace.issued × (x.trace.happenings.forged ≡ false → AreIssuedRight x.after xs)

abbrev pub EveryKeyIsIssuedRight : Type 0
EveryKeyIsIssuedRight = (entries : List Entry) → IsLineRun network entries → AreIssuedRight start entries
