-- A meter that is allowed is in the coordinator's book, at the address that the report says.
use Rattle.std.specs.Prelude.{◌≡◌, ℕ, Bool, true, false, List, [], ◌∷◌, Option, Some, IfSome, is_some}
use Rattle.std.specs.Option.{option_and_then}
use Rattle.plc_base.specs.declared.address.Eui.{Eui}
use Rattle.plc_base.specs.declared.key.Key.{Key}
use Rattle.group_keys.specs.KeyBook as books
use Rattle.line_events.specs.declared.event.Answer.{Answer}
use Rattle.line_events.specs.declared.event.Answer.TheVariants as answers
use Rattle.line_events.specs.declared.event.Event.TheVariants as events
use Rattle.line_events.specs.declared.happenings.Admission.{Admission}
use Rattle.node_rules.specs.Ciphers.{Ciphers}
use Rattle.node_rules.specs.Memory.{Memory, Meter, Node}
use Rattle.line_rules.specs.Runs.{Entry, IsLineRun}
use Rattle.line_rules.specs.Worlds.{World, node_at, start}
use Rattle.line_laws.specs.IssuedRight.{is_allowed_in}

-- the address that the coordinator's book has for a meter
abbrev pub address_in : World → Eui → Option ℕ
address_in w eui =
    option_and_then (λ (c : Node). option_and_then (λ (m : Memory). books.address_of m.book eui) c.memory) (node_at w 0)

-- whether a meter was allowed
abbrev pub is_admitted : Answer → Bool
is_admitted answers.Allowed = true
is_admitted _ = false

-- The node of an admission is the meter that the event allows, and after it the coordinator's book allows this meter and has it at this address.
pub record IsAdmission (w : World) (x : Entry) (a : Admission) : Type 0 where
  pub event : x.event ≡ events.Allow a.node
  pub node : Node
  pub there : node_at w a.node ≡ Some node
  pub psk : Key
  pub meter : node.role ≡ Meter psk
  pub address : address_in x.after node.eui ≡ Some a.address
  pub allowed : is_allowed_in x.after node.eui ≡ true

-- An event has an admission exactly where its answer is Allowed.
pub record IsAdmittedRight (w : World) (x : Entry) : Type 0 where
  pub answered : is_some x.trace.happenings.grant ≡ is_admitted x.trace.happenings.answer
  pub right : IfSome x.trace.happenings.grant (IsAdmission w x)

-- so it is of each event of a run
abbrev pub AreAdmittedRight : World → List Entry → Type 0
AreAdmittedRight w [] = Unit {0}
AreAdmittedRight w (x ∷ xs) = IsAdmittedRight w x × AreAdmittedRight x.after xs

abbrev pub EveryAdmissionIsRight : Type 0
EveryAdmissionIsRight = (ciphers : Ciphers) (entries : List Entry) → IsLineRun ciphers entries → AreAdmittedRight start entries
