-- Both ends of a joining agree on its grant: what the coordinator sent out, the meter takes, and this joining alone the coordinator has done.
use Rattle.std.specs.Prelude.{◌≡◌, ℕ, false, List, [], ◌∷◌, ◌++◌, IfSome, Some}
use Rattle.plc_base.specs.Grant.{Granted}
use Rattle.plc_base.specs.declared.address.Eui.{Eui}
use Rattle.eap_psk.specs.Messages.{granting_text}
use Rattle.eap_psk.specs.Tags.{granting_tag}
use Rattle.eap_psk.specs.declared.server.Agreed.{Agreed}
use Rattle.group_keys.specs.KeyBook as books
use Rattle.line_events.specs.declared.event.Answer.TheVariants as answers
use Rattle.node_rules.specs.Ciphers.{network}
use Rattle.node_rules.specs.Memory.{Memory, Node}
use Rattle.line_rules.specs.Runs.{Entry, IsLineRun}
use Rattle.line_rules.specs.Steps.{issued_by}
use Rattle.line_rules.specs.Worlds.{Pairing, node_at}
use Rattle.line_laws.specs.Keyed.{Among}

-- The event in which the coordinator sent a grant out to a meter: it is answered Keyed, the keys of this grant are those that it issues, to this meter, and
-- the tag of its third message is over the grant, with its address, its keys and its active index, and over both random values.
pub record IsKeying (z : Entry) (eui : Eui) (agreed : Agreed) (granted : Granted) : Type 0 where
  pub answer : z.trace.happenings.answer ≡ answers.Keyed
  pub issued : z.trace.issued ≡ issued_by eui granted
  pub identifier : ℕ
  pub made : Among (granting_tag eui identifier agreed.rand_s agreed.rand_p (granting_text granted)) z.trace.made

-- A meter takes the grant that was sent out to it before, with the same random values: it is the ring that the meter holds after this event.
pub record IsTakenAsSent (before : List Entry) (y : Entry) (taken : Pairing) : Type 0 where
  pub node : Node
  pub there : node_at y.after taken.node ≡ Some node
  pub memory : Memory
  pub runs : node.memory ≡ Some memory
  pub granted : Granted
  pub ring : memory.station.ring ≡ Some granted
  pub eui : Eui
  pub named : books.eui_number eui ≡ books.eui_number node.eui
  pub keying : Entry
  pub earlier : Among keying before
  pub sent : IsKeying keying eui taken.agreed granted

-- A joining that is done was taken before, by that meter, with the same random values, and as it was sent out before that.
pub record IsDoneAsTaken (before : List Entry) (done : Pairing) : Type 0 where
  pub earlier : List Entry
  pub taking : Entry
  pub later : List Entry
  pub split : before ≡ earlier ++ taking ∷ later
  pub taken : taking.trace.taken ≡ Some done
  pub as_sent : IsTakenAsSent earlier taking done

-- so it is of each event before the first forged one
abbrev pub AgreeOnGrantsAfter : List Entry → List Entry → Type 0
AgreeOnGrantsAfter before [] = Unit {0}
AgreeOnGrantsAfter before (x ∷ xs) =
    x.trace.happenings.forged ≡ false
    → IfSome x.trace.taken (IsTakenAsSent before x) × IfSome x.trace.done (IsDoneAsTaken before) × AgreeOnGrantsAfter (before ++ x ∷ []) xs

-- so it is of every run of the network
abbrev pub EveryJoiningAgreesOnItsGrant : Type 0
EveryJoiningAgreesOnItsGrant = (entries : List Entry) → IsLineRun network entries → AgreeOnGrantsAfter [] entries
