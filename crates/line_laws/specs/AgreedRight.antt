-- The random values that a joining agreed on are those that the tags of its third and fourth message say.
use Rattle.std.specs.Prelude.{ℕ, All, List, IfSome}
use Rattle.plc_base.specs.declared.address.Eui.{Eui}
use Rattle.plc_base.specs.declared.tags.PairTag.{PairTag}
use Rattle.eap_psk.specs.Tags.{granting_tag, success_tag}
use Rattle.eap_psk.specs.declared.server.Agreed.{Agreed}
use Rattle.node_rules.specs.Ciphers.{Ciphers}
use Rattle.line_rules.specs.Runs.{Entry, IsLineRun}
use Rattle.line_rules.specs.Worlds.{Pairing}
use Rattle.line_laws.specs.Keyed.{Among}
use Rattle.line_laws.specs.Laws.{FlightsAreOctets}
use Rattle.line_laws.specs.Owed.{KeepsRanges}

-- The tag of the channel in which the third message brings the grant: RAND_S stands in the head that it covers, and RAND_P makes its key.
pub data SaysThird (agreed : Agreed) : PairTag → Type 0 where
  Third : (eui : Eui) (identifier : ℕ) (text : List ℕ) → SaysThird agreed (granting_tag eui identifier agreed.rand_s agreed.rand_p text)

-- The tag of the channel in which the fourth message says that the grant was taken: the same two values.
pub data SaysFourth (agreed : Agreed) : PairTag → Type 0 where
  Fourth : (eui : Eui) (identifier : ℕ) → SaysFourth agreed (success_tag eui identifier agreed.rand_s agreed.rand_p)

-- There is such a tag among some.
pub record HasTag (P : PairTag → Type 0) (tags : List PairTag) : Type 0 where
  pub tag : PairTag
  pub among : Among tag tags
  pub is : P tag

-- a meter that took its grant with these values found the third message's tag right
abbrev pub IsTakenUnder : List PairTag → Agreed → Type 0
IsTakenUnder opened agreed = HasTag (SaysThird agreed) opened

-- the coordinator that has done a joining with these values found the fourth's right
abbrev pub IsDoneUnder : List PairTag → Agreed → Type 0
IsDoneUnder opened agreed = HasTag (SaysFourth agreed) opened

-- What the history has of a joining is what the tags say that were found right in its event.
pub record IsAgreedRight (x : Entry) : Type 0 where
  pub taken : IfSome x.trace.taken (λ (p : Pairing). IsTakenUnder x.trace.opened p.agreed)
  pub done : IfSome x.trace.done (λ (p : Pairing). IsDoneUnder x.trace.opened p.agreed)

-- so it is of each event of a run, forged or not
abbrev pub EveryAgreementIsSaid : Type 0
EveryAgreementIsSaid =
    (ciphers : Ciphers) → KeepsRanges ciphers → (entries : List Entry) → IsLineRun ciphers entries
    → FlightsAreOctets entries → All IsAgreedRight entries
