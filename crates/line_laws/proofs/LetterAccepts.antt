-- What a node accepts of a flight is the letter that was spelled.
use Rattle.std.proofs.Common.{◌≡◌, ℕ, List, Some, sym, ap, ◌∙◌}
use Rattle.std.specs.Prelude.{◌==◌}
use Rattle.std.proofs.lemmas.Option.{same_Some}
use Rattle.mac_frames.specs.declared.head.MacHead.{MacHead}
use Rattle.mac_frames.specs.declared.head.MacHead.TheVariants as heads
use Rattle.mac_frames.specs.Grammar.{header}
use Rattle.mesh_header.specs.Grammar.{spelling}
use Rattle.mesh_header.specs.Reader.{unit_in}
use Rattle.node_rules.specs.declared.heard.Path.TheVariants as paths
use Rattle.node_rules.specs.Accepted.{Accepted}
use Rattle.node_rules.specs.Ciphers.{Ciphers}
use Rattle.node_rules.specs.Frames.{SealedUnit, Sealed, Arrived, arrived_with, head_of, spelled, arrived, to_all}
use Rattle.node_rules.specs.Memory.{StationMemory}
use Rattle.node_rules.specs.Ciphers.{OpensWhatItSeals}
use Rattle.line_laws.specs.SealedUnits.{IsSealedUnit}
use Rattle.line_laws.proofs.StoreMarks.{IsAdmitted}
use Rattle.line_laws.proofs.LetterSeals.{sealed_unit_arrives, sealed_unit_opens, sealed_unit_unit}

-- the fields of a sealed head
abbrev pub from_of : MacHead → ℕ
from_of (heads.Sealed ack seq pan to from counter index) = from
from_of (heads.Up ack version seq pan to from) = 0
from_of (heads.Down ack version seq pan to from) = 0

abbrev counter_of : MacHead → ℕ
counter_of (heads.Sealed ack seq pan to from counter index) = counter
counter_of (heads.Up ack version seq pan to from) = 0
counter_of (heads.Down ack version seq pan to from) = 0

abbrev pub to_of : MacHead → ℕ
to_of (heads.Sealed ack seq pan to from counter index) = to
to_of (heads.Up ack version seq pan to from) = 0
to_of (heads.Down ack version seq pan to from) = 0

-- What a node that opens a letter's octets under the letter's key gets: the letter's sender, counter and unit.
pub record IsOfLetter (l : SealedUnit) (from counter : ℕ) (got : Accepted) : Type 0 where
  pub sender : from ≡ l.from
  pub number : counter ≡ l.counter
  pub path : got.path ≡ paths.Sealed l.from (l.to == to_all) l.key
  pub payload : got.payload ≡ spelling l.unit
  pub unit : unit_in got.payload ≡ Some l.unit

module _ (ciphers : Ciphers) (opens : OpensWhatItSeals ciphers) (l : SealedUnit) (fits : IsSealedUnit l) (station : StationMemory) (octets : List ℕ)
    (same : octets ≡ (spelled ciphers (Sealed l)).octets) where
  pub accepts_sealed_unit : (from counter : ℕ) (got : Accepted) → (a : IsAdmitted station (arrived ciphers octets) from counter got) → a.key ≡ l.key
      → IsOfLetter l from counter got
  accepts_sealed_unit from counter got a key =
      let body : List ℕ = ciphers.seals l.key (head_of l) (spelling l.unit) in
      let came : Arrived = arrived_with ciphers (head_of l) (header (head_of l)) body in
      let is : came ≡ a.frame = same_Some came a.frame (sym (ap (arrived ciphers) same ∙ sealed_unit_arrives ciphers opens l fits) ∙ a.is) in
      let head : head_of l ≡ heads.Sealed a.head.0 a.head.1 a.head.2 a.to from counter a.index = ap (λ (x : Arrived). x.head) is ∙ a.head.3 in
      let opened : came.opened a.key ≡ Some a.payload = ap (λ (x : Arrived). x.opened a.key) is ∙ a.opened in
      let payload : spelling l.unit ≡ a.payload = same_Some (spelling l.unit) a.payload
      (sym (sealed_unit_opens ciphers opens l fits) ∙ ap came.opened (sym key) ∙ opened) in
      let sender : from ≡ l.from = sym (ap from_of head) in
      let to : a.to ≡ l.to = sym (ap to_of head) in
      record {
        sender = sender;
        number = sym (ap counter_of head);
        path = ap (λ (x : Accepted). x.path) a.got_is ∙ (λ i. paths.Sealed (sender i) (to i == to_all) (key i));
        payload = ap (λ (x : Accepted). x.payload) a.got_is ∙ sym payload;
        unit = ap (λ (x : Accepted). unit_in x.payload) a.got_is ∙ ap unit_in (sym payload) ∙ sealed_unit_unit ciphers opens l fits;
      }
