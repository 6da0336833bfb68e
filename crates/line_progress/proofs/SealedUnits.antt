-- What arrives of a sealed unit's frame is the unit.
use Rattle.std.proofs.Common.{◌≡◌, ℕ, ◌+◌, ◌<◌, ◌≤◌, ◌^◌, Bool, true, false, List, length, Option, Some, None, refl, ap, ◌∙◌, arith}
use Rattle.std.specs.Prelude.{if◌then◌else◌, is_some, not, nat_lt, ◌==◌, ◌%◌}
use Rattle.std.proofs.lemmas.Bool.{and_right}
use Rattle.std.proofs.lemmas.List.{length-append}
use Rattle.plc_base.specs.declared.address.TheConstants.{PAN}
use Rattle.mac_frames.specs.declared.head.MacHead.TheVariants as heads
use Rattle.plc_base.specs.Addresses.{IsAddress}
use Rattle.plc_base.specs.Fields.{octet}
use Rattle.mac_frames.specs.Grammar.{Frame, IsHead, IsBody, IsTarget, header, header_then}
use Rattle.mac_frames.specs.Faults.{frame_fault}
use Rattle.mac_frames.proofs.Headers.{header_then-append, length-header}
use Rattle.mac_frames.specs.Laws.{IsRead}
use Rattle.mac_frames.proofs.HeadsRead.{frame_read}
use Rattle.mesh_header.specs.Grammar.{IsUnit, spelling}
use Rattle.mesh_header.specs.Reader.{unit_in}
use Rattle.mesh_header.proofs.Readings.{unit_read}
use Rattle.node_rules.specs.Ciphers.{Ciphers, OpensWhatItSeals}
use Rattle.node_rules.specs.Frames.{SealedUnit, Sealed, Arrived, arrived_with, head_of, spelled, arrived, to_all}
use Rattle.reach_rules.specs.Beacons.{is_discovery}

-- A sealed unit in its ranges.
pub record IsSealable (l : SealedUnit) : Type 0 where
  pub to : IsTarget l.to
  pub from : IsAddress l.from
  pub counter : l.counter < 2 ^ 32
  pub index : l.index ≤ 1
  pub fields : IsUnit l.unit
  pub size : length (spelling l.unit) ≤ 381

by_fault : {F : Type 0} (o : Option F) (a : Arrived) → o ≡ None → (if is_some o then None else Some a) ≡ Some a
by_fault o a none = rw none refl

by_head : (ack : Bool) (seq pan to from counter index : ℕ) (body : List ℕ)
    → is_discovery (header_then (heads.Sealed ack seq pan to from counter index) body) ≡ false
unfolding octet
by_head true seq pan to from counter index body =
    and_right (nat_lt 0 (length (header_then (heads.Sealed true seq pan to from counter index) body))) false refl
by_head false seq pan to from counter index body =
    and_right (nat_lt 0 (length (header_then (heads.Sealed false seq pan to from counter index) body))) false refl

module _ (ciphers : Ciphers) (opens : OpensWhatItSeals ciphers) (l : SealedUnit) (fits : IsSealable l) where
  abbrev body : List ℕ
  body = ciphers.seals l.key (head_of l) (spelling l.unit)

  abbrev octets : List ℕ
  octets = header_then (head_of l) body

  head_fits : IsHead (head_of l)
  head_fits = (omega arith, omega arith, fits.to, fits.from, fits.counter, fits.index)

  size : length octets ≤ 400
  size =
      let whole : length octets ≡ length (header (head_of l)) + length body = ap length (header_then-append (head_of l) body)
      ∙ length-append (header (head_of l)) body in
      let front : length (header (head_of l)) ≡ 15 = length-header (head_of l) head_fits in
      let longer : length body ≡ length (spelling l.unit) + 4 = opens.tag l.key (head_of l) (spelling l.unit) in
      let unit : length (spelling l.unit) ≤ 381 = fits.size in
      omega arith

  rest : IsBody (head_of l) body
  rest = let longer : length body ≡ length (spelling l.unit) + 4 = opens.tag l.key (head_of l) (spelling l.unit) in omega arith

  frame : Frame (head_of l) body octets
  frame = record { fields = head_fits; rest = rest; size = size; spelled = refl }

  is_read : IsRead (head_of l) body octets
  is_read = frame_read (head_of l) body octets frame

  abbrev pub came : Arrived
  came = arrived_with ciphers (head_of l) (header (head_of l)) body

  -- what arrives of it has its head, and its key opens the unit
  pub arrives_whole : arrived ciphers (spelled ciphers (Sealed l)).octets ≡ Some came
  unfolding arrived spelled
  arrives_whole =
      by_fault (frame_fault octets) _ is_read.whole ∙ (λ i. Some (arrived_with ciphers (is_read.said i) (is_read.front i) (is_read.rest i)))

  pub opens_whole : came.opened l.key ≡ Some (spelling l.unit)
  opens_whole = opens.opens l.key (head_of l) (spelling l.unit)

  -- and the unit is read
  pub unit_whole : unit_in (spelling l.unit) ≡ Some l.unit
  unit_whole = unit_read l.unit (spelling l.unit) (fits.fields, refl)

  -- it is no frame of discovery
  pub is_no_discovery : is_discovery (spelled ciphers (Sealed l)).octets ≡ false
  unfolding spelled
  is_no_discovery = by_head (not (l.to == to_all)) (l.counter % 256) PAN l.to l.from l.counter l.index body
