-- What arrives of a letter's spelling is the letter.
use Rattle.std.proofs.Common.{◌≡◌, ℕ, ◌+◌, ◌≤◌, List, length, Option, Some, None, refl, ap, ◌∙◌, arith}
use Rattle.std.specs.Prelude.{if◌then◌else◌, is_some}
use Rattle.std.proofs.lemmas.List.{length-append}
use Rattle.mac_frames.specs.Grammar.{Frame, IsHead, IsBody, header, header_then}
use Rattle.mac_frames.specs.Faults.{frame_fault}
use Rattle.mac_frames.proofs.Headers.{header_then-append, length-header}
use Rattle.mac_frames.specs.Laws.{IsRead}
use Rattle.mac_frames.proofs.HeadsRead.{frame_read}
use Rattle.mesh_header.specs.Grammar.{spelling}
use Rattle.mesh_header.specs.Reader.{unit_in}
use Rattle.node_rules.specs.Ciphers.{Ciphers}
use Rattle.node_rules.specs.Frames.{SealedUnit, Sealed, Arrived, arrived_with, head_of, spelled, arrived}
use Rattle.mesh_header.proofs.Readings.{unit_read}
use Rattle.node_rules.specs.Ciphers.{OpensWhatItSeals}
use Rattle.line_laws.specs.SealedUnits.{IsSealedUnit}

-- # A letter's spelling

by_fault : {F : Type 0} (o : Option F) (a : Arrived) → o ≡ None → (if is_some o then None else Some a) ≡ Some a
by_fault o a none = rw none refl

module _ (ciphers : Ciphers) (opens : OpensWhatItSeals ciphers) (l : SealedUnit) (fits : IsSealedUnit l) where
  abbrev body : List ℕ
  body = ciphers.seals l.key (head_of l) (spelling l.unit)

  abbrev octets : List ℕ
  octets = header_then (head_of l) body

  head_fits : IsHead (head_of l)
  head_fits = (omega arith, omega arith, fits.to, fits.from, fits.counter, fits.index)

  size : length octets ≤ 400
  size =
      let whole : length octets ≡ length (header (head_of l)) + length body = ap length (header_then-append (head_of l) body)
      ∙ length-append (header (head_of l)) body in
      let front : length (header (head_of l)) ≡ 15 = length-header (head_of l) head_fits in
      let longer : length body ≡ length (spelling l.unit) + 4 = opens.tag l.key (head_of l) (spelling l.unit) in
      let unit : length (spelling l.unit) ≤ 381 = fits.unit.size in
      omega arith

  rest : IsBody (head_of l) body
  rest = let longer : length body ≡ length (spelling l.unit) + 4 = opens.tag l.key (head_of l) (spelling l.unit) in omega arith

  frame : Frame (head_of l) body octets
  frame = record { fields = head_fits; rest = rest; size = size; spelled = refl }

  is_read : IsRead (head_of l) body octets
  is_read = frame_read (head_of l) body octets frame

  -- what arrives of it has its head, and its key opens the unit
  pub sealed_unit_arrives : arrived ciphers (spelled ciphers (Sealed l)).octets ≡ Some (arrived_with ciphers (head_of l) (header (head_of l)) body)
  unfolding arrived spelled
  sealed_unit_arrives =
      by_fault (frame_fault octets) _ is_read.whole ∙ (λ i. Some (arrived_with ciphers (is_read.said i) (is_read.front i) (is_read.rest i)))

  pub sealed_unit_opens : (arrived_with ciphers (head_of l) (header (head_of l)) body).opened l.key ≡ Some (spelling l.unit)
  sealed_unit_opens = opens.opens l.key (head_of l) (spelling l.unit)

  -- and the unit is read
  pub sealed_unit_unit : unit_in (spelling l.unit) ≡ Some l.unit
  sealed_unit_unit = unit_read l.unit (spelling l.unit) (fits.unit.fields, refl)
