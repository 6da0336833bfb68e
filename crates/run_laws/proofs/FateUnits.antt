-- A flight that was sealed from a unit carries that unit: its key opens it, whatever counter and target the frame has.
use Rattle.std.proofs.Common.{◌≡◌, ℕ, List, [], ◌∷◌, ◌++◌, get_or, Some, refl, sym, ap, ◌∙◌}
use Rattle.std.specs.Prelude.{take, drop}
use Rattle.std.specs.Option.{option_and_then}
use Rattle.mac_frames.specs.Grammar.{header, header_then}
use Rattle.mac_frames.specs.SealedFrames.{nonce_of}
use Rattle.aes_modes.specs.Ccm.{ccm_text, ccm_tag}
use Rattle.mesh_header.specs.Grammar.{IsUnit, spelling}
use Rattle.mesh_header.specs.Reader.{unit_in}
use Rattle.mesh_header.proofs.Readings.{unit_read}
use Rattle.node_rules.specs.Ciphers.{network}
use Rattle.node_rules.specs.Frames.{Arrived, SealedUnit, Sealed, arrived, arrived_with, head_of, spelled}
use Rattle.node_rules.proofs.NetworkOpens.{network_opens_again}
use Rattle.line_laws.specs.Places.{unit_of}
use Rattle.line_laws.proofs.LetterSeals.{sealed_unit_arrives}
use Rattle.line_rules.specs.Steps.{flight_by}
use Rattle.line_laws.specs.SealedUnits.{IsFlight, IsSealedUnit}

-- the octets of one frame of a sealed head are those of another, which is in its ranges
module _ (s t : SealedUnit) (fits : IsSealedUnit t) (same : (spelled network (Sealed s)).octets ≡ (spelled network (Sealed t)).octets) where
  abbrev body_of : SealedUnit → List ℕ
  body_of l = network.seals l.key (head_of l) (spelling l.unit)

  alike : header_then (head_of s) (body_of s) ≡ header_then (head_of t) (body_of t)
  unfolding spelled
  alike = same

  front : header (head_of s) ≡ header (head_of t)
  front = ap (take 15) alike

  rest : body_of s ≡ body_of t
  rest = ap (drop 15) alike

  -- the nonce is made of the octets of the header
  nonces : nonce_of (head_of s) ≡ nonce_of (head_of t)
  nonces =
      let octet : (k : ℕ) → get_or (header_then (head_of s) (body_of s)) k 0 ≡ get_or (header_then (head_of t) (body_of t)) k 0 = λ k.
      ap (λ (xs : List ℕ). get_or xs k 0) alike in
      λ i. get_or (nonce_of (head_of s)) 0 0 ∷ get_or (nonce_of (head_of s)) 1 0 ∷ 0x00 ∷ 0xFF ∷ 0xFE ∷ 0x00 ∷ octet 8 i ∷ octet 7 i
      ∷ octet 13 i ∷ octet 12 i ∷ octet 11 i ∷ octet 10 i ∷ 0x05 ∷ []

  sealed_so : body_of s ≡ network.seals s.key (head_of t) (spelling s.unit)
  sealed_so = λ i. ccm_text s.key.0 (nonces i) (spelling s.unit) ++ ccm_tag 4 s.key.0 (nonces i) (front i) (spelling s.unit)

  abbrev came : Arrived
  came = arrived_with network (head_of t) (header (head_of t)) (body_of t)

  opened : came.opened s.key ≡ Some (spelling s.unit)
  opened =
      ap (network.opens s.key (head_of t) (header (head_of t))) (sym rest ∙ sealed_so)
      ∙ network_opens_again.opens s.key (head_of t) (spelling s.unit)

  carried : (number : ℕ) → IsUnit s.unit → unit_of network (flight_by number (spelled network (Sealed s))) ≡ Some s.unit
  unfolding spelled
  carried number unit =
      ap (option_and_then (λ (a : Arrived). option_and_then unit_in (a.opened s.key)))
      (ap (arrived network) same ∙ sealed_unit_arrives network network_opens_again t fits)
      ∙ ap (option_and_then unit_in) opened
      ∙ unit_read s.unit (spelling s.unit) (unit, refl)

-- what flies as it was sealed carries its unit
pub flown_unit : (number : ℕ) (s : SealedUnit) → IsFlight network (flight_by number (spelled network (Sealed s))) → IsUnit s.unit
    → unit_of network (flight_by number (spelled network (Sealed s))) ≡ Some s.unit
unfolding spelled
flown_unit number s is unit =
    let t = is.sealed s.key refl in
    carried s t.sealed_unit t.fits t.octets number unit
