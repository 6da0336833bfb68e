-- What a head says of its nonce: a sealed one has its sender and its counter at their places, and where octets have no fault both are in range.
use Rattle.std.proofs.Common.{◌≡◌, ℕ, zero, suc, ◌<◌, ◌^◌, Bool, true, false, List, [], ◌∷◌, ◌++◌, drop, Option, Some, None, refl, subst, arith}
use Rattle.std.specs.Prelude.{slice_index, if◌then◌else◌}
use Rattle.std.proofs.lemmas.Bool.{ltb-true}
use Rattle.byteorder.specs.Endian.{little_bytes, little_from}
use Rattle.plc_base.specs.Faults.{◌then◌, cut_off}
use Rattle.plc_base.specs.Fields.{AreOctets, octet, little_two, little_four}
use Rattle.plc_base.proofs.Faults.{unless_none}
use Rattle.plc_base.proofs.NumbersOfOctets.{below}
use Rattle.plc_base.proofs.Places.{little_two_behind, little_four_behind}
use Rattle.mac_frames.specs.declared.fault.FrameFaultKind.TheVariants.{Short}
use Rattle.mac_frames.specs.declared.head.MacHead.TheVariants.{Sealed, Up, Down}
use Rattle.mac_frames.specs.Faults.{is_sealed, has_modes, low_fault, high_fault, target_fault, sender_fault, sealed_fault, up_fault, down_fault, fields_fault}
use Rattle.mac_frames.specs.Faults.{frame_fault}
use Rattle.mac_frames.specs.Grammar.{low_control, high_control}
use Rattle.mac_frames.specs.Laws.{SealedHeadsSayTheirNonces, PlainHeadsAreNotSealed, ReadNoncesAreInRange}
use Rattle.mac_frames.specs.Reader.{head_by, head_in}
use Rattle.mac_frames.proofs.HeadsRead.{low_sealed, low_plain}

-- # What is spelled

pub sealed_say : SealedHeadsSayTheirNonces
sealed_say ack seq pan to from counter index body =
    let low = low_control true ack in
    let high = high_control 2 1 2 in
    record {
      sealed = (low_sealed ack (high ∷ seq ∷ little_bytes 2 pan
          ++ (little_bytes 2 to ++ (little_bytes 2 from ++ (0x0D ∷ little_bytes 4 counter ++ (index ∷ body)))))).0;
      sender =
          λ fits. little_two_behind (low ∷ high ∷ seq ∷ little_bytes 2 pan ++ little_bytes 2 to) from (0x0D ∷ little_bytes 4 counter ++ (index ∷ body)) fits;
      number = λ fits. little_four_behind (low ∷ high ∷ seq ∷ little_bytes 2 pan ++ little_bytes 2 to ++ little_bytes 2 from ++ 0x0D ∷ []) counter
          (index ∷ body) fits;
    }

pub plain_say : PlainHeadsAreNotSealed
plain_say (Sealed ack seq pan to from counter index) body plain = absurd plain
plain_say (Up ack version seq pan to from) body plain = (low_plain ack _).0
plain_say (Down ack version seq pan to from) body plain = (low_plain ack _).0

-- # What is read

number_low : (xs : List ℕ) → ((k : ℕ) → slice_index xs k < 256) → little_from 0 4 xs < 2 ^ 32
number_low xs low =
    let a : slice_index xs 0 < 256 = low 0 in
    let b : slice_index xs 1 < 256 = low 1 in
    let c : slice_index xs 2 < 256 = low 2 in
    let d : slice_index xs 3 < 256 = low 3 in
    omega arith

rest_low : (n : ℕ) (xs : List ℕ) → ((k : ℕ) → slice_index xs k < 256) → (k : ℕ) → slice_index (drop n xs) k < 256
rest_low zero xs low k = low k
rest_low (suc n) [] low k = omega arith
rest_low (suc n) (x ∷ xs) low k = rest_low n xs (λ i. low (suc i)) k

four_low : (at : ℕ) (octets : List ℕ) → AreOctets octets → little_four at octets < 2 ^ 32
unfolding little_four
four_low at octets all = number_low (drop at octets) (rest_low at octets (below octets all))

then_none : {F : Type 0} (a b : Option F) → (a then b) ≡ None → (a ≡ None) × (b ≡ None)
then_none None b e = (refl, e)
then_none (Some f) b e = absurd (cc)

sender_low : (octets : List ℕ) → sender_fault 7 octets ≡ None → little_two 7 octets < 0xFFFE
unfolding sender_fault
sender_low octets e = ltb-true _ _ (unless_none _ _ (then_none _ _ e).1)

sealed_sender : (octets : List ℕ) → is_sealed octets ≡ true → frame_fault octets ≡ None → little_two 7 octets < 0xFFFE
unfolding fields_fault sealed_fault
sealed_sender octets is e =
    let a = (then_none _ _ e).1 in
    let b = then_none (low_fault octets) _ a in
    let c = then_none (high_fault octets) _ b.1 in
    let d = then_none (cut_off Short 3 octets) _ c.1 in
    let f = then_none (cut_off Short 5 octets) _ d.1 in
    let k = subst (λ x. (if x then sealed_fault octets else (if has_modes 2 3 (octet 1 octets) then up_fault octets else down_fault octets)) ≡ None) is f.1 in
    let g = then_none (target_fault 5 octets) _ k in
    let h = then_none (sender_fault 7 octets) _ g.1 in
    sender_low octets h.0

read_sealed : (octets : List ℕ) (ack : Bool) (seq pan to from counter index : ℕ) → head_in octets ≡ Sealed ack seq pan to from counter index
    → (is_sealed octets ≡ true) × (little_two 7 octets ≡ from) × (little_four 10 octets ≡ counter)
unfolding head_in
read_sealed octets ack seq pan to from counter index = by_kind (is_sealed octets) (has_modes 2 3 (octet 1 octets)) refl
  where
    by_kind : (a b : Bool) → is_sealed octets ≡ a → head_by a b octets ≡ Sealed ack seq pan to from counter index
        → (is_sealed octets ≡ true) × (little_two 7 octets ≡ from) × (little_four 10 octets ≡ counter)
    by_kind true b is e = (is, cc, cc)
    by_kind false true is e = absurd (cc)
    by_kind false false is e = absurd (cc)

pub nonces_in_range : ReadNoncesAreInRange
nonces_in_range octets ack seq pan to from counter index all whole said =
    let r = read_sealed octets ack seq pan to from counter index said in
    let low = sealed_sender octets r.0 whole in
    let four = four_low 10 octets all in
    (subst (λ n. n < 0xFFFE) r.1 low, subst (λ n. n < 2 ^ 32) r.2 four)
