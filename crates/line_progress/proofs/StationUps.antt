-- What a station hands up was in the frame that it accepted.
use Rattle.std.proofs.Common.{arith, ◌≡◌, ℕ, ◌+◌, ◌-◌, ◌<◌, ◌≤◌, Bool, true, false, List, [], ◌∷◌, ◌++◌, length, get_or, Option, Some, None, Result, Ok}
use Rattle.std.proofs.Common.{zero, suc, refl, sym, ap, subst, ◌∙◌}
use Rattle.std.specs.Prelude.{if◌then◌else◌, slice_get, nat_lt, nat_le}
use Rattle.std.proofs.lemmas.Bool.{and_from, le-leb, leb-true, lt-ltb, ltb-true, ltb-false}
use Rattle.std.proofs.lemmas.List.{length-append}
use Rattle.std.proofs.lemmas.Option.{slice_get-get_or}
use Rattle.std.proofs.Math.ListN.{get_or-append}
use Rattle.std.proofs.Math.Seq.{get_or-append_seam}
use Rattle.mesh_header.specs.declared.unit.Unit.{Unit as MeshUnit}
use Rattle.mesh_header.specs.declared.unit.Unit.TheVariants as units
use Rattle.mesh_header.specs.Pieces.{Placed}
use Rattle.mesh_header.specs.Reader.{unit_in}
use Rattle.fragment_buffers.specs.Laws.{no_piece}
use Rattle.fragment_buffers.specs.Reassembly.{PlacedPiece, Reassembly, begun, datagram_of, octet_of, overlap, overlaps, placed, repeats}
use Rattle.fragment_buffers.specs.PieceIntake.{Taking, Outcome, Full, Held, Whole, behind, grown, has_room, joined, same_name, settled, taken, taken_in}
use Rattle.fragment_buffers.proofs.Apart.{whole_reads}
use Rattle.fragment_buffers.proofs.Places.{none_passes}
use Rattle.node_rules.specs.Accepted.{Accepted}
use Rattle.node_rules.specs.declared.heard.Heard.{Heard}
use Rattle.node_rules.specs.declared.heard.Heard.TheVariants as heard
use Rattle.node_rules.specs.declared.refusal.Dropped.{Dropped}
use Rattle.node_rules.specs.HearingRules.{Hearing, gathered}
use Rattle.node_rules.specs.Memory.{StationMemory, address_of}
use Rattle.node_rules.specs.Plans.{resting}
use Rattle.line_progress.specs.Lists.{Among, Here, Later}
use Rattle.line_progress.specs.Ups.{HasTaken, Began, Grew, IsPartOf, HandedFrom, OneUnit, LastPiece, StationUp, StationsHandUp}
use Rattle.line_progress.proofs.HeardDatagrams.{hands_up_one, Made, Quietly, HandsUp, Takes, Heards, Quiet, ByFrame, heard_so}

-- # The place of a piece

-- an octet that one of two pieces has in the place of the other one shows that they overlap
read_within : (q : PlacedPiece) (j : ℕ) (x : ℕ) → octet_of q j ≡ Some x → (q.start ≤ j) × (j < q.start + length q.octets)
read_within q j x = by_start (nat_le q.start j) refl
  where
    inside : (xs : List ℕ) (k : ℕ) → slice_get xs k ≡ Some x → k < length xs
    inside [] k e = absurd (cc)
    inside (y ∷ ys) zero e = omega arith
    inside (y ∷ ys) (suc k) e = let less = inside ys k e in omega arith

    by_start : (b : Bool) → nat_le q.start j ≡ b → (if b then slice_get q.octets (j - q.start) else None) ≡ Some x
        → (q.start ≤ j) × (j < q.start + length q.octets)
    by_start true before e =
        let low = leb-true q.start j before in
        let high = inside q.octets (j - q.start) e in
        (low, omega (arith, low, high))
    by_start false before e = absurd (cc)

they_overlap : (p q : PlacedPiece) (i x : ℕ) → i < length p.octets → octet_of q (p.start + i) ≡ Some x → overlap p q ≡ true
they_overlap p q i x lt e =
    let within = read_within q (p.start + i) x e in
    let low = within.0 in
    let high = within.1 in
    and_from (nat_lt q.start (p.start + length p.octets)) (nat_lt p.start (q.start + length q.octets)) (lt-ltb _ _ (omega (arith, low, lt)))
    (lt-ltb _ _ (omega (arith, high)))

-- the piece's own octet
own_octet : (p : PlacedPiece) (i : ℕ) → octet_of p (p.start + i) ≡ slice_get p.octets i
own_octet p i = by_start (nat_le p.start (p.start + i)) refl
  where
    by_start : (b : Bool) → nat_le p.start (p.start + i) ≡ b
        → (if b then slice_get p.octets (p.start + i - p.start) else None) ≡ slice_get p.octets i
    by_start true e = ap (slice_get p.octets) (omega arith)
    by_start false e =
        let one : nat_le p.start (p.start + i) ≡ true = le-leb p.start (p.start + i) (omega arith) in
        absurd (cc)

-- the last piece of a reassembly that is whole stands in the datagram, where it overlaps none before it
module _ (r : Reassembly) (ps : List PlacedPiece) (p : PlacedPiece) (are : r.pieces ≡ ps ++ p ∷ []) (apart : overlaps ps p ≡ false) (octets : List ℕ)
    (whole : datagram_of r ≡ Some octets) where
  by_place : (k j i : ℕ) → j ≡ p.start + i → i < length p.octets → k < length (ps ++ p ∷ []) → j < length octets
      → octet_of (get_or (ps ++ p ∷ []) k no_piece) j ≡ slice_get octets j → (nat_lt k (length ps)) ≡ true → slice_get octets j ≡ slice_get p.octets i
  by_place k j i is lt few inside e before =
      let x : ℕ = get_or octets j 0 in
      let read : octet_of (get_or (ps ++ p ∷ []) k no_piece) j ≡ Some x = e ∙ slice_get-get_or octets j 0 inside in
      let less : k < length ps = ltb-true k (length ps) before in
      let q : PlacedPiece = get_or ps k no_piece in
      let here : octet_of q (p.start + i) ≡ Some x =
      ap (λ z. octet_of z (p.start + i)) (sym (get_or-append ps (p ∷ []) no_piece k less))
      ∙ ap (octet_of (get_or (ps ++ p ∷ []) k no_piece)) (sym is) ∙ read in
      let one : overlap p q ≡ true = they_overlap p q i x lt here in
      let other : overlap p q ≡ false = none_passes (overlap p) ps apart k no_piece less in
      absurd (cc)

  pub last_part : IsPartOf p octets
  last_part i lt inside =
      let reads = whole_reads r octets whole in
      let size = reads.0 in
      let at = reads.1 (p.start + i) (omega (arith, inside, size)) in
      by_k at.0 (subst (λ xs. at.0 < length xs) are at.1) (subst (λ xs. octet_of (get_or xs at.0 no_piece) (p.start + i) ≡ slice_get octets
      (p.start + i)) are at.2)
      (nat_lt at.0 (length ps)) refl
    where
      by_k : (k : ℕ) → k < length (ps ++ p ∷ []) → octet_of (get_or (ps ++ p ∷ []) k no_piece) (p.start + i) ≡ slice_get octets (p.start + i) → (b : Bool)
          → nat_lt k (length ps) ≡ b → slice_get octets (p.start + i) ≡ slice_get p.octets i
      by_k k few e true before = by_place k (p.start + i) i refl lt few inside e before
      by_k k few e false after =
          let low = ltb-false k (length ps) after in
          let long = length-append ps (p ∷ []) in
          let last : k ≡ length ps = omega (arith, few, low, long) in
          sym e ∙ (λ m. octet_of (get_or (ps ++ p ∷ []) (last m) no_piece) (p.start + i))
          ∙ (λ m. octet_of (get_or-append_seam ps p [] no_piece m) (p.start + i)) ∙ own_octet p i

-- # What came of a piece

-- The reassembly that is whole, where one is.
record IsFull (held : List Reassembly) (anew : Reassembly) (p : PlacedPiece) (n : ℕ) (octets : List ℕ) : Type 0 where
  r : Reassembly
  took : HasTaken held anew p r
  datagram : datagram_of r ≡ Some octets
  note : n ≡ r.note
  part : IsPartOf p octets

module _ (anew : Reassembly) (p : PlacedPiece) (n : ℕ) (octets : List ℕ) (alone : anew.pieces ≡ p ∷ []) where
  by_datagram : (o : Option (List ℕ)) (r : Reassembly) (rest : List Reassembly) → (settled o r rest).outcome ≡ Whole n octets
      → (o ≡ Some octets) × (n ≡ r.note)
  by_datagram None r rest e = absurd (cc)
  by_datagram (Some os) r rest e = (cc, cc)

  begins : (held rest : List Reassembly) → (settled (datagram_of anew) anew rest).outcome ≡ Whole n octets → IsFull held anew p n octets
  begins held rest e =
      let both = by_datagram (datagram_of anew) anew rest e in
      record { r = anew; took = Began refl; datagram = both.0; note = both.1; part = last_part anew [] p alone refl octets both.0 }

  by_overlap : (held rest : List Reassembly) (s : Reassembly) → Among s held → same_name anew s ≡ true → (b : Bool) → overlaps s.pieces p ≡ b
      → (settled (datagram_of (if b then anew else record s { pieces = s.pieces ++ p ∷ [] }))
      (if b then anew else record s { pieces = s.pieces ++ p ∷ [] }) rest).outcome
      ≡ Whole n octets → IsFull held anew p n octets
  by_overlap held rest s among same true o e = begins held rest e
  by_overlap held rest s among same false o e =
      let r : Reassembly = record s { pieces = s.pieces ++ p ∷ [] } in
      let both = by_datagram (datagram_of r) r rest e in
      record { r = r; took = Grew s among same o refl; datagram = both.0; note = both.1; part = last_part r s.pieces p refl o octets both.0 }

  by_repeat : (held rest : List Reassembly) (s : Reassembly) → Among s held → same_name anew s ≡ true → (b : Bool)
      → (if b then record { held = s ∷ rest; outcome = Held } else settled (datagram_of (grown s anew p)) (grown s anew p) rest).outcome ≡ Whole n octets
      → IsFull held anew p n octets
  by_repeat held rest s among same true e = absurd (cc)
  by_repeat held rest s among same false e = by_overlap held rest s among same (overlaps s.pieces p) refl e

  later_full : (s : Reassembly) (held : List Reassembly) → IsFull held anew p n octets → IsFull (s ∷ held) anew p n octets
  later_full s held f = record { r = f.r; took = by_took f.took; datagram = f.datagram; note = f.note; part = f.part }
    where
      by_took : HasTaken held anew p f.r → HasTaken (s ∷ held) anew p f.r
      by_took (Began e) = Began e
      by_took (Grew t among same apart e) = Grew t (Later s held among) same apart e

  full_in : (held : List Reassembly) → (taken_in held anew p).outcome ≡ Whole n octets → IsFull held anew p n octets
  unfolding taken_in
  full_in [] e = begins [] [] e
  full_in (s ∷ rest) e = by_name (same_name anew s) refl (full_in rest) e
    where
      by_name : (b : Bool) → same_name anew s ≡ b → ((taken_in rest anew p).outcome ≡ Whole n octets → IsFull rest anew p n octets)
          → (if b then joined s anew p rest else behind s (taken_in rest anew p)).outcome ≡ Whole n octets → IsFull (s ∷ rest) anew p n octets
      by_name true same more e = by_repeat (s ∷ rest) rest s (Here rest) same (repeats s.pieces p) e
      by_name false same more e = later_full s rest (more e)

full_taken : (held : List Reassembly) (origin : ℕ) (piece : Placed) (note now n : ℕ) (octets : List ℕ)
    → (taken held origin piece note now).outcome ≡ Whole n octets → IsFull held (begun origin piece note now) (placed piece) n octets
unfolding taken
full_taken held origin piece note now n octets e = by_room (has_room held (begun origin piece note now)) e
  where
    by_room : (b : Bool)
        → (if b then taken_in held (begun origin piece note now) (placed piece) else record { held = held; outcome = Full }).outcome ≡ Whole n octets
        → IsFull held (begun origin piece note now) (placed piece) n octets
    by_room true e = full_in (begun origin piece note now) (placed piece) n octets refl held e
    by_room false e = absurd (cc)

-- # A frame

same_up : (a n b m : ℕ) (xs ys : List ℕ) → ◌≡◌ {A = Result Heard Dropped} (Ok (heard.Up a n xs)) (Ok (heard.Up b m ys)) → (a ≡ b) × (n ≡ m) × (xs ≡ ys)
same_up a n b m xs ys e = (cc, cc, cc)

module _ (l : StationMemory) (note now origin n : ℕ) (octets : List ℕ) where
  from_piece : (from : ℕ) (held : List Reassembly) (o : Outcome)
      → (gathered l from (record { held = held; outcome = o })).answer ≡ Ok (heard.Up origin n octets)
      → (origin ≡ from) × (o ≡ Whole n octets)
  unfolding gathered resting
  from_piece from held Full e = absurd (cc)
  from_piece from held Held e = absurd (cc)
  from_piece from held (Whole m os) e =
      let same = same_up from m origin n os octets e in
      (sym same.0, λ i. Whole (same.1 i) (same.2 i))

  handed : (own : ℕ) (u : MeshUnit) (p : Hearing) → address_of l ≡ Some own → Made l own u note now p → p.answer ≡ Ok (heard.Up origin n octets)
      → HandedFrom l u origin note now n octets
  unfolding resting
  handed own u p here (Quietly quiet) e =
      let none : hands_up_one p.answer ≡ false = quiet.none in
      let some : hands_up_one p.answer ≡ true = ap hands_up_one e in
      absurd (cc)
  handed own u p here (HandsUp mesh os is to plan) e =
      let same = same_up mesh.origin note origin n os octets (sym (ap (λ (q : Hearing). q.answer) plan) ∙ e) in
      OneUnit mesh (is ∙ ap (units.Whole mesh) same.2) (here ∙ ap Some (sym to)) (sym same.0) (sym same.1)
  handed own u p here (Takes mesh piece is to plan) e =
      let t : Taking = taken l.reassemblies mesh.origin piece note now in
      let came = from_piece mesh.origin t.held t.outcome (sym (ap (λ (q : Hearing). q.answer) plan) ∙ e) in
      let full = full_taken l.reassemblies mesh.origin piece note now n octets came.1 in
      LastPiece mesh piece full.r is (here ∙ ap Some (sym to)) came.0 full.took full.datagram full.part full.note

  by_frame : (got : Accepted) (p : Hearing) → Heards l got.path (unit_in got.payload) note now p → p.answer ≡ Ok (heard.Up origin n octets)
      → StationUp l got origin note now n octets
  by_frame got p (Quiet quiet) e =
      let none : hands_up_one p.answer ≡ false = quiet.none in
      let some : hands_up_one p.answer ≡ true = ap hands_up_one e in
      absurd (cc)
  by_frame got p (ByFrame own from key u path read here made) e =
      record { from = from; key = key; path = path; unit = u; read = read; handed = handed own u p here made e }

pub station_ups : StationsHandUp
station_ups l got cost note now origin n octets e = by_frame l note now origin n octets got _ (heard_so l got cost note now) e
