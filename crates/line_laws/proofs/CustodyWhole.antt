-- What is gathered is of its send, and what is handed up is the datagram that was sent.
use Rattle.std.proofs.Common.{◌≡◌, ℕ, suc, ◌+◌, ◌-◌, ◌≤◌, Bool, true, false, List, [], ◌∷◌, ◌++◌, length, Option, Some, None, refl, sym, ◌∙◌, subst, arith}
use Rattle.std.specs.Prelude.{if◌then◌else◌, nat_le, slice_get, All}
use Rattle.std.proofs.lemmas.Option.{same_Some, none-some}
use Rattle.std.proofs.lemmas.Bool.{leb-true, eqb-true, and_parts}
use Rattle.std.proofs.lemmas.List.Elements.{All-nil, All-cons, All-head, All-tail, All-push}
use Rattle.mesh_header.specs.declared.unit.Mesh.{Mesh}
use Rattle.mesh_header.specs.declared.unit.Unit.{Unit as MeshUnit}
use Rattle.mesh_header.specs.declared.unit.Unit.TheVariants as units
use Rattle.mesh_header.specs.Pieces.{Placed}
use Rattle.fragment_buffers.specs.Reassembly.{PlacedPiece, Reassembly, placed, begun, octet_of, first_of, octet_at, before_all, gathered, datagram_of, overlaps}
use Rattle.fragment_buffers.specs.PieceIntake as pieces
use Rattle.fragment_buffers.specs.PieceIntake.{same_name, grown, settled, joined, behind, taken_in, taken, has_room}
use Rattle.node_rules.specs.declared.heard.Heard.{Heard}
use Rattle.node_rules.specs.declared.heard.Heard.TheVariants as heard
use Rattle.node_rules.specs.Memory.{StationMemory, address_of}
use Rattle.line_laws.specs.Sends.{SentAs, IsOf, UnitIsOf, HasOctets, PlacedFits, Gathers, HeldIsOf, UpIsOf}
use Rattle.line_laws.proofs.Made.{Given, IsCome}
use Rattle.line_laws.proofs.HearingForms.{IsNoUp, Handed, HandsUp, HandsOn, Gathers as Gathered, Completes}
use Rattle.line_laws.proofs.CustodyPieces.{NameHasNote}
use Rattle.line_laws.proofs.CustodyPlans.{Agrees}

-- # A whole reassembly has the octets of the send

placed_reads : (all : List ℕ) (p : PlacedPiece) → PlacedFits all p → (i o : ℕ) → octet_of p i ≡ Some o → slice_get all i ≡ Some o
placed_reads all p fits i o = by_test (nat_le p.start i) refl
  where
    by_test : (b : Bool) → nat_le p.start i ≡ b → (if b then slice_get p.octets (i - p.start) else None) ≡ Some o → slice_get all i ≡ Some o
    by_test true t e =
        let within : p.start ≤ i = leb-true _ _ t in
        let place : p.start + (i - p.start) ≡ i = omega arith in
        subst (λ q. slice_get all q ≡ Some o) place (fits.reads (i - p.start) o e)
    by_test false t e = absurd (none-some o e)

octet_reads : (all : List ℕ) (ps : List PlacedPiece) → All (PlacedFits all) ps → (i o : ℕ) → octet_at ps i ≡ Some o → slice_get all i ≡ Some o
octet_reads all [] fits i o e = absurd (none-some o e)
octet_reads all (p ∷ ps) fits i o e = by_octet (octet_of p i) refl (octet_reads all ps (All-tail (PlacedFits all) p ps fits) i o) e
  where
    by_octet : (found : Option ℕ) → octet_of p i ≡ found → (octet_at ps i ≡ Some o → slice_get all i ≡ Some o) → first_of found (octet_at ps i) ≡ Some o
        → slice_get all i ≡ Some o
    by_octet None is rest t = rest t
    by_octet (Some x) is rest t = placed_reads all p (All-head (PlacedFits all) p ps fits) i o (is ∙ t)

gathered_reads : (all : List ℕ) (ps : List PlacedPiece) → All (PlacedFits all) ps → (rest : List ℕ) (from : ℕ) (os : List ℕ)
    → ((j : ℕ) → slice_get all (from + j) ≡ slice_get rest j) → gathered ps from (length rest) ≡ Some os → rest ≡ os
gathered_reads all ps fits [] from os same e = same_Some [] os e
gathered_reads all ps fits (x ∷ xs) from os same e =
    by_parts (octet_at ps from) refl (gathered ps (suc from) (length xs))
    (λ more t. gathered_reads all ps fits xs (suc from) more (λ j. let place : suc from + j ≡ from + suc j = omega arith in rw place (same (suc j))) t) e
  where
    here : slice_get all from ≡ Some x
    here = let place : from + 0 ≡ from = omega arith in subst (λ q. slice_get all q ≡ Some x) place (same 0)

    by_parts : (first : Option ℕ) → octet_at ps from ≡ first → (rest : Option (List ℕ)) → ((more : List ℕ) → rest ≡ Some more → xs ≡ more)
        → before_all first rest ≡ Some os → x ∷ xs ≡ os
    by_parts None is rest h t = absurd (none-some os t)
    by_parts (Some y) is None h t = absurd (none-some os t)
    by_parts (Some y) is (Some ys) h t = (λ i. same_Some x y (sym here ∙ octet_reads all ps fits from y is) i ∷ h ys refl i) ∙ same_Some (y ∷ ys) os t

datagram_reads : (r : Reassembly) (os all : List ℕ) → All (PlacedFits all) r.pieces → length all ≡ r.size → datagram_of r ≡ Some os → all ≡ os
unfolding datagram_of
datagram_reads r os all fits size e = gathered_reads all r.pieces fits all 0 os (λ j. let place : 0 + j ≡ j = omega arith in rw place refl)
    (subst (λ k. gathered r.pieces 0 k ≡ Some os) (sym size) e)

-- # Taking a piece in

-- under a note there is one send at most
abbrev pub OneSend : (ℕ → SentAs → Type 0) → Type 0
OneSend S = (note : ℕ) (s t : SentAs) → S note s → S note t → s ≡ t

module _ (S : ℕ → SentAs → Type 0) (one : OneSend S) (own : ℕ) where
  -- What is left is of its sends, and what is whole is a send from this origin.
  record TakenIsOf (origin : ℕ) (t : pieces.Taking) : Type 0 where
    held : All (HeldIsOf S own) t.held
    whole : (note : ℕ) (octets : List ℕ) → t.outcome ≡ pieces.Whole note octets → IsOf S note origin own (λ s. s.octets ≡ octets)

  whole_is : (r : Reassembly) (os : List ℕ) (origin : ℕ) → datagram_of r ≡ Some os → HeldIsOf S own r → r.origin ≡ origin
      → IsOf S r.note origin own (λ s. s.octets ≡ os)
  whole_is r os origin is h from =
      let x = h.gathers in
      record {
        sent = x.sent;
        is = x.is;
        from = x.from ∙ from;
        target = x.target;
        content = datagram_reads r os x.sent.octets x.content.pieces x.content.size is;
      }

  no_whole : (note : ℕ) (octets : List ℕ) → pieces.Held ≡ pieces.Whole note octets → ⊥
  no_whole note octets e = cc

  settled_of : (origin : ℕ) (r : Reassembly) (rest : List Reassembly) (whole : Option (List ℕ)) → datagram_of r ≡ whole → HeldIsOf S own r → r.origin ≡ origin
      → All (HeldIsOf S own) rest → TakenIsOf origin (settled whole r rest)
  settled_of origin r rest None is h from more =
      record { held = All-cons (HeldIsOf S own) r rest h more; whole = λ note octets e. absurd (no_whole note octets e) }
  settled_of origin r rest (Some os) is h from more = record {
    held = more;
    whole = λ note octets e.
        let n : r.note ≡ note = cc in
        let o : os ≡ octets = cc in
        let x = whole_is r os origin is h from in
        subst (λ (k : ℕ). IsOf S k origin own (λ s. s.octets ≡ octets)) n
        (record { sent = x.sent; is = x.is; from = x.from; target = x.target; content = x.content ∙ o });
  }

  module _ (anew : Reassembly) (p : PlacedPiece) (first : anew.pieces ≡ p ∷ []) (k : HeldIsOf S own anew) where
    -- the piece that comes has the octets of the same send
    grown_of : (r : Reassembly) → HeldIsOf S own r → r.note ≡ anew.note → HeldIsOf S own (grown r anew p)
    grown_of r h same = by_test (overlaps r.pieces p)
      where
        more : IsOf S r.note r.origin own (Gathers own (record r { pieces = r.pieces ++ p ∷ [] }))
        more =
            let x = h.gathers in
            let y = k.gathers in
            let send : y.sent ≡ x.sent = one r.note y.sent x.sent (subst (λ n. S n y.sent) (sym same) y.is) x.is in
            let fits : PlacedFits x.sent.octets p = subst (λ (s : SentAs). PlacedFits s.octets p) send
            (All-head (PlacedFits y.sent.octets) p [] (subst (All (PlacedFits y.sent.octets)) first y.content.pieces)) in
            let filled : HasOctets p = All-head HasOctets p [] (subst (All HasOctets) first y.content.filled) in
            record {
              sent = x.sent;
              is = x.is;
              from = x.from;
              target = x.target;
              content = record {
                long = x.content.long;
                size = x.content.size;
                tag = x.content.tag;
                pieces = All-push (PlacedFits x.sent.octets) r.pieces p x.content.pieces fits;
                filled = All-push HasOctets r.pieces p x.content.filled filled;
              };
            }

        by_test : (b : Bool) → HeldIsOf S own (if b then anew else record r { pieces = r.pieces ++ p ∷ [] })
        by_test true = k
        by_test false = record { gathers = more }

    -- the origin is in the name
    named : (r : Reassembly) → same_name anew r ≡ true → r.origin ≡ anew.origin
    named r t = sym (eqb-true anew.origin r.origin (and_parts _ _ t).0)

    grown_origin : (r : Reassembly) → r.origin ≡ anew.origin → (grown r anew p).origin ≡ anew.origin
    grown_origin r e = by_test (overlaps r.pieces p)
      where
        by_test : (b : Bool) → (if b then anew else record r { pieces = r.pieces ++ p ∷ [] }).origin ≡ anew.origin
        by_test true = refl
        by_test false = e

    taken_in_of : (held : List Reassembly) → NameHasNote anew held → All (HeldIsOf S own) held → TakenIsOf anew.origin (taken_in held anew p)
    unfolding taken_in
    taken_in_of [] agrees h = settled_of anew.origin anew [] _ refl k refl (All-nil (HeldIsOf S own))
    taken_in_of (r ∷ rest) agrees h = by_name (same_name anew r) refl (taken_in_of rest agrees.1 (All-tail (HeldIsOf S own) r rest h))
      where
        joined_of : r.note ≡ anew.note → r.origin ≡ anew.origin → (b : Bool)
            → TakenIsOf anew.origin (if b then record { held = r ∷ rest; outcome = pieces.Held }
            else settled (datagram_of (grown r anew p)) (grown r anew p) rest)
        joined_of same from true = record { held = h; whole = λ note octets e. absurd (no_whole note octets e) }
        joined_of same from false = settled_of anew.origin (grown r anew p) rest _ refl (grown_of r (All-head (HeldIsOf S own) r rest h) same)
            (grown_origin r from) (All-tail (HeldIsOf S own) r rest h)

        by_name : (b : Bool) → same_name anew r ≡ b → TakenIsOf anew.origin (taken_in rest anew p)
            → TakenIsOf anew.origin (if b then joined r anew p rest else behind r (taken_in rest anew p))
        by_name true t more = joined_of (agrees.0 t) (named r t) _
        by_name false t more = record { held = All-cons (HeldIsOf S own) r _ (All-head (HeldIsOf S own) r rest h) more.held; whole = more.whole }

  -- a piece that came for this address
  piece_of_send : (note now : ℕ) (mesh : Mesh) (piece : Placed) → (UnitIsOf S note (units.Part mesh piece)) → mesh.to ≡ own
      → HeldIsOf S own (begun mesh.origin piece note now)
  piece_of_send note now mesh piece h mine = record {
    gathers =
        let x = h in
        record {
          sent = x.sent;
          is = x.is;
          from = x.from;
          target = x.target ∙ mine;
          content = record {
            long = x.content.long;
            size = x.content.size;
            tag = x.content.tag;
            pieces = All-cons (PlacedFits x.sent.octets) (placed piece) [] x.content.fits (All-nil (PlacedFits x.sent.octets));
            filled = All-cons HasOctets (placed piece) [] x.content.some (All-nil HasOctets);
          };
        };
  }

  full_whole : (note : ℕ) (octets : List ℕ) → pieces.Full ≡ pieces.Whole note octets → ⊥
  full_whole note octets e = cc

  taken_of : (held : List Reassembly) (note now : ℕ) (mesh : Mesh) (piece : Placed) → (UnitIsOf S note (units.Part mesh piece)) → mesh.to ≡ own
      → NameHasNote (begun mesh.origin piece note now) held → All (HeldIsOf S own) held
      → TakenIsOf mesh.origin (taken held mesh.origin piece note now)
  unfolding taken
  taken_of held note now mesh piece h mine agrees all = by_room (has_room held (begun mesh.origin piece note now))
    where
      by_room : (b : Bool) → TakenIsOf mesh.origin
          (if b then taken_in held (begun mesh.origin piece note now) (placed piece) else record { held = held; outcome = pieces.Full })
      by_room true = taken_in_of (begun mesh.origin piece note now) (placed piece) refl (piece_of_send note now mesh piece h mine) held agrees all
      by_room false = record { held = all; whole = λ n octets e. absurd (full_whole n octets e) }

  -- # What a station keeps beside its words

  -- What is gathered at a node is of its sends, and so is what it hands up.
  pub record IsHandedUp (l : StationMemory) (h : Heard) : Type 0 where
    pub held : All (HeldIsOf S own) l.reassemblies
    pub up : UpIsOf S own h

  pub handed_of : (g : Given) (l k : StationMemory) (h : Heard) → ((by : ℕ) (u : MeshUnit) → IsCome g by false u → UnitIsOf S g.note u)
      → ((a : ℕ) → address_of l ≡ Some a → a ≡ own) → Agrees g l → All (HeldIsOf S own) l.reassemblies → Handed g l k h → IsHandedUp k h
  handed_of g l k h comes address agrees all (HandsUp by a mesh octets came here mine) = record {
    held = all;
    up = let x = comes by (units.Whole mesh octets) came in
        record { sent = x.sent; is = x.is; from = x.from; target = x.target ∙ eqb-true mesh.to a mine ∙ address a here; content = x.content };
  }
  handed_of g l k h comes address agrees all (HandsOn answer none) = record { held = all; up = no_up answer none }
    where
      no_up : (a : Heard) → IsNoUp a → UpIsOf S own a
      no_up (heard.Up from note octets) none = absurd none
      no_up _ none = tt
  handed_of g l k h comes address agrees all (Gathered by a mesh piece came here mine e) = record {
    held = (taken_of l.reassemblies g.note g.now mesh piece (comes by (units.Part mesh piece) came) (eqb-true mesh.to a mine ∙ address a here)
        (agrees.name by mesh piece came) all).held;
    up = tt;
  }
  handed_of g l k h comes address agrees all (Completes by a mesh piece note octets came here mine e) =
      let t = taken_of l.reassemblies g.note g.now mesh piece (comes by (units.Part mesh piece) came) (eqb-true mesh.to a mine ∙ address a here)
      (agrees.name by mesh piece came) all in
      record { held = t.held; up = t.whole note octets e }
