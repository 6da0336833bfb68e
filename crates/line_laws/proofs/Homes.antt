-- The homes that the book gives: the coordinator's is 0000, and a meter's is the book's address for its EUI. They only grow.
use Rattle.std.proofs.Common.{◌≡◌, ◌≢◌, ⊎_elim, ℕ, zero, suc, ◌≤◌, ◌<◌, Bool, true, false, List, [], ◌∷◌, length, Option, Some, None, refl, sym, ap, ◌∙◌, subst}
use Rattle.std.proofs.Common.{arith}
use Rattle.std.specs.Prelude.{if◌then◌else◌, ◌==◌, slice_get}
use Rattle.std.specs.Option.{option_map, option_and_then}
use Rattle.std.proofs.lemmas.Bool.{cases_eq, eqb-true, eqb-false}
use Rattle.std.proofs.lemmas.Option.{same_Some, none-some}
use Rattle.plc_base.specs.declared.address.Eui.{Eui}
use Rattle.group_keys.specs.KeyBook as books
use Rattle.node_rules.specs.Memory.{Node, node_address}
use Rattle.line_rules.specs.Worlds.{World, Issued, node_at}
use Rattle.line_laws.proofs.Answered.{booked_low}
use Rattle.line_laws.proofs.AddressBook.{Grows}
use Rattle.line_laws.proofs.AddressWorlds.{one_meter, above_nought, meter_address, coordinator_address}
use Rattle.line_laws.proofs.IssueWorlds.{Keyed}
use Rattle.line_laws.proofs.Worlds.{WorldOk, within as place_within}
use Rattle.line_laws.proofs.Homed.{Addressed}
use Rattle.line_laws.proofs.Homed as homed
pub use Rattle.line_laws.specs.Ranked.{homes_of}

first_home : (b : books.Book) (w : World) (c : Node) → node_at w 0 ≡ Some c → homes_of b w 0 ≡ Some 0
unfolding homes_of
first_home b w c there = ap (option_map (λ (x : Node). 0)) there

pub meter_home : (b : books.Book) (w : World) (i : ℕ) (x : Node) → i ≢ 0 → node_at w i ≡ Some x → homes_of b w i ≡ books.address_of b x.eui
unfolding homes_of
meter_home b w i x ne there = by_number (i == 0) refl
  where
    by_number : (t : Bool) → (i == 0) ≡ t → (if t then option_map (λ (y : Node). 0) (node_at w 0)
        else option_and_then (λ (y : Node). books.address_of b y.eui) (node_at w i)) ≡ books.address_of b x.eui
    by_number true e = absurd (ne (eqb-true _ _ e))
    by_number false e = ap (option_and_then (λ (y : Node). books.address_of b y.eui)) there

-- whose home it is
data HomeIs (b : books.Book) (w : World) (i a : ℕ) : Type 0 where
  First : (c : Node) → i ≡ 0 → a ≡ 0 → node_at w 0 ≡ Some c → HomeIs b w i a
  OfMeter : (x : Node) → i ≢ 0 → node_at w i ≡ Some x → books.address_of b x.eui ≡ Some a → HomeIs b w i a

home_is : (b : books.Book) (w : World) (i a : ℕ) → homes_of b w i ≡ Some a → HomeIs b w i a
unfolding homes_of
home_is b w i a = by_number (i == 0) refl
  where
    by_first : (o : Option Node) → node_at w 0 ≡ o → i ≡ 0 → option_map (λ (x : Node). 0) o ≡ Some a → HomeIs b w i a
    by_first None there is e = absurd (none-some a e)
    by_first (Some c) there is e = First c is (sym (same_Some 0 a e)) there

    by_node : (o : Option Node) → node_at w i ≡ o → i ≢ 0 → option_and_then (λ (x : Node). books.address_of b x.eui) o ≡ Some a → HomeIs b w i a
    by_node None there ne e = absurd (none-some a e)
    by_node (Some x) there ne e = OfMeter x ne there e

    by_number : (t : Bool) → (i == 0) ≡ t → (if t then option_map (λ (x : Node). 0) (node_at w 0)
        else option_and_then (λ (x : Node). books.address_of b x.eui) (node_at w i)) ≡ Some a → HomeIs b w i a
    by_number true is e = by_first (node_at w 0) refl (eqb-true _ _ is) e
    by_number false is e = by_node (node_at w i) refl (eqb-false _ _ is) e

-- a place within a list has an entry
pub record At {A : Type 0} (xs : List A) (k : ℕ) : Type 0 where
  pub one : A
  pub is : slice_get xs k ≡ Some one

pub at_length : {A : Type 0} (xs : List A) (k : ℕ) → k < length xs → At xs k
at_length [] k lt = absurd (omega arith)
at_length (x ∷ xs) zero lt = record { one = x; is = refl }
at_length (x ∷ xs) (suc k) lt = let h = at_length xs k (omega arith) in record { one = h.one; is = h.is }

-- # One world

module _ (w : World) (given : List Issued) (ok : WorldOk w) (k : Keyed w given) where
  pub own_home : (i : ℕ) (x : Node) → node_at w i ≡ Some x → (a : ℕ) → node_address x ≡ Some a → homes_of k.book w i ≡ Some a
  own_home i x there a is = ⊎_elim
      (λ (e : i ≡ 0).
      let c : node_at w 0 ≡ Some x = ap (slice_get w.nodes) (sym e) ∙ there in
      let nought : a ≡ 0 = coordinator_address w given ok k x a c is in
      ap (homes_of k.book w) e ∙ first_home k.book w x c ∙ ap Some (sym nought))
      (λ (ne : i ≢ 0). meter_home k.book w i x ne there ∙ meter_address w given ok k i x a ne there is)
      (cases_eq i 0)

  apart_by : (i j a : ℕ) → HomeIs k.book w i a → HomeIs k.book w j a → i ≡ j
  apart_by i j a (First c e nought hc) (First d f none hd) = e ∙ sym f
  apart_by i j a (First c e nought hc) (OfMeter y ne hy ey) = absurd (let high = above_nought k.book y.eui a ey in omega arith)
  apart_by i j a (OfMeter x ne hx ex) (First d f none hd) = absurd (let high = above_nought k.book x.eui a ex in omega arith)
  apart_by i j a (OfMeter x ne hx ex) (OfMeter y nf hy ey) = k.apart i j x y hx hy (one_meter k.book x.eui y.eui a ex ey)

  low_by : (i a : ℕ) → HomeIs k.book w i a → a < 0xFFFE
  low_by i a (First c e nought hc) = omega arith
  low_by i a (OfMeter x ne hx ex) =
      let inside = place_within w.nodes i x hx in
      let c = at_length w.nodes 0 (omega arith) in
      booked_low k.book x.eui a (k.coordinator c.one c.is).book_kept.table.short ex

  pub addressed : Addressed (homes_of k.book w) w
  addressed = record {
    home = own_home;
    apart = λ i j a hi hj. apart_by i j a (home_is k.book w i a hi) (home_is k.book w j a hj);
    low = λ i a h. low_by i a (home_is k.book w i a h);
  }

-- # A later world

module _ (w v : World) (given more : List Issued) (ok : WorldOk w) (okv : WorldOk v) (k : Keyed w given) (kv : Keyed v more)
    (longer : length w.nodes ≤ length v.nodes)
    (grows : (0 < length w.nodes) → Grows k.book kv.book) (euis : (0 < length w.nodes) → (n : ℕ) (y : Node) → n < length w.nodes → node_at v n ≡ Some y
    → (x : Node) × (node_at w n ≡ Some x) × (x.eui ≡ y.eui)) where
  grows_by : (i a : ℕ) → HomeIs k.book w i a → homes_of kv.book v i ≡ Some a
  grows_by i a (First c e nought hc) =
      let inside = place_within w.nodes 0 c hc in
      let d = at_length v.nodes 0 (omega arith) in
      ap (homes_of kv.book v) e ∙ first_home kv.book v d.one d.is ∙ ap Some (sym nought)
  grows_by i a (OfMeter x ne hx ex) =
      let inside = place_within w.nodes i x hx in
      let some : 0 < length w.nodes = omega arith in
      let y = at_length v.nodes i (omega arith) in
      let old = euis some i y.one inside y.is in
      let same : x ≡ old.0 = same_Some _ _ (sym hx ∙ old.1) in
      meter_home kv.book v i y.one ne y.is
      ∙ grows some y.one.eui a (subst (λ (u : Eui). books.address_of k.book u ≡ Some a) (ap (λ (z : Node). z.eui) same ∙ old.2) ex)

  pub homes_grow : homed.Grows (homes_of k.book w) (homes_of kv.book v)
  homes_grow i a h = grows_by i a (home_is k.book w i a h)

  -- the homes after it fit the world before
  pub addressed_before : Addressed (homes_of kv.book v) w
  addressed_before =
      let after = addressed v more okv kv in
      record { home = λ i x there a is. homes_grow i a (own_home w given ok k i x there a is); apart = after.apart; low = after.low }
