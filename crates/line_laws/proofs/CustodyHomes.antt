-- A home for every node: before the first forged event the coordinator's book gives each meter the address of its home, and no two nodes have one home.
use Rattle.std.proofs.Common.{◌≡◌, ◌≢◌, ℕ, zero, suc, ◌+◌, ◌≤◌, ◌<◌, false, List, [], ◌∷◌, length, Option, Some, None, refl, sym, ap, ◌∙◌, subst, arith}
use Rattle.std.specs.Option.{option_map}
use Rattle.std.proofs.lemmas.Option.{same_Some}
use Rattle.store_tables.proofs.SlotTables.{found}
use Rattle.plc_base.specs.declared.address.Eui.{Eui}
use Rattle.group_keys.specs.KeyBook as books
use Rattle.node_rules.specs.Ciphers.{Ciphers}
use Rattle.node_rules.specs.Memory.{Node}
use Rattle.line_rules.specs.Runs.{Entry}
use Rattle.line_rules.specs.Worlds.{World, Issued, node_at}
use Rattle.line_laws.specs.Owed.{KeepsRanges}
use Rattle.line_laws.specs.Stores.{IsBookKept}
use Rattle.line_laws.proofs.AddressBook.{Grows, one_book}
use Rattle.line_laws.proofs.AddressWorlds.{no_entry, one_meter, above_nought}
use Rattle.line_laws.proofs.CustodySteps.{HomedAt}
use Rattle.line_laws.proofs.IssueRuns.{kept}
use Rattle.line_laws.proofs.IssueWorlds.{Keyed}
use Rattle.line_laws.proofs.NodeCalls.{no_some}
use Rattle.line_laws.proofs.Homes.{at_length}
use Rattle.line_laws.proofs.Worlds.{within}

-- so it is along a run, before the first forged event
abbrev pub HomedAlong : (ℕ → ℕ) → World → List Entry → Type 0
HomedAlong home w [] = HomedAt home w
HomedAlong home w (x ∷ xs) = HomedAt home w × (x.trace.happenings.forged ≡ false → HomedAlong home x.after xs)

pub homed_here : (home : ℕ → ℕ) (w : World) (entries : List Entry) → HomedAlong home w entries → HomedAt home w
homed_here home w [] h = h
homed_here home w (x ∷ xs) h = h.0

-- # The homes of a world

address_small : (b : books.Book) (eui : Eui) (a : ℕ) → length b ≤ 999 → books.address_of b eui ≡ Some a → a ≤ 999
address_small b eui a short = by_place (books.place_of b eui) refl
  where
    by_place : (o : Option ℕ) → books.place_of b eui ≡ o → option_map (λ place. place + 1) o ≡ Some a → a ≤ 999
    by_place None e h = absurd (no_some a h)
    by_place (Some place) e h =
        let inside : place < length b = (found books.entries b (books.eui_number eui) place no_entry e).0 in
        let same : place + 1 ≡ a = same_Some _ _ h in
        omega arith

abbrev booked : ℕ → Option ℕ → ℕ
booked n None = 65536 + n
booked n (Some a) = a

abbrev home_at : books.Book → ℕ → Option Node → ℕ
home_at b n None = 65536 + n
home_at b n (Some x) = booked n (books.address_of b x.eui)

abbrev home_of : books.Book → World → ℕ → ℕ
home_of b w zero = 0
home_of b w (suc n) = home_at b (suc n) (node_at w (suc n))

module _ (w : World) (given : List Issued) (k : Keyed w given) where
  -- where a home is
  data HomeIs (n v : ℕ) : Type 0 where
    Zero : n ≡ 0 → v ≡ 0 → HomeIs n v
    Booked : (x : Node) → node_at w n ≡ Some x → books.address_of k.book x.eui ≡ Some v → HomeIs n v
    Far : v ≡ 65536 + n → HomeIs n v

  home_is : (n : ℕ) → HomeIs n (home_of k.book w n)
  home_is zero = Zero refl refl
  home_is (suc n) = by_node (node_at w (suc n)) refl
    where
      by_address : (x : Node) → node_at w (suc n) ≡ Some x → (o : Option ℕ) → books.address_of k.book x.eui ≡ o → HomeIs (suc n) (booked (suc n) o)
      by_address x there None e = Far refl
      by_address x there (Some a) e = Booked x there e

      by_node : (o : Option Node) → node_at w (suc n) ≡ o → HomeIs (suc n) (home_at k.book (suc n) o)
      by_node None e = Far refl
      by_node (Some x) e = by_address x e (books.address_of k.book x.eui) refl

  small : (n : ℕ) (x : Node) (v : ℕ) → node_at w n ≡ Some x → books.address_of k.book x.eui ≡ Some v → v ≤ 999
  small n x v there e =
      let inside = within w.nodes n x there in
      let c = at_length w.nodes 0 (omega arith) in
      address_small k.book x.eui v (k.coordinator c.one c.is).book_kept.table.short e

  one_node : (i j v : ℕ) → HomeIs i v → HomeIs j v → i ≡ j
  one_node i j v (Zero e f) (Zero g h) = e ∙ sym g
  one_node i j v (Zero e f) (Booked y there is) = absurd (let low = above_nought k.book y.eui v is in omega arith)
  one_node i j v (Zero e f) (Far far) = absurd (omega arith)
  one_node i j v (Booked x there is) (Zero g h) = absurd (let low = above_nought k.book x.eui v is in omega arith)
  one_node i j v (Booked x hx ex) (Booked y hy ey) = k.apart i j x y hx hy (one_meter k.book x.eui y.eui v ex ey)
  one_node i j v (Booked x there is) (Far far) = absurd (let low = small i x v there is in omega arith)
  one_node i j v (Far far) (Zero g h) = absurd (omega arith)
  one_node i j v (Far far) (Booked y there is) = absurd (let low = small j y v there is in omega arith)
  one_node i j v (Far far) (Far other) = omega arith

  homes_apart : (i j : ℕ) → home_of k.book w i ≡ home_of k.book w j → i ≡ j
  homes_apart i j e = one_node i j (home_of k.book w i) (home_is i) (subst (HomeIs j) (sym e) (home_is j))

  homed_now : HomedAt (home_of k.book w) w
  homed_now = record { at = at_home }
    where
      at_home : (n : ℕ) (x c : Node) (b : books.Book) (a : ℕ) → n ≢ 0 → node_at w n ≡ Some x → node_at w 0 ≡ Some c → IsBookKept b c.store.records
          → books.address_of b x.eui ≡ Some a → home_of k.book w n ≡ a
      at_home zero x c b a ne there here kept e = absurd (ne refl)
      at_home (suc n) x c b a ne there here kept e =
          let same : k.book ≡ b = one_book k.book b c.store.records (k.coordinator c here).book_kept kept in
          ap (home_at k.book (suc n)) there ∙ ap (booked (suc n)) (ap (λ z. books.address_of z x.eui) same ∙ e)

-- # The homes of a run

-- Homes that hold along a run.
pub record HomesFor (w : World) (entries : List Entry) : Type 0 where
  pub home : ℕ → ℕ
  pub apart : (i j : ℕ) → home i ≡ home j → i ≡ j
  pub first : home 0 ≡ 0
  pub along : HomedAlong home w entries

-- Homes of one world.
pub record HomesAt (w : World) : Type 0 where
  pub home : ℕ → ℕ
  pub apart : (i j : ℕ) → home i ≡ home j → i ≡ j
  pub first : home 0 ≡ 0
  pub at : HomedAt home w

-- those of its book
pub homes_at : (w : World) (given : List Issued) → Keyed w given → HomesAt w
homes_at w given k = record { home = home_of k.book w; apart = homes_apart w given k; first = refl; at = homed_now w given k }

module _ (ciphers : Ciphers) (fits : KeepsRanges ciphers) where
  -- homes of the world after an event are homes of the world before it
  pub homed_back : (home : ℕ → ℕ) (w v : World) (given more : List Issued) (k : Keyed w given) (l : Keyed v more) → length w.nodes ≤ length v.nodes
      → (0 < length w.nodes → (c : Node) → node_at v 0 ≡ Some c → (b : books.Book) → IsBookKept b c.store.records → Grows k.book b)
      → (0 < length w.nodes → (n : ℕ) (y : Node) → n < length w.nodes → node_at v n ≡ Some y → (x : Node) × (node_at w n ≡ Some x) × (x.eui ≡ y.eui))
      → HomedAt home v → HomedAt home w
  homed_back home w v given more k l longer grows euis h = record {
    at = λ n y c b a ne there here kept e.
        let some : 0 < length w.nodes = within w.nodes 0 c here in
        let inside : n < length w.nodes = within w.nodes n y there in
        let z = at_length v.nodes n (omega arith) in
        let d = at_length v.nodes 0 (omega arith) in
        let was = euis some n z.one inside z.is in
        let same : y ≡ was.0 = same_Some _ _ (sym there ∙ was.1) in
        let stored = (l.coordinator d.one d.is).book_kept in
        let old : books.address_of k.book y.eui
        ≡ Some a = ap (λ u. books.address_of u y.eui) (one_book k.book b c.store.records (k.coordinator c here).book_kept kept) ∙ e in
        let new : books.address_of l.book y.eui ≡ Some a = grows some d.one d.is l.book stored y.eui a old in
        h.at n z.one d.one l.book a ne z.is d.is stored (subst (λ (u : Eui). books.address_of l.book u ≡ Some a) (ap (λ (q : Node). q.eui) same ∙ was.2) new);
  }
