-- Two nodes never have one address, and a node has the address that the book gives it.
use Rattle.std.proofs.Common.{◌≡◌, ◌≢◌, ⊎_elim, ℕ, ◌+◌, ◌<◌, false, List, [], get_or, Option, Some, None, refl, sym, ap, ◌∙◌, subst, arith}
use Rattle.std.specs.Prelude.{slice_get}
use Rattle.std.specs.Option.{option_map, option_and_then}
use Rattle.std.proofs.lemmas.Bool.{cases_eq}
use Rattle.std.proofs.lemmas.Option.{same_Some}
use Rattle.store_tables.proofs.SlotTables.{found}
use Rattle.plc_base.specs.declared.address.Eui.{Eui}
use Rattle.plc_base.specs.Grant.{Granted}
use Rattle.group_keys.specs.declared.key_book.BookEntry.{BookEntry}
use Rattle.group_keys.specs.KeyBook as books
use Rattle.group_keys.specs.KeyRing as ring
use Rattle.node_rules.specs.Memory.{Memory, Node, address_of, node_address}
use Rattle.line_rules.specs.Worlds.{World, Issued, node_at}
use Rattle.line_laws.specs.Stores.{IsKept}
use Rattle.line_laws.proofs.KeptMemory.{Left}
use Rattle.line_laws.proofs.Nodes.{NodeOk}
use Rattle.line_laws.proofs.Worlds.{WorldOk, at_place}
use Rattle.line_laws.proofs.AddressPuts.{RingIn}
use Rattle.line_laws.proofs.IssueNodes.{RingOk, Nought}
use Rattle.line_laws.proofs.IssueWorlds.{Keyed}

-- # The book

abbrev pub no_entry : BookEntry
no_entry = record { eui = record { 0 = [] }; psk = record { 0 = [] }; allowed = false; issued0 = None; issued1 = None }

-- the place of an address
record Placed (b : books.Book) (eui : Eui) (address : ℕ) : Type 0 where
  place : ℕ
  is : books.place_of b eui ≡ Some place
  next : place + 1 ≡ address

place_at : (b : books.Book) (eui : Eui) (address : ℕ) → books.address_of b eui ≡ Some address → Placed b eui address
place_at b eui address is = by_place (books.place_of b eui) refl is
  where
    by_place : (o : Option ℕ) → books.place_of b eui ≡ o → option_map (λ place. place + 1) o ≡ Some address → Placed b eui address
    by_place None e h = absurd (cc (h))
    by_place (Some place) e h = record { place = place; is = e; next = cc }

-- the book's addresses are distinct
pub one_meter : (b : books.Book) (x y : Eui) (address : ℕ) → books.address_of b x ≡ Some address → books.address_of b y ≡ Some address
    → books.eui_number x ≡ books.eui_number y
one_meter b x y address is_x is_y =
    let p = place_at b x address is_x in
    let q = place_at b y address is_y in
    let same : p.place ≡ q.place = omega (arith, p.next, q.next) in
    let at_p = found books.entries b (books.eui_number x) p.place no_entry p.is in
    let at_q = found books.entries b (books.eui_number y) q.place no_entry q.is in
    sym at_p.1 ∙ ap (λ n. books.entries.key (get_or b n no_entry)) same ∙ at_q.1

-- none of them is 0000
pub above_nought : (b : books.Book) (eui : Eui) (address : ℕ) → books.address_of b eui ≡ Some address → 0 < address
above_nought b eui address is = let p = place_at b eui address is in omega (arith, p.next)

-- # The nodes

module _ (w : World) (given : List Issued) (ok : WorldOk w) (k : Keyed w given) where
  -- what holds of the ring of the records holds of the address
  ring_address : (S : ring.Ring → Type 0) (T : ℕ → Type 0) → ((g : Granted) → S (Some g) → T g.address) → (n : ℕ) (x : Node) → node_at w n ≡ Some x
      → RingIn S x.store.records → (a : ℕ) → node_address x ≡ Some a → T a
  ring_address S T f n x there rings a = by_memory x.memory (at_place NodeOk w.nodes n x there ok.nodes).kept
    where
      by_ring : (r : ring.Ring) → S r → option_map (λ (g : Granted). g.address) r ≡ Some a → T a
      by_ring None s e = absurd (cc)
      by_ring (Some g) s e = subst T (same_Some _ _ e) (f g s)

      by_memory : (o : Option Memory) → Left (IsKept x.role) x.store.records o → option_and_then (λ (m : Memory). address_of m.station) o ≡ Some a → T a
      by_memory None q e = absurd (cc)
      by_memory (Some m) q e = by_ring m.station.ring (rings m.station.ring q.station.ring.stored) e

  -- a meter has the address that the book gives it
  pub meter_address : (n : ℕ) (x : Node) (a : ℕ) → n ≢ 0 → node_at w n ≡ Some x → node_address x ≡ Some a → books.address_of k.book x.eui ≡ Some a
  meter_address n x a ne there =
      ring_address (RingOk k.book given x.eui) (λ c. books.address_of k.book x.eui ≡ Some c) (λ g h. h.address) n x there (k.meters n x ne there).ring a

  -- the coordinator's is 0000
  pub coordinator_address : (c : Node) (a : ℕ) → node_at w 0 ≡ Some c → node_address c ≡ Some a → a ≡ 0
  coordinator_address c a there = ring_address Nought (λ b. b ≡ 0) (λ g h. h) 0 c there (k.coordinator c there).ring a

  -- a meter that the book does not know has none
  pub outsider_address : (n : ℕ) (x : Node) → n ≢ 0 → node_at w n ≡ Some x → books.address_of k.book x.eui ≡ None → node_address x ≡ None
  outsider_address n x ne there none = by_address (node_address x) refl
    where
      by_address : (o : Option ℕ) → node_address x ≡ o → o ≡ None
      by_address None e = refl
      by_address (Some a) e = absurd (some a (sym none ∙ meter_address n x a ne there e))
        where
          some : (a : ℕ) → None ≡ Some a → ⊥
          some a e = cc

  -- two nodes never have one address
  pub addresses_differ : (i j : ℕ) (x y : Node) (a : ℕ) → node_at w i ≡ Some x → node_at w j ≡ Some y → node_address x ≡ Some a → node_address y ≡ Some a
      → i ≡ j
  addresses_differ i j x y a hx hy ex ey = ⊎_elim
      (λ (e : i ≡ 0). ⊎_elim
      (λ (f : j ≡ 0). e ∙ sym f)
      (λ (g : j ≢ 0). absurd (let low = coordinator_address x a (ap (slice_get w.nodes) (sym e) ∙ hx) ex in
      let high = above_nought k.book y.eui a (meter_address j y a g hy ey) in omega arith))
      (cases_eq j 0))
      (λ (g : i ≢ 0). ⊎_elim
      (λ (f : j ≡ 0). absurd (let low = coordinator_address y a (ap (slice_get w.nodes) (sym f) ∙ hy) ey in
      let high = above_nought k.book x.eui a (meter_address i x a g hx ex) in omega arith))
      (λ (h : j ≢ 0). k.apart i j x y hx hy (one_meter k.book x.eui y.eui a (meter_address i x a g hx ex) (meter_address j y a h hy ey)))
      (cases_eq j 0))
      (cases_eq i 0)
