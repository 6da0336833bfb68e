-- What holds of the keys of nodes, and that carrying out a plan keeps it.
use Rattle.std.proofs.Common.{◌≡◌, ⊎_elim, ℕ, ◌+◌, ◌≤◌, Bool, true, false, List, [], ◌++◌, length, Option, Some, None, Result, Ok, Err, refl, sym, ap, ◌∙◌}
use Rattle.std.proofs.Common.{subst, arith}
use Rattle.std.specs.Prelude.{if◌then◌else◌, IfSome, not}
use Rattle.std.specs.List.{list_any}
use Rattle.std.specs.Option.{option_map, option_map_or, option_and_then}
use Rattle.std.proofs.lemmas.Bool.{and_parts, eqb-true}
use Rattle.std.proofs.lemmas.Option.{same_Some}
use Rattle.std.proofs.lemmas.Slice.Eq.{bytes_eq-Decides}
use Rattle.plc_base.specs.declared.address.Eui.{Eui}
use Rattle.plc_base.specs.declared.key.Key.{Key}
use Rattle.plc_base.specs.declared.key.RandomOctets.{RandomOctets}
use Rattle.plc_base.specs.declared.tags.PairTag.{PairTag}
use Rattle.plc_base.specs.declared.tags.PairTag.TheVariants as tags
use Rattle.plc_base.specs.Grant.{Granted}
use Rattle.store_tables.specs.SlotTables as slots
use Rattle.group_keys.specs.KeyRing as ring
use Rattle.group_keys.specs.KeyBook as book
use Rattle.joining_messages.specs.Grants.{IsGranted, IsPlace, grant_spelling}
use Rattle.joining_messages.proofs.GrantReadings.{grant_read}
use Rattle.eap_psk.specs.Messages.{granting_text}
use Rattle.eap_psk.specs.Tags.{granting_tag}
use Rattle.eap_psk.specs.declared.server.Agreed.{Agreed}
use Rattle.line_rules.specs.Answers.{SentGrant}
use Rattle.node_rules.specs.Memory.{Memory, Coordinator, Node}
use Rattle.node_rules.specs.Plans.{Plan, Outcome, carry_out}
use Rattle.node_rules.specs.Laws.{IsWhole, IsCutOff}
use Rattle.group_keys.specs.declared.key_book.BookEntry.{BookEntry}
use Rattle.group_keys.proofs.Books.{address_kept}
use Rattle.node_rules.specs.declared.refusal.CoordinatorRefusal.{CoordinatorRefusal}
use Rattle.node_rules.specs.declared.refusal.CoordinatorRefusal.TheVariants as refusal
use Rattle.node_rules.specs.Plans.{resting}
use Rattle.node_rules.specs.Drafts.{Draft, empty_draft, choose, refused, with_ring, sealing}
use Rattle.node_rules.specs.MemoryDrafts.{in_memory}
use Rattle.node_rules.specs.Meters.{provision}
use Rattle.node_rules.specs.Coordinators.{grant_for, depot, depot_by, changed, with_book_entry, orders}
use Rattle.line_rules.specs.Worlds.{Issued, same_tag, is_forged_tag}
use Rattle.node_rules.specs.NodeSteps.{NodeStep, acts, stays, left_by}
use Rattle.line_rules.specs.Steps.{issued_at, issued_by, issued_of}
use Rattle.node_rules.proofs.FailedWrites.{clean}
use Rattle.line_laws.specs.Stores.{IsHeld, IsReadable, IsKept}
use Rattle.line_laws.proofs.KeptMemory.{Left, Leads, carried}
use Rattle.line_laws.proofs.Nodes.{NodeOk}
use Rattle.line_laws.proofs.Answered.{granted_readable}
use Rattle.line_laws.proofs.AddressPuts.{RingIn, RingWrites, Puts, counter_away, writes_weaker, carried_in}
use Rattle.line_laws.proofs.AddressBook.{Grows, Grown, one_book}
use Rattle.line_laws.proofs.IssueWords.{Among, Here, Each, Found, among_left, among_right, each_weaker, none_any, any_found}
use Rattle.line_laws.proofs.IssueMeters.{IsSame, Held, Opened, From, PeerIs, MeterTag, Second, Fourth, MeterPlan}
use Rattle.line_laws.proofs.IssueCoordinator.{CoordinatorTag, ServerMac, Third}
pub use Rattle.line_laws.specs.Keyed.{IsGivenTo, GivenAt, GrantOk, RingOk, TextOk, TagOk, MeterOk, Nought, CoordinatorOk}

-- # It stays so

given_more : (given more : List Issued) (eui : Eui) (index : ℕ) (k : Option Key) → GivenAt given eui index k → GivenAt (given ++ more) eui index k
given_more given more eui index None h = tt
given_more given more eui index (Some key) h = record { one = h.one; among = among_left h.one given more h.among; to = h.to; at = h.at; key_is = h.key_is }

module _ (b c : book.Book) (given more : List Issued) (grows : Grows b c) where
  pub grant_later : (eui : Eui) (g : Granted) → GrantOk b given eui g → GrantOk c (given ++ more) eui g
  grant_later eui g h =
      record { address = grows eui g.address h.address; key0 = given_more given more eui 0 g.key0 h.key0; key1 = given_more given more eui 1 g.key1 h.key1 }

  pub ring_later : (eui : Eui) (r : ring.Ring) → RingOk b given eui r → RingOk c (given ++ more) eui r
  ring_later eui None h = tt
  ring_later eui (Some g) h = grant_later eui g h

  pub tag_later : (t : PairTag) → TagOk b given t → TagOk c (given ++ more) t
  tag_later (tags.MacP eui octets) h = tt
  tag_later (tags.MacS eui octets) h = tt
  tag_later (tags.Channel eui rand_p nonce header text) h =
      λ e. let x = h e in record { granted = x.granted; is = x.is; readable = x.readable; right = grant_later eui x.granted x.right }

-- # The grant of a tag that was found right

pub place_is : (k : Option Key) → IsHeld k → IsPlace k
place_is None h = tt
place_is (Some key) h = omega (arith, h.0)

pub is_granted : (g : Granted) → IsReadable g → IsGranted g
is_granted g h = record { address = h.address; active = h.grant; first = place_is g.key0 h.key0; second = place_is g.key1 h.key1 }

pub text_same : (g h : Granted) → IsReadable g → IsReadable h → granting_text g ≡ granting_text h → g ≡ h
text_same g h hg hh e =
    let lists : grant_spelling g ≡ grant_spelling h = cc (e) in
    same_Some g h (sym (grant_read g (grant_spelling g) (is_granted g hg, refl)) ∙ grant_read h (grant_spelling g) (is_granted h hh, lists))

same_number : (b : book.Book) (given : List Issued) (x y : Eui) (g : Granted) → book.eui_number x ≡ book.eui_number y → GrantOk b given x g
    → GrantOk b given y g
same_number b given x y g same h = record {
  address = ap (λ k. option_map (λ (place : ℕ). place + 1) (slots.place_of book.entries b k)) (sym same) ∙ h.address;
  key0 = given_to 0 g.key0 h.key0;
  key1 = given_to 1 g.key1 h.key1;
}
  where
    given_to : (index : ℕ) (k : Option Key) → GivenAt given x index k → GivenAt given y index k
    given_to index None q = tt
    given_to index (Some key) q = record { one = q.one; among = q.among; to = q.to ∙ same; at = q.at; key_is = q.key_is }

same_grant : (b : book.Book) (given : List Issued) (eui : Eui) (g r : Granted) → IsSame g r → GrantOk b given eui r → GrantOk b given eui g
same_grant b given eui g r same h = record {
  address = h.address ∙ ap Some (sym same.address);
  key0 = subst (GivenAt given eui 0) (sym same.key0) h.key0;
  key1 = subst (GivenAt given eui 1) (sym same.key1) h.key1;
}

-- each tag that was found right is one that was made
abbrev pub AllMade : List PairTag → List PairTag → Type 0
AllMade made opened = (t : PairTag) → Among t opened → list_any (same_tag t) made ≡ true

pub all_made : (made opened : List PairTag) → list_any (is_forged_tag made) opened ≡ false → AllMade made opened
all_made made opened e t among = by_not (list_any (same_tag t) made) (none_any (is_forged_tag made) t opened among e)
  where
    by_not : (x : Bool) → not x ≡ false → x ≡ true
    by_not true h = refl
    by_not false h = absurd (cc)

module _ (b : book.Book) (given : List Issued) (eui : Eui) where
  pub found_grant : (i : ℕ) (s p : RandomOctets) (r : Granted) → IsReadable r → Found (TagOk b given) (same_tag (granting_tag eui i s p (granting_text r)))
      → GrantOk b given eui r
  found_grant i s p r readable f = by_tag f.one f.passes f.is
    where
      by_tag : (t : PairTag) → same_tag (granting_tag eui i s p (granting_text r)) t ≡ true → TagOk b given t → GrantOk b given eui r
      by_tag (tags.MacP e o) same h = absurd (cc)
      by_tag (tags.MacS e o) same h = absurd (cc)
      by_tag (tags.Channel e q n header text) same h =
          let one = and_parts _ _ same in
          let two = and_parts _ _ one.1 in
          let three = and_parts _ _ two.1 in
          let four = and_parts _ _ three.1 in
          let nought : n ≡ 0 = sym (eqb-true _ _ three.0) in
          let x = h nought in
          let texts : granting_text r ≡ text = (bytes_eq-Decides (granting_text r) text).0 four.1 in
          let this : r ≡ x.granted = text_same r x.granted readable x.readable (texts ∙ x.is) in
          let numbers : book.eui_number e ≡ book.eui_number eui = sym (eqb-true _ _ one.0) in
          same_number b given e eui r numbers (subst (GrantOk b given e) (sym this) x.right)

  pub from_ok : (old : ring.Ring) (made opened : List PairTag) → RingOk b given eui old → AllMade made opened → Each (TagOk b given) made → (x : ring.Ring)
      → From eui old opened x → RingOk b given eui x
  from_ok old made opened h right each None f = tt
  from_ok old made opened h right each (Some g) (Held r is same) = same_grant b given eui g r same (subst (RingOk b given eui) is h)
  from_ok old made opened h right each (Some g) (Opened i s p r among readable same) =
      same_grant b given eui g r same
      (found_grant i s p r readable (any_found (TagOk b given) (same_tag (granting_tag eui i s p (granting_text r))) made (right _ among) each))

-- # A meter

-- a meter makes no tag with nonce 0
meter_tag : (b : book.Book) (given : List Issued) (eui : Eui) (took : Option Agreed) (t : PairTag) → MeterTag eui took t → TagOk b given t
meter_tag b given eui took t (Second octets) = tt
meter_tag b given eui took t (Fourth i s p e) = λ k. absurd (cc)

pub record MeterDid (b : book.Book) (given : List Issued) (x : Node) {A : Type 0} (d : NodeStep A) : Type 0 where
  pub node : MeterOk b given d.node
  pub eui : d.node.eui ≡ x.eui
  pub role : d.node.role ≡ x.role
  pub made : Each (TagOk b given) d.made

module _ (b : book.Book) (given : List Issued) where
  pub meter_acts : {A : Type 0} (x : Node) (halted : A) (plan : Memory → Plan Memory A) (made : List PairTag) → NodeOk x → MeterOk b given x
      → Each (TagOk b given) made → AllMade made (acts x halted plan).opened
      → (took : A → Option Agreed) → ((m : Memory) → x.memory ≡ Some m → IsKept x.role m x.store.records → PeerIs x.eui m.session
      → MeterPlan x.eui m.station.ring (took (plan m).answer) (plan m)) → MeterDid b given x (acts x halted plan)
  unfolding acts
  meter_acts {A = A} x halted plan made ok h each right took f = by_memory x.memory refl ok.kept h.session right
    where
      by_outcome : (m : Memory) → x.memory ≡ Some m → IsKept x.role m x.store.records → PeerIs x.eui m.session
          → AllMade made (carry_out x.store.records x.store.cut (plan m)).opened
          → MeterDid b given x (left_by x (carry_out x.store.records x.store.cut (plan m)))
      by_outcome m there kept session all =
          let p = f m there kept session in
          let old : RingOk b given x.eui m.station.ring = h.ring m.station.ring kept.station.ring.stored in
          let o : Outcome Memory A = carry_out x.store.records x.store.cut (plan m) in
          let c = clean x.store.records x.store.cut (plan m) in
          let opened : o.opened ≡ (plan m).opened = ⊎_elim (λ (w : IsWhole x.store.records x.store.cut (plan m) o). w.opened)
          (λ (w : IsCutOff x.store.records x.store.cut (plan m) o). w.opened) c in
          let puts = writes_weaker (From x.eui m.station.ring (plan m).opened) (RingOk b given x.eui)
          (from_ok b given x.eui m.station.ring made (plan m).opened old (subst (AllMade made) opened all) each) (plan m).puts p.puts in
          record {
            node = record {
              ring = carried_in (RingOk b given x.eui) x.store.records x.store.cut (plan m) puts h.ring;
              session = ⊎_elim (λ (w : IsWhole x.store.records x.store.cut (plan m) o). subst (λ q. IfSome q (λ (n : Memory). PeerIs x.eui n.session))
                  (sym w.memory) p.session)
                  (λ (w : IsCutOff x.store.records x.store.cut (plan m) o). subst (λ q. IfSome q (λ (n : Memory). PeerIs x.eui n.session)) (sym w.memory) tt) c;
            };
            eui = refl;
            role = refl;
            made = ⊎_elim (λ (w : IsWhole x.store.records x.store.cut (plan m) o). subst (Each (TagOk b given)) (sym w.made)
                (each_weaker (MeterTag x.eui (took (plan m).answer)) (TagOk b given) (meter_tag b given x.eui (took (plan m).answer)) (plan m).made p.made))
                (λ (w : IsCutOff x.store.records x.store.cut (plan m) o). subst (Each (TagOk b given)) (sym w.made) tt) c;
          }

      by_memory : (o : Option Memory) → x.memory ≡ o → Left (IsKept x.role) x.store.records o → IfSome o (λ m. PeerIs x.eui m.session)
          → AllMade made (option_map_or (λ m. left_by x (carry_out x.store.records x.store.cut (plan m))) o (stays x halted)).opened
          → MeterDid b given x (option_map_or (λ m. left_by x (carry_out x.store.records x.store.cut (plan m))) o (stays x halted))
      by_memory None there kept session all = record {
        node = record { ring = h.ring; session = subst (λ q. IfSome q (λ (n : Memory). PeerIs x.eui n.session)) (sym there) tt };
        eui = refl;
        role = refl;
        made = tt;
      }
      by_memory (Some m) there kept session all = by_outcome m there kept session all

-- What a plan of a meter leaves, whatever it opens.
pub record MeterSound (b : book.Book) (given : List Issued) (eui : Eui) {A : Type 0} (p : Plan Memory A) : Type 0 where
  pub puts : RingWrites (RingOk b given eui) p.puts
  pub session : PeerIs eui p.memory.session
  pub made : Each (TagOk b given) p.made

module _ (b : book.Book) (given : List Issued) where
  pub sound_acts : {A : Type 0} (x : Node) (halted : A) (plan : Memory → Plan Memory A) → NodeOk x → RingIn (RingOk b given x.eui) x.store.records
      → IfSome x.memory (λ m. PeerIs x.eui m.session)
      → ((m : Memory) → x.memory ≡ Some m → IsKept x.role m x.store.records → PeerIs x.eui m.session → RingOk b given x.eui m.station.ring
      → MeterSound b given x.eui (plan m)) → MeterDid b given x (acts x halted plan)
  unfolding acts
  sound_acts {A = A} x halted plan ok rings peer f = by_memory x.memory refl ok.kept peer
    where
      by_outcome : (m : Memory) → x.memory ≡ Some m → IsKept x.role m x.store.records → PeerIs x.eui m.session
          → MeterDid b given x (left_by x (carry_out x.store.records x.store.cut (plan m)))
      by_outcome m there kept session =
          let p = f m there kept session (rings m.station.ring kept.station.ring.stored) in
          let o : Outcome Memory A = carry_out x.store.records x.store.cut (plan m) in
          let c = clean x.store.records x.store.cut (plan m) in
          record {
            node = record {
              ring = carried_in (RingOk b given x.eui) x.store.records x.store.cut (plan m) p.puts rings;
              session = ⊎_elim (λ (w : IsWhole x.store.records x.store.cut (plan m) o). subst (λ q. IfSome q (λ (n : Memory). PeerIs x.eui n.session))
                  (sym w.memory) p.session)
                  (λ (w : IsCutOff x.store.records x.store.cut (plan m) o). subst (λ q. IfSome q (λ (n : Memory). PeerIs x.eui n.session)) (sym w.memory) tt) c;
            };
            eui = refl;
            role = refl;
            made = ⊎_elim (λ (w : IsWhole x.store.records x.store.cut (plan m) o). subst (Each (TagOk b given)) (sym w.made) p.made)
                (λ (w : IsCutOff x.store.records x.store.cut (plan m) o). subst (Each (TagOk b given)) (sym w.made) tt) c;
          }

      by_memory : (o : Option Memory) → x.memory ≡ o → Left (IsKept x.role) x.store.records o → IfSome o (λ m. PeerIs x.eui m.session)
          → MeterDid b given x (option_map_or (λ m. left_by x (carry_out x.store.records x.store.cut (plan m))) o (stays x halted))
      by_memory None there kept session = record {
        node = record { ring = rings; session = subst (λ q. IfSome q (λ (n : Memory). PeerIs x.eui n.session)) (sym there) tt };
        eui = refl;
        role = refl;
        made = tt;
      }
      by_memory (Some m) there kept session = by_outcome m there kept session

-- # The coordinator

-- What a node did as the coordinator: the book has grown, and its tags are of what was issued.
pub record CoordinatorDid (b : book.Book) (given more : List Issued) (x : Node) {A : Type 0} (d : NodeStep A) : Type 0 where
  pub book : book.Book
  pub node : CoordinatorOk book d.node
  pub grows : Grows b book
  pub eui : d.node.eui ≡ x.eui
  pub made : Each (TagOk book (given ++ more)) d.made

-- What a plan of the coordinator does.
pub record CoordinatorPlan (b : book.Book) (m : Memory) (keyed : Option SentGrant) {A : Type 0} (p : Plan Memory A) : Type 0 where
  pub leads : Leads (Grown (Grows b)) m p.puts p.memory
  pub ring : RingWrites Nought p.puts
  pub made : Each (CoordinatorTag m keyed) p.made

at_index : (given : List Issued) (eui : Eui) (g : Granted) (key : Key) → g.key0 ≡ Some key → IsGivenTo (given ++ issued_by eui g) eui 0 key
at_index given eui g key e =
    let one : Issued = record { eui = eui; index = 0; key = key } in
    let there : Among one (issued_by eui g) = subst (λ k. Among one (issued_at eui 0 k ++ issued_at eui 1 g.key1)) (sym e) (Here (issued_at eui 1 g.key1)) in
    record { one = one; among = among_right one given (issued_by eui g) there; to = refl; at = refl; key_is = refl }

at_next : (given : List Issued) (eui : Eui) (g : Granted) (key : Key) → g.key1 ≡ Some key → IsGivenTo (given ++ issued_by eui g) eui 1 key
at_next given eui g key e =
    let one : Issued = record { eui = eui; index = 1; key = key } in
    let there : Among one (issued_by eui g) = subst (λ k. Among one (issued_at eui 0 g.key0 ++ issued_at eui 1 k)) (sym e)
    (among_right one (issued_at eui 0 g.key0) _ (Here [])) in
    record { one = one; among = among_right one given (issued_by eui g) there; to = refl; at = refl; key_is = refl }

pub issued_keys : (given : List Issued) (eui : Eui) (g : Granted)
    → GivenAt (given ++ issued_by eui g) eui 0 g.key0 × GivenAt (given ++ issued_by eui g) eui 1 g.key1
issued_keys given eui g = (first g.key0 refl, second g.key1 refl)
  where
    first : (k : Option Key) → g.key0 ≡ k → GivenAt (given ++ issued_by eui g) eui 0 k
    first None e = tt
    first (Some key) e = at_index given eui g key e

    second : (k : Option Key) → g.key1 ≡ k → GivenAt (given ++ issued_by eui g) eui 1 k
    second None e = tt
    second (Some key) e = at_next given eui g key e

-- the address of a grant is the book's
pub granted_address : (r : ring.Ring) (b : book.Book) (eui : Eui) (g : Granted)
    → option_and_then (λ address. option_map (λ (x : Granted). record x { address = address }) r) (book.address_of b eui) ≡ Some g
    → book.address_of b eui ≡ Some g.address
granted_address r b eui g = by_place (book.address_of b eui) r
  where
    by_place : (o : Option ℕ) (r : ring.Ring) → option_and_then (λ address. option_map (λ (x : Granted). record x { address = address }) r) o ≡ Some g
        → o ≡ Some g.address
    by_place None r e = absurd (cc)
    by_place (Some a) None e = absurd (cc)
    by_place (Some a) (Some x) e = let same : record x { address = a } ≡ g = same_Some _ _ e in ap (λ (y : Granted). Some y.address) same

coordinator_tag : (b c : book.Book) (given : List Issued) (m : Memory) (keyed : Option SentGrant) → IfSome m.station.ring IsReadable → length m.book ≤ 999
    → m.book ≡ b → Grows b c → (t : PairTag) → CoordinatorTag m keyed t → TagOk c (given ++ issued_of keyed) t
coordinator_tag b c given m keyed reads short same grows t (ServerMac eui octets) = tt
coordinator_tag b c given m keyed reads short same grows t (Third eui i s p granted is grant) = λ e.
    let address : book.address_of m.book eui ≡ Some granted.address = granted_address m.station.ring m.book eui granted grant in
    let keys = issued_keys given eui granted in
    record {
      granted = granted;
      is = refl;
      readable = granted_readable m.station.ring m.book eui granted reads short grant;
      right = subst (λ o. GrantOk c (given ++ issued_of o) eui granted) (sym is)
          (record {
            address = grows eui granted.address (subst (λ x. book.address_of x eui ≡ Some granted.address) same address);
            key0 = keys.0;
            key1 = keys.1;
          });
    }

module _ (b : book.Book) (given : List Issued) where
  pub coordinator_acts : {A : Type 0} (x : Node) (halted : A) (plan : Memory → Plan Memory A) (more : List Issued) → NodeOk x → CoordinatorOk b x
      → (keyed : A → Option SentGrant)
      → ((m : Memory) → x.memory ≡ Some m → (acts x halted plan).answer ≡ (plan m).answer → issued_of (keyed (plan m).answer) ≡ more)
      → ((m : Memory) → x.memory ≡ Some m → IsKept Coordinator m x.store.records → CoordinatorPlan b m (keyed (plan m).answer) (plan m))
      → CoordinatorDid b given more x (acts x halted plan)
  unfolding acts
  coordinator_acts {A = A} x halted plan more ok h keyed said f =
      by_memory x.memory refl (subst (λ role. Left (IsKept role) x.store.records x.memory) h.role ok.kept) said
    where
      book_of : (o : Outcome Memory A) → Left (Grown (Grows b)) o.records o.memory → RingIn Nought o.records
          → (made : (c : book.Book) → Grows b c → Each (TagOk c (given ++ more)) o.made) → CoordinatorDid b given more x (left_by x o)
      book_of o left ring made = by_left o.memory left
        where
          by_left : (q : Option Memory) → Left (Grown (Grows b)) o.records q → CoordinatorDid b given more x (left_by x o)
          by_left None k = record {
            book = k.memory.book;
            node = record { role = h.role; book_kept = k.kept.kept.book; ring = ring };
            grows = k.kept.grows;
            eui = refl;
            made = made k.memory.book k.kept.grows;
          }
          by_left (Some n) k = record {
            book = n.book;
            node = record { role = h.role; book_kept = k.kept.book; ring = ring };
            grows = k.grows;
            eui = refl;
            made = made n.book k.grows;
          }

      by_outcome : (m : Memory) → x.memory ≡ Some m → IsKept Coordinator m x.store.records
          → ((carry_out x.store.records x.store.cut (plan m)).answer ≡ (plan m).answer → issued_of (keyed (plan m).answer) ≡ more)
          → CoordinatorDid b given more x (left_by x (carry_out x.store.records x.store.cut (plan m)))
      by_outcome m there kept said =
          let p = f m there kept in
          let o : Outcome Memory A = carry_out x.store.records x.store.cut (plan m) in
          let c = clean x.store.records x.store.cut (plan m) in
          let same : m.book ≡ b = one_book m.book b x.store.records kept.book h.book_kept in
          let old : Grown (Grows b) m x.store.records =
          record { kept = kept; grows = λ eui a e. subst (λ (y : book.Book). book.address_of y eui ≡ Some a) (sym same) e } in
          book_of o (carried (Grown (Grows b)) x.store.records x.store.cut (plan m) m old p.leads)
          (carried_in Nought x.store.records x.store.cut (plan m) p.ring h.ring)
          (λ d grows. ⊎_elim
          (λ (w : IsWhole x.store.records x.store.cut (plan m) o). subst (Each (TagOk d (given ++ more))) (sym w.made)
          (each_weaker (CoordinatorTag m (keyed (plan m).answer)) (TagOk d (given ++ more))
          (λ t k. subst (λ l. TagOk d (given ++ l) t) (said w.answer)
          (coordinator_tag b d given m (keyed (plan m).answer) kept.station.range.ring kept.book.table.short same grows t k)) (plan m).made p.made))
          (λ (w : IsCutOff x.store.records x.store.cut (plan m) o). subst (Each (TagOk d (given ++ more))) (sym w.made) tt) c)

      by_memory : (q : Option Memory) → x.memory ≡ q → Left (IsKept Coordinator) x.store.records q
          → ((m : Memory) → q ≡ Some m → (option_map_or (λ m. left_by x (carry_out x.store.records x.store.cut (plan m))) q (stays x halted)).answer
          ≡ (plan m).answer → issued_of (keyed (plan m).answer) ≡ more)
          → CoordinatorDid b given more x (option_map_or (λ m. left_by x (carry_out x.store.records x.store.cut (plan m))) q (stays x halted))
      by_memory None there kept said = record { book = b; node = h; grows = λ eui a e. e; eui = refl; made = tt }
      by_memory (Some m) there kept said = by_outcome m there kept (said m refl)

-- a node whose plan opens nothing opens nothing
pub acts_opened : {A : Type 0} (x : Node) (halted : A) (plan : Memory → Plan Memory A) → ((m : Memory) → (plan m).opened ≡ [])
    → (acts x halted plan).opened ≡ []
unfolding acts
acts_opened {A = A} x halted plan none = by_memory x.memory
  where
    by_memory : (o : Option Memory) → (option_map_or (λ m. left_by x (carry_out x.store.records x.store.cut (plan m))) o (stays x halted)).opened ≡ []
    by_memory None = refl
    by_memory (Some m) = ⊎_elim (λ (w : IsWhole x.store.records x.store.cut (plan m) (carry_out x.store.records x.store.cut (plan m))). w.opened ∙ none m)
        (λ (c : IsCutOff x.store.records x.store.cut (plan m) (carry_out x.store.records x.store.cut (plan m))). c.opened ∙ none m)
        (clean x.store.records x.store.cut (plan m))

-- the ring of a node that carries out a plan
pub acts_ring : {A : Type 0} (S : ring.Ring → Type 0) (x : Node) (halted : A) (plan : Memory → Plan Memory A) → ((m : Memory) → RingWrites S (plan m).puts)
    → RingIn S x.store.records → RingIn S (acts x halted plan).node.store.records
unfolding acts
acts_ring {A = A} S x halted plan puts h = by_memory x.memory
  where
    by_memory : (o : Option Memory)
        → RingIn S (option_map_or (λ m. left_by x (carry_out x.store.records x.store.cut (plan m))) o (stays x halted)).node.store.records
    by_memory None = h
    by_memory (Some m) = carried_in S x.store.records x.store.cut (plan m) (puts m) h

-- a good answer leaves the plan's memory
pub record Whole {A E : Type 0} (x : Node) (reason : E) (plan : Memory → Plan Memory (Result A E)) (g : A) : Type 0 where
  pub memory : Memory
  pub there : x.memory ≡ Some memory
  pub is : (plan memory).answer ≡ Ok g
  pub leaves : (acts x (Err reason) plan).node.memory ≡ Some (plan memory).memory

pub acts_whole : {A E : Type 0} (x : Node) (reason store : E) (plan : Memory → Plan Memory (Result A E)) → ((m : Memory) → (plan m).failed ≡ Err store)
    → (g : A) → (acts x (Err reason) plan).answer ≡ Ok g → Whole x reason plan g
unfolding acts
acts_whole {A = A} {E = E} x reason store plan failed g e = by_memory x.memory refl e
  where
    not_ok : (s : E) (a : A) → Err s ≡ Ok a → ⊥
    not_ok s a e = cc

    by_memory : (o : Option Memory) → x.memory ≡ o
        → (option_map_or (λ m. left_by x (carry_out x.store.records x.store.cut (plan m))) o (stays x (Err reason))).answer ≡ Ok g → Whole x reason plan g
    by_memory None there h = absurd (not_ok reason g h)
    by_memory (Some m) there h = ⊎_elim
        (λ (w : IsWhole x.store.records x.store.cut (plan m) (carry_out x.store.records x.store.cut (plan m))). record {
          memory = m;
          there = there;
          is = sym w.answer ∙ h;
          leaves = subst (λ o. (option_map_or (λ n. left_by x (carry_out x.store.records x.store.cut (plan n))) o (stays x (Err reason))).node.memory
              ≡ Some (plan m).memory) (sym there) w.memory;
        })
        (λ (c : IsCutOff x.store.records x.store.cut (plan m) (carry_out x.store.records x.store.cut (plan m))). absurd
        (not_ok store g (sym (failed m) ∙ sym c.answer ∙ h)))
        (clean x.store.records x.store.cut (plan m))

-- the address of a workshop's grant is the book's afterwards
module _ (m : Memory) (eui : Eui) (psk : Key) (g : Granted) where
  refused_not : (reason : CoordinatorRefusal) → (refused {H = Granted} orders m reason).answer ≡ Ok g → ⊥
  unfolding resting
  refused_not reason e = not_ok reason g e
    where
      not_ok : (s : CoordinatorRefusal) (a : Granted) → Err s ≡ Ok a → ⊥
      not_ok s a e = cc

  entered_address : (d : Draft Memory) (granted : Granted) (e : BookEntry) → book.address_of d.memory.book eui ≡ Some granted.address
      → book.address_of (with_book_entry e d).memory.book eui ≡ Some granted.address
  unfolding with_book_entry
  entered_address d granted e h = address_kept d.memory.book e eui granted.address h

  by_doing : (d : Draft Memory) → (depot_by m eui psk d).answer ≡ Ok g → book.address_of (depot_by m eui psk d).memory.book eui ≡ Some g.address
  by_doing d = by_grant (grant_for d.memory eui) refl
    where
      by_entry : (granted : Granted) (o : Option BookEntry) → grant_for d.memory eui ≡ Some granted
          → let p : Plan Memory (Result Granted CoordinatorRefusal) = option_map_or
          (λ e. sealing in_memory orders (with_book_entry (book.issued_entry eui granted e) d) granted) o (refused orders m refusal.MetersFull) in
          p.answer ≡ Ok g → book.address_of p.memory.book eui ≡ Some g.address
      by_entry granted None is e = absurd (refused_not _ e)
      by_entry granted (Some x) is e =
          let this : granted ≡ g = cc in
          subst (λ (y : Granted). book.address_of (with_book_entry (book.issued_entry eui granted x) d).memory.book eui ≡ Some y.address) this
          (entered_address d granted (book.issued_entry eui granted x) (granted_address d.memory.station.ring d.memory.book eui granted is))

      by_grant : (o : Option Granted) → grant_for d.memory eui ≡ o
          → let p : Plan Memory (Result Granted CoordinatorRefusal) = option_map_or
          (λ granted. option_map_or (λ e. sealing in_memory orders (with_book_entry (book.issued_entry eui granted e) d) granted)
          (book.allowed_one d.memory.book eui) (refused orders m refusal.MetersFull)) o (refused orders m refusal.MetersFull) in
          p.answer ≡ Ok g → book.address_of p.memory.book eui ≡ Some g.address
      by_grant None is e = absurd (refused_not _ e)
      by_grant (Some granted) is e = by_entry granted (book.allowed_one d.memory.book eui) is e

  pub depot_address : (depot m eui psk).answer ≡ Ok g → book.address_of (depot m eui psk).memory.book eui ≡ Some g.address
  unfolding choose
  depot_address = by_room (book.has_room m.book eui)
    where
      by_room : (b : Bool) → let p : Plan Memory (Result Granted CoordinatorRefusal) =
          (if b then depot_by m eui psk (changed m (book.allowed_entry eui psk (book.entry_for m.book eui))) else refused orders m refusal.MetersFull) in
          p.answer ≡ Ok g → book.address_of p.memory.book eui ≡ Some g.address
      by_room true e = by_doing (changed m (book.allowed_entry eui psk (book.entry_for m.book eui))) e
      by_room false e = absurd (refused_not _ e)

-- the grant of the workshop is installed
pub installs_ring : (S : ring.Ring → Type 0) (m : Memory) (g : Granted) → IsReadable g → S (Some g) → RingWrites S (provision m g).puts
unfolding empty_draft with_ring
installs_ring S m g readable s = (Puts (Some g) readable s, counter_away S m.station.counter 0)

pub installs_rest : (m : Memory) (g : Granted) → ((provision m g).memory.session ≡ m.session) × ((provision m g).made ≡ [])
unfolding empty_draft with_ring
installs_rest m g = (refl, refl)
