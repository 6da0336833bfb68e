-- The parts of addresses and of issued keys, and that what a node does keeps them.
use Rattle.std.proofs.Common.{◌≡◌, ◌≢◌, ⊎_elim, ℕ, List, [], ◌++◌, length, Some, refl, sym, ap, ◌∙◌, subst, arith}
use Rattle.std.specs.Prelude.{slice_get, slice_set}
use Rattle.std.proofs.lemmas.Bool.{cases_eq}
use Rattle.std.proofs.lemmas.List.{length-set}
use Rattle.std.proofs.lemmas.Option.{same_Some}
use Rattle.store_tables.proofs.SlotTables.{slice_get-set, slice_get-set_other}
use Rattle.group_keys.specs.KeyBook as books
use Rattle.node_rules.specs.Ciphers.{Ciphers}
use Rattle.node_rules.specs.Memory.{Node}
use Rattle.line_rules.specs.Worlds.{World, Issued, node_at}
use Rattle.node_rules.specs.NodeSteps.{NodeStep}
use Rattle.line_rules.specs.Steps.{world_after}
use Rattle.line_events.specs.Events.{IsEui}
use Rattle.line_laws.proofs.Worlds.{within as place_within}
use Rattle.line_laws.proofs.IssueWords.{Each, each_append, each_weaker}
use Rattle.line_laws.proofs.IssueNodes.{TagOk, MeterOk, MeterDid, CoordinatorOk, CoordinatorDid, ring_later, tag_later}
pub use Rattle.line_laws.specs.Keyed.{IsMeter, Keyed}

-- the same nodes and tags
pub same_keyed : (w v : World) (given : List Issued) → Keyed w given → v.nodes ≡ w.nodes → v.made ≡ w.made → Keyed v given
same_keyed w v given k e f = record {
  book = k.book;
  coordinator = λ c is. k.coordinator c (sym (ap (λ ns. slice_get ns 0) e) ∙ is);
  meters = λ n x other is. k.meters n x other (sym (ap (λ ns. slice_get ns n) e) ∙ is);
  made = subst (Each (TagOk k.book given)) (sym f) k.made;
  roles = λ n x other is. k.roles n x other (sym (ap (λ ns. slice_get ns n) e) ∙ is);
  apart = λ i j x y a b same. k.apart i j x y (sym (ap (λ ns. slice_get ns i) e) ∙ a) (sym (ap (λ ns. slice_get ns j) e) ∙ b) same;
  still = λ none. f ∙ k.still (sym e ∙ none);
  named = λ n x is. k.named n x (sym (ap (λ ns. slice_get ns n) e) ∙ is);
}

-- the node that stood there before has the same EUI
record Was (nodes : List Node) (n : ℕ) (y : Node) : Type 0 where
  node : Node
  is : slice_get nodes n ≡ Some node
  eui : node.eui ≡ y.eui

module _ {A : Type 0} (ciphers : Ciphers) (w : World) (number : ℕ) (x : Node) (d : NodeStep A) (there : node_at w number ≡ Some x)
    (eui : d.node.eui ≡ x.eui) where
  here_is : (y : Node) → slice_get (slice_set w.nodes number d.node) number ≡ Some y → d.node ≡ y
  here_is y is = same_Some _ _ (sym (slice_get-set w.nodes number d.node (place_within w.nodes number x there)) ∙ is)

  other_is : (n : ℕ) (y : Node) → n ≢ number → slice_get (slice_set w.nodes number d.node) n ≡ Some y → slice_get w.nodes n ≡ Some y
  other_is n y ne is = sym (slice_get-set_other w.nodes number n d.node ne) ∙ is

  was : (n : ℕ) (y : Node) → slice_get (slice_set w.nodes number d.node) n ≡ Some y → Was w.nodes n y
  was n y is = ⊎_elim
      (λ (e : n ≡ number). record {
        node = x;
        is = ap (slice_get w.nodes) e ∙ there;
        eui = sym eui ∙ ap (λ (z : Node). z.eui) (here_is y (ap (slice_get (slice_set w.nodes number d.node)) (sym e) ∙ is));
      })
      (λ (e : n ≢ number). record { node = y; is = other_is n y e is; eui = refl })
      (cases_eq n number)

  apart_after : (given : List Issued) → Keyed w given → (i j : ℕ) (y z : Node) → slice_get (slice_set w.nodes number d.node) i ≡ Some y
      → slice_get (slice_set w.nodes number d.node) j ≡ Some z → books.eui_number y.eui ≡ books.eui_number z.eui → i ≡ j
  apart_after given k i j y z a b same =
      let p = was i y a in
      let q = was j z b in
      k.apart i j p.node q.node p.is q.is (ap books.eui_number p.eui ∙ same ∙ sym (ap books.eui_number q.eui))

  some_left : slice_set w.nodes number d.node ≡ [] → ⊥
  some_left e =
      let inside = place_within w.nodes number x there in
      let same = length-set w.nodes number d.node in
      let none : length (slice_set w.nodes number d.node) ≡ 0 = ap length e in
      omega arith

  pub after_meter : (given : List Issued) (k : Keyed w given) → number ≢ 0 → MeterDid k.book given x d → Keyed (world_after ciphers w number d) given
  unfolding world_after
  after_meter given k other did = record {
    book = k.book;
    coordinator = λ c is. k.coordinator c (other_is 0 c (λ e. other (sym e)) is);
    meters = λ n y ne is. ⊎_elim
        (λ (e : n ≡ number). subst (MeterOk k.book given) (here_is y (ap (slice_get (slice_set w.nodes number d.node)) (sym e) ∙ is)) did.node)
        (λ (e : n ≢ number). k.meters n y ne (other_is n y e is))
        (cases_eq n number);
    made = each_append (TagOk k.book given) w.made d.made k.made did.made;
    roles = λ n y ne is. ⊎_elim
        (λ (e : n ≡ number). subst (λ (z : Node). IsMeter z.role) (here_is y (ap (slice_get (slice_set w.nodes number d.node)) (sym e) ∙ is))
        (subst IsMeter (sym did.role) (k.roles number x other there)))
        (λ (e : n ≢ number). k.roles n y ne (other_is n y e is))
        (cases_eq n number);
    apart = apart_after given k;
    still = λ none. absurd (some_left none);
    named = λ n y is. let p = was n y is in subst IsEui p.eui (k.named n p.node p.is);
  }

  pub after_coordinator : (given more : List Issued) (k : Keyed w given) → number ≡ 0 → CoordinatorDid k.book given more x d
      → Keyed (world_after ciphers w number d) (given ++ more)
  unfolding world_after
  after_coordinator given more k first did = record {
    book = did.book;
    coordinator = λ c is. subst (CoordinatorOk did.book) (here_is c (ap (slice_get (slice_set w.nodes number d.node)) first ∙ is)) did.node;
    meters = λ n y ne is.
        let h = k.meters n y ne (other_is n y (λ e. ne (e ∙ first)) is) in
        record { ring = λ r e. ring_later k.book did.book given more did.grows y.eui r (h.ring r e); session = h.session };
    made = each_append (TagOk did.book (given ++ more)) w.made d.made
        (each_weaker (TagOk k.book given) (TagOk did.book (given ++ more)) (tag_later k.book did.book given more did.grows) w.made k.made) did.made;
    roles = λ n y ne is. k.roles n y ne (other_is n y (λ e. ne (e ∙ first)) is);
    apart = apart_after given k;
    still = λ none. absurd (some_left none);
    named = λ n y is. let p = was n y is in subst IsEui p.eui (k.named n p.node p.is);
  }

-- more was issued
pub keyed_more : (w : World) (given more : List Issued) → Keyed w given → Keyed w (given ++ more)
keyed_more w given more k = record {
  book = k.book;
  coordinator = k.coordinator;
  meters = λ n x ne is. let h = k.meters n x ne is in
      record { ring = λ r e. ring_later k.book k.book given more (λ u a q. q) x.eui r (h.ring r e); session = h.session };
  made = each_weaker (TagOk k.book given) (TagOk k.book (given ++ more)) (tag_later k.book k.book given more (λ u a q. q)) w.made k.made;
  roles = k.roles;
  apart = k.apart;
  still = k.still;
  named = k.named;
}

-- the node that is left stands where it was
pub after_here : {A : Type 0} (ciphers : Ciphers) (w : World) (number : ℕ) (x : Node) (d : NodeStep A) → node_at w number ≡ Some x
    → node_at (world_after ciphers w number d) number ≡ Some d.node
unfolding world_after
after_here ciphers w number x d there = slice_get-set w.nodes number d.node (place_within w.nodes number x there)
