-- What further moves leave of addresses: no address of the book is taken back, and no flight comes to life.
use Rattle.std.proofs.Common.{⊎_elim, ◌≡◌, ◌≢◌, ℕ, ◌≤◌, ◌<◌, true, List, [], length, Some, None, refl, sym, ap, ◌∙◌, subst, arith}
use Rattle.std.specs.Prelude.{slice_get}
use Rattle.std.proofs.lemmas.Bool.{cases_eq}
use Rattle.std.proofs.lemmas.List.{length-set}
use Rattle.std.proofs.lemmas.Option.{same_Some}
use Rattle.store_tables.proofs.SlotTables.{slice_get-set_other}
use Rattle.group_keys.specs.KeyBook as books
use Rattle.pan_discovery.specs.declared.message.Discovery.{Discovery}
use Rattle.node_rules.specs.Ciphers.{Ciphers}
use Rattle.node_rules.specs.Drafts.{UnsealedUnit}
use Rattle.node_rules.specs.Memory.{Node}
use Rattle.node_rules.specs.NodeSteps.{NodeStep, acts}
use Rattle.line_rules.specs.Steps.{world_after}
use Rattle.line_rules.specs.Worlds.{World, Issued, node_at}
use Rattle.line_laws.specs.Keyed.{Keyed}
use Rattle.line_laws.specs.Lines.{NodeOk, WorldOk}
use Rattle.line_laws.specs.Live.{book_of, live}
use Rattle.line_laws.specs.Owed.{KeepsRanges}
use Rattle.line_laws.specs.Places.{LiveFalls}
use Rattle.line_laws.specs.Ranked.{homes_of}
use Rattle.line_laws.proofs.AddressBook.{Grows, one_book}
use Rattle.line_laws.proofs.CustodyHomes.{homed_back}
use Rattle.line_laws.proofs.CustodySteps.{HomedAt}
use Rattle.line_laws.proofs.FurtherKeyed.{moved_keyed}
use Rattle.line_laws.proofs.FurtherSeals.{further_quietly}
use Rattle.line_laws.proofs.FurtherStepKinds.{Besides, Carries, Flies, Moves, Stays, Turns, moved_follows, moved_ok}
use Rattle.line_laws.proofs.Homed.{Addressed}
use Rattle.line_laws.proofs.Homed as homed
use Rattle.line_laws.proofs.Homes.{addressed_before, at_length, homes_grow}
use Rattle.line_laws.proofs.IssueCalls.{quiet_coordinator}
use Rattle.line_laws.proofs.IssueNodes.{CoordinatorDid, coordinator_acts}
use Rattle.line_laws.proofs.IssueWorlds.{after_here}
use Rattle.line_laws.proofs.LiveRuns.{none_falls, some_book}
use Rattle.line_laws.proofs.MarkSteps.{Follows, same_follows}
use Rattle.line_laws.proofs.Worlds.{at_place}

after_length : {A : Type 0} (ciphers : Ciphers) (v : World) (number : ℕ) (d : NodeStep A) → length (world_after ciphers v number d).nodes ≡ length v.nodes
unfolding world_after
after_length ciphers v number d = length-set v.nodes number d.node

after_other : {A : Type 0} (ciphers : Ciphers) (v : World) (number other : ℕ) (d : NodeStep A) → other ≢ number
    → node_at (world_after ciphers v number d) other ≡ node_at v other
unfolding world_after
after_other ciphers v number other d ne = slice_get-set_other v.nodes number other d.node ne

module _ (U : List UnsealedUnit → Type 0) (D : Discovery → Type 0) (ciphers : Ciphers) (fits : KeepsRanges ciphers) where
  pub moved_length : (v u : World) → Moves U D ciphers v u → length u.nodes ≡ length v.nodes
  moved_length v u (Stays z) = refl
  moved_length v u (Carries z number x A halted does there is) = after_length ciphers v number (acts x halted does)
  moved_length v u (Flies z number x frame there known) = refl
  moved_length v u (Besides z on bs) = refl
  moved_length v u (Turns z between y first rest) = moved_length between u rest ∙ moved_length v between first

  -- the book is one, where the coordinator has stored the same
  same_book : (v u : World) (given more : List Issued) (k : Keyed v given) (l : Keyed u more) → 0 < length v.nodes → node_at u 0 ≡ node_at v 0
      → Grows k.book l.book
  same_book v u given more k l some same =
      let c = at_length v.nodes 0 some in
      let is : k.book ≡ l.book = one_book k.book l.book c.one.store.records (k.coordinator c.one c.is).book_kept (l.coordinator c.one (same ∙ c.is)).book_kept
      in
      subst (Grows k.book) is (λ eui a e. e)

  -- no address of the book is taken back
  pub moved_grows : (v u : World) → Moves U D ciphers v u → WorldOk v → v.running ≡ true → (given more : List Issued) (k : Keyed v given) (l : Keyed u more)
      → 0 < length v.nodes → Grows k.book l.book
  moved_grows v u (Stays z) ok runs given more k l some = same_book v v given more k l some refl
  moved_grows v u (Carries z number x A halted does there is) ok runs given more k l some = ⊎_elim
      (λ (e : number ≡ 0).
      let good = at_place NodeOk v.nodes number x there ok.nodes in
      let c = k.coordinator x (ap (slice_get v.nodes) (sym e) ∙ there) in
      let did : CoordinatorDid k.book given [] x (acts x halted does) = coordinator_acts k.book given x halted does [] good c (λ a. None) (λ m here said. refl)
      (λ m here kept. quiet_coordinator k.book None m (does m) (further_quietly m (does m) (is m here)) (c.ring m.station.ring kept.station.ring.stored)
      kept.station.range.ring) in
      let stored = (l.coordinator (acts x halted does).node (ap (λ n. node_at (world_after ciphers v number (acts x halted does)) n) (sym e)
      ∙ after_here ciphers v number x (acts x halted does) there)).book_kept in
      subst (Grows k.book) (one_book did.book l.book (acts x halted does).node.store.records did.node.book_kept stored) did.grows)
      (λ (ne : number ≢ 0). same_book v (world_after ciphers v number (acts x halted does)) given more k l some
      (after_other ciphers v number 0 (acts x halted does) (λ e. ne (sym e))))
      (cases_eq number 0)
  moved_grows v u (Flies z number x frame there known) ok runs given more k l some = same_book v _ given more k l some refl
  moved_grows v u (Besides z on bs) ok runs given more k l some = same_book v _ given more k l some refl
  moved_grows v u (Turns z between y first rest) ok runs given more k l some =
      let m = moved_ok U D ciphers fits v between first ok runs in
      let kb = moved_keyed U D ciphers fits v between first ok runs given k in
      let one = moved_grows v between first ok runs given given k kb some in
      let same = moved_length v between first in
      let two = moved_grows between u rest m.0 m.1 given more kb l (omega arith) in
      λ eui a e. two eui a (one eui a e)

  module _ (v u : World) (moves : Moves U D ciphers v u) (ok : WorldOk v) (runs : v.running ≡ true) where
    follows : Follows v u
    follows = moved_follows U D ciphers fits v v u (same_follows v v refl) moves ok runs

    -- each node was there before
    pub moved_euis : (n : ℕ) (y : Node) → n < length v.nodes → node_at u n ≡ Some y → (x : Node) × (node_at v n ≡ Some x) × (x.eui ≡ y.eui)
    moved_euis n y inside there =
        let x = at_length v.nodes n inside in
        let l = follows.at n x.one x.is in
        (x.one, x.is, sym l.eui ∙ ap (λ (z : Node). z.eui) (same_Some _ _ (sym l.there ∙ there)))

    module _ (given more : List Issued) (k : Keyed v given) (l : Keyed u more) where
      grows : 0 < length v.nodes → Grows k.book l.book
      grows some = moved_grows v u moves ok runs given more k l some

      longer : length v.nodes ≤ length u.nodes
      longer = let same = moved_length v u moves in omega arith

      -- no flight comes to life
      pub moved_falls : LiveFalls live v u None
      moved_falls =
          let oku = (moved_ok U D ciphers fits v u moves ok runs).0 in
          let same = moved_length v u moves in
          none_falls v u follows (λ some.
          subst (λ (b : books.Book). Grows b (book_of u)) (sym (some_book v given ok k some)) (subst (Grows k.book) (sym (some_book u more oku l (omega arith)))
          (grows some)))

      -- the homes of the world after them fit the one before
      pub moved_addressed : Addressed (homes_of l.book u) v
      moved_addressed = addressed_before v u given more ok (moved_ok U D ciphers fits v u moves ok runs).0 k l longer grows (λ some. moved_euis)

      pub moved_homes : homed.Grows (homes_of k.book v) (homes_of l.book u)
      moved_homes = homes_grow v u given more ok (moved_ok U D ciphers fits v u moves ok runs).0 k l longer grows (λ some. moved_euis)

      pub moved_homed : (home : ℕ → ℕ) → HomedAt home u → HomedAt home v
      moved_homed home h = homed_back ciphers fits home v u given more k l longer
          (λ some c there b kept. subst (Grows k.book) (one_book l.book b c.store.records (l.coordinator c there).book_kept kept) (grows some))
          (λ some. moved_euis) h
