-- Whose address a sealed flight has, and that no two nodes have one address and no two flights under one key one nonce before an event is forged.
use Rattle.std.proofs.Common.{◌≡◌, ◌≢◌, ⊎_elim, ℕ, ◌<◌, List, [], ◌∷◌, length, drop, get_or, Option, Some, None, refl, sym, ap, ◌∙◌, subst, arith}
use Rattle.std.specs.Prelude.{All, AllPairs, IfSome, slice_get}
use Rattle.std.proofs.lemmas.Bool.{cases_eq}
use Rattle.std.proofs.lemmas.List.Elements.{All-cons, All-head, All-tail}
use Rattle.plc_base.specs.declared.key.Key.{Key}
use Rattle.mac_frames.specs.Reader.{head_in}
use Rattle.group_keys.specs.KeyBook as books
use Rattle.node_rules.specs.Memory.{Node, node_address}
use Rattle.line_rules.specs.Worlds.{World, Flight, Issued, node_at}
use Rattle.line_rules.specs.SafeRuns.{HasAddress}
use Rattle.line_rules.specs.Nonces.{NonceParts, nonce_in_head, nonce_parts, CounterRises, HasAnotherNonce, HasSender, AddressesDiffer}
use Rattle.line_rules.specs.Laws.{SameFlight, KeepsFlights}
use Rattle.line_laws.proofs.Worlds.{WorldOk}
use Rattle.line_laws.proofs.AddressBook.{Grows}
use Rattle.line_laws.proofs.AddressWorlds.{one_meter, above_nought, meter_address, coordinator_address, addresses_differ}
use Rattle.line_laws.proofs.IssueWorlds.{Keyed}
use Rattle.line_laws.proofs.Homes.{at_length}
pub use Rattle.line_laws.specs.Keyed.{IsCoordinatorAddress, AtHome}

-- # Homes

if_parts : (o : Option NonceParts) (P Q : NonceParts → Type 0) → ((p : NonceParts) → P p → Q p) → IfSome o P → IfSome o Q
if_parts None P Q f h = tt
if_parts (Some p) P Q f h = f p h

record SomeNode (w : World) (n a : ℕ) : Type 0 where
  node : Node
  there : node_at w n ≡ Some node
  address : node_address node ≡ Some a

some_node : (w : World) (n a : ℕ) → HasAddress w n a → SomeNode w n a
some_node w n a t = by_node (node_at w n) refl
  where
    by_node : (o : Option Node) → node_at w n ≡ o → SomeNode w n a
    by_node None e = absurd (rw e at t)
    by_node (Some x) e = record { node = x; there = e; address = rw e at t }

all_homes : (P Q : Flight → Type 0) → ((f g : Flight) → SameFlight f g → P f → Q g) → (fs gs : List Flight) → KeepsFlights fs gs → All P fs
    → All Q (drop (length fs) gs) → All Q gs
all_homes P Q h [] gs keeps all new = new
all_homes P Q h (f ∷ fs) [] keeps all new = absurd keeps
all_homes P Q h (f ∷ fs) (g ∷ gs) keeps all new =
    All-cons Q g gs (h f g keeps.0 (All-head P f fs all)) (all_homes P Q h fs gs keeps.1 (All-tail P f fs all) new)

all_both : {A : Type 0} (P Q : A → Type 0) (xs : List A) → All P xs → All Q xs → All (λ x. P x × Q x) xs
all_both P Q xs a b k d lt = (a k d lt, b k d lt)

-- # A later world

module _ (w v : World) (given more : List Issued) (k : Keyed w given) (kv : Keyed v more) (okv : WorldOk v)
    (grows : (0 < length w.nodes) → Grows k.book kv.book) (euis : (0 < length w.nodes) → (n : ℕ) (y : Node) → n < length w.nodes → node_at v n ≡ Some y
    → (x : Node) × (node_at w n ≡ Some x) × (x.eui ≡ y.eui)) where
  home_stays : (n a : ℕ) → n < length w.nodes → IsCoordinatorAddress k.book w n a → IsCoordinatorAddress kv.book v n a
  home_stays n a lt home y there =
      let some : 0 < length w.nodes = omega arith in
      let old = euis some n y lt there in
      let h = home old.0 old.1 in
      (h.0, λ ne. grows some y.eui a (subst (λ u. books.address_of k.book u ≡ Some a) old.2 (h.1 ne)))

  old_home : (f g : Flight) → SameFlight f g → (f.from < length w.nodes) × AtHome k.book w f → AtHome kv.book v g
  old_home f g same h =
      let moved : IfSome (nonce_parts f) (λ p. IsCoordinatorAddress kv.book v f.from p.from) = if_parts (nonce_parts f)
      (λ p. IsCoordinatorAddress k.book w f.from p.from)
      (λ p. IsCoordinatorAddress kv.book v f.from p.from) (λ p. home_stays f.from p.from h.0) h.1 in
      let parts : nonce_parts g ≡ nonce_parts f = ap (λ octets. nonce_in_head (head_in octets)) same.octets in
      subst (λ n. IfSome (nonce_parts g) (λ p. IsCoordinatorAddress kv.book v n p.from)) (sym same.from)
      (subst (λ o. IfSome o (λ p. IsCoordinatorAddress kv.book v f.from p.from)) (sym parts) moved)

  -- a node's address is its home
  home_of : (n a : ℕ) → HasAddress v n a → IsCoordinatorAddress kv.book v n a
  home_of n a t x there = (
    (λ e. coordinator_address v more okv kv x a (ap (slice_get v.nodes) (sym e) ∙ there) (rw there at t)),
    (λ ne. meter_address v more okv kv n x a ne there (rw there at t)),
  )

  new_home : (f : Flight) → HasSender v f → AtHome kv.book v f
  new_home f t = if_parts (nonce_parts f) (λ p. HasAddress v f.from p.from) (λ p. IsCoordinatorAddress kv.book v f.from p.from) (λ p. home_of f.from p.from) t

  pub later_homes : KeepsFlights w.flights v.flights → All (λ (f : Flight). f.from < length w.nodes) w.flights → All (AtHome k.book w) w.flights
      → All (HasSender v) (drop (length w.flights) v.flights) → All (AtHome kv.book v) v.flights
  later_homes keeps from home new =
      all_homes (λ f. (f.from < length w.nodes) × AtHome k.book w f) (AtHome kv.book v) old_home w.flights v.flights keeps
      (all_both (λ (f : Flight). f.from < length w.nodes) (AtHome k.book w) w.flights from home)
      (λ i d lt. new_home (get_or (drop (length w.flights) v.flights) i d) (new i d lt))

-- # Nonces

module _ (v : World) (given : List Issued) (k : Keyed v given) (ok : WorldOk v) where
  one_home : (i j a : ℕ) (x y : Node) → node_at v i ≡ Some x → node_at v j ≡ Some y → IsCoordinatorAddress k.book v i a → IsCoordinatorAddress k.book v j a
      → i ≡ j
  one_home i j a x y hx hy home other = ⊎_elim
      (λ (e : i ≡ 0). ⊎_elim
      (λ (f : j ≡ 0). e ∙ sym f)
      (λ (ne : j ≢ 0). absurd (let low = (home x hx).0 e in let high = above_nought k.book y.eui a ((other y hy).1 ne) in omega arith))
      (cases_eq j 0))
      (λ (ne : i ≢ 0). ⊎_elim
      (λ (f : j ≡ 0). absurd (let low = (other y hy).0 f in let high = above_nought k.book x.eui a ((home x hx).1 ne) in omega arith))
      (λ (nf : j ≢ 0). k.apart i j x y hx hy (one_meter k.book x.eui y.eui a ((home x hx).1 ne) ((other y hy).1 nf)))
      (cases_eq j 0))
      (cases_eq i 0)

  another : (f g : Flight) → CounterRises f g → f.from < length v.nodes → g.from < length v.nodes → AtHome k.book v f → AtHome k.book v g → HasAnotherNonce f g
  another f g rises lf lg hf hg same_key = by_key f.key
    where
      by_parts : (o u : Option NonceParts) → (f.from ≡ g.from → IfSome o (λ p. IfSome u (λ q. p.counter < q.counter)))
          → IfSome o (λ p. IsCoordinatorAddress k.book v f.from p.from) → IfSome u (λ q. IsCoordinatorAddress k.book v g.from q.from)
          → IfSome o (λ p. IfSome u (λ q. p ≢ q))
      by_parts None u r a b = tt
      by_parts (Some p) None r a b = tt
      by_parts (Some p) (Some q) r a b = λ same.
          let x = at_length v.nodes f.from lf in
          let y = at_length v.nodes g.from lg in
          let from : q.from ≡ p.from = ap (λ (z : NonceParts). z.from) (sym same) in
          let one : f.from ≡ g.from = one_home f.from g.from p.from x.one y.one x.is y.is a (subst (IsCoordinatorAddress k.book v g.from) from b) in
          let less : p.counter < q.counter = r one in
          let counter : p.counter ≡ q.counter = ap (λ (z : NonceParts). z.counter) same in
          omega arith

      by_key : (key : Option Key) → IfSome key (λ _. IfSome (nonce_parts f) (λ p. IfSome (nonce_parts g) (λ q. p ≢ q)))
      by_key None = tt
      by_key (Some key) = by_parts (nonce_parts f) (nonce_parts g) rises hf hg

  pub nonces_differ : All (AtHome k.book v) v.flights → AllPairs HasAnotherNonce v.flights
  nonces_differ homes i j d lt inside =
      another (get_or v.flights i d) (get_or v.flights j d) (ok.rising.pairs i j d lt inside) (ok.rising.homes i d (omega arith)) (ok.rising.homes j d inside)
      (homes i d (omega arith)) (homes j d inside)

  pub nodes_apart : AddressesDiffer v
  nodes_apart i j a hi hj =
      let x = some_node v i a hi in
      let y = some_node v j a hj in
      addresses_differ v given ok k i j x.node y.node a x.there y.there x.address y.address
