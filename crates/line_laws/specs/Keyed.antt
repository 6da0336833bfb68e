-- What holds of addresses and issued keys before the first forged event.
use Rattle.std.specs.Prelude.{◌≡◌, ◌≢◌, ℕ, List, [], ◌∷◌, Option, Some, None, IfSome, ⊤}
use Rattle.std.specs.FinMap.{get}
use Rattle.plc_base.specs.Grant.{Granted}
use Rattle.plc_base.specs.Keeper.{Records}
use Rattle.plc_base.specs.declared.address.Eui.{Eui}
use Rattle.plc_base.specs.declared.key.Key.{Key}
use Rattle.plc_base.specs.declared.tags.PairTag.{PairTag}
use Rattle.plc_base.specs.declared.tags.PairTag.TheVariants as tags
use Rattle.eap_psk.specs.Messages.{granting_text}
use Rattle.group_keys.specs.KeyBook as books
use Rattle.group_keys.specs.KeyRing as ring
use Rattle.node_rules.specs.Memory.{MeterSession, Role, Coordinator, Meter, Node}
use Rattle.line_events.specs.Events.{IsEui}
use Rattle.line_rules.specs.Nonces.{NonceParts, nonce_parts}
use Rattle.line_rules.specs.Worlds.{World, Flight, Issued, node_at}
use Rattle.line_laws.specs.Stores.{IsReadable, IsBookKept}

-- each of them
abbrev pub Each : {A : Type 0} → (A → Type 0) → List A → Type 0
Each P [] = Unit {0}
Each P (x ∷ xs) = P x × Each P xs

-- it stands in the list
pub data Among {A : Type 0} (x : A) : List A → Type 0 where
  Here : (xs : List A) → Among x (x ∷ xs)
  Later : (y : A) (xs : List A) → Among x xs → Among x (y ∷ xs)

-- # Rings and grants

-- a key was issued to the meter of a number, at an index
pub record IsGivenTo (given : List Issued) (eui : Eui) (index : ℕ) (key : Key) : Type 0 where
  pub one : Issued
  pub among : Among one given
  pub to : books.eui_number one.eui ≡ books.eui_number eui
  pub at : one.index ≡ index
  pub key_is : one.key ≡ key

abbrev pub GivenAt : List Issued → Eui → ℕ → Option Key → Type 0
GivenAt given eui index None = ⊤
GivenAt given eui index (Some key) = IsGivenTo given eui index key

-- A grant has the book's address of a meter, and only keys that were issued to it.
pub record GrantOk (b : books.Book) (given : List Issued) (eui : Eui) (g : Granted) : Type 0 where
  pub address : books.address_of b eui ≡ Some g.address
  pub key0 : GivenAt given eui 0 g.key0
  pub key1 : GivenAt given eui 1 g.key1

abbrev pub RingOk : books.Book → List Issued → Eui → ring.Ring → Type 0
RingOk b given eui r = IfSome r (GrantOk b given eui)

-- The text of a made channel tag with nonce 0 is such a grant.
pub record TextOk (b : books.Book) (given : List Issued) (eui : Eui) (text : List ℕ) : Type 0 where
  pub granted : Granted
  pub is : text ≡ granting_text granted
  pub readable : IsReadable granted
  pub right : GrantOk b given eui granted

abbrev pub TagOk : books.Book → List Issued → PairTag → Type 0
TagOk b given (tags.MacP eui octets) = ⊤
TagOk b given (tags.MacS eui octets) = ⊤
TagOk b given (tags.Channel eui rand_p nonce header text) = nonce ≡ 0 → TextOk b given eui text

-- # Nodes

-- of the ring that the records give S holds
abbrev pub RingIn : (S : ring.Ring → Type 0) → Records → Type 0
RingIn S r = (x : ring.Ring) → ring.ring_at (get r 1) ≡ Some x → S x

-- the peer of a session is the meter
abbrev pub PeerIs : Eui → Option MeterSession → Type 0
PeerIs eui session = IfSome session (λ s. IfSome s.peer (λ p. p.eui ≡ eui))

pub record MeterOk (b : books.Book) (given : List Issued) (x : Node) : Type 0 where
  pub ring : RingIn (RingOk b given x.eui) x.store.records
  pub session : IfSome x.memory (λ m. PeerIs x.eui m.session)

abbrev pub Nought : ring.Ring → Type 0
Nought x = IfSome x (λ g. g.address ≡ 0)

pub record CoordinatorOk (b : books.Book) (c : Node) : Type 0 where
  pub role : c.role ≡ Coordinator
  pub book_kept : IsBookKept b c.store.records
  pub ring : RingIn Nought c.store.records

-- # All of it

abbrev pub IsMeter : Role → Type 0
IsMeter Coordinator = ⊥
IsMeter (Meter psk) = ⊤

-- The book's addresses are those of the stored rings; each key of a meter was issued to it; and the grants of made tags are such.
pub record Keyed (w : World) (given : List Issued) : Type 0 where
  -- the book that the coordinator's records give
  pub book : books.Book
  pub coordinator : (c : Node) → node_at w 0 ≡ Some c → CoordinatorOk book c
  pub meters : (n : ℕ) (x : Node) → n ≢ 0 → node_at w n ≡ Some x → MeterOk book given x
  pub made : Each (TagOk book given) w.made
  pub roles : (n : ℕ) (x : Node) → n ≢ 0 → node_at w n ≡ Some x → IsMeter x.role
  -- the EUIs of two nodes differ
  pub apart : (i j : ℕ) (x y : Node) → node_at w i ≡ Some x → node_at w j ≡ Some y → books.eui_number x.eui ≡ books.eui_number y.eui → i ≡ j
  pub still : w.nodes ≡ [] → w.made ≡ []
  -- an EUI is 8 octets
  pub named : (n : ℕ) (x : Node) → node_at w n ≡ Some x → IsEui x.eui

-- # Senders

-- an address is that of the node of a number, by the book
abbrev pub IsCoordinatorAddress : books.Book → World → ℕ → ℕ → Type 0
IsCoordinatorAddress b w n a = (x : Node) → node_at w n ≡ Some x → (n ≡ 0 → a ≡ 0) × (n ≢ 0 → books.address_of b x.eui ≡ Some a)

-- the sender field of a flight is the address of its node
abbrev pub AtHome : books.Book → World → Flight → Type 0
AtHome b w f = IfSome (nonce_parts f) (λ (p : NonceParts). IsCoordinatorAddress b w f.from p.from)
