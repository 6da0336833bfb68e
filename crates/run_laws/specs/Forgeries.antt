-- That the first forged frame of a run is a forgery in the game by which authenticated encryption is judged (integrity of ciphertexts, INT-CTXT, with nonces
-- and many keys): whoever brings the events has had texts sealed, under no nonce twice for one key, and has found octets that open and were no answer.
use Rattle.std.specs.Prelude.{◌≡◌, ◌≢◌, ℕ, true, false, All, AllPairs, List, [], ◌∷◌, ◌++◌, Some, None, slice_get, take}
use Rattle.plc_base.specs.declared.key.Key.{Key}
use Rattle.plc_base.specs.declared.tags.PairTag.{PairTag}
use Rattle.aes_modes.specs.Ccm.{ccm_tag, ccm_text}
use Rattle.mac_frames.specs.declared.head.MacHead.{MacHead}
use Rattle.mac_frames.specs.Grammar.{IsSealed, header}
use Rattle.mac_frames.specs.Reader.{head_in}
use Rattle.mac_frames.specs.SealedFrames.{nonce_of}
use Rattle.node_rules.specs.Ciphers.{network}
use Rattle.line_rules.specs.Forgery.{AcceptsSealed, NoneMade}
use Rattle.line_rules.specs.Runs.{Entry, IsLineRun}
use Rattle.line_rules.specs.Worlds.{Flight, World, start}

-- # The game

-- A query: that a text be sealed under a key, with a nonce of 13 octets and with octets in front, the associated data, which are not encrypted.
pub record Query : Type 0 where
  pub key : Key
  pub nonce : List ℕ
  pub front : List ℕ
  pub text : List ℕ

-- what it is answered: the text encrypted, and a tag of 4 octets over data and text (CCM with AES-128, RFC 3610)
abbrev pub answer_to : Query → List ℕ
answer_to q = ccm_text q.key.0 q.nonce q.text ++ ccm_tag 4 q.key.0 q.nonce q.front q.text

-- A frame is the answer to a query, behind its data: the data are the octets of a sealed head, whose nonce is that of the query.
pub record IsFrameOf (octets : List ℕ) (q : Query) : Type 0 where
  pub head : MacHead
  pub sealed : IsSealed head
  pub nonce : q.nonce ≡ nonce_of head
  pub front : q.front ≡ header head
  pub is : octets ≡ q.front ++ answer_to q

-- the queries that flights answer, in order: a flight with a key answers one under this key, and one without a key none
pub data AnswerAll : List Flight → List Query → Type 0 where
  NoFlight : AnswerAll [] []
  SealedFlight : (f : Flight) (q : Query) (fs : List Flight) (qs : List Query) → f.key ≡ Some q.key → IsFrameOf f.octets q → AnswerAll fs qs
      → AnswerAll (f ∷ fs) (q ∷ qs)
  OpenFlight : (f : Flight) (fs : List Flight) (qs : List Query) → f.key ≡ None → AnswerAll fs qs → AnswerAll (f ∷ fs) qs

-- two queries under one key have different nonces
abbrev pub HasOtherNonce : Query → Query → Type 0
HasOtherNonce p q = p.key ≡ q.key → p.nonce ≢ q.nonce

-- Octets are a forgery under a key, after these flights. The flights are all that was answered, under nonces that never come twice under one key. The octets,
-- as the one who opens them reads nonce and data, are the answer to a query that was not asked; so they were no answer under this key.
pub record IsForgery (flights : List Flight) (octets : List ℕ) (key : Key) : Type 0 where
  pub queries : List Query
  pub answered : AnswerAll flights queries
  pub respects : AllPairs HasOtherNonce queries
  pub forged : Query
  pub under : forged.key ≡ key
  pub nonce : forged.nonce ≡ nonce_of (head_in octets)
  pub front : forged.front ≡ take 15 octets
  pub is : octets ≡ forged.front ++ answer_to forged
  pub unasked : All (λ (q : Query). q ≢ forged) queries
  pub new : All (λ (q : Query). q.key ≡ key → q.front ++ answer_to q ≢ octets) queries

-- # Runs

-- an event is forged by a frame that a node accepts, which is a forgery; or by a pair tag that is right, and that no node made
pub data ForgedBy (w : World) (x : Entry) : Type 0 where
  AFrame : (octets : List ℕ) (key : Key) → AcceptsSealed network w x.event octets key → IsForgery w.flights octets key → ForgedBy w x
  ATag : (place : ℕ) (tag : PairTag) → slice_get x.trace.opened place ≡ Some tag → NoneMade w.made tag → ForgedBy w x

-- so it is of the first event that is forged
abbrev pub FirstIsForgery : World → List Entry → Type 0
FirstIsForgery w [] = Unit {0}
FirstIsForgery w (x ∷ xs) = (x.trace.happenings.forged ≡ true → ForgedBy w x) × (x.trace.happenings.forged ≡ false → FirstIsForgery x.after xs)

abbrev pub EveryFirstForgeryIsInTheGame : Type 0
EveryFirstForgeryIsInTheGame = (entries : List Entry) → IsLineRun network entries → FirstIsForgery start entries
