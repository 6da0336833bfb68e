-- The first forged frame as a forgery in the game: by what flights are, by their nonces, and by what a key opens.
use Rattle.std.proofs.Common.{◌≡◌, ℕ, zero, suc, ◌+◌, ◌*◌, ◌-◌, Bool, true, false, List, [], ◌∷◌, ◌++◌, length, take, Option, Some, None, refl, sym}
use Rattle.std.proofs.Common.{ap, ◌∙◌, arith}
use Rattle.std.specs.Prelude.{All, AllPairs, IfSome, is_some, slice_index, if◌then◌else◌}
use Rattle.std.specs.Str.{bytes_eq}
use Rattle.std.proofs.lemmas.List.{take-append-drop}
use Rattle.std.proofs.lemmas.List.Elements.{All-nil, All-cons, All-head, All-tail, All-weaker}
use Rattle.std.proofs.lemmas.List.Kept.{AllPairs-cons}
use Rattle.std.proofs.lemmas.Option.{same_Some}
use Rattle.std.proofs.lemmas.Slice.Eq.{bytes_eq-Decides}
use Rattle.plc_base.specs.Fields.{after, little_two, little_four, octet}
use Rattle.plc_base.specs.declared.key.Key.{Key}
use Rattle.aes_modes.specs.Ccm.{ccm_tag, ccm_text}
use Rattle.aes_modes.proofs.Texts.{ccm_text-twice}
use Rattle.mac_frames.specs.declared.head.MacHead.{MacHead}
use Rattle.mac_frames.specs.declared.head.MacHead.TheVariants as heads
use Rattle.mac_frames.specs.Faults.{frame_fault, has_modes, is_sealed}
use Rattle.mac_frames.specs.Grammar.{IsSealed, header, header_then}
use Rattle.mac_frames.specs.Reader.{body_in, head_by, head_in}
use Rattle.mac_frames.specs.SealedFrames.{nonce_of, opened_in, payload_in, sealed_tag, sealed_text}
use Rattle.mac_frames.proofs.Headers.{header_then-append}
use Rattle.mac_frames.proofs.HeadsSaid.{sealed_say}
use Rattle.node_rules.specs.Ciphers.{network}
use Rattle.node_rules.specs.Frames.{Arrived, arrived, arrived_with}
use Rattle.line_rules.specs.Forgery.{ByFrame, ByTag, IsForged, IsForgedRight, NoneFlew}
use Rattle.line_rules.specs.Nonces.{HasAnotherNonce, IsSealedUnder, NonceParts, NoncesDiffer, nonce_in_head, nonce_parts}
use Rattle.line_rules.specs.Runs.{Entry}
use Rattle.line_rules.specs.Worlds.{Flight, World}
use Rattle.line_laws.specs.Laws.{AreFrames, IsFrame}
use Rattle.run_laws.specs.Forgeries.{AFrame, ATag, AnswerAll, FirstIsForgery, ForgedBy, HasOtherNonce, IsForgery, IsFrameOf, NoFlight, OpenFlight, Query}
use Rattle.run_laws.specs.Forgeries.{SealedFlight, answer_to}
use Rattle.run_laws.proofs.SealedCame.{IsOpened, was_opened}

-- # The nonce of a head, as it stands in the frame

-- the sender and the counter that a nonce of 13 octets has
parts_by : List ℕ → NonceParts
parts_by n = record {
  from = slice_index n 7 + 256 * (slice_index n 6 + 256 * 0);
  counter = slice_index n 11 + 256 * (slice_index n 10 + 256 * (slice_index n 9 + 256 * (slice_index n 8 + 256 * 0)));
}

said_by : (octets : List ℕ) → is_sealed octets ≡ true
    → nonce_in_head (head_in octets) ≡ Some (record { from = little_two 7 octets; counter = little_four 10 octets })
unfolding head_in
said_by octets e = ap (λ b. nonce_in_head (head_by b (has_modes 2 3 (octet 1 octets)) octets)) e

-- whatever the fields of a sealed head are: its octets say the sender and the counter of its nonce
sealed_says : (ack : Bool) (seq pan to from counter index : ℕ) (body : List ℕ)
    → ◌≡◌ {A = NonceParts}
    (record {
      from = little_two 7 (header_then (heads.Sealed ack seq pan to from counter index) body);
      counter = little_four 10 (header_then (heads.Sealed ack seq pan to from counter index) body);
    })
    (parts_by (nonce_of (heads.Sealed ack seq pan to from counter index)))
unfolding parts_by little_two little_four
sealed_says ack seq pan to from counter index body = refl

head_says : (head : MacHead) → IsSealed head → (body : List ℕ) → nonce_in_head (head_in (header_then head body)) ≡ Some (parts_by (nonce_of head))
head_says (heads.Sealed ack seq pan to from counter index) sealed body =
    said_by (header_then (heads.Sealed ack seq pan to from counter index) body) (sealed_say ack seq pan to from counter index body).sealed
    ∙ ap Some (sealed_says ack seq pan to from counter index body)
head_says (heads.Up ack version seq pan to from) sealed body = absurd sealed
head_says (heads.Down ack version seq pan to from) sealed body = absurd sealed

-- # The queries that flights answer

query_of : (key : Key) (octets : List ℕ) → IsSealedUnder network key octets → Query
query_of key octets s = record { key = key; nonce = nonce_of s.head; front = header s.head; text = s.payload }

frame_of : (key : Key) (octets : List ℕ) (s : IsSealedUnder network key octets) → IsFrameOf octets (query_of key octets s)
unfolding query_of
frame_of key octets s = record {
  head = s.head;
  sealed = s.sealed;
  nonce = refl;
  front = refl;
  is = s.spelled ∙ header_then-append s.head (network.seals key s.head s.payload);
}

-- what a flight has of its nonce is what the query has
parts_of : (f : Flight) (q : Query) → IsFrameOf f.octets q → nonce_parts f ≡ Some (parts_by q.nonce)
parts_of f q s =
    let spelled : f.octets ≡ header_then s.head (answer_to q) =
    s.is ∙ ap (λ (d : List ℕ). d ++ answer_to q) s.front ∙ sym (header_then-append s.head (answer_to q)) in
    ap (λ (o : List ℕ). nonce_in_head (head_in o)) spelled ∙ head_says s.head s.sealed (answer_to q) ∙ ap (λ n. Some (parts_by n)) (sym s.nonce)

not_twice : (a : Option Key) (key : Key) → a ≡ Some key → (o u : Option NonceParts) (p : NonceParts) → o ≡ Some p → u ≡ Some p
    → IfSome a (λ _. IfSome o (λ p. IfSome u (λ q. p ≡ q → ⊥))) → ⊥
not_twice None key e o u p is too h = absurd (cc)
not_twice (Some k) key e None u p is too h = absurd (cc)
not_twice (Some k) key e (Some x) None p is too h = absurd (cc)
not_twice (Some k) key e (Some x) (Some y) p is too h = h (same_Some x p is ∙ sym (same_Some y p too))

module _ (f : Flight) (q : Query) (under : f.key ≡ Some q.key) (s : IsFrameOf f.octets q) where
  other : (g : Flight) (r : Query) → g.key ≡ Some r.key → IsFrameOf g.octets r → HasAnotherNonce f g → HasOtherNonce q r
  other g r beside t apart same twice =
      not_twice f.key q.key under (nonce_parts f) (nonce_parts g) (parts_by q.nonce) (parts_of f q s)
      (parts_of g r t ∙ ap (λ n. Some (parts_by n)) (sym twice)) (apart (under ∙ ap Some same ∙ sym beside))

  others : (fs : List Flight) (qs : List Query) → AnswerAll fs qs → All (HasAnotherNonce f) fs → All (HasOtherNonce q) qs
  others fs qs NoFlight apart = All-nil (HasOtherNonce q)
  others fs qs (SealedFlight g r gs rs beside t rest) apart =
      All-cons (HasOtherNonce q) r rs (other g r beside t (All-head (HasAnotherNonce f) g gs apart))
      (others gs rs rest (All-tail (HasAnotherNonce f) g gs apart))
  others fs qs (OpenFlight g gs rs none rest) apart = others gs rs rest (All-tail (HasAnotherNonce f) g gs apart)

-- The queries that some flights answer.
record Asked (flights : List Flight) : Type 0 where
  queries : List Query
  answered : AnswerAll flights queries
  respects : AllPairs HasOtherNonce queries

asked_with : (f : Flight) (fs : List Flight) → IsFrame network f → All (HasAnotherNonce f) fs → Asked fs → Asked (f ∷ fs)
unfolding query_of
asked_with f fs is apart a = by_key f.key refl
  where
    by_key : (o : Option Key) → f.key ≡ o → Asked (f ∷ fs)
    by_key None e = record { queries = a.queries; answered = OpenFlight f fs a.queries e a.answered; respects = a.respects }
    by_key (Some key) e =
        let s = is.sealed key e in
        let q = query_of key f.octets s in
        let t = frame_of key f.octets s in
        let under : f.key ≡ Some q.key = e in
        record {
          queries = q ∷ a.queries;
          answered = SealedFlight f q fs a.queries under t a.answered;
          respects = AllPairs-cons HasOtherNonce q a.queries (others f q under t fs a.queries a.answered apart) a.respects;
        }

asked : (fs : List Flight) → All (IsFrame network) fs → AllPairs HasAnotherNonce fs → Asked fs
asked [] are apart = record { queries = []; answered = NoFlight; respects = λ i j d lt within. absurd (omega arith) }
asked (f ∷ fs) are apart =
    asked_with f fs (All-head (IsFrame network) f fs are) (λ k d within. apart zero (suc k) d (omega arith) (omega arith))
    (asked fs (All-tail (IsFrame network) f fs are) (λ i j d lt within. apart (suc i) (suc j) d (omega arith) (omega arith)))

-- # The frame that was forged

-- a body that opens is what its text and its tag are
opened_is : (key : List ℕ) (head : MacHead) (front body payload : List ℕ) → opened_in key head front body ≡ Some payload
    → body ≡ ccm_text key (nonce_of head) payload ++ ccm_tag 4 key (nonce_of head) front payload
unfolding payload_in
opened_is key head front body payload =
    by_tag (bytes_eq (sealed_tag body) (ccm_tag 4 key (nonce_of head) front (payload_in key head body))) refl
  where
    by_tag : (b : Bool) → bytes_eq (sealed_tag body) (ccm_tag 4 key (nonce_of head) front (payload_in key head body)) ≡ b
        → (if b then Some (payload_in key head body) else None) ≡ Some payload
        → body ≡ ccm_text key (nonce_of head) payload ++ ccm_tag 4 key (nonce_of head) front payload
    by_tag true right e =
        let same : payload_in key head body ≡ payload = same_Some (payload_in key head body) payload e in
        let text : sealed_text body ≡ ccm_text key (nonce_of head) payload =
        sym (ccm_text-twice key (nonce_of head) (sealed_text body)) ∙ ap (ccm_text key (nonce_of head)) same in
        let tag : sealed_tag body ≡ ccm_tag 4 key (nonce_of head) front payload =
        (bytes_eq-Decides (sealed_tag body) (ccm_tag 4 key (nonce_of head) front (payload_in key head body))).0 right
        ∙ ap (ccm_tag 4 key (nonce_of head) front) same in
        sym (take-append-drop (length body - 4) body) ∙ (λ i. text i ++ tag i)
    by_tag false right e = absurd (cc)

-- what arrived is the head and the body that are read of the octets
arrived_is : (octets : List ℕ) (a : Arrived) → arrived network octets ≡ Some a
    → arrived_with network (head_in octets) (take 15 octets) (body_in octets) ≡ a
unfolding arrived
arrived_is octets a = by_fault (is_some (frame_fault octets))
  where
    by_fault : (b : Bool) → (if b then None else Some (arrived_with network (head_in octets) (take 15 octets) (body_in octets))) ≡ Some a
        → arrived_with network (head_in octets) (take 15 octets) (body_in octets) ≡ a
    by_fault true e = absurd (cc)
    by_fault false e = same_Some (arrived_with network (head_in octets) (take 15 octets) (body_in octets)) a e

parts_are : (octets : List ℕ) → octets ≡ take 15 octets ++ body_in octets
unfolding body_in after
parts_are octets = sym (take-append-drop 15 octets)

forged_query : (octets : List ℕ) (key : Key) → IsOpened (arrived network octets) key → Query
forged_query octets key o = record { key = key; nonce = nonce_of (head_in octets); front = take 15 octets; text = o.payload }

-- octets that were opened are its frame
forged_frame : (octets : List ℕ) (key : Key) (o : IsOpened (arrived network octets) key) → octets ≡ take 15 octets ++ answer_to (forged_query octets key o)
unfolding forged_query
forged_frame octets key o =
    let opens : opened_in key.0 (head_in octets) (take 15 octets) (body_in octets) ≡ Some o.payload =
    ap (λ (a : Arrived). a.opened key) (arrived_is octets o.frame o.is) ∙ o.opened in
    parts_are octets ∙ ap (λ (b : List ℕ). take 15 octets ++ b) (opened_is key.0 (head_in octets) (take 15 octets) (body_in octets) o.payload opens)

-- # The forgery

-- the answer to a query under a key is none of the octets that no flight has under it
new_octets : (octets : List ℕ) (key : Key) (fs : List Flight) (qs : List Query) → AnswerAll fs qs → NoneFlew fs octets key
    → All (λ (q : Query). q.key ≡ key → q.front ++ answer_to q ≡ octets → ⊥) qs
new_octets octets key fs qs NoFlight none = All-nil (λ (q : Query). q.key ≡ key → q.front ++ answer_to q ≡ octets → ⊥)
new_octets octets key fs qs (SealedFlight f q gs rs under t rest) none =
    All-cons (λ (q : Query). q.key ≡ key → q.front ++ answer_to q ≡ octets → ⊥) q rs
    (λ same is. All-head (λ (f : Flight). (f.octets ≡ octets) × (f.key ≡ Some key) → ⊥) f gs none (t.is ∙ is, under ∙ ap Some same))
    (new_octets octets key gs rs rest (All-tail (λ (f : Flight). (f.octets ≡ octets) × (f.key ≡ Some key) → ⊥) f gs none))
new_octets octets key fs qs (OpenFlight f gs rs plain rest) none =
    new_octets octets key gs rs rest (All-tail (λ (f : Flight). (f.octets ≡ octets) × (f.key ≡ Some key) → ⊥) f gs none)

module _ (w : World) (are : All (IsFrame network) w.flights) (apart : AllPairs HasAnotherNonce w.flights) where
  forgery : (octets : List ℕ) (key : Key) → IsOpened (arrived network octets) key → NoneFlew w.flights octets key → IsForgery w.flights octets key
  unfolding forged_query
  forgery octets key o none =
      let a = asked w.flights are apart in
      let forged : Query = forged_query octets key o in
      let is : octets ≡ take 15 octets ++ answer_to forged = forged_frame octets key o in
      let new = new_octets octets key w.flights a.queries a.answered none in
      record {
        queries = a.queries;
        answered = a.answered;
        respects = a.respects;
        forged = forged;
        under = refl;
        nonce = refl;
        front = refl;
        is = is;
        unasked = All-weaker (λ (q : Query). q.key ≡ key → q.front ++ answer_to q ≡ octets → ⊥) (λ (q : Query). q ≡ forged → ⊥)
            (λ q h e. h (ap (λ (r : Query). r.key) e) (ap (λ (r : Query). r.front ++ answer_to r) e ∙ sym is)) a.queries new;
        new = new;
      }

  forged_by : (x : Entry) → IsForged network w x.event x.trace.opened → ForgedBy w x
  forged_by x (ByFrame octets key accepts none) =
      AFrame octets key accepts
      (forgery octets key (was_opened network accepts.node octets accepts.got accepts.from accepts.to_all key accepts.path accepts.is) none)
  forged_by x (ByTag place tag there none) = ATag place tag there none

pub first_is_forgery : (w : World) (entries : List Entry) → All (IsFrame network) w.flights → AllPairs HasAnotherNonce w.flights
    → AreFrames network entries → NoncesDiffer entries → IsForgedRight network w entries → FirstIsForgery w entries
first_is_forgery w [] are apart all differ right = tt
first_is_forgery w (x ∷ xs) are apart all differ right = (
  λ e. forged_by w are apart x (right.0.0 e),
  λ e. first_is_forgery x.after xs (All-head (λ (y : Entry). All (IsFrame network) y.after.flights) x xs all) (differ e).0
      (All-tail (λ (y : Entry). All (IsFrame network) y.after.flights) x xs all) (differ e).1 right.1,
)
