-- A datagram arrives along a route that may carry it, and not along one that lacks something: the runs are computed.
use Rattle.std.proofs.Common.{arith, ◌≡◌, ℕ, ◌+◌, ◌-◌, true, List, [], ◌∷◌, ◌++◌, length, take, drop, Some, None, refl, ap, ◌∙◌}
use Rattle.std.specs.Prelude.{if◌then◌else◌}
use Rattle.std.specs.Str.{bytes_eq}
use Rattle.std.proofs.lemmas.Bool.{eqb-false, leb-true, ltb-true}
use Rattle.std.proofs.lemmas.List.{length-append}
use Rattle.std.proofs.lemmas.Slice.Eq.{bytes_eq-Decides}
use Rattle.std.proofs.Math.Seq.{drop-append_seam, take-append_seam}
use Rattle.plc_base.specs.declared.key.Key.{Key}
use Rattle.node_rules.specs.Ciphers.{OpensWhatItSeals}
use Rattle.worked_scripts.proofs.ComputedScripts.{computed}
use Rattle.worked_scripts.specs.ArrivalScripts.{TheRouteMayCarry, ADatagramArrives, EachNodeIsReady, EachLinkHolds, TheRouteIsStraight, TheRestIsNeeded}
use Rattle.worked_scripts.specs.ArrivalScripts.{TheRouteMayCarryPieces, ADatagramInPiecesArrives, EachPieceNeedsACounter, PiecesNeedRoom, PiecesNeedTheirName}
use Rattle.worked_scripts.specs.ArrivalScripts.{FourteenLinksCarry, BothAreOrders, ADatagramArrivesLinkByLink, EachOrderIsNeeded}
use Rattle.worked_scripts.specs.Scripts.{plain, plain_tag, plainly_opened}

-- # The ciphers

four_of : (octets : List ℕ) → length (take 4 (octets ++ 0 ∷ 0 ∷ 0 ∷ 0 ∷ [])) ≡ 4
four_of [] = refl
four_of (a ∷ []) = refl
four_of (a ∷ b ∷ []) = refl
four_of (a ∷ b ∷ c ∷ []) = refl
four_of (a ∷ b ∷ c ∷ d ∷ rest) = refl

length_sealed : (key : Key) (payload : List ℕ) → length (payload ++ plain_tag key) ≡ length payload + 4
length_sealed key payload = length-append payload (plain_tag key) ∙ ap (λ n. length payload + n) (four_of key.0)

opens_sealed : (key : Key) (payload : List ℕ) → plainly_opened key (payload ++ plain_tag key) ≡ Some payload
opens_sealed key payload =
    let tag : List ℕ = plain_tag key in
    let long = length_sealed key payload in
    let start : length (payload ++ tag) - 4 ≡ length payload = omega (arith, long) in
    (λ i. if bytes_eq (drop (start i) (payload ++ tag)) tag then Some (take (start i) (payload ++ tag)) else None)
    ∙ (λ i. if bytes_eq (drop-append_seam payload tag i) tag then Some (take-append_seam payload tag i) else None)
    ∙ (λ i. if (bytes_eq-Decides tag tag).1 refl i then Some payload else None)

pub plain_opens : OpensWhatItSeals plain
plain_opens = record { opens = λ key head payload. opens_sealed key payload; tag = λ key head payload. length_sealed key payload }

-- # A route that may carry a datagram

pub the_route_may_carry : TheRouteMayCarry
unfolding computed TheRouteMayCarry
the_route_may_carry =
    record {
      ready = (
        refl,
        record { memory = refl; spared = refl; ring = refl; address = ltb-true _ _ refl; index = leb-true _ _ refl; key = refl },
        (
          refl,
          record { memory = refl; spared = refl; ring = refl; address = ltb-true _ _ refl; index = leb-true _ _ refl; key = refl },
          (refl, record { memory = refl; spared = refl; ring = refl; address = ltb-true _ _ refl; index = leb-true _ _ refl; key = refl }, tt),
        ),
      );
      straight = ((eqb-false _ _ refl, (eqb-false _ _ refl, tt)), ((eqb-false _ _ refl, tt), (tt, tt)));
      route = (
        record { on = eqb-false _ _ refl; apart = eqb-false _ _ refl; route = refl; left = refl; opens = refl; admits = refl },
        (record { on = eqb-false _ _ refl; apart = eqb-false _ _ refl; route = refl; left = refl; opens = refl; admits = refl }, refl),
      );
      some = ltb-true _ _ refl;
      gathers = λ long. absurd (omega arith);
      few = leb-true _ _ refl;
      short = leb-true _ _ refl;
      room = leb-true _ _ refl;
    }

pub the_route_may_carry_pieces : TheRouteMayCarryPieces
unfolding computed TheRouteMayCarryPieces
the_route_may_carry_pieces =
    record {
      ready = (
        refl,
        record { memory = refl; spared = refl; ring = refl; address = ltb-true _ _ refl; index = leb-true _ _ refl; key = refl },
        (
          refl,
          record { memory = refl; spared = refl; ring = refl; address = ltb-true _ _ refl; index = leb-true _ _ refl; key = refl },
          (refl, record { memory = refl; spared = refl; ring = refl; address = ltb-true _ _ refl; index = leb-true _ _ refl; key = refl }, tt),
        ),
      );
      straight = ((eqb-false _ _ refl, (eqb-false _ _ refl, tt)), ((eqb-false _ _ refl, tt), (tt, tt)));
      route = (
        record { on = eqb-false _ _ refl; apart = eqb-false _ _ refl; route = refl; left = refl; opens = refl; admits = refl },
        (record { on = eqb-false _ _ refl; apart = eqb-false _ _ refl; route = refl; left = refl; opens = refl; admits = refl }, refl),
      );
      some = ltb-true _ _ refl;
      gathers = λ long. record {
        tag = ltb-true _ _ refl;
        awaits = record { long = leb-true _ _ refl; none = refl; few = ltb-true _ _ refl; fits = leb-true _ _ refl };
      };
      few = leb-true _ _ refl;
      short = leb-true _ _ refl;
      room = leb-true _ _ refl;
    }

pub a_datagram_arrives : ADatagramArrives
unfolding computed ADatagramArrives
a_datagram_arrives = (plain_opens, record { answers = refl; note = 2; up = refl }, refl)

pub a_datagram_in_pieces_arrives : ADatagramInPiecesArrives
unfolding computed ADatagramInPiecesArrives
a_datagram_in_pieces_arrives = record { answers = refl; note = 2; up = refl }

pub both_are_orders : BothAreOrders
unfolding computed BothAreOrders
both_are_orders = (
  (ltb-true _ _ refl, (ltb-true _ _ refl, (ltb-true _ _ refl, (ltb-true _ _ refl, refl)))),
  refl,
  refl,
  (ltb-true _ _ refl, (ltb-true _ _ refl, (ltb-true _ _ refl, (ltb-true _ _ refl, refl)))),
  refl,
  refl,
)

pub a_datagram_arrives_link_by_link : ADatagramArrivesLinkByLink
unfolding computed ADatagramArrivesLinkByLink
a_datagram_arrives_link_by_link = record { answers = refl; note = 2; up = refl }

pub each_order_is_needed : EachOrderIsNeeded
unfolding computed EachOrderIsNeeded
each_order_is_needed = (refl, refl, refl, refl, refl)

-- # A route that lacks one thing

pub each_node_is_ready : EachNodeIsReady
unfolding computed EachNodeIsReady
each_node_is_ready = (refl, refl, refl, refl, refl, refl, refl, refl)

pub each_link_holds : EachLinkHolds
unfolding computed EachLinkHolds
each_link_holds = (refl, refl, refl, refl, refl, refl)

pub the_route_is_straight : TheRouteIsStraight
unfolding computed TheRouteIsStraight
the_route_is_straight = refl

pub the_rest_is_needed : TheRestIsNeeded
unfolding computed TheRestIsNeeded
the_rest_is_needed = (refl, refl, refl, refl)

-- # What pieces need

pub each_piece_needs_a_counter : EachPieceNeedsACounter
unfolding computed EachPieceNeedsACounter
each_piece_needs_a_counter = (refl, refl, refl, refl)

pub pieces_need_room : PiecesNeedRoom
unfolding computed PiecesNeedRoom
pieces_need_room = (refl, refl, refl, refl)

pub pieces_need_their_name : PiecesNeedTheirName
unfolding computed PiecesNeedTheirName
pieces_need_their_name = (refl, refl, refl)

pub fourteen_links_carry : FourteenLinksCarry
unfolding computed FourteenLinksCarry
fourteen_links_carry = (refl, refl)
