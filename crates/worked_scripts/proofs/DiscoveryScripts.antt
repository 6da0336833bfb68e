-- A datagram without a route finds its way, and not where the way lacks something: the runs are computed.
use Rattle.std.proofs.Common.{arith, refl}
use Rattle.std.proofs.lemmas.Bool.{eqb-false, leb-true, ltb-true}
use Rattle.worked_scripts.proofs.ComputedScripts.{computed}
use Rattle.worked_scripts.specs.DiscoveryScripts.{TheWayMayBeFound, ADatagramFindsItsWay, TheWayMayBeFoundForPieces, PiecesFindTheirWay}
use Rattle.worked_scripts.specs.DiscoveryScripts.{EachNodeOfAWayIsReady, TheWayIsStraight, TheNodeMaySeek, EachNodeTakesTheRequest}
use Rattle.worked_scripts.specs.DiscoveryScripts.{EachNodeTakesTheReply, TheNodeThatAsksLearns, NeighboursHaveTheirAddresses, WhatElseASearchNeeds}

-- # A way that may be found

pub the_way_may_be_found : TheWayMayBeFound
unfolding computed TheWayMayBeFound
the_way_may_be_found =
    record {
      reach = record {
        ready = (
          refl,
          record { memory = refl; spared = refl; ring = refl; address = ltb-true _ _ refl; index = leb-true _ _ refl; key = refl },
          (
            refl,
            record { memory = refl; spared = refl; ring = refl; address = ltb-true _ _ refl; index = leb-true _ _ refl; key = refl },
            (refl, record { memory = refl; spared = refl; ring = refl; address = ltb-true _ _ refl; index = leb-true _ _ refl; key = refl }, tt),
          ),
        );
        straight = ((eqb-false _ _ refl, (eqb-false _ _ refl, tt)), ((eqb-false _ _ refl, tt), (tt, tt)));
        unchecked = refl;
        seeks = record { lost = refl; idle = refl; room = refl; numbers = ltb-true _ _ refl; left = refl };
        reached = (
          eqb-false _ _ refl,
          record {
            apart = eqb-false _ _ refl;
            opens = refl;
            admits = refl;
            away = eqb-false _ _ refl;
            better = refl;
            cheap = leb-true _ _ refl;
            room = refl;
            idle = refl;
            left = refl;
          },
          (
            eqb-false _ _ refl,
            record {
              apart = eqb-false _ _ refl;
              opens = refl;
              admits = refl;
              away = eqb-false _ _ refl;
              better = refl;
              cheap = leb-true _ _ refl;
              room = refl;
              idle = refl;
              left = refl;
            },
            record { at = refl; numbers = ltb-true _ _ refl },
          ),
        );
        some = ltb-true _ _ refl;
        few = leb-true _ _ refl;
        events = leb-true _ _ refl;
      };
      back = (
        record {
          apart = eqb-false _ _ refl;
          takes = record { opens = refl; admits = refl; better = refl; cheap = leb-true _ _ refl; room = refl };
          idle = refl;
          left = refl;
        },
        tt,
      );
      learns = record {
        takes = record { opens = refl; admits = refl; better = refl; cheap = leb-true _ _ refl; room = refl };
        left = refl;
      };
      gathers = λ long. absurd (omega arith);
      short = leb-true _ _ refl;
      events = leb-true _ _ refl;
    }

pub the_way_may_be_found_for_pieces : TheWayMayBeFoundForPieces
unfolding computed TheWayMayBeFoundForPieces
the_way_may_be_found_for_pieces =
    record {
      reach = record {
        ready = (
          refl,
          record { memory = refl; spared = refl; ring = refl; address = ltb-true _ _ refl; index = leb-true _ _ refl; key = refl },
          (
            refl,
            record { memory = refl; spared = refl; ring = refl; address = ltb-true _ _ refl; index = leb-true _ _ refl; key = refl },
            (refl, record { memory = refl; spared = refl; ring = refl; address = ltb-true _ _ refl; index = leb-true _ _ refl; key = refl }, tt),
          ),
        );
        straight = ((eqb-false _ _ refl, (eqb-false _ _ refl, tt)), ((eqb-false _ _ refl, tt), (tt, tt)));
        unchecked = refl;
        seeks = record { lost = refl; idle = refl; room = refl; numbers = ltb-true _ _ refl; left = refl };
        reached = (
          eqb-false _ _ refl,
          record {
            apart = eqb-false _ _ refl;
            opens = refl;
            admits = refl;
            away = eqb-false _ _ refl;
            better = refl;
            cheap = leb-true _ _ refl;
            room = refl;
            idle = refl;
            left = refl;
          },
          (
            eqb-false _ _ refl,
            record {
              apart = eqb-false _ _ refl;
              opens = refl;
              admits = refl;
              away = eqb-false _ _ refl;
              better = refl;
              cheap = leb-true _ _ refl;
              room = refl;
              idle = refl;
              left = refl;
            },
            record { at = refl; numbers = ltb-true _ _ refl },
          ),
        );
        some = ltb-true _ _ refl;
        few = leb-true _ _ refl;
        events = leb-true _ _ refl;
      };
      back = (
        record {
          apart = eqb-false _ _ refl;
          takes = record { opens = refl; admits = refl; better = refl; cheap = leb-true _ _ refl; room = refl };
          idle = refl;
          left = refl;
        },
        tt,
      );
      learns = record {
        takes = record { opens = refl; admits = refl; better = refl; cheap = leb-true _ _ refl; room = refl };
        left = refl;
      };
      gathers = λ long. record {
        tag = ltb-true _ _ refl;
        awaits = record { long = leb-true _ _ refl; none = refl; few = ltb-true _ _ refl; fits = leb-true _ _ refl };
      };
      short = leb-true _ _ refl;
      events = leb-true _ _ refl;
    }

pub a_datagram_finds_its_way : ADatagramFindsItsWay
unfolding computed ADatagramFindsItsWay
a_datagram_finds_its_way = record { answers = refl; note = 1; up = refl }

pub pieces_find_their_way : PiecesFindTheirWay
unfolding computed PiecesFindTheirWay
pieces_find_their_way = record { answers = refl; note = 1; up = refl }

-- # A way that lacks one thing

pub each_node_of_a_way_is_ready : EachNodeOfAWayIsReady
unfolding computed EachNodeOfAWayIsReady
each_node_of_a_way_is_ready = (refl, refl, refl, refl, refl, refl, refl)

pub the_way_is_straight : TheWayIsStraight
unfolding computed TheWayIsStraight
the_way_is_straight = (refl, refl)

pub the_node_may_seek : TheNodeMaySeek
unfolding computed TheNodeMaySeek
the_node_may_seek = (refl, refl, refl, refl, refl, refl, refl, refl)

pub each_node_takes_the_request : EachNodeTakesTheRequest
unfolding computed EachNodeTakesTheRequest
each_node_takes_the_request = (refl, refl, refl, refl, refl, refl, refl, refl, refl, refl, refl)

pub each_node_takes_the_reply : EachNodeTakesTheReply
unfolding computed EachNodeTakesTheReply
each_node_takes_the_reply = (refl, refl, refl, refl, refl, refl, refl)

pub the_node_that_asks_learns : TheNodeThatAsksLearns
unfolding computed TheNodeThatAsksLearns
the_node_that_asks_learns = (refl, refl, refl, refl)

pub neighbours_have_their_addresses : NeighboursHaveTheirAddresses
unfolding computed NeighboursHaveTheirAddresses
neighbours_have_their_addresses = refl

pub what_else_a_search_needs : WhatElseASearchNeeds
unfolding computed WhatElseASearchNeeds
what_else_a_search_needs = (refl, refl, refl)
