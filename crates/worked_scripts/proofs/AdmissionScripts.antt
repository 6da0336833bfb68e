-- A meter joins over the air, and not where something is lacking: the runs are computed.
use Rattle.std.proofs.Common.{refl}
use Rattle.std.proofs.lemmas.Bool.{eqb-false, leb-true, ltb-true}
use Rattle.plc_base.proofs.OctetLists.{big_octets}
use Rattle.worked_scripts.proofs.ArrivalScripts.{plain_opens}
use Rattle.worked_scripts.proofs.ComputedScripts.{computed}
use Rattle.worked_scripts.specs.AdmissionScripts.{TheMeterMayJoin, TheMeterJoins, TheMeterIsOutside, TheCoordinatorLetsItIn, PacketsHaveToPass}
use Rattle.worked_scripts.specs.AdmissionScripts.{TheMeterMayJoinByAnAgent, TheAgentCarries, TheAgentHasRoutes}

pub the_meter_may_join : TheMeterMayJoin
unfolding computed TheMeterMayJoin
the_meter_may_join = record {
  outside = record { there = refl; named = refl; eui = (refl, big_octets 8 2); alone = refl; value = refl };
  lets = record {
    there = refl;
    apart = refl;
    eui = refl;
    ring = refl;
    address = refl;
    allows = refl;
    psk = refl;
    grants = refl;
    room = refl;
    value = refl;
    octets = refl;
  };
  pass = record {
    second = record { fits = record { some = ltb-true _ _ refl; few = leb-true _ _ refl }; taken = refl; says = refl };
    third = record {
      fits = record { some = ltb-true _ _ refl; few = leb-true _ _ refl };
      later = refl;
      taken = refl;
      grants = refl;
      numbered = refl;
    };
    fourth = record { fits = record { some = ltb-true _ _ refl; few = leb-true _ _ refl }; taken = refl };
  };
  room = leb-true _ _ refl;
}

pub the_meter_joins : TheMeterJoins
unfolding computed TheMeterJoins
the_meter_joins = record {
  answers = refl;
  taken = refl;
  done = refl;
  memory = _;
  holds = refl;
  ring = refl;
  over = refl;
  book = _;
  keeps = refl;
  closed = refl;
}

pub the_meter_is_outside : TheMeterIsOutside
unfolding computed TheMeterIsOutside
the_meter_is_outside = (refl, refl, refl, refl, refl, refl, refl, refl)

pub the_coordinator_lets_it_in : TheCoordinatorLetsItIn
unfolding computed TheCoordinatorLetsItIn
the_coordinator_lets_it_in = (refl, refl, refl, refl, refl, refl, refl, refl, refl, refl, refl)

pub packets_have_to_pass : PacketsHaveToPass
unfolding computed PacketsHaveToPass
packets_have_to_pass = (refl, refl)

-- # Through an agent

pub the_meter_may_join_by_an_agent : TheMeterMayJoinByAnAgent
unfolding computed TheMeterMayJoinByAnAgent
the_meter_may_join_by_an_agent = record {
  opens = plain_opens;
  outside = record { there = refl; named = refl; eui = (refl, big_octets 8 3); alone = refl; value = refl };
  lets = record {
    there = refl;
    apart = refl;
    eui = refl;
    ring = refl;
    address = refl;
    allows = refl;
    psk = refl;
    grants = refl;
    room = refl;
    value = refl;
    octets = refl;
  };
  carries = record {
    there = refl;
    ready = record { memory = refl; spared = refl; ring = refl; address = ltb-true _ _ refl; index = leb-true _ _ refl; key = refl };
    home = record { memory = refl; spared = refl; ring = refl; address = ltb-true _ _ refl; index = leb-true _ _ refl; key = refl };
    up = record { on = eqb-false _ _ refl; apart = eqb-false _ _ refl; route = refl; left = refl; opens = refl; admits = refl };
    down = record { on = eqb-false _ _ refl; apart = eqb-false _ _ refl; route = refl; left = refl; opens = refl; admits = refl };
    apart = refl;
    other = eqb-false _ _ refl;
  };
  pass = record {
    second = record { fits = record { some = ltb-true _ _ refl; few = leb-true _ _ refl }; taken = refl; says = refl };
    third = record {
      fits = record { some = ltb-true _ _ refl; few = leb-true _ _ refl };
      later = refl;
      taken = refl;
      grants = refl;
      numbered = refl;
    };
    fourth = record { fits = record { some = ltb-true _ _ refl; few = leb-true _ _ refl }; taken = refl };
  };
  room = leb-true _ _ refl;
}

pub the_agent_carries : TheAgentCarries
unfolding computed TheAgentCarries
the_agent_carries = (refl, refl, refl, refl, refl, refl, refl, refl, refl, refl, refl)

pub the_agent_has_routes : TheAgentHasRoutes
unfolding computed TheAgentHasRoutes
the_agent_has_routes = (refl, refl, refl, refl)
