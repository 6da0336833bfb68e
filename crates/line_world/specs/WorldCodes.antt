-- How a world is kept as a value.
use Rattle.std.specs.Prelude.{◌≡◌, ◌⊎◌, ℕ, Bool, List, Option, refl}
use mathlib.Core.Logic.{inl, inr}
use Rattle.std.specs.Coded.{Coded, code_by, coded×, coded⊎, coded_ℕ, coded_bool, coded_list, coded_option}
use Rattle.plc_base.specs.declared.address.Eui.{Eui}
use Rattle.plc_base.specs.declared.key.Key.{Key}
use Rattle.plc_base.specs.declared.key.RandomOctets.{RandomOctets}
use Rattle.plc_base.specs.declared.tags.PairTag.{PairTag}
use Rattle.plc_base.specs.declared.tags.PairTag.TheVariants as tags
use Rattle.neighbour_checks.specs.declared.tables.OpenCheck.{OpenCheck}
use Rattle.neighbour_checks.specs.declared.tables.ListedNeighbour.{ListedNeighbour}
use Rattle.neighbour_checks.specs.Neighbours.{Neighbours}
use Rattle.broadcast_log.specs.Log.{Log, log_code}
use Rattle.pan_discovery.specs.declared.agents.Agent.{Agent}
use Rattle.pan_discovery.specs.History.{Scanned}
use Rattle.node_rules.specs.Memory.{Node}
use Rattle.reach_rules.specs.ReachingNodes.{Beside}
use Rattle.node_rules.specs.States.{eui_code}
use Rattle.meter_node.specs.Sessions.{key_code, rand_code}
use Rattle.line_rules.specs.Worlds.{Flight, World}
use Rattle.line_world.specs.NodeCodes.{node_code}

abbrev pub flight_code : Coded Flight
flight_code =
    code_by (ℕ × (List ℕ × (Option Key × (ℕ × Bool))))
    (coded× coded_ℕ (coded× (coded_list coded_ℕ) (coded× (coded_option key_code) (coded× coded_ℕ coded_bool))))
    (λ f. (f.from, (f.octets, (f.key, (f.note, f.lost)))))
    (λ t. record { from = t.0; octets = t.1.0; key = t.1.1.0; note = t.1.1.1.0; lost = t.1.1.1.1 }) (λ _. refl)

-- a tag as the kind that it is, and what it was computed over
abbrev pub TagParts : Type 0
TagParts = (Eui × List ℕ) ⊎ ((Eui × List ℕ) ⊎ (Eui × (RandomOctets × (ℕ × (List ℕ × List ℕ)))))

abbrev pub tag_parts : PairTag → TagParts
tag_parts (tags.MacP eui text) = inl (eui, text)
tag_parts (tags.MacS eui text) = inr (inl (eui, text))
tag_parts (tags.Channel eui rand nonce header text) = inr (inr (eui, (rand, (nonce, (header, text)))))

abbrev pub tag_by : TagParts → PairTag
tag_by (inl p) = tags.MacP p.0 p.1
tag_by (inr (inl p)) = tags.MacS p.0 p.1
tag_by (inr (inr p)) = tags.Channel p.0 p.1.0 p.1.1.0 p.1.1.1.0 p.1.1.1.1

pub tag_back : (tag : PairTag) → tag_by (tag_parts tag) ≡ tag
tag_back (tags.MacP eui text) = refl
tag_back (tags.MacS eui text) = refl
tag_back (tags.Channel eui rand nonce header text) = refl

abbrev pub tag_code : Coded PairTag
tag_code =
    code_by TagParts
    (coded⊎ (coded× eui_code (coded_list coded_ℕ)) (coded⊎ (coded× eui_code (coded_list coded_ℕ))
    (coded× eui_code (coded× rand_code (coded× coded_ℕ (coded× (coded_list coded_ℕ) (coded_list coded_ℕ)))))))
    (λ t. tag_parts t) (λ p. tag_by p) (λ t. tag_back t)

abbrev pub check_code : Coded OpenCheck
check_code =
    code_by (ℕ × (ℕ × (ℕ × ℕ))) (coded× coded_ℕ (coded× coded_ℕ (coded× coded_ℕ coded_ℕ)))
    (λ c. (c.neighbour, (c.number, (c.origin, c.since))))
    (λ t. record { neighbour = t.0; number = t.1.0; origin = t.1.1.0; since = t.1.1.1 }) (λ _. refl)

abbrev pub listed_code : Coded ListedNeighbour
listed_code =
    code_by (ℕ × ℕ) (coded× coded_ℕ coded_ℕ) (λ l. (l.neighbour, l.since))
    (λ t. record { neighbour = t.0; since = t.1 }) (λ _. refl)

abbrev pub neighbours_code : Coded Neighbours
neighbours_code =
    code_by (List OpenCheck × List ListedNeighbour) (coded× (coded_list check_code) (coded_list listed_code))
    (λ n. (n.checks, n.listed)) (λ t. record { checks = t.0; listed = t.1 }) (λ _. refl)

abbrev pub agent_code : Coded Agent
agent_code =
    code_by (ℕ × ℕ) (coded× coded_ℕ coded_ℕ) (λ a. (a.address, a.total))
    (λ t. record { address = t.0; total = t.1 }) (λ _. refl)

abbrev pub scan_code : Coded Scanned
scan_code =
    code_by (Bool × List Agent) (coded× coded_bool (coded_list agent_code))
    (λ s. (s.scanning, s.agents)) (λ t. record { scanning = t.0; agents = t.1 }) (λ _. refl)

abbrev pub beside_code : Coded Beside
beside_code =
    code_by (Neighbours × (Log × Scanned)) (coded× neighbours_code (coded× log_code scan_code))
    (λ b. (b.checks, (b.log, b.scan))) (λ t. record { checks = t.0; log = t.1.0; scan = t.1.1 }) (λ _. refl)

abbrev pub world_code : Coded World
world_code =
    code_by (ℕ × (ℕ × (Bool × (List Node × (List Flight × (List PairTag × (ℕ × (ℕ × (ℕ × (ℕ × (Bool × List Beside)))))))))))
    (coded× coded_ℕ (coded× coded_ℕ (coded× coded_bool (coded× (coded_list node_code) (coded× (coded_list flight_code)
    (coded× (coded_list tag_code) (coded× coded_ℕ (coded× coded_ℕ (coded× coded_ℕ (coded× coded_ℕ
    (coded× coded_bool (coded_list beside_code))))))))))))
    (λ w. (
      w.clock,
      (
        w.events,
        (
          w.running,
          (
            w.nodes,
            (
              w.flights,
              (
                w.made,
                (
                  w.sends,
                  (
                    w.ups,
                    (
                      w.forged,
                      (
                        w.done,
                        (w.checks_on, w.beside),
                      ),
                    ),
                  ),
                ),
              ),
            ),
          ),
        ),
      ),
    ))
    (λ t. record {
      clock = t.0;
      events = t.1.0;
      running = t.1.1.0;
      nodes = t.1.1.1.0;
      flights = t.1.1.1.1.0;
      made = t.1.1.1.1.1.0;
      sends = t.1.1.1.1.1.1.0;
      ups = t.1.1.1.1.1.1.1.0;
      forged = t.1.1.1.1.1.1.1.1.0;
      done = t.1.1.1.1.1.1.1.1.1.0;
      checks_on = t.1.1.1.1.1.1.1.1.1.1.0;
      beside = t.1.1.1.1.1.1.1.1.1.1.1;
    })
    (λ _. refl)
