-- How what a node holds on the line is kept as a value.
use Rattle.std.specs.Prelude.{ℕ, List, refl}
use Rattle.std.specs.Coded.{Coded, code_by, coded×, coded_ℕ, coded_list}
use Rattle.frame_counters.specs.SendCounter as counter
use Rattle.frame_counters.specs.PeerMarks as marks
use Rattle.group_keys.specs.KeyRing as ring
use Rattle.routing_set.specs.RoutingSet as routing
use Rattle.routing_set.specs.OwnNumber as own_number
use Rattle.fragment_buffers.specs.Reassembly as reassembly
use Rattle.fragment_buffers.specs.WaitingBodies.{Body, body_code}
use Rattle.node_rules.specs.Memory.{StationMemory}

-- what a station holds is kept as the tuple of its fields
abbrev pub station_code : Coded StationMemory
station_code =
    code_by (ring.Ring ×
    (counter.Counting × (marks.Table
    × (routing.Routing × (own_number.Numbering × (ℕ × (List reassembly.Reassembly × List Body)))))))
    (coded× ring.ring_code
    (coded× counter.counting_code
    (coded× marks.table_code (coded× routing.routing_code (coded× own_number.numbering_code
    (coded× coded_ℕ (coded× (coded_list reassembly.reassembly_code) (coded_list body_code))))))))
    (λ l. (l.ring, (l.counter, (l.marks, (l.routing, (l.own_number, (l.next_tag, (l.reassemblies, l.waiting))))))))
    (λ t. record {
      ring = t.0;
      counter = t.1.0;
      marks = t.1.1.0;
      routing = t.1.1.1.0;
      own_number = t.1.1.1.1.0;
      next_tag = t.1.1.1.1.1.0;
      reassemblies = t.1.1.1.1.1.1.0;
      waiting = t.1.1.1.1.1.1.1;
    })
    (λ _. refl)
