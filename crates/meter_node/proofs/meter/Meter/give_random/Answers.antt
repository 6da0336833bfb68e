use Rattle.std.proofs.Common.{[], refl}
use Rattle.std.specs.Option.{option_map}
use Rattle.node_rules.specs.CarriedPlans.{nothing}
use Rattle.node_rules.specs.MemoryDrafts.{given_ends, give_random}
use Rattle.meter_node.specs.Sessions.{session_of}
use Rattle.meter_node.specs.MeterStates.{node_of, memory_with}
use Rattle.meter_node.proofs.Carried.{on_node, refuses, changes, given, full}
use Rattle.node_rules.specs.declared.refusal.RandomFault.TheVariants.{RandomsFull}
use Rattle.meter_node.proofs.meter.Meter.give_random.Goals as goal

pub returns-in_default-clause-carries : goal.returns-in_default-clause-carries
returns-in_default-clause-carries g c =
    rw (← c.self.view_is) (on_node (record {
      station = c.self.inside.station;
      psk = c.self.inside.pair_key;
      randoms = c.self.inside.randoms;
      session = option_map session_of c.self.inside.session;
    }) _ (λ l running.
    refuses given_ends (record {
      station = c.self.inside.station;
      psk = c.self.inside.pair_key;
      randoms = c.self.inside.randoms;
      session = option_map session_of c.self.inside.session;
    })
    (record { station = c.self.inside.station; psk = c.self.inside.pair_key; randoms = c.give.new.self; session = option_map session_of c.self.inside.session })
    l RandomsFull (give_random (memory_with (record {
      station = c.self.inside.station;
      psk = c.self.inside.pair_key;
      randoms = c.self.inside.randoms;
      session = option_map session_of c.self.inside.session;
    }) l) c.args.value) nothing running
    (λ i. node_of (record {
      station = c.self.inside.station;
      psk = c.self.inside.pair_key;
      randoms = c.in_default.ensures.same i;
      session = option_map session_of c.self.inside.session;
    }))
    (full (record {
      station = c.self.inside.station;
      psk = c.self.inside.pair_key;
      randoms = c.self.inside.randoms;
      session = option_map session_of c.self.inside.session;
    }) l c.args.value c.in_default.ensures.full.1) refl))

pub returns-clause-carries : goal.returns-clause-carries
returns-clause-carries g c =
    rw (← c.self.view_is) (on_node (record {
      station = c.self.inside.station;
      psk = c.self.inside.pair_key;
      randoms = c.self.inside.randoms;
      session = option_map session_of c.self.inside.session;
    }) _ (λ l running.
    changes given_ends (record {
      station = c.self.inside.station;
      psk = c.self.inside.pair_key;
      randoms = c.self.inside.randoms;
      session = option_map session_of c.self.inside.session;
    })
    (record { station = c.self.inside.station; psk = c.self.inside.pair_key; randoms = c.give.new.self; session = option_map session_of c.self.inside.session })
    l [] tt (give_random (memory_with (record {
      station = c.self.inside.station;
      psk = c.self.inside.pair_key;
      randoms = c.self.inside.randoms;
      session = option_map session_of c.self.inside.session;
    }) l) c.args.value) nothing running (rw (← c.self.view_is) at c.requires.agrees) refl
    (given (record {
      station = c.self.inside.station;
      psk = c.self.inside.pair_key;
      randoms = c.self.inside.randoms;
      session = option_map session_of c.self.inside.session;
    }) l c.args.value c.give.new.self c.in-Ok.ensures.full c.in-Ok.ensures.taken) refl))
