use Rattle.node_rules.specs.Ciphers.{network}
use Rattle.node_rules.specs.Frames.{arrived}
use Rattle.coordinator.specs.CoordinatorStates.{CoordinatorState}
use Rattle.coordinator.proofs.Parts.{part_agrees}
use Rattle.coordinator.proofs.ReceivedFrames.{halted_beside, still_runs, accepted_holds}
use Rattle.coordinator.proofs.coordinator.Coordinator.accept_frame.Goals as goal

pub accept-requires : goal.accept-requires
accept-requires g c =
    record {
      agrees =
          part_agrees c.self.inside.randoms c.self.inside.sessions c.self.inside.book _ c.self.inside.station.memory
          (rw (← c.self.view_is) at c.requires.holds);
    }

pub returns-clause-halted : goal.returns-clause-halted
returns-clause-halted g c =
    let x : CoordinatorState = record {
      station = c.self.inside.station;
      randoms = c.self.inside.randoms;
      sessions = c.self.inside.sessions;
      book = c.self.inside.book;
    } in
    rw (← c.self.view_is) (halted_beside x c.accept.new.self c.accept.result c.accept.ensures.halted)

pub returns-clause-running : goal.returns-clause-running
returns-clause-running g c =
    still_runs c.self.inside.station c.accept.new.self c.self.inside.randoms c.self.inside.sessions c.self.inside.book (arrived network c.args.octets.now)
    c.accept.result c.accept.ensures.running

pub returns-clause-holds : goal.returns-clause-holds
returns-clause-holds g c =
    accepted_holds c.self.inside.station c.accept.new.self c.self.inside.randoms c.self.inside.sessions c.self.inside.book
    (arrived network c.args.octets.now) c.accept.result c.accept.ensures.halted c.accept.ensures.carries (rw (← c.self.view_is) at c.requires.holds)
    c.accept.ensures.after.agrees
