use Rattle.std.proofs.Common.{ap, not, ◌∙◌, sym, drop_of_length-le}
use Rattle.line_sim.specs.WorldRecorder.{has_feed}
use Rattle.line_sim.proofs.recorder.has_no_feed.Goals as goal

pub returns-clause-none : goal.returns-clause-none
returns-clause-none c = λ _. c.loop-octet.invariant.0 (rw (drop_of_length-le c.args.octets.now c.loop-octet-test.false) tt)

pub returns-clause-exact : goal.returns-clause-exact
returns-clause-exact c =
    sym (ap not (c.loop-octet.invariant.1 ∙ ap has_feed (drop_of_length-le c.args.octets.now c.loop-octet-test.false)))
