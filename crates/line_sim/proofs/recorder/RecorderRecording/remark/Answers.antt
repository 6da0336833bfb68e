use Rattle.std.proofs.Common.{refl, arith}
use Rattle.line_sim.specs.Recorders.{ordered_of}
use Rattle.line_sim.proofs.Recordings.{remark_not_next, remark_is}
use Rattle.line_sim.proofs.Scripts.{script_grows, remark_more}
use Rattle.line_sim.proofs.recorder.RecorderRecording.remark.Goals as goal

pub returns-then-not-take_remark : goal.returns-then-not-take_remark
returns-then-not-take_remark g c =
    rw (← c.self.view_is)
    (remark_not_next c.args.at c.args.remark.now c.self.inside.script.items c.self.inside.world (ordered_of c.self.inside.order)
    (ordered_of c.take_remark.new.self) c.if-not-take_remark.ensures.exact)

pub returns : goal.returns
returns g c =
    rw (← c.self.view_is)
    (remark_is c.args.at c.args.remark.now c.self.inside.script.items c.append_remark.new.script.items c.self.inside.world
    (ordered_of c.self.inside.order) (ordered_of c.take_remark.new.self) c.append_remark.result c.if-not-take_remark.ensures.exact
    c.append_remark.ensures.exact c.append_remark.ensures.err)

pub invariant_of-self : goal.invariant_of-self
invariant_of-self g c = script_grows c.take_remark.ensures.grows refl c.self.invariant

pub invariant_of-self-2 : goal.invariant_of-self-2
invariant_of-self-2 g c =
    remark_more c.args.at c.args.remark.now c.append_remark.result (omega arith) c.append_remark.ensures.ok c.append_remark.ensures.err
    c.take_remark.ensures.grows (c.if-not-take_remark.ensures.follows refl) c.self.invariant
