use Rattle.std.proofs.Common.{◌≡◌, length, take, drop, sym, ap, ◌∙◌, arith}
use Rattle.frames_c.proofs.Lengths.{sealed_length, front, same_frame}
use Rattle.frames_c.proofs.sealing.seal.Goals as goal

pub write_front-requires : goal.write_front-requires
write_front-requires c =
    let long = sealed_length _ _ _ _ c.seal_frame.ensures.frame in
    omega (arith, long, ap length c.octets.ensures.value, c.if-out-payload.false)

pub returns-clause-sealed : goal.returns-clause-sealed
returns-clause-sealed c =
    let same : take c.len.result c.write_front.new.buffer ≡ c.seal_frame.new.out =
    ap (take c.len.result) c.write_front.ensures
    ∙ front c.len.result c.octets.result.now (drop (length c.octets.result.now) c.args.out.now)
    (c.len.ensures.value ∙ sym (ap length c.octets.ensures.value))
    ∙ c.octets.ensures.value in
    let s = c.seal_frame.ensures.frame in
    rw (same) (same_frame _ _ _ _ _ _ c.in-Some-sealed_head.ensures.1 c.in-Some.ensures.1 s)

pub returns-clause-size : goal.returns-clause-size
returns-clause-size c =
    let long = sealed_length _ _ _ _ c.seal_frame.ensures.frame in
    omega (arith, long, c.len.ensures.value)
