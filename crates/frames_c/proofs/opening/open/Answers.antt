use Rattle.std.proofs.Common.{length, sym, ap, ◌∙◌, arith}
use Rattle.frames_c.proofs.Lengths.{sealed_length, when_ok}
use Rattle.frames_c.proofs.opening.open.Goals as goal

pub write_front-requires : goal.write_front-requires
write_front-requires c =
    let s = when_ok c.open_frame.result (sym c.is_err.ensures.value ∙ c.if-is_err.false) c.open_frame.ensures.opened in
    omega (arith, sealed_length _ _ _ _ s, ap length c.in-Some-sealed_frame.ensures.places.3, ap length c.octets.ensures.value, c.if-payload-frame.false)

pub returns-clause-size : goal.returns-clause-size
returns-clause-size c =
    let s = when_ok c.open_frame.result (sym c.is_err.ensures.value ∙ c.if-is_err.false) c.open_frame.ensures.opened in
    omega (arith, sealed_length _ _ _ _ s, ap length c.in-Some-sealed_frame.ensures.places.3, c.len.ensures.value)
