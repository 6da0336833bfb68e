use Rattle.std.proofs.Common.{take, subst, arith}
use Rattle.std.proofs.lemmas.List.{take_all}
use Rattle.script_lines.specs.Lines.{NoFeed}
use Rattle.script_lines.proofs.input.look.Goals as goal

pub returns-in-Some : goal.returns-in-Some
returns-in-Some c = rw (← c.ahead-octets.ensures) (
  omega (arith, c.min-end.ensures, c.in-Some.ensures.0),
  omega (arith, c.min-end.ensures, c.in-Some.ensures.0),
  c.in-Some.ensures.1,
  c.in-Some.ensures.2,
)

pub returns-in-None : goal.returns-in-None
returns-in-None c = rw (← c.ahead-octets.ensures) (
  omega (arith, c.min-end.ensures, c.if-end-octets.true),
  subst (λ n. NoFeed (take n c.ahead-octets.result.now)) (omega (arith, c.min-end.ensures, c.if-end-octets.true)) c.in-None.ensures,
)

pub returns-in-None-2 : goal.returns-in-None-2
returns-in-None-2 c = rw (← c.ahead-octets.ensures) (
  omega (arith, c.min-end.ensures, c.if-end-octets.false),
  subst NoFeed (take_all c.min-end.result c.ahead-octets.result.now (omega (arith, c.if-end-octets.false))) c.in-None-2.ensures,
)
