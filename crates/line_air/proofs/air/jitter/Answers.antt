use Rattle.std.proofs.Common.{◌≡◌, sym, ap, ◌∙◌, arith}
use Rattle.rand_pcg.specs.Lcg.{Lcg}
use Rattle.air_draws.specs.Draws.{below}
use Rattle.line_air.proofs.air.jitter.Goals as goal

zero_below : (g : Lcg) → below 0 g ≡ 0
unfolding below
zero_below g = omega arith

pub returns-then-bound-eq0-clause-value : goal.returns-then-bound-eq0-clause-value
returns-then-bound-eq0-clause-value c =
    sym (ap (λ n. below n c.args.backoff.now) c.if-bound-eq0.true ∙ zero_below c.args.backoff.now)
