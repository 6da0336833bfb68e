use Rattle.std.proofs.Common.{refl, sym, ap, subst, ◌∙◌, arith}
use Rattle.std.proofs.Math.Numerals.{add-one}
use Rattle.line_place.specs.Hops.{AllHavePaths}
use Rattle.line_place.specs.ScatteredSpots.{spots_after, drawn_rows, tries_after}
use Rattle.line_place.proofs.Tries.{none_at_first, none_more}
use Rattle.line_place.proofs.scattering.Field.scatter.Goals as goal

pub loop-tries-init : goal.loop-tries-init
unfolding tries_after
loop-tries-init c = (refl, none_at_first c.args.self.now c.args.losses.now c.args.costs.now c.args.draws.now)

pub returns-then-branch : goal.returns-then-branch
unfolding tries_after
returns-then-branch c =
    let at = c.loop-tries.invariant.0 in
    record {
      tries = c.loop-tries.tries;
      few = omega arith;
      drawn = c.in_ok-place.ensures.rows ∙ ap (drawn_rows c.args.self.now c.args.losses.now c.args.costs.now) at;
      connected = c.in_ok-is_connected.ensures.0 c.if-branch.true;
      none_before = c.loop-tries.invariant.1;
      after = c.in_ok-place.ensures.after ∙ ap (λ g. spots_after g c.args.self.now.meters) at;
    }

pub loop-tries-preserved : goal.loop-tries-preserved
unfolding tries_after
loop-tries-preserved c =
    let at = c.loop-tries.invariant.0 in
    let drawn = c.in_ok-place.ensures.rows ∙ ap (drawn_rows c.args.self.now c.args.losses.now c.args.costs.now) at in (
      c.in_ok-place.ensures.after ∙ ap (λ g. spots_after g c.args.self.now.meters) at
          ∙ ap (tries_after c.args.self.now.meters c.args.draws.now) (sym (add-one c.loop-tries.tries)),
      none_more c.args.self.now c.args.losses.now c.args.costs.now c.args.draws.now c.loop-tries.tries c.loop-tries.invariant.1
          (λ paths. let yes = c.in_ok-is_connected.ensures.1 (subst AllHavePaths (sym drawn) paths) in
          let no = c.if-branch.false in
          cc),
    )
