-- What stands beside one node after the other is told the time.
use Rattle.std.proofs.Common.{◌≡◌, ◌<◌, ◌+◌, ◌∙◌, List, Option, Some, length, refl, sym, ap, subst, arith}
use Rattle.std.specs.Prelude.{IfSome, slice_set}
use Rattle.std.proofs.lemmas.Option.{slice_get_read}
use Rattle.reach_rules.specs.ReachingNodes.{Beside, tick_beside}
use Rattle.line_rules.specs.Worlds.{World}
use Rattle.line_world.specs.Lines.{world_of}
use Rattle.line_world.proofs.Places.{up_to_next, up_to_end, up_to_long}
use Rattle.line_world.proofs.Unchecked.{quiet_ticks}
use Rattle.line_world.proofs.line.Line.tick_beside.Goals as goal

-- where neighbours are not checked, nobody is checked or listed
pub returns-then-not-self : goal.returns-then-not-self
returns-then-not-self c =
    let w = world_of c.args.self.now in
    ap (λ (bs : List Beside). record w { beside = bs }) (sym (quiet_ticks w.clock w.beside (c.requires.checks c.if-not-self.true)))

pub loop-place-preserved : goal.loop-place-preserved
loop-place-preserved c =
    let f = tick_beside c.args.self.now.clock in
    let first : List Beside = c.args.self.now.beside.items in
    let old : List Beside = c.loop-place.self.beside.items in
    let place = c.loop-place.place in
    let left : List Beside = slice_set old place c.tick.new.self in
    let within : place < length old = omega (arith, c.loop-place-test.true, c.loop-place.invariant.long, c.loop-place.invariant.end) in
    let one : IfSome (Some c.index_mut.result.now) (λ (x : Beside). left ≡ slice_set old place (f x)) = ap (λ (x : Beside). slice_set old place x)
    c.tick.ensures in
    let next = up_to_next f first old left place c.loop-place.invariant.beside within
    (subst (λ (o : Option Beside). IfSome o (λ (x : Beside). left ≡ slice_set old place (f x)))
    (sym (slice_get_read old (length old) place c.index_mut.result.now refl within c.index_mut.ensures.value)) one) in
    record {
      world = ap (λ (v : World). record v { beside = left }) c.loop-place.invariant.world;
      beside = next;
      long = up_to_long f first left (place + 1) next;
      end = c.loop-place.invariant.end;
    }

pub returns : goal.returns
returns c =
    let f = tick_beside c.args.self.now.clock in
    let done = up_to_end f c.args.self.now.beside.items c.loop-place.self.beside.items c.loop-place.place c.loop-place.invariant.beside
    (omega (arith, c.loop-place-test.false, c.loop-place.invariant.end)) in
    c.loop-place.invariant.world ∙ ap (λ (bs : List Beside). record (world_of c.args.self.now) { beside = bs }) done
