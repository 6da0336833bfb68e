-- One meter after the other.
use Rattle.std.proofs.Common.{◌≡◌, ◌<◌, ◌≤◌, ◌∙◌, List, Option, length, map, sym, ap, subst, arith}
use Rattle.std.specs.Prelude.{IfSome, slice_set}
use Rattle.std.proofs.lemmas.List.{length-map, length-set}
use Rattle.std.proofs.lemmas.List.Elements.{All-set}
use Rattle.line_rules.specs.Steps.{ticked}
use Rattle.meter_node.specs.MeterStates.{MeterState}
use Rattle.node_rules.specs.Memory.{Memory, Node}
use Rattle.node_rules.specs.States.{State}
use Rattle.line_world.specs.Nodes.{of_meter}
use Rattle.line_world.specs.Soundness.{IsSoundMeter}
use Rattle.line_world.proofs.MeterActs.{ended, meter_agrees, stored_sound}
use Rattle.line_world.proofs.Places.{found_in, set_in, sound_in, up_to_next, up_to_end}
use Rattle.line_world.proofs.nodes.time.tick_meters.Goals as goal

pub tick-requires : goal.tick-requires
tick-requires c =
    let place = c.loop-place.place in
    let ms : List MeterState = c.loop-place.meters.items in
    let within : place < length ms = omega (arith, c.loop-place-test.true, c.loop-place.invariant.long, c.loop-place.invariant.end) in
    record {
      agrees = meter_agrees c.index_mut.result.now
          (sound_in ms place c.index_mut.result.now within c.index_mut.ensures.value c.loop-place.invariant.sound);
    }

pub loop-place-preserved : goal.loop-place-preserved
loop-place-preserved c =
    let place = c.loop-place.place in
    let first : List Node = map of_meter c.args.meters.now.items in
    let ms : List MeterState = c.loop-place.meters.items in
    let x = c.index_mut.result.now in
    let y = c.tick.new.self in
    let left : List Node = map of_meter (slice_set ms place y) in
    let within : place < length ms = omega (arith, c.loop-place-test.true, c.loop-place.invariant.long, c.loop-place.invariant.end) in
    let inside : place < length (map of_meter ms) = subst (λ n. place < n) (sym (length-map ms of_meter)) within in
    let one : left ≡ slice_set (map of_meter ms) place (ticked c.args.now (of_meter x)) =
    set_in ms place y (ticked c.args.now (of_meter x)) (ended c.args.now x y c.tick.ensures.state c.tick.ensures.after.psk) in
    let sound = sound_in ms place x within c.index_mut.ensures.value c.loop-place.invariant.sound in
    record {
      nodes = up_to_next (ticked c.args.now) first (map of_meter ms) left place c.loop-place.invariant.nodes inside
          (subst (λ (o : Option Node). IfSome o (λ n. left ≡ slice_set (map of_meter ms) place (ticked c.args.now n)))
          (sym (found_in ms place x within c.index_mut.ensures.value)) one);
      sound = All-set IsSoundMeter ms place y (stored_sound x y sound (ap (λ (s : State Memory). s.store) c.tick.ensures.state) c.tick.ensures.after.agrees)
          c.loop-place.invariant.sound;
      long = length-set ms place y ∙ c.loop-place.invariant.long;
      end = c.loop-place.invariant.end;
    }

pub returns-clause-meters : goal.returns-clause-meters
returns-clause-meters c =
    let past : length (map of_meter c.args.meters.now.items) ≤ c.loop-place.place =
    subst (λ n. n ≤ c.loop-place.place) (sym (length-map c.args.meters.now.items of_meter))
    (omega (arith, c.loop-place-test.false, c.loop-place.invariant.end)) in
    up_to_end (ticked c.args.now) (map of_meter c.args.meters.now.items) (map of_meter c.loop-place.meters.items) c.loop-place.place
    c.loop-place.invariant.nodes past
