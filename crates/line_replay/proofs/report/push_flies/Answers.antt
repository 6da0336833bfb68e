use Rattle.std.proofs.Common.{◌≡◌, ◌++◌, ◌+◌, ◌-◌, ◌≤◌, length, string_bytes, ◌∙◌, ap, arith}
use Rattle.line_replay.specs.Texts.{flies_text, flight_text}
use Rattle.line_replay.proofs.Flies.{flies_none, flies_more}
use Rattle.line_replay.proofs.report.push_flies.Goals as goal

pub loop-number-init : goal.loop-number-init
loop-number-init c = rw c.from-number.ensures
    (record { text = flies_none c.args.world.now c.args.first (string_bytes c.args.text.now); from = omega arith; until = omega arith })

pub loop-number-preserved : goal.loop-number-preserved
loop-number-preserved c =
    let from : c.args.first ≤ c.loop-number.number = c.loop-number.invariant.from in
    record {
      text = c.in_ok-push_flight.ensures
          ∙ ap (λ l. l ++ flight_text c.args.world.now c.loop-number.number) c.loop-number.invariant.text
          ∙ flies_more c.args.world.now c.args.first c.loop-number.number (string_bytes c.args.text.now) from;
      from = omega arith;
      until = omega (arith, from, c.counts-last.ensures.flights, c.from-number-end.ensures, c.loop-number-test.true);
    }

pub returns : goal.returns
returns c =
    let end : c.loop-number.number - c.args.first ≡ (length c.args.world.now.flights + 1) - c.args.first
    = omega (arith, c.loop-number.invariant.until, c.counts-last.ensures.flights, c.from-number-end.ensures, c.loop-number-test.false) in
    c.loop-number.invariant.text ∙ ap (λ n. string_bytes c.args.text.now ++ flies_text c.args.world.now c.args.first n) end
