use Rattle.std.proofs.Common.{◌+◌, List, drop, map, refl}
use Rattle.std.proofs.lemmas.Result.{err_from_is_err_and}
use Rattle.host_calls.specs.Outbox.{write_of}
use Rattle.host_calls.specs.declared.outbox.ListedPut.{ListedPut}
use Rattle.host_calls.specs.Answers.{put_text, puts_text}
use Rattle.host_calls.proofs.WrittenTexts.{all, one_next, one_more, one_less}
use Rattle.host_calls.proofs.answers.write_puts.Goals as goal

pub returns-in_err-write_put : goal.returns-in_err-write_put
returns-in_err-write_put g c =
    let p = err_from_is_err_and c.from_residual.result c.from_residual.ensures.1 in
    let front = c.loop-put.invariant.front in
    rw p.1 (one_less p.0 front.0 (put_text (write_of c.put-item.result)) (puts_text (map write_of (drop c.loop-put.put-index c.args.puts.now))) _
    (puts_text (map write_of c.args.puts.now)) front.1 front.2
    (one_next (λ (x : ListedPut). put_text (write_of x)) (λ (l : List ListedPut). puts_text (map write_of l)) (λ x rest. refl) c.args.puts.now
    c.loop-put.put-index c.put-item.result c.loop-put-test.true c.put-item.is)
    c.in_err-write_put.ensures)

pub loop-put-preserved : goal.loop-put-preserved
loop-put-preserved g c =
    let front = c.loop-put.invariant.front in
    record {
      front =
          one_more front.0 (put_text (write_of c.put-item.result)) (puts_text (map write_of (drop c.loop-put.put-index c.args.puts.now)))
          (puts_text (map write_of (drop (c.loop-put.put-index + 1) c.args.puts.now))) (puts_text (map write_of c.args.puts.now)) front.1 front.2
          (one_next (λ (x : ListedPut). put_text (write_of x)) (λ (l : List ListedPut). puts_text (map write_of l)) (λ x rest. refl) c.args.puts.now
          c.loop-put.put-index c.put-item.result c.loop-put-test.true c.put-item.is)
          (all c.in_ok-write_put.ensures);
    }
