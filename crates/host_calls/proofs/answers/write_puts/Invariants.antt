use Rattle.std.proofs.Common.{◌≡◌, List, ℕ, ◌++◌, drop, map}
use Rattle.host_calls.proofs.WrittenTexts.{Wrote}
use Rattle.host_calls.specs.Outbox.{write_of}
use Rattle.host_calls.specs.Answers.{puts_text}
use Rattle.host_calls.proofs.answers.write_puts.Given as goal

-- the puts so far were written, and the others are to come
abbrev pub invariant-loop-put : goal.invariant-loop-put
invariant-loop-put g l = record {
  front : (front : List ℕ) × Wrote (g.K.Sink.state l.fn.sink) (g.K.Sink.state l.sink) front
      × (puts_text (map write_of l.puts) ≡ front ++ puts_text (map write_of (drop l.put-index l.puts)));
}
