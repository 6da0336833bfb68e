use Rattle.std.proofs.Common.{rules, ℕ, ◌+◌, ◌-◌, ◌∙◌, ◌≡◌, false, List, take, drop, length, min, refl, sym, ap, arith, length-drop, length-append}
use Rattle.plc_base.proofs.Fronts.{copied, given_more}
use Rattle.plc_base.specs.Streams.{is_listed}
use Rattle.plc_base.specs.Causes.{one_more}
use Rattle.plc_base.proofs.memory.MemSourceSource.read.Goals as goal

pub returns-else-count-eq0-clause-read : goal.returns-else-count-eq0-clause-read
returns-else-count-eq0-clause-read c =
    let call : c.saturating_add-self.result ≡ one_more c.args.self.now.calls = c.saturating_add-self.ensures in
    let passes : is_listed c.args.self.now.fails.items (one_more c.args.self.now.calls) ≡ false =
    ap (is_listed c.args.self.now.fails.items) (sym call) ∙ ap (λ (l : List ℕ). is_listed l c.saturating_add-self.result) (sym c.deref.ensures.value)
    ∙ sym c.is_listed.ensures ∙ c.if-is_listed.false in
    let piece_is = c.copy_from_slice.ensures.after
    ∙ ap (λ (l : List ℕ). take (c.args.self.now.at + c.min-count.result - c.args.self.now.at) (drop c.args.self.now.at l)) c.deref-2.ensures.value in
    record {
      given = given_more c.args.self.now.octets.items _ _ c.args.self.now.at _ c.min-count.result piece_is (omega arith) (omega arith);
      bytes = (
        copied c.args.self.now.octets.items _ _ c.args.self.now.at _ c.min-count.result piece_is (omega arith) (omega arith),
        λ none _. absurd (c.if-count-eq0.false none),
      );
      ends = search rules;
      none_left = λ over. let at = c.args.self.now.at_end over in absurd (c.if-count-eq0.false (omega (arith, at)));
      cause = record { later = omega arith; failed = tt };
      planned = record {
        ok_is = rw passes refl;
        count_is = omega (
          arith,
          length-drop c.args.self.now.at c.args.self.now.octets.items,
          length-append c.copy_from_slice.new.self (drop c.min-count.result c.args.buf.now),
          length-drop c.min-count.result c.args.buf.now,
        );
        faults_is = rw passes refl;
        plan_is = rw call refl;
      };
    }
