use Rattle.std.proofs.Common.{◌+◌, inr, length-drop, drop, refl, ap, ◌∙◌, arith}
use Rattle.std.proofs.lemmas.List.{nil_from_length}
use Rattle.script_lines.specs.Windows.{Window}
use Rattle.script_lines.proofs.input.Input.shed.Goals as goal

pub returns-clause-shed : goal.returns-clause-shed
returns-clause-shed c =
    let same = c.len-count.ensures.len in
    inr (
      omega (arith, same, c.if-count-le-MAX_LINE.false),
      ap (λ n. c.args.self.now.seen + n) same,
      ap (λ (w : Window). w.ahead) c.pass.ensures
          ∙ nil_from_length (drop c.len-count.result c.args.self.now.window.ahead)
          (omega (arith, same, length-drop c.len-count.result c.args.self.now.window.ahead)),
      refl,
    )
