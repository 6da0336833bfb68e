use Rattle.std.proofs.Common.{◌-◌, ◌≤◌, length, take, drop, length-take, ◌∙◌, ap, arith}
use Rattle.script_lines.specs.Windows.{Window, window_after}
use Rattle.script_lines.proofs.Windows.{range_front, range_rest}
use Rattle.script_lines.proofs.window.Window.pass.Goals as goal

pub returns : goal.returns
returns c =
    let w = c.self.inside in
    let used : c.args.used ≤ w.end - w.first = omega (
      arith,
      c.requires.used,
      ap (λ (v : Window). length v.ahead) c.self.view_is,
      length-take (w.end - w.first) (drop w.first w.octets.items),
    ) in
    let line = range_front w.octets.items w.first w.end c.min.result (omega (arith, used, c.min.ensures, c.requires.line))
    ∙ ap (λ n. take n (take (w.end - w.first) (drop w.first w.octets.items))) c.min.ensures in
    (λ i. record { line = line i; ahead = range_rest w.octets.items w.first w.end c.args.used used i })
    ∙ ap (λ (v : Window). window_after v c.args.line c.args.used) c.self.view_is
