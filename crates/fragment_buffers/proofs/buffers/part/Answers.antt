use Rattle.std.proofs.Common.{◌≡◌, ◌+◌, ◌-◌, take, drop, ap, arith}
use Rattle.fragment_buffers.proofs.buffers.part.Goals as goal

pub returns : goal.returns
returns c =
    let long : c.args.start + c.args.count - c.args.start ≡ c.args.count = omega arith in
    ap (λ n. take n (drop c.args.start c.args.places.now)) long
