use Rattle.std.proofs.Common.{◌≡◌, ◌+◌, ◌-◌, ℕ, take, drop, ap, ◌∙◌, arith}
use Rattle.plc_base.specs.Fields.{part}
use Rattle.plc_base.proofs.Places.{part_stands}
use Rattle.plc_base.proofs.fields.octets_at.Goals as goal

pub returns : goal.returns
unfolding part
returns g c =
    let n : (c.args.at + g.row.N) - c.args.at ≡ g.row.N = omega arith in
    let same : c.copy_from_slice.new.self ≡ part c.args.at g.row.N c.args.octets.now =
    c.copy_from_slice.ensures.after ∙ ap (λ (k : ℕ). take k (drop c.args.at c.args.octets.now)) n in
    let stands = part_stands c.args.at g.row.N c.args.octets.now (omega arith) in
    (same, rw same stands)
