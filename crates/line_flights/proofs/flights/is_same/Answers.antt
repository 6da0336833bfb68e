-- Keys are the same where their numbers are.
use Rattle.std.proofs.Common.{◌==◌, ap, ◌∙◌}
use Rattle.byteorder.specs.Endian.{big_number}
use Rattle.plc_base.proofs.Places.{octets_all}
use Rattle.line_flights.proofs.SameKeys.{same_by_number}
use Rattle.line_flights.proofs.flights.is_same.Goals as goal

pub returns : goal.returns
returns c =
    ap (λ k. k == c.read_u128-other.result) c.read_u128-one.ensures
    ∙ ap (λ k. big_number 16 c.args.first.now == k) c.read_u128-other.ensures
    ∙ same_by_number 16 c.args.first.now c.args.second.now c.told-first c.told-second
    (octets_all c.args.first.now c.fits-first) (octets_all c.args.second.now c.fits-second)
