use Rattle.std.proofs.Common.{◌≡◌, ◌<◌, Some, arith, sym, ap, ◌∙◌}
use Rattle.plc_base.specs.Grant.{Granted, granted_of}
use Rattle.group_keys.specs.KeyRing.{Ring, ring_in, ring_octets}
use Rattle.group_keys.proofs.Rings.{ring_in-ring_octets}
use Rattle.group_keys.proofs.key_ring.ring_record.Goals as goal

pub returns-clause-reads_back : goal.returns-clause-reads_back
returns-clause-reads_back c =
    let inside = c.grant.inside in
    let granted : Granted = granted_of inside.address inside.active inside.keys in
    let short : inside.address < 0xFFFE = omega (arith, c.number.ensures.value, c.number.ensures.valid) in
    let same : Some granted ≡ c.args.grant.now = ap Some c.grant.view_is ∙ sym c.in-Some.is in
    let reads = ring_in-ring_octets granted c.grant.invariant.grant short c.push_held.ensures.held_len c.push_held-2.ensures.held_len in
    ap (λ (r : Ring). ring_in (ring_octets r)) (sym same) ∙ reads ∙ ap Some same
