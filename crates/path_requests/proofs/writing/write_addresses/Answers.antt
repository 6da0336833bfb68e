use Rattle.std.proofs.Common.{◌++◌, ap, ◌∙◌, arith}
use Rattle.byteorder.specs.Endian.{big_bytes}
use Rattle.path_requests.proofs.WalkOctets.{written_more, written_room}
use Rattle.path_requests.proofs.writing.write_addresses.Goals as goal

pub push_be_u16-requires : goal.push_be_u16-requires
push_be_u16-requires c =
    let room = written_room c.args.out.now c.args.addresses.now c.loop-address.out c.loop-address.address-index c.loop-address-test.true
    c.loop-address.invariant c.requires in
    (omega arith, room)

pub loop-address-preserved : goal.loop-address-preserved
loop-address-preserved c =
    c.push_be_u16.ensures ∙ ap (λ n. c.loop-address.out ++ big_bytes 2 n) c.number.ensures.value
    ∙ written_more c.args.out.now c.args.addresses.now c.loop-address.out c.loop-address.address-index c.address-item.result c.loop-address-test.true
    c.address-item.is c.loop-address.invariant
