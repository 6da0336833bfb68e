use Rattle.std.proofs.Common.{ℕ, List, length, ap, arith}
use Rattle.pcapng.specs.Blocks.{ended}
use Rattle.pcapng.proofs.Lengths.{length_of_packet, length_of_ended}
use Rattle.pcapng.proofs.blocks.length_of.Goals as goal

pub returns : goal.returns
returns c =
    let packet = c.args.packet.now in
    let body = length_of_packet packet.interface packet.time packet.octets.now (ended c.args.options.now) in
    let end = length_of_ended c.args.options.now in
    omega (arith, body, end, c.padding_length.ensures, ap (λ (l : List ℕ). length l) c.octets.ensures)
