use Rattle.std.proofs.Common.{◌≡◌, ℕ, ◌*◌, List, length, ap, ◌∙◌, arith}
use Rattle.mesh_header.specs.Pieces.{Placed}
use Rattle.fragment_buffers.specs.Fragmentation.{piece_of}
use Rattle.fragment_buffers.proofs.Cuts.{cut_octets, kth_of_cut}
use Rattle.fragment_buffers.proofs.fragmentation.piece_at.Goals as goal

-- the piece of these octets
abbrev of_octets : ℕ → ℕ → ℕ → List ℕ → Placed
of_octets size tag offset octets = record { size = size; tag = tag; offset = offset; octets = octets }

cut_is : (c : goal.After-unwrap) → c.unwrap.result ≡ piece_of c.args.datagram.now c.args.tag c.args.k
cut_is c =
    let value = rw c.unwrap.ensures at c.new.ensures.value in
    let octets = cut_octets c.args.datagram.now (368 * c.args.k) _ c.min.ensures in
    value ∙ ap (of_octets (length c.args.datagram.now) c.args.tag (46 * c.args.k)) octets

pub returns-clause-value : goal.returns-clause-value
returns-clause-value c = cut_is c

pub returns-clause-kth : goal.returns-clause-kth
returns-clause-kth c = kth_of_cut c.args.datagram.now c.args.tag c.args.k c.unwrap.result (omega arith) c.requires.there (cut_is c)
