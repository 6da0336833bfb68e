use Rattle.std.proofs.Common.{[], ◌∷◌, get_or}
use Rattle.aes_modes.proofs.sliced.octets.Goals as goal

pub returns : goal.returns
returns c = λ i.
    get_or (c.to_le_bytes.ensures i) 0 0 ∷ get_or (c.to_le_bytes.ensures i) 1 0 ∷ get_or (c.to_le_bytes.ensures i) 2 0 ∷ get_or (c.to_le_bytes.ensures i) 3 0
    ∷ get_or (c.to_le_bytes-2.ensures i) 0 0 ∷ get_or (c.to_le_bytes-2.ensures i) 1 0 ∷ get_or (c.to_le_bytes-2.ensures i) 2 0
    ∷ get_or (c.to_le_bytes-2.ensures i) 3 0
    ∷ get_or (c.to_le_bytes-3.ensures i) 0 0 ∷ get_or (c.to_le_bytes-3.ensures i) 1 0 ∷ get_or (c.to_le_bytes-3.ensures i) 2 0
    ∷ get_or (c.to_le_bytes-3.ensures i) 3 0
    ∷ get_or (c.to_le_bytes-4.ensures i) 0 0 ∷ get_or (c.to_le_bytes-4.ensures i) 1 0 ∷ get_or (c.to_le_bytes-4.ensures i) 2 0
    ∷ get_or (c.to_le_bytes-4.ensures i) 3 0 ∷ []
