-- What is spelled is read back.
use Rattle.std.specs.Prelude.{◌≡◌, ◌%◌, List, length, Some}
use Rattle.pcapng.specs.Blocks.{Block, AreBlocks, spelling, capture}
use Rattle.pcapng.specs.Reader.{blocks_in}

-- the blocks that octets spell are read out of them
abbrev pub CapturesAreReadBack : Type 0
CapturesAreReadBack = (bs : List Block) → AreBlocks bs → blocks_in (capture bs) ≡ Some bs

-- each block has a multiple of four octets
abbrev pub CapturesAreAligned : Type 0
CapturesAreAligned = (b : Block) → length (spelling b) % 4 ≡ 0
