use Rattle.std.proofs.Common.{[], ◌∷◌, refl}
use Rattle.std.proofs.lemmas.Nat.{le_bytes_4}
use Rattle.aes_modes.proofs.PackedBlocks.{four_octets}
use Rattle.aes_modes.proofs.sliced.word.Goals as goal

pub returns : goal.returns
returns c =
    le_bytes_4 (c.args.a ∷ c.args.b ∷ c.args.c ∷ c.args.d ∷ []) _ refl
    (four_octets c.args.a c.args.b c.args.c c.args.d c.ranges.a.fits c.ranges.b.fits c.ranges.c.fits c.ranges.d.fits)
    c.from_le_bytes.ensures
