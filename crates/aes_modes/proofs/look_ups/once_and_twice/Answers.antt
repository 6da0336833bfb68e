use Rattle.aes_modes.specs.LookUps.{once_first, once_second, twice_first, twice_second}
use Rattle.aes_modes.proofs.LookUps.{looked}
use Rattle.aes_modes.proofs.look_ups.once_and_twice.Goals as goal

pub returns-clause-once : goal.returns-clause-once
returns-clause-once c =
    looked c.args.x c.halves.result.0 c.halves.result.1 _ _ _ once_first once_second c.halves.ensures.first c.halves.ensures.second c.look-u.ensures
    c.look-v.ensures c.add.ensures

pub returns-clause-twice : goal.returns-clause-twice
returns-clause-twice c =
    looked c.args.x c.halves.result.0 c.halves.result.1 _ _ _ twice_first twice_second c.halves.ensures.first c.halves.ensures.second c.look-y.ensures
    c.look-z.ensures c.add-2.ensures
