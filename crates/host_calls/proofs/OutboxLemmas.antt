-- One more put.
use Rattle.std.proofs.Common.{◌≡◌, List, [], ◌∷◌, ◌++◌, map, refl, ap}
use Rattle.plc_base.specs.Keeper.{Write}
use Rattle.host_calls.specs.Outbox.{write_of}
use Rattle.host_calls.specs.declared.outbox.ListedPut.{ListedPut}

pub one_more : (puts : List ListedPut) (put : ListedPut) → map write_of (puts ++ put ∷ []) ≡ map write_of puts ++ write_of put ∷ []
one_more [] put = refl
one_more (first ∷ puts) put = ap (λ (l : List Write). write_of first ∷ l) (one_more puts put)
