use Rattle.std.proofs.Common.{◌≡◌, Bool, true, false, not, Option, Some, None, is_some, refl}
use Rattle.flash_keeper.specs.declared.front.Front.{Front}
use Rattle.flash_keeper.proofs.cells.has_decayed.Goals as goal

found : (seen : Option Front) (f : Front) (none : Bool) → is_some seen ≡ not none → seen ≡ Some f → none ≡ true → ⊥
found (Some x) f true is e t = cc
found (Some x) f false is e t = cc
found None f none is e t = cc

not_found : (seen : Option Front) (none : Bool) → is_some seen ≡ not none → seen ≡ None → none ≡ true
not_found None true is e = refl
not_found None false is e = cc
not_found (Some x) none is e = cc

pub returns-clause-left : goal.returns-clause-left
returns-clause-left g c = λ is front n choice left.
    found c.sound_front.result front c.is_none.result c.is_none.ensures (c.sound_front.ensures.left front n choice left) is

pub returns-clause-decayed : goal.returns-clause-decayed
returns-clause-decayed g c = λ decayed.
    not_found c.sound_front.result c.is_none.result c.is_none.ensures (c.sound_front.ensures.decayed decayed)
