-- What is too old by one test is so by the other.
use Rattle.std.proofs.Common.{◌≡◌, ℕ, ◌+◌, ◌-◌, ◌<◌, Bool, true, false, arith}
use Rattle.std.specs.Prelude.{nat_le}
use Rattle.std.proofs.lemmas.Bool.{ltb-false, leb-true, le-leb, le-ltb}
use Rattle.plc_base.specs.Times.{is_within}
use Rattle.line_record.specs.KeptItems.{time_of}

pub old_recorded : (time now since : ℕ) → is_within time now since ≡ false → nat_le time (now - since) ≡ true
old_recorded time now since old = le-leb time (now - since) (omega (arith, ltb-false now (since + time) old))

some_time : (gathered : Bool) → 0 < time_of gathered
some_time true = omega arith
some_time false = omega arith

pub recorded_old : (gathered : Bool) (now since : ℕ) → nat_le (time_of gathered) (now - since) ≡ true → is_within (time_of gathered) now since ≡ false
recorded_old gathered now since recorded =
    le-ltb now (since + time_of gathered) (omega (arith, leb-true (time_of gathered) (now - since) recorded, some_time gathered))
