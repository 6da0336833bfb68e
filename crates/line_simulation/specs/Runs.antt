-- How a step of a run ends, and what comes after what.
use Rattle.std.specs.Prelude.{◌≡◌, Result, Ok, Err}
use Rattle.line_simulation.specs.declared.work.Stop.{Stop}
use Rattle.line_simulation.specs.declared.work.Stop.TheVariants as stops

-- The run goes on from a state, with a value; or it ends in a state before its time.
pub data Run (S A : Type 0) : Type 0 where
  Goes : A → S → Run S A
  Stops : S → Run S A

-- a step, and then another from where it leads to
abbrev pub then : {S A B : Type 0} → Run S A → (A → S → Run S B) → Run S B
then (Goes a s) next = next a s
then (Stops s) next = Stops s

abbrev pub StopsBy : {S A : Type 0} → Stop → Run S A → S → Type 0
StopsBy stops.Limit run s = run ≡ Stops s
StopsBy stops.Memory run s = Unit {0}

-- A call answers and leaves what a run says. Nothing is said where memory ran out.
abbrev pub Ends : {S A : Type 0} → Result A Stop → Run S A → S → Type 0
Ends (Ok a) run s = run ≡ Goes a s
Ends (Err stop) run s = StopsBy stop run s

-- a call that answers whether it went on, with the value that it left
abbrev pub answer_of : {A : Type 0} → Result (Unit {0}) Stop → A → Result A Stop
answer_of (Ok u) a = Ok a
answer_of (Err stop) a = Err stop
