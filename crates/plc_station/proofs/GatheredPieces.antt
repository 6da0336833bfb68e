-- How a piece is gathered, as a plan that is carried out.
use Rattle.std.proofs.Common.{◌≡◌, ℕ, Bool, true, false, List, Some, Err, refl}
use Rattle.fragment_buffers.specs.Reassembly.{Reassembly}
use Rattle.fragment_buffers.specs.PieceIntake as piece_intake
use Rattle.fragment_buffers.specs.Answers.{answer_of, octets_of}
use Rattle.node_rules.specs.declared.refusal.Dropped.TheVariants.{Store}
use Rattle.node_rules.specs.Memory.{StationMemory}
use Rattle.node_rules.specs.Plans.{resting}
use Rattle.node_rules.specs.HearingRules.{gathered}
use Rattle.store_tables.proofs.WritesLemmas.{wrote_none}
use Rattle.plc_station.specs.Pieces.{came}
use Rattle.node_rules.specs.States.{State, unless_halted}
use Rattle.node_rules.specs.CarriedPlans.{Carries, nothing}

pub gathered_is : (l : StationMemory) (from : ℕ) (t : piece_intake.Taking)
    → gathered l from t ≡ resting (record l { reassemblies = t.held }) (came from (answer_of t.outcome) (octets_of t.outcome)) (Err Store)
unfolding gathered resting
gathered_is l from t = by_outcome t.held t.outcome
  where
    by_outcome : (held : List Reassembly) (o : piece_intake.Outcome)
        → gathered l from (record { held = held; outcome = o }) ≡ resting (record l { reassemblies = held }) (came from (answer_of o) (octets_of o)) (Err Store)
    by_outcome held piece_intake.Full = refl
    by_outcome held piece_intake.Held = refl
    by_outcome held (piece_intake.Whole note octets) = refl

-- nothing is stored or sent, and the memory is another one
pub changed : {M A : Type 0} (s t : State M) (m : M) (answer failed : A) → t.store ≡ s.store → t.eui ≡ s.eui → t.memory ≡ Some m
    → Carries s (resting m answer failed) answer nothing t
unfolding resting
changed {M} s t m answer failed store eui memory = record {
  done = true;
  wrote = rw store (wrote_none s.store);
  answer_is = refl;
  out_is = refl;
  new_is = λ i. record { store = t.store; eui = eui i; memory = memory i; replied = t.replied };
}

-- a station that was running runs on
pub still : {M : Type 0} (halted : Bool) (m n : M) → unless_halted halted m ≡ Some m → unless_halted halted n ≡ Some n
still true m n e = cc
still false m n e = refl
