-- What it is for code to carry out a plan.
use Rattle.std.specs.Prelude.{◌≡◌, Bool, if◌then◌else◌, [], map, Option, Some, None, IfSome, IfNone}
use Rattle.plc_base.specs.declared.keeper.Cut.{Cut}
use Rattle.plc_base.specs.declared.out_frame.Out.{Out}
use Rattle.plc_base.specs.Causes.{Rose}
use Rattle.store_tables.specs.Writes.{Wrote}
use Rattle.node_rules.specs.Ciphers.{network}
use Rattle.node_rules.specs.Frames.{spelled}
use Rattle.node_rules.specs.Plans.{Plan, Outcome, carry_out}
use Rattle.node_rules.specs.States.{State}

-- nothing is sent, made or checked
abbrev pub nothing : Out
nothing = record { frames = []; tags = record { made = []; opened = [] } }

-- what a plan gives out: its frames, spelled, and its tags; where a put failed only those that were checked
abbrev pub given : {M A : Type 0} → Plan M A → Bool → Out
given p done =
    if done then record { frames = map (spelled network) p.frames; tags = record { made = p.made; opened = p.opened } }
    else record { frames = []; tags = record { made = []; opened = p.opened } }

-- The plan was carried out: all of it, or its puts in order up to one that failed. Then the node is halted and nothing is sent. The
-- reply that the last frame was answered with is no part of it.
pub record Carries {M A : Type 0} (old : State M) (p : Plan M A) (answer : A) (out : Out) (new : State M) : Type 0 where
  pub done : Bool
  pub wrote : Wrote old.store p.puts done new.store
  pub answer_is : answer ≡ (if done then p.answer else p.failed)
  pub out_is : out ≡ given p done
  pub new_is : new ≡ record new { eui = old.eui; memory = if done then Some p.memory else None }

-- # As a function of the cut that is to come

-- the answer, what is given out, and the state are those of an outcome
pub record Shows {M A : Type 0} (o : Outcome M A) (old : State M) (answer : A) (out : Out)
    (new : State M) : Type 0 where
  pub answer_is : answer ≡ o.answer
  pub out_is : out ≡ record
      { frames = map (spelled network) o.frames; tags = record { made = o.made; opened = o.opened } }
  pub records_is : new.store.records ≡ o.records
  pub memory_is : new.memory ≡ o.memory
  pub eui_is : new.eui ≡ old.eui
  pub known_cut_is : IfSome old.store.known_cut (λ c. new.store.known_cut ≡ Some o.cut)

-- The call does what `carry_out` gives, under the known cut. Where none is known there is one all the same, and it
-- is none where the count of faults did not rise.
pub record IsCarriedOut {M A : Type 0} (old : State M) (p : Plan M A) (answer : A) (out : Out)
    (new : State M) : Type 0 where
  pub cut : Option Cut
  pub known_cut : IfSome old.store.known_cut (λ c. c ≡ cut)
  pub shows : Shows (carry_out old.store.records cut p) old answer out new
  pub fault : (Rose old.store.faults new.store.faults → ⊥) → IfNone old.store.known_cut (cut ≡ None)
