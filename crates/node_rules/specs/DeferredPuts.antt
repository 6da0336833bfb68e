-- Puts of a call that are stored after it.
use Rattle.std.specs.Prelude.{◌≡◌, ◌+◌, Bool, true, List, [], ◌∷◌, ◌++◌, length, Some, None, IsSome, if◌then◌else◌}
use Rattle.plc_base.specs.Keeper.{Records, Store, Write}
use Rattle.plc_base.specs.declared.keeper.Cut.{Cut}
use Rattle.plc_base.specs.declared.out_frame.Out.{Out}
use Rattle.store_tables.specs.Writes.{Wrote}
use Rattle.node_rules.specs.Plans.{Plan, carry_out}
use Rattle.node_rules.specs.States.{State}
use Rattle.node_rules.specs.CarriedPlans.{Carries}
use Rattle.node_rules.specs.Laws.{all_put}

-- what is given out where a put failed: the tags that were checked
abbrev pub only_checked : Out → Out
only_checked out = record { frames = []; tags = record { made = []; opened = out.tags.opened } }

-- What its owner makes of a call over a keeper in memory, which halted nothing: the owner stores the puts in order, up to the first that
-- fails, and sends the frames where none did. That is the call over the store itself; where none failed, the store has the keeper's records.
pub record IsDeferred {M A : Type 0} (old new : State M) (p : Plan M A) (answer : A) (out : Out) (stored kept : Store)
    (done : Bool) : Type 0 where
  pub carries : Carries (record old { store = stored }) p (if done then answer else p.failed)
      (if done then out else only_checked out)
      (record new { store = kept; memory = if done then new.memory else None })
  pub records : done ≡ true → kept.records ≡ new.store.records

-- the puts of the plan are stored after the call
abbrev pub DeferringPuts : Type 0 → Type 0 → Type 0
DeferringPuts M A =
    (old new : State M) (p : Plan M A) (answer : A) (out : Out) (stored kept : Store) (done : Bool)
    → Carries old p answer out new → IsSome new.memory → stored.records ≡ old.store.records
    → Wrote stored p.puts done kept → IsDeferred old new p answer out stored kept done

-- the loss of power that comes at the put after this many, and leaves its slot as it was or with the new record
abbrev pub cut_behind : (front : List Write) (keeps_new : Bool) → Cut
cut_behind front keeps_new = record { nth = length front + 1; keeps_new = keeps_new }

-- Power fails in one of these puts, after those before it: the records are those that the call itself leaves under a loss of power at
-- that put, which sends nothing. Between two puts is where the later one leaves its slot as it was.
abbrev pub CutsWhileStoring : Type 0 → Type 0 → Type 0
CutsWhileStoring M A =
    (records : Records) (p : Plan M A) (front : List Write) (w : Write) (rest : List Write) (keeps_new : Bool)
    → p.puts ≡ front ++ w ∷ rest
    → ((carry_out records (Some (cut_behind front keeps_new)) p).records
    ≡ (if keeps_new then all_put (front ++ w ∷ []) records else all_put front records))
    × ((carry_out records (Some (cut_behind front keeps_new)) p).frames ≡ [])

-- # The list of a keeper

-- A call over a keeper that lists its puts, which halted nothing: the list has the puts of its plan at the end, in order.
abbrev pub ListedPutsAreThePlans : Type 0 → Type 0 → Type 0
ListedPutsAreThePlans M A =
    (old new : State M) (p : Plan M A) (answer : A) (out : Out) (before : List Write)
    → Carries old p answer out new → IsSome new.memory → old.store.listed ≡ Some before → new.store.listed ≡ Some (before ++ p.puts)

-- The list was empty before such a call, and the puts that it has afterwards are stored.
abbrev pub ListedPutsAreDeferred : Type 0 → Type 0 → Type 0
ListedPutsAreDeferred M A =
    (old new : State M) (p : Plan M A) (answer : A) (out : Out) (puts : List Write) (stored kept : Store) (done : Bool)
    → Carries old p answer out new → IsSome new.memory → old.store.listed ≡ Some [] → new.store.listed ≡ Some puts
    → stored.records ≡ old.store.records → Wrote stored puts done kept
    → IsDeferred old new p answer out stored kept done
