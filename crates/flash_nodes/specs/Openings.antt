-- A call over a store of which a failed put is decided at the next opening, as the call of the rules.
use Rattle.std.specs.Prelude.{◌≡◌, ◌⊎◌, ◌≤◌, map, length, Option, None, IsSome, IfSome}
use Rattle.plc_base.specs.Keeper.{Records, Store, pending_records}
use Rattle.plc_base.specs.declared.keeper.Cut.{Cut}
use Rattle.plc_base.specs.declared.out_frame.Out.{Out}
use Rattle.flash_keeper.specs.Banks.{FlashStore, IsOpened, IsLeftOpen, kept_store}
use Rattle.node_rules.specs.Ciphers.{network}
use Rattle.node_rules.specs.Frames.{spelled}
use Rattle.node_rules.specs.Plans.{Plan, Outcome, carry_out}
use Rattle.node_rules.specs.States.{State}
use Rattle.node_rules.specs.CarriedPlans.{Carries}

-- # What an opening finds

-- nothing is pending: an opening finds what the store holds
abbrev pub IsSettled : Store → Type 0
IsSettled store = pending_records store ≡ store.records

-- what an opening may find: what the store holds, or what is pending
abbrev pub MayBeFound : Store → Records → Type 0
MayBeFound store found = (found ≡ store.records) ⊎ (found ≡ pending_records store)

-- # A call

-- what is given out of an outcome
abbrev pub given_of : {M A : Type 0} → Outcome M A → Out
given_of o = record { frames = map (spelled network) o.frames; tags = record { made = o.made; opened = o.opened } }

-- The plan, carried out over these records under this loss of power, or under none: it answers this, gives this out, leaves this memory, and the records that
-- were found. The loss of power comes at one of its puts and is over then; there was none where a memory is left.
pub record IsDecidedBy {M A : Type 0} (records : Records) (p : Plan M A) (answer : A) (out : Out) (memory : Option M) (found : Records)
    (cut : Option Cut) : Type 0 where
  pub answer_is : answer ≡ (carry_out records cut p).answer
  pub out_is : out ≡ given_of (carry_out records cut p)
  pub memory_is : memory ≡ (carry_out records cut p).memory
  pub records_is : found ≡ (carry_out records cut p).records
  pub comes : IfSome cut (λ c. (1 ≤ c.nth) × (c.nth ≤ length p.puts))
  pub spent : (carry_out records cut p).cut ≡ None
  pub none : IsSome memory → cut ≡ None

-- whatever an opening finds after a call, it is what a loss of power of the rules leaves of that call
abbrev pub OpeningsDecideCuts : Type 0 → Type 0 → Type 0
OpeningsDecideCuts M A =
    (old new : State M) (p : Plan M A) (answer : A) (out : Out) (found : Records)
    → IsSettled old.store → Carries old p answer out new → MayBeFound new.store found
    → (cut : Option Cut) × IsDecidedBy old.store.records p answer out new.memory found cut

-- a call that halted nothing leaves nothing pending
abbrev pub RunningNodesAreSettled : Type 0 → Type 0 → Type 0
RunningNodesAreSettled M A =
    (old new : State M) (p : Plan M A) (answer : A) (out : Out)
    → IsSettled old.store → Carries old p answer out new → IsSome new.memory → IsSettled new.store

-- # Flash

-- an opening of the banks of a keeper, once, or again after openings that failed
abbrev pub FlashOpeningsAreFound : Type 0
FlashOpeningsAreFound =
    (before after : FlashStore) → IsOpened (record { old = before.store.records; new = before.left }) after
    → MayBeFound (kept_store before) after.store.records × IsSettled (kept_store after)

-- a reopening that ended well
abbrev pub FlashReopeningsAreFound : Type 0
FlashReopeningsAreFound =
    (before after : FlashStore) → IsLeftOpen before after → after.left ≡ after.store.records
    → MayBeFound (kept_store before) after.store.records × IsSettled (kept_store after)
