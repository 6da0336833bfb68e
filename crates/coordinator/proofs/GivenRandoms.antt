-- What taking in a random value comes to.
use Rattle.std.proofs.Common.{◌≡◌, ◌≤◌, ◌++◌, true, false, List, [], ◌∷◌, length, Some, Result, Ok, Err, refl, sym, ap, subst}
use Rattle.std.specs.Prelude.{nat_lt, OnOk, OnErr, MatchResult}
use Rattle.std.specs.Option.{option_map}
use Rattle.plc_base.specs.declared.key.RandomOctets.{RandomOctets}
use Rattle.store_tables.proofs.WritesLemmas.{wrote_none}
use Rattle.group_keys.specs.KeyBook as book
use Rattle.node_rules.specs.declared.refusal.RandomFault.{RandomFault}
use Rattle.node_rules.specs.declared.refusal.RandomFault.TheVariants.{RandomsFull}
use Rattle.node_rules.specs.Memory.{StationMemory, Memory, CoordinatorSession}
use Rattle.node_rules.specs.MemoryDrafts.{in_memory, with_memory_by, give_random, given_ends}
use Rattle.node_rules.specs.Drafts.{Draft, empty_draft, choose, refused, sealing}
use Rattle.node_rules.specs.States.{State}
use Rattle.node_rules.specs.CarriedPlans.{Carries, nothing}
use Rattle.coordinator.specs.CoordinatorStates.{memory_in, state_in}
use Rattle.coordinator.proofs.StoredChanges.{stored, refusal, carried_by}

one_more : Memory → RandomOctets → Draft Memory
one_more m value = with_memory_by (λ n. record n { randoms = n.randoms ++ value ∷ [] }) (empty_draft m)

given : (m : Memory) (value : RandomOctets) → nat_lt 7 (length m.randoms) ≡ false → sealing in_memory given_ends (one_more m value) tt ≡ give_random m value
unfolding choose one_more
given m value room = rw room refl

full : (m : Memory) (value : RandomOctets) → nat_lt 7 (length m.randoms) ≡ true → refused {H = Unit {0}} given_ends m RandomsFull ≡ give_random m value
unfolding choose
full m value many = rw many refl

module _ (s : State StationMemory) (l : StationMemory) (running : s.memory ≡ Some l) (randoms after : List RandomOctets) (sessions : List CoordinatorSession)
    (b : book.Book) (value : RandomOctets) where
  held : (state_in s randoms sessions b).memory ≡ Some (memory_in randoms sessions b l)
  held = ap (option_map (memory_in randoms sessions b)) running

  pub random_carried : (r : Result (Unit {0}) RandomFault) → l.counter.next ≤ l.counter.limit → OnOk r (after ≡ randoms ++ value ∷ [])
      → MatchResult r (λ _. nat_lt 7 (length randoms) ≡ false) (λ e. (e ≡ RandomsFull) × (nat_lt 7 (length randoms) ≡ true)) → OnErr r (after ≡ randoms)
      → Carries (state_in s randoms sessions b) (give_random (memory_in randoms sessions b l) value) r nothing (state_in s after sessions b)
  unfolding one_more with_memory_by empty_draft
  random_carried (Ok u) below more room same =
      carried_by _ _ _ _ _ _ (given (memory_in randoms sessions b l) value room)
      (stored given_ends (state_in s randoms sessions b) (state_in s after sessions b) (one_more (memory_in randoms sessions b l) value) tt nothing refl below
      (record {
        wrote = wrote_none s.store;
        state = λ i. record { store = s.store; eui = s.eui; memory = option_map (memory_in (more i) sessions b) (running i); replied = s.replied };
      }) refl)
  random_carried (Err e) below more many same =
      subst (λ (k : List RandomOctets). Carries (state_in s randoms sessions b) (give_random (memory_in randoms sessions b l) value) (Err e) nothing
      (state_in s k sessions b)) (sym same)
      (subst (λ (k : RandomFault). Carries (state_in s randoms sessions b) (give_random (memory_in randoms sessions b l) value) (Err k) nothing
      (state_in s randoms sessions b)) (sym many.0)
      (refusal given_ends (state_in s randoms sessions b) (memory_in randoms sessions b l) RandomsFull _ nothing held
      (full (memory_in randoms sessions b l) value many.1) refl))
