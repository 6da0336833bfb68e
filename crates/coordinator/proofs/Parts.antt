-- What a coordinator's condition says of its station and its book.
use Rattle.std.proofs.Common.{◌≡◌, List, Option, Some, None, refl, subst}
use Rattle.std.specs.Prelude.{IfSome, IsSome}
use Rattle.std.specs.Option.{option_map}
use Rattle.plc_base.specs.Grant.{Granted}
use Rattle.plc_base.specs.Keeper.{Records}
use Rattle.plc_base.specs.declared.key.RandomOctets.{RandomOctets}
use Rattle.group_keys.specs.KeyRing.{Ring}
use Rattle.group_keys.specs.KeyBook as book
use Rattle.node_rules.specs.Memory.{StationMemory, Memory, CoordinatorSession, address_of}
use Rattle.node_rules.specs.Agreement.{AgreesWith}
use Rattle.coordinator.specs.CoordinatorStates.{memory_in}
use Rattle.coordinator.specs.CoordinatorAgreement.{CoordinatorAgreesWith}

pub part_runs : {L M : Type 0} (o : Option L) (f : L → M) → IsSome (option_map f o) → IsSome o
part_runs None f h = h
part_runs (Some l) f h = refl

pub has_ring : (r : Ring) → option_map (λ (g : Granted). g.address) r ≡ Some 0 → IsSome r
has_ring None home = absurd (cc)
has_ring (Some g) home = refl

module _ (randoms : List RandomOctets) (sessions : List CoordinatorSession) (b : book.Book) (records : Records) where
  pub part_agrees : (o : Option StationMemory) → IfSome (option_map (memory_in randoms sessions b) o) (λ m. CoordinatorAgreesWith m records)
      → IfSome o (λ l. AgreesWith l records)
  part_agrees None h = tt
  part_agrees (Some l) h = h.station

  pub part_joined : (o : Option StationMemory) → IfSome (option_map (memory_in randoms sessions b) o) (λ m. CoordinatorAgreesWith m records)
      → IfSome o (λ l. IsSome l.ring)
  part_joined None h = tt
  part_joined (Some l) h = has_ring l.ring h.home

  pub part_ring : (o : Option StationMemory) (l : StationMemory) → o ≡ Some l
      → IfSome (option_map (memory_in randoms sessions b) o) (λ m. CoordinatorAgreesWith m records)
      → IsSome l.ring
  part_ring o l running h = subst (λ (k : Option StationMemory). IfSome k (λ m. IsSome m.ring)) running (part_joined o h)

  pub part_book : (o : Option StationMemory) → IsSome (option_map (memory_in randoms sessions b) o)
      → IfSome (option_map (memory_in randoms sessions b) o) (λ m. CoordinatorAgreesWith m records)
      → book.AgreesWith b records
  part_book None runs h = absurd (cc)
  part_book (Some l) runs h = h.book

  pub part_home : (o : Option StationMemory) (l : StationMemory) → o ≡ Some l
      → IfSome (option_map (memory_in randoms sessions b) o) (λ m. CoordinatorAgreesWith m records)
      → address_of l ≡ Some 0
  part_home o l running h =
      (subst (λ (k : Option StationMemory). IfSome (option_map (memory_in randoms sessions b) k) (λ m. CoordinatorAgreesWith m records)) running h).home

  pub part_says : (o : Option StationMemory) (P : Memory → Type 0) (l : StationMemory) → o ≡ Some l → IfSome (option_map (memory_in randoms sessions b) o) P
      → P (memory_in randoms sessions b l)
  part_says o P l running h = subst (λ (k : Option StationMemory). IfSome (option_map (memory_in randoms sessions b) k) P) running h
