-- Puts to other slots leave what is kept, and offers leave what others keep.
use Rattle.std.proofs.Common.{◌≢◌, ◌⊎◌, inl, inr, ℕ, ◌+◌, ◌<◌, ◌≤◌, List, ap, ◌∙◌, arith}
use Rattle.std.specs.Option.{option_map}
use Rattle.plc_base.specs.Keeper.{Records, SameOutside}
use Rattle.store_tables.specs.SlotTables.{Layout, slot_of, IsStored}
use Rattle.store_tables.proofs.SlotTables.{stored_elsewhere}
use Rattle.routing_set.specs.RoutingSet.{Routing, ranks, AgreesWith, SameElsewhere, floor_slot, floors_in}

-- what is kept stays where other slots are put
pub kept_elsewhere : (routing : Routing) (old new : Records) (first last : ℕ) → AgreesWith routing old → SameOutside first last old new
    → (last < 5) ⊎ (5 < first)
    → (last < 0x0200) ⊎ (0x0240 ≤ first) → AgreesWith routing new
kept_elsewhere routing old new first last kept same floors table = record {
  floors = ap floors_in (same floor_slot (outside floors)) ∙ kept.floors;
  ranks = stored_elsewhere ranks routing.entries old new first last kept.ranks same table;
}
  where
    outside : (last < 5) ⊎ (5 < first) → (5 < first) ⊎ (last < 5)
    outside (inl below) = inr below
    outside (inr above) = inl above

-- another table stays stored over an offer
pub stored_beside : {A : Type 0} (layout : Layout A) (table : List A) (old new : Records) → IsStored layout table old → SameElsewhere old new → 5 < layout.first
    → (layout.first + layout.slots ≤ 0x0200) ⊎ (0x0240 ≤ layout.first) → IsStored layout table new
stored_beside layout table old new stored same behind apart = record {
  short = stored.short;
  each = λ place within. ap (option_map (layout.read place)) (same (slot_of layout place) (differs place) (outside place within apart))
      ∙ stored.each place within;
}
  where
    differs : (place : ℕ) → slot_of layout place ≢ 5
    differs place = omega arith

    outside : (place : ℕ) → place < layout.slots → (layout.first + layout.slots ≤ 0x0200) ⊎ (0x0240 ≤ layout.first)
        → (slot_of layout place < 0x0200) ⊎ (0x023F < slot_of layout place)
    outside place within (inl below) = inl (omega arith)
    outside place within (inr above) = inr (omega arith)
