-- A line with what stands beside it in the records: whatever lasts while slots below those of the book are written.
use Rattle.std.proofs.Common.{ℕ, ◌<◌, List, [], ◌∷◌}
use Rattle.std.specs.FinMap.{insert}
use Rattle.plc_base.specs.Keeper.{Records, Write}
use Rattle.node_rules.specs.Memory.{StationMemory}
use Rattle.line_laws.specs.Stores.{IsStationKept}
use Rattle.line_laws.proofs.KeptMemory.{Leads, leads_beside, leads_one, leads_when}

-- it lasts while slots below those of the book are written
abbrev pub Lasts : (Records → Type 0) → Type 0
Lasts B = (r : Records) (slot : ℕ) (octets : List ℕ) → slot < 0x1000 → B r → B (insert r slot octets)

-- The line is what the records give, and B holds of them.
pub record With (B : Records → Type 0) (l : StationMemory) (r : Records) : Type 0 where
  pub kept : IsStationKept l r
  pub rest : B r

module _ (B : Records → Type 0) (lasts : Lasts B) where
  pub low_one : (l n : StationMemory) (p : Write) → p.slot < 0x1000 → ((r : Records) → IsStationKept l r → IsStationKept n (insert r p.slot p.octets))
      → Leads (With B) l (p ∷ []) n
  low_one l n p low one = leads_one (With B) l n p (λ r k. record { kept = one r k.kept; rest = lasts r p.slot p.octets low k.rest })

  pub low_beside : (l n : StationMemory) → ((r : Records) → IsStationKept l r → IsStationKept n r) → Leads (With B) l [] n
  low_beside l n same = leads_beside (With B) l n (λ r k. record { kept = same r k.kept; rest = k.rest })

  pub low_when : (l n : StationMemory) (ps : List Write) → ((r : Records) → IsStationKept l r → Leads (With B) l ps n) → Leads (With B) l ps n
  low_when l n ps f = leads_when (With B) l n ps (λ r k. f r k.kept)
