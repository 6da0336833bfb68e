-- Tries that were not connected.
use Rattle.std.proofs.Common.{◌≡◌, ℕ, ◌+◌, ◌≤◌, inl, inr, subst, arith}
use Rattle.std.proofs.lemmas.Bool.{cases_lt}
use Rattle.rand_pcg.specs.Lcg.{Lcg}
use Rattle.line_place.specs.declared.link.Losses.{Losses}
use Rattle.line_place.specs.declared.link.Costs.{Costs}
use Rattle.line_place.specs.declared.scattering.Field.{Field}
use Rattle.line_place.specs.Hops.{AllHavePaths}
use Rattle.line_place.specs.ScatteredSpots.{drawn_rows, tries_after, NoneBefore}

pub none_at_first : (field : Field) (losses : Losses) (costs : Costs) (g : Lcg) → NoneBefore field losses costs g 0
none_at_first field losses costs g j low = absurd (omega arith)

pub none_more : (field : Field) (losses : Losses) (costs : Costs) (g : Lcg) (k : ℕ) → NoneBefore field losses costs g k →
    (AllHavePaths (drawn_rows field losses costs (tries_after field.meters g k)) → ⊥) → NoneBefore field losses costs g (k + 1)
none_more field losses costs g k before here j low = elim (cases_lt j k) [
  | inl less ↦ before j less
  | inr more ↦ subst (λ n. AllHavePaths (drawn_rows field losses costs (tries_after field.meters g n)) → ⊥) (is_k more) here
]
  where
    is_k : k ≤ j → k ≡ j
    is_k more = omega arith
