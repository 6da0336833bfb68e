-- What disturbs the line for a time: noise, links that are cut, and an attacker who keeps frames from a node.
use Rattle.std.specs.Prelude.{ℕ, ◌-◌, ◌*◌, ◌/◌, min, leb, ltb, eqb, ◌&&◌, ◌||◌, cond, Bool, true, List, Option, Some, None}
use Rattle.std.specs.List.{list_any, fold}
use Rattle.line_air.specs.declared.disturbances.Noise.{Noise}
use Rattle.line_air.specs.declared.disturbances.CutLink.{CutLink}
use Rattle.line_air.specs.declared.disturbances.Withheld.{Withheld}

pub record Disturbed : Type 0 where
  pub noises : List Noise
  pub cuts : List CutLink
  pub withheld : List Withheld

-- a span has its beginning and lacks its end
abbrev pub is_during : ℕ → ℕ → ℕ → Bool
is_during now from until = leb from now && ltb now until

-- a noise that names no node is heard at all
abbrev pub is_at : Option ℕ → ℕ → Bool
is_at None node = true
is_at (Some at) node = eqb at node

unfoldable pub is_noisy : Noise → ℕ → ℕ → Bool
is_noisy noise now node = is_during now noise.from noise.until && is_at noise.at node

-- of what would come, a noise loses its part
unfoldable pub louder : ℕ → ℕ → ℕ
louder loss noise = 10000 - (10000 - loss) * (10000 - noise) / 10000

unfoldable pub loss_after : ℕ → ℕ → ℕ → Noise → ℕ
loss_after now node loss noise = cond (is_noisy noise now node) (louder loss (min noise.loss 10000)) loss

unfoldable pub loss_with : List Noise → ℕ → ℕ → ℕ → ℕ
loss_with noises now node loss = fold (loss_after now node) loss noises

unfoldable pub is_cut_between : ℕ → ℕ → ℕ → CutLink → Bool
is_cut_between now a b cut =
    is_during now cut.from cut.until && ((eqb cut.one a && eqb cut.other b) || (eqb cut.one b && eqb cut.other a))

unfoldable pub is_cut : List CutLink → ℕ → ℕ → ℕ → Bool
is_cut cuts now a b = list_any (is_cut_between now a b) cuts

unfoldable pub is_withheld_from : ℕ → ℕ → Withheld → Bool
is_withheld_from now node kept = is_during now kept.from kept.until && eqb kept.node node

unfoldable pub is_withheld : List Withheld → ℕ → ℕ → Bool
is_withheld withheld now node = list_any (is_withheld_from now node) withheld

-- the chance that a segment is lost on its way; nothing comes over a link that is cut
unfoldable pub loss_at : Disturbed → ℕ → ℕ → ℕ → ℕ → ℕ
loss_at disturbed now from to loss =
    cond (is_cut disturbed.cuts now from to) 10000 (loss_with disturbed.noises now to (min loss 10000))
