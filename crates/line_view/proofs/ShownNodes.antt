-- What a node shows, where there is such a node, and nodes that are looked at one by one.
use Rattle.std.proofs.Common.{◌≡◌, ℕ, ◌+◌, suc, List, true, false, Option, Some, None, refl, sym, ap, ◌∙◌, arith}
use Rattle.std.specs.Prelude.{IfSome, is_some}
use Rattle.node_rules.specs.Memory.{Node}
use Rattle.node_rules.specs.declared.shown.Shown.{Shown}
use Rattle.node_rules.specs.ShownNodes.{nothing_shown, shown_of}
use Rattle.line_rules.specs.Worlds.{World}
use Rattle.event_sentences.specs.Watches.{Watched}
use Rattle.line_view.specs.Sentences.{look_at, look_at_all, shown_by}

no_truth : false ≡ true → ⊥
no_truth is = cc

no_falsehood : true ≡ false → ⊥
no_falsehood is = cc

pub shown_there : (node : Option Node) (shown : Shown) → IfSome node (λ n. shown ≡ shown_of n) → is_some node ≡ true → shown_by node ≡ shown
shown_there None shown is there = absurd (no_truth there)
shown_there (Some n) shown is there = sym is

pub shown_nowhere : (node : Option Node) → is_some node ≡ false → shown_by node ≡ nothing_shown
shown_nowhere None not_there = refl
shown_nowhere (Some n) not_there = absurd (no_falsehood not_there)

-- one node more
pub look_more : (event place : ℕ) (w v : World) (first old new : List Watched) → v ≡ w → old ≡ look_at_all event w place first
    → new ≡ look_at event v place old → new ≡ look_at_all event w (place + 1) first
look_more event place w v first old new same was is =
    let more : place + 1 ≡ suc place = omega arith in
    rw more (is ∙ ap (λ (x : World). look_at event x place old) same ∙ ap (λ (xs : List Watched). look_at event w place xs) was)
