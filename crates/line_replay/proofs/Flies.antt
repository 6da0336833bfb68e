-- The lines of flights, one after the other.
use Rattle.std.proofs.Common.{◌≡◌, ℕ, suc, ◌+◌, ◌-◌, ◌≤◌, List, ◌++◌, sym, ◌∙◌, ap, append_assoc, arith}
use Rattle.std.proofs.lemmas.List.{append-nil}
use Rattle.line_rules.specs.Worlds.{World}
use Rattle.line_replay.specs.Texts.{flight_text, flies_text}

pub flies_none : (w : World) (first : ℕ) (old : List ℕ) → old ≡ old ++ flies_text w first (first - first)
unfolding flies_text
flies_none w first old = let none : first - first ≡ 0 = omega arith in rw none (sym (append-nil old))

pub flies_more : (w : World) (first number : ℕ) (old : List ℕ) → first ≤ number
    → (old ++ flies_text w first (number - first)) ++ flight_text w number ≡ old ++ flies_text w first ((number + 1) - first)
unfolding flies_text
flies_more w first number old from =
    let more : (number + 1) - first ≡ suc (number - first) = omega arith in
    let here : number ≡ first + (number - first) = omega arith in
    rw more (append_assoc old (flies_text w first (number - first)) (flight_text w number)
    ∙ ap (λ n. old ++ (flies_text w first (number - first) ++ flight_text w n)) here)
