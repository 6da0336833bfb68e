-- The nearer of the nearest so far and one more is the nearest of all.
use Rattle.std.proofs.Common.{◌≡◌, ◌≤◌, ◌<◌, ℕ, ◌+◌, ◌⊎◌, inl, inr, List, ◌∷◌, take, drop, length, get_or, sym, ap, ◌∙◌, subst, arith}
use Rattle.std.specs.List.{All}
use Rattle.std.specs.Prelude.{Bool, None, Some, if◌then◌else◌}
use Rattle.std.proofs.lemmas.Bool.{le-leb, lt-leb}
use Rattle.std.proofs.lemmas.List.{drop_more}
use Rattle.std.proofs.lemmas.List.Elements.{All-cons, All-head, All-tail, All-more, All-weaker}
use Rattle.line_script.specs.declared.kind.EventKind.{EventKind}
use Rattle.line_script.specs.declared.kind.EventKind.TheVariants as kinds
use Rattle.line_script.specs.Kinds.{kind_word}
use Rattle.script_faults.specs.declared.nearest.Near.{Near}
use Rattle.script_faults.specs.declared.nearest.TheConstants.{KINDS}
use Rattle.script_faults.specs.Nearest.{IsNearestAmong, distance, reach, near_of, nearer, nearest_from, meant_by, meant}

-- how many steps lead to the word of a kind, where they do
abbrev IsAway : List ℕ → EventKind → Near → Type 0
IsAway word k near = (near.kind ≡ k) × (near.steps ≡ distance word (kind_word k))

own_steps : (word : List ℕ) (k : EventKind) (near : Near) → IsAway word k near → near.steps ≡ distance word (kind_word near.kind)
own_steps word k near is = is.1 ∙ sym (ap (λ other. distance word (kind_word other)) is.0)

steps_of : (word : List ℕ) (k : EventKind) (best near nearest : Near) → best.steps ≡ distance word (kind_word best.kind) → IsAway word k near
    → (nearest ≡ best) ⊎ (nearest ≡ near) → nearest.steps ≡ distance word (kind_word nearest.kind)
steps_of word k best near nearest same is (inl old) = subst (λ n. n.steps ≡ distance word (kind_word n.kind)) (sym old) same
steps_of word k best near nearest same is (inr new) = subst (λ n. n.steps ≡ distance word (kind_word n.kind)) (sym new) (own_steps word k near is)

least_of : (word : List ℕ) (first any : EventKind) (kinds : List EventKind) (i steps : ℕ) → i < length kinds
    → All (λ other. steps ≤ distance word (kind_word other)) (first ∷ take i kinds) → steps ≤ distance word (kind_word (get_or kinds i any))
    → All (λ other. steps ≤ distance word (kind_word other)) (first ∷ take (i + 1) kinds)
least_of word first any kinds i steps within all here =
    let Far : EventKind → Type 0 = λ other. steps ≤ distance word (kind_word other) in
    All-cons Far first (take (i + 1) kinds) (All-head Far first (take i kinds) all)
    (All-more Far kinds i any within (All-tail Far first (take i kinds) all) here)

pub nearer_of : (word : List ℕ) (first any : EventKind) (kinds : List EventKind) (i : ℕ) (best near nearest : Near) → i < length kinds
    → IsNearestAmong word (first ∷ take i kinds) best → IsAway word (get_or kinds i any) near → nearest.steps ≤ best.steps → nearest.steps ≤ near.steps
    → (nearest ≡ best) ⊎ (nearest ≡ near) → IsNearestAmong word (first ∷ take (i + 1) kinds) nearest
nearer_of word first any kinds i best near nearest within among is below_best below_near one =
    let away = is.1 in
    record {
      steps = steps_of word (get_or kinds i any) best near nearest among.steps is one;
      least = least_of word first any kinds i nearest.steps within
          (All-weaker (λ other. best.steps ≤ distance word (kind_word other)) (λ other. nearest.steps ≤ distance word (kind_word other))
          (λ other far. omega (arith, far, below_best)) (first ∷ take i kinds) among.least)
          (omega (arith, away, below_near));
    }

-- one more is looked at
pub next_nearest : (word : List ℕ) (any : EventKind) (kinds : List EventKind) (i : ℕ) (best near nearest : Near) {whole : Near} → i < length kinds
    → near ≡ near_of word (get_or kinds i any) → nearest ≡ nearer best near → nearest_from word best (drop i kinds) ≡ whole
    → nearest_from word nearest (drop (i + 1) kinds) ≡ whole
next_nearest word any kinds i best near nearest within is one from =
    ap (λ n. nearest_from word n (drop (i + 1) kinds)) (one ∙ ap (nearer best) is)
    ∙ sym (ap (nearest_from word best) (drop_more kinds i any within)) ∙ from

-- the nearest is meant where it is near enough
pub meant_near : (word : List ℕ) (near : Near) → near ≡ nearest_from word (near_of word kinds.Activate) KINDS → near.steps ≤ reach word
    → Some near.kind ≡ meant word
unfolding meant
meant_near word near is within =
    sym (ap (λ (b : Bool). if b then Some near.kind else None) (le-leb near.steps (reach word) within)) ∙ ap (meant_by word) is

pub none_meant : (word : List ℕ) (near : Near) → near ≡ nearest_from word (near_of word kinds.Activate) KINDS → reach word < near.steps
    → None ≡ meant word
unfolding meant
none_meant word near is far =
    sym (ap (λ (b : Bool). if b then Some near.kind else None) (lt-leb near.steps (reach word) far)) ∙ ap (meant_by word) is
