-- The first of several ends.
use Rattle.std.proofs.Common.{ℕ, ◌<◌, ◌≤◌, List, [], ◌∷◌, min, arith}
use Rattle.std.specs.Prelude.{fold}
use Rattle.std.specs.List.{All}
use Rattle.std.proofs.lemmas.List.Elements.{All-nil, All-cons, All-head, All-tail}

-- the earlier of two times is after neither
pub earlier : (time end : ℕ) → (min time end ≤ time) × (min time end ≤ end)
earlier time end = (omega arith, omega arith)

-- Where each of several items makes a time no later, and lasts until then, all of them last until the time that they make together.
pub all_last : {A : Type 0} (end_by : ℕ → A → ℕ) (Lasts : ℕ → A → Type 0)
    → ((time : ℕ) (x : A) → (end_by time x ≤ time) × Lasts (end_by time x) x)
    → ((sooner later : ℕ) (x : A) → sooner ≤ later → Lasts later x → Lasts sooner x)
    → (xs : List A) (time : ℕ) → (fold end_by time xs ≤ time) × All (Lasts (fold end_by time xs)) xs
all_last end_by Lasts one lasts [] time = (omega arith, All-nil (Lasts time))
all_last end_by Lasts one lasts (x ∷ xs) time =
    let rest = all_last end_by Lasts one lasts xs (end_by time x) in
    let first = one time x in (
      omega (arith, rest.0, first.0),
      All-cons (Lasts (fold end_by (end_by time x) xs)) x xs (lasts (fold end_by (end_by time x) xs) (end_by time x) x rest.0 first.1) rest.1,
    )

-- Where each of several items leaves a time that is after now after now, the time that they make together is after now.
pub all_after : {A : Type 0} (end_by : ℕ → A → ℕ) (Lasts : A → Type 0) (now : ℕ)
    → ((time : ℕ) (x : A) → now < time → Lasts x → now < end_by time x)
    → (xs : List A) (time : ℕ) → now < time → All Lasts xs → now < fold end_by time xs
all_after end_by Lasts now one [] time after h = after
all_after end_by Lasts now one (x ∷ xs) time after h =
    all_after end_by Lasts now one xs (end_by time x) (one time x after (All-head Lasts x xs h)) (All-tail Lasts x xs h)
