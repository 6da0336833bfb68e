-- Routes are given anew often enough, and no more often than was said.
use Rattle.std.specs.Prelude.{◌≡◌, ◌≤◌, ◌<◌, ℕ, ◌+◌, true}
use Rattle.line_owner.specs.declared.settings.Settings.{Settings}
use Rattle.line_owner.specs.declared.acts.Act.{Act}
use Rattle.line_owner.specs.declared.acts.Act.TheVariants.{Put}
use Rattle.line_owner.specs.declared.acts.Acts.{Acts}
use Rattle.line_owner.specs.declared.acts.Acts.TheVariants.{Nothing, One, Two, Three, Four}
use Rattle.line_owner.specs.declared.acts.Task.TheVariants.{Refresh}
use Rattle.line_owner.specs.Setups.{round_at, round_acts, refresh_span}
use Rattle.line_owner.specs.Times.{micros}

-- an act is the first of all
abbrev pub IsFirst : Act → Acts → Type 0
IsFirst a Nothing = ⊥
IsFirst a (One b) = b ≡ a
IsFirst a (Two b c) = b ≡ a
IsFirst a (Three b c d) = b ≡ a
IsFirst a (Four b c d e) = b ≡ a

-- the coordinator gives routes anew as a round of readings begins
abbrev pub IsRefreshed : Settings → ℕ → Type 0
IsRefreshed settings round = IsFirst (Put (round_at settings round) Refresh) (round_acts settings round (round_at settings round))

-- as each round begins, routes are given anew, or were at an earlier round, at most the span of time ago that was said
abbrev pub RoundsAreFresh : Type 0
RoundsAreFresh = (settings : Settings) (round : ℕ) → settings.readings.refresh ≡ true → 1 ≤ round
    → (earlier : ℕ) × (1 ≤ earlier) × (earlier ≤ round) × (IsRefreshed settings earlier)
    × (round_at settings round ≤ round_at settings earlier + micros settings.readings.refresh_every)

-- routes are given anew as the first round of a span begins, and as no other: the round lies in a later span than each one before it
abbrev pub SpansHaveOne : Type 0
SpansHaveOne = (settings : Settings) (earlier round : ℕ) → 0 < settings.readings.refresh_every → 1 ≤ earlier → earlier < round
    → IsRefreshed settings round → refresh_span settings earlier < refresh_span settings round
