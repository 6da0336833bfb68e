-- What is said of all kinds in a list is said of each.
use Rattle.std.proofs.Common.{◌≤◌, ℕ, List, ◌∷◌, lit<}
use Rattle.std.specs.List.{All}
use Rattle.line_script.specs.declared.kind.EventKind.{EventKind}
use Rattle.line_script.specs.declared.kind.EventKind.TheVariants as kinds
use Rattle.line_script.specs.Kinds.{kind_word}
use Rattle.script_faults.specs.declared.nearest.TheConstants.{KINDS}
use Rattle.script_faults.specs.Nearest.{distance}

pub each : (word : List ℕ) (steps : ℕ) → All (λ k. steps ≤ distance word (kind_word k)) (kinds.Activate ∷ KINDS)
    → (other : EventKind) → steps ≤ distance word (kind_word other)
each word steps all kinds.Activate = all 1 kinds.Activate (lit< tt)
each word steps all kinds.Allow = all 2 kinds.Allow (lit< tt)
each word steps all kinds.Bcast = all 3 kinds.Bcast (lit< tt)
each word steps all kinds.Break = all 4 kinds.Break (lit< tt)
each word steps all kinds.Challenge = all 5 kinds.Challenge (lit< tt)
each word steps all kinds.Checks = all 6 kinds.Checks (lit< tt)
each word steps all kinds.Choose = all 7 kinds.Choose (lit< tt)
each word steps all kinds.Coordinator = all 8 kinds.Coordinator (lit< tt)
each word steps all kinds.Counter = all 9 kinds.Counter (lit< tt)
each word steps all kinds.Cut = all 10 kinds.Cut (lit< tt)
each word steps all kinds.Deliver = all 11 kinds.Deliver (lit< tt)
each word steps all kinds.Depot = all 12 kinds.Depot (lit< tt)
each word steps all kinds.Inject = all 13 kinds.Inject (lit< tt)
each word steps all kinds.Join = all 14 kinds.Join (lit< tt)
each word steps all kinds.Kick = all 15 kinds.Kick (lit< tt)
each word steps all kinds.Leave = all 16 kinds.Leave (lit< tt)
each word steps all kinds.Lose = all 17 kinds.Lose (lit< tt)
each word steps all kinds.Meter = all 18 kinds.Meter (lit< tt)
each word steps all kinds.Near = all 19 kinds.Near (lit< tt)
each word steps all kinds.Number = all 20 kinds.Number (lit< tt)
each word steps all kinds.Path = all 21 kinds.Path (lit< tt)
each word steps all kinds.RandomOctets = all 22 kinds.RandomOctets (lit< tt)
each word steps all kinds.Rekey = all 23 kinds.Rekey (lit< tt)
each word steps all kinds.Restart = all 24 kinds.Restart (lit< tt)
each word steps all kinds.Scan = all 25 kinds.Scan (lit< tt)
each word steps all kinds.Send = all 26 kinds.Send (lit< tt)
each word steps all kinds.Show = all 27 kinds.Show (lit< tt)
each word steps all kinds.Tick = all 28 kinds.Tick (lit< tt)
