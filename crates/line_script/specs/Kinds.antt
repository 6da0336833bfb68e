-- The kinds of events, by the first word of their lines.
use Rattle.std.specs.Prelude.{ℕ, List, [], ◌∷◌, codes, Option, None, Some, if◌then◌else◌}
use Rattle.std.specs.Str.{bytes_eq}
use Rattle.line_script.specs.declared.kind.EventKind.{EventKind}
use Rattle.line_script.specs.declared.kind.EventKind.TheVariants.{Coordinator, Meter, Depot, Near, Counter, Number, Allow, RandomOctets, Join, Leave, Send}
use Rattle.line_script.specs.declared.kind.EventKind.TheVariants.{Deliver}
use Rattle.line_script.specs.declared.kind.EventKind.TheVariants.{Inject, Lose, Break, Tick, Restart, Cut, Rekey, Challenge, Activate, Kick, Show, Checks}
use Rattle.line_script.specs.declared.kind.EventKind.TheVariants.{Bcast, Scan, Choose, Path}
use Rattle.line_script.specs.declared.kind.TheConstants.{KINDS}

-- the first word of a kind's lines
abbrev pub kind_word : EventKind → List ℕ
kind_word Coordinator = codes "coordinator"
kind_word Meter = codes "meter"
kind_word Depot = codes "depot"
kind_word Near = codes "near"
kind_word Counter = codes "counter"
kind_word Number = codes "number"
kind_word Allow = codes "allow"
kind_word RandomOctets = codes "rand"
kind_word Join = codes "join"
kind_word Leave = codes "leave"
kind_word Send = codes "send"
kind_word Deliver = codes "deliver"
kind_word Inject = codes "inject"
kind_word Lose = codes "lose"
kind_word Break = codes "break"
kind_word Tick = codes "tick"
kind_word Restart = codes "restart"
kind_word Cut = codes "cut"
kind_word Rekey = codes "rekey"
kind_word Challenge = codes "challenge"
kind_word Activate = codes "activate"
kind_word Kick = codes "kick"
kind_word Show = codes "show"
kind_word Checks = codes "checks"
kind_word Bcast = codes "bcast"
kind_word Scan = codes "scan"
kind_word Choose = codes "choose"
kind_word Path = codes "path"

-- the first of some kinds that has this word
abbrev pub kind_among : List ℕ → List EventKind → Option EventKind
kind_among word [] = None
kind_among word (kind ∷ kinds) = if bytes_eq word (kind_word kind) then Some kind else kind_among word kinds

-- the kind of a word
unfoldable pub kind_named : List ℕ → Option EventKind
kind_named word = kind_among word KINDS
