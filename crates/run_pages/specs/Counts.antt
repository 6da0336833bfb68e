-- What is counted, and of which kind.
use Rattle.std.specs.Prelude.{ℕ, ◌+◌, min, Bool, true, false, Option, None, Some, if◌then◌else◌}
use Rattle.line_record.specs.declared.kind.StoryKind.{StoryKind}
use Rattle.line_record.specs.declared.kind.StoryKind.TheVariants as kinds

-- one more, up to what a count can be
abbrev pub counted : ℕ → ℕ
counted n = min (n + 1) 18446744073709551615

abbrev pub count_if : Bool → ℕ → ℕ
count_if holds n = if holds then counted n else n

-- whether a story reached its end
abbrev pub is_yes : Option Bool → Bool
is_yes None = false
is_yes (Some good) = good

-- whether two kinds are the same
abbrev pub is_kind : StoryKind → StoryKind → Bool
is_kind kinds.Setup kinds.Setup = true
is_kind kinds.Datagram kinds.Datagram = true
is_kind kinds.Joining kinds.Joining = true
is_kind kinds.Renewal kinds.Renewal = true
is_kind kinds.Order kinds.Order = true
is_kind kinds.Injection kinds.Injection = true
is_kind kinds.Broadcast kinds.Broadcast = true
is_kind kinds.Walk kinds.Walk = true
is_kind kinds.Line kinds.Line = true
is_kind kind other = false
