-- What a station answers for a piece.
use Rattle.std.specs.Prelude.{ℕ, List, Result, Ok, Err}
use Rattle.fragment_buffers.specs.declared.reassembly.Taken.{Taken}
use Rattle.fragment_buffers.specs.declared.reassembly.Taken.TheVariants as taken
use Rattle.fragment_buffers.specs.declared.reassembly.BufferFull as full
use Rattle.node_rules.specs.declared.heard.Heard.{Heard}
use Rattle.node_rules.specs.declared.heard.Heard.TheVariants as heard
use Rattle.node_rules.specs.declared.refusal.Dropped.{Dropped}
use Rattle.node_rules.specs.declared.refusal.Dropped.TheVariants as drops

-- of what the reassemblies answer, with the datagram that they fill in
abbrev pub came : ℕ → Result Taken full.BufferFull → List ℕ → Result Heard Dropped
came from (Ok taken.Held) octets = Ok heard.Held
came from (Ok (taken.Whole note)) octets = Ok (heard.Up from note octets)
came from (Err e) octets = Err drops.BufferFull
