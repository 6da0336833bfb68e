use Rattle.std.proofs.Common.{◌≡◌, drop}
use Rattle.event_sentences.specs.Heards.{opening_key}
use Rattle.event_sentences.proofs.heard.opening_key.Given as goal

-- none of the keys so far opens it
abbrev pub invariant-loop-drawn : goal.invariant-loop-drawn
invariant-loop-drawn l = opening_key l.octets l.index (drop l.drawn-index l.keys) ≡ opening_key l.octets l.index l.keys
