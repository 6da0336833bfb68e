-- The marks that a node showed last.
use Rattle.std.specs.Prelude.{ℕ, ◌==◌, Bool, List, Option, None, Some}
use Rattle.std.specs.List.{find}
use Rattle.node_rules.specs.declared.shown.ShownPeer.{ShownPeer}

abbrev pub is_from : ℕ → ShownPeer → Bool
is_from from peer = peer.from == from

abbrev pub mark_of : Option ShownPeer → Option ℕ
mark_of None = None
mark_of (Some peer) = Some peer.mark

-- the mark of a sender, by its short address
abbrev pub mark_in : ℕ → List ShownPeer → Option ℕ
mark_in from peers = mark_of (find (is_from from) peers)
