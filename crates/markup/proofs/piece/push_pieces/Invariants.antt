use Rattle.std.proofs.Common.{◌≡◌, ◌++◌, drop}
use Rattle.markup.specs.Pieces.{pieces_text}
use Rattle.markup.proofs.piece.push_pieces.Given as goal

-- what was written, and what the rest of the pieces will be
abbrev pub invariant-loop-piece : goal.invariant-loop-piece
invariant-loop-piece l = l.out.items ++ pieces_text (drop l.piece-index l.pieces) ≡ l.fn.out.items ++ pieces_text l.pieces
