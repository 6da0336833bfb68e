-- The octets of pieces of markup.
use Rattle.std.specs.Prelude.{ℕ, List, [], ◌∷◌, ◌++◌}
use Rattle.std.specs.Fmt.{decimal}
use Rattle.markup.specs.ElementTexts.{attribute_text, end_tag, escaped, tag_start}
use Rattle.markup.specs.declared.piece.Piece.{Piece}
use Rattle.markup.specs.declared.piece.Piece.TheVariants as pieces

abbrev pub piece_text : Piece → List ℕ
piece_text (pieces.Start element) = tag_start element
piece_text (pieces.Given attribute value) = attribute_text attribute value
piece_text (pieces.GivenNumber attribute value) = attribute_text attribute (decimal value)
piece_text pieces.Open = 62 ∷ []
piece_text pieces.Leaf = 47 ∷ 62 ∷ []
piece_text (pieces.Text text) = escaped text
piece_text (pieces.Number number) = escaped (decimal number)
piece_text (pieces.End element) = end_tag element

-- pieces, one after the other
abbrev pub pieces_text : List Piece → List ℕ
pieces_text [] = []
pieces_text (piece ∷ rest) = piece_text piece ++ pieces_text rest
