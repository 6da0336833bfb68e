-- Sentences, put together from words, numbers and nodes.
use Rattle.std.specs.Prelude.{ℕ, ◌==◌, List, [], ◌∷◌, ◌++◌, codes, if◌then◌else◌}
use Rattle.std.specs.Fmt.{decimal}
use Rattle.hex.specs.Hex.{encode_lower}
use Rattle.frame_facts.specs.Words.{short_word}
use Rattle.text_signs.specs.Quotes.{quoted_text}
use Rattle.sentence_parts.specs.declared.part.Who.{Who}
use Rattle.sentence_parts.specs.declared.part.Who.TheVariants as whos
use Rattle.sentence_parts.specs.declared.part.Part.{Part}
use Rattle.sentence_parts.specs.declared.part.Part.TheVariants as parts

-- # Nodes

-- who a node is, by its number
abbrev pub node_text : ℕ → List ℕ
node_text node = if node == 0 then codes "the coordinator" else codes "meter " ++ decimal node

-- whom a frame is for, or from
abbrev pub who_text : Who → List ℕ
who_text whos.All = codes "all"
who_text (whos.Node node) = node_text node
who_text (whos.Address address) = short_word address
who_text (whos.Device eui) = codes "EUI " ++ encode_lower eui.0
who_text whos.Nobody = codes "?"

-- # Counts

-- a number of things, by the noun of one
abbrev pub count_text : ℕ → List ℕ → List ℕ
count_text number noun = decimal number ++ (codes " " ++ (noun ++ (if number == 1 then [] else codes "s")))

-- # Sentences

-- a part of a sentence
abbrev pub part_text : Part → List ℕ
part_text (parts.Words words) = words
part_text (parts.Number number) = decimal number
part_text (parts.Node node) = node_text node
part_text (parts.Place who) = who_text who
part_text (parts.Short address) = short_word address
part_text (parts.Count number noun) = count_text number noun
part_text (parts.Octets octets) = quoted_text octets

-- a sentence
abbrev pub parts_text : List Part → List ℕ
parts_text [] = []
parts_text (part ∷ rest) = part_text part ++ parts_text rest
