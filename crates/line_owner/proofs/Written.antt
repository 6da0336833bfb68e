-- A message is read as it was written.
use Rattle.std.proofs.Common.{◌≡◌, ℕ, ◌+◌, ◌*◌, ◌-◌, ◌/◌, ◌%◌, ◌^◌, ◌<◌, List, ◌∷◌, ◌++◌, Some, length, replicate, ◌∙◌, arith}
use Rattle.std.proofs.lemmas.Bool.{le-leb, cond-true}
use Rattle.line_owner.specs.declared.messages.Kind.{Kind}
use Rattle.line_owner.specs.declared.messages.Kind.TheVariants.{Reading, Reply, Ask, Receipt}
use Rattle.line_owner.specs.declared.messages.Message.{Message}
use Rattle.line_owner.specs.Messages.{kind_octet, kind_of, kind_read, two_octets, message_of, message_in, message_octets, message_length, WrittenIsRead}

-- five octets and more
parts : (a b c d e : ℕ) (rest : List ℕ) → message_in (a ∷ b ∷ c ∷ d ∷ e ∷ rest) ≡ message_of (kind_of a) (a ∷ b ∷ c ∷ d ∷ e ∷ rest)
unfolding message_in
parts a b c d e rest = cond-true _ _ _ (le-leb 5 (length (a ∷ b ∷ c ∷ d ∷ e ∷ rest)) (omega arith))

abbrev message : Kind → ℕ → ℕ → Message
message kind node round = record { kind = kind; node = node; round = round }

made : (kind : Kind) (n r node round : ℕ) → n ≡ node → r ≡ round → Some (message kind n r) ≡ Some (message kind node round)
made kind n r node round e f = cc

two_make : (n : ℕ) → n < 2 ^ 16 → n / 256 % 256 * 256 + n % 256 ≡ n
two_make n small = omega arith

by_kind : (kind : Kind) (node round : ℕ) (rest : List ℕ) → node < 2 ^ 16 → round < 2 ^ 16
    → message_in (kind_octet kind ∷ two_octets node ++ two_octets round ++ rest) ≡ Some (message (kind_read kind) node round)
by_kind Reading node round rest n r =
    parts 1 (node / 256 % 256) (node % 256) (round / 256 % 256) (round % 256) rest
    ∙ made Reading (node / 256 % 256 * 256 + node % 256) (round / 256 % 256 * 256 + round % 256) node round (two_make node n) (two_make round r)
by_kind Reply node round rest n r =
    parts 1 (node / 256 % 256) (node % 256) (round / 256 % 256) (round % 256) rest
    ∙ made Reading (node / 256 % 256 * 256 + node % 256) (round / 256 % 256 * 256 + round % 256) node round (two_make node n) (two_make round r)
by_kind Ask node round rest n r =
    parts 2 (node / 256 % 256) (node % 256) (round / 256 % 256) (round % 256) rest
    ∙ made Ask (node / 256 % 256 * 256 + node % 256) (round / 256 % 256 * 256 + round % 256) node round (two_make node n) (two_make round r)
by_kind Receipt node round rest n r =
    parts 3 (node / 256 % 256) (node % 256) (round / 256 % 256) (round % 256) rest
    ∙ made Receipt (node / 256 % 256 * 256 + node % 256) (round / 256 % 256 * 256 + round % 256) node round (two_make node n) (two_make round r)

pub written_is_read : WrittenIsRead
unfolding message_octets
written_is_read octets m n r = by_kind m.kind m.node m.round (replicate (message_length octets m.kind - 5) 90) n r
