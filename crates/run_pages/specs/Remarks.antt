-- What the comments of a script say, those among them that `line_sim` writes: its remarks.
use Rattle.std.specs.Prelude.{ℕ, ◌==◌, ◌&&◌, Bool, not, nat_eq, List, [], ◌∷◌, ◌++◌, bytes_eq, codes, drop, length, position, take, Option, None, Some}
use Rattle.std.specs.Prelude.{if◌then◌else◌}
use Rattle.text_signs.specs.Signs.{shown_text}

pub record Remarked : Type 0 where
  -- the first that a comment gives, no words where none does
  pub title : List ℕ
  -- what is said before each event
  pub notes : List (List ℕ)
  -- what was said since the last event
  pub pending : List ℕ

abbrev pub no_remarks : Remarked
no_remarks = record { title = []; notes = []; pending = [] }

abbrev pub is_empty : List ℕ → Bool
is_empty words = nat_eq (length words) 0

-- the octets of a comment after the signs # and the spaces before it
abbrev pub is_said : ℕ → Bool
is_said c = not (c == 35) && not (c == 32)

abbrev pub from_place : Option ℕ → List ℕ → List ℕ
from_place None line = []
from_place (Some place) line = drop place line

abbrev pub comment_in : List ℕ → List ℕ
comment_in line = from_place (position is_said line) line

-- what a line says that has no event; what is no UTF-8, or no character that is shown, is U+FFFD
abbrev pub words_in : List ℕ → List ℕ
words_in line = shown_text (comment_in line)

-- ## Titles

-- what comes after the time and the word `title` of a remark, no octets where it is another one
unfoldable pub title_after : List ℕ → List ℕ
title_after octets = if bytes_eq (take 7 octets) (codes " title ") then drop 7 octets else []

abbrev pub is_space : ℕ → Bool
is_space c = c == 32

abbrev pub title_from : Option ℕ → List ℕ → List ℕ
title_from None octets = []
title_from (Some place) octets = title_after (drop place octets)

-- the title that a remark gives by what comes after its sign
abbrev pub title_in_remark : List ℕ → List ℕ
title_in_remark octets = title_from (position is_space octets) octets

-- the octets of a line that may be a title: a comment, or the words of the remark `title`, and nothing of another remark
unfoldable pub title_in : List ℕ → List ℕ
title_in line = if bytes_eq (take 3 line) (codes "#@ ") then title_in_remark (drop 3 line) else comment_in line

abbrev pub title_of : List ℕ → List ℕ
title_of line = shown_text (title_in line)

-- # Lines and events

abbrev pub or_words : List ℕ → List ℕ → List ℕ
or_words words other = if is_empty words then other else words

abbrev pub spaced : List ℕ → List ℕ → List ℕ
spaced before words = if is_empty before then words else before ++ (codes " " ++ words)

abbrev pub with_words : List ℕ → Remarked → Remarked
with_words words r = if is_empty words then r else record r { pending = spaced r.pending words }

-- a title, where there is none so far
abbrev pub with_title : List ℕ → Remarked → Remarked
with_title line r = record r { title = or_words r.title (title_of line) }

-- what a line says that has no event
abbrev pub with_line : List ℕ → Remarked → Remarked
with_line line r = with_words (words_in line) (with_title line r)

-- an event was taken: what was said so far is said before it
abbrev pub with_event : Remarked → Remarked
with_event r = record r { notes = r.notes ++ (r.pending ∷ []); pending = [] }
