-- Lines in terms of whole lines.
use Rattle.std.proofs.Common.{◌≡◌, inl, inr, ℕ, ◌+◌, ◌≤◌, Bool, true, false, List, [], ◌∷◌, ◌++◌, length, map, refl, sym, ◌∙◌, ap, arith, length-append}
use Rattle.std.proofs.lemmas.List.{append-nil}
use Rattle.std.proofs.lemmas.Bool.{cases_lt, lt-ltb, le-ltb}
use Rattle.script_lines.specs.Lines.{Content, Line, content_of, lines_from, lines, NoFeed, NoFeeds, script, rest_line}
use Rattle.script_lines.proofs.TakenOctets.{fed, stretched}

contents : List Line → List Content
contents ls = map (λ (l : Line). l.content) ls

at_end : (seen count : ℕ) (part : List ℕ) (e : Bool) → contents (lines_from seen count part [] e) ≡ rest_line part e
unfolding lines_from contents
at_end seen count part false = refl
at_end seen count part true =
    elim (cases_lt 0 (length part)) [ inl some ↦ rw (lt-ltb 0 (length part) some) refl | inr empty ↦ rw (le-ltb 0 (length part) empty) refl ]

from : (seen count : ℕ) (whole : List (List ℕ)) (rest : List ℕ) (e : Bool) → NoFeeds whole → NoFeed rest → seen + length (script whole rest) ≤ 67108864
    → contents (lines_from seen count [] (script whole rest) e) ≡ map content_of whole ++ rest_line rest e
unfolding contents
from seen count [] rest e feeds none room =
    ap (λ (l : List ℕ). contents (lines_from seen count [] l e)) (sym (append-nil rest)) ∙ ap contents (stretched seen count [] rest [] e none room)
    ∙ at_end (seen + length rest) count rest e
from seen count (line ∷ whole) rest e feeds none room =
    let long = length-append line (10 ∷ script whole rest) in
    ap contents (stretched seen count [] line (10 ∷ script whole rest) e feeds.0 (omega (arith, room, long)))
    ∙ ap contents (fed (seen + length line) count line (script whole rest) 10 e (omega (arith, room, long)) refl)
    ∙ ap (λ (l : List Content). content_of line ∷ l) (from (seen + length line + 1) (count + 1) whole rest e feeds.1 none (omega (arith, room, long)))

pub lines_are : (whole : List (List ℕ)) (rest : List ℕ) (e : Bool) → NoFeeds whole → NoFeed rest → length (script whole rest) ≤ 67108864
    → map (λ (l : Line). l.content) (lines (script whole rest) e) ≡ map content_of whole ++ rest_line rest e
unfolding contents
lines_are whole rest e feeds none room = from 0 0 whole rest e feeds none (omega (arith, room))
