-- The parts of a page. Those with many words are shut, so that who puts them together does not see the words.
use Rattle.std.specs.Prelude.{ℕ, ◌==◌, Bool, List, [], ◌∷◌, codes, if◌then◌else◌}
use Rattle.std.specs.Fmt.{decimal}
use Rattle.markup.specs.declared.names.Element.TheVariants as E
use Rattle.markup.specs.declared.names.Attribute.TheVariants as A
use Rattle.markup.specs.Markups.{Markup, Words, Inside, Both, with_text}

-- words of a class
unfoldable pub span : List ℕ → List ℕ → Markup
span class words = Inside E.Span (with_text A.Class class ∷ []) (Words words)

-- the heading of a section
unfoldable pub heading : List ℕ → Markup
heading words = Inside E.Heading2 [] (Words words)

-- the heading of a part of a section
unfoldable pub subheading : List ℕ → Markup
subheading words = Inside E.Heading3 [] (Words words)

-- the name of the page
unfoldable pub name : List ℕ → Markup
name words = Inside E.Heading1 [] (Words words)

-- the words after a number: those of one, or those of none or more
abbrev pub noun : ℕ → List ℕ → List ℕ → List ℕ
noun number one more = if number == 1 then one else more

unfoldable pub sizes : ℕ → ℕ → ℕ → Markup
sizes nodes events frames =
    Both (Words (decimal nodes))
    (Both (Words (noun nodes (codes " node, ") (codes " nodes, ")))
    (Both (Words (decimal events))
    (Both (Words (noun events (codes " event, ") (codes " events, ")))
    (Both (Words (decimal frames)) (Words (noun frames (codes " frame, ") (codes " frames, ")))))))

unfoldable pub clock : ℕ → Markup
clock seconds = Both (Words (decimal seconds)) (Words (codes " s of the line's clock"))

-- how large a run is: its nodes, events and frames, and the seconds that passed on the line's clock
unfoldable pub totals : ℕ → ℕ → ℕ → ℕ → Markup
totals nodes events frames seconds =
    Inside E.Paragraph (with_text A.Class (codes "sub") ∷ []) (Both (sizes nodes events frames) (clock seconds))

-- a band across the page
unfoldable pub band : List ℕ → Markup
band words = Inside E.Paragraph (with_text A.Class (codes "band") ∷ []) (Words words)

-- # Tiles: a number, and what it counts

-- green where all is well, and red where not
abbrev pub tile_class : Bool → List ℕ
tile_class good = if good then codes "tile g" else codes "tile r"

unfoldable pub tile_of : List ℕ → ℕ → List ℕ → Markup
tile_of class number words =
    Inside E.Division (with_text A.Class class ∷ [])
    (Both (Inside E.Strong [] (Words (decimal number))) (Inside E.Span [] (Words words)))

abbrev pub tile : ℕ → List ℕ → Markup
tile number words = tile_of (codes "tile") number words

-- a number that is to be 0
abbrev pub fault_tile : ℕ → List ℕ → Markup
fault_tile number words = tile_of (tile_class (number == 0)) number words

unfoldable pub share_of : List ℕ → ℕ → ℕ → List ℕ → Markup
share_of class good all words =
    Inside E.Division (with_text A.Class class ∷ [])
    (Both (Inside E.Strong [] (Both (Words (decimal good)) (Both (Words (codes " / ")) (Words (decimal all))))) (Inside E.Span [] (Words words)))

-- how many of all are good
abbrev pub share : ℕ → ℕ → List ℕ → Markup
share good all words = share_of (tile_class (good == all)) good all words

-- # What the colours are

unfoldable pub sealing : Markup
sealing = span (codes "k0") (codes "joined, seals with key 0")

unfoldable pub states : Markup
states =
    Both sealing
    (Both (span (codes "k1") (codes "key 1")) (Both (span (codes "out") (codes "not joined")) (span (codes "halt") (codes "halted"))))

unfoldable pub outcomes : Markup
outcomes =
    Both (span (codes "any") (codes "event"))
    (Both (span (codes "up") (codes "handed up, took, done"))
    (Both (span (codes "no") (codes "refused")) (Both (span (codes "f") (codes "forged")) (span (codes "q") (codes "not meant")))))

unfoldable pub keys : Markup
keys = Inside E.Paragraph (with_text A.Class (codes "key") ∷ []) (Both states outcomes)

unfoldable pub line_both_ways : Markup
line_both_ways = span (codes "w") (codes "hear each other")

unfoldable pub line_one_way : Markup
line_one_way = span (codes "w1") (codes "one hears the other")

unfoldable pub line_to_hop : Markup
line_to_hop = span (codes "hop") (codes "next hop to the coordinator, as shown last")

unfoldable pub lines : Markup
lines = Both line_both_ways (Both line_one_way line_to_hop)

-- what the lines and the colours of a map are
unfoldable pub map_keys : Markup
map_keys = Inside E.Paragraph (with_text A.Class (codes "key") ∷ []) (Both lines states)

-- # Stories

-- that a story has no chart, and what tells it
unfoldable pub not_drawn : Markup
not_drawn =
    Inside E.Paragraph (with_text A.Class (codes "sub") ∷ [])
    (Words (codes "Not drawn, since there are many. line_view explain --all tells it event by event."))

-- the dash between two numbers, U+2013, in UTF-8
abbrev pub dash : List ℕ
dash = 226 ∷ 128 ∷ 147 ∷ []

unfoldable pub one_event : ℕ → Markup
one_event event = Inside E.Span (with_text A.Class (codes "n") ∷ []) (Both (Words (codes "event ")) (Words (decimal event)))

unfoldable pub more_events : ℕ → ℕ → Markup
more_events first last =
    Inside E.Span (with_text A.Class (codes "n") ∷ [])
    (Both (Words (codes "events ")) (Both (Words (decimal first)) (Both (Words dash) (Words (decimal last)))))

-- the numbers of the first and the last event of a story
abbrev pub event_numbers : ℕ → ℕ → Markup
event_numbers first last = if first == last then one_event first else more_events first last
