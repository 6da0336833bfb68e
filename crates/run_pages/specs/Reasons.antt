-- Why stories failed: the reasons that `explain` counts, with links to the first stories of each.
use Rattle.std.specs.Prelude.{ℕ, ◌-◌, ◌==◌, List, [], ◌∷◌, codes, length, take, if◌then◌else◌}
use Rattle.std.specs.Fmt.{decimal}
use Rattle.markup.specs.declared.names.Element.TheVariants as E
use Rattle.markup.specs.declared.names.Attribute.TheVariants as A
use Rattle.markup.specs.Markups.{Markup, Nothing, Words, Inside, Both, with_text}
use Rattle.markup.specs.Parts.{heading, span, subheading}
use Rattle.sentence_parts.specs.declared.part.Part.TheVariants as part
use Rattle.sentence_parts.specs.Parts.{parts_text}
use Rattle.story_accounts.specs.declared.section.Section.{Section}
use Rattle.story_accounts.specs.Accounts.{RunAccount, first_of}
use Rattle.story_accounts.specs.Groups.{WordGroup}
use Rattle.story_accounts.specs.Sections.{all_sections, section_reasons, section_title}

-- # Links

-- the place of a story on the page
unfoldable pub target : ℕ → List ℕ
target number = parts_text (part.Words (codes "#") ∷ part.Number number ∷ [])

-- to a place of the page, by the event that its story begins with; links follow each other, each after a blank
unfoldable pub link_to : List ℕ → ℕ → Markup
link_to target event =
    Both (Words (codes " "))
    (Inside E.Link (with_text A.Target target ∷ []) (Both (Words (codes "event ")) (Words (decimal event))))

-- to a story
unfoldable pub link : RunAccount → ℕ → Markup
link a number = link_to (target number) (first_of a number)

abbrev pub links : RunAccount → List ℕ → Markup
links a [] = Nothing
links a (number ∷ numbers) = Both (link a number) (links a numbers)

-- # A reason

-- this many of its stories have a link
abbrev pub most : ℕ
most = 8

unfoldable pub more : ℕ → Markup
more count = Both (Words (codes " and ")) (Both (Words (decimal count)) (Words (codes " more")))

-- how many stories have none
abbrev pub more_if : ℕ → Markup
more_if count = if count == 0 then Nothing else more count

unfoldable pub count_of : ℕ → Markup
count_of count = Inside E.Strong [] (Words (decimal count))

-- how many stories failed for it, and what it is
unfoldable pub row_head : WordGroup → Markup
row_head group = Both (count_of (length group.members)) (span (codes "t") group.word)

unfoldable pub row_links : RunAccount → List ℕ → Markup
row_links a numbers = Both (links a (take most numbers)) (more_if (length numbers - most))

unfoldable pub row : RunAccount → WordGroup → Markup
row a group = Inside E.Item [] (Both (row_head group) (row_links a group.members))

abbrev pub rows : RunAccount → List WordGroup → Markup
rows a [] = Nothing
rows a (group ∷ groups) = Both (row a group) (rows a groups)

-- # All reasons

unfoldable pub row_list : RunAccount → List WordGroup → Markup
row_list a groups = Inside E.List (with_text A.Class (codes "why") ∷ []) (rows a groups)

unfoldable pub section_of : RunAccount → Section → List WordGroup → Markup
section_of a section groups = Both (subheading (section_title section)) (row_list a groups)

abbrev pub section_by : RunAccount → Section → List WordGroup → Markup
section_by a section groups = if length groups == 0 then Nothing else section_of a section groups

-- of a section none of whose stories failed there is nothing
unfoldable pub section_part : RunAccount → Section → Markup
section_part a section = section_by a section (section_reasons a section)

abbrev pub section_parts : RunAccount → List Section → Markup
section_parts a [] = Nothing
section_parts a (section ∷ rest) = Both (section_part a section) (section_parts a rest)

unfoldable pub all_parts : RunAccount → Markup
all_parts a = section_parts a all_sections

unfoldable pub reason_card : RunAccount → Markup
reason_card a = Inside E.Division (with_text A.Class (codes "card") ∷ []) (all_parts a)

-- why what failed did so, section by section as `explain` has them
unfoldable pub reasons : RunAccount → Markup
reasons a = Both (heading (codes "Reasons for failure")) (reason_card a)
