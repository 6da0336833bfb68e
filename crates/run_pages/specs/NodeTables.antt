-- The table of the nodes of a run: what each is at the end, and what is counted of it.
use Rattle.std.specs.Prelude.{ℕ, ◌+◌, ◌-◌, ◌||◌, nat_lt, Bool, true, false, List, [], ◌∷◌, codes, is_some, length, min, position, replicate, slice_get}
use Rattle.std.specs.Prelude.{Option, None, Some, if◌then◌else◌}
use Rattle.std.specs.Fmt.{decimal}
use Rattle.hex.specs.Hex.{encode_lower}
use Rattle.frame_facts.specs.Words.{short_word}
use Rattle.plc_base.specs.declared.address.Eui.{Eui}
use Rattle.markup.specs.declared.names.Element.TheVariants as E
use Rattle.markup.specs.declared.names.Attribute.TheVariants as A
use Rattle.markup.specs.Markups.{Markup, Nothing, Words, Inside, Both, with_text}
use Rattle.markup.specs.Parts.{heading}
use Rattle.line_record.specs.declared.kind.StoryKind.TheVariants as kinds
use Rattle.line_record.specs.declared.story.Story.{Story}
use Rattle.line_record.specs.Verdicts.{is_good}
use Rattle.line_record.specs.declared.mode.Mode.{Mode}
use Rattle.line_record.specs.declared.mode.Mode.TheVariants as modes
use Rattle.line_record.specs.declared.past.Change.{Change}
use Rattle.line_record.specs.Pasts.{NodePast, changes_at}
use Rattle.run_charts.specs.Runs.{Run}
use Rattle.run_pages.specs.Counts.{is_kind, is_yes}
use Rattle.run_pages.specs.NodeCounts.{addresses_added, datagram_added, events_added, no_count}
use Rattle.run_pages.specs.declared.node_counts.NodeCount.{NodeCount}
use Rattle.story_accounts.specs.Accounts.{RunAccount, verdict_at}

-- # What is counted

-- of addresses and events
abbrev pub counts_before : RunAccount → List NodeCount
counts_before a = events_added a.events (addresses_added 0 a.homes (replicate (length a.euis) no_count))

-- with the story of a number, where it is about a datagram
abbrev pub story_added : RunAccount → ℕ → Story → List NodeCount → List NodeCount
story_added a number it counts =
    if is_kind it.kind kinds.Datagram then datagram_added it.person (is_yes (is_good (verdict_at a number))) counts else counts

-- with the stories from this place on
abbrev pub stories_added : RunAccount → ℕ → List Story → List NodeCount → List NodeCount
stories_added a place [] counts = counts
stories_added a place (it ∷ stories) counts = stories_added a (place + 1) stories (story_added a (place + 1) it counts)

abbrev pub node_counts : RunAccount → List NodeCount
node_counts a = stories_added a 0 a.stories (counts_before a)

abbrev pub count_or_none : Option NodeCount → NodeCount
count_or_none None = no_count
count_or_none (Some c) = c

-- # What a node is at the end

abbrev pub is_joined : Mode → Bool
is_joined modes.Key0 = true
is_joined modes.Key1 = true
is_joined modes.Out = false
is_joined modes.Halted = false

abbrev pub joins : Change → Bool
joins change = is_joined change.mode

-- whether it was ever joined
abbrev pub was_joined : List Change → Bool
was_joined changes = is_some (position joins changes)

abbrev pub out_words : Bool → List ℕ
out_words true = codes "not joined any more"
out_words false = codes "never joined"

abbrev pub mode_words : Mode → Bool → List ℕ
mode_words modes.Out joined = out_words joined
mode_words modes.Key0 joined = codes "joined, key 0"
mode_words modes.Key1 joined = codes "joined, key 1"
mode_words modes.Halted joined = codes "halted"

abbrev pub end_by : Option Change → List Change → List ℕ
end_by None changes = []
end_by (Some change) changes = mode_words change.mode (was_joined changes)

abbrev pub end_words : List Change → List ℕ
end_words changes = end_by (slice_get changes (length changes - 1)) changes

-- # Rows

unfoldable pub text_cell : List ℕ → Markup
text_cell words = Inside E.Cell [] (Words words)

unfoldable pub number_cell : ℕ → Markup
number_cell number = Inside E.Cell [] (Words (decimal number))

unfoldable pub head_cell : List ℕ → Markup
head_cell words = Inside E.HeadCell [] (Words words)

-- a short address in hexadecimal, as reports have it; the greatest of two octets for one that would have more
abbrev pub short_cell : ℕ → Markup
short_cell address = text_cell (short_word (min address 65535))

abbrev pub address_cell : Option ℕ → Markup
address_cell None = text_cell []
address_cell (Some address) = short_cell address

abbrev pub eui_cell : Eui → Markup
eui_cell eui = text_cell (encode_lower eui.0)

-- who it is
unfoldable pub who_cells : ℕ → Eui → List Change → Option ℕ → Markup
who_cells node eui changes address =
    Both (number_cell node) (Both (address_cell address) (Both (eui_cell eui) (text_cell (end_words changes))))

-- what is counted of it
unfoldable pub count_cells : NodeCount → Markup
count_cells c = Both (number_cell c.datagrams) (Both (number_cell c.came) (Both (number_cell c.refusals) (number_cell c.forged)))

-- whether somebody should look at a node: it never joined, a datagram of it did not come, or an event of it is forged
abbrev pub is_amiss : Bool → NodeCount → Bool
is_amiss joined c = if joined then (nat_lt c.came c.datagrams || nat_lt 0 c.forged) else true

abbrev pub row_class : Bool → List ℕ
row_class true = codes "b"
row_class false = codes "g"

unfoldable pub row : ℕ → Eui → List Change → NodeCount → Markup
row node eui changes c =
    Inside E.Row (with_text A.Class (row_class (is_amiss (was_joined changes) c)) ∷ []) (Both (who_cells node eui changes c.address) (count_cells c))

abbrev pub row_of : List NodePast → List NodeCount → ℕ → Eui → Markup
row_of pasts counts node eui = row node eui (changes_at pasts node) (count_or_none (slice_get counts node))

-- those of the nodes from this one on
abbrev pub rows : List NodePast → List NodeCount → ℕ → List Eui → Markup
rows pasts counts node [] = Nothing
rows pasts counts node (eui ∷ euis) = Both (row_of pasts counts node eui) (rows pasts counts (node + 1) euis)

-- # The table

unfoldable pub who_heads : Markup
who_heads =
    Both (head_cell (codes "node"))
    (Both (head_cell (codes "address")) (Both (head_cell (codes "EUI-64")) (head_cell (codes "at the end"))))

unfoldable pub count_heads : Markup
count_heads =
    Both (head_cell (codes "datagrams"))
    (Both (head_cell (codes "came")) (Both (head_cell (codes "refusals")) (head_cell (codes "forged"))))

unfoldable pub head_row : Markup
head_row = Inside E.Row [] (Both who_heads count_heads)

unfoldable pub table : List NodePast → List NodeCount → List Eui → Markup
table pasts counts euis = Inside E.Table [] (Both head_row (rows pasts counts 0 euis))

unfoldable pub table_card : List NodePast → List NodeCount → List Eui → Markup
table_card pasts counts euis = Inside E.Division (with_text A.Class (codes "card high") ∷ []) (table pasts counts euis)

-- the nodes of a run
unfoldable pub nodes_table : RunAccount → Run → Markup
nodes_table a run = Both (heading (codes "The nodes")) (table_card run.pasts (node_counts a) a.euis)
