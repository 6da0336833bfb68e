-- The words of lines, for people.
use Rattle.std.specs.Prelude.{ℕ, ◌==◌, List, codes, if◌then◌else◌}
use Rattle.line_script.specs.declared.kind.EventKind.{EventKind}
use Rattle.line_script.specs.declared.kind.EventKind.TheVariants as kinds
use Rattle.script_faults.specs.declared.form.WordKind.{WordKind}
use Rattle.script_faults.specs.declared.form.WordKind.TheVariants as words
use Rattle.script_faults.specs.declared.form.Form.{Form}
use Rattle.script_faults.specs.declared.form.Form.TheVariants.{Alone, One, Two, Three}
use Rattle.script_faults.specs.declared.wording.Shape.{Shape}
use Rattle.script_faults.specs.declared.wording.Shape.TheVariants.{Number, Digits, Pairs, Record}

-- a kind of line with its words
unfoldable pub form_text : EventKind → List ℕ
form_text kinds.Coordinator = codes "coordinator <eui> <key>"
form_text kinds.Meter = codes "meter <eui> <psk>"
form_text kinds.Depot = codes "depot <node>"
form_text kinds.Near = codes "near <node> <node> <cost>"
form_text kinds.Counter = codes "counter <node> <value>"
form_text kinds.Number = codes "number <node> <value>"
form_text kinds.Allow = codes "allow <node>"
form_text kinds.RandomOctets = codes "rand <node> <value>"
form_text kinds.Join = codes "join <node> <agent>"
form_text kinds.Leave = codes "leave <node>"
form_text kinds.Send = codes "send <node> <node> <hex>"
form_text kinds.Deliver = codes "deliver <flight> <node> <cost>"
form_text kinds.Inject = codes "inject <node> <cost> <hex>"
form_text kinds.Lose = codes "lose <flight>"
form_text kinds.Break = codes "break <node> <node>"
form_text kinds.Tick = codes "tick <seconds>"
form_text kinds.Restart = codes "restart <node>"
form_text kinds.Cut = codes "cut <node> <k> <old or new>"
form_text kinds.Rekey = codes "rekey <index> <key>"
form_text kinds.Challenge = codes "challenge <node>"
form_text kinds.Activate = codes "activate <node> <index>"
form_text kinds.Kick = codes "kick <node>"
form_text kinds.Show = codes "show <node>"
form_text kinds.Checks = codes "checks"
form_text kinds.Bcast = codes "bcast <node> <hex>"
form_text kinds.Scan = codes "scan <node>"
form_text kinds.Choose = codes "choose <node> <k>"
form_text kinds.Path = codes "path <node> <node>"

-- a node that a line names, by the place of its word
abbrev pub node_text : EventKind → ℕ → List ℕ
node_text kinds.Join place = if place == 2 then codes "the node number of the agent" else codes "a node number"
node_text _ place = codes "a node number"

-- a key that a line names
abbrev pub key_text : EventKind → List ℕ
key_text kinds.Meter = codes "a pair key of 32 hexadecimal digits"
key_text _ = codes "a key of 32 hexadecimal digits"

-- what a word is, where it is the one of this number after the first word of a line
abbrev pub wanted : EventKind → WordKind → ℕ → List ℕ
wanted line words.Node place = node_text line place
wanted line words.Key place = key_text line
wanted line words.Flight place = codes "a flight number"
wanted line words.Counter place = codes "a counter, 0 to 4294967295"
wanted line words.Own place = codes "an own number, 1 to 65535"
wanted line words.Cost place = codes "a cost from 1 to 255"
wanted line words.Index place = codes "a key index, 0 or 1"
wanted line words.Seconds place = codes "seconds from 1 to 86400"
wanted line words.Write place = codes "the number of a write, 1 to 1000"
wanted line words.Choice place = codes "the number of an agent, 1 to 16"
wanted line words.Eui place = codes "an EUI of 16 hexadecimal digits"
wanted line words.Random place = codes "a random value of 32 hexadecimal digits"
wanted line words.Octets place = codes "octets as pairs of hexadecimal digits"
wanted line words.Record place = codes "`old` or `new`"

-- how many words stand after the first
abbrev pub word_count : Form → ℕ
word_count Alone = 0
word_count (One _) = 1
word_count (Two _ _) = 2
word_count (Three _ _ _) = 3

-- the first words of the lines up to `lose`, in the order in which a script needs them, and those of the others
unfoldable pub first_words : List ℕ
first_words = codes "coordinator, meter, depot, near, counter, number, allow, rand, join, leave, send, deliver, inject, lose, "

unfoldable pub other_words : List ℕ
other_words = codes "break, tick, restart, cut, rekey, challenge, activate, kick, show, checks, bcast, scan, choose, path"

-- # Which octets a word may have

abbrev pub shape_of : WordKind → Shape
shape_of words.Node = Number 0 4294967295
shape_of words.Flight = Number 0 4294967295
shape_of words.Counter = Number 0 4294967295
shape_of words.Own = Number 1 65535
shape_of words.Cost = Number 1 255
shape_of words.Index = Number 0 1
shape_of words.Seconds = Number 1 86400
shape_of words.Write = Number 1 1000
shape_of words.Choice = Number 1 16
shape_of words.Eui = Digits 16
shape_of words.Key = Digits 32
shape_of words.Random = Digits 32
shape_of words.Octets = Pairs
shape_of words.Record = Record
