-- What is said of a fault.
use Rattle.std.specs.Prelude.{List, ◌++◌, ℕ, codes, decimal, string_bytes}
use Rattle.plan_tables.specs.declared.keys.Key.{Key}
use Rattle.plan_tables.specs.declared.keys.Key.TheVariants as keys
use Rattle.plan_tables.specs.declared.fault.Wanted.{Wanted}
use Rattle.plan_tables.specs.declared.fault.Wanted.TheVariants as wanted
use Rattle.plan_tables.specs.declared.fault.WrongValue.{WrongValue}
use Rattle.plan_tables.specs.declared.fault.Meant.{Meant}
use Rattle.plan_tables.specs.declared.fault.Meant.TheVariants.{Here, There, Nothing}
use Rattle.plan_tables.specs.declared.fault.UnknownKey.{UnknownKey}
use Rattle.plan_tables.specs.declared.fault.Cause.{Cause}
use Rattle.plan_tables.specs.declared.fault.Cause.TheVariants.{Syntax, Unknown, Wrong}
use Rattle.plan_tables.specs.declared.fault.TextPlace.{TextPlace}
use Rattle.plan_tables.specs.declared.fault.PlanFault.{PlanFault}
use Rattle.plan_tables.specs.declared.fault.PlanFault.TheVariants.{At, Memory}
use Rattle.plan_tables.specs.Keys.{key_word, set_word}

-- the words that a key may have
abbrev pub words_of : Key → List ℕ
words_of keys.Kind = codes "\"street\", \"grid\", \"tower\", \"scatter\" or \"matrix\""
words_of keys.Coordinator = codes "\"end\" or \"middle\""
words_of keys.Rate = codes "\"robo\", \"dbpsk\", \"dqpsk\" or \"d8psk\""
words_of keys.How = codes "\"air\" or \"depot\""
words_of keys.Way = codes "\"push\" or \"poll\""
words_of keys.Order = codes "\"coordinator last\", \"coordinator first\" or \"meter by meter\""
words_of keys.Leaves = codes "\"old\" or \"new\""
words_of _ = codes "\"power\", \"torn\", \"noise\", \"link\", \"kick\", \"rekey\", \"replay\", \"delay\" or \"false_joins\""

-- what fits a key
abbrev pub wanted_text : Key → Wanted → List ℕ
wanted_text key wanted.Table = codes "a table"
wanted_text key wanted.Tables = codes "tables [[at]]"
wanted_text key wanted.Time = codes "a time of at most 400 days, as 90, \"90s\", \"5m\", \"2h\", \"1d\" or \"06:30\""
wanted_text key wanted.Chance = codes "per cent from 0 to 100 with at most two decimals"
wanted_text key wanted.Flag = codes "true or false"
wanted_text key wanted.Word = words_of key
wanted_text key (wanted.UpTo most) = codes "a number up to " ++ decimal most
wanted_text key (wanted.FromOneTo most) = codes "a number from 1 to " ++ decimal most
wanted_text key wanted.Flats = codes "such that there are at most 998 flats in all"
wanted_text key wanted.Cost = codes "a number from 1 to 255, or \"by loss\""
wanted_text key wanted.Links = codes "a list of [from, to, loss] or [from, to, loss, cost], ascending by from and to, with nodes up to 998"
wanted_text key wanted.Line = codes "one line of at most 200 octets, without control characters"
wanted_text key wanted.Nodes = codes "a list of nodes of the line"
wanted_text key wanted.Meters = codes "a list of meters of the line"
wanted_text key wanted.NoNode = codes "left out where nodes are listed"
wanted_text key wanted.TwoNodes = codes "a list of two different nodes"
wanted_text key wanted.Linked = codes "a list of two nodes of which one hears the other"

abbrev pub wrong_text : WrongValue → List ℕ
wrong_text wrong = codes "the value of " ++ key_word wrong.key ++ codes " has to be " ++ wanted_text wrong.key wrong.wanted

-- which key may be meant
abbrev pub meant_text : Meant → List ℕ
meant_text (Here key) = codes "; did you mean `" ++ key_word key ++ codes "`?"
meant_text (There set key) = codes "; did you mean `" ++ key_word key ++ codes "` " ++ set_word set ++ codes "?"
meant_text Nothing = codes ""

abbrev pub unknown_text : UnknownKey → List ℕ
unknown_text unknown =
    codes "no key " ++ set_word unknown.known ++ codes " is called `" ++ string_bytes unknown.shown ++ codes "`" ++ meant_text unknown.meant

-- what is wrong: a key with one that may be meant, or a value with what would fit; that a text is no TOML is said in a reader's words
abbrev pub cause_text : Cause → List ℕ
cause_text (Syntax message) = string_bytes message
cause_text (Unknown unknown) = unknown_text unknown
cause_text (Wrong wrong) = wrong_text wrong

abbrev pub place_text : TextPlace → List ℕ
place_text place = codes "line " ++ decimal place.line ++ codes ", column " ++ decimal place.column

abbrev pub fault_text : PlanFault → List ℕ
fault_text (At place cause) = place_text place ++ codes ": " ++ cause_text cause
fault_text Memory = codes "out of memory"
