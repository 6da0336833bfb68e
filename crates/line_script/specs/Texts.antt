-- The texts of a report.
use Rattle.std.specs.Prelude.{ℕ, Bool, List, [], ◌∷◌, ◌++◌, codes, Option, None, Some, if◌then◌else◌}
use Rattle.std.specs.Fmt.{decimal}
use Rattle.hex.specs.Hex.{encode_lower}
use Rattle.node_rules.specs.declared.shown.Shown.{Shown}
use Rattle.line_events.specs.declared.event.Event.{Event}
use Rattle.line_events.specs.declared.event.Event.TheVariants.{Show}
use Rattle.line_events.specs.declared.event.Answer.{Answer}
use Rattle.line_events.specs.declared.happenings.Handed.{Handed}
use Rattle.line_events.specs.declared.happenings.BroadcastUp.{BroadcastUp}
use Rattle.line_events.specs.declared.happenings.AgentLine.{AgentLine}
use Rattle.line_events.specs.declared.happenings.PathLine.{PathLine}
use Rattle.line_events.specs.declared.happenings.Admission.{Admission}
use Rattle.line_events.specs.declared.happenings.Happenings.{Happenings}
use Rattle.line_script.specs.declared.report.Reason.{Reason}
use Rattle.line_script.specs.declared.report.Reason.TheVariants as reasons
use Rattle.line_script.specs.declared.report.Totals.{Totals}
use Rattle.line_script.specs.AnswerWords.{answer_word, verdict_word}
use Rattle.line_script.specs.NodeTexts.{short_word, node_text}

-- # The lines of an event

-- <event> ok <word>, or <event> no <refusal>
unfoldable pub answer_text : ℕ → Answer → List ℕ
answer_text number answer =
    decimal number ++ (codes " " ++ (verdict_word answer ++ (codes " " ++ (answer_word answer ++ codes "\n"))))

-- forged <event>
unfoldable pub forged_text : ℕ → Bool → List ℕ
forged_text number forged = if forged then codes "forged " ++ (decimal number ++ codes "\n") else []

-- up <node> <send> <hex>
unfoldable pub up_text : Option Handed → List ℕ
up_text None = []
up_text (Some up) =
    codes "up " ++ (decimal up.node
    ++ (codes " " ++ (decimal up.note ++ (codes " " ++ (encode_lower up.octets ++ codes "\n")))))

-- bup <node> <origin> <number> <hex>
unfoldable pub bup_text : Option BroadcastUp → List ℕ
bup_text None = []
bup_text (Some up) =
    codes "bup " ++ (decimal up.node
    ++ (codes " " ++ (short_word up.origin
    ++ (codes " " ++ (decimal up.number ++ (codes " " ++ (encode_lower up.octets ++ codes "\n")))))))

-- agent <n> <address> <total>
unfoldable pub agent_text : Option AgentLine → List ℕ
agent_text None = []
agent_text (Some agent) =
    codes "agent " ++ (decimal agent.node
    ++ (codes " " ++ (short_word agent.address ++ (codes " " ++ (decimal agent.total ++ codes "\n")))))

-- the addresses of a way, each after a space
abbrev pub walk_text : List ℕ → List ℕ
walk_text [] = []
walk_text (address ∷ walk) = codes " " ++ (short_word address ++ walk_text walk)

-- path <node> <address> ..
unfoldable pub path_text : Option PathLine → List ℕ
path_text None = []
path_text (Some path) = codes "path " ++ (decimal path.node ++ (walk_text path.walk ++ codes "\n"))

-- the broadcast that was handed up, the agent that was chosen, the answer to a path request
unfoldable pub further_text : Happenings → List ℕ
further_text happenings = bup_text happenings.bup ++ (agent_text happenings.agent ++ path_text happenings.path)

-- grant <n> <address>
unfoldable pub grant_text : Option Admission → List ℕ
grant_text None = []
grant_text (Some grant) =
    codes "grant " ++ (decimal grant.node ++ (codes " " ++ (short_word grant.address ++ codes "\n")))

-- took <n>
unfoldable pub took_text : Option ℕ → List ℕ
took_text None = []
took_text (Some node) = codes "took " ++ (decimal node ++ codes "\n")

-- done <n>
unfoldable pub done_text : Option ℕ → List ℕ
done_text None = []
done_text (Some node) = codes "done " ++ (decimal node ++ codes "\n")

-- the lines of the node that an event shows
unfoldable pub shown_text : Event → Option Shown → List ℕ
shown_text (Show node) (Some shown) = node_text node shown
shown_text _ _ = []

-- who was allowed, took a grant, is done, and is shown
unfoldable pub details_text : Event → Happenings → List ℕ
details_text event happenings =
    grant_text happenings.grant
    ++ (took_text happenings.took ++ (done_text happenings.done ++ shown_text event happenings.shown))

-- the lines of an event, by its number, without those of its flights
unfoldable pub happened_text : ℕ → Event → Happenings → List ℕ
happened_text number event happenings =
    answer_text number happenings.answer
    ++ (forged_text number happenings.forged
    ++ (up_text happenings.up ++ (further_text happenings ++ details_text event happenings)))

-- fly <flight> <node> <hex>
unfoldable pub fly_text : ℕ → ℕ → List ℕ → List ℕ
fly_text number node octets =
    codes "fly " ++ (decimal number
    ++ (codes " " ++ (decimal node ++ (codes " " ++ (encode_lower octets ++ codes "\n")))))

-- # The last line

abbrev pub reason_word : Reason → List ℕ
reason_word reasons.Input = codes "input"
reason_word reasons.Long = codes "long"
reason_word reasons.Form = codes "form"
reason_word reasons.Events = codes "events"
reason_word reasons.Setup = codes "setup"
reason_word reasons.Node = codes "node"
reason_word reasons.Flight = codes "flight"

-- bad <line> <reason>
unfoldable pub bad_text : ℕ → Reason → List ℕ
bad_text number reason = codes "bad " ++ (decimal number ++ (codes " " ++ (reason_word reason ++ codes "\n")))

-- end <events> <flights> <sends> <ups> <forged>
unfoldable pub end_text : Totals → List ℕ
end_text totals =
    codes "end " ++ (decimal totals.events
    ++ (codes " " ++ (decimal totals.flights ++ (codes " " ++ (decimal totals.sends ++ (codes " "
    ++ (decimal totals.ups ++ (codes " " ++ (decimal totals.forged ++ codes "\n")))))))))
