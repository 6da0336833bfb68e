-- The facts of what happened.
use Rattle.std.specs.Prelude.{ℕ, Option, Some, None}
use Rattle.line_events.specs.declared.happenings.Admission.{Admission}
use Rattle.line_events.specs.declared.happenings.Handed.{Handed}
use Rattle.line_events.specs.declared.happenings.Happenings.{Happenings}
use Rattle.line_owner.specs.declared.messages.Message.{Message}
use Rattle.line_owner.specs.Messages.{message_in}
use Rattle.line_simulation.specs.declared.facts.Came.{Came}
use Rattle.line_simulation.specs.declared.facts.Facts.{Facts}
use Rattle.line_simulation.specs.declared.facts.Granted.{Granted}

abbrev pub came_at : ℕ → Option Message → Option Came
came_at node None = None
came_at node (Some message) = Some (record { node = node; message = message })

-- a datagram that came up, where it is a message of the owner's
abbrev pub came_in : Option Handed → Option Came
came_in None = None
came_in (Some up) = came_at up.node (message_in up.octets)

abbrev pub granted_in : Option Admission → Option Granted
granted_in None = None
granted_in (Some a) = Some (record { node = a.node; address = a.address })

-- what an event brought, as far as a simulation looks at it
abbrev pub facts_of : Happenings → Facts
facts_of h =
    record {
      answer = h.answer;
      came = came_in h.up;
      granted = granted_in h.grant;
      took = h.took;
      done = h.done;
      first_flight = h.first_flight;
      flights = h.flights;
    }
