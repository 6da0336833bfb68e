-- What is kept of a node beside what it shows.
use Rattle.std.specs.Prelude.{ℕ, ◌==◌, Bool, true, false, nat_lt, List, [], if◌then◌else◌}
use Rattle.std.specs.Ordering.{nat_cmp}
use Rattle.std.specs.Option.{unwrap_or}
use Rattle.std.specs.BTreeMap.{insert_entry, is_at}
use Rattle.std.specs.Map.{lookup}
use Rattle.line_record.specs.declared.act.Act.{Act}
use Rattle.line_record.specs.declared.act.Act.TheVariants as acts
use Rattle.line_record.specs.declared.recorded.RecordedEvent.{RecordedEvent}
use Rattle.line_record.specs.Kinds.{takes_counter}
use Rattle.node_rules.specs.declared.shown.ShownRoute.{ShownRoute}
use Rattle.event_sentences.specs.declared.watch.Coming.{Coming}
use Rattle.event_sentences.specs.RouteEnds.{Routes, no_routes, routes_after}

-- # Comings

abbrev pub never_came : Coming
never_came = record { first = 0; taken = 0 }

-- how a flight came to a node, by its number
abbrev pub coming_of : ℕ → List (ℕ × Coming) → Coming
coming_of flight comings = unwrap_or (lookup (is_at (nat_cmp flight)) comings) never_came

-- how a flight came that comes once more
abbrev pub come_again : ℕ → Bool → Coming → Coming
come_again event taken old =
    record { first = if old.first == 0 then event else old.first; taken = if taken then event else old.taken }

abbrev pub comings_with : ℕ → ℕ → Bool → List (ℕ × Coming) → List (ℕ × Coming)
comings_with flight event taken comings = insert_entry nat_cmp comings flight (come_again event taken (coming_of flight comings))

-- # A node

pub record Watched : Type 0 where
  pub routes : Routes
  pub comings : List (ℕ × Coming)
  -- the event at which it restarted last, 0 where it never did
  pub restarted : ℕ

abbrev pub unwatched : Watched
unwatched = record { routes = no_routes; comings = []; restarted = 0 }

-- after an event, as its routes are shown then
abbrev pub looked : ℕ → List ShownRoute → Watched → Watched
looked event shown watched = record watched { routes = routes_after event shown watched.routes }

abbrev pub is_restart : Act → Bool
is_restart (acts.Restart node) = true
is_restart _ = false

-- after an event of the node: a flight came to it, by a delivery or by its octets, or it restarted
abbrev pub noted : RecordedEvent → ℕ → Watched → Watched
noted e event watched =
    if nat_lt 0 e.came then record watched { comings = comings_with e.came event (takes_counter e.answer) watched.comings }
    else (if is_restart e.act then record watched { restarted = event } else watched)
