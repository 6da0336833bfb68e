-- The history of a world goes on by each event that is taken.
use Rattle.std.proofs.Common.{◌≡◌, ◌+◌, ◌<◌, List, [], ◌∷◌, ◌++◌, Ok, refl, sym, subst}
use Rattle.std.specs.Prelude.{All}
use Rattle.std.proofs.lemmas.List.Elements.{All-nil, All-cons, All-head, All-tail}
use Rattle.line_events.specs.declared.event.TheConstants.{MAX_EVENTS}
use Rattle.line_events.specs.Events.{IsEvent, AreEvents}
use Rattle.node_rules.specs.Ciphers.{Ciphers, network}
use Rattle.line_rules.specs.Worlds.{World, start}
use Rattle.line_rules.specs.Further.{line_step}
use Rattle.line_rules.specs.Runs.{Entry, IsRun, last_world, events_of, TheStartIsReached, HistoriesGoOn}

pub start_reached : TheStartIsReached
start_reached = record { run = record { events = All-nil IsEvent; run = tt }; ends = refl }

-- what an entry has to be, so that it follows a world
record Follows (ciphers : Ciphers) (w : World) (x : Entry) : Type 0 where
  few : w.events < MAX_EVENTS
  number : x.number ≡ w.events + 1
  step : line_step ciphers w x.event ≡ Ok (x.after, x.trace)

run_on : (ciphers : Ciphers) (entries : List Entry) (w : World) (x : Entry) → IsRun ciphers w entries → Follows ciphers (last_world w entries) x
    → IsRun ciphers w (entries ++ x ∷ [])
run_on ciphers [] w x run f = (f.few, f.number, f.step, tt)
run_on ciphers (y ∷ ys) w x run f = (run.0, run.1, run.2, run_on ciphers ys y.after x run.3 f)

last_on : (entries : List Entry) (w : World) (x : Entry) → last_world w (entries ++ x ∷ []) ≡ x.after
last_on [] w x = refl
last_on (y ∷ ys) w x = last_on ys y.after x

events_on : (entries : List Entry) (x : Entry) → AreEvents (events_of entries) → IsEvent x.event → AreEvents (events_of (entries ++ x ∷ []))
events_on [] x all is = All-cons IsEvent x.event [] is (All-nil IsEvent)
events_on (y ∷ ys) x all is =
    All-cons IsEvent y.event (events_of (ys ++ x ∷ [])) (All-head IsEvent y.event (events_of ys) all)
    (events_on ys x (All-tail IsEvent y.event (events_of ys) all) is)

pub goes_on : HistoriesGoOn
goes_on entries w v event trace history few is step =
    let x : Entry = record { number = w.events + 1; event = event; trace = trace; after = v } in
    let follows : Follows network w x = record { few = few; number = refl; step = step } in
    record {
      run = record {
        events = events_on entries x history.run.events is;
        run = run_on network entries start x history.run.run (subst (λ u. Follows network u x) (sym history.ends) follows);
      };
      ends = last_on entries start x;
    }
