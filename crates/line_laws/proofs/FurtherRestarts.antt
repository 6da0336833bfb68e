-- Restarts and kicks of a line with further reach are those of a line without, and its nodes keep within their sizes.
use Rattle.std.proofs.Common.{◌≡◌, ℕ, Bool, true, false, List, [], ◌∷◌, Option, Some, None, Result, Ok, Err, refl, sym, ◌∙◌, subst}
use Rattle.std.specs.Prelude.{All, if◌then◌else◌}
use Rattle.std.specs.Option.{option_map_or}
use Rattle.std.proofs.lemmas.List.Elements.{All-nil, All-cons, All-head, All-tail}
use Rattle.std.proofs.lemmas.Option.{same_Some}
use Rattle.plc_base.specs.declared.keeper.BadStore.{BadStore}
use Rattle.node_rules.specs.Ciphers.{Ciphers, network}
use Rattle.node_rules.specs.Memory.{Node, node_route}
use Rattle.reach_rules.specs.ReachingNodes.{Beside, restarted}
use Rattle.line_events.specs.declared.event.Answer.TheVariants as answers
use Rattle.line_events.specs.declared.event.Event.{Event}
use Rattle.line_events.specs.declared.event.Event.TheVariants as events
use Rattle.line_events.specs.declared.event.StepFault.TheVariants as faults
use Rattle.line_events.specs.Events.{AreEvents, IsEvent}
use Rattle.line_rules.specs.Further.{line_step, restarts_by, restarts_further}
use Rattle.line_rules.specs.Logs.{LogsKept}
use Rattle.line_rules.specs.Runs.{Entry, IsRun, events_of}
use Rattle.line_rules.specs.SafeRuns.{is_restart}
use Rattle.line_rules.specs.Steps.{Step, has_begun, running_world, restarts}
use Rattle.line_rules.specs.Worlds.{World, node_at, start}
use Rattle.line_laws.specs.FurtherLines.{LogsHold, StepHolds}
use Rattle.line_laws.specs.Laws.{EveryNetworkRunIsSized}
use Rattle.line_laws.specs.LineAccounts.{LineKicksShut, LineRestartsAreRight, RestartIn}
use Rattle.line_laws.specs.Lines.{NodeOk, WorldOk}
use Rattle.line_laws.proofs.FurtherLogs.{line_logs_hold}
use Rattle.line_laws.proofs.FurtherOctets.{Octets, Spelled, line_speaks, octets_speak}
use Rattle.line_laws.proofs.FurtherSteps.{line_steps_hold, restarts_read}
use Rattle.line_laws.proofs.FurtherStepKinds.{line_step_is}
use Rattle.line_laws.proofs.IssueWorlds.{after_here}
use Rattle.line_laws.proofs.NetworkSizes.{EntrySized, world_within}
use Rattle.line_laws.proofs.OctetRuns.{SpeaksIn, WorldSpeaks, start_speaks}
use Rattle.line_laws.proofs.StorableGrants.{network_ranges}
use Rattle.line_laws.proofs.RestartRoutes.{no_routes}
use Rattle.line_laws.proofs.EveryRun.{restart_answers, start_ok}
use Rattle.line_laws.proofs.ShutSteps.{kicked_out}
use Rattle.line_laws.proofs.Worlds.{at_place}

-- # Restarts

abbrev pub AnsweredIn : Step → Type 0
AnsweredIn (Ok r) = r.1.happenings.answer ≡ answers.Restarted
AnsweredIn (Err fault) = Unit {0}

answered_in : (number : ℕ) (s : Step) → RestartIn number s → AnsweredIn s
answered_in number (Ok r) h = h.0
answered_in number (Err fault) h = tt

module _ (ciphers : Ciphers) (w : World) (ok : WorldOk w) (logs : LogsKept w) where
  restarts_right : (number : ℕ) (x : Node) → node_at w number ≡ Some x → (o : Result Beside BadStore) → restarted x.store.records ≡ o
      → RestartIn number (Ok (restarts_by ciphers w number x o))
  restarts_right number x there (Err bad) e = absurd (restarts_read ciphers w logs number x there bad e)
  restarts_right number x there (Ok b) e =
      let good = at_place NodeOk w.nodes number x there ok.nodes in (
        restart_answers x good,
        λ y is dest.
            let same : (restarts x).node ≡ y = same_Some _ _ (sym (after_here ciphers (running_world w) number x (restarts x) there) ∙ is) in
            subst (λ (z : Node). node_route z dest ≡ None) same (no_routes x good dest),
      )

  restart_right : (number : ℕ) → RestartIn number (restarts_further ciphers w number)
  unfolding restarts_further
  restart_right number = by_begun (has_begun w) (node_at w number) refl
    where
      by_begun : (b : Bool) (o : Option Node) → node_at w number ≡ o
          → RestartIn number (if b then option_map_or (λ x. Ok (restarts_by ciphers w number x (restarted x.store.records))) o
          (Err faults.Node) else Err faults.Setup)
      by_begun false o e = tt
      by_begun true None e = tt
      by_begun true (Some x) e = restarts_right number x e (restarted x.store.records) refl

-- by the kind of the event
pub line_answered : (ciphers : Ciphers) (w : World) → WorldOk w → LogsKept w → (event : Event) → is_restart event ≡ true
    → AnsweredIn (line_step ciphers w event)
line_answered ciphers w ok logs (events.Restart number) e = answered_in number (restarts_further ciphers w number) (restart_right ciphers w ok logs number)
line_answered ciphers w ok logs _ e = absurd (cc (e))

pub line_restarts_right : LineRestartsAreRight
line_restarts_right ciphers fits w ok flown logs number = restart_right ciphers w ok logs number

-- # Kicks

pub line_kicks_shut : LineKicksShut
line_kicks_shut ciphers w ok number v t e kicked okv = kicked_out ciphers w ok number v t e kicked okv

-- # Sizes

sizes_hold : (w : World) → WorldOk w → WorldSpeaks w → LogsKept w → (entries : List Entry) → AreEvents (events_of entries) → IsRun network w entries
    → All EntrySized entries
sizes_hold w ok s logs [] says run = All-nil EntrySized
sizes_hold w ok s logs (x ∷ xs) says run =
    let event = All-head IsEvent x.event (events_of xs) says in
    let held = subst (StepHolds w) run.2 (line_steps_hold network network_ranges w ok s.flights logs x.event event) in
    let kept = subst LogsHold run.2 (line_logs_hold network network_ranges w ok s.flights logs x.event event) in
    let next : WorldSpeaks x.after = subst (SpeaksIn w ok s) run.2
    (line_speaks w ok s logs x.event (line_step network w x.event)
    (line_step_is Octets Spelled network network_ranges w ok s.flights logs (octets_speak w ok s logs) x.event event)) in
    All-cons EntrySized x xs (world_within x.after held.0.0 next, held.0.1)
    (sizes_hold x.after held.0.0 next kept xs (All-tail IsEvent x.event (events_of xs) says) run.3)

pub every_size : EveryNetworkRunIsSized
every_size entries r = sizes_hold start start_ok start_speaks tt entries r.events r.run
