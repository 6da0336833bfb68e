-- A run of a line: what holds before each of its events, and what the event leaves, for any ciphers that keep their ranges.
use Rattle.std.proofs.Common.{◌≡◌, ℕ, ◌≤◌, ◌<◌, false, List, [], ◌∷◌, ◌++◌, length, drop, Ok, sym, subst}
use Rattle.std.specs.Prelude.{All}
use Rattle.std.proofs.lemmas.List.Elements.{All-nil, All-head, All-tail, All-weaker}
use Rattle.plc_base.specs.declared.key.Key.{Key}
use Rattle.node_rules.specs.Ciphers.{Ciphers}
use Rattle.line_events.specs.declared.event.TheConstants.{MAX_EVENTS}
use Rattle.line_events.specs.Events.{AreEvents, IsEvent}
use Rattle.line_rules.specs.Forgery.{AcceptsSealed}
use Rattle.line_rules.specs.Further.{line_step}
use Rattle.line_rules.specs.Laws.{GoesOn}
use Rattle.line_rules.specs.Logs.{LogsKept}
use Rattle.line_rules.specs.Nonces.{HasSender}
use Rattle.line_rules.specs.Runs.{Entry, IsRun, events_of, issued, IsLineRun}
use Rattle.line_rules.specs.Worlds.{World, Issued, start}
use Rattle.line_rules.proofs.StepsOn.{line_steps}
use Rattle.line_laws.specs.Keyed.{Keyed}
use Rattle.line_laws.specs.Laws.{FlightsAreOctets}
use Rattle.line_laws.specs.FurtherLines.{LogsHold, RisesIn, StepHolds}
use Rattle.line_laws.specs.LineAccounts.{BooksIn, BooksLater, FlightsEnd, SealedOnce, SendersIn}
use Rattle.line_laws.specs.Lines.{FlightFits, WorldOk}
use Rattle.line_laws.specs.Live.{MarksRise}
use Rattle.line_laws.specs.Owed.{KeepsRanges}
use Rattle.line_laws.specs.OwnKeys.{HasOwn, IsUnderOwnKey}
use Rattle.line_laws.proofs.FlightFolds.{new_addresses}
use Rattle.line_laws.proofs.FurtherGrowth.{line_books_grow}
use Rattle.line_laws.proofs.FurtherKeyed.{line_keyed}
use Rattle.line_laws.proofs.FurtherLive.{line_flights_fall, line_follow, line_nodes_accept_once}
use Rattle.line_laws.proofs.FurtherLogs.{line_logs_hold}
use Rattle.line_laws.proofs.FurtherSenders.{line_senders_right}
use Rattle.line_laws.proofs.FurtherSteps.{line_steps_hold}
use Rattle.line_laws.proofs.FurtherStepKinds.{line_steps_rise}
use Rattle.line_laws.proofs.IssueRuns.{EntryFlies, Kept, all_of_one, kept}
use Rattle.line_laws.proofs.MarkSteps.{Follows}
use Rattle.line_laws.proofs.EveryRun.{start_ok}

-- What holds of a world that was reached, forged or not.
pub record Stood (w : World) : Type 0 where
  pub ok : WorldOk w
  pub flown : All FlightFits w.flights
  pub logs : LogsKept w

pub start_stood : Stood start
start_stood = record { ok = start_ok; flown = All-nil FlightFits; logs = tt }

-- An event of a run that was taken, with what held before it and after it.
pub record Lawful (ciphers : Ciphers) (w : World) (x : Entry) : Type 0 where
  pub before : Stood w
  pub says : IsEvent x.event
  pub few : w.events < MAX_EVENTS
  pub step : line_step ciphers w x.event ≡ Ok (x.after, x.trace)
  pub after : Stood x.after
  pub flights : x.trace.happenings.flights ≤ 24

abbrev pub AreLawful : Ciphers → World → List Entry → Type 0
AreLawful ciphers w [] = Unit {0}
AreLawful ciphers w (x ∷ xs) = Lawful ciphers w x × AreLawful ciphers x.after xs

module _ (ciphers : Ciphers) (fits : KeepsRanges ciphers) where
  lawful_from : (w : World) → Stood w → (entries : List Entry) → AreEvents (events_of entries) → FlightsAreOctets entries → IsRun ciphers w entries
      → AreLawful ciphers w entries
  lawful_from w s [] says fly run = tt
  lawful_from w s (x ∷ xs) says fly run =
      let event = All-head IsEvent x.event (events_of xs) says in
      let held : StepHolds w (Ok (x.after, x.trace)) = subst (StepHolds w) run.2 (line_steps_hold ciphers fits w s.ok s.flown s.logs x.event event) in
      let logs : LogsHold (Ok (x.after, x.trace)) = subst LogsHold run.2 (line_logs_hold ciphers fits w s.ok s.flown s.logs x.event event) in
      let after : Stood x.after = record { ok = held.0.0; flown = All-head EntryFlies x xs fly; logs = logs } in (
        record { before = s; says = event; few = run.0; step = run.2; after = after; flights = held.0.1 },
        lawful_from x.after after xs (All-tail IsEvent x.event (events_of xs) says) (All-tail EntryFlies x xs fly) run.3,
      )

  pub lawful : (entries : List Entry) → IsLineRun ciphers entries → FlightsAreOctets entries → AreLawful ciphers start entries
  lawful entries r fly = lawful_from start start_stood entries r.events fly r.run

  -- # One event

  module _ (w : World) (x : Entry) (l : Lawful ciphers w x) where
    pub on : GoesOn w x.after
    on = line_steps ciphers w x.after x.event x.trace l.step

    pub own_at : All (HasOwn x.after) (drop (length w.flights) x.after.flights)
    own_at =
        let is : SendersIn w (Ok (x.after, x.trace)) =
        subst (SendersIn w) l.step (line_senders_right ciphers fits w l.before.ok l.before.flown l.before.logs x.event l.says) in
        is

    pub senders_at : All (HasSender x.after) (drop (length w.flights) x.after.flights)
    senders_at = new_addresses w x.after own_at

    pub keys_at : All (IsUnderOwnKey x.after) (drop (length w.flights) x.after.flights)
    keys_at = All-weaker (HasOwn x.after) (IsUnderOwnKey x.after) (λ f own. own.1) (drop (length w.flights) x.after.flights) own_at

    pub follows_at : Follows w x.after
    follows_at = line_follow ciphers fits w l.before.ok l.before.flown l.before.logs x l.says l.step

    pub rises_at : MarksRise w x.after
    rises_at =
        let is : RisesIn w (Ok (x.after, x.trace)) =
        subst (RisesIn w) l.step (line_steps_rise ciphers fits w l.before.ok l.before.flown l.before.logs x.event l.says) in
        is

    pub accepted_at : (octets : List ℕ) (key : Key) (a : AcceptsSealed ciphers w x.event octets key) → SealedOnce x.after a.number octets a.node
    accepted_at = line_nodes_accept_once ciphers fits w l.before.ok l.before.flown l.before.logs x l.says l.step

    module _ (given : List Issued) (k : Keyed w given) where
      pub keyed_on : x.trace.happenings.forged ≡ false → Keyed x.after (given ++ x.trace.issued)
      keyed_on honest = subst (Kept given) l.step
          (kept w given _ (line_keyed ciphers fits w l.before.ok l.before.flown given k l.before.logs x.event l.says)) honest

      pub books_on : 0 < length w.nodes → BooksLater k.book w x.after
      books_on =
          let is : BooksIn k.book w (Ok (x.after, x.trace)) =
          subst (BooksIn k.book w) l.step (line_books_grow ciphers fits w l.before.ok l.before.flown l.before.logs given k x.event l.says) in
          is

      pub ends_at : FlightsEnd ciphers w x
      ends_at = line_flights_fall ciphers fits w l.before.ok l.before.flown l.before.logs given k x l.says l.step

    pub keyed_at : (past : List Entry) → Keyed w (issued past) → x.trace.happenings.forged ≡ false → Keyed x.after (issued (past ++ x ∷ []))
    keyed_at past k honest = subst (Keyed x.after) (sym (all_of_one (λ d. d.issued) past x)) (keyed_on (issued past) k honest)
