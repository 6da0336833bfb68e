-- The laws of runs, forged or not, each by induction over a run.
use Rattle.std.proofs.Common.{◌≡◌, ℕ, ◌≤◌, ◌<◌, true, List, [], ◌∷◌, ◌++◌, length, append-nil, Option, Some, None, Ok, refl, sym, subst}
use Rattle.std.specs.Prelude.{All, AllPairs, IfSome, IsOk}
use Rattle.std.proofs.lemmas.List.{append_assoc}
use Rattle.std.proofs.lemmas.List.Elements.{All-append, All-cons, All-head, All-nil, All-push, All-tail, All-weaker}
use Rattle.node_rules.specs.Ciphers.{Ciphers, network}
use Rattle.node_rules.specs.Memory.{Memory, Node, node_route}
use Rattle.line_events.specs.declared.event.Answer.TheVariants as answers
use Rattle.line_events.specs.declared.event.Event.{Event}
use Rattle.line_events.specs.declared.event.Event.TheVariants as events
use Rattle.line_events.specs.Events.{AreEvents, IsEvent}
use Rattle.line_rules.specs.Further.{line_step}
use Rattle.line_rules.specs.Forgery.{IsForgedRight}
use Rattle.line_rules.specs.Nonces as nonces
use Rattle.line_rules.specs.Nonces.{AreAddressed, AreSpelled, IsSpelled}
use Rattle.line_rules.specs.Runs.{Entry, IsRun, events_of, one_of, sends as sends_of, IsLineRun}
use Rattle.line_rules.specs.SafeRuns.{IsAlwaysSizedBy, IsSizedBy, RestartsAreAnswered, is_restart}
use Rattle.line_rules.specs.Traces.{AreTracedRight, CountsRight, IsSendOf}
use Rattle.line_rules.specs.Worlds.{World, Sending, node_at, start}
use Rattle.line_laws.specs.FurtherLines.{FlightsSpelled}
use Rattle.line_laws.specs.Laws.{EveryCountIsRight, EveryCounterRises, EveryFlightIsSpelled, EveryForgeryIsReported, EveryRestartIsAnswered}
use Rattle.line_laws.specs.Laws.{EveryRunIsSized, EverySenderIsRight, EveryStoreIsReadable, EveryTraceIsRight, HasReading, StoresAreReadable}
use Rattle.line_laws.specs.Lines.{Left, NodeOk}
use Rattle.line_laws.specs.LineAccounts.{IsLineRight, RestartIn, TagsIn}
use Rattle.line_laws.specs.Live.{EveryMarkRises, MarksAlwaysRise}
use Rattle.line_laws.specs.Loops.{EveryRestartEndsRoutes, RestartsEndRoutes}
use Rattle.line_laws.specs.Owed.{KeepsRanges}
use Rattle.line_laws.specs.OwnKeys.{AreUnderOwnKeys, EveryKeyIsOwn}
use Rattle.line_laws.specs.Sizes.{IsAnyLoad}
use Rattle.line_laws.specs.Stores.{IsKept}
use Rattle.line_laws.specs.Tags.{EverySendHasOctets, EveryTagRises, TagRises, TagsOk}
use Rattle.line_laws.proofs.FurtherOctets.{every_flight}
use Rattle.line_laws.proofs.FurtherRanges.{line_steps_spell}
use Rattle.line_laws.proofs.FurtherRestarts.{AnsweredIn, line_answered, line_restarts_right}
use Rattle.line_laws.proofs.FurtherRight.{line_traces_right}
use Rattle.line_laws.proofs.FurtherTags.{line_tags_rise}
use Rattle.line_laws.proofs.IssueRuns.{all_of_one}
use Rattle.line_laws.proofs.LineRuns.{AreLawful, keys_at, lawful, rises_at, senders_at}
use Rattle.line_laws.proofs.StorableGrants.{network_ranges}
use Rattle.line_laws.proofs.Restarts.{again}
use Rattle.line_laws.proofs.EveryRun.{world_sized}
use Rattle.line_laws.proofs.TagRuns.{start_tags}

-- # What the history has

module _ (ciphers : Ciphers) where
  -- each event is one that lines can say, and what the history has of it is right
  abbrev AreRight : World → List Entry → Type 0
  AreRight w [] = Unit {0}
  AreRight w (x ∷ xs) = IsEvent x.event × IsLineRight ciphers w x × AreRight x.after xs

  right_from : (w : World) (entries : List Entry) → AreEvents (events_of entries) → IsRun ciphers w entries → AreRight w entries
  right_from w [] says run = tt
  right_from w (x ∷ xs) says run =
      let event = All-head IsEvent x.event (events_of xs) says in
      (event, line_traces_right ciphers w x event run.2, right_from x.after xs (All-tail IsEvent x.event (events_of xs) says) run.3)

  all_right : (entries : List Entry) → IsLineRun ciphers entries → AreRight start entries
  all_right entries r = right_from start entries r.events r.run

  counts_from : (w : World) (entries : List Entry) → AreRight w entries → CountsRight w entries
  counts_from w [] r = tt
  counts_from w (x ∷ xs) r = (r.1.adds, counts_from x.after xs r.2)

  traces_from : (w : World) (entries : List Entry) → AreRight w entries → AreTracedRight w entries
  traces_from w [] r = tt
  traces_from w (x ∷ xs) r = (r.1.traced, traces_from x.after xs r.2)

  forged_from : (w : World) (entries : List Entry) → AreRight w entries → IsForgedRight ciphers w entries
  forged_from w [] r = tt
  forged_from w (x ∷ xs) r = (r.1.forged, forged_from x.after xs r.2)

  -- no datagram that was sent is empty
  abbrev HasOctets : Sending → Type 0
  HasOctets s = 0 < length s.datagram

  sends_from : (w : World) (entries : List Entry) → AreRight w entries → All HasOctets (sends_of entries)
  sends_from w [] r = All-nil HasOctets
  sends_from w (x ∷ xs) r = All-append HasOctets (one_of x.trace.sent) (sends_of xs)
      (by_sent x.trace.sent r.1.traced.send r.0) (sends_from x.after xs r.2)
    where
      by_sent : (o : Option Sending) → IfSome o (IsSendOf w x.event) → IsEvent x.event → All HasOctets (one_of o)
      by_sent None h event = All-nil HasOctets
      by_sent (Some s) h event =
          let is : IsEvent (events.Send s.from s.to s.datagram) = subst IsEvent h.fields event in
          All-push HasOctets [] s (All-nil HasOctets) is.2.0

module _ (ciphers : Ciphers) (fits : KeepsRanges ciphers) where
  -- # What flies

  abbrev Spelled : Entry → Type 0
  Spelled x = All (IsSpelled ciphers) x.after.flights

  spelled_from : (w : World) → All (IsSpelled ciphers) w.flights → (entries : List Entry) → AreLawful ciphers w entries → AreSpelled ciphers entries
  spelled_from w all [] l = All-nil Spelled
  spelled_from w all (x ∷ xs) l =
      let b = l.0.before in
      let next : All (IsSpelled ciphers) x.after.flights =
      subst (FlightsSpelled ciphers) l.0.step (line_steps_spell ciphers fits w b.ok b.flown b.logs all x.event l.0.says) in
      All-cons Spelled x xs next (spelled_from x.after next xs l.1)

  senders_from : (w : World) (entries : List Entry) → AreLawful ciphers w entries → AreAddressed w entries
  senders_from w [] l = tt
  senders_from w (x ∷ xs) l = (senders_at ciphers fits w x l.0, senders_from x.after xs l.1)

  keys_from : (w : World) (entries : List Entry) → AreLawful ciphers w entries → AreUnderOwnKeys w entries
  keys_from w [] l = tt
  keys_from w (x ∷ xs) l = (keys_at ciphers fits w x l.0, keys_from x.after xs l.1)

  abbrev EntryRises : Entry → Type 0
  EntryRises x = AllPairs nonces.CounterRises x.after.flights

  counters_from : (w : World) (entries : List Entry) → AreLawful ciphers w entries → nonces.CountersRise entries
  counters_from w [] l = All-nil EntryRises
  counters_from w (x ∷ xs) l = All-cons EntryRises x xs l.0.after.ok.rising.pairs (counters_from x.after xs l.1)

  -- # What nodes hold

  abbrev EntryReads : Entry → Type 0
  EntryReads x = All HasReading x.after.nodes

  -- what the records give of a node that runs, and of one that is halted
  reads : (x : Node) → NodeOk x → HasReading x
  reads x ok = by_memory x.memory ok.kept
    where
      kept_reads : (m : Memory) → IsKept x.role m x.store.records → HasReading x
      kept_reads m k = subst IsOk (sym (again x.role m x.store.records k).is) refl

      by_memory : (o : Option Memory) → Left (IsKept x.role) x.store.records o → HasReading x
      by_memory None left = kept_reads left.memory left.kept
      by_memory (Some m) left = kept_reads m left

  abbrev EntrySized : Entry → Type 0
  EntrySized x = IsSizedBy IsAnyLoad x.after × (x.trace.happenings.flights ≤ 24)

  sized_from : (w : World) (entries : List Entry) → AreLawful ciphers w entries → IsAlwaysSizedBy IsAnyLoad entries
  sized_from w [] l = All-nil EntrySized
  sized_from w (x ∷ xs) l = All-cons EntrySized x xs (world_sized x.after l.0.after.ok, l.0.flights) (sized_from x.after xs l.1)

  marks_from : (w : World) (entries : List Entry) → AreLawful ciphers w entries → MarksAlwaysRise w entries
  marks_from w [] l = tt
  marks_from w (x ∷ xs) l = (rises_at ciphers fits w x l.0, marks_from x.after xs l.1)

  tags_from : (w : World) (before : List Entry) → TagsOk w (sends_of before) → (entries : List Entry) → AreLawful ciphers w entries
      → AllPairs TagRises (sends_of (before ++ entries))
  tags_from w before k [] l = subst (λ xs. AllPairs TagRises (sends_of xs)) (sym (append-nil before)) k.pairs
  tags_from w before k (x ∷ xs) l =
      let b = l.0.before in
      let next : TagsOk x.after (sends_of before ++ one_of x.trace.sent) =
      subst (TagsIn (sends_of before)) l.0.step (line_tags_rise ciphers fits w b.ok b.flown b.logs (sends_of before) k l.0.few x.event l.0.says) in
      let so : TagsOk x.after (sends_of (before ++ x ∷ [])) = subst (TagsOk x.after) (sym (all_of_one (λ d. one_of d.sent) before x)) next in
      subst (λ ys. AllPairs TagRises (sends_of ys)) (append_assoc before (x ∷ []) xs) (tags_from x.after (before ++ x ∷ []) so xs l.1)

  -- # Restarts

  abbrev EntryAnswered : Entry → Type 0
  EntryAnswered x = is_restart x.event ≡ true → x.trace.happenings.answer ≡ answers.Restarted

  readable_from : (w : World) (entries : List Entry) → AreLawful ciphers w entries → StoresAreReadable entries
  readable_from w [] l = All-nil EntryReads
  readable_from w (x ∷ xs) l = All-cons EntryReads x xs
      (All-weaker NodeOk HasReading reads x.after.nodes l.0.after.ok.nodes) (readable_from x.after xs l.1)

  answered_from : (w : World) (entries : List Entry) → AreLawful ciphers w entries → RestartsAreAnswered entries
  answered_from w [] l = All-nil EntryAnswered
  answered_from w (x ∷ xs) l = All-cons EntryAnswered x xs
      (λ e. subst AnsweredIn l.0.step (line_answered ciphers w l.0.before.ok l.0.before.logs x.event e)) (answered_from x.after xs l.1)

  abbrev EntryEnds : Entry → Type 0
  EntryEnds x =
      (number : ℕ) (y : Node) → x.event ≡ events.Restart number → node_at x.after number ≡ Some y → (dest : ℕ) → node_route y dest ≡ None

  ends_from : (w : World) (entries : List Entry) → AreLawful ciphers w entries → RestartsEndRoutes entries
  ends_from w [] l = All-nil EntryEnds
  ends_from w (x ∷ xs) l = All-cons EntryEnds x xs here (ends_from x.after xs l.1)
    where
      here : EntryEnds x
      here number y is there =
          let b = l.0.before in
          let kind : RestartIn number (line_step ciphers w x.event) = subst (λ (e : Event). RestartIn number (line_step ciphers w e)) (sym is)
          (line_restarts_right ciphers fits w b.ok b.flown b.logs number) in
          let ends : RestartIn number (Ok (x.after, x.trace)) = subst (RestartIn number) l.0.step kind in
          ends.1 y there

-- # Every run

pub every_count : EveryCountIsRight
every_count ciphers entries r = counts_from ciphers start entries (all_right ciphers entries r)

pub every_trace : EveryTraceIsRight
every_trace ciphers entries r = traces_from ciphers start entries (all_right ciphers entries r)

pub every_forgery : EveryForgeryIsReported
every_forgery ciphers entries r = forged_from ciphers start entries (all_right ciphers entries r)

pub every_send : EverySendHasOctets
every_send ciphers entries r = sends_from ciphers start entries (all_right ciphers entries r)

pub every_spelling : EveryFlightIsSpelled
every_spelling ciphers fits entries r fly = spelled_from ciphers fits start (All-nil (IsSpelled ciphers)) entries (lawful ciphers fits entries r fly)

pub every_sender : EverySenderIsRight
every_sender ciphers fits entries r fly = senders_from ciphers fits start entries (lawful ciphers fits entries r fly)

pub every_counter : EveryCounterRises
every_counter ciphers fits entries r fly = counters_from ciphers fits start entries (lawful ciphers fits entries r fly)

pub every_run : EveryRunIsSized
every_run ciphers fits entries r fly = sized_from ciphers fits start entries (lawful ciphers fits entries r fly)

pub every_mark : EveryMarkRises
every_mark ciphers fits entries r fly = marks_from ciphers fits start entries (lawful ciphers fits entries r fly)

pub every_tag : EveryTagRises
every_tag ciphers fits entries r fly = tags_from ciphers fits start [] start_tags entries (lawful ciphers fits entries r fly)

pub every_store : EveryStoreIsReadable
every_store ciphers fits entries r fly = readable_from ciphers fits start entries (lawful ciphers fits entries r fly)

pub every_restart : EveryRestartIsAnswered
every_restart ciphers fits entries r fly = answered_from ciphers fits start entries (lawful ciphers fits entries r fly)

pub every_restart_ends : EveryRestartEndsRoutes
every_restart_ends entries r = ends_from network network_ranges start entries (lawful network network_ranges entries r (every_flight entries r))

pub every_key_own : EveryKeyIsOwn
every_key_own entries r = keys_from network network_ranges start entries (lawful network network_ranges entries r (every_flight entries r))
