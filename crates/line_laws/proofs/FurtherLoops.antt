-- No run of the network with further reach has a loop of valid next hops before it is forged, and no stored rank falls.
use Rattle.std.proofs.Common.{◌≡◌, ◌≤◌, ◌<◌, true, false, List, [], ◌∷◌, ◌++◌, length, Ok, Err, refl, sym, ◌∙◌, subst, ℕ, Some}
use Rattle.std.proofs.Common.{arith}
use Rattle.std.specs.Prelude.{All}
use Rattle.std.proofs.lemmas.List.Elements.{All-head, All-tail}
use Rattle.pan_discovery.specs.declared.message.Discovery.{Discovery}
use Rattle.node_rules.specs.declared.refusal.FrameRefusal.TheVariants as frames
use Rattle.node_rules.specs.Acceptance.{accept}
use Rattle.node_rules.specs.Ciphers.{Ciphers, network}
use Rattle.node_rules.specs.Drafts.{UnsealedUnit}
use Rattle.node_rules.specs.Frames.{arrived}
use Rattle.node_rules.specs.Memory.{Memory, Node}
use Rattle.node_rules.specs.NodeSteps.{of_station, stays}
use Rattle.node_rules.specs.Plans.{Plan}
use Rattle.reach_rules.specs.declared.refusal.ChooseRefusal.TheVariants as choices
use Rattle.reach_rules.specs.Beacons.{choose_agent}
use Rattle.line_events.specs.declared.event.Answer.TheVariants as answers
use Rattle.line_events.specs.declared.event.Event.{Event}
use Rattle.line_rules.specs.Answers.{only}
use Rattle.line_events.specs.Events.{AreEvents, IsEvent}
use Rattle.line_rules.specs.Forgery.{accepting}
use Rattle.line_rules.specs.Further.{beside_at, line_step, reaches, with_beside}
use Rattle.line_rules.specs.Logs.{LogsKept}
use Rattle.line_rules.specs.Runs.{Entry, IsRun, events_of, issued}
use Rattle.line_rules.specs.Steps.{Step, identity, running_world}
use Rattle.line_rules.specs.Worlds.{World, Trace, Issued, start, node_at}
use Rattle.line_rules.proofs.StepsOn.{line_steps}
use Rattle.line_laws.specs.Keyed.{Keyed}
use Rattle.line_laws.specs.Lines.{FlightFits, WorldOk}
use Rattle.line_rules.specs.SafeRuns.{HasNoLoop}
use Rattle.line_laws.specs.Loops.{AreLoopFree, RanksRise, EveryRunIsLoopFree}
use Rattle.line_laws.specs.Owed.{AreOctets, KeepsRanges}
use Rattle.line_laws.specs.Ranked.{Homes, RoutingHolds, homes_of}
use Rattle.line_laws.proofs.AddressBook.{Grows, one_book}
use Rattle.line_laws.proofs.AgreeSteps.{acts_eui}
use Rattle.line_laws.proofs.BookGrowth.{Goes, goes, quiet_grows, self_goes, goes_after}
use Rattle.line_laws.proofs.FlightFolds.{came_octets}
use Rattle.line_laws.proofs.FurtherForms.{AnyUnits}
use Rattle.line_laws.proofs.FurtherAddresses.{moved_euis, moved_grows}
use Rattle.line_laws.proofs.FurtherKeyed.{moved_keyed, old_keyed}
use Rattle.line_laws.proofs.FurtherRoutes.{AreHomesOf, line_holds}
use Rattle.line_laws.proofs.FurtherSame.{AnyDiscovery, OldStep, line_step_any, old_on}
use Rattle.line_laws.proofs.FurtherStates.{LeadsTo, Sound, Stands, sound_on, start_sound}
use Rattle.line_laws.proofs.FurtherStepKinds.{After, Anew, Chooses, IsLineStepBy, Known, Moves, Opens, Unbelieves, Unsends}
use Rattle.line_laws.proofs.HomeGrants.{takes_own}
use Rattle.line_laws.proofs.Homed as homed
use Rattle.line_laws.proofs.Homed.{DepotFits, HomesFit}
use Rattle.line_laws.proofs.Homes.{addressed, addressed_before, at_length, homes_grow}
use Rattle.line_laws.proofs.IssueCalls.{accept_quietly}
use Rattle.line_laws.proofs.IssueWorlds.{same_keyed}
use Rattle.line_laws.proofs.LoopFree.{no_loop}
use Rattle.line_laws.proofs.LoopRuns.{HoldsBy, grow_homes, holds_by, line_depot_fits, start_routed}
use Rattle.line_laws.proofs.MarkSteps.{after_nodes}
use Rattle.line_laws.proofs.StorableGrants.{network_ranges}
use Rattle.line_laws.proofs.StepsOk.{ran_ok as steps_ran_ok}

-- # Growth

module _ (ciphers : Ciphers) (fits : KeepsRanges ciphers) (w : World) (ok : WorldOk w) (flown : All FlightFits w.flights) (given : List Issued)
    (k : Keyed w given) where
  abbrev GoesTo : World → Type 0
  GoesTo v = Goes ciphers fits w ok flown given k v

  moved_goes : (U : List UnsealedUnit → Type 0) (D : Discovery → Type 0) (v u : World) → Moves U D ciphers v u → WorldOk v → v.running ≡ true
      → (more : List Issued)
      → Keyed v more → length w.nodes ≤ length v.nodes → 0 < length w.nodes → GoesTo v → GoesTo u
  moved_goes U D v u moves fine runs more kv longer some g = record {
    grows = λ c there b kept.
        let ku = moved_keyed U D ciphers fits v u moves fine runs more kv in
        let c0 = at_length v.nodes 0 (omega arith) in
        let one = g.grows c0.one c0.is kv.book (kv.coordinator c0.one c0.is).book_kept in
        let two = moved_grows U D ciphers fits v u moves fine runs more more kv ku (omega arith) in
        subst (Grows k.book) (one_book ku.book b c.store.records (ku.coordinator c there).book_kept kept) (λ eui a e. two eui a (one eui a e));
    euis = λ n y inside there.
        let x = moved_euis U D ciphers fits v u moves fine runs n y (omega arith) there in
        let z = g.euis n x.0 inside x.1 in
        (z.0, z.1, z.2 ∙ x.2);
  }

  ran_goes : GoesTo (running_world w)
  ran_goes = let g = self_goes ciphers fits w ok flown given k in record { grows = g.grows; euis = g.euis }

  abbrev pub LineGoesBy : Step → Type 0
  LineGoesBy (Ok r) = r.1.happenings.forged ≡ false → 0 < length w.nodes → GoesTo r.0
  LineGoesBy (Err fault) = Unit {0}

  module _ (U : List UnsealedUnit → Type 0) (D : Discovery → Type 0) where
    after_goes : (event : Event) → IsEvent event → (r : World × Trace) (v : World) → OldStep ciphers w event (Ok r) → WorldOk r.0 → r.0.running ≡ true
        → Moves U D ciphers r.0 v → length w.nodes ≤ length r.0.nodes → r.1.happenings.forged ≡ false → 0 < length w.nodes → GoesTo v
    after_goes event says r v old fine runs moves longer honest some =
        moved_goes U D r.0 v moves fine runs (given ++ r.1.issued) (old_keyed ciphers fits w ok flown given k event says r old honest) longer some
        (goes ciphers fits w ok flown given k event (Ok r) old.is some)

    pub line_goes_is : (event : Event) → IsEvent event → (s : Step) → IsLineStepBy (OldStep ciphers w) U D ciphers w event s → LineGoesBy s
    line_goes_is event says (Ok r) (Known e z old) = λ honest some. goes ciphers fits w ok flown given k event (Ok r) old.is some
    line_goes_is event says (Err fault) (Known e z old) = tt
    line_goes_is event says s (Opens begun) = λ honest some. record { grows = ran_goes.grows; euis = ran_goes.euis }
    line_goes_is event says s (Anew e v t moves silent) = λ honest some.
        moved_goes U D (running_world w) v moves (steps_ran_ok ciphers fits w ok flown) refl given (same_keyed w (running_world w) given k refl refl)
        (omega arith) some ran_goes
    line_goes_is event says s (After e r v t old fine runs moves same_words) = λ honest some.
        after_goes event says r v old fine runs moves (old_on ciphers w event r old).nodes (sym same_words.forged ∙ honest) some
    line_goes_is event says s (Unsends e r v t old fine runs moves same_words) = λ honest some.
        let g = after_goes event says r v old fine runs moves (old_on ciphers w event r old).nodes (sym same_words.forged ∙ honest) some in
        record { grows = g.grows; euis = g.euis }
    line_goes_is event says s (Unbelieves e number x octets got there known comes is) = λ honest some.
        let are : AreOctets octets = came_octets ciphers fits w ok flown event number octets known comes in
        let plan : Memory → Plan Memory _ = λ m. of_station m (accept m.station x.eui (arrived ciphers octets)) in
        goes_after ciphers fits w ok flown given k (running_world w) _ number x (stays (accepting ciphers x octets).node (only answers.Blacklisted)) ran_goes
        (after_nodes ciphers (running_world w) number (stays (accepting ciphers x octets).node (only answers.Blacklisted))) there
        (acts_eui x (Err frames.Halted) plan) (λ first. quiet_grows ciphers fits w ok flown given k number x (Err frames.Halted) plan first there
        (λ m sized. accept_quietly ciphers fits octets are m x.eui))
    line_goes_is event says s (Chooses number count x psk ne there pair) = λ honest some.
        let d = reaches x (beside_at w number) (Err choices.Halted) (λ y. choose_agent (identity ciphers x psk) y count w.clock) in
        goes_after ciphers fits w ok flown given k (running_world w) _ number x d ran_goes (after_nodes ciphers (running_world w) number d) there
        (acts_eui x (Err choices.Halted) (with_beside (beside_at w number) (λ y. choose_agent (identity ciphers x psk) y count w.clock)))
        (λ first. absurd (ne first))

  -- no address of the book is taken back, and each node stays
  pub line_goes : LogsKept w → (event : Event) → IsEvent event → LineGoesBy (line_step ciphers w event)
  line_goes logs event says = line_goes_is AnyUnits AnyDiscovery event says (line_step ciphers w event) (line_step_any ciphers fits w ok flown logs event says)

-- # Runs

-- each node stays
pub nodes_stay : (w : World) (x : Entry) → LeadsTo w x → length w.nodes ≤ length x.after.nodes
nodes_stay w x is = (line_steps network w x.after x.event x.trace is).nodes

module _ (w : World) (before : List Entry) (o : Sound w before) (x : Entry) (event : IsEvent x.event) (is : LeadsTo w x)
    (honest : x.trace.happenings.forged ≡ false) where
  goes_here : 0 < length w.nodes → Goes network network_ranges w o.stands.ok o.stands.speaks.flights (issued before) o.keyed x.after
  goes_here = subst (LineGoesBy network network_ranges w o.stands.ok o.stands.speaks.flights (issued before) o.keyed) is
      (line_goes network network_ranges w o.stands.ok o.stands.speaks.flights (issued before) o.keyed o.stands.logs x.event event) honest

  -- so do the addresses of the book, and the EUIs
  pub book_grows : (more : List Issued) (l : Keyed x.after more) → 0 < length w.nodes → Grows o.keyed.book l.book
  book_grows more l some =
      let longer = nodes_stay w x is in
      let c = at_length x.after.nodes 0 (omega arith) in
      (goes_here some).grows c.one c.is l.book (l.coordinator c.one c.is).book_kept

  pub euis_stay : 0 < length w.nodes → (n : ℕ) (y : Node) → n < length w.nodes → node_at x.after n ≡ Some y
      → (z : Node) × (node_at w n ≡ Some z) × (z.eui ≡ y.eui)
  euis_stay some n y inside there = (goes_here some).euis n y inside there

-- What holds of a world that was reached with no event forged, with its routes.
pub record Routed (w : World) (before : List Entry) : Type 0 where
  pub sound : Sound w before
  pub routes : RoutingHolds network (homes_of sound.keyed.book w) w

module _ (w : World) (before : List Entry) (o : Routed w before) (x : Entry) (event : IsEvent x.event) (is : LeadsTo w x)
    (honest : x.trace.happenings.forged ≡ false) where
  abbrev h : Stands w
  h = o.sound.stands

  abbrev k : Keyed w (issued before)
  k = o.sound.keyed

  next : Sound x.after (before ++ x ∷ [])
  next = sound_on w before o.sound x event is honest

  longer : length w.nodes ≤ length x.after.nodes
  longer = nodes_stay w x is

  book : 0 < length w.nodes → Grows k.book next.keyed.book
  book some = book_grows w before o.sound x event is honest (issued (before ++ x ∷ [])) next.keyed some

  euis : 0 < length w.nodes → (n : ℕ) (y : Node) → n < length w.nodes → node_at x.after n ≡ Some y → (z : Node) × (node_at w n ≡ Some z) × (z.eui ≡ y.eui)
  euis some = euis_stay w before o.sound x event is honest some

  abbrev homes : Homes
  homes = homes_of next.keyed.book x.after

  grown : homed.Grows (homes_of k.book w) homes
  grown = homes_grow w x.after (issued before) (issued (before ++ x ∷ [])) h.ok next.stands.ok k next.keyed longer book euis

  fit : HomesFit network homes w
  fit = record {
    addressed = addressed_before w x.after (issued before) (issued (before ++ x ∷ [])) h.ok next.stands.ok k next.keyed longer book euis;
    took = λ number y frame cost there are got e right psk role m here agreed took granted t tagged.
        grown number granted.address (takes_own network network_ranges w h.ok h.speaks.flights (issued before) k number y frame cost there are got e right psk
        role m here agreed took granted t tagged);
  }

  depot : DepotFits network homes w x.event
  depot = line_depot_fits network network_ranges w x.after h.ok (issued before) (issued (before ++ x ∷ [])) k next.keyed longer
      (λ n y inside there. euis (omega arith) n y inside there) x.event x.trace is

  after : HoldsBy homes w (Ok (x.after, x.trace))
  after =
      let are : AreHomesOf homes w h.ok h.speaks o.sound.ranged (issued before) k fit (grow_homes network (homes_of k.book w) homes grown w o.routes)
      (line_step network w x.event)
      = subst (AreHomesOf homes w h.ok h.speaks o.sound.ranged (issued before) k fit (grow_homes network (homes_of k.book w) homes grown w o.routes)) (sym is)
      (issued (before ++ x ∷ []), next.keyed, next.stands.ok, refl) in
      subst (HoldsBy homes w) is
      (holds_by homes w _ (line_holds homes w h.ok h.speaks o.sound.ranged (issued before) k fit (grow_homes network (homes_of k.book w) homes grown w o.routes)
      x.event event depot h.logs are))

  pub routed_on : Routed x.after (before ++ x ∷ [])
  routed_on = record { sound = next; routes = (after honest).holds }

  pub free_here : HasNoLoop x.after × RanksRise w x.after
  free_here = (
    no_loop network homes x.after (addressed x.after (issued (before ++ x ∷ [])) next.stands.ok next.keyed) (after honest).holds,
    (after honest).later,
  )

loop_free_from : (w : World) (before : List Entry) → Routed w before → (entries : List Entry) → AreEvents (events_of entries) → IsRun network w entries
    → AreLoopFree w entries
loop_free_from w before o [] says run = tt
loop_free_from w before o (x ∷ xs) says run = λ honest.
    let event = All-head IsEvent x.event (events_of xs) says in
    let free = free_here w before o x event run.2 honest in (
      free.0,
      free.1,
      loop_free_from x.after (before ++ x ∷ []) (routed_on w before o x event run.2 honest) xs (All-tail IsEvent x.event (events_of xs) says)
          run.3,
    )

pub every_run : EveryRunIsLoopFree
every_run entries r = loop_free_from start [] (record { sound = start_sound; routes = start_routed start_sound.keyed.book }) entries r.events r.run
