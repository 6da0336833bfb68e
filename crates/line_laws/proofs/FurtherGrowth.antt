-- Further reach takes no address back and allows no meter: it leaves the book that the coordinator's records give.
use Rattle.std.proofs.Common.{◌≡◌, ◌≢◌, ◌⊎◌, ⊎_elim, inl, inr, ℕ, ◌<◌, true, false, List, length, Option, Some, None, Ok, Err, refl, sym, ap, ◌∙◌, subst}
use Rattle.std.specs.Prelude.{All, slice_get, slice_set}
use Rattle.std.specs.Option.{option_map_or}
use Rattle.std.proofs.lemmas.Bool.{cases_eq}
use Rattle.std.proofs.lemmas.Option.{same_Some}
use Rattle.store_tables.proofs.SlotTables.{slice_get-set, slice_get-set_other}
use Rattle.plc_base.specs.Keeper.{Records}
use Rattle.plc_base.specs.declared.address.Eui.{Eui}
use Rattle.group_keys.specs.KeyBook as books
use Rattle.pan_discovery.specs.declared.message.Discovery.{Discovery}
use Rattle.node_rules.specs.declared.refusal.FrameRefusal.TheVariants as frames
use Rattle.node_rules.specs.Acceptance.{accept}
use Rattle.node_rules.specs.Ciphers.{Ciphers}
use Rattle.node_rules.specs.Drafts.{UnsealedUnit}
use Rattle.node_rules.specs.Frames.{arrived}
use Rattle.node_rules.specs.Memory.{Memory, Coordinator, Node}
use Rattle.node_rules.specs.NodeSteps.{NodeStep, acts, left_by, of_station, stays}
use Rattle.node_rules.specs.Plans.{Outcome, Plan, carry_out}
use Rattle.reach_rules.specs.declared.refusal.ChooseRefusal.TheVariants as choices
use Rattle.reach_rules.specs.Beacons.{choose_agent}
use Rattle.line_rules.specs.Agreement.{is_allow_of}
use Rattle.line_events.specs.declared.event.Answer.TheVariants as answers
use Rattle.line_events.specs.declared.event.Event.{Event}
use Rattle.line_events.specs.declared.event.Event.TheVariants as events
use Rattle.line_rules.specs.Answers.{only}
use Rattle.line_events.specs.Events.{IsEvent}
use Rattle.line_rules.specs.Forgery.{Comes, accepting}
use Rattle.line_rules.specs.Further.{line_step, chooses_by, unbelieved, beside_at, reaches}
use Rattle.line_rules.specs.Logs.{LogsKept}
use Rattle.line_rules.specs.Steps.{Step, running_world, world_after, identity}
use Rattle.line_rules.specs.Worlds.{World, Trace, Issued, node_at}
use Rattle.line_laws.specs.LineAccounts.{BooksIn, LineBooksGrow, LineStepsShut, ShutIn}
use Rattle.line_laws.specs.Lines.{FlightFits, NodeOk, WorldOk}
use Rattle.line_laws.specs.Keyed.{Keyed}
use Rattle.line_laws.specs.Owed.{KeepsRanges}
use Rattle.line_laws.specs.Shut.{Shut, ShutAt}
use Rattle.line_laws.specs.Stores.{IsBookKept, IsKept}
use Rattle.line_laws.proofs.AddressBook.{Grown, Grows, one_book}
use Rattle.line_laws.proofs.BookGrowth.{Goes, goes, self_goes}
use Rattle.line_laws.proofs.FlightFolds.{came_octets}
use Rattle.line_laws.proofs.FurtherForms.{AnyUnits}
use Rattle.line_laws.proofs.FurtherSeals.{further_quietly}
use Rattle.line_laws.proofs.FurtherSenders.{AnyFrame, known}
use Rattle.line_laws.proofs.FurtherStepKinds.{IsLineStep, Moves, line_follows, line_step_is, moved_ok}
use Rattle.line_laws.proofs.FurtherStepKinds.{Known, Opens, Anew, After, Unsends, Unbelieves, Chooses, Stays, Carries, Flies, Besides, Turns}
use Rattle.line_laws.proofs.Homes.{at_length}
use Rattle.line_laws.proofs.IssueCalls.{accept_quietly}
use Rattle.line_laws.proofs.KeptMemory.{Leads, Left, carried}
use Rattle.line_laws.proofs.MarkSteps.{FollowsIn}
use Rattle.line_laws.proofs.ShutSteps.{event_shut, other_shut}
use Rattle.line_laws.proofs.ShutSteps.{ShutBy as ShutBefore}
use Rattle.line_laws.proofs.StepsOk.{ran_ok}
use Rattle.line_laws.proofs.StepKinds.{IsStep}
use Rattle.line_laws.proofs.Worlds.{at_place, within as place_within}

-- # One node

-- the book that the records of a node give has this
abbrev BookHas : (books.Book → Type 0) → Node → Type 0
BookHas V y = (b : books.Book) → IsBookKept b y.store.records → V b

module _ (V : books.Book → Type 0) where
  acts_has : {A : Type 0} (x : Node) (halted : A) (plan : Memory → Plan Memory A) → NodeOk x → x.role ≡ Coordinator → BookHas V x
      → ((m : Memory) → x.memory ≡ Some m → Leads (Grown V) m (plan m).puts (plan m).memory) → BookHas V (acts x halted plan).node
  unfolding acts
  acts_has {A = A} x halted plan ok role has f = by_memory x.memory refl (subst (λ r. Left (IsKept r) x.store.records x.memory) role ok.kept)
    where
      by_left : (r : Records) (q : Option Memory) → Left (Grown V) r q → (b : books.Book) → IsBookKept b r → V b
      by_left r None k b kept = subst V (one_book k.memory.book b r k.kept.kept.book kept) k.kept.grows
      by_left r (Some n) k b kept = subst V (one_book n.book b r k.kept.book kept) k.grows

      by_memory : (q : Option Memory) → x.memory ≡ q → Left (IsKept Coordinator) x.store.records q
          → BookHas V (option_map_or (λ m. left_by x (carry_out x.store.records x.store.cut (plan m))) q (stays x halted)).node
      by_memory None e kept = has
      by_memory (Some m) e kept =
          let o : Outcome Memory A = carry_out x.store.records x.store.cut (plan m) in
          by_left o.records o.memory (carried (Grown V) x.store.records x.store.cut (plan m) m (record { kept = kept; grows = has m.book kept.book }) (f m e))

  -- # The coordinator of a line

  abbrev FirstHas : World → Type 0
  FirstHas v = (c : Node) → node_at v 0 ≡ Some c → BookHas V c

  same_has : (u v : World) → v.nodes ≡ u.nodes → FirstHas u → FirstHas v
  same_has u v e has c there = has c (sym (ap (λ ns. slice_get ns 0) e) ∙ there)

  after_has : {A : Type 0} (u v : World) (number : ℕ) (x : Node) (d : NodeStep A) → FirstHas u → v.nodes ≡ slice_set u.nodes number d.node
      → node_at u number ≡ Some x → (number ≡ 0 → BookHas V d.node) → FirstHas v
  after_has u v number x d has nodes there book c is = ⊎_elim
      (λ (e : number ≡ 0).
      let same : d.node ≡ c = same_Some _ _
      (sym (slice_get-set u.nodes number d.node (place_within u.nodes number x there)) ∙ sym (ap (λ ns. slice_get ns number) nodes) ∙ ap
      (node_at v) e ∙ is) in
      subst (BookHas V) same (book e))
      (λ (ne : number ≢ 0). has c (sym (slice_get-set_other u.nodes number 0 d.node (λ e. ne (sym e))) ∙ sym (ap (λ ns. slice_get ns 0) nodes) ∙ is))
      (cases_eq number 0)

  module _ (ciphers : Ciphers) (fits : KeepsRanges ciphers) (U : List UnsealedUnit → Type 0) (D : Discovery → Type 0) where
    after_nodes : {A : Type 0} (u : World) (number : ℕ) (d : NodeStep A) → (world_after ciphers u number d).nodes ≡ slice_set u.nodes number d.node
    unfolding world_after
    after_nodes u number d = refl

    first_acts : {A : Type 0} (u : World) → WorldOk u → FirstHas u → (number : ℕ) (x : Node) (halted : A) (plan : Memory → Plan Memory A)
        → node_at u number ≡ Some x
        → ((m : Memory) → x.memory ≡ Some m → Leads (Grown V) m (plan m).puts (plan m).memory) → number ≡ 0 → BookHas V (acts x halted plan).node
    first_acts u ok has number x halted plan there f first =
        let at : node_at u 0 ≡ Some x = ap (slice_get u.nodes) (sym first) ∙ there in
        acts_has x halted plan (at_place NodeOk u.nodes number x there ok.nodes) (ok.first x at) (has x at) f

    moved_has : (v u : World) → Moves U D ciphers v u → WorldOk v → v.running ≡ true → FirstHas v → FirstHas u
    moved_has v u (Stays z) ok runs has = has
    moved_has v u (Carries z number x A halted does there is) ok runs has =
        after_has v (world_after ciphers v number (acts x halted does)) number x (acts x halted does) has (after_nodes v number (acts x halted does)) there
        (first_acts v ok has number x halted does there (λ m here. (further_quietly m (does m) (is m here)).leads V))
    moved_has v u (Flies z number x frame there known) ok runs has = λ c at. has c at
    moved_has v u (Besides z on bs) ok runs has = λ c at. has c at
    moved_has v u (Turns z between y first rest) ok runs has =
        let m = moved_ok U D ciphers fits v between first ok runs in
        moved_has between u rest m.0 m.1 (moved_has v between first ok runs has)

    abbrev HasIn : Step → Type 0
    HasIn (Ok r) = FirstHas r.0
    HasIn (Err fault) = Unit {0}

    -- an event of the line, where events without further reach keep it
    module _ (w : World) (ok : WorldOk w) (flown : All FlightFits w.flights) (has : FirstHas w) where
      ran_good : WorldOk (running_world w)
      ran_good = ran_ok ciphers fits w ok flown

      abbrev Kept : Event → Type 1
      Kept event = (r : World × Trace) → IsStep ciphers w event (Ok r) → FirstHas r.0

      known_has : (event : Event) → Kept event → (s : Step) → IsStep ciphers w event s → HasIn s
      known_has event old (Ok r) is = old r is
      known_has event old (Err fault) is = tt

      accepted_has : (event : Event) (number : ℕ) (x : Node) (octets : List ℕ) → node_at w number ≡ Some x → IsEvent event → Comes w event number octets
          → number ≡ 0 → BookHas V (accepting ciphers x octets).node
      accepted_has event number x octets there says comes first =
          let are = came_octets ciphers fits w ok flown event number octets says comes in
          first_acts w ok has number x (Err frames.Halted) (λ m. of_station m (accept m.station x.eui (arrived ciphers octets))) there
          (λ m here. (accept_quietly ciphers fits octets are m x.eui).leads V) first

      line_has : (event : Event) → Kept event → (s : Step) → IsLineStep U D ciphers w event s → HasIn s
      line_has event old s (Known e t is) = known_has e old t is
      line_has event old s (Opens begun) = λ c at. has c at
      line_has event old s (Anew e v t moves silent) = moved_has (running_world w) v moves ran_good refl (λ c at. has c at)
      line_has event old s (After e r v t is good runs moves same_words) = moved_has r.0 v moves good runs (old r is)
      line_has event old s (Unsends e r v t is good runs moves same_words) = let h = moved_has r.0 v moves good runs (old r is) in λ c at. h c at
      line_has event old s (Unbelieves e number x octets got there says comes is) =
          let d = stays (accepting ciphers x octets).node (only answers.Blacklisted) in
          after_has w (unbelieved ciphers w number (accepting ciphers x octets).node octets got).0 number x d has (after_nodes (running_world w) number d) there
          (accepted_has e number x octets there says comes)
      line_has event old s (Chooses number k x psk ne there e) =
          let d = reaches x (beside_at w number) (Err choices.Halted) (λ y. choose_agent (identity ciphers x psk) y k w.clock) in
          after_has w (chooses_by ciphers w number x k (Some psk)).0 number x d has (after_nodes (running_world w) number d) there (λ first. absurd (ne first))

-- # Addresses stay

module _ (ciphers : Ciphers) (fits : KeepsRanges ciphers) (w : World) (ok : WorldOk w) (flown : All FlightFits w.flights) (logs : LogsKept w) where
  pub any_line : (event : Event) → IsEvent event → IsLineStep AnyUnits AnyFrame ciphers w event (line_step ciphers w event)
  any_line event says = line_step_is AnyUnits AnyFrame ciphers fits w ok flown logs (known ciphers fits w ok flown logs) event says

  module _ (given : List Issued) (k : Keyed w given) where
    -- a later world
    abbrev pub GoesIn : Step → Type 0
    GoesIn (Ok r) = 0 < length w.nodes → Goes ciphers fits w ok flown given k r.0
    GoesIn (Err fault) = Unit {0}

    goes_by : (event : Event) (s : Step) → IsEvent event → IsLineStep AnyUnits AnyFrame ciphers w event s → FollowsIn ciphers fits w ok flown s → GoesIn s
    goes_by event (Err fault) says is follow = tt
    goes_by event (Ok r) says is follow = λ some. record {
      grows = line_has (Grows k.book) ciphers fits AnyUnits AnyFrame w ok flown (self_goes ciphers fits w ok flown given k).grows event
          (λ t step. (goes ciphers fits w ok flown given k event (Ok t) step some).grows) (Ok r) is;
      euis = λ n y inside there.
          let x = at_length w.nodes n inside in
          let l = follow.at n x.one x.is in
          (x.one, x.is, sym l.eui ∙ ap (λ (z : Node). z.eui) (same_Some _ _ (sym l.there ∙ there)));
    }

    pub line_goes : (event : Event) → IsEvent event → GoesIn (line_step ciphers w event)
    line_goes event says = goes_by event (line_step ciphers w event) says (any_line event says)
        (line_follows AnyUnits AnyFrame ciphers fits w ok flown event (line_step ciphers w event) (any_line event says))

    books_in : (s : Step) → GoesIn s → BooksIn k.book w s
    books_in (Ok r) h = λ some. let g = h some in record { grows = g.grows; euis = g.euis }
    books_in (Err fault) h = tt

pub line_books_grow : LineBooksGrow
line_books_grow ciphers fits w ok flown logs given k event says = books_in ciphers fits w ok flown logs given k (line_step ciphers w event)
    (line_goes ciphers fits w ok flown logs given k event says)

-- # A meter stays shut out

allow_or_not : (event : Event) → ((n : ℕ) × (event ≡ events.Allow n)) ⊎ ((n : ℕ) → event ≡ events.Allow n → ⊥)
allow_or_not (events.Allow n) = inl (n, refl)
allow_or_not _ = inr (λ n e. cc (e))

module _ (eui : Eui) (ciphers : Ciphers) (fits : KeepsRanges ciphers) (w : World) (ok : WorldOk w) (flown : All FlightFits w.flights) (logs : LogsKept w)
    (shut : ShutAt eui w)
    (number : ℕ) (z : Node) (running : w.running ≡ true) (there : node_at w number ≡ Some z) (named : z.eui ≡ eui)
    (apart : (i j : ℕ) (x y : Node) → node_at w i ≡ Some x → node_at w j ≡ Some y → books.eui_number x.eui ≡ books.eui_number y.eui → i ≡ j) where
  shut_in : (s : Step) → HasIn (Shut eui) ciphers fits AnyUnits AnyFrame s → ShutIn eui s
  shut_in (Ok r) h = h
  shut_in (Err fault) h = tt

  not_allowed : (event : Event) → IsEvent event → ((n : ℕ) → event ≡ events.Allow n → ⊥) → is_allow_of number event ≡ false
      → ShutIn eui (line_step ciphers w event)
  not_allowed event says other e = shut_in (line_step ciphers w event) (line_has (Shut eui) ciphers fits AnyUnits AnyFrame w ok flown shut event
      (λ r is. other_shut eui ciphers fits w ok flown shut event r is number z other e running there named apart) (line_step ciphers w event)
      (any_line ciphers fits w ok flown logs event says))

  allows_other : (s : Step) → ShutBefore eui s → ShutIn eui s
  allows_other (Ok r) h = h
  allows_other (Err fault) h = tt

  pub line_shut : (event : Event) → IsEvent event → is_allow_of number event ≡ false → ShutIn eui (line_step ciphers w event)
  line_shut event says e = ⊎_elim
      (λ (a : (n : ℕ) × (event ≡ events.Allow n)).
      subst (λ (k : Event). ShutIn eui (line_step ciphers w k)) (sym a.1)
      (allows_other _ (event_shut eui ciphers fits w ok flown shut (events.Allow a.0) number z (subst IsEvent a.1 says)
      (subst (λ (k : Event). is_allow_of number k ≡ false) a.1 e) running there named apart)))
      (λ (other : (n : ℕ) → event ≡ events.Allow n → ⊥). not_allowed event says other e)
      (allow_or_not event)

pub line_steps_shut : LineStepsShut
line_steps_shut eui ciphers fits w ok flown logs shut event number z says e running there named apart =
    line_shut eui ciphers fits w ok flown logs shut number z running there named apart event says e
