-- Custody over a run: before the first forged event what is handed up was sent, and nothing is handed up twice. What is still owed stands in one record.
use Rattle.std.proofs.Common.{◌≡◌, ◌≢◌, ◌⊎◌, inl, inr, ⊎_elim, ℕ, zero, suc, ◌+◌, ◌-◌, ◌≤◌, ◌<◌, Bool, true, false, List, [], ◌∷◌, ◌++◌, length, get_or, Option}
use Rattle.std.proofs.Common.{Some, None, Result, Ok, Err, refl, sym, ap, ◌∙◌, subst, append-nil, arith}
use Rattle.std.specs.Prelude.{◌&&◌, All, AllPairs, IfSome, is_some, if◌then◌else◌, slice_get, ◌==◌}
use Rattle.std.specs.List.{list_any, sum_by}
use Rattle.std.specs.Option.{option_map_or, option_to_list}
use Rattle.std.proofs.lemmas.Bool.{cases_eq, eqb-true, eqb-false}
use Rattle.std.proofs.lemmas.Bool.Decides.{nat_tests}
use Rattle.std.proofs.lemmas.List.Elements.{All-push}
use Rattle.std.proofs.lemmas.List.Sums.{sum_by-cons, sum_by-append}
use Rattle.std.proofs.lemmas.Option.{same_Some, slice_get-get_or}
use Rattle.plc_base.specs.declared.key.Key.{Key}
use Rattle.group_keys.specs.KeyRing as ring
use Rattle.line_events.specs.declared.event.Answer.{Answer}
use Rattle.line_events.specs.declared.event.Answer.TheVariants as answers
use Rattle.line_events.specs.declared.event.Event.{Event}
use Rattle.line_events.specs.declared.event.Event.TheVariants as events
use Rattle.line_events.specs.declared.event.StepFault.{StepFault}
use Rattle.line_events.specs.declared.event.StepFault.TheVariants as faults
use Rattle.line_events.specs.declared.happenings.Handed.{Handed}
use Rattle.node_rules.specs.Accepted.{Accepted}
use Rattle.node_rules.specs.Ciphers.{Ciphers, OpensWhatItSeals}
use Rattle.node_rules.specs.declared.refusal.FrameRefusal.{FrameRefusal}
use Rattle.node_rules.specs.declared.refusal.FrameRefusal.TheVariants as frames
use Rattle.node_rules.specs.Acceptance.{accept}
use Rattle.node_rules.specs.Frames.{arrived}
use Rattle.node_rules.specs.Memory.{Memory, Role, Coordinator, Meter, Node}
use Rattle.node_rules.specs.NodeSteps.{acts, left_by, of_station, stays}
use Rattle.node_rules.specs.Plans.{Plan, carry_out}
use Rattle.line_events.specs.Events.{IsEvent}
use Rattle.line_rules.specs.Forgery.{Comes, OfFlight, OfScript, accepting}
use Rattle.line_rules.specs.Runs.{Entry, send_at}
use Rattle.line_rules.specs.SafeRuns.{WasSent, IsNew}
use Rattle.line_rules.specs.Steps.{Step, arrives, deliver, inject, has_begun, hearing_step, identity, is_taken, note_by, step}
use Rattle.line_rules.specs.Traces.{ComesTo, is_up}
use Rattle.line_rules.specs.Worlds.{World, Flight, Issued, Sending, node_at, flight_at, is_forged_tag}
use Rattle.line_laws.specs.Owed.{AreOctets, KeepsRanges}
use Rattle.line_laws.specs.Places.{handed_is, issued, LiveFalls, opened_at}
use Rattle.line_laws.specs.Sends.{SentAs}
use Rattle.line_laws.specs.Sizes.{IsMemorySized}
use Rattle.line_laws.specs.Tags.{TagRises}
use Rattle.line_laws.proofs.Answered.{acts_answered}
use Rattle.line_laws.proofs.CoordinatorCalls.{accept_ok, accept_failed, accepted_routes}
use Rattle.line_laws.proofs.CustodyArrives.{HandedIsOf}
use Rattle.line_laws.proofs.AddressPuts.{RingIn}
use Rattle.line_laws.proofs.CustodySteps.{AtHome, SpeaksInRange, HomedAt, LaterHomed, sent_as, falls_on, event_at, Kept}
use Rattle.line_laws.proofs.CustodyTags.{TagsDiffer, Custody, arrival_keeps, untagged_by}
use Rattle.line_laws.proofs.CustodyGrants.{TakesHome}
use Rattle.line_laws.proofs.CustodyWhole.{OneSend}
use Rattle.line_laws.proofs.CustodyWorld.{up_itself, ups_differ}
use Rattle.line_laws.proofs.FlightFolds.{came_octets}
use Rattle.line_laws.proofs.IssueNodes.{RingOk, Nought}
use Rattle.line_laws.proofs.IssueWorlds.{IsMeter, Keyed}
use Rattle.line_laws.proofs.Made.{RingWord}
use Rattle.line_laws.proofs.MeterForms.{RingCause}
use Rattle.line_laws.proofs.NodeCalls.{RoutesFit, call_given, heard_given, meter_words, no_some}
use Rattle.line_laws.proofs.Nodes.{NodeOk, acts_ok, node_kept, pair_octets, ring_readable}
use Rattle.line_laws.proofs.HomeGrants.{takes_own}
use Rattle.line_laws.proofs.Homes.{at_length, meter_home}
use Rattle.line_laws.proofs.RangeCoordinator.{SpeaksWell}
use Rattle.line_laws.proofs.RangeHeard.{SaysShort}
use Rattle.line_laws.proofs.StoreFold.{WordFits}
use Rattle.line_laws.proofs.StoreMarks.{accept_is}
use Rattle.line_laws.proofs.StepKinds.{IsBrought, step_is}
use Rattle.line_laws.proofs.Worlds.{FlightFits, WorldOk, at_place}
pub use Rattle.line_laws.specs.InCustody.{SentUnder}

-- # Sends by their numbers

pub at_number : (sent : List Sending) (note : ℕ) (s : Sending) → send_at sent note ≡ Some s → (0 < note) × (slice_get sent (note - 1) ≡ Some s)
at_number sent note s = by_test (note == 0) refl
  where
    by_test : (b : Bool) → (note == 0) ≡ b → (if b then None else slice_get sent (note - 1)) ≡ Some s → (0 < note) × (slice_get sent (note - 1) ≡ Some s)
    by_test true t e = absurd (no_some s e)
    by_test false t e = (let ne : note ≢ 0 = eqb-false _ _ t in omega arith, e)

pub number_at : (sent : List Sending) (k : ℕ) (s : Sending) → slice_get sent k ≡ Some s → send_at sent (k + 1) ≡ Some s
number_at sent k s e = by_test ((k + 1) == 0) refl
  where
    by_test : (b : Bool) → ((k + 1) == 0) ≡ b → (if b then None else slice_get sent (k + 1 - 1)) ≡ Some s
    by_test true t = absurd (let z : k + 1 ≡ 0 = eqb-true _ _ t in omega arith)
    by_test false t = let same : k + 1 - 1 ≡ k = omega arith in ap (slice_get sent) same ∙ e

slice_left : {A : Type 0} (xs ys : List A) (k : ℕ) (x : A) → slice_get (xs ++ ys) k ≡ Some x → k < length xs → slice_get xs k ≡ Some x
slice_left [] ys k x e lt = absurd (omega arith)
slice_left (z ∷ xs) ys zero x e lt = e
slice_left (z ∷ xs) ys (suc k) x e lt = slice_left xs ys k x e (omega arith)

pub slice_middle : {A : Type 0} (xs ys : List A) (x : A) → slice_get (xs ++ x ∷ ys) (length xs) ≡ Some x
slice_middle [] ys x = refl
slice_middle (z ∷ xs) ys x = slice_middle xs ys x

slice_within : {A : Type 0} (xs : List A) (k : ℕ) (x : A) → slice_get xs k ≡ Some x → k < length xs
slice_within [] k x e = absurd (no_some x e)
slice_within (z ∷ xs) zero x e = omega arith
slice_within (z ∷ xs) (suc k) x e = let less = slice_within xs k x e in omega arith

get_is : {A : Type 0} (xs : List A) (k : ℕ) (x d : A) → slice_get xs k ≡ Some x → get_or xs k d ≡ x
get_is xs k x d e = same_Some _ _ (sym (slice_get-get_or xs k d (slice_within xs k x e)) ∙ e)

left_get : {A : Type 0} (xs ys : List A) (k : ℕ) (d : A) → k < length xs → get_or (xs ++ ys) k d ≡ get_or xs k d
left_get [] ys k d lt = absurd (omega arith)
left_get (x ∷ xs) ys zero d lt = refl
left_get (x ∷ xs) ys (suc k) d lt = left_get xs ys k d (omega arith)

last_get : {A : Type 0} (xs : List A) (u d : A) → get_or (xs ++ u ∷ []) (length xs) d ≡ u
last_get [] u d = refl
last_get (x ∷ xs) u d = last_get xs u d

-- each has its relation to the last
pairs_last : (xs : List Handed) (u : Handed) → AllPairs (λ (a b : Handed). a.note ≢ b.note) (xs ++ u ∷ []) → All (λ (v : Handed). v.note ≢ u.note) xs
pairs_last xs u pairs k d lt =
    let longer : length xs < length (xs ++ u ∷ []) = slice_within (xs ++ u ∷ []) (length xs) u (slice_middle xs [] u) in
    let h = pairs k (length xs) d lt longer in
    λ same. h (ap (λ (v : Handed). v.note) (left_get xs (u ∷ []) k d lt) ∙ same ∙ sym (ap (λ (v : Handed). v.note) (last_get xs u d)))

module _ (home : ℕ → ℕ) (apart : (i j : ℕ) → home i ≡ home j → i ≡ j) (sent : List Sending) (rises : AllPairs TagRises sent) where
  pub one_send : OneSend (SentUnder home sent)
  one_send note s t a b = sym a.of ∙ ap (sent_as home) (same_Some _ _ (sym a.is ∙ b.is)) ∙ b.of

  lower_tag : (i j : ℕ) (x y : Sending) → slice_get sent i ≡ Some x → slice_get sent j ≡ Some y → i < j → x.from ≡ y.from → 375 < length x.datagram
      → 375 < length y.datagram → x.tag < y.tag
  lower_tag i j x y ex ey lt from long_x long_y =
      let a : get_or sent i x ≡ x = get_is sent i x x ex in
      let b : get_or sent j x ≡ y = get_is sent j y x ey in
      let h : TagRises (get_or sent i x) (get_or sent j x) = rises i j x lt (slice_within sent j y ey) in
      let k : TagRises x y = subst (λ (p : Sending). TagRises p y) a (subst (TagRises (get_or sent i x)) b h) in
      k from long_x long_y

  pub tags_differ : TagsDiffer (SentUnder home sent)
  tags_differ a b s t ha hb long_s long_t origin tag =
      let x = ha.sending in
      let y = hb.sending in
      let pa = at_number sent a x ha.is in
      let pb = at_number sent b y hb.is in
      let from : x.from ≡ y.from = apart x.from y.from (ap (λ (z : SentAs). z.origin) ha.of ∙ origin ∙ sym (ap (λ (z : SentAs). z.origin) hb.of)) in
      let long_x : 375 < length x.datagram = subst (λ (z : SentAs). 375 < length z.octets) (sym ha.of) long_s in
      let long_y : 375 < length y.datagram = subst (λ (z : SentAs). 375 < length z.octets) (sym hb.of) long_t in
      let same : x.tag ≡ y.tag = ap (λ (z : SentAs). z.tag) ha.of ∙ tag ∙ sym (ap (λ (z : SentAs). z.tag) hb.of) in
      by_order (order a b) pa.0 pb.0 (λ lt. let less = lower_tag (a - 1) (b - 1) x y pa.1 pb.1 (let p = pa.0 in omega arith) from long_x long_y in omega arith)
      (λ lt. let less = lower_tag (b - 1) (a - 1) y x pb.1 pa.1 (let p = pb.0 in omega arith) (sym from) long_y long_x in omega arith)
    where
      order : (m n : ℕ) → (m ≡ n) ⊎ ((m < n) ⊎ (n < m))
      order zero zero = inl refl
      order zero (suc n) = inr (inl (omega arith))
      order (suc m) zero = inr (inr (omega arith))
      order (suc m) (suc n) = ⊎_elim (λ (e : m ≡ n). inl (ap suc e))
          (λ (h : (m < n) ⊎ (n < m)). inr (⊎_elim (λ (lt : m < n). inl (omega arith)) (λ (lt : n < m). inr (omega arith)) h)) (order m n)

      by_order : (a ≡ b) ⊎ ((a < b) ⊎ (b < a)) → 0 < a → 0 < b → (a < b → ⊥) → (b < a → ⊥) → a ≡ b
      by_order (inl e) p q f g = e
      by_order (inr (inl lt)) p q f g = absurd (f lt)
      by_order (inr (inr lt)) p q f g = absurd (g lt)

-- # Octets that come

pub data ArrivesBy (w : World) : Event → ℕ → List ℕ → ℕ → Type 0 where
  ByFlight : (flight number cost : ℕ) (f : Flight) → flight_at w flight ≡ Some f → ArrivesBy w (events.Deliver flight number cost) number f.octets cost
  ByScript : (number cost : ℕ) (octets : List ℕ) → ArrivesBy w (events.Inject number cost octets) number octets cost

data Brings (ciphers : Ciphers) (w : World) (event : Event) : Step → Type 0 where
  BringsNone : (fault : StepFault) → Brings ciphers w event (Err fault)
  BringsTo : (number : ℕ) (x : Node) (octets : List ℕ) (cost : ℕ) → node_at w number ≡ Some x → ArrivesBy w event number octets cost
      → Brings ciphers w event (Ok (arrives ciphers w number x octets cost))

module _ (ciphers : Ciphers) (w : World) where
  deliver_brings : (flight number cost : ℕ) → Brings ciphers w (events.Deliver flight number cost) (deliver ciphers w flight number cost)
  unfolding deliver
  deliver_brings flight number cost = by_begun (has_begun w) (node_at w number) refl (flight_at w flight) refl
    where
      by_lost : (x : Node) (f : Flight) → node_at w number ≡ Some x → flight_at w flight ≡ Some f → (b : Bool)
          → Brings ciphers w (events.Deliver flight number cost) (if b then Err faults.Flight else Ok (arrives ciphers w number x f.octets cost))
      by_lost x f hx hf true = BringsNone faults.Flight
      by_lost x f hx hf false = BringsTo number x f.octets cost hx (ByFlight flight number cost f hf)

      by_begun : (b : Bool) (o : Option Node) → node_at w number ≡ o → (p : Option Flight) → flight_at w flight ≡ p
          → Brings ciphers w (events.Deliver flight number cost) (if b
          then option_map_or (λ x. option_map_or (λ f. if f.lost then Err faults.Flight else Ok (arrives ciphers w number x f.octets cost)) p
          (Err faults.Flight)) o (Err faults.Node) else Err faults.Setup)
      by_begun false o ho p hp = BringsNone faults.Setup
      by_begun true None ho p hp = BringsNone faults.Node
      by_begun true (Some x) ho None hp = BringsNone faults.Flight
      by_begun true (Some x) ho (Some f) hp = by_lost x f ho hp f.lost

  inject_brings : (number cost : ℕ) (octets : List ℕ) → Brings ciphers w (events.Inject number cost octets) (inject ciphers w number cost octets)
  unfolding inject
  inject_brings number cost octets = by_begun (has_begun w) (node_at w number) refl
    where
      by_begun : (b : Bool) (o : Option Node) → node_at w number ≡ o
          → Brings ciphers w (events.Inject number cost octets)
          (if b then option_map_or (λ x. Ok (arrives ciphers w number x octets cost)) o (Err faults.Node) else Err faults.Setup)
      by_begun false o ho = BringsNone faults.Setup
      by_begun true None ho = BringsNone faults.Node
      by_begun true (Some x) ho = BringsTo number x octets cost ho (ByScript number cost octets)

  event_brings : (event : Event) → IsBrought event → Brings ciphers w event (step ciphers w event)
  event_brings (events.Deliver flight number cost) b = deliver_brings flight number cost
  event_brings (events.Inject number cost octets) b = inject_brings number cost octets
  event_brings _ b = absurd b

is_brought : (event : Event) → IsBrought event ⊎ (IsBrought event → ⊥)
is_brought (events.Deliver flight number cost) = inl tt
is_brought (events.Inject number cost octets) = inl tt
is_brought _ = inr (λ b. b)

comes_brought : (event : Event) (number : ℕ) → ComesTo event number → IsBrought event
comes_brought (events.Deliver flight node cost) number h = tt
comes_brought (events.Inject node cost octets) number h = tt
comes_brought _ number h = h

same_number : (w : World) (event : Event) (number other cost : ℕ) (octets : List ℕ) → ArrivesBy w event number octets cost → ComesTo event other
    → number ≡ other
same_number w event number other cost octets (ByFlight flight n c f e) h = h
same_number w event number other cost octets (ByScript n c o) h = h

pub came_by : (w : World) (event : Event) (number : ℕ) (octets : List ℕ) (cost : ℕ) → ArrivesBy w event number octets cost → Comes w event number octets
came_by w event number octets cost (ByFlight flight n c f e) = OfFlight flight n c f e
came_by w event number octets cost (ByScript n c o) = OfScript n c o

up_not_taken : (a : Answer) → is_up a ≡ true → is_taken a ≡ false
up_not_taken answers.Up e = refl
up_not_taken _ e = absurd (cc)

-- # What is owed

-- What is owed of what the nodes of a world say by themselves: it fits a command, and goes to one node.
pub record SaysInRange (ciphers : Ciphers) (w : World) : Type 0 where
  pub short : (number : ℕ) (x : Node) → node_at w number ≡ Some x → (psk : Key) (m : Memory) → x.role ≡ Meter psk → x.memory ≡ Some m
      → SaysShort (identity ciphers x psk) m
  pub speaks : (x : Node) → node_at w 0 ≡ Some x → (m : Memory) → x.memory ≡ Some m → (now : ℕ)
      → SpeaksWell (record { eui = x.eui; ciphers = ciphers }) (call_given 0 0 now) m

-- What is owed of the words of a joining, where these octets are heard: what the node says fits a command and goes to one node.
pub record Joins (ciphers : Ciphers) (w : World) (y : Node) (octets : List ℕ) (cost : ℕ) (got : Accepted) : Type 0 where
  pub short : (psk : Key) (m : Memory) → (accepting ciphers y octets).node.role ≡ Meter psk → (accepting ciphers y octets).node.memory ≡ Some m
      → SaysShort (identity ciphers (accepting ciphers y octets).node psk) m
  pub coordinator : (m : Memory) → (accepting ciphers y octets).node.memory ≡ Some m
      → SpeaksWell (record { eui = (accepting ciphers y octets).node.eui; ciphers = ciphers }) (heard_given got cost (note_by w octets got.path) w.clock) m

-- What is owed at an event: marks and counters, and what joinings say.
pub record Owed (ciphers : Ciphers) (live : World → Flight → Bool) (w : World) (x : Entry) : Type 0 where
  pub quiet : (IsBrought x.event → ⊥) → LiveFalls live w x.after None
  pub falls : (number : ℕ) (y : Node) (octets : List ℕ) (cost : ℕ) → node_at w number ≡ Some y → ArrivesBy w x.event number octets cost
      → LiveFalls live w x.after (opened_at w octets (accepting ciphers y octets).answer)
  pub says : SaysInRange ciphers w
  pub joins : (number : ℕ) (y : Node) (octets : List ℕ) (cost : ℕ) → node_at w number ≡ Some y → ArrivesBy w x.event number octets cost → (got : Accepted)
      → (accepting ciphers y octets).answer ≡ Ok got → Joins ciphers w y octets cost got

-- # Homes

acts_role : {A : Type 0} (x : Node) (halted : A) (plan : Memory → Plan Memory A) → (acts x halted plan).node.role ≡ x.role
unfolding acts
acts_role {A = A} x halted plan = by_memory x.memory
  where
    by_memory : (o : Option Memory) → (option_map_or (λ m. left_by x (carry_out x.store.records x.store.cut (plan m))) o (stays x halted)).node.role ≡ x.role
    by_memory None = refl
    by_memory (Some m) = refl

meter_of : (role : Role) → IsMeter role → (psk : Key) × (role ≡ Meter psk)
meter_of Coordinator h = absurd h
meter_of (Meter psk) h = (psk, refl)

not_both : (psk : Key) → Coordinator ≡ Meter psk → ⊥
not_both psk e = cc

nought_home : (own : ℕ) (r : ring.Ring) → own ≡ 0 → Nought r → AtHome own r
nought_home own None e h = tt
nought_home own (Some g) e h = h ∙ sym e

module _ (ciphers : Ciphers) (home : ℕ → ℕ) (first : home 0 ≡ 0) (w : World) (ok : WorldOk w) (given : List Issued) (k : Keyed w given)
    (homed : HomedAt home w) where
  -- the coordinator of a line that has a node
  the_first : (number : ℕ) (x : Node) → node_at w number ≡ Some x → (c : Node) × (node_at w 0 ≡ Some c)
  the_first number x there =
      let inside = slice_within w.nodes number x there in
      let c = at_length w.nodes 0 (omega arith) in
      (c.one, c.is)

  in_range : SaysInRange ciphers w → SpeaksInRange ciphers home w
  in_range says = record {
    short = says.short;
    speaks = says.speaks;
    roles = λ number x ne there. meter_of x.role (k.roles number x ne there);
    homes = homes;
    first = first;
  }
    where
      ring_home : (number : ℕ) (x : Node) → number ≢ 0 → node_at w number ≡ Some x → (r : ring.Ring) → RingOk k.book given x.eui r → AtHome (home number) r
      ring_home number x ne there None h = tt
      ring_home number x ne there (Some g) h =
          let c = the_first number x there in sym (homed.at number x c.0 k.book g.address ne there c.1 (k.coordinator c.0 c.1).book_kept h.address)

      homes : (number : ℕ) (x : Node) → node_at w number ≡ Some x → RingIn (AtHome (home number)) x.store.records
      homes number x there r e = ⊎_elim
          (λ (z : number ≡ 0). nought_home (home number) r (ap home z ∙ first) ((k.coordinator x (ap (slice_get w.nodes) (sym z) ∙ there)).ring r e))
          (λ (ne : number ≢ 0). ring_home number x ne there r ((k.meters number x ne there).ring r e))
          (cases_eq number 0)

  -- a grant that is taken has the home of its meter
  keeps_home : KeepsRanges ciphers → All FlightFits w.flights → (number : ℕ) (y : Node) (octets : List ℕ) (cost : ℕ) → node_at w number ≡ Some y
      → AreOctets octets → (got : Accepted) → (accepting ciphers y octets).answer ≡ Ok got
      → list_any (is_forged_tag w.made) (hearing_step ciphers (accepting ciphers y octets).node got cost (note_by w octets got.path) w.clock).opened ≡ false
      → (psk : Key) (m : Memory) → (accepting ciphers y octets).node.role ≡ Meter psk → (accepting ciphers y octets).node.memory ≡ Some m
      → TakesHome (home number) got cost (note_by w octets got.path) w.clock (identity ciphers (accepting ciphers y octets).node psk) m
  keeps_home fits flown number y octets cost there are got e untagged psk m role here = record {
    taken = λ agreed took granted t tagged.
        let c = the_first number y there in
        let stored = (k.coordinator c.0 c.1).book_kept in
        let ne : number ≢ 0 = λ z. not_both psk (sym (ok.first y (ap (slice_get w.nodes) (sym z) ∙ there))
        ∙ sym (acts_role y (Err frames.Halted) (λ n. of_station n (accept n.station y.eui (arrived ciphers octets)))) ∙ role) in
        let its_own = takes_own ciphers fits w ok flown given k number y octets cost there are got e untagged psk role m here agreed took granted t tagged in
        sym (homed.at number y c.0 k.book granted.address ne there c.1 stored (sym (meter_home k.book w number y ne there) ∙ its_own));
  }

-- # One event

module _ (ciphers : Ciphers) (opens : OpensWhatItSeals ciphers) (fits : KeepsRanges ciphers) (live : World → Flight → Bool)
    (lost : (w : World) (f : Flight) → live w (record f { lost = true }) ≡ true → live w f ≡ true)
    (home : ℕ → ℕ) (apart : (i j : ℕ) → home i ≡ home j → i ≡ j) (sent : List Sending) (rises : AllPairs TagRises sent)
    (some : All (λ (s : Sending). 0 < length s.datagram) sent) where
  abbrev S : ℕ → SentAs → Type 0
  S = SentUnder home sent

  -- what a meter does to its ring by what it hears is read back
  arrival_words : (w : World) → WorldOk w → All FlightFits w.flights → (event : Event) → IsEvent event → (number : ℕ) (y : Node) (octets : List ℕ) (cost : ℕ)
      → node_at w number ≡ Some y → Comes w event number octets → (got : Accepted) → (accepting ciphers y octets).answer ≡ Ok got
      → (psk : Key) (m : Memory) → (accepting ciphers y octets).node.role ≡ Meter psk → (accepting ciphers y octets).node.memory ≡ Some m → (v : RingWord)
      → RingCause (heard_given got cost (note_by w octets got.path) w.clock) (identity ciphers (accepting ciphers y octets).node psk) m v → WordFits v
  arrival_words w ok flown event says number y octets cost there comes got e psk m role here v cause =
      let are = came_octets ciphers fits w ok flown event number octets says comes in
      let plan : Memory → Plan Memory (Result Accepted FrameRefusal) = λ m. of_station m (accept m.station y.eui (arrived ciphers octets)) in
      let good : NodeOk y = at_place NodeOk w.nodes number y there ok.nodes in
      let did = acts_ok y (Err frames.Halted) plan good (λ m here kept sized. accept_ok ciphers fits octets are y.role m y.eui sized) in
      let a = acts_answered y frames.Halted frames.Store plan
      (λ m. accept_failed ciphers fits octets are m.station _ (accept_is m.station y.eui (arrived ciphers octets))) got e in
      let routes : RoutesFit got = accepted_routes ciphers fits octets are a.memory.station (ring_readable y a.memory good a.there) _ got
      (accept_is a.memory.station y.eui (arrived ciphers octets)) a.is in
      let sized : IsMemorySized m = subst (λ o. IfSome o IsMemorySized) here did.node.sized in
      let pair : AreOctets psk.0 = pair_octets (accepting ciphers y octets).node m psk (node_kept (accepting ciphers y octets).node m did.node here) role in
      meter_words (accepting ciphers y octets).node.role m sized ciphers fits (identity ciphers (accepting ciphers y octets).node psk) refl
      (heard_given got cost (note_by w octets got.path) w.clock)
      (λ b is. (subst (λ (k : Accepted). AreOctets k.payload) (same_Some got b is) routes.payload, pair)) v cause

  -- What was handed up by octets that came to this node.
  pub record UpIs (w : World) (event : Event) (u : Handed) : Type 0 where
    pub number : ℕ
    pub octets : List ℕ
    pub cost : ℕ
    pub by : ArrivesBy w event number octets cost
    pub is : HandedIsOf S (home number) u.note u.octets

  pub record After (w : World) (event : Event) (before : List Handed) (v : World) (up : Option Handed) : Type 0 where
    pub custody : Custody ciphers live S home v (before ++ option_to_list up)
    pub handed : (u : Handed) → up ≡ Some u → UpIs w event u

  module _ (w : World) (before : List Handed) (c : Custody ciphers live S home w before) where
    abbrev ByArrival : Event → Step → Type 0
    ByArrival event (Ok r) = ((number : ℕ) (y : Node) (octets : List ℕ) (cost : ℕ) → node_at w number ≡ Some y → ArrivesBy w event number octets cost
        → LiveFalls live w r.0 (opened_at w octets (accepting ciphers y octets).answer)) → r.1.happenings.forged ≡ false
        → After w event before r.0 r.1.happenings.up
    ByArrival event (Err fault) = Unit {0}

    arrival : (event : Event) (s : Step)
        → WorldOk w → All FlightFits w.flights → IsEvent event
        → ((number : ℕ) (y : Node) (octets : List ℕ) (cost : ℕ) → node_at w number ≡ Some y → ArrivesBy w event number octets cost → (got : Accepted)
        → (accepting ciphers y octets).answer ≡ Ok got → Joins ciphers w y octets cost got)
        → ((number : ℕ) (y : Node) (octets : List ℕ) (cost : ℕ) → node_at w number ≡ Some y → AreOctets octets → (got : Accepted)
        → (accepting ciphers y octets).answer ≡ Ok got
        → list_any (is_forged_tag w.made) (hearing_step ciphers (accepting ciphers y octets).node got cost (note_by w octets got.path) w.clock).opened ≡ false
        → (psk : Key) (m : Memory) → (accepting ciphers y octets).node.role ≡ Meter psk → (accepting ciphers y octets).node.memory ≡ Some m
        → TakesHome (home number) got cost (note_by w octets got.path) w.clock (identity ciphers (accepting ciphers y octets).node psk) m)
        → Brings ciphers w event s → ByArrival event s
    arrival event s ok flown says joins keeps (BringsNone fault) = tt
    arrival event s ok flown says joins keeps (BringsTo number y octets cost there by) = λ falls honest.
        let are = came_octets ciphers fits w ok flown event number octets says (came_by w event number octets cost by) in
        let untagged = untagged_by ciphers opens live S (one_send home apart sent rises) (tags_differ home apart sent rises) home w before c number y there
        octets cost honest in
        let k = arrival_keeps ciphers opens live S (one_send home apart sent rises) (tags_differ home apart sent rises) home w before c number y there octets
        cost (λ got e. let j = joins number y octets cost there by got e in (
          keeps number y octets cost there are got e (untagged got e),
          record {
            words = λ psk role m here. arrival_words w ok flown event says number y octets cost there (came_by w event number octets cost by) got e psk m
                role here;
            short = λ psk role m here. j.short psk m role here;
            coordinator = j.coordinator;
          },
        )) honest (falls number y octets cost there by) in
        record { custody = k.0; handed = λ u e. record { number = number; octets = octets; cost = cost; by = by; is = k.1 u e } }

    pub after_event : (ok : WorldOk w) → All FlightFits w.flights → (x : Entry) → IsEvent x.event → step ciphers w x.event ≡ Ok (x.after, x.trace)
        → IfSome x.trace.happenings.up (λ (u : Handed). ComesTo x.event u.node) → ((s : Sending) → x.trace.sent ≡ Some s → S (w.sends + 1) (sent_as home s))
        → Owed ciphers live w x → (given : List Issued) → Keyed w given → home 0 ≡ 0 → HomedAt home w → HomedAt home x.after → x.trace.happenings.forged ≡ false
        → After w x.event before x.after x.trace.happenings.up
    after_event ok flown x says is up_at is_sent owed given k first homed later honest = ⊎_elim came quiet (is_brought x.event)
      where
        came : IsBrought x.event → After w x.event before x.after x.trace.happenings.up
        came b = subst (ByArrival x.event) is (arrival x.event (step ciphers w x.event) ok flown says owed.joins
            (keeps_home ciphers home first w ok given k homed fits flown) (event_brings ciphers w x.event b)) owed.falls honest

        quiet : (IsBrought x.event → ⊥) → After w x.event before x.after x.trace.happenings.up
        quiet none = by_up x.trace.happenings.up up_at
          where
            held : Custody ciphers (λ _ f. live w f) S home w before
            held = record { flights = c.flights; ranged = c.ranged; sent = c.sent; nodes = c.nodes; places = record { at_most = c.places.at_most } }

            now : Custody ciphers live S home x.after before
            now = falls_on ciphers live S home w x.after before (subst (Kept ciphers opens fits S home w ok (live w) (lost w) before held
                (in_range ciphers home first w ok given k homed owed.says)) is
                (event_at ciphers opens fits S home w ok (live w) (lost w) before held (in_range ciphers home first w ok given k homed owed.says) x.event
                (step ciphers w x.event) (step_is ciphers w x.event says) none (subst (LaterHomed home) (sym is) later)) is_sent) (owed.quiet none)

            by_up : (o : Option Handed) → IfSome o (λ (u : Handed). ComesTo x.event u.node) → After w x.event before x.after o
            by_up (Some u) h = absurd (none (comes_brought x.event u.node h))
            by_up None h = record { custody = subst (Custody ciphers live S home x.after) (sym (append-nil before)) now; handed = λ u e. absurd (no_some u e) }

  -- # What was handed up

  issued_low : (n count : ℕ) → 1 ≤ issued n count → n ≤ count
  issued_low n count h = grind (arith, nat_tests)

  abbrev IsNoted : Handed → Type 0
  IsNoted u = (0 < u.note) × (0 < length u.octets)

  pub noted : (w : World) (event : Event) (u : Handed) → UpIs w event u → IsNoted u
  noted w event u h =
      let s = h.is.is in
      let p = at_number sent u.note s.sending s.is in
      let full : 0 < length s.sending.datagram = at_place (λ (z : Sending). 0 < length z.datagram) sent (u.note - 1) s.sending p.1 some in
      (p.0, subst (λ (xs : List ℕ). 0 < length xs) (ap (λ (z : SentAs). z.octets) s.of ∙ h.is.same) full)

  pub was_sent : (w v : World) (event : Event) (u : Handed) (before : List Handed) (sent_before rest : List Sending) → sent ≡ sent_before ++ rest
      → v.sends ≡ length sent_before → UpIs w event u → ComesTo event u.node → Custody ciphers live S home v (before ++ u ∷ []) → WasSent u sent_before
  was_sent w v event u before sent_before rest same count h at c =
      let s = h.is.is in
      let p = at_number sent u.note s.sending s.is in
      let n = noted w event u h in
      let most = c.places.at_most u.note 0 n.0 in
      let both : sum_by (handed_is u.note 0) (before ++ u ∷ [])
      ≡ sum_by (handed_is u.note 0) before + sum_by (handed_is u.note 0) (u ∷ []) = sum_by-append (handed_is u.note 0) before (u ∷ []) in
      let one : sum_by (handed_is u.note 0) (u ∷ []) ≡ handed_is u.note 0 u + 0 = sum_by-cons (handed_is u.note 0) u [] in
      let itself : handed_is u.note 0 u ≡ 1 = up_itself u.note u.note (length u.octets) refl n.1 in
      let low : u.note ≤ v.sends = issued_low u.note v.sends (omega arith) in
      let positive = n.0 in
      let place : slice_get sent_before (u.note - 1)
      ≡ Some s.sending = slice_left sent_before rest (u.note - 1) s.sending (ap (λ xs. slice_get xs (u.note - 1)) (sym same) ∙ p.1) (omega arith) in
      let back : u.note - 1 + 1 ≡ u.note = omega arith in
      let to : s.sending.to ≡ h.number = apart s.sending.to h.number (ap (λ (z : SentAs). z.to) s.of ∙ h.is.target) in
      record {
        send = s.sending;
        is = subst (λ (k : ℕ). send_at sent_before k ≡ Some s.sending) back (number_at sent_before (u.note - 1) s.sending place);
        node = to ∙ same_number w event h.number u.node h.cost h.octets h.by at;
        octets = ap (λ (z : SentAs). z.octets) s.of ∙ h.is.same;
      }

  pub is_new : (v : World) (u : Handed) (before : List Handed) → All IsNoted before → IsNoted u → Custody ciphers live S home v (before ++ u ∷ [])
      → IsNew u before
  is_new v u before all one c = pairs_last before u (ups_differ ciphers live v (before ++ u ∷ []) c.places (All-push IsNoted before u all one))

  -- # The run

  pub none_lists : (o : Option Sending) (p : Option Handed) (a : Answer) (sends : Bool) → is_some o ≡ (is_taken a && sends) → is_some p ≡ is_up a → (u : Handed)
      → p ≡ Some u → o ≡ None
  none_lists None p a sends eo ep u e = refl
  none_lists (Some s) p a sends eo ep u e =
      let up : is_up a ≡ true = sym ep ∙ ap (λ (q : Option Handed). is_some q) e in
      let taken : is_taken a ≡ false = up_not_taken a up in
      absurd (true_false (eo ∙ ap (λ b. b && sends) taken))
    where
      true_false : true ≡ false → ⊥
      true_false e = cc
