-- A send and the passing of time keep custody, in the world.
use Rattle.std.proofs.Common.{zero-le, ◌≡◌, ℕ, ◌+◌, ◌≤◌, ◌<◌, cond, ⊎_elim, Bool, true, false, List, [], ◌∷◌, length, map, Option, Some, None, Result, Ok, Err}
use Rattle.std.proofs.Common.{refl, ap, subst, arith}
use Rattle.std.specs.Prelude.{slice_get, All}
use Rattle.std.specs.List.{sum_by}
use Rattle.std.specs.Option.{option_map_or}
use Rattle.std.proofs.lemmas.Bool.Decides.{nat_tests}
use Rattle.std.proofs.lemmas.List.{append-nil}
use Rattle.std.proofs.lemmas.List.Sums.{sum_by-cons, sum_by-le-sum_by}
use Rattle.node_rules.specs.declared.heard.SentHow.{SentHow}
use Rattle.node_rules.specs.declared.heard.SentHow.TheVariants as how
use Rattle.node_rules.specs.declared.refusal.SendRefusal.{SendRefusal}
use Rattle.node_rules.specs.declared.refusal.SendRefusal.TheVariants as sends
use Rattle.node_rules.specs.Ciphers.{Ciphers}
use Rattle.node_rules.specs.Memory.{StationMemory, Memory, Node, Role, Coordinator, Meter}
use Rattle.node_rules.specs.Plans.{Plan, carry_out, resting}
use Rattle.node_rules.specs.Calls as calls
use Rattle.node_rules.specs.Drafts.{alone, empty_draft}
use Rattle.line_rules.specs.Answers.{sent_word, send_word}
use Rattle.node_rules.specs.Laws.{IsWhole, IsCutOff}
use Rattle.node_rules.specs.NodeSteps.{NodeStep, acts, stays, left_by, of_station, answering}
use Rattle.line_rules.specs.Steps.{is_taken, tag_of, sending, sent_if, node_outcome, world_after, running_world, flights_of, ticked}
use Rattle.line_rules.specs.Worlds.{Flight, World}
use Rattle.line_events.specs.declared.happenings.Handed.{Handed}
use Rattle.node_rules.proofs.FailedWrites.{clean}
use Rattle.node_rules.specs.Ciphers.{OpensWhatItSeals}
use Rattle.line_laws.specs.Custody.{weigh, below, sent_is, keeps}
use Rattle.line_laws.specs.Places.{node_keeps, flight_is, live_is, places, issued, IsInCustody, OneNode, LiveFalls}
use Rattle.line_laws.proofs.Planned.{Planned, Refuses, Keeps, Ended}
use Rattle.line_laws.proofs.Made.{RingWord, Made}
use Rattle.line_laws.proofs.NodeCalls.{call_given}
use Rattle.line_laws.proofs.CallForms.{Few, Nothing, send_is}
use Rattle.line_laws.proofs.RangeFrames.{IsSent}
use Rattle.line_laws.proofs.CustodyPlans.{up_by, BodiesKept}
use Rattle.line_laws.proofs.CustodyCalls.{send_kept, tick_kept}
use Rattle.line_laws.proofs.CustodyWorld.{custody_after, sent_flies}

-- # A send

-- a send that is refused moves nothing
record SendKept (n i : ℕ) (m : Memory) (weight : ℕ) (p : Plan Memory (Result SentHow SendRefusal)) : Type 0 where
  taken : (h : SentHow) → p.answer ≡ Ok h → keeps n i p.memory.station + sum_by (sent_is n i) p.frames ≤ keeps n i m.station + weight
  refused : (e : SendRefusal) → p.answer ≡ Err e → keeps n i p.memory.station + sum_by (sent_is n i) p.frames ≤ keeps n i m.station
  store : (e : SentHow) → p.failed ≡ Ok e → ⊥

ok_err : {A E : Type 0} (a : A) (x : E) → Ok a ≡ Err x → ⊥
ok_err a x e = cc

err_ok : {A E : Type 0} (x : E) (a : A) → Err x ≡ Ok a → ⊥
err_ok x a e = cc

abbrev AnyWord : RingWord → Type 0
AnyWord w = Unit {0}

send_is_kept : (n i : ℕ) (some : 0 < n) (m : Memory) (to : ℕ) (datagram : List ℕ) (note now : ℕ)
    → SendKept n i m (weigh n note (below i (length datagram))) (of_station m (calls.send m.station to datagram note now))
unfolding resting
send_is_kept n i some m to datagram note now =
    by_form _ (send_is AnyWord (call_given 0 note now) m.station to datagram (λ low high. tt)) (send_kept n i some m to datagram note now)
  where
    by_form : (p : Plan StationMemory (Result SentHow SendRefusal))
        → Planned alone calls.sending_ends m.station Nothing (λ d (a : SentHow). Made AnyWord (call_given 0 note now) (empty_draft m.station) d
        × Few m.station d) p → BodiesKept n i (weigh n note (below i (length datagram))) (up_by (λ (h : SentHow). 0)) m (of_station m p)
        → SendKept n i m (weigh n note (below i (length datagram))) (of_station m p)
    by_form p (Refuses reason) k =
        record { taken = λ h e. absurd (err_ok reason h e); refused = λ x e. omega arith; store = λ h e. absurd (err_ok calls.sending_ends.store h e) }
    by_form p (Keeps l answer none) k = absurd none
    by_form p (Ended d answer done left) k = record {
      taken = λ h e. let x = k.kept in omega arith;
      refused = λ x e. absurd (ok_err answer x e);
      store = λ h e. absurd (err_ok calls.sending_ends.store h e);
    }

-- what a taken send weighs
abbrev taken_is : ℕ → Result SentHow SendRefusal → ℕ
taken_is weight (Ok h) = weight
taken_is weight (Err e) = 0

record DidSend (n i weight : ℕ) (x : Node) (d : NodeStep (Result SentHow SendRefusal)) : Type 0 where
  kept : node_keeps n i d.node.memory + sum_by (sent_is n i) d.frames ≤ node_keeps n i x.memory + taken_is weight d.answer

by_taken : (n i weight : ℕ) (m : Memory) (p : Plan Memory (Result SentHow SendRefusal)) → SendKept n i m weight p
    → keeps n i p.memory.station + sum_by (sent_is n i) p.frames ≤ keeps n i m.station + taken_is weight p.answer
by_taken n i weight m p k = by_answer p.answer refl
  where
    by_answer : (a : Result SentHow SendRefusal) → p.answer ≡ a
        → keeps n i p.memory.station + sum_by (sent_is n i) p.frames ≤ keeps n i m.station + taken_is weight a
    by_answer (Ok h) e = k.taken h e
    by_answer (Err x) e = let y = k.refused x e in omega arith

send_did : (n i weight : ℕ) (x : Node) (plan : Memory → Plan Memory (Result SentHow SendRefusal)) → ((m : Memory) → SendKept n i m weight (plan m))
    → DidSend n i weight x (acts x (Err sends.Halted) plan)
unfolding acts
send_did n i weight x plan f = by_memory x.memory refl
  where
    carried : (m : Memory) → x.memory ≡ Some m → DidSend n i weight x (left_by x (carry_out x.store.records x.store.cut (plan m)))
    carried m e = ⊎_elim finished cut_off (clean x.store.records x.store.cut (plan m))
      where
        before : node_keeps n i x.memory ≡ keeps n i m.station
        before = ap (node_keeps n i) e

        finished : IsWhole x.store.records x.store.cut (plan m) (carry_out x.store.records x.store.cut (plan m))
            → DidSend n i weight x (left_by x (carry_out x.store.records x.store.cut (plan m)))
        finished w = record { kept = let b = before in let h = by_taken n i weight m (plan m) (f m) in rw (w.memory, w.frames, w.answer) (omega arith) }

        cut_off : IsCutOff x.store.records x.store.cut (plan m) (carry_out x.store.records x.store.cut (plan m))
            → DidSend n i weight x (left_by x (carry_out x.store.records x.store.cut (plan m)))
        cut_off c = record { kept = rw (c.memory, c.frames) zero-le }

    by_memory : (o : Option Memory) → x.memory ≡ o
        → DidSend n i weight x (option_map_or (λ m. left_by x (carry_out x.store.records x.store.cut (plan m))) o (stays x (Err sends.Halted)))
    by_memory None e = record { kept = omega arith }
    by_memory (Some m) e = carried m e

-- the word of a refused send counts as none taken
pub word_refused : (e : SendRefusal) → is_taken (send_word e) ≡ false
word_refused sends.Halted = refl
word_refused sends.NotJoined = refl
word_refused sends.BadSize = refl
word_refused sends.ToSelf = refl
word_refused sends.WaitingFull = refl
word_refused sends.SeqSpent = refl
word_refused sends.CounterSpent = refl
word_refused sends.Store = refl

pub word_taken : (h : SentHow) → is_taken (sent_word (Ok h)) ≡ true
word_taken how.Sent = refl
word_taken how.Waiting = refl

-- the next send is issued, and it was not before
issues : (n i sends size : ℕ) → 0 < n → issued n sends + weigh n (sends + 1) (below i size) ≤ issued n (sends + 1)
issues n i sends size some = grind (arith, nat_tests)

module _ (ciphers : Ciphers) (live : World → Flight → Bool) (opens : OpensWhatItSeals ciphers) (w : World) (from to : ℕ) (datagram : List ℕ) (x : Node)
    (here : slice_get w.nodes from ≡ Some x) (address : ℕ) (before : List Handed) where
  abbrev sends_it : NodeStep (Result SentHow SendRefusal)
  sends_it = acts x (Err sends.Halted) (λ m. of_station m (calls.send m.station address datagram (w.sends + 1) w.clock))

  abbrev after : World
  after = (sending ciphers w from to datagram (tag_of x) (answering sent_word sends_it)).0

  pub send_in_custody : IsInCustody ciphers live w before → All IsSent sends_it.frames → LiveFalls live w after None → IsInCustody ciphers live after before
  unfolding world_after
  send_in_custody held sent falls = record {
    at_most = λ n i some.
        let weight : ℕ = weigh n (w.sends + 1) (below i (length datagram)) in
        let d = send_did n i weight x (λ m. of_station m (calls.send m.station address datagram (w.sends + 1) w.clock))
        (λ m. send_is_kept n i some m address datagram (w.sends + 1) w.clock) in
        let fly = sent_flies ciphers opens n i from sends_it.frames sent in
        let k = d.kept in
        let more = issues_by n i some sends_it.answer in
        let node : OneNode w after x sends_it.node (flights_of ciphers from sends_it) = one_node _ in
        subst (λ (us : List Handed). places ciphers live n i after us ≤ issued n after.sends) (append-nil before)
        (custody_after ciphers live n i w after x sends_it.node (flights_of ciphers from sends_it) before [] None (taken_is weight sends_it.answer) node falls
        (record { kept = omega arith }) more (held.at_most n i some));
  }
    where
      one_node : (b : Bool) → OneNode w (sent_if w from to datagram (tag_of x) b (node_outcome ciphers w from (answering sent_word sends_it))).0 x sends_it.node
          (flights_of ciphers from sends_it)
      one_node true = record { number = from; here = here; nodes = refl; flights = refl }
      one_node false = record { number = from; here = here; nodes = refl; flights = refl }

      issues_by : (n i : ℕ) → 0 < n → (a : Result SentHow SendRefusal)
          → issued n w.sends + taken_is (weigh n (w.sends + 1) (below i (length datagram))) a
          ≤ issued n (sent_if w from to datagram (tag_of x) (is_taken (sent_word a)) (node_outcome ciphers w from (answering sent_word sends_it))).0.sends
      issues_by n i some (Ok h) = rw (word_taken h) (issues n i w.sends (length datagram) some)
      issues_by n i some (Err e) = rw (word_refused e) (omega arith)

-- # Time

-- each node keeps no more
mapped_sum : {X : Type 0} (f : X → ℕ) (g : X → X) → ((x : X) → f (g x) ≤ f x) → (xs : List X) → sum_by f (map g xs) ≤ sum_by f xs
mapped_sum f g less [] = zero-le
mapped_sum f g less (x ∷ xs) =
    let one = less x in
    let rest = mapped_sum f g less xs in
    rw (sum_by-cons f (g x) (map g xs), sum_by-cons f x xs) (omega arith)

ticked_keeps : (n i : ℕ) → 0 < n → (now : ℕ) (x : Node) → node_keeps n i (ticked now x).memory ≤ node_keeps n i x.memory
ticked_keeps n i some now x = by_memory x.memory x.role
  where
    by_memory : (o : Option Memory) (role : Role) → node_keeps n i (ticked now (record x { role = role; memory = o })).memory ≤ node_keeps n i o
    by_memory None role = zero-le
    by_memory (Some m) Coordinator = tick_kept n i some m now
    by_memory (Some m) (Meter psk) = tick_kept n i some m now

-- time passes for all nodes at once
pub tick_in_custody : (ciphers : Ciphers) (live : World → Flight → Bool) (w : World) (seconds : ℕ) (before : List Handed) → IsInCustody ciphers live w before
    → let v : World = record (running_world w) { clock = w.clock + seconds; nodes = map (ticked (w.clock + seconds)) w.nodes } in LiveFalls live w v None
    → IsInCustody ciphers live v before
tick_in_custody ciphers live w seconds before held falls = record {
  at_most = λ n i some.
      let h = held.at_most n i some in
      let v : World = record (running_world w) { clock = w.clock + seconds; nodes = map (ticked (w.clock + seconds)) w.nodes } in
      let nodes = mapped_sum (λ (x : Node). node_keeps n i x.memory) (ticked (w.clock + seconds)) (ticked_keeps n i some (w.clock + seconds)) w.nodes in
      let flights : sum_by (live_is ciphers (live v) n i) w.flights
      ≤ sum_by (live_is ciphers (live w) n i) w.flights = sum_by-le-sum_by (live_is ciphers (live v) n i) (live_is ciphers (live w) n i) w.flights
      (λ f. falls_one (live v f) (live w f) (flight_is ciphers n i f) (falls.falls f)) in
      omega arith;
}
  where
    falls_one : (a b : Bool) (k : ℕ) → (a ≡ true → b ≡ true) → cond a k 0 ≤ cond b k 0
    falls_one false b k h = zero-le
    falls_one true true k h = omega arith
    falls_one true false k h = let x = h refl in absurd (cc)
