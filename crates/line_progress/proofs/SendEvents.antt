-- What an event makes of a datagram that is to be sent, whatever power is lost.
use Rattle.std.proofs.Common.{arith, ◌<◌, ◌≤◌, ◌≡◌, ℕ, zero, suc, ◌+◌, Bool, true, false, List, [], ◌∷◌, ◌++◌, length, map, Option, Some, Result, Ok, Err}
use Rattle.std.proofs.Common.{refl, sym, ap, subst, ◌∙◌}
use Rattle.std.specs.Prelude.{slice_get}
use Rattle.std.specs.Option.{option_map, option_and_then}
use Rattle.std.proofs.lemmas.List.{append-nil}
use Rattle.store_tables.proofs.SlotTables.{slice_get-set}
use Rattle.node_rules.specs.declared.heard.SentHow.{SentHow}
use Rattle.node_rules.specs.declared.heard.SentHow.TheVariants as how_of
use Rattle.node_rules.specs.declared.refusal.SendRefusal.{SendRefusal}
use Rattle.node_rules.specs.declared.refusal.SendRefusal.TheVariants as refusals
use Rattle.node_rules.specs.Calls.{Sending, send}
use Rattle.node_rules.specs.Ciphers.{Ciphers}
use Rattle.fragment_buffers.specs.Loads.{all_go, units_of}
use Rattle.node_rules.specs.Drafts.{sealed_by}
use Rattle.node_rules.specs.Frames.{Sent, spelled}
use Rattle.node_rules.specs.Memory.{StationMemory, Memory, Node, Datagram, address_of, next_hop}
use Rattle.node_rules.specs.NodeSteps.{NodeStep, acts, answering, of_station}
use Rattle.node_rules.proofs.Refusals as refused
use Rattle.line_rules.specs.Answers.{sent_word, send_word}
use Rattle.line_rules.specs.Steps.{flight_by, is_taken, node_outcome, sending, sends_by, sent_if, tag_of}
use Rattle.line_rules.specs.Steps.{world_after}
use Rattle.line_rules.specs.Worlds.{World, Trace, node_at}
use Rattle.line_progress.specs.SendFates.{SendFate, WentOut, Waits, Refused, SendEventFate, Flew, Stayed, NotTaken, SendEventsHaveFates}
use Rattle.line_progress.proofs.SendFates.{send_fates}
use Rattle.line_progress.proofs.SentDatagrams.{steps_so}
use Rattle.line_progress.proofs.WholePlans.{Acted, Whole, Failed, acts_either}

pub inside : {A : Type 0} (xs : List A) (k : ℕ) (x : A) → slice_get xs k ≡ Some x → k < length xs
inside [] k x e = absurd (cc)
inside (y ∷ ys) zero x e = omega arith
inside (y ∷ ys) (suc k) x e = let less = inside ys k x e in omega arith

refusal_not_taken : (reason : SendRefusal) → is_taken (send_word reason) ≡ false
refusal_not_taken refusals.Halted = refl
refusal_not_taken refusals.NotJoined = refl
refusal_not_taken refusals.BadSize = refl
refusal_not_taken refusals.ToSelf = refl
refusal_not_taken refusals.WaitingFull = refl
refusal_not_taken refusals.SeqSpent = refl
refusal_not_taken refusals.CounterSpent = refl
refusal_not_taken refusals.Store = refl

module _ (ciphers : Ciphers) (w : World) (from to dest : ℕ) (datagram : List ℕ) (l : StationMemory) (tag : ℕ) (x : Node)
    (there : node_at w from ≡ Some x) where
  abbrev After : NodeStep (Result SentHow SendRefusal) → World × Trace
  After d = sending ciphers w from to datagram tag (answering sent_word d)

  none_taken : (d : NodeStep (Result SentHow SendRefusal)) (reason : SendRefusal) → d.answer ≡ Err reason → d.frames ≡ []
      → SendEventFate ciphers w from dest datagram l (After d)
  unfolding world_after
  none_taken d reason a f =
      let not : is_taken (sent_word d.answer) ≡ false = ap (λ r. is_taken (sent_word r)) a ∙ refusal_not_taken reason in
      subst (λ b. SendEventFate ciphers w from dest datagram l (sent_if w from to datagram tag b (node_outcome ciphers w from (answering sent_word d))))
      (sym not)
      (NotTaken not (ap (λ (fs : List Sent). w.flights ++ map (λ (frame : Sent). flight_by from (spelled ciphers frame)) fs) f ∙ append-nil w.flights) refl)

  taken : (d : NodeStep (Result SentHow SendRefusal)) (how : SentHow) → d.answer ≡ Ok how
      → ((b : Bool) → b ≡ true → SendEventFate ciphers w from dest datagram l
      (sent_if w from to datagram tag true (node_outcome ciphers w from (answering sent_word d))))
      → SendEventFate ciphers w from dest datagram l (After d)
  taken d how_of.Sent a fate =
      subst (λ b. SendEventFate ciphers w from dest datagram l (sent_if w from to datagram tag b (node_outcome ciphers w from (answering sent_word d))))
      (sym (ap (λ r. is_taken (sent_word r)) a)) (fate true refl)
  taken d how_of.Waiting a fate =
      subst (λ b. SendEventFate ciphers w from dest datagram l (sent_if w from to datagram tag b (node_outcome ciphers w from (answering sent_word d))))
      (sym (ap (λ r. is_taken (sent_word r)) a)) (fate true refl)

  it_stays : (d : NodeStep (Result SentHow SendRefusal)) (now : StationMemory) → d.answer ≡ Ok how_of.Waiting
      → option_map (λ (n : Memory). n.station) d.node.memory ≡ Some now
      → now.waiting ≡ l.waiting ++ record { to = dest; note = w.sends + 1; since = w.clock; load = Datagram datagram l.next_tag } ∷ []
      → SendEventFate ciphers w from dest datagram l (sent_if w from to datagram tag true (node_outcome ciphers w from (answering sent_word d)))
  unfolding world_after
  it_stays d now a memory waiting =
      Stayed now (ap sent_word a)
      (ap (λ (o : Option Node). option_and_then (λ (y : Node). option_map (λ (n : Memory). n.station) y.memory) o)
      (slice_get-set w.nodes from d.node (inside w.nodes from x there)) ∙ memory) waiting

  it_flies : (d : NodeStep (Result SentHow SendRefusal)) (frames : List Sent) (own hop : ℕ) → length datagram ≤ 1280
      → address_of l ≡ Some own → next_hop l dest ≡ Some hop
      → d.answer ≡ Ok how_of.Sent → d.frames ≡ frames
      → frames ≡ sealed_by l.ring l.counter.next (all_go hop (w.sends + 1) (units_of own dest (Datagram datagram l.next_tag)))
      → SendEventFate ciphers w from dest datagram l (sent_if w from to datagram tag true (node_outcome ciphers w from (answering sent_word d)))
  unfolding world_after
  it_flies d frames own hop short address route a f is =
      Flew own hop short address route (ap sent_word a)
      (ap (λ (fs : List Sent). w.flights ++ map (λ (frame : Sent). flight_by from (spelled ciphers frame)) fs) (f ∙ is))

  by_fate : (d : NodeStep (Result SentHow SendRefusal)) (p : Sending) → d.answer ≡ p.answer → d.frames ≡ p.frames
      → option_map (λ (n : Memory). n.station) d.node.memory ≡ Some p.memory → SendFate l dest datagram (w.sends + 1) w.clock p
      → SendEventFate ciphers w from dest datagram l (After d)
  by_fate d p a f memory (WentOut own hop short address route is frames) =
      taken d how_of.Sent (a ∙ is) (λ b e. it_flies d p.frames own hop short address route (a ∙ is) f frames)
  by_fate d p a f memory (Waits is waiting) = taken d how_of.Waiting (a ∙ is) (λ b e. it_stays d p.memory (a ∙ is) memory waiting)
  by_fate d p a f memory (Refused reason is same none) = none_taken d reason (a ∙ is) (f ∙ none)

pub send_outcome : (ciphers : Ciphers) (w : World) (from to dest : ℕ) (datagram : List ℕ) (x : Node) (m : Memory) → node_at w from ≡ Some x
    → x.memory ≡ Some m → SendEventFate ciphers w from dest datagram m.station (sends_by ciphers w from to datagram x (Some dest))
send_outcome ciphers w from to dest datagram x m there runs =
    by_act (acts_either x m (Err refusals.Halted) (λ (n : Memory). of_station n (send n.station dest datagram (w.sends + 1) w.clock)) runs)
  where
    by_act : Acted (of_station m (send m.station dest datagram (w.sends + 1) w.clock))
        (acts x (Err refusals.Halted) (λ n. of_station n (send n.station dest datagram (w.sends + 1) w.clock)))
        → SendEventFate ciphers w from dest datagram m.station (sends_by ciphers w from to datagram x (Some dest))
    by_act (Whole a f e) =
        by_fate ciphers w from to dest datagram m.station (tag_of x) x there
        (acts x (Err refusals.Halted) (λ n. of_station n (send n.station dest datagram (w.sends + 1) w.clock)))
        (send m.station dest datagram (w.sends + 1) w.clock) a f (ap (λ (o : Option Memory). option_map (λ (n : Memory). n.station) o) e)
        (send_fates m.station dest datagram (w.sends + 1) w.clock)
    by_act (Failed a f e) =
        none_taken ciphers w from to dest datagram m.station (tag_of x) x there
        (acts x (Err refusals.Halted) (λ n. of_station n (send n.station dest datagram (w.sends + 1) w.clock))) refusals.Store
        (a ∙ (refused.sends_refused m.station dest datagram (w.sends + 1) w.clock).0.0) f

pub send_event_fates : SendEventsHaveFates
send_event_fates ciphers w from to dest datagram x y m there target address runs = (
  sends_by ciphers w from to datagram x (Some dest),
  steps_so ciphers w from to datagram x y dest there target address,
  send_outcome ciphers w from to dest datagram x m there runs,
)
