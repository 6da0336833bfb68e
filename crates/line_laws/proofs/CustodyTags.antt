-- Where tags name one send, a piece that comes has the note of what is gathered under its name; and an unforged arrival keeps all parts at once.
use Rattle.std.proofs.Common.{◌≡◌, ◌≢◌, ⊎_elim, ℕ, ◌<◌, Bool, false, List, [], ◌∷◌, ◌++◌, length, Option, Some, Result, Ok, Err, sym, ap, ◌∙◌, subst, arith}
use Rattle.std.specs.Prelude.{All, IfSome, slice_get, slice_set, ◌==◌, ◌&&◌, ⊤}
use Rattle.std.specs.List.{list_any}
use Rattle.std.specs.Option.{option_to_list}
use Rattle.std.proofs.lemmas.Bool.{eqb-true, and_parts, or_parts, cases_eq}
use Rattle.std.proofs.lemmas.Option.{same_Some}
use Rattle.store_tables.proofs.SlotTables.{slice_get-set, slice_get-set_other}
use Rattle.line_laws.proofs.Worlds.{at_place, within}
use Rattle.line_rules.specs.Answers.{frame_word}
use Rattle.std.proofs.lemmas.List.Elements.{All-head, All-tail}
use Rattle.plc_base.specs.declared.key.Key.{Key}
use Rattle.mesh_header.specs.declared.unit.Mesh.{Mesh}
use Rattle.mesh_header.specs.declared.unit.Unit.TheVariants as units
use Rattle.mesh_header.specs.Pieces.{Placed}
use Rattle.fragment_buffers.specs.Reassembly.{Reassembly, begun}
use Rattle.node_rules.specs.Accepted.{Accepted}
use Rattle.node_rules.specs.declared.refusal.FrameRefusal.{FrameRefusal}
use Rattle.node_rules.specs.declared.refusal.FrameRefusal.TheVariants as frames
use Rattle.node_rules.specs.Ciphers.{Ciphers}
use Rattle.node_rules.specs.Frames.{arrived}
use Rattle.node_rules.specs.Memory.{StationMemory, Memory, Meter, Node}
use Rattle.node_rules.specs.Acceptance.{accept}
use Rattle.node_rules.specs.NodeSteps.{NodeStep, acts, of_station}
use Rattle.line_rules.specs.Steps.{identity, hearing_step, note_by, forged_by, arrives, hearing_outcome, world_after, running_world, trace_of, happenings}
use Rattle.line_rules.specs.Worlds.{Flight, Trace, World, is_forged_tag}
use Rattle.line_events.specs.declared.happenings.Handed.{Handed}
use Rattle.node_rules.specs.Ciphers.{OpensWhatItSeals}
use Rattle.line_laws.specs.Places.{LiveFalls, opened_at}
use Rattle.line_laws.specs.Sends.{SentAs, HeldIsOf}
use Rattle.line_laws.proofs.Made.{IsCome, Given}
use Rattle.line_laws.proofs.NodeCalls.{heard_given}
use Rattle.line_laws.proofs.RangeFrames.{IsSent}
use Rattle.line_laws.proofs.RangeArrives.{NodeRanged, JoinsWell, accepts_ranged, heard_frames, arrives_ranged}
use Rattle.line_laws.proofs.CustodyPieces.{NameHasNote}
use Rattle.line_laws.proofs.CustodyPlans.{Agrees}
use Rattle.line_laws.proofs.CustodyWhole.{OneSend}
use Rattle.line_laws.proofs.CustodyGrants.{TakesHome}
use Rattle.line_laws.proofs.CustodyTrue.{StationIsTrue, HearsTrue, DidTrue, acts_true}
use Rattle.line_laws.proofs.CustodyDeliver.{opening, arrival_in_custody}
use Rattle.line_laws.proofs.CustodyArrives.{NodeTrue, HandedIsOf, accepts_true, came_true, arrives_true}
pub use Rattle.line_laws.specs.InCustody.{Custody}

-- two sends in pieces from one origin under one tag are one send
abbrev pub TagsDiffer : (ℕ → SentAs → Type 0) → Type 0
TagsDiffer S = (a b : ℕ) (s t : SentAs) → S a s → S b t → 375 < length s.octets → 375 < length t.octets → s.origin ≡ t.origin → s.tag ≡ t.tag → a ≡ b

pub agrees_true : (S : ℕ → SentAs → Type 0) → TagsDiffer S → (own : ℕ) (g : Given) (l : StationMemory) → HearsTrue S g → All (HeldIsOf S own) l.reassemblies
    → Agrees g l
agrees_true S differ own g l comes all = record { name = λ by mesh piece c. each by mesh piece c l.reassemblies all }
  where
    each : (by : ℕ) (mesh : Mesh) (piece : Placed) → IsCome g by false (units.Part mesh piece) → (held : List Reassembly) → All (HeldIsOf S own) held
        → NameHasNote (begun mesh.origin piece g.note g.now) held
    each by mesh piece c [] all = tt
    each by mesh piece c (r ∷ held) all = (
      λ named.
          let parts = and_parts (mesh.origin == r.origin) ((piece.size == r.size) && (piece.tag == r.tag)) named in
          let x = comes.comes by (units.Part mesh piece) c in
          let h = (All-head (HeldIsOf S own) r held all).gathers in
          let origin : mesh.origin ≡ r.origin = eqb-true mesh.origin r.origin parts.0 in
          let tag : piece.tag ≡ r.tag = eqb-true piece.tag r.tag (and_parts _ _ parts.1).1 in
          differ r.note g.note h.sent x.sent h.is x.is h.content.long x.content.long (h.from ∙ sym origin ∙ sym x.from)
          (h.content.tag ∙ sym tag ∙ sym x.content.tag),
      each by mesh piece c held (All-tail (HeldIsOf S own) r held all),
    )

module _ (ciphers : Ciphers) (opens : OpensWhatItSeals ciphers) (live : World → Flight → Bool) (S : ℕ → SentAs → Type 0) (one : OneSend S)
    (differ : TagsDiffer S) (home : ℕ → ℕ) (w : World) (before : List Handed) (c : Custody ciphers live S home w before)
    (number : ℕ) (x : Node) (here : slice_get w.nodes number ≡ Some x) (octets : List ℕ) (cost : ℕ) where
  abbrev accepting : NodeStep (Result Accepted FrameRefusal)
  accepting = acts x (Err frames.Halted) (λ m. of_station m (accept m.station x.eui (arrived ciphers octets)))

  -- what was accepted leaves what is gathered
  first_true : DidTrue S (home number) (λ (a : Accepted). ⊤) accepting
  first_true = acts_true S (home number) (λ (a : Accepted). ⊤) x frames.Halted (λ m. of_station m (accept m.station x.eui (arrived ciphers octets)))
      (c.nodes number x here)
      (λ m e h. accepts_true ciphers opens S one w c.flights c.sent number (home number) x octets cost m h)

  pub arrival_agrees : (got : Accepted) → accepting.answer ≡ Ok got → forged_by w octets got.path ≡ false → (m : Memory) → accepting.node.memory ≡ Some m
      → Agrees (heard_given got cost (note_by w octets got.path) w.clock) m.station
  arrival_agrees got e unforged m there =
      let o = opening ciphers opens w c.flights number x octets cost 1 0 (omega arith) got e unforged in
      let station : StationIsTrue S (home number) m.station = subst (λ (n : Option Memory). IfSome n (λ (k : Memory). StationIsTrue S (home number) k.station))
      there first_true.station in
      agrees_true S differ (home number) (heard_given got cost (note_by w octets got.path) w.clock) m.station
      (came_true ciphers opens S one w c.flights c.sent number (home number) x octets cost got o.what) station.held

  -- the second plan's frame is not forged
  unforged_by : (arrives ciphers w number x octets cost).1.happenings.forged ≡ false → (got : Accepted) → accepting.answer ≡ Ok got
      → forged_by w octets got.path ≡ false
  unfolding arrives
  unforged_by unforged got e = by_answer accepting.answer e unforged
    where
      after : Result Accepted FrameRefusal → World × Trace
      after (Ok a) = hearing_outcome ciphers w number accepting.node octets a cost
      after (Err reason) = (world_after ciphers (running_world w) number accepting, trace_of (happenings w (frame_word reason)))

      by_answer : (a : Result Accepted FrameRefusal) → a ≡ Ok got → (after a).1.happenings.forged ≡ false → forged_by w octets got.path ≡ false
      by_answer (Ok g) is h = let same : g ≡ got = cc in subst (λ (k : Accepted). forged_by w octets k.path ≡ false) same (or_parts _ _ h).0
      by_answer (Err reason) is h = absurd (cc)

  -- and no tag that it opened is
  pub untagged_by : (arrives ciphers w number x octets cost).1.happenings.forged ≡ false → (got : Accepted) → accepting.answer ≡ Ok got
      → list_any (is_forged_tag w.made) (hearing_step ciphers accepting.node got cost (note_by w octets got.path) w.clock).opened ≡ false
  unfolding arrives
  untagged_by unforged got e = by_answer accepting.answer e unforged
    where
      after : Result Accepted FrameRefusal → World × Trace
      after (Ok a) = hearing_outcome ciphers w number accepting.node octets a cost
      after (Err reason) = (world_after ciphers (running_world w) number accepting, trace_of (happenings w (frame_word reason)))

      by_answer : (a : Result Accepted FrameRefusal) → a ≡ Ok got → (after a).1.happenings.forged ≡ false
          → list_any (is_forged_tag w.made) (hearing_step ciphers accepting.node got cost (note_by w octets got.path) w.clock).opened ≡ false
      by_answer (Ok g) is h = let same : g ≡ got = cc in
          subst (λ (k : Accepted). list_any (is_forged_tag w.made) (hearing_step ciphers accepting.node k cost (note_by w octets k.path) w.clock).opened
          ≡ false) same
          (or_parts _ _ h).1
      by_answer (Err reason) is h = absurd (cc)

  -- All parts at once: what is owed are marks and counters, addresses, and the words of a joining.
  pub arrival_keeps : ((got : Accepted) → accepting.answer ≡ Ok got
      → ((psk : Key) (m : Memory) → accepting.node.role ≡ Meter psk → accepting.node.memory ≡ Some m
      → TakesHome (home number) got cost (note_by w octets got.path) w.clock (identity ciphers accepting.node psk) m)
      × JoinsWell ciphers accepting.node got cost (note_by w octets got.path) w.clock)
      → (arrives ciphers w number x octets cost).1.happenings.forged ≡ false
      → LiveFalls live w (arrives ciphers w number x octets cost).0 (opened_at w octets accepting.answer)
      → Custody ciphers live S home (arrives ciphers w number x octets cost).0
      (before ++ option_to_list (arrives ciphers w number x octets cost).1.happenings.up)
      × ((u : Handed) → (arrives ciphers w number x octets cost).1.happenings.up ≡ Some u → HandedIsOf S (home number) u.note u.octets)
  arrival_keeps owed unforged falls =
      let ok : NodeRanged x = at_place NodeRanged w.nodes number x here c.ranged in
      let sent : All IsSent accepting.frames = (accepts_ranged ciphers opens w c.flights number x octets cost ok).frames in
      let well : (got : Accepted) → accepting.answer ≡ Ok got → ((psk : Key) (m : Memory) → accepting.node.role ≡ Meter psk → accepting.node.memory ≡ Some m
      → TakesHome (home number) got cost (note_by w octets got.path) w.clock (identity ciphers accepting.node psk) m)
      × ((m : Memory) → accepting.node.memory ≡ Some m → Agrees (heard_given got cost (note_by w octets got.path) w.clock) m.station)
      × All IsSent (hearing_step ciphers accepting.node got cost (note_by w octets got.path) w.clock).frames
      = λ got e. (
        (owed got e).0,
        arrival_agrees got e (unforged_by unforged got e),
        (heard_frames ciphers opens w c.flights number x octets cost got e (unforged_by unforged got e) ok (owed got e).1).frames,
      ) in
      let ranged = arrives_ranged ciphers opens w c.flights number x octets cost c.ranged ok (λ got e. (owed got e).1) unforged in
      let true_now = arrives_true ciphers opens S one w c.flights c.sent number (home number) x octets cost (c.nodes number x here) sent well unforged in
      let places = arrival_in_custody ciphers live opens w c.flights number x here octets cost before c.places sent (λ got e. let p = well got e in (p.1, p.2))
      unforged falls in (
        record {
          flights = ranged.flights;
          ranged = ranged.nodes;
          sent = true_now.flights;
          nodes = others (arrives ciphers w number x octets cost).0 true_now.node true_now.nodes true_now.is;
          places = places;
        },
        true_now.up,
      )
    where
      others : (v : World) (y : Node) → v.nodes ≡ slice_set w.nodes number y → NodeTrue S (home number) y → (k : ℕ) (z : Node) → slice_get v.nodes k ≡ Some z
          → NodeTrue S (home k) z
      others v y same is k z there = ⊎_elim
          (λ (e : k ≡ number).
          let got : y ≡ z = same_Some y z (sym (slice_get-set w.nodes number y (within w.nodes number x here))
          ∙ ap (slice_get (slice_set w.nodes number y)) (sym e) ∙ ap (λ ns. slice_get ns k) (sym same) ∙ there) in
          subst (λ (a : ℕ). NodeTrue S (home a) z) (sym e) (subst (NodeTrue S (home number)) got is))
          (λ (e : k ≢ number). c.nodes k z (sym (slice_get-set_other w.nodes number k y e) ∙ ap (λ ns. slice_get ns k) (sym same) ∙ there))
          (cases_eq k number)
