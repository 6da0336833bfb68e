-- What is known of an event of a run without a forged event, and what a node makes of a frame that it accepts in it.
use Rattle.std.proofs.Common.{◌≡◌, ℕ, ◌+◌, Bool, true, false, List, [], ◌∷◌, ◌++◌, Option, Some, Result, Ok}
use Rattle.std.proofs.Common.{refl, sym, ap, ◌∙◌, subst, arith}
use Rattle.std.specs.Prelude.{All, AllPairs, IfSome}
use Rattle.std.proofs.lemmas.Option.{same_Some}
use Rattle.plc_base.specs.declared.key.Key.{Key}
use Rattle.mesh_header.specs.declared.unit.Mesh.{Mesh}
use Rattle.mesh_header.specs.declared.unit.Unit.{Unit as MeshUnit}
use Rattle.mesh_header.specs.declared.unit.Unit.TheVariants as units
use Rattle.mesh_header.specs.Pieces.{Placed}
use Rattle.mesh_header.specs.Reader.{unit_in}
use Rattle.fragment_buffers.specs.Reassembly.{Reassembly, begun, placed}
use Rattle.fragment_buffers.specs.PieceIntake.{same_name}
use Rattle.node_rules.specs.Accepted.{Accepted}
use Rattle.node_rules.specs.declared.heard.Path.TheVariants as paths
use Rattle.node_rules.specs.declared.refusal.FrameRefusal.{FrameRefusal}
use Rattle.node_rules.specs.Ciphers.{network}
use Rattle.node_rules.specs.Memory.{StationMemory, Memory, Node}
use Rattle.node_rules.proofs.NetworkOpens.{network_opens_again}
use Rattle.line_events.specs.Events.{IsEvent}
use Rattle.line_events.specs.declared.happenings.Handed.{Handed}
use Rattle.line_rules.specs.Forgery.{AcceptsSealed, Comes, IsForged, accepting}
use Rattle.line_rules.specs.Further.{comes, line_step}
use Rattle.line_rules.specs.Nonces.{HasAnotherNonce}
use Rattle.line_rules.specs.Runs.{Entry, issued, sends, takings, ups}
use Rattle.line_rules.specs.Steps.{forged_by, note_by}
use Rattle.line_rules.specs.Worlds.{World, Flight, Sending, is_forged_frame, node_at}
use Rattle.line_laws.specs.InCustody.{NodeTrue, SentUnder, StationIsTrue}
use Rattle.line_laws.specs.Later.{Holds}
use Rattle.line_laws.specs.Live.{FlightsFall, live}
use Rattle.line_laws.specs.Sends.{HeldIsOf, SentAs}
use Rattle.line_laws.specs.Tags.{TagRises}
use Rattle.line_laws.proofs.CustodyArrives.{came_true}
use Rattle.line_laws.proofs.CustodyDeliver.{WasFlown, opening}
use Rattle.line_laws.proofs.CustodyPieces.{NameHasNote}
use Rattle.line_laws.proofs.CustodyRuns.{one_send, tags_differ}
use Rattle.line_laws.proofs.CustodyTags.{agrees_true, arrival_agrees}
use Rattle.line_laws.proofs.ForgeryRight.{none_flew}
use Rattle.line_laws.proofs.Made.{IsCome}
use Rattle.line_laws.proofs.NodeCalls.{heard_given}
use Rattle.line_laws.proofs.TracesRight.{comes_is, is_same}
use Rattle.line_progress.specs.Lists.{Among, Here, Later}
use Rattle.line_progress.specs.Stations.{station_at}
use Rattle.line_progress.specs.Ups.{Began, DatagramCame, Grew, HandedFrom, HasTaken, LastPiece, OneUnit}
use Rattle.line_progress.proofs.EventReports.{datagrams_came}
use Rattle.line_laws.proofs.Worlds.{at_place}
use Rattle.run_laws.proofs.OctetPlaces.{runs_at}
use Rattle.run_laws.proofs.FateFlights.{was_flown}

-- # What is known

-- What holds before and after an event of a run that is not forged.
pub record Known (home : ℕ → ℕ) (all : List Sending) (before : List Entry) (w : World) (x : Entry) : Type 0 where
  pub holds : Holds (issued before) (sends before) (takings before) all home (ups before) w
  pub differ : AllPairs HasAnotherNonce w.flights
  pub says : IsEvent x.event
  pub step : line_step network w x.event ≡ Ok (x.after, x.trace)
  pub honest : x.trace.happenings.forged ≡ false
  pub right : IsForged network w x.event x.trace.opened → x.trace.happenings.forged ≡ true
  pub falls : FlightsFall network w x
  pub after : Holds (issued (before ++ x ∷ [])) (sends (before ++ x ∷ [])) (takings (before ++ x ∷ [])) all home (ups (before ++ x ∷ [])) x.after
  pub differ_after : AllPairs HasAnotherNonce x.after.flights

-- # Options

pub if_some : {A : Type 0} (P : A → Type 0) (o : Option A) (a : A) → IfSome o P → o ≡ Some a → P a
if_some P o a h e = subst (λ q. IfSome q P) e h

-- # Notes

-- the reassembly of a name among them has the note
pub named_note : (anew r : Reassembly) (held : List Reassembly) → NameHasNote anew held → Among r held → same_name anew r ≡ true → r.note ≡ anew.note
named_note anew r held agrees (Here rest) named = agrees.0 named
named_note anew r held agrees (Later y rest more) named = named_note anew r rest agrees.1 more named

module _ (home : ℕ → ℕ) (apart : (i j : ℕ) → home i ≡ home j → i ≡ j) (all : List Sending) (rises : AllPairs TagRises all)
    (before : List Entry) (w : World) (x : Entry) (k : Known home all before w x) where
  abbrev S : ℕ → SentAs → Type 0
  S = SentUnder home all

  pub flew : (octets : List ℕ) (key : Key) → AcceptsSealed network w x.event octets key → WasFlown w.flights octets key
  flew = was_flown w x k.right k.honest

  pub unforged : (octets : List ℕ) (key : Key) → WasFlown w.flights octets key → is_forged_frame w.flights octets key ≡ false
  unforged octets key was = by_test (is_forged_frame w.flights octets key) refl
    where
      by_test : (b : Bool) → is_forged_frame w.flights octets key ≡ b → b ≡ false
      by_test true e =
          absurd (at_place (λ (f : Flight). (f.octets ≡ octets) × (f.key ≡ Some key) → ⊥) w.flights was.place was.flight
          was.there (none_flew w.flights octets key e) (was.octets_are, was.key_is))
      by_test false e = refl

  -- a node of the world after it holds what is of the sends
  held_after : (number : ℕ) (l : StationMemory) → station_at x.after number ≡ Some l → All (HeldIsOf S (home number)) l.reassemblies
  held_after number l there =
      let r = runs_at x.after number l there in
      let true_node : NodeTrue S (home number) r.node = k.after.custody.nodes number r.node r.there in
      let station : StationIsTrue S (home number) r.memory.station =
      if_some (λ (m : Memory). StationIsTrue S (home number) m.station) r.node.memory r.memory true_node r.runs in
      subst (λ (s : StationMemory). All (HeldIsOf S (home number)) s.reassemblies) r.is station.held

  module _ (number cost : ℕ) (node : Node) (octets : List ℕ) (got : Accepted) (there : node_at w number ≡ Some node)
      (is : (accepting network node octets).answer ≡ Ok got) (honest : forged_by w octets got.path ≡ false) where
    -- names have notes at the node as it was, and as it is
    pub agrees_then : (m : Memory) → (accepting network node octets).node.memory ≡ Some m → (by : ℕ) (mesh : Mesh) (piece : Placed)
        → IsCome (heard_given got cost (note_by w octets got.path) w.clock) by false (units.Part mesh piece)
        → NameHasNote (begun mesh.origin piece (note_by w octets got.path) w.clock) m.station.reassemblies
    agrees_then m left =
        (arrival_agrees network network_opens_again live S (one_send home apart all rises) (tags_differ home apart all rises) home w (ups before)
        k.holds.custody number node there octets cost got is honest m left).name

    pub agrees_now : (l : StationMemory) → station_at x.after number ≡ Some l → (by : ℕ) (mesh : Mesh) (piece : Placed)
        → IsCome (heard_given got cost (note_by w octets got.path) w.clock) by false (units.Part mesh piece)
        → NameHasNote (begun mesh.origin piece (note_by w octets got.path) w.clock) l.reassemblies
    agrees_now l at =
        let c = k.holds.custody in
        let o = opening network network_opens_again w c.flights number node octets cost 1 0 (omega arith) got is honest in
        (agrees_true S (tags_differ home apart all rises) (home number) (heard_given got cost (note_by w octets got.path) w.clock) l
        (came_true network network_opens_again S (one_send home apart all rises) w c.flights c.sent number (home number) node octets cost got o.what)
        (held_after number l at)).name

  -- what is handed up has the note of the frame that is accepted
  module _ (number cost : ℕ) (node : Node) (octets : List ℕ) (got : Accepted) (comes_here : Comes w x.event number octets)
      (there : node_at w number ≡ Some node) (is : (accepting network node octets).answer ≡ Ok got) (honest : forged_by w octets got.path ≡ false) where
    taken_note : (m : Memory) → (accepting network node octets).node.memory ≡ Some m → (by : ℕ) (key : Key) → got.path ≡ paths.Sealed by false key
        → (mesh : Mesh) (piece : Placed) → unit_in got.payload ≡ Some (units.Part mesh piece) → (r : Reassembly)
        → HasTaken m.station.reassemblies (begun mesh.origin piece (note_by w octets got.path) w.clock) (placed piece) r → r.note ≡ note_by w octets got.path
    taken_note m left by key path mesh piece read r (Began same) = ap (λ (s : Reassembly). s.note) same
    taken_note m left by key path mesh piece read r (Grew s among named over same) =
        ap (λ (q : Reassembly). q.note) same
        ∙ named_note (begun mesh.origin piece (note_by w octets got.path) w.clock) s m.station.reassemblies
        (agrees_then number cost node octets got there is honest m left by mesh piece
        (record { got = got; is = refl; key = key; path = path; unit = read })) among named

    pub handed_note : (u : Handed) → x.trace.happenings.up ≡ Some u → u.note ≡ note_by w octets got.path
    handed_note u up = by_came (if_some (DatagramCame network w x.event) x.trace.happenings.up u
        (datagrams_came network w x.after x.event x.trace k.step) up)
      where
        by_handed : (m : Memory) → (accepting network node octets).node.memory ≡ Some m → (by : ℕ) (key : Key) → got.path ≡ paths.Sealed by false key
            → (unit : MeshUnit) → unit_in got.payload ≡ Some unit → (origin n : ℕ) (whole : List ℕ)
            → HandedFrom m.station unit origin (note_by w octets got.path) w.clock n whole → n ≡ note_by w octets got.path
        by_handed m left by key path unit read origin n whole (OneUnit mesh of to from noted) = noted
        by_handed m left by key path unit read origin n whole (LastPiece mesh piece r of to from has full part noted) =
            noted ∙ taken_note m left by key path mesh piece (read ∙ ap Some of) r has

        ok_ok : (g h : Accepted) → (let r : Result Accepted FrameRefusal = Ok g in r ≡ Ok h) → g ≡ h
        ok_ok g h e = cc

        by_came : DatagramCame network w x.event u → u.note ≡ note_by w octets got.path
        by_came c =
            let same = is_same w x.event u.node number c.octets octets (comes_is w x.event u.node c.octets c.comes)
            (comes_is w x.event number octets comes_here) in
            let nodes : c.node ≡ node = same_Some _ _ (sym c.there ∙ ap (node_at w) same.0 ∙ there) in
            let gots : c.got ≡ got = ok_ok c.got got (sym c.accepted ∙ (λ i. (accepting network (nodes i) (same.1 i)).answer) ∙ is) in
            let left : (accepting network node octets).node.memory ≡ Some c.memory = (λ i. (accepting network (sym nodes i) (sym same.1 i)).node.memory)
            ∙ c.runs in
            let notes : note_by w c.octets c.got.path ≡ note_by w octets got.path = λ i. note_by w (same.1 i) (gots i).path in
            by_handed c.memory left c.came.from c.came.key (ap (λ (g : Accepted). g.path) (sym gots) ∙ c.came.path) c.came.unit
            (ap (λ (g : Accepted). unit_in g.payload) (sym gots) ∙ c.came.read) c.origin u.note u.octets
            (subst (λ q. HandedFrom c.memory.station c.came.unit c.origin q w.clock u.note u.octets) notes c.came.handed)
