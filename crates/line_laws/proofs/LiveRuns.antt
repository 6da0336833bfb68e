-- No flight comes to life again before an event is forged, and the flight that a node opens was live and is live no more.
use Rattle.std.proofs.Common.{◌≡◌, ◌≢◌, ⊎_elim, ℕ, suc, ◌<◌, ◌^◌, Bool, true, false, not, List, [], ◌∷◌, length, Option, Some, None, Result, Ok, Err}
use Rattle.std.proofs.Common.{refl, sym, ap, ◌∙◌, subst, arith}
use Rattle.std.specs.Prelude.{All, if◌then◌else◌, ◌==◌, ◌&&◌, ◌||◌, is_some, slice_get, slice_set, take}
use Rattle.std.specs.List.{list_any}
use Rattle.std.specs.Option.{option_map, option_map_or, option_and_then}
use Rattle.std.proofs.lemmas.Bool.{and_parts, cases_eq, eqb-true, eq-eqb}
use Rattle.std.proofs.lemmas.Option.{same_Some, none-some}
use Rattle.std.proofs.lemmas.Slice.Eq.{bytes_eq-Decides}
use Rattle.plc_base.specs.Keeper.{Records}
use Rattle.plc_base.specs.declared.address.Eui.{Eui}
use Rattle.plc_base.specs.declared.key.Key.{Key}
use Rattle.store_tables.proofs.SlotTables.{slice_get-set}
use Rattle.mac_frames.specs.Faults.{frame_fault}
use Rattle.mac_frames.specs.Reader.{head_in, body_in}
use Rattle.mac_frames.specs.declared.head.MacHead.{MacHead}
use Rattle.mac_frames.specs.declared.head.MacHead.TheVariants as heads
use Rattle.frame_counters.specs.PeerMarks as marks
use Rattle.group_keys.specs.KeyBook as books
use Rattle.node_rules.specs.Accepted.{Accepted}
use Rattle.node_rules.specs.declared.heard.Path.{Path}
use Rattle.node_rules.specs.declared.heard.Path.TheVariants as paths
use Rattle.node_rules.specs.declared.refusal.FrameRefusal.{FrameRefusal}
use Rattle.node_rules.specs.declared.refusal.FrameRefusal.TheVariants as frames
use Rattle.node_rules.specs.Ciphers.{Ciphers}
use Rattle.node_rules.specs.Frames.{Arrived, arrived, arrived_with, to_all}
use Rattle.node_rules.specs.Memory.{StationMemory, Memory, Role, Coordinator, Meter, Node, address_of, node_address}
use Rattle.node_rules.specs.RestartStates.{memory_of}
use Rattle.node_rules.specs.Plans.{Plan, resting}
use Rattle.node_rules.specs.Acceptance.{Accepting, accept, accept_head, is_for_me, is_own, refuse, marking}
use Rattle.node_rules.specs.NodeSteps.{of_station}
use Rattle.line_rules.specs.Answers.{frame_word}
use Rattle.line_events.specs.declared.event.Event.{Event}
use Rattle.line_events.specs.declared.event.StepFault.TheVariants as faults
use Rattle.line_events.specs.Events.{IsEvent}
use Rattle.line_rules.specs.Forgery.{Comes, OfFlight, OfScript, accepting}
use Rattle.line_rules.specs.Runs.{Entry}
use Rattle.line_rules.specs.Worlds.{World, Flight, Trace, Issued, node_at, has_octets}
use Rattle.line_rules.specs.Steps.{Step, memory_by, once_begun, has_begun, on_flight, running_world, world_after, trace_of, happenings, hearing_outcome}
use Rattle.line_rules.specs.Steps.{hearing_step, note_by, arrives}
use Rattle.line_rules.specs.Steps.{deliver}
use Rattle.line_rules.specs.Steps.{inject, step}
use Rattle.line_laws.specs.Live.{holding, marks_of, admits, book_in, book_of, home_by, home, is_past, is_live, live, FlightsFall}
use Rattle.line_laws.specs.Owed.{AreOctets, KeepsRanges}
use Rattle.line_laws.specs.Places.{LiveFalls, first_place, opened_by, opened_at}
use Rattle.line_laws.specs.Stores.{IsBookKept, IsKept}
use Rattle.line_laws.proofs.KeptMemory.{Left}
use Rattle.line_laws.proofs.Restarts.{again}
use Rattle.line_laws.proofs.MarkOrder.{Raised, raised_admits, room_admits, kept_past}
use Rattle.line_laws.proofs.MarkNodes.{marks_held}
use Rattle.line_laws.proofs.MarkSteps.{Follows, heard_marks, entry_follows}
use Rattle.line_laws.proofs.StoreMarks.{Accepts, Turned, Plain, Marked, IsPlain, accept_is}
use Rattle.line_laws.proofs.CoordinatorCalls.{accept_failed, admitted_fits}
use Rattle.line_laws.proofs.ForgeryRight.{some_passes, any_at}
use Rattle.line_laws.proofs.Nodes.{NodeOk}
use Rattle.line_laws.proofs.Worlds.{FlightFits, WorldOk, within as place_within, at_place}
use Rattle.line_laws.proofs.EveryRun.{taken_good}
use Rattle.line_laws.proofs.AddressBook.{Grows, one_book}
use Rattle.line_laws.proofs.AddressWorlds.{one_meter, above_nought, meter_address, coordinator_address}
use Rattle.line_laws.proofs.FlightFolds.{came_octets}
use Rattle.line_laws.proofs.IssueNodes.{acts_whole}
use Rattle.line_laws.proofs.IssueWorlds.{Keyed, IsMeter}
use Rattle.line_laws.proofs.StepKinds.{step_is}
use Rattle.line_laws.proofs.BookGrowth.{Goes, GoesBy, goes}

-- # What is past

both_true : (a b : Bool) → a ≡ true → b ≡ true → (a && b) ≡ true
both_true true b e f = f
both_true false b e f = absurd (cc)

not_true : (b : Bool) → not b ≡ true → b ≡ false
not_true true e = absurd (cc)
not_true false e = refl

-- A counter of a sender is past at a node of this address.
record Past (b : books.Book) (to from counter : ℕ) (x : Node) : Type 0 where
  at : home b x ≡ Some to
  none : admits (marks_of x) from counter ≡ false

past_is : (b : books.Book) (to from counter : ℕ) (x : Node) → Past b to from counter x → is_past b to from counter x ≡ true
past_is b to from counter x p =
    ap (λ (o : Option ℕ). option_map_or (λ (a : ℕ). a == to) o false && not (admits (marks_of x) from counter)) p.at
    ∙ both_true (to == to) (not (admits (marks_of x) from counter)) (eq-eqb to to refl) (ap not p.none)

past_says : (b : books.Book) (to from counter : ℕ) (x : Node) → is_past b to from counter x ≡ true → Past b to from counter x
past_says b to from counter x e = let p = and_parts _ _ e in record { at = by_home (home b x) p.0; none = not_true _ p.1 }
  where
    by_home : (o : Option ℕ) → option_map_or (λ (a : ℕ). a == to) o false ≡ true → o ≡ Some to
    by_home None h = absurd (cc)
    by_home (Some a) h = ap Some (eqb-true _ _ h)

home_grows : (b c : books.Book) → Grows b c → (role : Role) (eui : Eui) (a : ℕ) → home_by b role eui ≡ Some a → home_by c role eui ≡ Some a
home_grows b c g Coordinator eui a e = e
home_grows b c g (Meter psk) eui a e = g eui a e

home_later : (b c : books.Book) → Grows b c → (x y : Node) → y.role ≡ x.role → y.eui ≡ x.eui → (a : ℕ) → home b x ≡ Some a → home c y ≡ Some a
home_later b c g x y role eui a e =
    subst (λ u. home_by c y.role u ≡ Some a) (sym eui) (subst (λ r. home_by c r x.eui ≡ Some a) (sym role) (home_grows b c g x.role x.eui a e))

-- what lower marks did not admit, higher ones do not
pub not_admitted : (x y : Node) → Raised (marks_of x) (marks_of y) → (from counter : ℕ) → admits (marks_of x) from counter ≡ false
    → admits (marks_of y) from counter ≡ false
not_admitted x y r from counter none = by_test (admits (marks_of y) from counter) refl
  where
    by_test : (b : Bool) → admits (marks_of y) from counter ≡ b → b ≡ false
    by_test false e = refl
    by_test true e = absurd (let h = raised_admits (marks_of x) (marks_of y) r from counter e in cc (none, h))

-- # No flight comes to life

not_less : (a b : Bool) → (a ≡ true → b ≡ true) → not b ≡ true → not a ≡ true
not_less true b h e = absurd (let k = h refl in cc (k, e))
not_less false b h e = refl

module _ (w v : World) (follow : Follows w v) (grows : 0 < length w.nodes → Grows (book_of w) (book_of v)) where
  any_later : (to from counter : ℕ) → list_any (is_past (book_of w) to from counter) w.nodes ≡ true
      → list_any (is_past (book_of v) to from counter) v.nodes ≡ true
  any_later to from counter e =
      let p = some_passes (is_past (book_of w) to from counter) w.nodes e in
      let l = follow.at p.place p.one p.there in
      let old = past_says (book_of w) to from counter p.one p.is in
      let inside = place_within w.nodes p.place p.one p.there in
      let some : 0 < length w.nodes = omega arith in
      any_at (is_past (book_of v) to from counter) v.nodes p.place l.node l.there
      (past_is (book_of v) to from counter l.node (record {
        at = home_later (book_of w) (book_of v) (grows some) p.one l.node l.role l.eui to old.at;
        none = not_admitted p.one l.node l.raised from counter old.none;
      }))

  head_falls : (h : MacHead) → is_live v h ≡ true → is_live w h ≡ true
  head_falls (heads.Sealed ack seq pan to from counter index) e =
      not_less (list_any (is_past (book_of w) to from counter) w.nodes) (list_any (is_past (book_of v) to from counter) v.nodes) (any_later to from counter) e
  head_falls (heads.Up ack version seq pan to from) e = e
  head_falls (heads.Down ack version seq pan to from) e = e

  falls_to : (f : Flight) → live v f ≡ true → live w f ≡ true
  falls_to f e = head_falls (head_in f.octets) e

  pub none_falls : LiveFalls live w v None
  none_falls = record { falls = falls_to; passes = λ place f is there. absurd (none-some place is) }

-- # Books

held_book : (role : Role) (r : Records) (o : Option Memory) → role ≡ Coordinator → Left (IsKept role) r o
    → IsBookKept (book_in (option_map_or (λ (m : Memory). Some m) o (memory_by (memory_of role r)))) r
held_book Coordinator r None is k = let a = again Coordinator k.memory r k.kept in subst (λ x. IsBookKept (book_in (memory_by x)) r) (sym a.is) a.kept.book
held_book Coordinator r (Some m) is k = k.book
held_book (Meter psk) r o is k = absurd (cc)

-- the book of a line is what the coordinator's records give
world_book : (w : World) → WorldOk w → (c : Node) → node_at w 0 ≡ Some c → IsBookKept (book_of w) c.store.records
world_book w ok c there =
    subst (λ (o : Option Node). IsBookKept (option_map_or (λ (x : Node). book_in (holding x)) o []) c.store.records) (sym there)
    (held_book c.role c.store.records c.memory (ok.first c there) (at_place NodeOk w.nodes 0 c there ok.nodes).kept)

record FirstNode (xs : List Node) : Type 0 where
  node : Node
  there : slice_get xs 0 ≡ Some node

first_node : (xs : List Node) → 0 < length xs → FirstNode xs
first_node [] some = absurd (omega arith)
first_node (x ∷ xs) some = record { node = x; there = refl }

module _ (w : World) (given : List Issued) (ok : WorldOk w) (k : Keyed w given) where
  same_book : (c : Node) → node_at w 0 ≡ Some c → book_of w ≡ k.book
  same_book c there = one_book (book_of w) k.book c.store.records (world_book w ok c there) (k.coordinator c there).book_kept

  pub some_book : 0 < length w.nodes → book_of w ≡ k.book
  some_book some = let c = first_node w.nodes some in same_book c.node c.there

  -- # Homes

  home_zero : (x : Node) (a : ℕ) → node_at w 0 ≡ Some x → home k.book x ≡ Some a → a ≡ 0
  home_zero x a there e = by_role x.role (k.coordinator x there).role e
    where
      by_role : (role : Role) → role ≡ Coordinator → home_by k.book role x.eui ≡ Some a → a ≡ 0
      by_role Coordinator is h = sym (same_Some 0 a h)
      by_role (Meter psk) is h = absurd (cc)

  home_meter : (n : ℕ) (x : Node) (a : ℕ) → n ≢ 0 → node_at w n ≡ Some x → home k.book x ≡ Some a → books.address_of k.book x.eui ≡ Some a
  home_meter n x a ne there e = by_role x.role (k.roles n x ne there) e
    where
      by_role : (role : Role) → IsMeter role → home_by k.book role x.eui ≡ Some a → books.address_of k.book x.eui ≡ Some a
      by_role Coordinator is h = absurd is
      by_role (Meter psk) is h = h

  -- a node that has an address is at home there
  home_is : (n : ℕ) (x : Node) (a : ℕ) → node_at w n ≡ Some x → node_address x ≡ Some a → home k.book x ≡ Some a
  home_is n x a there e = ⊎_elim
      (λ (z : n ≡ 0).
      let first : node_at w 0 ≡ Some x = ap (slice_get w.nodes) (sym z) ∙ there in
      let low : a ≡ 0 = coordinator_address w given ok k x a first e in
      subst (λ role. home_by k.book role x.eui ≡ Some a) (sym (k.coordinator x first).role) (ap Some (sym low)))
      (λ (ne : n ≢ 0). by_role ne x.role (k.roles n x ne there))
      (cases_eq n 0)
    where
      by_role : n ≢ 0 → (role : Role) → IsMeter role → home_by k.book role x.eui ≡ Some a
      by_role ne Coordinator is = absurd is
      by_role ne (Meter psk) is = meter_address w given ok k n x a ne there e

  -- two nodes are not at home at one address
  one_home : (i j : ℕ) (x y : Node) (a : ℕ) → node_at w i ≡ Some x → node_at w j ≡ Some y → home k.book x ≡ Some a → home k.book y ≡ Some a → i ≡ j
  one_home i j x y a hx hy ex ey = ⊎_elim
      (λ (e : i ≡ 0). ⊎_elim
      (λ (f : j ≡ 0). e ∙ sym f)
      (λ (g : j ≢ 0). absurd (let low = home_zero x a (ap (slice_get w.nodes) (sym e) ∙ hx) ex in
      let high = above_nought k.book y.eui a (home_meter j y a g hy ey) in omega arith))
      (cases_eq j 0))
      (λ (g : i ≢ 0). ⊎_elim
      (λ (f : j ≡ 0). absurd (let low = home_zero y a (ap (slice_get w.nodes) (sym f) ∙ hy) ey in
      let high = above_nought k.book x.eui a (home_meter i x a g hx ex) in omega arith))
      (λ (h : j ≢ 0). k.apart i j x y hx hy (one_meter k.book x.eui y.eui a (home_meter i x a g hx ex) (home_meter j y a h hy ey)))
      (cases_eq j 0))
      (cases_eq i 0)

-- # What a node accepts

arrived_head : (ciphers : Ciphers) (octets : List ℕ) (a : Arrived) → arrived ciphers octets ≡ Some a → a.head ≡ head_in octets
unfolding arrived
arrived_head ciphers octets a e = by_fault (is_some (frame_fault octets)) e
  where
    by_fault : (b : Bool) → (if b then None else Some (arrived_with ciphers (head_in octets) (take 15 octets) (body_in octets))) ≡ Some a
        → a.head ≡ head_in octets
    by_fault true h = absurd (cc)
    by_fault false h = ap (λ (x : Arrived). x.head) (sym (same_Some _ _ h))

for_me : (l : StationMemory) (own : Eui) (x : Arrived) (got : Accepted) → (accept l own (Some x)).answer ≡ Ok got → is_for_me l own x.head ≡ true
unfolding resting
for_me l own x got e = by_test (is_for_me l own x.head) e
  where
    by_test : (b : Bool) → (if b then accept_head l x x.head else refuse l frames.NotForMe).answer ≡ Ok got → b ≡ true
    by_test true h = refl
    by_test false h = absurd (cc)

first_true : (a b : Bool) → (a || b) ≡ true → b ≡ false → a ≡ true
first_true true b e f = refl
first_true false b e f = absurd (cc)

-- a frame to one node is for the node of the address that it names
own_address : (l : StationMemory) (own : Eui) (ack : Bool) (seq pan to from counter index : ℕ)
    → is_for_me l own (heads.Sealed ack seq pan to from counter index) ≡ true → (to == to_all) ≡ false → address_of l ≡ Some to
own_address l own ack seq pan to from counter index e one =
    let p = and_parts _ _ e in
    let q = and_parts _ _ p.1 in
    by_address (address_of l) (first_true (is_own l to) (to == to_all) q.0 one)
  where
    by_address : (o : Option ℕ) → option_map_or (λ (a : ℕ). a == to) o false ≡ true → o ≡ Some to
    by_address None h = absurd (cc)
    by_address (Some a) h = ap Some (eqb-true _ _ h)

abbrev all_of : Path → Bool
all_of (paths.Sealed from all key) = all
all_of (paths.Up from) = false
all_of (paths.Down from) = false

-- What is known of octets that were accepted as a sealed frame.
record Taken (l : StationMemory) (octets : List ℕ) (all : Bool) (after : StationMemory) : Type 0 where
  to : ℕ
  from : ℕ
  counter : ℕ
  head : (ack : Bool) × (seq : ℕ) × (pan : ℕ) × (index : ℕ) × (head_in octets ≡ heads.Sealed ack seq pan to from counter index)
  own : all ≡ false → address_of l ≡ Some to
  fits : counter < 2 ^ 32
  room : marks.room_for l.marks from counter ≡ Ok (tt {0})
  left : after.marks ≡ marks.kept_after l.marks from counter

module _ (ciphers : Ciphers) (fits : KeepsRanges ciphers) (octets : List ℕ) (are : AreOctets octets) (l : StationMemory) (own : Eui) (got : Accepted) (by : ℕ)
    (all : Bool) (key : Key) (path : got.path ≡ paths.Sealed by all key) (e : (accept l own (arrived ciphers octets)).answer ≡ Ok got) where
  form_taken : (p : Accepting) → Accepts l (arrived ciphers octets) p → p.answer ≡ Ok got → Taken l octets all p.memory
  unfolding resting marking
  form_taken p (Turned reason) h = absurd (cc)
  form_taken p (Plain g plain) h = let same : g ≡ got = cc in absurd (subst IsPlain (ap (λ (x : Accepted). x.path) same ∙ path) plain.path)
  form_taken p (Marked from counter g a) h =
      let same : g ≡ got = cc in
      let goes : (a.to == to_all) ≡ all = ap all_of (ap (λ (x : Accepted). x.path) (sym a.got_is ∙ same) ∙ path) in
      let mine = for_me l own a.frame got (subst (λ o. (accept l own o).answer ≡ Ok got) a.is e) in
      let head = a.head.3 in
      record {
        to = a.to;
        from = from;
        counter = counter;
        head = (a.head.0, a.head.1, a.head.2, a.index, sym (arrived_head ciphers octets a.frame a.is) ∙ head);
        own = λ one. own_address l own a.head.0 a.head.1 a.head.2 a.to from counter a.index (subst (λ x. is_for_me l own x ≡ true) head mine) (goes ∙ one);
        fits = (admitted_fits ciphers fits octets are l from counter g a).1;
        room = a.room;
        left = refl;
      }

  taken_is : Taken l octets all (accept l own (arrived ciphers octets)).memory
  taken_is = form_taken (accept l own (arrived ciphers octets)) (accept_is l own (arrived ciphers octets)) e

-- # The flight that is opened

place_octets : (fs : List Flight) (octets : List ℕ) (key : Key) (place : ℕ) (f : Flight) → first_place fs octets key ≡ Some place → slice_get fs place ≡ Some f
    → f.octets ≡ octets
unfolding first_place
place_octets [] octets key place f e there = absurd (none-some place e)
place_octets (g ∷ fs) octets key place f e there = by_test (has_octets octets key g) refl (λ k. place_octets fs octets key k f) e
  where
    by_rest : (o : Option ℕ) → first_place fs octets key ≡ o → ((k : ℕ) → first_place fs octets key ≡ Some k → slice_get fs k ≡ Some f → f.octets ≡ octets)
        → option_map (λ (k : ℕ). suc k) o ≡ Some place → f.octets ≡ octets
    by_rest None is rest h = absurd (none-some place h)
    by_rest (Some k) is rest h =
        let same : suc k ≡ place = same_Some _ _ h in
        rest k is (ap (slice_get (g ∷ fs)) same ∙ there)

    by_test : (b : Bool) → has_octets octets key g ≡ b → ((k : ℕ) → first_place fs octets key ≡ Some k → slice_get fs k ≡ Some f → f.octets ≡ octets)
        → (if b then Some 0 else option_map (λ (k : ℕ). suc k) (first_place fs octets key)) ≡ Some place → f.octets ≡ octets
    by_test true is rest h =
        let same : 0 ≡ place = same_Some _ _ h in
        let this : g ≡ f = same_Some _ _ (ap (slice_get (g ∷ fs)) same ∙ there) in
        subst (λ (x : Flight). x.octets ≡ octets) this ((bytes_eq-Decides g.octets octets).0 (and_parts _ _ is).0)
    by_test false is rest h = by_rest (first_place fs octets key) refl rest h

-- A frame to one node was opened: the flight at this place.
record OpenedOne (w : World) (octets : List ℕ) (path : Path) (place : ℕ) : Type 0 where
  by : ℕ
  key : Key
  is : path ≡ paths.Sealed by false key
  first : first_place w.flights octets key ≡ Some place

opened_one : (w : World) (octets : List ℕ) (path : Path) (place : ℕ) → opened_by w octets path ≡ Some place → OpenedOne w octets path place
opened_one w octets (paths.Sealed from true key) place e = absurd (none-some place e)
opened_one w octets (paths.Sealed from false key) place e = record { by = from; key = key; is = refl; first = e }
opened_one w octets (paths.Up from) place e = absurd (none-some place e)
opened_one w octets (paths.Down from) place e = absurd (none-some place e)

-- # The step in which octets come

module _ (ciphers : Ciphers) (w : World) where
  -- what is left of the node that hears
  abbrev hearer : Node → List ℕ → Accepted → ℕ → Node
  hearer x octets got cost = (hearing_step ciphers (accepting ciphers x octets).node got cost (note_by w octets got.path) w.clock).node

  arrived_nodes : (number : ℕ) (x : Node) (octets : List ℕ) (cost : ℕ) (got : Accepted) → (accepting ciphers x octets).answer ≡ Ok got
      → (arrives ciphers w number x octets cost).0.nodes ≡ slice_set w.nodes number (hearer x octets got cost)
  unfolding arrives world_after
  arrived_nodes number x octets cost got e = subst (λ a. (after a).0.nodes ≡ slice_set w.nodes number (hearer x octets got cost)) (sym e) refl
    where
      after : Result Accepted FrameRefusal → World × Trace
      after (Ok g) = hearing_outcome ciphers w number (accepting ciphers x octets).node octets g cost
      after (Err reason) = (world_after ciphers (running_world w) number (accepting ciphers x octets), trace_of (happenings w (frame_word reason)))

  pub taken_begun : (s : Step) (r : World × Trace) → once_begun w s ≡ Ok r → s ≡ Ok r
  taken_begun s r e = by_test (has_begun w) e
    where
      by_test : (b : Bool) → (if b then s else Err faults.Setup) ≡ Ok r → s ≡ Ok r
      by_test true h = h
      by_test false h = absurd (cc)

  pub ok_is : (s : Step) (p r : World × Trace) → s ≡ Ok p → s ≡ Ok r → p ≡ r
  ok_is s p r e f = cc

  -- What a node made of octets that came, over a link of a cost.
  record HeardAt (number : ℕ) (x : Node) (octets : List ℕ) (got : Accepted) (v : World) : Type 0 where
    cost : ℕ
    nodes : v.nodes ≡ slice_set w.nodes number (hearer x octets got cost)

  comes_heard : (event : Event) (number : ℕ) (octets : List ℕ) (x : Node) (got : Accepted) (v : World) (t : Trace) → Comes w event number octets
      → node_at w number ≡ Some x → (accepting ciphers x octets).answer ≡ Ok got → step ciphers w event ≡ Ok (v, t) → HeardAt number x octets got v
  unfolding deliver inject
  comes_heard event number octets x got v t (OfFlight flight n cost f at) there is e =
      let a = taken_begun _ (v, t) e in
      let b = sym (ap (λ o. option_map_or (λ (y : Node). on_flight w flight (λ (g : Flight). Ok (arrives ciphers w n y g.octets cost))) o (Err faults.Node))
      there) ∙ a in
      let c = sym (ap (λ o. option_map_or (λ (g : Flight). if g.lost then Err faults.Flight else Ok (arrives ciphers w n x g.octets cost)) o
      (Err faults.Flight)) at) ∙ b in
      by_lost f.lost c
    where
      by_lost : (lost : Bool) → (if lost then Err faults.Flight else Ok (arrives ciphers w n x f.octets cost)) ≡ Ok (v, t) → HeardAt n x f.octets got v
      by_lost true h = absurd (cc)
      by_lost false h =
          record { cost = cost; nodes = ap (λ (r : World × Trace). r.0.nodes) (sym (ok_is _ _ (v, t) refl h)) ∙ arrived_nodes n x f.octets cost got is }
  comes_heard event number octets x got v t (OfScript n cost o) there is e =
      let a = taken_begun _ (v, t) e in
      let b = sym (ap (λ k. option_map_or (λ (y : Node). Ok (arrives ciphers w n y o cost)) k (Err faults.Node)) there) ∙ a in
      record { cost = cost; nodes = ap (λ (r : World × Trace). r.0.nodes) (sym (ok_is _ _ (v, t) refl b)) ∙ arrived_nodes n x o cost got is }

-- # A frame that is accepted

-- What became of a node in an event, once it had accepted octets.
pub record Became (v : World) (number : ℕ) (z : Node) : Type 0 where
  pub node : Node
  pub there : node_at v number ≡ Some node
  pub role : node.role ≡ z.role
  pub eui : node.eui ≡ z.eui
  pub raised : Raised (marks_of z) (marks_of node)

-- The head of octets that a node accepted, and that its counter was admitted and is so no more by what the node has become.
pub record Admission (v : World) (number : ℕ) (octets : List ℕ) (node : Node) (all : Bool) : Type 0 where
  pub to : ℕ
  pub from : ℕ
  pub counter : ℕ
  pub head : (ack : Bool) × (seq : ℕ) × (pan : ℕ) × (index : ℕ) × (head_in octets ≡ heads.Sealed ack seq pan to from counter index)
  pub address : all ≡ false → node_address node ≡ Some to
  pub open_before : admits (marks_of node) from counter ≡ true
  pub left : Node
  pub left_there : node_at v number ≡ Some left
  pub role : left.role ≡ node.role
  pub eui : left.eui ≡ node.eui
  pub shut_after : admits (marks_of left) from counter ≡ false

module _ (ciphers : Ciphers) (fits : KeepsRanges ciphers) (w : World) (ok : WorldOk w) (flown : All FlightFits w.flights) (event : Event) (says : IsEvent event)
    (number : ℕ) (octets : List ℕ) (node : Node) (comes : Comes w event number octets) (there : node_at w number ≡ Some node) (got : Accepted)
    (is : (accepting ciphers node octets).answer ≡ Ok got) (by : ℕ) (all : Bool) (key : Key) (path : got.path ≡ paths.Sealed by all key) where
  abbrev plan : Memory → Plan Memory (Result Accepted FrameRefusal)
  plan m = of_station m (accept m.station node.eui (arrived ciphers octets))

  pub admitted_once : (v : World) → Became v number (accepting ciphers node octets).node → Admission v number octets node all
  admitted_once v b =
      let are = came_octets ciphers fits w ok flown event number octets says comes in
      let a = acts_whole node frames.Halted frames.Store plan
      (λ m. accept_failed ciphers fits octets are m.station _ (accept_is m.station node.eui (arrived ciphers octets))) got is in
      let one : Taken a.memory.station octets all (plan a.memory).memory.station = taken_is ciphers fits octets are a.memory.station node.eui got by all key
      path a.is in
      let held : marks_of node ≡ a.memory.station.marks = ap (marks_held node.role node.store.records) a.there in
      let did = (heard_marks ciphers fits w ok flown event number node octets 0 got there says comes is).0 in
      let z : Node = (accepting ciphers node octets).node in
      let left : marks_of z ≡ marks.kept_after a.memory.station.marks one.from one.counter = ap (marks_held z.role z.store.records) a.leaves ∙ one.left in
      let shut : admits (marks_of z) one.from one.counter
      ≡ false = subst (λ t. admits t one.from one.counter ≡ false) (sym left) (kept_past a.memory.station.marks one.from one.counter one.fits) in
      record {
        to = one.to;
        from = one.from;
        counter = one.counter;
        head = one.head;
        address = λ single. ap (λ (q : Option Memory). option_and_then (λ (m : Memory). address_of m.station) q) a.there ∙ one.own single;
        open_before = subst (λ t. admits t one.from one.counter ≡ true) (sym held) (room_admits a.memory.station.marks one.from one.counter one.fits one.room);
        left = b.node;
        left_there = b.there;
        role = b.role ∙ did.role;
        eui = b.eui ∙ did.eui;
        shut_after = not_admitted z b.node b.raised one.from one.counter shut;
      }

module _ (ciphers : Ciphers) (fits : KeepsRanges ciphers) (w : World) (ok : WorldOk w) (flown : All FlightFits w.flights) (x : Entry) (says : IsEvent x.event)
    (e : step ciphers w x.event ≡ Ok (x.after, x.trace))
    (number : ℕ) (octets : List ℕ) (node : Node) (comes : Comes w x.event number octets) (there : node_at w number ≡ Some node) (got : Accepted)
    (is : (accepting ciphers node octets).answer ≡ Ok got) (by : ℕ) (all : Bool) (key : Key) (path : got.path ≡ paths.Sealed by all key) where
  pub admission : Admission x.after number octets node all
  admission =
      let h = comes_heard ciphers w x.event number octets node got x.after x.trace comes there is e in
      let did = (heard_marks ciphers fits w ok flown x.event number node octets h.cost got there says comes is).1 in
      let y : Node = hearer ciphers w node octets got h.cost in
      admitted_once ciphers fits w ok flown x.event says number octets node comes there got is by all key path x.after (record {
        node = y;
        there = ap (λ ns. slice_get ns number) h.nodes ∙ slice_get-set w.nodes number y (place_within w.nodes number node there);
        role = did.role;
        eui = did.eui;
        raised = did.raised;
      })

-- # An event

-- an event after which marks are no lower, and the book has each address
module _ (ciphers : Ciphers) (w : World) (ok : WorldOk w) (given : List Issued) (k : Keyed w given) (x : Entry) (okv : WorldOk x.after)
    (follow : Follows w x.after)
    (later : 0 < length w.nodes → (c : Node) → node_at x.after 0 ≡ Some c → (b : books.Book) → IsBookKept b c.store.records → Grows k.book b) where
  book_grows : 0 < length w.nodes → Grows (book_of w) (book_of x.after)
  book_grows some =
      let c = first_node w.nodes some in
      let d = follow.at 0 c.node c.there in
      subst (λ b. Grows b (book_of x.after)) (sym (some_book w given ok k some))
      (later some d.node d.there (book_of x.after) (world_book x.after okv d.node d.there))

  falls_so : (f : Flight) → live x.after f ≡ true → live w f ≡ true
  falls_so = falls_to w x.after follow book_grows

  pub head_falls_so : (h : MacHead) → is_live x.after h ≡ true → is_live w h ≡ true
  head_falls_so = head_falls w x.after follow book_grows

  -- octets that a node accepts as a frame to it alone were live, and are not any more
  pub passes_so : (number : ℕ) (octets : List ℕ) (node : Node) → node_at w number ≡ Some node → Admission x.after number octets node false
      → (is_live w (head_in octets) ≡ true) × (is_live x.after (head_in octets) ≡ false)
  passes_so number octets node there one =
      let inside = place_within w.nodes number node there in
      let some : 0 < length w.nodes = omega arith in
      let home_k : home k.book node ≡ Some one.to = home_is w given ok k number node one.to there (one.address refl) in
      let home_w : home (book_of w) node ≡ Some one.to = subst (λ b. home b node ≡ Some one.to) (sym (some_book w given ok k some)) home_k in
      let home_v : home (book_of x.after) one.left
      ≡ Some one.to = home_later (book_of w) (book_of x.after) (book_grows some) node one.left one.role one.eui one.to home_w in
      let past : list_any (is_past (book_of x.after) one.to one.from one.counter) x.after.nodes ≡ true =
      any_at (is_past (book_of x.after) one.to one.from one.counter) x.after.nodes number one.left one.left_there
      (past_is (book_of x.after) one.to one.from one.counter one.left (record { at = home_v; none = one.shut_after })) in (
        subst (λ q. is_live w q ≡ true) (sym one.head.4) (was_live one.to one.from one.counter home_k one.open_before),
        subst (λ q. is_live x.after q ≡ false) (sym one.head.4) (ap not past),
      )
    where
      was_live : (to from counter : ℕ) → home k.book node ≡ Some to → admits (marks_of node) from counter ≡ true
          → not (list_any (is_past (book_of w) to from counter) w.nodes) ≡ true
      was_live to from counter mine admitted = by_any (list_any (is_past (book_of w) to from counter) w.nodes) refl
        where
          by_any : (b : Bool) → list_any (is_past (book_of w) to from counter) w.nodes ≡ b → not b ≡ true
          by_any false q = refl
          by_any true q = absurd (
              let p = some_passes (is_past (book_of w) to from counter) w.nodes q in
              let old = past_says (book_of w) to from counter p.one p.is in
              let inside = place_within w.nodes p.place p.one p.there in
              let some : 0 < length w.nodes = omega arith in
              let home_p : home k.book p.one ≡ Some to = subst (λ b. home b p.one ≡ Some to) (some_book w given ok k some) old.at in
              let number_is : p.place ≡ number = one_home w given ok k p.place number p.one node to p.there there home_p mine in
              let this : p.one ≡ node = same_Some _ _ (sym p.there ∙ ap (slice_get w.nodes) number_is ∙ there) in
              let none : admits (marks_of node) from counter ≡ false = subst (λ (n : Node). admits (marks_of n) from counter ≡ false) this old.none in
              cc (none, admitted)
              )

  -- where what a node accepts was admitted, and is not any more
  module _ (admit : (number : ℕ) (octets : List ℕ) (node : Node) → Comes w x.event number octets → node_at w number ≡ Some node → (got : Accepted)
      → (accepting ciphers node octets).answer ≡ Ok got → (by : ℕ) (key : Key) → got.path ≡ paths.Sealed by false key
      → Admission x.after number octets node false) where
    module _ (number : ℕ) (octets : List ℕ) (node : Node) (comes : Comes w x.event number octets) (there : node_at w number ≡ Some node) where
      passes_by : (got : Accepted) → (accepting ciphers node octets).answer ≡ Ok got → (place : ℕ) (f : Flight) → opened_by w octets got.path ≡ Some place
          → slice_get w.flights place ≡ Some f → (live w f ≡ true) × (live x.after f ≡ false)
      passes_by got is place f at here =
          let o = opened_one w octets got.path place at in
          let same : f.octets ≡ octets = place_octets w.flights octets o.key place f o.first here in
          let p = passes_so number octets node there (admit number octets node comes there got is o.by o.key o.is) in
          (subst (λ q. is_live w (head_in q) ≡ true) (sym same) p.0, subst (λ q. is_live x.after (head_in q) ≡ false) (sym same) p.1)

      opened_falls : LiveFalls live w x.after (opened_at w octets (accepting ciphers node octets).answer)
      opened_falls = record { falls = falls_so; passes = λ place f at here. by_answer (accepting ciphers node octets).answer refl place f at here }
        where
          by_answer : (r : Result Accepted FrameRefusal) → (accepting ciphers node octets).answer ≡ r → (place : ℕ) (f : Flight)
              → opened_at w octets r ≡ Some place → slice_get w.flights place ≡ Some f → (live w f ≡ true) × (live x.after f ≡ false)
          by_answer (Err reason) is place f at here = absurd (none-some place at)
          by_answer (Ok got) is place f at here = passes_by got is place f at here

    pub falls_where : FlightsFall ciphers w x
    falls_where = record {
      falls = none_falls w x.after follow book_grows;
      opened = λ number octets node comes there. opened_falls number octets node comes there;
    }

module _ (ciphers : Ciphers) (fits : KeepsRanges ciphers) (w : World) (ok : WorldOk w) (flown : All FlightFits w.flights) (given : List Issued)
    (k : Keyed w given) (x : Entry) (says : IsEvent x.event) (e : step ciphers w x.event ≡ Ok (x.after, x.trace)) where
  follow : Follows w x.after
  follow = entry_follows ciphers fits w ok flown x says e

  okv : WorldOk x.after
  okv = (taken_good ciphers fits w ok flown x says e).0

  goes_on : 0 < length w.nodes → Goes ciphers fits w ok flown given k x.after
  goes_on =
      subst (GoesBy ciphers fits w ok flown given k) e (goes ciphers fits w ok flown given k x.event (step ciphers w x.event) (step_is ciphers w x.event says))

  later : 0 < length w.nodes → (c : Node) → node_at x.after 0 ≡ Some c → (b : books.Book) → IsBookKept b c.store.records → Grows k.book b
  later some = (goes_on some).grows

  pub head_falls_by : (h : MacHead) → is_live x.after h ≡ true → is_live w h ≡ true
  head_falls_by = head_falls_so ciphers w ok given k x okv follow later

  pub passes_one : (number : ℕ) (octets : List ℕ) (node : Node) → Comes w x.event number octets → node_at w number ≡ Some node → (got : Accepted)
      → (accepting ciphers node octets).answer ≡ Ok got → (by : ℕ) (key : Key) → got.path ≡ paths.Sealed by false key
      → (is_live w (head_in octets) ≡ true) × (is_live x.after (head_in octets) ≡ false)
  passes_one number octets node comes there got is by key path =
      passes_so ciphers w ok given k x okv follow later number octets node there
      (admission ciphers fits w ok flown x says e number octets node comes there got is by false key path)

  pub event_falls : FlightsFall ciphers w x
  event_falls = falls_where ciphers w ok given k x okv follow later
      (λ number octets node comes there got is by key path. admission ciphers fits w ok flown x says e number octets node comes there got is by false key path)
