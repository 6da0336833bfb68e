-- At one place at most, by the sum over all places that custody keeps.
use Rattle.std.proofs.Common.{◌≡◌, ℕ, zero, suc, ◌+◌, ◌-◌, ◌≤◌, ◌<◌, Bool, true, false, List, [], ◌∷◌, ◌++◌, length, Option, Some, None, refl, sym, ap, subst}
use Rattle.std.proofs.Common.{◌∙◌, arith}
use Rattle.std.specs.Prelude.{cond, eqb, nat_le, ◌&&◌, slice_get, if◌then◌else◌}
use Rattle.std.specs.List.{sum_by}
use Rattle.std.specs.Option.{option_and_then, option_map, option_map_or}
use Rattle.std.proofs.lemmas.Bool.{eq-eqb, lt-ltb, ne_eqb}
use Rattle.std.proofs.lemmas.List.Sums.{sum_by-cons}
use Rattle.std.proofs.lemmas.Option.{same_Some}
use Rattle.mesh_header.specs.declared.unit.Unit.{Unit as MeshUnit}
use Rattle.node_rules.specs.Ciphers.{network}
use Rattle.node_rules.specs.Memory.{Memory, Node, StationMemory}
use Rattle.line_events.specs.declared.happenings.Handed.{Handed}
use Rattle.line_rules.specs.Runs.{Entry, one_of, ups}
use Rattle.line_rules.specs.Worlds.{World, Flight, Sending, flight_at, node_at}
use Rattle.line_laws.specs.Custody.{below, body_is, content_is, held_is, keeps, load_is, placed_is, weigh}
use Rattle.line_laws.specs.Invariant.{HoldsAfterEach}
use Rattle.line_laws.specs.Live.{live}
use Rattle.line_laws.specs.OpenFlights.{Opening, StayInOpenCustody, is_open, opening}
use Rattle.line_laws.specs.Places.{IsInCustody, flight_is, handed_is, issued, live_is, node_keeps, places, unit_of}
use Rattle.line_progress.specs.Lists.{Among, Here, Later}
use Rattle.line_progress.specs.Stations.{station_at}
use Rattle.run_laws.specs.OctetPlaces.{AreAtOnePlace, AtNode, Flies, InFlight, InPieces, IsAtPlace, IsGathered, Place, StayAtOnePlace, Waits, WasHandedUp}

-- # Sums

module _ {A : Type 0} (f : A → ℕ) where
  among_sum : (x : A) (xs : List A) → Among x xs → f x ≤ sum_by f xs
  among_sum x xs (Here rest) = rw (sum_by-cons f x rest) (omega arith)
  among_sum x xs (Later y rest m) = let less = among_sum x rest m in rw (sum_by-cons f y rest) (omega arith)

  placed_sum : (xs : List A) (k : ℕ) (x : A) → slice_get xs k ≡ Some x → f x ≤ sum_by f xs
  placed_sum [] k x e = absurd (cc)
  placed_sum (y ∷ rest) zero x e = let same = ap f (same_Some y x e) in rw (sum_by-cons f y rest) (omega arith)
  placed_sum (y ∷ rest) (suc k) x e = let less = placed_sum rest k x e in rw (sum_by-cons f y rest) (omega arith)

  -- where a sum is at most 1, one place alone has something
  one_place : (xs : List A) (j k : ℕ) (x y : A) → slice_get xs j ≡ Some x → slice_get xs k ≡ Some y → 1 ≤ f x → 1 ≤ f y → sum_by f xs ≤ 1 → j ≡ k
  one_place [] j k x y e g some more few = absurd (cc)
  one_place (z ∷ rest) zero zero x y e g some more few = refl
  one_place (z ∷ rest) zero (suc k) x y e g some more few =
      let same = ap f (same_Some z x e) in
      let less = placed_sum rest k y g in
      let all = sum_by-cons f z rest in
      absurd (omega arith)
  one_place (z ∷ rest) (suc j) zero x y e g some more few =
      let same = ap f (same_Some z y g) in
      let less = placed_sum rest j x e in
      let all = sum_by-cons f z rest in
      absurd (omega arith)
  one_place (z ∷ rest) (suc j) (suc k) x y e g some more few =
      let all = sum_by-cons f z rest in
      ap suc (one_place rest j k x y e g some more (omega arith))

-- # What each place has

weighs : (n note k : ℕ) → note ≡ n → weigh n note k ≡ k
weighs n note k e = ap (λ b. cond b k 0) (eq-eqb note n e)

few_issued : (n count : ℕ) → issued n count ≤ 1
few_issued n count = by_test (nat_le 1 n && nat_le n count)
  where
    by_test : (b : Bool) → cond b 1 0 ≤ 1
    by_test true = omega arith
    by_test false = omega arith

-- A node that runs, and what it keeps.
pub record RunsAt (w : World) (number : ℕ) (l : StationMemory) : Type 0 where
  pub node : Node
  pub there : node_at w number ≡ Some node
  pub memory : Memory
  pub runs : node.memory ≡ Some memory
  pub is : memory.station ≡ l

pub runs_at : (w : World) (number : ℕ) (l : StationMemory) → station_at w number ≡ Some l → RunsAt w number l
runs_at w number l e = by_node (node_at w number) refl e
  where
    by_memory : (x : Node) → node_at w number ≡ Some x → (o : Option Memory) → x.memory ≡ o → option_map (λ (m : Memory). m.station) o ≡ Some l
        → RunsAt w number l
    by_memory x there None runs e = absurd (cc)
    by_memory x there (Some m) runs e = record { node = x; there = there; memory = m; runs = runs; is = same_Some m.station l e }

    by_node : (o : Option Node) → node_at w number ≡ o → option_and_then (λ (x : Node). option_map (λ (m : Memory). m.station) x.memory) o ≡ Some l
        → RunsAt w number l
    by_node None there e = absurd (cc)
    by_node (Some x) there e = by_memory x there x.memory refl e

-- a flight stands at the place before its number
pub numbered : (w : World) (number : ℕ) (f : Flight) → flight_at w number ≡ Some f → (1 ≤ number) × (slice_get w.flights (number - 1) ≡ Some f)
numbered w zero f e = absurd (cc)
numbered w (suc k) f e =
    (omega arith, sym (ap (λ b. if b then None else slice_get w.flights (suc k - 1)) (ne_eqb (suc k) 0 (λ (h : suc k ≡ 0). cc))) ∙ e)

module _ (counts : World → Flight → Bool) (n i : ℕ) (w : World) (handed : List Handed) where
  abbrev at_nodes : ℕ
  at_nodes = sum_by (λ (x : Node). node_keeps n i x.memory) w.nodes

  abbrev flying : ℕ
  flying = sum_by (live_is network (counts w) n i) w.flights

  abbrev up : ℕ
  up = sum_by (handed_is n i) handed

  up_counts : (u : Handed) → Among u handed → u.note ≡ n → i < length u.octets → 1 ≤ up
  up_counts u among note short =
      let less = among_sum (handed_is n i) u handed among in
      let one : handed_is n i u ≡ 1 = weighs n u.note (below i (length u.octets)) note ∙ ap (λ b. cond b 1 0) (lt-ltb i (length u.octets) short) in
      omega arith

  flight_counts : (f : Flight) (unit : MeshUnit) → counts w f ≡ true → f.note ≡ n → unit_of network f ≡ Some unit → content_is i unit ≡ 1
      → 1 ≤ live_is network (counts w) n i f
  flight_counts f unit here note carries octet =
      let one : live_is network (counts w) n i f ≡ 1 =
      ap (λ b. cond b (flight_is network n i f) 0) here
      ∙ weighs n f.note (option_map_or (content_is i) (unit_of network f) 0) note
      ∙ ap (λ o. option_map_or (content_is i) o 0) carries
      ∙ octet in
      omega arith

  node_counts : (number : ℕ) (l : StationMemory) (r : RunsAt w number l) → node_keeps n i r.node.memory ≡ keeps n i l
  node_counts number l r = ap (node_keeps n i) r.runs ∙ ap (keeps n i) r.is

  body_counts : (l : StationMemory) (b : _) → Among b l.waiting → b.note ≡ n → load_is i b.load ≡ 1 → 1 ≤ sum_by (body_is n i) l.waiting
  body_counts l b among note octet =
      let less = among_sum (body_is n i) b l.waiting among in
      let one : body_is n i b ≡ 1 = weighs n b.note (load_is i b.load) note ∙ octet in
      omega arith

  piece_counts : (l : StationMemory) (r : _) (p : _) → Among r l.reassemblies → r.note ≡ n → Among p r.pieces → placed_is i p ≡ 1
      → 1 ≤ sum_by (held_is n i) l.reassemblies
  piece_counts l r p among note in_it octet =
      let less = among_sum (held_is n i) r l.reassemblies among in
      let some = among_sum (placed_is i) p r.pieces in_it in
      let one : held_is n i r ≡ sum_by (placed_is i) r.pieces = weighs n r.note (sum_by (placed_is i) r.pieces) note in
      omega arith

  -- # Two places

  module _ (few : (at_nodes + flying) + up ≤ 1) where
    -- what a node keeps is at the one node that keeps something
    one_node : (j k : ℕ) (l m : StationMemory) → station_at w j ≡ Some l → station_at w k ≡ Some m → 1 ≤ keeps n i l → 1 ≤ keeps n i m → j ≡ k
    one_node j k l m here there some more =
        let x = runs_at w j l here in
        let y = runs_at w k m there in
        let a = node_counts j l x in
        let b = node_counts k m y in
        one_place (λ (x : Node). node_keeps n i x.memory) w.nodes j k x.node y.node x.there y.there (omega arith) (omega arith) (omega arith)

    kept : (j : ℕ) (l : StationMemory) → station_at w j ≡ Some l → keeps n i l ≤ at_nodes
    kept j l here =
        let x = runs_at w j l here in
        let a = node_counts j l x in
        let less = placed_sum (λ (x : Node). node_keeps n i x.memory) w.nodes j x.node x.there in
        omega arith

    -- no body waits with an octet where a piece with it is gathered
    not_both : (j k : ℕ) (l m : StationMemory) → station_at w j ≡ Some l → station_at w k ≡ Some m → 1 ≤ sum_by (body_is n i) l.waiting
        → 1 ≤ sum_by (held_is n i) m.reassemblies → ⊥
    not_both j k l m here there waits held =
        let same : j ≡ k = one_node j k l m here there (omega arith) (omega arith) in
        let is : l ≡ m = same_Some l m (sym here ∙ ap (station_at w) same ∙ there) in
        let held_too : 1 ≤ sum_by (held_is n i) l.reassemblies = subst (λ (s : StationMemory). 1 ≤ sum_by (held_is n i) s.reassemblies) (sym is) held in
        let less = kept j l here in
        omega arith

    flies_counts : (number : ℕ) (f : Flight) → flight_at w number ≡ Some f → 1 ≤ live_is network (counts w) n i f → 1 ≤ flying
    flies_counts number f there some =
        let p = numbered w number f there in
        let less = placed_sum (live_is network (counts w) n i) w.flights (number - 1) f p.1 in
        omega arith

    abbrev At : Place → Type 0
    At a = IsAtPlace counts n i w handed a

    pub same_place : (a b : Place) → At a → At b → a ≡ b
    same_place a b (WasHandedUp u in_u note_u short_u) (WasHandedUp v in_v note_v short_v) = refl
    same_place a b (WasHandedUp u in_u note_u short_u) (Flies number f unit there here note carries octet) =
        let x = up_counts u in_u note_u short_u in
        let y = flies_counts number f there (flight_counts f unit here note carries octet) in
        absurd (omega arith)
    same_place a b (WasHandedUp u in_u note_u short_u) (Waits node l c there waits note octet) =
        let x = up_counts u in_u note_u short_u in
        let y = body_counts l c waits note octet in
        let z = kept node l there in
        absurd (omega arith)
    same_place a b (WasHandedUp u in_u note_u short_u) (IsGathered node l r p there held note in_it octet) =
        let x = up_counts u in_u note_u short_u in
        let y = piece_counts l r p held note in_it octet in
        let z = kept node l there in
        absurd (omega arith)
    same_place a b (Flies number f unit there here note carries octet) (WasHandedUp u in_u note_u short_u) =
        let x = up_counts u in_u note_u short_u in
        let y = flies_counts number f there (flight_counts f unit here note carries octet) in
        absurd (omega arith)
    same_place a b (Flies number f unit there here note carries octet) (Flies other g more there_g here_g note_g carries_g octet_g) =
        let x = flight_counts f unit here note carries octet in
        let y = flight_counts g more here_g note_g carries_g octet_g in
        let p = numbered w number f there in
        let q = numbered w other g there_g in
        let same = one_place (live_is network (counts w) n i) w.flights (number - 1) (other - 1) f g p.1 q.1 x y (omega arith) in
        let low = p.0 in
        let low_too = q.0 in
        ap InFlight (omega arith)
    same_place a b (Flies number f unit there here note carries octet) (Waits node l c there_l waits note_c octet_c) =
        let x = flies_counts number f there (flight_counts f unit here note carries octet) in
        let y = body_counts l c waits note_c octet_c in
        let z = kept node l there_l in
        absurd (omega arith)
    same_place a b (Flies number f unit there here note carries octet) (IsGathered node l r p there_l held note_r in_it octet_p) =
        let x = flies_counts number f there (flight_counts f unit here note carries octet) in
        let y = piece_counts l r p held note_r in_it octet_p in
        let z = kept node l there_l in
        absurd (omega arith)
    same_place a b (Waits node l c there_l waits note_c octet_c) (WasHandedUp u in_u note_u short_u) =
        let x = up_counts u in_u note_u short_u in
        let y = body_counts l c waits note_c octet_c in
        let z = kept node l there_l in
        absurd (omega arith)
    same_place a b (Waits node l c there_l waits note_c octet_c) (Flies number f unit there here note carries octet) =
        let x = flies_counts number f there (flight_counts f unit here note carries octet) in
        let y = body_counts l c waits note_c octet_c in
        let z = kept node l there_l in
        absurd (omega arith)
    same_place a b (Waits node l c there_l waits note_c octet_c) (Waits other m d there_m waits_d note_d octet_d) =
        let x = body_counts l c waits note_c octet_c in
        let y = body_counts m d waits_d note_d octet_d in
        ap AtNode (one_node node other l m there_l there_m (omega arith) (omega arith))
    same_place a b (Waits node l c there_l waits note_c octet_c) (IsGathered other m r p there_m held note_r in_it octet_p) =
        absurd (not_both node other l m there_l there_m (body_counts l c waits note_c octet_c) (piece_counts m r p held note_r in_it octet_p))
    same_place a b (IsGathered node l r p there_l held note_r in_it octet_p) (WasHandedUp u in_u note_u short_u) =
        let x = up_counts u in_u note_u short_u in
        let y = piece_counts l r p held note_r in_it octet_p in
        let z = kept node l there_l in
        absurd (omega arith)
    same_place a b (IsGathered node l r p there_l held note_r in_it octet_p) (Flies number f unit there here note carries octet) =
        let x = flies_counts number f there (flight_counts f unit here note carries octet) in
        let y = piece_counts l r p held note_r in_it octet_p in
        let z = kept node l there_l in
        absurd (omega arith)
    same_place a b (IsGathered node l r p there_l held note_r in_it octet_p) (Waits other m d there_m waits_d note_d octet_d) =
        absurd (not_both other node m l there_m there_l (body_counts m d waits_d note_d octet_d) (piece_counts l r p held note_r in_it octet_p))
    same_place a b (IsGathered node l r p there_l held note_r in_it octet_p) (IsGathered other m s q there_m held_s note_s in_s octet_q) =
        let x = piece_counts l r p held note_r in_it octet_p in
        let y = piece_counts m s q held_s note_s in_s octet_q in
        ap InPieces (one_node node other l m there_l there_m (omega arith) (omega arith))

pub at_one_place : (counts : World → Flight → Bool) (w : World) (handed : List Handed) → IsInCustody network counts w handed → AreAtOnePlace counts w handed
at_one_place counts w handed c n i some a b x y =
    let most = c.at_most n i some in
    let one = few_issued n w.sends in
    same_place counts n i w handed (omega arith) a b x y

-- # Runs

pub stay_at_one : (all : List Sending) (home : ℕ → ℕ) (opened : List Opening) (before : List Entry) (w : World) (entries : List Entry)
    → HoldsAfterEach all home before entries → StayInOpenCustody opened before w entries → StayAtOnePlace opened before w entries
stay_at_one all home opened before w [] holds counted = tt
stay_at_one all home opened before w (x ∷ xs) holds counted = λ honest.
    let h = holds honest in
    let o = counted honest in (
      at_one_place live x.after (ups (before ++ x ∷ [])) h.0.custody.places,
      at_one_place (λ _ f. is_open (one_of (opening w x.event) ++ opened) f) x.after (ups (before ++ x ∷ [])) o.0,
      stay_at_one all home (one_of (opening w x.event) ++ opened) (before ++ x ∷ []) x.after xs h.1 o.1,
    )
