-- The parts of a line's invariant that speak of ranks and routes, and what a step of the line has to say to keep them.
use Rattle.std.proofs.Common.{◌≡◌, ◌≢◌, ◌⊎◌, inl, inr, ℕ, zero, suc, ◌<◌, List, [], ◌∷◌, ◌++◌, length, set, Some, None, refl, sym, ap, ◌∙◌, subst, arith}
use Rattle.std.specs.Prelude.{All, slice_get, slice_set}
use Rattle.std.proofs.lemmas.Bool.{cases_eq}
use Rattle.std.proofs.lemmas.Option.{same_Some, none-some}
use Rattle.std.proofs.lemmas.List.Elements.{All-append, All-map, All-weaker}
use Rattle.store_tables.proofs.SlotTables.{slice_get-set, slice_get-set_other}
use Rattle.routing_set.specs.declared.rank.Rank.{Rank}
use Rattle.routing_set.specs.Ranks.{IsAtLeast}
use Rattle.routing_set.specs.RoutingSet as routing
use Rattle.node_rules.specs.Ciphers.{Ciphers}
use Rattle.node_rules.specs.Frames.{Sent, Sealed, Up, Down, spelled}
use Rattle.node_rules.specs.Memory.{Node}
use Rattle.line_rules.specs.Worlds.{World, Flight, node_at}
use Rattle.node_rules.specs.NodeSteps.{NodeStep}
use Rattle.line_rules.specs.Steps.{world_after, flights_of, flight_by}
use Rattle.line_laws.proofs.RankOrder.{at_least_trans, beats_at_least}
use Rattle.line_laws.proofs.RankSaid.{unit_rises, FrameBacked}
use Rattle.line_laws.proofs.RankPlans.{NodeCause, Stood, Came, NodeRanks, same_ranks}
use Rattle.line_laws.specs.Loops.{stored, Later}
use Rattle.line_laws.proofs.LettersRead.{FrameRead}
use Rattle.line_laws.proofs.Homed.{Homes}
use Rattle.line_laws.specs.Ranked.{via}
pub use Rattle.line_laws.specs.Ranked.{At, Own, Nearer, IsNearer, FlightBacked, IsPlain, IsSealedUnit, GoodRoute, RanksHold, RoutesHold, RoutingHolds}

-- # Steps

-- a node has the account since the world before, or it is new and knows nothing
pub data ComesFrom (h : Homes) (w : World) (i : ℕ) (y : Node) : Type 0 where
  From : (x : Node) (frames : List Sent) → node_at w i ≡ Some x → NodeRanks (At h i) (Own h i) (IsNearer h w) x y frames → ComesFrom h w i y
  New : ((dest : ℕ) → routing.rank_of (stored y) dest ≡ None) → ((dest next : ℕ) → via y dest ≡ Some next → ⊥) → ComesFrom h w i y

-- What a step says of all nodes and flights.
pub record StationStep (ciphers : Ciphers) (h : Homes) (w v : World) : Type 0 where
  pub forward : (i : ℕ) (x : Node) → node_at w i ≡ Some x → Later v i x
  pub back : (i : ℕ) (y : Node) → node_at v i ≡ Some y → ComesFrom h w i y
  pub flights : All (FlightBacked ciphers h w) w.flights → All (FlightBacked ciphers h v) v.flights

-- What holds after some steps from a world on: ranks and routes, and no stored rank is lower.
pub record Reached (ciphers : Ciphers) (h : Homes) (b v : World) : Type 0 where
  pub holds : RoutingHolds ciphers h v
  pub later : (i : ℕ) (x : Node) → node_at b i ≡ Some x → Later v i x

module _ (ciphers : Ciphers) (h : Homes) where
  pub nearer_later : (w v : World) → ((i : ℕ) (x : Node) → node_at w i ≡ Some x → Later v i x) → (next dest : ℕ) (rank : Rank) → IsNearer h w next dest rank
      → IsNearer h v next dest rank
  nearer_later w v forward next dest rank (inl same) = inl same
  nearer_later w v forward next dest rank (inr n) =
      let l = forward n.number n.node n.there in
      inr (record { number = n.number; node = l.node; home = n.home; there = l.there; beats = beats_at_least _ _ _ (l.above dest) n.beats })

  pub flight_later : (w v : World) → ((i : ℕ) (x : Node) → node_at w i ≡ Some x → Later v i x) → (f : Flight) → FlightBacked ciphers h w f
      → FlightBacked ciphers h v f
  flight_later w v forward f (IsPlain e) = IsPlain e
  flight_later w v forward f (IsSealedUnit sealed_unit x octets key from there backed read) =
      let l = forward f.from x there in
      IsSealedUnit sealed_unit l.node octets key from l.there (unit_rises (At h f.from) (stored x) (stored l.node) sealed_unit.unit l.above backed) read

  pub step_holds : (w v : World) → StationStep ciphers h w v → RoutingHolds ciphers h w → RoutingHolds ciphers h v
  step_holds w v s good = record {
    ranks = record { backed = s.flights good.ranks.backed; not_own = λ i y there dest own. not_own_by i y dest own (s.back i y there) };
    routes = record { routes = λ i y there dest next e. route_by i y dest next e (s.back i y there) };
  }
    where
      not_own_by : (i : ℕ) (y : Node) (dest : ℕ) → Own h i dest → ComesFrom h w i y → routing.rank_of (stored y) dest ≡ None
      not_own_by i y dest own (From x frames was r) = r.not_own dest own (good.ranks.not_own i x was dest own)
      not_own_by i y dest own (New none no_route) = none dest

      cause_by : (i : ℕ) (x y : Node) (dest next : ℕ) → node_at w i ≡ Some x → NodeCause (IsNearer h w) x y dest next → GoodRoute h v y dest next
      cause_by i x y dest next was (Stood e same) =
          let g = good.routes.routes i x was dest next e in
          record { rank = g.rank; kept = same ∙ g.kept; nearer = nearer_later w v s.forward next dest g.rank g.nearer }
      cause_by i x y dest next was (Came rank kept c) = record { rank = rank; kept = kept; nearer = nearer_later w v s.forward next dest rank c }

      route_by : (i : ℕ) (y : Node) (dest next : ℕ) → via y dest ≡ Some next → ComesFrom h w i y → GoodRoute h v y dest next
      route_by i y dest next e (From x frames was r) = cause_by i x y dest next was (r.routes dest next e)
      route_by i y dest next e (New none no_route) = absurd (no_route dest next e)

  pub reach : {b : World} (w v : World) → StationStep ciphers h w v → Reached ciphers h b w → Reached ciphers h b v
  reach w v s r = record {
    holds = step_holds w v s r.holds;
    later = λ i x there.
        let l = r.later i x there in
        let k = s.forward i l.node l.there in
        record { node = k.node; there = k.there; above = λ dest. at_least_trans _ _ _ (k.above dest) (l.above dest) };
  }

  -- # What one node did

  within : {A : Type 0} (xs : List A) (k : ℕ) (x : A) → slice_get xs k ≡ Some x → k < length xs
  within [] k x e = absurd (none-some x e)
  within (y ∷ ys) zero x e = omega arith
  within (y ∷ ys) (suc k) x e = let less = within ys k x e in omega arith

  frame_flies : (v : World) (number : ℕ) (y : Node) → node_at v number ≡ Some y → (frame : Sent) → FrameBacked (At h number) (stored y) frame
      → FrameRead ciphers frame → FlightBacked ciphers h v (flight_by number (spelled ciphers frame))
  unfolding spelled
  frame_flies v number y there (Sealed sealed_unit) b read = IsSealedUnit sealed_unit y refl refl b.0 there b.1 read
  frame_flies v number y there (Up agent from message) b read = IsPlain refl
  frame_flies v number y there (Down from message) b read = IsPlain refl

  pub after_step : {A : Type 0} (w : World) (number : ℕ) (x : Node) (d : NodeStep A) → node_at w number ≡ Some x
      → NodeRanks (At h number) (Own h number) (IsNearer h w) x d.node d.frames → All (FrameRead ciphers) d.frames
      → StationStep ciphers h w (world_after ciphers w number d)
  unfolding world_after
  after_step {A = A} w number x d there r reads = record {
    forward = forward;
    back = λ i y e. back_by i y e (cases_eq i number);
    flights = λ old. All-append Backed w.flights (flights_of ciphers number d)
        (All-weaker (FlightBacked ciphers h w) Backed (λ f b. flight_later w v forward f b) w.flights old)
        (All-map Backed (λ frame. flight_by number (spelled ciphers frame)) d.frames
        (λ k frame lt. frame_flies v number d.node here _ (r.backed k frame lt) (reads k frame lt)));
  }
    where
      v : World
      v = record w { nodes = slice_set w.nodes number d.node; flights = w.flights ++ flights_of ciphers number d; made = w.made ++ d.made }

      Backed : Flight → Type 0
      Backed f = FlightBacked ciphers h v f

      here : slice_get (set w.nodes number d.node) number ≡ Some d.node
      here = slice_get-set w.nodes number d.node (within w.nodes number x there)

      others : (i : ℕ) → i ≢ number → slice_get (set w.nodes number d.node) i ≡ slice_get w.nodes i
      others i ne = slice_get-set_other w.nodes number i d.node ne

      forward_by : (i : ℕ) (z : Node) → slice_get w.nodes i ≡ Some z → (i ≡ number) ⊎ (i ≢ number) → Later v i z
      forward_by i z e (inl same) =
          let this : x ≡ z = same_Some _ _ (sym there ∙ ap (slice_get w.nodes) (sym same) ∙ e) in
          record {
            node = d.node;
            there = ap (slice_get (set w.nodes number d.node)) same ∙ here;
            above = subst (λ (y : Node). (dest : ℕ) → IsAtLeast (routing.held (stored d.node) dest) (routing.held (stored y) dest)) this r.above;
          }
      forward_by i z e (inr ne) = record { node = z; there = others i ne ∙ e; above = λ dest. inl refl }

      forward : (i : ℕ) (z : Node) → slice_get w.nodes i ≡ Some z → Later v i z
      forward i z e = forward_by i z e (cases_eq i number)

      back_by : (i : ℕ) (y : Node) → slice_get (set w.nodes number d.node) i ≡ Some y → (i ≡ number) ⊎ (i ≢ number) → ComesFrom h w i y
      back_by i y e (inl same) =
          let this : d.node ≡ y = same_Some _ _ (sym here ∙ ap (slice_get (set w.nodes number d.node)) (sym same) ∙ e) in
          subst (λ (z : Node). ComesFrom h w i z) this (subst (λ (k : ℕ). ComesFrom h w k d.node) (sym same) (From x d.frames there r))
      back_by i y e (inr ne) = From y [] (sym (others i ne) ∙ e) (same_ranks (At h i) (Own h i) (IsNearer h w) y)
