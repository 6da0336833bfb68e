-- What is kept from one world to the next is kept from the first to the last; and what is kept where flights are not sent after all, and
-- where only that changes which further rules see.
use Rattle.std.proofs.Common.{inl, inr, ◌≡◌, ℕ, ◌≤◌, ◌<◌, Bool, true, List, length, get_or, Some, None, refl}
use Rattle.std.proofs.Common.{sym, ◌∙◌, subst, arith}
use Rattle.std.specs.Prelude.{All, AllPairs}
use Rattle.std.proofs.Math.Seq.{drop-length}
use Rattle.std.proofs.lemmas.List.{get_or-take, length-take-le}
use Rattle.std.proofs.lemmas.List.Elements.{All-nil, All-take}
use Rattle.std.proofs.lemmas.List.Sums.{sum_by-take-drop}
use Rattle.node_rules.specs.Ciphers.{network}
use Rattle.node_rules.specs.Memory.{Node}
use Rattle.reach_rules.specs.ReachingNodes.{Beside}
use Rattle.line_rules.specs.Nonces.{CounterRises, HasSender, IsSpelled}
use Rattle.line_rules.specs.Worlds.{World, Flight, Issued, Pairing, Sending, node_at}
use Rattle.line_events.specs.declared.happenings.Handed.{Handed}
use Rattle.line_laws.specs.InCustody.{Custody, FlightIsOf, SentUnder}
use Rattle.line_laws.specs.Keyed.{AtHome}
use Rattle.line_laws.specs.Later.{BesideKeeps, GoesOn, Holds, KeepsInTurn, UnsentHolds, unsent}
use Rattle.line_laws.specs.SealedUnits.{IsFlight}
use Rattle.line_laws.specs.Lines.{FlightFits, IsBelow, Rising, frontier}
use Rattle.line_laws.specs.Live.{IsLater, MarksRise, live}
use Rattle.line_laws.specs.Loops.{RanksRise, stored}
use Rattle.line_laws.specs.Places.{LiveFalls, live_is}
use Rattle.line_laws.specs.Ranked.{FlightBacked, IsNearer, IsPlain, IsSealedUnit, RoutingHolds, homes_of}
use Rattle.routing_set.specs.declared.rank.Rank.{Rank}
use Rattle.line_laws.specs.Sends.{SentAs}
use Rattle.routing_set.specs.RoutingSet as routing
use Rattle.line_laws.proofs.Homed as homed
use Rattle.line_laws.proofs.CustodySteps.{falls_on}
use Rattle.line_laws.proofs.LiveRuns.{none_falls}
use Rattle.line_laws.proofs.LoopRuns.{grow_homes}
use Rattle.line_laws.proofs.MarkSteps.{Follows, marks_rise, same_follows}
use Rattle.line_laws.proofs.RankOrder.{at_least_trans}
use Rattle.line_laws.proofs.RouteSteps.{counts_hold}
use Rattle.line_laws.proofs.Worlds.{counts_ok}

-- # One after the other

none_some : {A : Type 0} (x : A) → None ≡ Some x → ⊥
none_some x e = cc

marks_trans : (w v u : World) → MarksRise w v → MarksRise v u → MarksRise w u
marks_trans w v u a b = record { later = later }
  where
    later : (number : ℕ) (x : Node) → node_at w number ≡ Some x → IsLater u number x
    later number x there =
        let one = a.later number x there in
        let two = b.later number one.node one.there in
        record {
          node = two.node;
          there = two.there;
          role = two.role ∙ one.role;
          eui = two.eui ∙ one.eui;
          marks = λ from c e. one.marks from c (two.marks from c e);
        }

falls_trans : (w v u : World) → LiveFalls live w v None → LiveFalls live v u None → LiveFalls live w u None
falls_trans w v u a b = record { falls = λ f e. a.falls f (b.falls f e); passes = λ place f is there. absurd (none_some place is) }

ranks_trans : (w v u : World) → RanksRise w v → RanksRise v u → RanksRise w u
ranks_trans w v u a b i x there =
    let one = a i x there in
    let two = b i one.node one.there in
    record {
      node = two.node;
      there = two.there;
      above = λ dest. at_least_trans (routing.held (stored two.node) dest) (routing.held (stored one.node) dest) (routing.held (stored x) dest) (two.above dest)
          (one.above dest);
    }

pub keeps_in_turn : KeepsInTurn
keeps_in_turn w v u a b given sent taken all home ups h =
    let one = a given sent taken all home ups h in
    let two = b given sent taken all home ups one.0 in
    (two.0, marks_trans w v u one.1 two.1, falls_trans w v u one.2 two.2, ranks_trans w v u one.3 two.3, λ eui out. two.4 eui (one.4 eui out))

-- # What only further rules see

module _ (given : List Issued) (sent : List Sending) (taken : List Pairing) (all : List Sending) (home : ℕ → ℕ) (ups : List Handed) (w : World)
    (h : Holds given sent taken all home ups w) where
  abbrev S : ℕ → SentAs → Type 0
  S = SentUnder home all

  module _ (on : Bool) (bs : List Beside) where
    abbrev v : World
    v = record w { checks_on = on; beside = bs }

    follows : Follows w v
    follows = same_follows w v refl

    falls : LiveFalls live w v None
    falls = none_falls w v follows (λ some u a e. e)

    homes_same : homed.Grows (homes_of h.keyed.book w) (homes_of h.keyed.book v)
    unfolding homes_of
    homes_same i a e = e

    routes : RoutingHolds network (homes_of h.keyed.book v) v
    routes = grow_homes network (homes_of h.keyed.book w) (homes_of h.keyed.book v) homes_same v
        (counts_hold network (homes_of h.keyed.book w) {b = w} w v refl refl
        (record { holds = h.routes; later = λ i x there. record { node = x; there = there; above = λ dest. inl refl } })).holds

    custody : Custody network live S home v ups
    custody = falls_on network live S home w v ups (record {
      flights = h.custody.flights;
      ranged = h.custody.ranged;
      sent = h.custody.sent;
      nodes = h.custody.nodes;
      places = record { at_most = h.custody.places.at_most };
    }) falls

    holds : Holds given sent taken all home ups v
    holds = record {
      line = counts_ok w v h.line refl refl (λ e. e);
      octets = h.octets;
      spelled = h.spelled;
      ranged = record { nodes = h.ranged.nodes; flights = h.ranged.flights };
      keyed = let k = h.keyed in record {
        book = k.book;
        coordinator = k.coordinator;
        meters = k.meters;
        made = k.made;
        roles = k.roles;
        apart = k.apart;
        still = k.still;
        named = k.named;
      };
      senders = h.senders;
      joinings = h.joinings;
      routes = routes;
      tags = record {
        nodes = λ n y here. let o = h.tags.nodes n y here in record { tag = o.tag; is = o.is; few = o.few; under = o.under };
        homes = h.tags.homes;
        pairs = h.tags.pairs;
      };
      custody = custody;
    }

    goes_on : GoesOn w v
    goes_on = record {
      marks = marks_rise w v follows;
      live = falls;
      ranks = λ i x there. record { node = x; there = there; above = λ dest. inl refl };
      shut = λ eui out c is. out c is;
      senders = subst (All (HasSender v)) (sym (drop-length w.flights)) (All-nil (HasSender v));
    }

  -- # Flights that are not sent after all

  module _ (count : ℕ) (few : count ≤ length w.flights) where
    abbrev u : World
    u = unsent count w

    front : (P : Flight → Type 0) → All P w.flights → All P u.flights
    front P all_of = All-take P count w.flights all_of

    pairs_front : AllPairs CounterRises u.flights
    pairs_front i j d lt inside =
        let long = length-take-le count w.flights few in
        subst (λ f. CounterRises f (get_or u.flights j d)) (sym (get_or-take count w.flights i d (omega arith)))
        (subst (λ g. CounterRises (get_or w.flights i d) g) (sym (get_or-take count w.flights j d (omega arith))) (h.line.rising.pairs i j d lt (omega arith)))

    rising : Rising u
    rising = record {
      below = λ n y here. front (IsBelow n (frontier y)) (h.line.rising.below n y here);
      pairs = pairs_front;
      homes = front (λ (f : Flight). f.from < length w.nodes) h.line.rising.homes;
    }

    unsent_follows : Follows w u
    unsent_follows = same_follows w u refl

    unsent_falls : LiveFalls live w u None
    unsent_falls = none_falls w u unsent_follows (λ some b a e. e)

    unsent_same : homed.Grows (homes_of h.keyed.book w) (homes_of h.keyed.book u)
    unfolding homes_of
    unsent_same i a e = e

    backed_on : (g : Flight) → FlightBacked network (homes_of h.keyed.book w) w g → FlightBacked network (homes_of h.keyed.book w) u g
    backed_on g (IsPlain none) = IsPlain none
    backed_on g (IsSealedUnit sealed_unit y octets key at here backed reads) = IsSealedUnit sealed_unit y octets key at here backed reads

    unsent_nearer : (next dest : ℕ) (rank : Rank) → IsNearer (homes_of h.keyed.book w) w next dest rank → IsNearer (homes_of h.keyed.book w) u next dest rank
    unsent_nearer next dest rank (inl e) = inl e
    unsent_nearer next dest rank (inr n) = inr (record { number = n.number; node = n.node; home = n.home; there = n.there; beats = n.beats })

    unsent_routes : RoutingHolds network (homes_of h.keyed.book u) u
    unsent_routes = grow_homes network (homes_of h.keyed.book w) (homes_of h.keyed.book u) unsent_same u (record {
      ranks = record {
        backed = front (FlightBacked network (homes_of h.keyed.book w) u) (λ k d lt. backed_on (get_or w.flights k d) (h.routes.ranks.backed k d lt));
        not_own = h.routes.ranks.not_own;
      };
      routes = record {
        routes = λ i y here dest next e. let r = h.routes.routes.routes i y here dest next e in
            record { rank = r.rank; kept = r.kept; nearer = unsent_nearer next dest r.rank r.nearer };
      };
    })

    unsent_custody : Custody network live S home u ups
    unsent_custody = falls_on network live S home w u ups (record {
      flights = front (IsFlight network) h.custody.flights;
      ranged = h.custody.ranged;
      sent = front (FlightIsOf network S) h.custody.sent;
      nodes = h.custody.nodes;
      places = record {
        at_most = λ n i some.
            let old = h.custody.places.at_most n i some in
            let parts = sum_by-take-drop (live_is network (live w) n i) w.flights count in
            omega arith;
      };
    }) unsent_falls

    unsent_all : w.running ≡ true → Holds given sent taken all home ups u
    unsent_all runs = record {
      line =
          record { nodes = h.line.nodes; fits = h.line.fits; first = h.line.first; count = h.line.count; rising = rising; quiet = λ e. absurd (cc (runs, e)) };
      octets = front FlightFits h.octets;
      spelled = front (IsSpelled network) h.spelled;
      ranged = record { nodes = h.ranged.nodes; flights = front (IsFlight network) h.ranged.flights };
      keyed = let k = h.keyed in record {
        book = k.book;
        coordinator = k.coordinator;
        meters = k.meters;
        made = k.made;
        roles = k.roles;
        apart = k.apart;
        still = k.still;
        named = k.named;
      };
      senders = front (AtHome h.keyed.book u) h.senders;
      joinings = h.joinings;
      routes = unsent_routes;
      tags = record {
        nodes = λ n y here. let o = h.tags.nodes n y here in record { tag = o.tag; is = o.is; few = o.few; under = o.under };
        homes = h.tags.homes;
        pairs = h.tags.pairs;
      };
      custody = unsent_custody;
    }

pub beside_keeps : BesideKeeps
beside_keeps w on bs given sent taken all home ups h = (holds given sent taken all home ups w h on bs, goes_on given sent taken all home ups w h on bs)

pub unsent_holds : UnsentHolds
unsent_holds given sent taken all home ups w count few runs h = unsent_all given sent taken all home ups w h count few runs
