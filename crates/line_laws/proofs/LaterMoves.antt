-- What else a further rule may do to a world: a frame of discovery flies, flights are not sent after all, and what only further rules see changes.
use Rattle.std.proofs.Common.{inl, inr, ◌≡◌, ℕ, ◌≤◌, ◌<◌, Bool, true, false, List, [], ◌∷◌, ◌++◌, length, get_or, drop}
use Rattle.std.proofs.Common.{Option, Some, None, refl, sym, subst, arith}
use Rattle.std.specs.Prelude.{All, IfSome}
use Rattle.std.specs.List.{sum_by}
use Rattle.std.proofs.lemmas.List.Elements.{All-nil, All-cons, All-push}
use Rattle.std.proofs.lemmas.List.Quantifiers.{all_pairs_push}
use Rattle.std.proofs.lemmas.List.Sums.{sum_by-append, sum_by-cons}
use Rattle.mac_frames.specs.Reader.{head_in}
use Rattle.plc_base.specs.Fields.{octet}
use Rattle.pan_discovery.specs.declared.message.Discovery.{Discovery}
use Rattle.pan_discovery.specs.declared.message.Discovery.TheVariants.{Request, Beacon}
use Rattle.pan_discovery.specs.Messages.{IsDiscovery, discovery_spelling}
use Rattle.node_rules.specs.Ciphers.{network}
use Rattle.node_rules.specs.Memory.{Node}
use Rattle.line_rules.specs.Further.{discovery_flight}
use Rattle.line_rules.specs.Nonces.{CounterRises, HasSender, NonceParts, IsSpelled, nonce_in_head, nonce_parts}
use Rattle.line_rules.specs.Worlds.{World, Flight, Issued, Pairing, Sending, node_at}
use Rattle.line_events.specs.declared.happenings.Handed.{Handed}
use Rattle.line_laws.specs.InCustody.{Custody, FlightIsOf, SentUnder}
use Rattle.line_laws.specs.Keyed.{AtHome}
use Rattle.line_laws.specs.Later.{DiscoveringKeeps, GoesOn, Holds, flown}
use Rattle.line_laws.specs.SealedUnits.{Discovers, IsFlight}
use Rattle.line_laws.specs.Lines.{FlightFits, IsBelow, Rising, WorldOk, frontier}
use Rattle.line_laws.specs.Live.{live}
use Rattle.line_laws.specs.Owed.{AreOctets}
use Rattle.line_laws.specs.Places.{LiveFalls, live_is}
use Rattle.line_laws.specs.Ranked.{FlightBacked, IsNearer, IsPlain, IsSealedUnit, RoutingHolds, homes_of}
use Rattle.routing_set.specs.declared.rank.Rank.{Rank}
use Rattle.line_laws.proofs.CustodyCalls.{zero_weight}
use Rattle.std.specs.Prelude.{cond}
use Rattle.line_laws.specs.Places.{flight_is}
use Rattle.line_laws.specs.Sends.{SentAs}
use Rattle.line_laws.proofs.Homed as homed
use Rattle.line_laws.proofs.CustodySteps.{falls_on}
use Rattle.line_laws.proofs.LiveRuns.{none_falls}
use Rattle.line_laws.proofs.LoopRuns.{grow_homes}
use Rattle.line_laws.proofs.MarkSteps.{Follows, marks_rise, same_follows}
use Rattle.line_laws.proofs.Worlds.{within}

-- # A frame of discovery

-- no nonce stands in it
pub discovery_nonce : (frame : Discovery) → nonce_in_head (head_in (discovery_spelling frame)) ≡ None
unfolding head_in octet
discovery_nonce (Request seq) = refl
discovery_nonce (Beacon seq pan from cost) = refl

none_some : {A : Type 0} (x : A) → None ≡ Some x → ⊥
none_some x e = cc

not_both : (w : World) → w.running ≡ true → w.running ≡ false → ⊥
not_both w e f = cc (e, f)

spelled : (number : ℕ) (frame : Discovery) → IsDiscovery frame → IsSpelled network (discovery_flight number frame)
spelled number frame is = record {
  sealed = λ k e. absurd (none_some k e);
  plain = λ e. (inr (record { frame = frame; spelled = (is, refl); nonce = discovery_nonce frame }), refl);
}

pub is_flight : (number : ℕ) (frame : Discovery) → IsFlight network (discovery_flight number frame)
is_flight number frame = record { sealed = λ k e. absurd (none_some k e); plain = λ e. (Discovers frame refl, refl) }

drop_front : (fs gs : List Flight) → drop (length fs) (fs ++ gs) ≡ gs
drop_front [] gs = refl
drop_front (f ∷ fs) gs = drop_front fs gs

module _ (given : List Issued) (sent : List Sending) (taken : List Pairing) (all : List Sending) (home : ℕ → ℕ) (ups : List Handed) (w : World)
    (h : Holds given sent taken all home ups w) where
  abbrev S : ℕ → SentAs → Type 0
  S = SentUnder home all

  module _ (frame : Discovery) (is : IsDiscovery frame) (are : AreOctets (discovery_spelling frame)) (number : ℕ) (x : Node) (runs : w.running ≡ true)
      (there : node_at w number ≡ Some x) where
    abbrev f : Flight
    f = discovery_flight number frame

    abbrev v : World
    v = flown number frame w

    parts_none : nonce_parts f ≡ None
    parts_none = discovery_nonce frame

    -- whatever is said of the nonce's parts
    unsaid : (P : NonceParts → Type 0) → IfSome (nonce_parts f) P
    unsaid P = subst (λ o. IfSome o P) (sym parts_none) tt

    rising : Rising v
    rising = record {
      below = λ n y here. All-push (IsBelow n (frontier y)) w.flights f (h.line.rising.below n y here) (λ home_is. unsaid _);
      pairs = all_pairs_push CounterRises w.flights f h.line.rising.pairs (λ k d lt same. rises k d);
      homes = All-push (λ (g : Flight). g.from < length w.nodes) w.flights f h.line.rising.homes (within w.nodes number x there);
    }
      where
        by_parts : (o : Option NonceParts) → IfSome o (λ (p : NonceParts). IfSome (nonce_parts f) (λ (q : NonceParts). p.counter < q.counter))
        by_parts None = tt
        by_parts (Some p) = unsaid _

        rises : (k : ℕ) (d : Flight) → IfSome (nonce_parts (get_or w.flights k d))
            (λ (p : NonceParts). IfSome (nonce_parts f) (λ (q : NonceParts). p.counter < q.counter))
        rises k d = by_parts (nonce_parts (get_or w.flights k d))

    line : WorldOk v
    line = record {
      nodes = h.line.nodes;
      fits = h.line.fits;
      first = h.line.first;
      count = h.line.count;
      rising = rising;
      quiet = λ e. absurd (not_both w runs e);
    }

    follows : Follows w v
    follows = same_follows w v refl

    falls : LiveFalls live w v None
    falls = none_falls w v follows (λ some u a e. e)

    homes_same : homed.Grows (homes_of h.keyed.book w) (homes_of h.keyed.book v)
    unfolding homes_of
    homes_same i a e = e

    backed_on : (g : Flight) → FlightBacked network (homes_of h.keyed.book w) w g → FlightBacked network (homes_of h.keyed.book w) v g
    backed_on g (IsPlain none) = IsPlain none
    backed_on g (IsSealedUnit sealed_unit y octets key at here backed reads) = IsSealedUnit sealed_unit y octets key at here backed reads

    nearer_on : (next dest : ℕ) (rank : Rank) → IsNearer (homes_of h.keyed.book w) w next dest rank → IsNearer (homes_of h.keyed.book w) v next dest rank
    nearer_on next dest rank (inl e) = inl e
    nearer_on next dest rank (inr n) = inr (record { number = n.number; node = n.node; home = n.home; there = n.there; beats = n.beats })

    routes : RoutingHolds network (homes_of h.keyed.book v) v
    routes = grow_homes network (homes_of h.keyed.book w) (homes_of h.keyed.book v) homes_same v (record {
      ranks = record {
        backed = All-push (FlightBacked network (homes_of h.keyed.book w) v) w.flights f
            (λ k d lt. backed_on (get_or w.flights k d) (h.routes.ranks.backed k d lt)) (IsPlain refl);
        not_own = h.routes.ranks.not_own;
      };
      routes = record {
        routes = λ i y here dest next e. let r = h.routes.routes.routes i y here dest next e in
            record { rank = r.rank; kept = r.kept; nearer = nearer_on next dest r.rank r.nearer };
      };
    })

    custody : Custody network live S home v ups
    custody = falls_on network live S home w v ups (record {
      flights = All-push (IsFlight network) w.flights f h.custody.flights (is_flight number frame);
      ranged = h.custody.ranged;
      sent = All-push (FlightIsOf network S) w.flights f h.custody.sent (record { unit = λ u e. absurd (none_some u e) });
      nodes = h.custody.nodes;
      places = record {
        at_most = λ n i some.
            let old = h.custody.places.at_most n i some in
            let both = sum_by-append (live_is network (live w) n i) w.flights (f ∷ []) in
            let none = weightless n i some in
            rw both (omega arith);
      };
    }) falls
      where
        by_live : (n i : ℕ) (b : Bool) → cond b (flight_is network n i f) 0 ≤ 0
        by_live n i true = zero_weight n 0
        by_live n i false = omega arith

        weightless : (n i : ℕ) → 0 < n → sum_by (live_is network (live w) n i) (f ∷ []) ≤ 0
        weightless n i some = let none = by_live n i (live w f) in rw (sum_by-cons (live_is network (live w) n i) f []) (omega arith)

    holds : Holds given sent taken all home ups v
    holds = record {
      line = line;
      octets = All-push FlightFits w.flights f h.octets are;
      spelled = All-push (IsSpelled network) w.flights f h.spelled (spelled number frame is);
      ranged = record { nodes = h.ranged.nodes; flights = All-push (IsFlight network) w.flights f h.ranged.flights (is_flight number frame) };
      keyed = let k = h.keyed in record {
        book = k.book;
        coordinator = k.coordinator;
        meters = k.meters;
        made = k.made;
        roles = k.roles;
        apart = k.apart;
        still = k.still;
        named = k.named;
      };
      senders = All-push (AtHome h.keyed.book v) w.flights f h.senders (unsaid _);
      joinings = h.joinings;
      routes = routes;
      tags = record {
        nodes = λ n y here. let o = h.tags.nodes n y here in record { tag = o.tag; is = o.is; few = o.few; under = o.under };
        homes = h.tags.homes;
        pairs = h.tags.pairs;
      };
      custody = custody;
    }

    goes_on : GoesOn w v
    goes_on = record {
      marks = marks_rise w v follows;
      live = falls;
      ranks = λ i y here. record { node = y; there = here; above = λ dest. inl refl };
      shut = λ eui out c at. out c at;
      senders = subst (All (HasSender v)) (sym (drop_front w.flights (f ∷ []))) (All-cons (HasSender v) f [] (unsaid _) (All-nil (HasSender v)));
    }

pub discovering_keeps : DiscoveringKeeps
discovering_keeps frame is are w number x runs there given sent taken all home ups h =
    (holds given sent taken all home ups w h frame is are number x runs there, goes_on given sent taken all home ups w h frame is are number x runs there)
