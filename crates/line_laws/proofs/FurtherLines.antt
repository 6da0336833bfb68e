-- What holds of a line of nodes holds after the events of further reach.
use Rattle.std.proofs.Common.{zero-le, ◌≡◌, ℕ, ◌<◌, true, false, List, [], ◌∷◌, ◌++◌, length, get_or, Option, Some, None, Err, refl}
use Rattle.std.proofs.Common.{sym, subst, arith}
use Rattle.std.specs.Prelude.{IfSome}
use Rattle.std.proofs.lemmas.List.Elements.{All-push}
use Rattle.std.proofs.lemmas.List.Quantifiers.{all_pairs_push}
use Rattle.pan_discovery.specs.declared.message.Discovery.{Discovery}
use Rattle.node_rules.specs.Ciphers.{Ciphers}
use Rattle.node_rules.specs.Memory.{Memory, Node}
use Rattle.node_rules.specs.Plans.{Plan}
use Rattle.reach_rules.specs.declared.refusal.BroadcastRefusal.TheVariants as broadcasts
use Rattle.reach_rules.specs.declared.refusal.AskRefusal.TheVariants as asks
use Rattle.node_rules.specs.MemoryDrafts.{in_memory}
use Rattle.node_rules.specs.declared.refusal.Dropped.TheVariants as drops
use Rattle.reach_rules.specs.declared.refusal.ReachDropped.TheVariants as reach_drops
use Rattle.reach_rules.specs.FurtherReceptions.{NeighbourCommand, hear_command}
use Rattle.reach_rules.specs.ReachingNodes.{Beside, Reaching}
use Rattle.pan_discovery.specs.Reader.{discovery_in}
use Rattle.reach_rules.specs.Beacons.{Discovering, begin_scan, hear_discovery}
use Rattle.reach_rules.specs.Broadcasts.{broadcast}
use Rattle.reach_rules.specs.PathRequests.{ask_path}
use Rattle.line_rules.specs.Answers.{discovery_word, scan_word}
use Rattle.line_events.specs.declared.event.Answer.{Answer}
use Rattle.line_rules.specs.Further.{beside_at, commanded, broadcasts_by, asks_by, scans_by, discovers_by, has_discovered}
use Rattle.line_rules.specs.Further.{beacon_taken, scanning, discovery_flight, reaches, with_beside}
use Rattle.line_rules.specs.Nonces.{CounterRises, NonceParts, nonce_parts}
use Rattle.line_rules.specs.Steps.{running_world, world_after}
use Rattle.line_rules.specs.Worlds.{World, Flight, Noticed, Trace, node_at}
use Rattle.line_laws.specs.FurtherLines.{LineHolds, LogFits, CallsKeepTheLine, CommandsKeepTheLine, DiscoveryKeepsTheLine}
use Rattle.line_laws.specs.Lines.{IsBelow, NodeOk, WorldOk, frontier}
use Rattle.line_laws.specs.Owed.{KeepsRanges}
use Rattle.line_laws.proofs.FurtherForms.{AnyUnits, IsFurther, ask_is, broadcast_is, command_is, further_ok}
use Rattle.mac_frames.specs.Grammar.{IsTarget}
use Rattle.node_rules.specs.Frames.{to_all}
use Rattle.line_laws.proofs.LaterMoves.{discovery_nonce}
use Rattle.line_laws.proofs.Nodes.{DidOk, acts_ok}
use Rattle.line_laws.proofs.Worlds.{at_place, counts_ok, ok_after, within}

true_false : true ≡ false → ⊥
true_false e = cc

module _ (w : World) (ok : WorldOk w) where
  ran_ok : WorldOk (running_world w)
  ran_ok = counts_ok w (running_world w) ok refl refl (λ e. absurd (true_false e))

  -- # Calls

  module _ (ciphers : Ciphers) (fits : KeepsRanges ciphers) (number : ℕ) (x : Node) (there : node_at w number ≡ Some x) where
    good : NodeOk x
    good = at_place NodeOk w.nodes number x there ok.nodes

    module _ {A : Type 0} (halted : A) (plan : Reaching Memory → Plan (Reaching Memory) A) (b : Beside)
        (is : (m : Memory) → IsFurther AnyUnits m (with_beside b plan m)) where
      did : DidOk x (reaches x b halted plan)
      did = acts_ok x halted (with_beside b plan) good (λ m here kept sized. further_ok AnyUnits x.role m sized (with_beside b plan m) (is m))

      reached : (bs : List Beside) → WorldOk (record (world_after ciphers (running_world w) number (reaches x b halted plan)) { beside = bs })
      reached bs =
          let v : World = world_after ciphers (running_world w) number (reaches x b halted plan) in
          counts_ok v (record v { beside = bs })
          (ok_after ciphers fits (running_world w) number x (reaches x b halted plan) ran_ok there did (λ e. absurd (true_false e)))
          refl refl (λ e. e)

    broadcast_holds : (datagram : List ℕ) → LineHolds (broadcasts_by ciphers w number x datagram)
    broadcast_holds datagram =
        let is : (m : Memory) → IsFurther AnyUnits m (with_beside (beside_at w number) (λ y. broadcast in_memory y datagram) m) = λ m. broadcast_is AnyUnits
        (beside_at w number) datagram m (λ own here e. tt) in (
          reached (Err broadcasts.Halted) (λ y. broadcast in_memory y datagram) (beside_at w number) is _,
          (did (Err broadcasts.Halted) (λ y. broadcast in_memory y datagram) (beside_at w number) is).few,
        )

    ask_holds : (target : Option ℕ) → LineHolds (asks_by ciphers w number x target)
    ask_holds None = (ran_ok, zero-le)
    ask_holds (Some target) =
        let is : (m : Memory) → IsFurther AnyUnits m (with_beside (beside_at w number) (λ y. ask_path in_memory y target) m) = λ m. ask_is AnyUnits
        (beside_at w number) target m (λ own hop here e. tt) in (
          reached (Err asks.Halted) (λ y. ask_path in_memory y target) (beside_at w number) is _,
          (did (Err asks.Halted) (λ y. ask_path in_memory y target) (beside_at w number) is).few,
        )

  -- # Discovery

  module _ (number : ℕ) (x : Node) (there : node_at w number ≡ Some x) where
    unsaid : (frame : Discovery) (P : NonceParts → Type 0) → IfSome (nonce_parts (discovery_flight number frame)) P
    unsaid frame P = subst (λ o. IfSome o P) (sym (discovery_nonce frame)) tt

    pub flown_ok : (frame : Discovery) (bs : List Beside)
        → WorldOk (record (running_world w) { flights = w.flights ++ discovery_flight number frame ∷ []; beside = bs })
    flown_ok frame bs = record {
      nodes = ok.nodes;
      fits = ok.fits;
      first = ok.first;
      count = ok.count;
      rising = record {
        below = λ n y here. All-push (IsBelow n (frontier y)) w.flights (discovery_flight number frame) (ok.rising.below n y here) (λ home. unsaid frame _);
        pairs = all_pairs_push CounterRises w.flights (discovery_flight number frame) ok.rising.pairs
            (λ k d lt same. by_parts (nonce_parts (get_or w.flights k d)));
        homes = All-push (λ (g : Flight). g.from < length w.nodes) w.flights (discovery_flight number frame) ok.rising.homes (within w.nodes number x there);
      };
      quiet = λ e. absurd (true_false e);
    }
      where
        by_parts : (o : Option NonceParts)
            → IfSome o (λ (p : NonceParts). IfSome (nonce_parts (discovery_flight number frame)) (λ (q : NonceParts). p.counter < q.counter))
        by_parts None = tt
        by_parts (Some p) = unsaid frame _

    discovered_holds : {A : Type 0} (word : A → Answer) (noticed : A → Option Noticed) (d : Discovering A) → LineHolds (has_discovered w number word noticed d)
    discovered_holds word noticed d = by_sent d.sent refl
      where
        by_sent : (o : Option Discovery) → d.sent ≡ o → LineHolds (has_discovered w number word noticed d)
        by_sent None e = rw e (still _, zero-le)
          where
            still : (bs : List Beside) → WorldOk (record (running_world w) { flights = w.flights ++ []; beside = bs })
            still bs = subst (λ fs. WorldOk (record (running_world w) { flights = fs; beside = bs })) (sym (nil_after w.flights))
                (counts_ok w (record (running_world w) { beside = bs }) ok refl refl (λ e. absurd (true_false e)))
              where
                nil_after : (fs : List Flight) → fs ++ [] ≡ fs
                nil_after [] = refl
                nil_after (f ∷ fs) = (λ i. f ∷ nil_after fs i)
        by_sent (Some frame) e = rw e (flown_ok frame _, omega arith)

    scan_holds : (o : Option Memory) → LineHolds (scans_by w number o)
    scan_holds None = (ran_ok, zero-le)
    scan_holds (Some m) = discovered_holds scan_word (scanning number) (begin_scan m (beside_at w number).scan)

    octets_hold : (octets : List ℕ) (link : ℕ) (o : Option Memory) → LineHolds (discovers_by w number x octets link o)
    octets_hold octets link None = (ran_ok, zero-le)
    octets_hold octets link (Some m) = discovered_holds discovery_word (beacon_taken number (discovery_in octets) link)
        (hear_discovery x.role m.station (beside_at w number).scan octets link)

pub calls_keep : CallsKeepTheLine
calls_keep ciphers fits w ok number x there = (broadcast_holds w ok ciphers fits number x there, ask_holds w ok ciphers fits number x there)

pub discovery_keeps : DiscoveryKeepsTheLine
discovery_keeps w ok number x there = (scan_holds w ok number x there x.memory, λ octets link. octets_hold w ok number x there octets link x.memory)

-- # Commands

module _ (ciphers : Ciphers) (fits : KeepsRanges ciphers) (r : World × Trace) (ok : WorldOk r.0) (runs : r.0.running ≡ true)
    (silent : r.1.happenings.flights ≡ 0)
    (number : ℕ) (x : Node) (there : node_at r.0 number ≡ Some x) (logs : (m : Memory) → x.memory ≡ Some m → LogFits (beside_at r.0 number)) where
  not_both : r.0.running ≡ false → ⊥
  not_both e = cc (runs, e)

  module _ (c : NeighbourCommand) where
    heard_did : DidOk x (reaches x (beside_at r.0 number) (Err (reach_drops.Known drops.Store)) (λ y. hear_command in_memory y c))
    heard_did = acts_ok x (Err (reach_drops.Known drops.Store)) (with_beside (beside_at r.0 number) (λ y. hear_command in_memory y c))
        (at_place NodeOk r.0.nodes number x there ok.nodes)
        (λ m here kept sized. further_ok AnyUnits x.role m sized (with_beside (beside_at r.0 number) (λ y. hear_command in_memory y c) m)
        (command_is AnyUnits tt (beside_at r.0 number) (logs m here) m c (λ own message to next here e o. tt) (λ own d here e none. tt)))

    command_holds : LineHolds (commanded ciphers number x c r)
    command_holds =
        let did = heard_did in
        let few = did.few in (
          counts_ok (world_after ciphers r.0 number (reaches x (beside_at r.0 number) (Err (reach_drops.Known drops.Store)) (λ y. hear_command in_memory y c)))
              _
              (ok_after ciphers fits r.0 number x (reaches x (beside_at r.0 number) (Err (reach_drops.Known drops.Store)) (λ y. hear_command in_memory y c)) ok
              there did (λ e. absurd (not_both e))) refl refl (λ e. e),
          omega arith,
        )

pub commands_keep : CommandsKeepTheLine
commands_keep ciphers fits r ok runs silent number x there logs c = command_holds ciphers fits r ok runs silent number x there logs c

-- # All of it

pub all_target : IsTarget to_all
all_target = (omega arith, λ e. omega arith)
