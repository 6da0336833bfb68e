-- What a node hears of ranks, where no event is forged, was said by the node of its neighbour's address, which backs it.
use Rattle.std.proofs.Common.{◌≡◌, inl, inr, ℕ, ◌≤◌, ◌<◌, ◌^◌, ◌/◌, ◌%◌, Bool, true, false, not, List, [], ◌∷◌, Option, Some, None, Ok, refl, sym, ap, ◌∙◌}
use Rattle.std.proofs.Common.{subst, arith}
use Rattle.std.specs.Prelude.{All, ◌==◌, ◌||◌, slice_index}
use Rattle.std.specs.List.{list_any}
use Rattle.std.specs.Option.{option_map_or}
use Rattle.std.proofs.lemmas.Bool.{eqb-false, and_parts, eqb-true}
use Rattle.std.proofs.lemmas.Option.{same_Some, none-some}
use Rattle.std.specs.Str.{bytes_eq}
use Rattle.group_keys.specs.KeyBook.{same_key}
use Rattle.std.proofs.lemmas.Slice.Eq.{bytes_eq-Decides}
use Rattle.std.proofs.lemmas.List.Elements.{All-head, All-tail}
use Rattle.plc_base.specs.declared.key.Key.{Key}
use Rattle.mesh_header.specs.declared.unit.Unit.{Unit as MeshUnit}
use Rattle.mesh_header.specs.declared.unit.Unit.TheVariants as units
use Rattle.mesh_header.specs.Reader.{unit_in}
use Rattle.loadng_messages.specs.declared.message.Message.{Message}
use Rattle.loadng_messages.specs.declared.message.Message.TheVariants.{Rreq, Rrep, Rerr}
use Rattle.loadng_messages.specs.Grammar as messages
use Rattle.loadng_messages.specs.Reader.{message_in}
use Rattle.routing_set.specs.declared.rank.Rank.{Rank}
use Rattle.routing_set.specs.Ranks.{IsAtLeast}
use Rattle.routing_set.specs.RoutingSet as routing
use Rattle.node_rules.specs.declared.heard.Path.TheVariants as paths
use Rattle.node_rules.specs.Accepted.{Accepted}
use Rattle.node_rules.specs.Ciphers.{Ciphers}
use Rattle.node_rules.specs.Frames.{Sealed, SealedUnit, spelled, arrived, to_all}
use Rattle.node_rules.specs.HearingRules.{rank_over}
use Rattle.node_rules.specs.Memory.{StationMemory, Node}
use Rattle.line_rules.specs.Worlds.{World, Flight, node_at, has_octets}
use Rattle.line_rules.specs.Steps.{forged_by}
use Rattle.node_rules.specs.Acceptance.{Accepting, marking}
use Rattle.node_rules.specs.Plans.{resting}
use Rattle.line_laws.proofs.StoreMarks.{IsAdmitted, IsPlain, Accepts, Turned, Plain, Marked}
use Rattle.line_laws.proofs.Made.{Offered, ByRequest, ByReply, ByItself}
use Rattle.line_laws.proofs.NodeCalls.{RoutesFit, heard_given, heard_offers, no_some}
use Rattle.line_laws.proofs.RankOrder.{beats_at_least, beats_farther}
use Rattle.line_laws.proofs.RankFold.{IsAt, OfferFits}
use Rattle.line_laws.proofs.RankSaid.{RankBacked, MessageBacked, UnitBacked, Says, IsWhole, IsPart, IsCarried, IsOther}
use Rattle.line_laws.proofs.RouteParts as parts
use Rattle.line_laws.proofs.RouteParts.{At, Own, IsNearer, FlightBacked, IsSealedUnit}
use Rattle.line_laws.specs.Loops.{stored}
use Rattle.line_laws.proofs.LettersRead.{SealedUnitRead}
use Rattle.line_laws.proofs.Homed.{Homes}

-- The node of an address stands after a message.
pub record SaidBy (h : Homes) (w : World) (by : ℕ) (message : Message) : Type 0 where
  pub number : ℕ
  pub node : Node
  pub home : h number ≡ Some by
  pub there : node_at w number ≡ Some node
  pub backed : MessageBacked (At h number) (stored node) message

-- Each route message of an accepted frame was said so.
pub record SaidRight (h : Homes) (w : World) (got : Accepted) : Type 0 where
  pub run : (by : ℕ) (all : Bool) (key : Key) (code : ℕ) (body : List ℕ) (message : Message) → got.path ≡ paths.Sealed by all key
      → unit_in got.payload ≡ Some (units.Local code body) → (code == 1) ≡ true → message_in body ≡ Some message
      → SaidBy h w by message

-- a number of two octets is that of its spelling
same_number : (a b : ℕ) → a < 65536 → b < 65536 → a / 256 % 256 ≡ b / 256 % 256 → a % 256 ≡ b % 256 → a ≡ b
same_number a b la lb high low = omega arith

no_cost : (a b : ℕ) → a ≡ 0 → b < 65536 → a / 256 % 256 ≡ b / 256 % 256 → a % 256 ≡ b % 256 → b ≡ 0
no_cost a b zero_is lb high low = omega arith

not_below : (a b : ℕ) → a ≡ b → a < b → ⊥
not_below a b e lt = omega arith

not_above : (a b : ℕ) → a ≡ b → b < a → ⊥
not_above a b e lt = omega arith

-- What stands in octets that are the same, at a place and after it.
record SameTwo (a b : ℕ) : Type 0 where
  high : a / 256 % 256 ≡ b / 256 % 256
  low : a % 256 ≡ b % 256

-- the number, the cost and the address in the spellings of two messages that are the same
module _ (At : ℕ → Type 0) (t : routing.Routing) (low : (a : ℕ) → At a → a < 0xFFFE) where
  rank_same : (n c o m d p : ℕ) → messages.IsNumber m → d < 2 ^ 16 → p < 0xFFFE → SameTwo n m → SameTwo c d → SameTwo o p → RankBacked At t n c o
      → RankBacked At t m d p
  rank_same n c o m d p fm fd fp sn sc so (inl own) =
      let small = low o own.0 in
      let there : o ≡ p = same_number o p (omega arith) (omega arith) so.high so.low in
      let none : d ≡ 0 = no_cost c d own.1 fd sc.high sc.low in
      inl (subst At there own.0, none)
  rank_same n c o m d p fm fd fp sn sc so (inr k) =
      let number : n ≡ m = same_number n m k.1.0 fm.1 sn.high sn.low in
      let cost : c ≡ d = same_number c d k.1.1 fd sc.high sc.low in
      let there : o ≡ p = same_number o p k.1.2 (omega arith) so.high so.low in
      inr (
        subst (λ (x : ℕ). IsAtLeast (routing.held t x) (record { number = m; cost = d })) there
            (subst (λ (x : ℕ). IsAtLeast (routing.held t o) (record { number = m; cost = x })) cost
            (subst (λ (x : ℕ). IsAtLeast (routing.held t o) (record { number = x; cost = c })) number k.0)),
        (fm.1, fd, omega arith),
      )

  -- a message that is read of the spelling of one that is backed is backed
  same_backed : (a b : Message) → messages.spelling a ≡ messages.spelling b → messages.IsMessage b → MessageBacked At t a → MessageBacked At t b
  same_backed (Rreq n c o x) (Rreq m d p y) e fits k = rank_same n c o m d p fits.0 fits.1 fits.2
      (record { high = ap (λ xs. slice_index xs 1) e; low = ap (λ xs. slice_index xs 2) e })
      (record { high = ap (λ xs. slice_index xs 3) e; low = ap (λ xs. slice_index xs 4) e })
      (record { high = ap (λ xs. slice_index xs 5) e; low = ap (λ xs. slice_index xs 6) e }) k
  same_backed (Rrep n c o x) (Rrep m d p y) e fits k = rank_same n c o m d p fits.0 fits.1 fits.2
      (record { high = ap (λ xs. slice_index xs 1) e; low = ap (λ xs. slice_index xs 2) e })
      (record { high = ap (λ xs. slice_index xs 3) e; low = ap (λ xs. slice_index xs 4) e })
      (record { high = ap (λ xs. slice_index xs 5) e; low = ap (λ xs. slice_index xs 6) e }) k
  same_backed (Rreq n c o x) (Rrep m d p y) e fits k = absurd (not_below 1 2 (ap (λ (xs : List ℕ). slice_index xs 0) e) (omega arith))
  same_backed (Rrep n c o x) (Rreq m d p y) e fits k = absurd (not_above 2 1 (ap (λ (xs : List ℕ). slice_index xs 0) e) (omega arith))
  same_backed (Rerr lost to) (Rreq m d p y) e fits k = absurd (not_above 3 1 (ap (λ (xs : List ℕ). slice_index xs 0) e) (omega arith))
  same_backed (Rerr lost to) (Rrep m d p y) e fits k = absurd (not_above 3 2 (ap (λ (xs : List ℕ). slice_index xs 0) e) (omega arith))
  same_backed (Rreq n c o x) (Rerr lost to) e fits k = tt
  same_backed (Rrep n c o x) (Rerr lost to) e fits k = tt
  same_backed (Rerr a b) (Rerr lost to) e fits k = tt

module _ (ciphers : Ciphers) (h : Homes) (w : World) (low : (i address : ℕ) → h i ≡ Some address → address < 0xFFFE)
    (backed : All (FlightBacked ciphers h w) w.flights) where
  -- A flight with these octets under this key.
  record Found (octets : List ℕ) (key : Key) : Type 0 where
    flight : Flight
    octets_are : flight.octets ≡ octets
    key_is : flight.key ≡ Some key
    says : FlightBacked ciphers h w flight

  same_bytes : (a b : List ℕ) → bytes_eq a b ≡ true → a ≡ b
  same_bytes a b e = (bytes_eq-Decides a b).0 e

  key_same : (key : Key) (o : Option Key) → option_map_or (same_key key) o false ≡ true → o ≡ Some key
  key_same key None e = absurd (cc)
  key_same key (Some k) e = ap (λ xs. Some (record { 0 = xs })) (sym (same_bytes key.0 k.0 e))

  found : (octets : List ℕ) (key : Key) (fs : List Flight) → All (FlightBacked ciphers h w) fs → list_any (has_octets octets key) fs ≡ true → Found octets key
  found octets key [] all e = absurd (cc)
  found octets key (f ∷ fs) all e = by_first (found octets key fs (All-tail (FlightBacked ciphers h w) f fs all)) (has_octets octets key f) refl e
    where
      by_first : (list_any (has_octets octets key) fs ≡ true → Found octets key) → (b : Bool) → has_octets octets key f ≡ b
          → (b || list_any (has_octets octets key) fs) ≡ true → Found octets key
      by_first more true is e =
          let parts = and_parts (bytes_eq f.octets octets) (option_map_or (same_key key) f.key false) is in
          record {
            flight = f;
            octets_are = same_bytes f.octets octets parts.0;
            key_is = key_same key f.key parts.1;
            says = All-head (FlightBacked ciphers h w) f fs all;
          }
      by_first more false is e = more e

  -- what is opened of a flight is what its sender said
  opened_said : (octets : List ℕ) (l : StationMemory) (from counter : ℕ) (got : Accepted) (a : IsAdmitted l (arrived ciphers octets) from counter got)
      → Found octets a.key
      → (code : ℕ) (body : List ℕ) (message : Message) → unit_in a.payload ≡ Some (units.Local code body) → (code == 1) ≡ true → message_in body ≡ Some message
      → SaidBy h w from message
  opened_said octets l from counter got a x code body message unit first read = by_flight x.says
    where
      by_unit : (sealed_unit : SealedUnit) (node : Node) → h x.flight.from ≡ Some from → node_at w x.flight.from ≡ Some node
          → SealedUnitRead ciphers sealed_unit → (u : MeshUnit)
          → sealed_unit.unit ≡ u → u ≡ units.Local code body
          → UnitBacked (At h x.flight.from) (stored node) u → SaidBy h w from message
      by_unit sealed_unit node home there reads u is same (Says m b) =
          let body_is : messages.spelling m ≡ body = cc in
          let r = reads.messages m is in
          let this : r.0 ≡ message = same_Some _ _ (sym r.1 ∙ ap message_in body_is ∙ read) in
          record {
            number = x.flight.from;
            node = node;
            home = home;
            there = there;
            backed = subst (MessageBacked (At h x.flight.from) (stored node)) this
                (same_backed (At h x.flight.from) (stored node) (low x.flight.from) m r.0 r.2 r.3 b);
          }
      by_unit sealed_unit node home there reads u is same (IsWhole mesh os) = absurd (cc)
      by_unit sealed_unit node home there reads u is same (IsPart mesh piece) = absurd (cc)
      by_unit sealed_unit node home there reads u is same (IsCarried mesh bs) = absurd (cc)
      by_unit sealed_unit node home there reads u is same (IsOther c b other) = absurd (other (let code_is : c ≡ code = cc in code_is ∙ eqb-true code 1 first))

      by_flight : FlightBacked ciphers h w x.flight → SaidBy h w from message
      by_flight (parts.IsPlain none) = absurd (none-some a.key (sym none ∙ x.key_is))
      by_flight (IsSealedUnit sealed_unit node octets_are key_is home there b reads) =
          let key : sealed_unit.key ≡ a.key = same_Some _ _ (sym key_is ∙ x.key_is) in
          let same : arrived ciphers (spelled ciphers (Sealed sealed_unit)).octets
          ≡ Some a.frame = ap (arrived ciphers) (sym octets_are ∙ x.octets_are) ∙ a.is in
          let opens = reads.opens a.frame a.head.0 a.head.1 a.head.2 a.to from counter a.index a.payload same a.head.3 (ap a.frame.opened key ∙ a.opened) in
          let this : sealed_unit.unit ≡ units.Local code body = same_Some _ _ (sym opens.1 ∙ unit) in
          by_unit sealed_unit node (home ∙ ap Some (sym opens.0)) there reads sealed_unit.unit refl this b

  not_false : (b : Bool) → not b ≡ false → b ≡ true
  not_false true e = refl
  not_false false e = absurd (cc)

  -- a frame that was accepted, and is not forged
  pub admitted_said : (octets : List ℕ) (l : StationMemory) (from counter : ℕ) (got : Accepted) → IsAdmitted l (arrived ciphers octets) from counter got
      → forged_by w octets got.path ≡ false → SaidRight h w got
  admitted_said octets l from counter got a honest = record {
    run = λ by all key code body message path unit first read.
        let path_is : paths.Sealed by all key ≡ paths.Sealed from (a.to == to_all) a.key = sym path ∙ ap (λ (x : Accepted). x.path) a.got_is in
        let any : list_any (has_octets octets a.key) w.flights
        ≡ true = not_false _ (sym (ap (λ (x : Accepted). forged_by w octets x.path) a.got_is) ∙ honest) in
        let said = opened_said octets l from counter got a (found octets a.key w.flights backed any) code body message
        (sym (ap (λ (x : Accepted). unit_in x.payload) a.got_is) ∙ unit) first read in
        let by_is : from ≡ by = cc in
        subst (λ (k : ℕ). SaidBy h w k message) by_is said;
  }

  plain_said : (got : Accepted) → IsPlain got.path → SaidRight h w got
  plain_said got plain = record { run = λ by all key code body message path unit first read. absurd (subst IsPlain path plain) }

  pub accepted_said : (octets : List ℕ) (l : StationMemory) (p : Accepting) (got : Accepted) → Accepts l (arrived ciphers octets) p → p.answer ≡ Ok got
      → forged_by w octets got.path ≡ false → SaidRight h w got
  unfolding resting marking
  accepted_said octets l p got (Turned reason) e honest = absurd (cc)
  accepted_said octets l p got (Plain x plain) e honest = let same : x ≡ got = cc in plain_said got (subst (λ (y : Accepted). IsPlain y.path) same plain.path)
  accepted_said octets l p got (Marked from counter x a) e honest =
      let same : x ≡ got = cc in admitted_said octets l from counter got (subst (IsAdmitted l (arrived ciphers octets) from counter) same a) honest

-- # What it offers

-- the sender is the end of the way, or it keeps a rank that beats the one with the link's cost
said_nearer : (h : Homes) (w : World) (by origin number c cost : ℕ) (message : Message) (s : SaidBy h w by message) → 1 ≤ cost
    → RankBacked (At h s.number) (stored s.node) number c origin → IsNearer h w by origin (rank_over number c cost)
said_nearer h w by origin number c cost message s far (inl own) = inl (same_Some _ _ (sym s.home ∙ own.0))
said_nearer h w by origin number c cost message s far (inr k) =
    inr (record { number = s.number; node = s.node; home = s.home; there = s.there; beats = beats_at_least _ _ _ k.0 (beats_farther number c cost far) })

-- another address than the own one
not_own : (h : Homes) (i own origin : ℕ) → h i ≡ Some own → (origin == own) ≡ false → ¬ (Own h i origin)
not_own h i own origin here apart (inl same) = eqb-false _ _ apart (same_Some _ _ (sym same ∙ here))
not_own h i own origin here apart (inr none) = none-some own (sym none ∙ here)

pub said_offers : (h : Homes) (w : World) (i : ℕ) (got : Accepted) (cost note now : ℕ) → RoutesFit got → SaidRight h w got → 1 ≤ cost → (address : Option ℕ)
    → IsAt (At h i) address → (by origin : ℕ) (rank : Rank)
    → Offered (heard_given got cost note now) address by origin rank → OfferFits (Own h i) (IsNearer h w) by origin rank now
said_offers h w i got cost note now fits right far address at by origin rank (ByRequest own number c o dest here apart few came_so) =
    let same : got ≡ came_so.came.got = same_Some _ _ came_so.came.is in
    let said = right.run by true came_so.came.key came_so.code came_so.body (Rreq number c o dest) (ap (λ (x : Accepted). x.path) same ∙ came_so.came.path)
    (ap (λ (x : Accepted). unit_in x.payload) same ∙ came_so.came.unit) came_so.first came_so.read in
    record {
      fits = heard_offers got cost note now fits address by origin rank (ByRequest own number c o dest here apart few came_so);
      apart = not_own h i own origin (subst (IsAt (At h i)) here at) apart;
      cause = said_nearer h w by origin number c cost _ said far said.backed;
    }
said_offers h w i got cost note now fits right far address at by origin rank (ByReply own number c o to here apart few came_so) =
    let same : got ≡ came_so.came.got = same_Some _ _ came_so.came.is in
    let said = right.run by false came_so.came.key came_so.code came_so.body (Rrep number c o to) (ap (λ (x : Accepted). x.path) same ∙ came_so.came.path)
    (ap (λ (x : Accepted). unit_in x.payload) same ∙ came_so.came.unit) came_so.first came_so.read in
    record {
      fits = heard_offers got cost note now fits address by origin rank (ByReply own number c o to here apart few came_so);
      apart = not_own h i own origin (subst (IsAt (At h i)) here at) apart;
      cause = said_nearer h w by origin number c cost _ said far said.backed;
    }
said_offers h w i got cost note now fits right far address at by origin rank (ByItself none) = absurd (no_some _ none)
