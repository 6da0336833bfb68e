-- Nodes that are shown by the same lines.
use Rattle.std.proofs.Common.{◌≡◌, ℕ, ◌+◌, ◌<◌, ◌==◌, Bool, true, false, List, [], ◌∷◌, ◌++◌, length, get_or, Option, Some, None, refl, sym, ap, ◌∙◌, arith}
use Rattle.std.specs.Prelude.{if◌then◌else◌}
use Rattle.std.proofs.lemmas.Bool.{both_ways, eqb-true}
use Rattle.plc_base.specs.declared.key.Key.{Key as GroupKey}
use Rattle.node_rules.specs.declared.shown.Shown.{Shown}
use Rattle.node_rules.specs.declared.shown.ShownRoute.{ShownRoute}
use Rattle.node_rules.specs.declared.shown.ShownPeer.{ShownPeer}
use Rattle.text_laws.specs.ReportLines.{ReportLine, Halted, Key, Route, Floor, Peer}
use Rattle.text_laws.specs.Reports.{IsShown, floor_lines, head_line, joined, key_lines, node_lines, node_parts, peer_lines, route_lines}
use Rattle.text_laws.specs.Laws.{IsSameNode}
use Rattle.text_laws.proofs.LineOrder.{AreAt, AreInOrder, Begins, each_both, same_parts, split_at}

-- # The places of a node's lines

module _ (place : ReportLine → ℕ) (k : ℕ) where
  pub keys_at : (index : ℕ) (o : Option GroupKey) → ((octets : List ℕ) → place (Key index octets) ≡ k) → AreAt place k (key_lines index o)
  keys_at index None is = tt
  keys_at index (Some key) is = (is key.0, tt)

  pub routes_at : (routes : List ShownRoute) → ((route : ShownRoute) → place (Route route.dest route.number route.cost route.next) ≡ k)
      → AreAt place k (route_lines routes)
  routes_at [] is = tt
  routes_at (route ∷ routes) is = (is route, routes_at routes is)

  floor_at : (class floor : ℕ) (zero : Bool) → place (Floor class floor) ≡ k → AreAt place k (if zero then [] else Floor class floor ∷ [])
  floor_at class floor true is = tt
  floor_at class floor false is = (is, tt)

  pub floors_at : (class : ℕ) (floors : List ℕ) → ((c floor : ℕ) → place (Floor c floor) ≡ k) → AreAt place k (floor_lines class floors)
  floors_at class [] is = tt
  floors_at class (floor ∷ floors) is =
      each_both (λ l. place l ≡ k) (if floor == 0 then [] else Floor class floor ∷ []) (floor_lines (class + 1) floors)
      (floor_at class floor (floor == 0) (is class floor))
      (floors_at (class + 1) floors is)

  pub peers_at : (peers : List ShownPeer) → ((peer : ShownPeer) → place (Peer peer.from peer.mark) ≡ k) → AreAt place k (peer_lines peers)
  peers_at [] is = tt
  peers_at (peer ∷ peers) is = (is peer, peers_at peers is)

abbrev place : ReportLine → ℕ
place (Key index octets) = 1 + index
place (Route dest number cost next) = 3
place (Floor class floor) = 4
place (Peer from mark) = 5
place _ = 0

in_order : (node : ℕ) (shown : Shown) → AreInOrder place 0 (node_parts node shown)
in_order node shown = (
  (refl, tt),
  (
    keys_at place 1 0 shown.key0 (λ octets. refl),
    (
      keys_at place 2 1 shown.key1 (λ octets. refl),
      (
        routes_at place 3 shown.routes (λ route. refl),
        (
          floors_at place 4 0 shown.floors (λ class floor. refl),
          (peers_at place 5 shown.peers (λ peer. refl), tt),
        ),
      ),
    ),
  ),
)

-- # Floors

abbrev class_of : ReportLine → ℕ
class_of (Floor class floor) = class
class_of _ = 0

floors_begin : (k class : ℕ) (floor : ℕ) (floors : List ℕ) (zero : Bool) → k < class → Begins (λ l. k < class_of l) (floor_lines (class + 1) floors)
    → Begins (λ l. k < class_of l) ((if zero then [] else Floor class floor ∷ []) ++ floor_lines (class + 1) floors)
floors_begin k class floor floors true later begins = begins
floors_begin k class floor floors false later begins = later

floors_after : (k class : ℕ) (floors : List ℕ) → k < class → Begins (λ l. k < class_of l) (floor_lines class floors)
floors_after k class [] later = tt
floors_after k class (floor ∷ floors) later =
    floors_begin k class floor floors (floor == 0) later (floors_after k (class + 1) floors (omega (arith, later)))

same_floor : (class f g : ℕ) (a b : Bool) → (f == 0) ≡ a → (g == 0) ≡ b → (if a then [] else Floor class f ∷ []) ≡ (if b then [] else Floor class g ∷ [])
    → f ≡ g
same_floor class f g true true ia ib is = eqb-true f 0 ia ∙ sym (eqb-true g 0 ib)
same_floor class f g true false ia ib is = absurd (cc is)
same_floor class f g false true ia ib is = absurd (cc is)
same_floor class f g false false ia ib is = cc is

floor_class : (class floor : ℕ) (zero : Bool) → AreAt class_of class (if zero then [] else Floor class floor ∷ [])
floor_class class floor true = tt
floor_class class floor false = (refl, tt)

-- the floors that have no line are 0
same_floors : (class : ℕ) (fs gs : List ℕ) → length fs ≡ length gs → floor_lines class fs ≡ floor_lines class gs → fs ≡ gs
same_floors class [] [] long is = refl
same_floors class [] (g ∷ gs) long is = absurd (omega (arith, long))
same_floors class (f ∷ fs) [] long is = absurd (omega (arith, long))
same_floors class (f ∷ fs) (g ∷ gs) long is =
    let both = split_at class_of class (if f == 0 then [] else Floor class f ∷ []) (if g == 0 then [] else Floor class g ∷ [])
    (floor_lines (class + 1) fs) (floor_lines (class + 1) gs) (floor_class class f (f == 0)) (floor_class class g (g == 0))
    (floors_after class (class + 1) fs (omega arith)) (floors_after class (class + 1) gs (omega arith)) is in
    let more = same_floors (class + 1) fs gs (omega (arith, long)) both.1 in
    λ i. same_floor class f g (f == 0) (g == 0) refl refl both.0 i ∷ more i

-- # What is read of the lines

abbrev key_in : List ReportLine → Option GroupKey
key_in (Key index octets ∷ lines) = Some (record { 0 = octets })
key_in _ = None

key_back : (index : ℕ) (o : Option GroupKey) → key_in (key_lines index o) ≡ o
key_back index None = refl
key_back index (Some key) = refl

abbrev routes_in : List ReportLine → List ShownRoute
routes_in (Route dest number cost next ∷ lines) = record { dest = dest; number = number; cost = cost; next = next } ∷ routes_in lines
routes_in _ = []

routes_back : (routes : List ShownRoute) → routes_in (route_lines routes) ≡ routes
routes_back [] = refl
routes_back (route ∷ routes) = ap (λ (others : List ShownRoute). route ∷ others) (routes_back routes)

abbrev peers_in : List ReportLine → List ShownPeer
peers_in (Peer from mark ∷ lines) = record { from = from; mark = mark } ∷ peers_in lines
peers_in _ = []

peers_back : (peers : List ShownPeer) → peers_in (peer_lines peers) ≡ peers
peers_back [] = refl
peers_back (peer ∷ peers) = ap (λ (others : List ShownPeer). peer ∷ others) (peers_back peers)

-- # Nodes

abbrev part : ℕ → List (List ReportLine) → List ReportLine
part i parts = get_or parts i []

same_fields : (m n : ℕ) (s t : Shown) → s.halted ≡ t.halted → IsShown s → IsShown t → node_parts m s ≡ node_parts n t → s ≡ t
same_fields m n s t halted is js same =
    let heads : (head_line m s ∷ []) ≡ (head_line n t ∷ []) = ap (part 0) same in
    let address : s.address ≡ t.address = cc heads in
    let active : s.active ≡ t.active = cc heads in
    let next_counter : s.next_counter ≡ t.next_counter = cc heads in
    let last_number : s.last_number ≡ t.last_number = cc heads in
    let key0 : s.key0 ≡ t.key0 = sym (key_back 0 s.key0) ∙ ap (λ (parts : List (List ReportLine)). key_in (part 1 parts)) same ∙ key_back 0 t.key0 in
    let key1 : s.key1 ≡ t.key1 = sym (key_back 1 s.key1) ∙ ap (λ (parts : List (List ReportLine)). key_in (part 2 parts)) same ∙ key_back 1 t.key1 in
    let routes : s.routes ≡ t.routes =
    sym (routes_back s.routes) ∙ ap (λ (parts : List (List ReportLine)). routes_in (part 3 parts)) same ∙ routes_back t.routes in
    let floors : s.floors ≡ t.floors = same_floors 0 s.floors t.floors (is.classes ∙ sym js.classes) (ap (part 4) same) in
    let peers : s.peers ≡ t.peers =
    sym (peers_back s.peers) ∙ ap (λ (parts : List (List ReportLine)). peers_in (part 5 parts)) same ∙ peers_back t.peers in
    λ i. record {
      halted = halted i;
      address = address i;
      active = active i;
      next_counter = next_counter i;
      last_number = last_number i;
      key0 = key0 i;
      key1 = key1 i;
      routes = routes i;
      floors = floors i;
      peers = peers i;
    }

abbrev lines_by : ℕ → Shown → Bool → List ReportLine
lines_by node shown halted = if halted then Halted node ∷ [] else joined (node_parts node shown)

running_by : (m n : ℕ) (s t : Shown) → s.halted ≡ false → t.halted ≡ false → IsShown s → IsShown t → node_parts m s ≡ node_parts n t
    → IsSameNode (record { node = m; shown = s }) (record { node = n; shown = t })
running_by m n s t ia ib is js same =
    let heads : (head_line m s ∷ []) ≡ (head_line n t ∷ []) = ap (part 0) same in
    record { node = cc heads; halted = ia ∙ sym ib; running = λ runs. same_fields m n s t (ia ∙ sym ib) is js same }

same_by : (m n : ℕ) (s t : Shown) (a b : Bool) → s.halted ≡ a → t.halted ≡ b → IsShown s → IsShown t → lines_by m s a ≡ lines_by n t b
    → IsSameNode (record { node = m; shown = s }) (record { node = n; shown = t })
same_by m n s t true true ia ib is js same = record { node = cc same; halted = ia ∙ sym ib; running = λ runs. absurd (both_ways s.halted runs ia) }
same_by m n s t true false ia ib is js same = absurd (cc same)
same_by m n s t false true ia ib is js same = absurd (cc same)
same_by m n s t false false ia ib is js same =
    running_by m n s t ia ib is js (same_parts place 0 (node_parts m s) (node_parts n t) refl (in_order m s) (in_order n t) same)

pub same_node : (m n : ℕ) (s t : Shown) → IsShown s → IsShown t → node_lines m s ≡ node_lines n t
    → IsSameNode (record { node = m; shown = s }) (record { node = n; shown = t })
unfolding node_lines
same_node m n s t is js same = same_by m n s t s.halted t.halted refl refl is js same

none_by : (node : ℕ) (shown : Shown) (halted : Bool) → lines_by node shown halted ≡ [] → ⊥
none_by node shown true is = absurd (cc is)
none_by node shown false is = absurd (cc is)

-- a node that is shown has lines
pub some_lines : (node : ℕ) (shown : Shown) → node_lines node shown ≡ [] → ⊥
unfolding node_lines
some_lines node shown is = none_by node shown shown.halted is
