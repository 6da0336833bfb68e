-- The meters of a list, each at its place.
use Rattle.std.proofs.Common.{◌≡◌, ℕ, zero, suc, ◌+◌, ◌<◌, ◌≤◌, Bool, true, false, not, cond, List, [], ◌∷◌, ◌++◌, length, map, take, drop, get_or, arith}
use Rattle.std.proofs.Common.{Option, Some, None, refl, sym, ap, subst, ◌∙◌}
use Rattle.std.specs.Prelude.{All, IfSome, ◌||◌, is_some, nat_lt, position, slice_get, slice_set}
use Rattle.std.specs.Option.{option_map, option_and_then}
use Rattle.std.specs.List.{list_any, position_or_len}
use Rattle.std.proofs.lemmas.Bool.{le-ltb, lt-ltb, ltb-false, ltb-true}
use Rattle.std.proofs.lemmas.List.{map-set, length-map}
use Rattle.std.proofs.lemmas.Option.{slice_get-map, slice_get_read}
use Rattle.routing_set.proofs.RouteEnds.{map_length, map_step, map_whole}
use Rattle.node_rules.specs.Memory.{StationMemory, Memory, Node, address_of, node_address}
use Rattle.meter_node.specs.MeterStates.{MeterState, memory_with}
use Rattle.line_world.specs.Nodes.{of_meter}
use Rattle.line_world.specs.Soundness.{IsSoundMeter}

-- the meter at a place, as a node
pub found_in : (ms : List MeterState) (place : ℕ) (x : MeterState) → place < length ms → x ≡ get_or ms place x
    → slice_get (map of_meter ms) place ≡ Some (of_meter x)
found_in ms place x within here =
    let read : slice_get ms place ≡ Some x = slice_get_read ms (length ms) place x refl within here in
    slice_get-map of_meter ms place ∙ ap (λ (o : Option MeterState). option_map of_meter o) read

-- a meter that changed at a place changed there as a node
pub set_in : (ms : List MeterState) (place : ℕ) (y : MeterState) (n : Node) → of_meter y ≡ n
    → map of_meter (slice_set ms place y) ≡ slice_set (map of_meter ms) place n
set_in ms place y n node = map-set of_meter ms place y ∙ ap (λ (k : Node). slice_set (map of_meter ms) place k) node

-- each meter of a list that is sound is sound
pub sound_in : (ms : List MeterState) (place : ℕ) (x : MeterState) → place < length ms → x ≡ get_or ms place x → All IsSoundMeter ms → IsSoundMeter x
sound_in ms place x within here sound = subst (λ (y : MeterState). IsSoundMeter y) (sym here) (sound place x within)

-- the address of a meter is that of its station
pub address_is : (x : MeterState) (r : Option ℕ) → r ≡ option_and_then address_of x.station.memory → r ≡ node_address (of_meter x)
address_is x r e = e ∙ by x.station.memory
  where
    by : (o : Option StationMemory) → option_and_then address_of o ≡ option_and_then (λ (m : Memory). address_of m.station) (option_map (memory_with x) o)
    by None = refl
    by (Some l) = refl

-- # One place after the other

there_is : {A : Type 0} (ys : List A) (p : ℕ) → p < length ys → (x : A) × (slice_get ys p ≡ Some x)
there_is [] p h = absurd (omega (arith, h))
there_is (x ∷ xs) zero h = (x, refl)
there_is (x ∷ xs) (suc p) h = let less : p < length xs = omega (arith, h) in there_is xs p less

-- what was done up to a place
abbrev pub UpTo : {A : Type 0} → (A → A) → List A → ℕ → List A → Type 0
UpTo f xs p ys = ys ≡ map f (take p xs) ++ drop p xs

pub up_to_next : {A : Type 0} (f : A → A) (xs ys zs : List A) (p : ℕ) → UpTo f xs p ys → p < length ys
    → IfSome (slice_get ys p) (λ x. zs ≡ slice_set ys p (f x)) → UpTo f xs (p + 1) zs
up_to_next {A} f xs ys zs p so_far within h =
    let x = there_is ys p within in
    let got : slice_get (map f (take p xs) ++ drop p xs) p ≡ Some x.0 = sym (ap (λ (k : List A). slice_get k p) so_far) ∙ x.1 in
    let done : zs ≡ slice_set ys p (f x.0) = subst (λ (o : Option A). IfSome o (λ x. zs ≡ slice_set ys p (f x))) x.1 h in
    let next : suc p ≡ p + 1 = omega arith in
    done ∙ ap (λ (k : List A). slice_set k p (f x.0)) so_far ∙ map_step f xs p x.0 got ∙ ap (λ (n : ℕ). map f (take n xs) ++ drop n xs) next

pub up_to_end : {A : Type 0} (f : A → A) (xs ys : List A) (p : ℕ) → UpTo f xs p ys → length xs ≤ p → ys ≡ map f xs
up_to_end f xs ys p so_far past = so_far ∙ map_whole f xs p past

pub up_to_long : {A : Type 0} (f : A → A) (xs ys : List A) (p : ℕ) → UpTo f xs p ys → length ys ≡ length xs
up_to_long {A} f xs ys p so_far = ap (λ (k : List A). length k) so_far ∙ map_length f xs p

-- # The first that passes

first_map : {A B : Type 0} (f : A → B) (p : B → Bool) (xs : List A) → position_or_len p (map f xs) ≡ position_or_len (λ x. p (f x)) xs
first_map f p [] = refl
first_map f p (x ∷ xs) = ap (λ (n : ℕ). cond (not (p (f x))) (1 + n) 0) (first_map f p xs)

pub position_map : {A B : Type 0} (f : A → B) (p : B → Bool) (xs : List A) → position p (map f xs) ≡ position (λ x. p (f x)) xs
position_map f p xs = λ i. cond (nat_lt (first_map f p xs i) (length-map xs f i)) (Some (first_map f p xs i)) None

some_when : (b : Bool) (n : ℕ) → is_some (cond b (Some n) None) ≡ b
some_when true n = refl
some_when false n = refl

one_more : (n m : ℕ) → nat_lt (1 + n) (suc m) ≡ nat_lt n m
one_more n m = by (nat_lt n m) refl
  where
    by : (b : Bool) → nat_lt n m ≡ b → nat_lt (1 + n) (suc m) ≡ nat_lt n m
    by true t = lt-ltb (1 + n) (suc m) (let below = ltb-true n m t in omega (arith, below)) ∙ sym t
    by false t = le-ltb (1 + n) (suc m) (let above = ltb-false n m t in omega (arith, above)) ∙ sym t

passes : {A : Type 0} (p : A → Bool) (xs : List A) → nat_lt (position_or_len p xs) (length xs) ≡ list_any p xs
passes p [] = refl
passes p (x ∷ xs) = by (p x) (passes p xs)
  where
    by : (b : Bool) → nat_lt (position_or_len p xs) (length xs) ≡ list_any p xs
        → nat_lt (cond (not b) (1 + position_or_len p xs) 0) (suc (length xs)) ≡ (b || list_any p xs)
    by true rest = lt-ltb 0 (suc (length xs)) (omega arith)
    by false rest = one_more (position_or_len p xs) (length xs) ∙ rest

-- there is a first that passes exactly where one passes
pub has_first : {A : Type 0} (p : A → Bool) (xs : List A) → is_some (position p xs) ≡ list_any p xs
has_first p xs = some_when (nat_lt (position_or_len p xs) (length xs)) (position_or_len p xs) ∙ passes p xs
