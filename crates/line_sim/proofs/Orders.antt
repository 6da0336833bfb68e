-- The order of the lines of a script, with one line more.
use Rattle.std.proofs.Common.{◌≡◌, ℕ, ◌≤◌, ◌/◌, List, [], ◌∷◌, ◌++◌, All, AllPairs, IfSome, Option, None, Some, Bool, true, false, cond}
use Rattle.std.proofs.Common.{refl, sym, ◌∙◌, ap, subst, append-nil, append_assoc, arith}
use Rattle.std.specs.Prelude.{unwrap_or}
use Rattle.std.specs.BTreeMap.{BTreeMap, get, is_at}
use Rattle.std.specs.Ordering.{nat_cmp, is_eq}
use Rattle.std.specs.declared.cmp.Ordering.{Ordering}
use Rattle.std.specs.declared.cmp.Ordering.TheVariants.{Less, Equal, Greater}
use Rattle.std.proofs.lemmas.Map.Lookups.{exact_pairs, exact_unsigned}
use Rattle.std.proofs.lemmas.List.Elements.{All-nil, All-push, All-get_or}
use Rattle.std.proofs.lemmas.List.Quantifiers.{all_pairs_push}
use Rattle.script_lines.specs.Lines.{Content}
use Rattle.line_air.specs.Counts.{way_cmp}
use Rattle.line_rules.specs.Worlds.{World, start}
use Rattle.line_rules.specs.Runs.{one_of}
use Rattle.script_runs.specs.TakenLines.{Taking, Skipped, Taken, Refused, taking}
use Rattle.line_sim.specs.Arrivals.{Arrival, arrival_at, IsCausal, InOrder}
use Rattle.line_sim.specs.Recorders.{last_of, HasCome, MayCome, HasPassed, MayPass, Grows, Follows, AreOrdered}
use Rattle.line_sim.specs.Scripts.{world_by, world_after, said_by, said}
use Rattle.line_sim.specs.Times.{Time, Remarked, Stepped, time_at, IsUpTo}
use Rattle.line_sim.specs.declared.order.Order.{Order}

trans : (a b c : ℕ) → a ≤ b → b ≤ c → a ≤ c
trans a b c h k = omega arith

-- # The last flights of all ways

is_equal : (o : Ordering) → is_eq o ≡ true → o ≡ Equal
is_equal Less is = absurd (cc)
is_equal Equal is = refl
is_equal Greater is = absurd (cc)

-- a flight that comes last on its way, and is not before the one that was
pub last_rises : (m n : BTreeMap (ℕ × ℕ) ℕ) (from to flight : ℕ)
    → ((q : ℕ × ℕ) → get way_cmp n q ≡ cond (is_at (way_cmp (from, to)) q) (Some flight) (get way_cmp m q)) → last_of m from to ≤ flight
    → (a b : ℕ) → last_of m a b ≤ last_of n a b
last_rises m n from to flight is low a b = by_way (is_at (way_cmp (from, to)) (a, b)) refl
  where
    by_way : (r : Bool) → is_at (way_cmp (from, to)) (a, b) ≡ r → last_of m a b ≤ last_of n a b
    by_way false other = subst (λ (o : Option ℕ). last_of m a b ≤ unwrap_or o 0)
        (sym (is (a, b) ∙ ap (λ (r : Bool). cond r (Some flight) (get way_cmp m (a, b))) other)) (omega arith)
    by_way true same = subst (λ (o : Option ℕ). last_of m a b ≤ unwrap_or o 0)
        (sym (is (a, b) ∙ ap (λ (r : Bool). cond r (Some flight) (get way_cmp m (a, b))) same))
        (subst (λ (q : ℕ × ℕ). unwrap_or (get way_cmp m q) 0 ≤ flight)
        (exact_pairs nat_cmp nat_cmp exact_unsigned exact_unsigned (from, to) (a, b) (is_equal (way_cmp (from, to) (a, b)) same)) low)

-- # Lists with one more

more_all : {X : Type 0} (P Q : X → Type 0) (xs : List X) (o : Option X) → All P xs → ((x : X) → P x → Q x) → IfSome o Q → All Q (xs ++ one_of o)
more_all {X} P Q xs None all up here =
    subst (All Q) (sym (append-nil xs)) (λ k d l. up _ (all k d l))
more_all {X} P Q xs (Some y) all up here = All-push Q xs y (λ k d l. up _ (all k d l)) here

more_pairs : {X : Type 0} (R : X → X → Type 0) (P : X → Type 0) (xs : List X) (o : Option X) → AllPairs R xs → All P xs
    → IfSome o (λ y. (x : X) → P x → R x y) → AllPairs R (xs ++ one_of o)
more_pairs {X} R P xs None pairs all here = subst (AllPairs R) (sym (append-nil xs)) pairs
more_pairs {X} R P xs (Some y) pairs all here = all_pairs_push R xs y pairs (λ k d l. here _ (All-get_or P xs k d l all))

if_some : {X : Type 0} (P Q : X → Type 0) (o : Option X) → ((x : X) → P x → Q x) → IfSome o P → IfSome o Q
if_some {X} P Q None up h = tt
if_some {X} P Q (Some x) up h = up x h

-- # What lines say

said_none : {A : Type 0} (w : World) (t : Taking) → said_by {A = A} w t (λ next. []) ≡ []
said_none {A} w Skipped = refl
said_none {A} w (Taken entry) = refl
said_none {A} w (Refused reason) = refl

said_after : {A : Type 0} (more : List A) (w v : World) (t : Taking) (led : World → Option World) (before after : World → List A)
    → world_by w t led ≡ Some v → ((n : World) → led n ≡ Some v → after n ≡ before n ++ more) → said_by w t after ≡ said_by w t before ++ more
said_after {A} more w v Skipped led before after is on = on w is
said_after {A} more w v (Taken entry) led before after is on = on entry.after is
said_after {A} more w v (Refused reason) led before after is on = absurd (cc)

abbrev world_or : World → Option World → World
world_or w None = w
world_or w (Some v) = v

-- what lines say that lead to a world, and what one line more says there
pub said_push : {A : Type 0} (one : World → Content → Option A) (w v : World) (cs : List Content) (c : Content) → world_after w cs ≡ Some v
    → said one w (cs ++ c ∷ []) ≡ said one w cs ++ one_of (one v c)
said_push {A} one w v [] c led =
    subst (λ (x : World). said one w (c ∷ []) ≡ one_of (one x c)) (ap (world_or w) led)
    (ap (λ (r : List A). one_of (one w c) ++ r) (said_none w (taking w c)) ∙ append-nil (one_of (one w c)))
said_push {A} one w v (d ∷ cs) c led =
    ap (λ (r : List A). one_of (one w d) ++ r)
    (said_after (one_of (one v c)) w v (taking w d) (λ n. world_after n cs) (λ n. said one n cs) (λ n. said one n (cs ++ c ∷ [])) led
    (λ n is. said_push one n v cs c is))
    ∙ sym (append_assoc (one_of (one w d)) (said_by w (taking w d) (λ n. said one n cs)) (one_of (one v c)))

-- # One line more

come_on : (o p : Order) → Grows o p → (a : Arrival) → HasCome o a → HasCome p a
come_on o p g a come =
    λ from sent. trans a.flight (last_of o.last from a.node) (last_of p.last from a.node) (come from sent) (g.last from a.node)

passed_on : (o p : Order) → Grows o p → (t : Time) → HasPassed o t → HasPassed p t
passed_on o p g (Remarked a) passed =
    (trans a o.remarked p.remarked passed.0 g.remarked, trans (a / 1000) o.second p.second passed.1 g.second)
passed_on o p g (Stepped a) passed = trans a o.second p.second passed g.second

in_order : (o : Order) (y : Arrival) → IsCausal y → MayCome o y → (x : Arrival) → HasCome o x → InOrder x y
in_order o y causal may x come =
    λ same node. trans x.flight (last_of o.last causal.from y.node) y.flight
    (subst (λ (n : ℕ). x.flight ≤ last_of o.last causal.from n) node (come causal.from (same ∙ causal.sent)))
    (may causal.from causal.sent)

in_order_if : (o : Order) (m : Option Arrival) → IfSome m IsCausal → IfSome m (MayCome o) → IfSome m (λ y. (x : Arrival) → HasCome o x → InOrder x y)
in_order_if o None causal may = tt
in_order_if o (Some y) causal may = in_order o y causal may

up_to : (o : Order) (y : Time) → MayPass o y → (x : Time) → HasPassed o x → IsUpTo x y
up_to o (Remarked b) may (Remarked a) passed = trans a o.remarked b passed.0 may.0
up_to o (Stepped b) may (Remarked a) passed = trans (a / 1000) o.second b passed.1 may
up_to o (Remarked b) may (Stepped a) passed = trans a o.second (b / 1000) passed may.1
up_to o (Stepped b) may (Stepped a) passed = trans a o.second b passed may

-- no line is in its order
pub no_order : (o : Order) → AreOrdered o []
no_order o = record {
  causal = All-nil IsCausal;
  in_order = λ i j d before short. absurd (omega arith);
  have_come = All-nil (HasCome o);
  up_to = λ i j d before short. absurd (omega arith);
  have_passed = All-nil (HasPassed o);
}

-- lines stay in their order where more may have come
pub order_grows : (o p : Order) (cs : List Content) → Grows o p → AreOrdered o cs → AreOrdered p cs
order_grows o p cs g s = record {
  causal = s.causal;
  in_order = s.in_order;
  have_come = λ k d l. come_on o p g _ (s.have_come k d l);
  up_to = s.up_to;
  have_passed = λ k d l. passed_on o p g _ (s.have_passed k d l);
}

-- lines in their order, and one that follows
pub order_more : (o p : Order) (w : World) (cs : List Content) (c : Content) → AreOrdered o cs → world_after start cs ≡ Some w → Grows o p
    → Follows (arrival_at w c) (time_at w c) o p → AreOrdered p (cs ++ c ∷ [])
order_more o p w cs c s led g f = record {
  causal = subst (All IsCausal) (sym came) (more_all IsCausal IsCausal (said arrival_at start cs) (arrival_at w c) s.causal (λ a h. h) f.causal);
  in_order = subst (AllPairs InOrder) (sym came)
      (more_pairs InOrder (HasCome o) (said arrival_at start cs) (arrival_at w c) s.in_order s.have_come
      (in_order_if o (arrival_at w c) f.causal f.may_come));
  have_come = subst (All (HasCome p)) (sym came)
      (more_all (HasCome o) (HasCome p) (said arrival_at start cs) (arrival_at w c) s.have_come (come_on o p g) f.has_come);
  up_to = subst (AllPairs IsUpTo) (sym passed)
      (more_pairs IsUpTo (HasPassed o) (said time_at start cs) (time_at w c) s.up_to s.have_passed
      (if_some (MayPass o) (λ y. (x : Time) → HasPassed o x → IsUpTo x y) (time_at w c) (up_to o) f.may_pass));
  have_passed = subst (All (HasPassed p)) (sym passed)
      (more_all (HasPassed o) (HasPassed p) (said time_at start cs) (time_at w c) s.have_passed (passed_on o p g) f.has_passed);
}
  where
    came : said arrival_at start (cs ++ c ∷ []) ≡ said arrival_at start cs ++ one_of (arrival_at w c)
    came = said_push arrival_at start w cs c led

    passed : said time_at start (cs ++ c ∷ []) ≡ said time_at start cs ++ one_of (time_at w c)
    passed = said_push time_at start w cs c led
