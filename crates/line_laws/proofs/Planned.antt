-- What the plan of a rule is: a refusal, an answer with what changes beside the store, or a doing carried to its end.
use Rattle.std.proofs.Common.{◌≡◌, ◌≤◌, Bool, true, false, Option, Some, None, Result, Ok, Err, length, refl}
use Rattle.std.specs.Prelude.{if◌then◌else◌, nat_lt}
use Rattle.std.specs.Option.{option_map_or}
use Rattle.std.proofs.lemmas.Bool.{ltb-false}
use Rattle.node_rules.specs.Plans.{Plan, resting}
use Rattle.node_rules.specs.Drafts.{Draft, StationPlace, Ends, counters_left, refused, sealing, sealed, checked, choose}

-- K holds of what is kept beside the store and of the answer, D of the doing and the answer
pub data Planned {M H E : Type 0} (h : StationPlace M) (ends : Ends E) (m : M) (K : M → H → Type 0) (D : Draft M → H → Type 0) : Plan M (Result H E)
    → Type 0 where
  Refuses : (reason : E) → Planned h ends m K D (resting m (Err reason) (Err ends.store))
  Keeps : (n : M) (answer : H) → K n answer → Planned h ends m K D (resting n (Ok answer) (Err ends.store))
  Ended : (d : Draft M) (answer : H) → D d answer → length d.units ≤ counters_left (h.station m) → Planned h ends m K D (sealing h ends d answer)

module _ {M H E : Type 0} {h : StationPlace M} {ends : Ends E} {m : M} {K : M → H → Type 0} {D : Draft M → H → Type 0} where
  -- a fault refuses, and where there is none the rest is planned
  pub checked_planned : {fault : Option E} {p : Plan M (Result H E)} → (fault ≡ None → Planned h ends m K D p) → Planned h ends m K D (checked ends m fault p)
  unfolding checked
  checked_planned {fault = None} s = s refl
  checked_planned {fault = Some reason} s = Refuses reason

  pub choose_planned : {test : Bool} {p q : Plan M (Result H E)} → (test ≡ true → Planned h ends m K D p) → (test ≡ false → Planned h ends m K D q)
      → Planned h ends m K D (choose test p q)
  unfolding choose
  choose_planned {test = true} s t = s refl
  choose_planned {test = false} s t = t refl

  pub sealed_planned : (d : Draft M) (answer : H) → D d answer → Planned h ends m K D (sealed h ends m d answer)
  unfolding sealed
  sealed_planned d answer done = by_test (nat_lt (counters_left (h.station m)) (length d.units)) refl
    where
      by_test : (b : Bool) → nat_lt (counters_left (h.station m)) (length d.units) ≡ b
          → Planned h ends m K D (if b then refused ends m ends.spent else sealing h ends d answer)
      by_test true t = Refuses ends.spent
      by_test false t = Ended d answer done (ltb-false _ _ t)

  -- by the cases of a look-up
  pub option_planned : {X : Type 0} (f : X → Plan M (Result H E)) (x : Option X) (p : Plan M (Result H E))
      → ((y : X) → x ≡ Some y → Planned h ends m K D (f y)) → (x ≡ None → Planned h ends m K D p) → Planned h ends m K D (option_map_or f x p)
  option_planned f None p s t = t refl
  option_planned f (Some y) p s t = s y refl

  pub sealing_planned : (d : Draft M) (answer : H) → D d answer → length d.units ≤ counters_left (h.station m) → Planned h ends m K D (sealing h ends d answer)
  sealing_planned d answer done left = Ended d answer done left

-- what holds of a doing may be said more weakly
pub planned_weaker : {M H E : Type 0} {h : StationPlace M} {ends : Ends E} {m : M} {K J : M → H → Type 0} {D C : Draft M → H → Type 0} (p : Plan M (Result H E))
    → ((n : M) (answer : H) → K n answer → J n answer) → ((d : Draft M) (answer : H) → D d answer → C d answer) → Planned h ends m K D p
    → Planned h ends m J C p
planned_weaker p f k (Refuses reason) = Refuses reason
planned_weaker p f k (Keeps n answer x) = Keeps n answer (f n answer x)
planned_weaker p f k (Ended d answer done left) = Ended d answer (k d answer done) left

-- the word of a failed write
pub planned_failed : {M H E : Type 0} {h : StationPlace M} {ends : Ends E} {m : M} {K : M → H → Type 0} {D : Draft M → H → Type 0} (p : Plan M (Result H E))
    → Planned h ends m K D p → p.failed ≡ Err ends.store
unfolding resting
planned_failed p (Refuses reason) = refl
planned_failed p (Keeps n answer k) = refl
planned_failed p (Ended d answer done left) = refl
