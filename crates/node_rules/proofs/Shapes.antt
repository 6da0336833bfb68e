-- What the plan of a rule is: nothing changes, something is remembered, or a doing is carried to its end.
use Rattle.std.proofs.Common.{◌≡◌, Bool, true, false, Option, Some, None, Result, Ok, Err, refl}
use Rattle.std.specs.Prelude.{if◌then◌else◌}
use Rattle.std.specs.Option.{option_map_or}
use Rattle.node_rules.specs.Laws.{RefusesCleanly}
use Rattle.node_rules.specs.Plans.{Plan, resting}
use Rattle.node_rules.specs.Drafts.{Draft, StationPlace, Ends, refused, sealing, sealed, checked, choose}

-- D holds of the doing
pub data Shape {M H E : Type 0} (h : StationPlace M) (ends : Ends E) (m : M) (D : Draft M → Type 0) : Plan M (Result H E) → Type 0 where
  Rests : (answer : Result H E) → Shape h ends m D (resting m answer (Err ends.store))
  Keeps : (n : M) (answer : H) → Shape h ends m D (resting n (Ok answer) (Err ends.store))
  Ended : (d : Draft M) (answer : H) → D d → Shape h ends m D (sealing h ends d answer)

module _ {M H E : Type 0} (h : StationPlace M) (ends : Ends E) (m : M) (D : Draft M → Type 0) where
  pub rests_shape : (answer : Result H E) → Shape h ends m D (resting m answer (Err ends.store))
  rests_shape answer = Rests answer

  pub checked_shape : (fault : Option E) (p : Plan M (Result H E)) → Shape h ends m D p → Shape h ends m D (checked ends m fault p)
  unfolding checked
  checked_shape None p s = s
  checked_shape (Some reason) p s = Rests (Err reason)

  pub checked_by : (fault : Option E) (p : Plan M (Result H E)) → (fault ≡ None → Shape h ends m D p) → Shape h ends m D (checked ends m fault p)
  unfolding checked
  checked_by None p s = s refl
  checked_by (Some reason) p s = Rests (Err reason)

  pub choose_shape : (test : Bool) (p q : Plan M (Result H E)) → Shape h ends m D p → Shape h ends m D q → Shape h ends m D (choose test p q)
  unfolding choose
  choose_shape true p q s t = s
  choose_shape false p q s t = t

  sealed_when : (test : Bool) (d : Draft M) (answer : H) → D d → Shape {H = H} h ends m D (if test then refused ends m ends.spent else sealing h ends d answer)
  sealed_when true d answer done = Rests (Err ends.spent)
  sealed_when false d answer done = Ended d answer done

  pub sealed_shape : (d : Draft M) (answer : H) → D d → Shape h ends m D (sealed h ends m d answer)
  unfolding sealed
  sealed_shape d answer done = sealed_when _ d answer done

  pub sealing_shape : (d : Draft M) (answer : H) → D d → Shape h ends m D (sealing h ends d answer)
  sealing_shape d answer done = Ended d answer done

  pub option_shape : {X : Type 0} (f : X → Plan M (Result H E)) (x : Option X) (p : Plan M (Result H E)) → ((y : X) → Shape h ends m D (f y))
      → Shape h ends m D p → Shape h ends m D (option_map_or f x p)
  option_shape f None p s t = t
  option_shape f (Some y) p s t = s y

  pub if_shape : (test : Bool) (p q : Plan M (Result H E)) → Shape h ends m D p → Shape h ends m D q → Shape h ends m D (if test then p else q)
  if_shape true p q s t = s
  if_shape false p q s t = t

  -- a refusal changes nothing
  pub refuses_cleanly : (p : Plan M (Result H E)) → Shape h ends m D p → RefusesCleanly ends.store m p
  unfolding resting
  refuses_cleanly p (Rests answer) = (refl, λ reason e. record { puts = refl; memory = refl; frames = refl; made = refl; opened = refl })
  refuses_cleanly p (Keeps n answer) = (refl, λ reason e. absurd (cc))
  refuses_cleanly p (Ended d answer done) = (refl, λ reason e. absurd (cc))
