-- What goes out of a node is a path message again.
use Rattle.std.proofs.Common.{◌≡◌, ◌≢◌, ◌==◌, ℕ, ◌+◌, ◌-◌, Bool, true, false, List, [], ◌∷◌, ◌++◌, length, Option, Some, None, Ok, Err, if◌then◌else◌, refl}
use Rattle.std.proofs.Common.{◌∙◌, arith}
use Rattle.std.specs.Prelude.{IfOk, position, slice_index}
use Rattle.std.proofs.lemmas.Bool.{eqb-false}
use Rattle.std.proofs.lemmas.Grind.{common_steps}
use Rattle.std.proofs.lemmas.List.{length-append}
use Rattle.std.proofs.lemmas.List.Folds.{list_any-append}
use Rattle.plc_base.specs.Addresses.{IsAddress, is_address}
use Rattle.path_requests.specs.declared.message.PathMessage.{PathMessage}
use Rattle.path_requests.specs.declared.message.PathMessage.TheVariants.{Ask, Tell}
use Rattle.path_requests.specs.declared.step.PathStep.TheVariants.{Forward, Answer, Done}
use Rattle.path_requests.specs.declared.step.PathRefusal.TheVariants.{Revisited, PathLong, BadUnit}
use Rattle.path_requests.specs.Walks.{has, has_at, ends_with, is_walk}
use Rattle.path_requests.specs.Messages.{IsPath}
use Rattle.path_requests.specs.PathSteps.{hop, ask_led, ask_taken, tell_taken, taken, IsStep}
use Rattle.path_requests.proofs.WalkOctets.{same_both, walk_more}

-- a walk with an address that is not in it
longer_walk : (own : ℕ) (walk : List ℕ) → IsAddress own → is_walk walk ≡ true → has own walk ≡ false → is_walk (walk ++ own ∷ []) ≡ true
longer_walk own walk fits is new =
    let valid : is_address own ≡ true = grind (arith, common_steps) in
    walk_more walk own ∙ rw (is, valid, new) refl

still_sought : (own target : ℕ) (walk : List ℕ) → has target walk ≡ false → (target == own) ≡ false → has target (walk ++ own ∷ []) ≡ false
still_sought own target walk new other =
    let not_own : (own == target) ≡ false = same_both own target ∙ other in
    list_any-append (λ a. a == target) walk (own ∷ []) ∙ rw (new, not_own) refl

led_fits : (own target : ℕ) (walk : List ℕ) (to : Option ℕ) → IsAddress own → IsPath (Ask target walk) → IfOk (ask_led own target walk to) IsStep
led_fits own target walk None fits h = tt
led_fits own target walk (Some to) fits h = by_tests (has own walk) (target == own) (length walk == 15) refl refl refl
  where
    long : length (walk ++ own ∷ []) ≡ length walk + 1
    long = length-append walk (own ∷ [])

    by_tests : (a b c : Bool) → has own walk ≡ a → (target == own) ≡ b → (length walk == 15) ≡ c
        → IfOk (if a then Err Revisited
        else (if b then Ok (Answer to (Tell (walk ++ own ∷ [])))
        else (if c then Err PathLong else Ok (Forward to (Ask target (walk ++ own ∷ [])))))) IsStep
    by_tests true b c ea eb ec = tt
    by_tests false true c ea eb ec = (omega (arith, long), omega (arith, long), longer_walk own walk fits h.3 ea)
    by_tests false false true ea eb ec = tt
    by_tests false false false ea eb ec =
        let other : length walk ≢ 15 = eqb-false _ _ ec in
        (h.0, omega (arith, long), omega (arith, long), longer_walk own walk fits h.3 ea, still_sought own target walk h.4 eb)

ask_fits : (own from : ℕ) (next : Option ℕ) (target : ℕ) (walk : List ℕ) → IsAddress own → IsPath (Ask target walk)
    → IfOk (ask_taken own from next target walk) IsStep
ask_fits own from next target walk fits h = by_test (ends_with from walk) (led_fits own target walk (hop own from next target) fits h)
  where
    by_test : (b : Bool) → IfOk (ask_led own target walk (hop own from next target)) IsStep
        → IfOk (if b then ask_led own target walk (hop own from next target) else Err BadUnit) IsStep
    by_test true led = led
    by_test false led = tt

tell_fits : (from : ℕ) (walk : List ℕ) (place : Option ℕ) → IsPath (Tell walk) → IfOk (tell_taken from walk place) IsStep
tell_fits from walk None h = tt
tell_fits from walk (Some place) h = by_tests (has_at (place + 1) from walk) (place == 0)
  where
    by_tests : (a b : Bool) → IfOk (if a then Ok (if b then Done walk else Forward (slice_index walk (place - 1)) (Tell walk)) else Err BadUnit) IsStep
    by_tests true true = h
    by_tests true false = h
    by_tests false b = tt

pub taken_fits : (own from : ℕ) (next : Option ℕ) (m : PathMessage) → IsAddress own → IsPath m → IfOk (taken own from next m) IsStep
taken_fits own from next (Ask target walk) fits h = ask_fits own from next target walk fits h
taken_fits own from next (Tell walk) fits h = tell_fits from walk (position (λ a. a == own) walk) h
