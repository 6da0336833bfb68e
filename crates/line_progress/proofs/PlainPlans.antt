-- Plans that seal nothing: what they leave and send.
use Rattle.std.proofs.Common.{◌≡◌, ℕ, List, [], ◌++◌, length, Some, None, Result, Ok, refl, sym, ap, subst, ◌∙◌, arith}
use Rattle.std.specs.Prelude.{if◌then◌else◌, nat_lt, Option}
use Rattle.std.specs.Option.{option_map_or}
use Rattle.std.proofs.lemmas.Bool.{le-ltb}
use Rattle.std.proofs.lemmas.List.{append-nil}
use Rattle.plc_base.specs.declared.key.Key.{Key}
use Rattle.group_keys.specs.KeyRing as ring
use Rattle.node_rules.specs.Drafts.{Draft, Ends, UnsealedUnit, counted, counters_left, refused, sealed, sealed_by, sealed_units, sealing, sealing_key}
use Rattle.node_rules.specs.Frames.{Sent}
use Rattle.node_rules.specs.Memory.{Memory}
use Rattle.node_rules.specs.MemoryDrafts.{in_memory}
use Rattle.node_rules.specs.Plans.{Plan}

-- What a plan answers, sends and leaves, where no write fails.
pub record Gives {H E : Type 0} (p : Plan Memory (Result H E)) (answer : H) (frames : List Sent) (left : Memory) : Type 0 where
  pub answer_is : p.answer ≡ Ok answer
  pub frames_is : p.frames ≡ frames
  pub memory_is : p.memory ≡ left

-- a memory whose node has sealed nothing: the limit of its counter may be another one
abbrev pub unsealed : Memory → Memory
unsealed m = counted in_memory 0 m

none_sealed : (r : ring.Ring) (first : ℕ) → sealed_by r first [] ≡ []
none_sealed None first = refl
none_sealed (Some g) first = by_key (sealing_key g)
  where
    by_key : (o : Option Key) → option_map_or (λ key. sealed_units g key first []) o [] ≡ []
    by_key None = refl
    by_key (Some key) = refl

module _ {H E : Type 0} (ends : Ends E) (d : Draft Memory) (answer : H) (none : d.units ≡ []) where
  gives : Gives (sealing in_memory ends d answer) answer d.plain (unsealed d.memory)
  gives = record {
    answer_is = refl;
    frames_is =
        ap (λ (us : List UnsealedUnit). d.plain ++ sealed_by d.memory.station.ring d.memory.station.counter.next us) none
        ∙ ap (λ fs. d.plain ++ fs) (none_sealed d.memory.station.ring d.memory.station.counter.next) ∙ append-nil d.plain;
    memory_is = ap (λ (us : List UnsealedUnit). counted in_memory (length us) d.memory) none;
  }

  -- no counter is needed
  ends_so : (m : Memory) → sealed in_memory ends m d answer ≡ sealing in_memory ends d answer
  unfolding sealed
  ends_so m =
      (λ i. if nat_lt (counters_left m.station) (length (none i)) then refused ends m ends.spent else sealing in_memory ends d answer)
      ∙ (λ i. if le-ltb (counters_left m.station) 0 (omega arith) i then refused ends m ends.spent else sealing in_memory ends d answer)

  -- a plan that is this one
  pub gives_at : (p : Plan Memory (Result H E)) → p ≡ sealing in_memory ends d answer → Gives p answer d.plain (unsealed d.memory)
  gives_at p path = subst (λ q. Gives q answer d.plain (unsealed d.memory)) (sym path) gives

  pub gives_so : (m : Memory) (p : Plan Memory (Result H E)) → p ≡ sealed in_memory ends m d answer → Gives p answer d.plain (unsealed d.memory)
  gives_so m p path = gives_at p (path ∙ ends_so m)

-- a plan that is another one gives the same
pub at : {H E : Type 0} {p q : Plan Memory (Result H E)} {answer : H} {frames : List Sent} {left : Memory} → p ≡ q → Gives q answer frames left
    → Gives p answer frames left
at {H} {E} {p} {q} {answer} {frames} {left} path g = subst (λ (x : Plan Memory (Result H E)). Gives x answer frames left) (sym path) g
