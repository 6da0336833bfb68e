-- Runs that are followed event by event: what is answered, taken and done, and what holds of the last world.
use Rattle.std.proofs.Common.{◌≡◌, ◌≢◌, ℕ, zero, suc, ◌+◌, ◌<◌, List, [], ◌∷◌, ◌++◌, length, map, Option, Some, Ok, refl, sym, ap, subst, ◌∙◌}
use Rattle.std.specs.Prelude.{cond, not, position, set, slice_get}
use Rattle.std.specs.List.{prefix_len}
use Rattle.std.specs.Option.{option_map_or}
use Rattle.std.proofs.lemmas.List.{length-append, length-set}
use Rattle.std.specs.Prelude.{Bool, nat_lt, None}
use Rattle.plc_base.specs.declared.address.Eui.{Eui}
use Rattle.node_rules.specs.Acceptance.{same_eui}
use Rattle.node_rules.specs.Ciphers.{Ciphers}
use Rattle.node_rules.specs.Frames.{Sent, spelled}
use Rattle.node_rules.specs.Memory.{Node}
use Rattle.line_events.specs.declared.event.Answer.{Answer}
use Rattle.line_events.specs.declared.event.Event.{Event}
use Rattle.line_events.specs.declared.event.Event.TheVariants.{Deliver}
use Rattle.line_events.specs.declared.event.TheConstants.{MAX_EVENTS}
use Rattle.line_rules.specs.Further.{comes, line_step}
use Rattle.line_rules.specs.Runs.{Entry, last_world, one_of, run, takings}
use Rattle.line_rules.specs.Steps.{flight_by, number_of}
use Rattle.line_rules.specs.Worlds.{Flight, Pairing, Trace, World, node_at}
use Rattle.line_progress.specs.Arrival.{answers_of}
use Rattle.line_progress.proofs.Routes.{at_place, place_within, runs_on}
use Rattle.line_progress.proofs.Deliveries.{delivered}
use Rattle.store_tables.proofs.SlotTables.{slice_get-push, slice_get-set, slice_get-set_other}
use Rattle.line_progress.specs.Joinings.{doings}

-- What a run answers, which joinings meters took in it and the coordinator has done, and that its last world is such a one.
pub record Course (Last : World → Type 0) (w : World) (expected : List Answer) (taken done : List Pairing) (entries : List Entry) : Type 0 where
  pub answers_are : answers_of entries ≡ expected
  pub taken_are : takings entries ≡ taken
  pub done_are : doings entries ≡ done
  pub last : Last (last_world w entries)

-- An event is taken: it is answered so, a meter takes its grant in it or not, and the coordinator has a joining done or not; and then the world is
-- such a one.
pub record Next (ciphers : Ciphers) (w : World) (event : Event) (word : Answer) (took finished : Option Pairing) (Then : World → Type 0) : Type 0 where
  pub r : World × Trace
  pub is : line_step ciphers w event ≡ Ok r
  pub answer_is : r.1.happenings.answer ≡ word
  pub taken_is : r.1.taken ≡ took
  pub done_is : r.1.done ≡ finished
  pub so : Then r.0

pub ends_here : (Last : World → Type 0) (w : World) → Last w → Course Last w [] [] [] []
ends_here Last w last = record { answers_are = refl; taken_are = refl; done_are = refl; last = last }

pub goes_on : (Last Then : World → Type 0) (ciphers : Ciphers) (w : World) (event : Event) (more : List Event) (word : Answer)
    (took finished : Option Pairing) (expected : List Answer) (taken done : List Pairing) → w.events < MAX_EVENTS
    → Next ciphers w event word took finished Then
    → ((v : World) → Then v → Course Last v expected taken done (run ciphers v more))
    → Course Last w (word ∷ expected) (one_of took ++ taken) (one_of finished ++ done) (run ciphers w (event ∷ more))
goes_on Last Then ciphers w event more word took finished expected taken done room next rest =
    let c : Course Last next.r.0 expected taken done (run ciphers next.r.0 more) = rest next.r.0 next.so in
    subst (λ entries. Course Last w (word ∷ expected) (one_of took ++ taken) (one_of finished ++ done) entries)
    (sym (runs_on ciphers w event more next.r room next.is)) (record {
      answers_are = λ i. next.answer_is i ∷ c.answers_are i;
      taken_are = λ i. one_of (next.taken_is i) ++ c.taken_are i;
      done_are = λ i. one_of (next.done_is i) ++ c.done_are i;
      last = c.last;
    })

-- # The number of a meter

-- one that takes the place of another of the same test changes no place
kept_prefix : {A : Type 0} (p : A → Bool) (xs : List A) (k : ℕ) (y z : A) → slice_get xs k ≡ Some y → p z ≡ p y
    → prefix_len p (set xs k z) ≡ prefix_len p xs
kept_prefix p [] k y z is same = refl
kept_prefix p (x ∷ xs) zero y z is same =
    let x_is : x ≡ y = ap (λ (o : Option _). option_map_or (λ a. a) o x) is in
    (λ i. cond (same i) (1 + prefix_len p xs) 0) ∙ (λ i. cond (p (sym x_is i)) (1 + prefix_len p xs) 0)
kept_prefix p (x ∷ xs) (suc k) y z is same = ap (λ n. cond (p x) (1 + n) 0) (kept_prefix p xs k y z is same)

pub number_kept : (w v : World) (eui : Eui) (number : ℕ) (y z : Node) → node_at w number ≡ Some y → z.eui ≡ y.eui
    → v.nodes ≡ set w.nodes number z → number_of v eui ≡ number_of w eui
number_kept w v eui number y z there same nodes =
    let test : Node → Bool = λ (x : Node). same_eui x.eui eui in
    let kept : prefix_len (λ x. not (test x)) (set w.nodes number z) ≡ prefix_len (λ x. not (test x)) w.nodes =
    kept_prefix (λ x. not (test x)) w.nodes number y z there (ap (λ (e : Eui). not (same_eui e eui)) same) in
    ap (λ nodes. option_map_or (λ n. n) (position test nodes) 0) nodes
    ∙ (λ i. option_map_or (λ n. n) (cond (nat_lt (kept i) (length-set w.nodes number z i)) (Some (kept i)) None) 0)

-- # Worlds after an event of one node

pub same_there : (w v : World) (n k : ℕ) (y z : Node) → v.nodes ≡ set w.nodes n y → k ≢ n → node_at w k ≡ Some z → node_at v k ≡ Some z
same_there w v n k y z nodes other there = ap (λ ns. slice_get ns k) nodes ∙ slice_get-set_other w.nodes n k y other ∙ there

pub new_there : (w v : World) (n : ℕ) (y z : Node) → v.nodes ≡ set w.nodes n y → node_at w n ≡ Some z → node_at v n ≡ Some y
new_there w v n y z nodes there = ap (λ ns. slice_get ns n) nodes ∙ slice_get-set w.nodes n y (place_within w.nodes n z there)

-- the flight that a node adds is the last one
pub last_flown : (ciphers : Ciphers) (w v : World) (place number : ℕ) (sent : Sent) → length w.flights ≡ place + 1
    → v.flights ≡ w.flights ++ map (λ (frame : Sent). flight_by number (spelled ciphers frame)) (sent ∷ [])
    → (slice_get v.flights (place + 1) ≡ Some (flight_by number (spelled ciphers sent))) × (length v.flights ≡ place + 1 + 1)
last_flown ciphers w v place number sent long flights =
    let f : Flight = flight_by number (spelled ciphers sent) in (
      ap (λ fs. slice_get fs (place + 1)) flights ∙ ap (λ k. slice_get (w.flights ++ f ∷ []) k) (sym long) ∙ slice_get-push w.flights f,
      ap length flights ∙ length-append w.flights (f ∷ []) ∙ ap (λ n. n + 1) long,
    )

-- the last flight comes to a node
pub last_comes : (ciphers : Ciphers) (w : World) (place from : ℕ) (frame : Sent) → slice_get w.flights place ≡ Some (flight_by from (spelled ciphers frame))
    → (number cost : ℕ) (y : Node) → node_at w number ≡ Some y
    → line_step ciphers w (Deliver (place + 1) number cost) ≡ Ok (comes ciphers w number y (spelled ciphers frame).octets cost)
last_comes ciphers w place from frame flown number cost y there =
    delivered ciphers w (place + 1) number cost y (flight_by from (spelled ciphers frame)) there (at_place w (place + 1) place refl ∙ flown) refl
