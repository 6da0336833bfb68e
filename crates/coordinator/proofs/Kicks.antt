-- What shutting a meter out comes to.
use Rattle.std.proofs.Common.{◌≡◌, ℕ, Bool, true, false, [], length, get_or, Option, Some, None, Result, Ok, Err, refl, sym, ap, subst, ◌∙◌}
use Rattle.std.specs.Prelude.{if◌then◌else◌, ◌||◌, nat_lt, is_some, slice_get, IfSome}
use Rattle.std.specs.Option.{option_map_or, option_and_then}
use Rattle.std.proofs.lemmas.Option.{slice_get-get_or}
use Rattle.store_tables.specs.SlotTables as slots
use Rattle.plc_base.specs.declared.address.Eui.{Eui}
use Rattle.plc_base.specs.declared.out_frame.Out.{Out}
use Rattle.store_tables.proofs.SlotTables.{found}
use Rattle.group_keys.specs.declared.key_book.BookEntry.{BookEntry}
use Rattle.group_keys.specs.KeyBook as book
use Rattle.joining_messages.specs.declared.message.JoinBody.TheVariants.{Kick}
use Rattle.node_rules.specs.declared.refusal.CoordinatorRefusal.{CoordinatorRefusal}
use Rattle.node_rules.specs.declared.refusal.CoordinatorRefusal.TheVariants.{NotAllowed, Store as Failed}
use Rattle.node_rules.specs.Memory.{StationMemory, Memory, Load, Command, address_of, next_hop}
use Rattle.node_rules.specs.MemoryDrafts.{in_memory, on_station, with_memory_by, is_commanded}
use Rattle.node_rules.specs.JoiningPackets.{message, command_of}
use Rattle.node_rules.specs.Calls.{commands}
use Rattle.node_rules.specs.Drafts.{Draft, empty_draft, refused, sealing, is_awaited, body_goes, waits, seeks_once, goes, with_own_number}
use Rattle.node_rules.specs.Coordinators.{orders, allowed_entry, with_book_entry, kick, kick_by}
use Rattle.node_rules.specs.States.{State}
use Rattle.node_rules.specs.CarriedPlans.{Carries, nothing}
use Rattle.node_rules.specs.ComposedPlans.{behind, command_alone}
use Rattle.node_rules.proofs.ComposedPlans.{command_plan, carries_behind, carries_stopped}
use Rattle.plc_station.proofs.CarriedPlans.{at_some}
use Rattle.coordinator.specs.CoordinatorAgreement.{CoordinatorAgreesWith}
use Rattle.coordinator.specs.DraftsCarriedOut.{Does}
use Rattle.coordinator.specs.MeshCommands.{sent_command, reaches, RoomFor}
use Rattle.coordinator.specs.Kicks.{shut_out, silently}
use Rattle.coordinator.proofs.StoredChanges.{stored, unstored, carried_by}
use Rattle.coordinator.proofs.BookEntries.{IsQuiet, below_limit}
use Rattle.coordinator.proofs.CommandRoutes.{reached_room}

-- # The entry that is found

-- there is a place for the entry of a meter that is allowed
pub room_of : (b : book.Book) (eui : Eui) (e : BookEntry) → Some e ≡ book.allowed_one b eui → book.has_room b e.eui ≡ true
room_of b eui e may = by_place (book.place_of b eui) refl may
  where
    one : BookEntry → Option BookEntry
    one x = if x.allowed then Some x else None

    same : (x : BookEntry) (allowed : Bool) → Some e ≡ (if allowed then Some x else None) → x ≡ e
    same x true h = cc
    same x false h = absurd (cc)

    some_is : (x y : BookEntry) → Some x ≡ Some y → x ≡ y
    some_is x y h = cc

    by_entry : (place : ℕ) (o : Option BookEntry) → book.place_of b eui ≡ Some place → slice_get b place ≡ o → Some e ≡ option_map_or one o None
        → book.has_room b e.eui ≡ true
    by_entry place None is got h = absurd (cc)
    by_entry place (Some x) is got h =
        let f = found book.entries b (book.eui_number eui) place x is in
        let at : x ≡ get_or b place x = some_is x (get_or b place x) (sym got ∙ slice_get-get_or b place x f.0) in
        let key : book.eui_number e.eui ≡ book.eui_number eui = ap (λ (y : BookEntry). book.eui_number y.eui) (sym (same x x.allowed h) ∙ at) ∙ f.1 in
        subst (λ (n : ℕ). (is_some (slots.place_of book.entries b n) || nat_lt (length b) 999) ≡ true) (sym key)
        (subst (λ (o : Option ℕ). (is_some o || nat_lt (length b) 999) ≡ true) (sym is) refl)

    by_place : (o : Option ℕ) → book.place_of b eui ≡ o → Some e ≡ option_map_or one (option_and_then (slice_get b) o) None → book.has_room b e.eui ≡ true
    by_place None is h = absurd (cc)
    by_place (Some place) is h = by_entry place (slice_get b place) is refl h

-- # The plan, by what is tested

module _ (m : Memory) (eui : Eui) where
  pub not_allowed : None ≡ allowed_entry m eui → refused {H = Unit {0}} orders m NotAllowed ≡ kick m eui
  not_allowed e = rw (← e) refl

  pub not_known : (entry : BookEntry) → Some entry ≡ allowed_entry m eui → None ≡ book.address_of m.book eui
      → refused {H = Unit {0}} orders m NotAllowed ≡ kick m eui
  not_known entry e a = rw (← e, ← a) refl

  pub kicks : (entry : BookEntry) (to : ℕ) → Some entry ≡ allowed_entry m eui → Some to ≡ book.address_of m.book eui → kick_by m entry to ≡ kick m eui
  kicks entry to e a = rw (← e, ← a) refl

module _ (m : Memory) (e : BookEntry) (to : ℕ) where
  goes_by : Bool → Draft Memory
  goes_by reached = if reached then is_commanded to (message e.eui Kick) 0 (shut_out m e) else shut_out m e

  pub silent_plan : false ≡ reaches m to → silently m e ≡ kick_by m e to
  unfolding goes_by
  silent_plan unreached = λ i. sealing in_memory orders (goes_by (unreached i)) tt

  from_address : Option ℕ → Draft Memory
  from_address o = option_map_or (λ own. on_station (commands own to (command_of (message e.eui Kick)) 0) (shut_out m e)) o (shut_out m e)

  pub ordered_plan : address_of m.station ≡ Some 0 → reaches m to ≡ true
      → behind (shut_out m e).puts (sent_command (shut_out m e).memory to (message e.eui Kick) 0) ≡ kick_by m e to
  unfolding goes_by from_address is_commanded with_memory_by with_book_entry empty_draft
  ordered_plan home reached =
      command_plan orders (shut_out m e).puts (shut_out m e).memory [] [] [] 0 to (Command (command_of (message e.eui Kick))) 0 tt
      ∙ (λ i. sealing in_memory orders (from_address (sym home i)) tt) ∙ (λ i. sealing in_memory orders (goes_by (sym reached i)) tt)

-- # What was done

opened_by : (l : StationMemory) (own to : ℕ) (load : Load) (now : ℕ) (hop : Option ℕ) (b : Bool) → next_hop l to ≡ hop → is_awaited l to ≡ b
    → (command_alone l own to load now).opened ≡ []
unfolding empty_draft body_goes waits seeks_once goes with_own_number
opened_by l own to load now (Some hop) b e a = rw e refl
opened_by l own to load now None true e a = rw (e, a) refl
opened_by l own to load now None false e a = rw (e, a) refl

alone_opened : (l : StationMemory) (own to : ℕ) (load : Load) (now : ℕ) → (command_alone l own to load now).opened ≡ []
alone_opened l own to load now = opened_by l own to load now (next_hop l to) (is_awaited l to) refl refl

pub shut_quiet : (m : Memory) (e : BookEntry) → IsQuiet m (shut_out m e)
unfolding with_memory_by with_book_entry empty_draft
shut_quiet m e = record { units = refl; out_done = refl; out_failed = refl; station = refl }

module _ (s : State Memory) (m : Memory) (e : BookEntry) where
  pub silent_done : (t : State Memory) → CoordinatorAgreesWith m s.store.records → Does s (shut_out m e) true t → Carries s (silently m e) (Ok tt) nothing t
  silent_done t h does =
      let q = shut_quiet m e in stored orders s t (shut_out m e) tt nothing q.units (below_limit s m (shut_out m e) h q.station) does q.out_done

  pub silent_stopped : (t : State Memory) → Does s (shut_out m e) false t → Carries s (silently m e) (Err Failed) nothing t
  silent_stopped t does = unstored orders s t (shut_out m e) tt nothing does (shut_quiet m e).out_failed

  pub ordered_stopped : (t : State Memory) (to : ℕ) (out : Out) → CoordinatorAgreesWith m s.store.records → reaches m to ≡ true → out ≡ nothing
      → Does s (shut_out m e) false t
      → Carries s (kick_by m e to) (Err Failed) out t
  ordered_stopped t to out h reached empty does =
      carried_by s t _ (kick_by m e to) (Err Failed) out (ordered_plan m e to h.home reached)
      (carries_stopped s t (shut_out m e).puts _ (behind (shut_out m e).puts (sent_command (shut_out m e).memory to (message e.eui Kick) 0)) out does.wrote refl
      (empty ∙ (λ i. record {
        frames = [];
        tags = record { made = []; opened = sym (alone_opened (shut_out m e).memory.station 0 to (Command (command_of (message e.eui Kick))) 0) i };
      }))
      (ap (λ (x : State Memory). x.eui) does.state) (ap (λ (x : State Memory). x.memory) does.state))

  pub ordered_done : (mid t : State Memory) (to : ℕ) (answer : Result (Unit {0}) CoordinatorRefusal) (out : Out) → CoordinatorAgreesWith m s.store.records
      → reaches m to ≡ true
      → Does s (shut_out m e) true mid → IfSome mid.memory (λ n. Carries mid (sent_command n to (message e.eui Kick) 0) answer out t)
      → Carries s (kick_by m e to) answer out t
  ordered_done mid t to answer out h reached does goes_out =
      carried_by s t _ (kick_by m e to) answer out (ordered_plan m e to h.home reached)
      (carries_behind s mid t (shut_out m e).puts (sent_command (shut_out m e).memory to (message e.eui Kick) 0) answer out does.wrote
      (sym (ap (λ (x : State Memory). x.eui) does.state))
      (at_some mid.memory (λ n. Carries mid (sent_command n to (message e.eui Kick) 0) answer out t) (shut_out m e).memory
      (ap (λ (x : State Memory). x.memory) does.state) goes_out))

  pub room_left : (mid : State Memory) (to : ℕ) → reaches m to ≡ true → Does s (shut_out m e) true mid
      → IfSome mid.memory (λ n. RoomFor n to (message e.eui Kick))
  unfolding with_memory_by with_book_entry empty_draft
  room_left mid to reached does =
      subst (λ (o : Option Memory). IfSome o (λ n. RoomFor n to (message e.eui Kick))) (sym (ap (λ (x : State Memory). x.memory) does.state))
      (reached_room m.station to (length (command_of (message e.eui Kick))) reached)
