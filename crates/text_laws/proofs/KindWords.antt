-- The words after the first, by kind: what is read is an event whose line has them, and the case of digits is not read.
use Rattle.std.proofs.Common.{◌≡◌, ℕ, Bool, true, false, List, map, Option, Some, None, refl, sym, ap, subst, ◌∙◌}
use Rattle.std.specs.Prelude.{IfSome, codes, if◌then◌else◌}
use Rattle.std.specs.Char.{to_ascii_lowercase}
use Rattle.std.specs.List.{list_all}
use Rattle.std.specs.Option.{option_map}
use Rattle.std.specs.Str.{bytes_eq}
use Rattle.hex.specs.Hex.{is_hex_digit}
use Rattle.line_events.specs.declared.event.Event.{Event}
use Rattle.line_events.specs.declared.event.Event.TheVariants.{Coordinator, Meter, Depot, Near, Counter, Number, Allow, RandomOctets as GiveRand, Join, Leave}
use Rattle.line_events.specs.declared.event.Event.TheVariants.{Send}
use Rattle.line_events.specs.declared.event.Event.TheVariants.{Deliver, Inject, Lose, Break, Tick, Restart, Cut, Rekey, Challenge, Activate, Kick, Show}
use Rattle.line_events.specs.declared.event.Event.TheVariants.{Bcast, Scan, Choose, Path}
use Rattle.line_script.specs.declared.kind.EventKind.{EventKind}
use Rattle.line_script.specs.declared.kind.EventKind.TheVariants as kinds
use Rattle.line_script.specs.Kinds.{kind_word}
use Rattle.line_script.specs.Words.{◌>>=◌, Field, field, keeps_new}
use Rattle.line_script.specs.LineReader.{coordinator_of, meter_of, depot_of, near_of, counter_of, number_of, allow_of, rand_of, join_of, leave_of, send_of}
use Rattle.line_script.specs.LineReader.{deliver_of, inject_of, lose_of, break_of, tick_of, restart_of, cut_of, rekey_of, challenge_of, activate_of, kick_of}
use Rattle.line_script.specs.LineReader.{show_of, bcast_of, scan_of, choose_of, path_of, event_by}
use Rattle.line_script.specs.Lines.{kept_word, line_of, spaced}
use Rattle.text_laws.specs.LowerCase.{lower_word, lower_line}
use Rattle.text_laws.proofs.Letters.{same_if}
use Rattle.text_laws.proofs.Words.{IsReader, IsSpelled, IsSplit, field_splits, if_then, last_same, last_word, lower_field, lower_fields, not_hex, same_word}
use Rattle.text_laws.proofs.Numbers.{number_reader, within_reader, cost_reader}
use Rattle.text_laws.proofs.Hexadecimal.{eui_reader, sixteen_reader, hex_reader, lower_digits_are}

-- # Choices

kept_by : (word : List ℕ) (new old : Bool) → bytes_eq word (codes "new") ≡ new → bytes_eq word (codes "old") ≡ old
    → IfSome (if new then Some true else if old then Some false else None) (λ keeps. IsSpelled word (kept_word keeps))
unfolding lower_word
kept_by word true old is_new is_old =
    subst (λ (w : List ℕ). IsSpelled w (codes "new")) (sym (same_word word (codes "new") true is_new refl)) ((refl, (refl, (refl, tt))), refl)
kept_by word false true is_new is_old =
    subst (λ (w : List ℕ). IsSpelled w (codes "old")) (sym (same_word word (codes "old") true is_old refl)) ((refl, (refl, (refl, tt))), refl)
kept_by word false false is_new is_old = tt

no_choice : (word : List ℕ) → list_all is_hex_digit word ≡ true → keeps_new word ≡ None
unfolding keeps_new
no_choice word are = rw (not_hex word (codes "new") are refl, not_hex word (codes "old") are refl) refl

kept_reader : IsReader keeps_new kept_word
unfolding keeps_new lower_word
kept_reader = record {
  spells = λ word. kept_by word (bytes_eq word (codes "new")) (bytes_eq word (codes "old")) refl refl;
  same = λ word. same_if keeps_new _ (map to_ascii_lowercase word) word
      (λ are. no_choice (map to_ascii_lowercase word) (lower_digits_are word are) ∙ sym (no_choice word are));
}

-- # One to three words

-- the words after the first are those of the event's line
abbrev pub IsBy : EventKind → List ℕ → Event → Type 0
IsBy kind rest event = spaced (lower_word (kind_word kind)) (lower_line rest) ≡ line_of event

-- what is read of the words after the first is an event whose line has them, and the case of digits is not read
abbrev pub ReadsKind : EventKind → List ℕ → (List ℕ → Option Event) → Type 0
ReadsKind kind rest read = IfSome (read rest) (IsBy kind rest) × (read (lower_line rest) ≡ read rest)

module _ {A : Type 0} {read : List ℕ → Option A} {text : A → List ℕ} (r : IsReader read text) (rest : List ℕ) where
  -- the last word of a line
  last : (Q : Event → Type 0) (f : A → Option Event) → ((a : A) → lower_line rest ≡ text a → IfSome (f a) Q) → IfSome (read rest >>= f) Q
  last Q f all = if_then (λ a. IsSpelled rest (text a)) Q (read rest) f (r.spells rest) (λ a is. all a (last_word rest is.0 ∙ is.1))

  -- a word that others follow
  abbrev then_read : (List ℕ → A → Option Event) → Option Field → Option Event
  then_read f found = found >>= λ first. read first.word >>= λ a. f first.rest a

  next : (Q : Event → Type 0) (f : List ℕ → A → Option Event)
      → ((tail : List ℕ) (a : A) → lower_line rest ≡ spaced (text a) (lower_line tail) → IfSome (f tail a) Q) → IfSome (then_read f (field rest)) Q
  next Q f all =
      if_then (IsSplit rest) Q (field rest) _ (field_splits rest)
      (λ first split. if_then (λ a. IsSpelled first.word (text a)) Q (read first.word) _ (r.spells first.word)
      (λ a is. all first.rest a (split.1 ∙ ap (λ (w : List ℕ). spaced w (lower_line first.rest)) is.1)))

  next_by : (f : List ℕ → A → Option Event) (found : Option Field) → ((tail : List ℕ) (a : A) → f (lower_line tail) a ≡ f tail a)
      → then_read f (option_map lower_field found) ≡ then_read f found
  next_by f None same = refl
  next_by f (Some first) same = λ i. r.same first.word i >>= λ a. same first.rest a i

  next_same : (f : List ℕ → A → Option Event) → ((tail : List ℕ) (a : A) → f (lower_line tail) a ≡ f tail a)
      → then_read f (field (lower_line rest)) ≡ then_read f (field rest)
  next_same f same = ap (then_read f) (lower_fields rest) ∙ next_by f (field rest) same

module _ (kind : EventKind) (rest : List ℕ) where
  abbrev with_kind : List ℕ → List ℕ
  with_kind text = spaced (lower_word (kind_word kind)) text

  module _ {A : Type 0} {read : List ℕ → Option A} {text : A → List ℕ} (r : IsReader read text) where
    one : (make : A → Event) → ((a : A) → with_kind (text a) ≡ line_of (make a)) → ReadsKind kind rest (λ octets. read octets >>= λ a. Some (make a))
    one make line = (last r rest (IsBy kind rest) _ (λ a is. ap with_kind is ∙ line a), ap (λ o. o >>= λ a. Some (make a)) (last_same r rest))

    module _ {B : Type 0} {read' : List ℕ → Option B} {text' : B → List ℕ} (r' : IsReader read' text') where
      two : (make : A → B → Event) → ((a : A) (b : B) → with_kind (spaced (text a) (text' b)) ≡ line_of (make a b))
          → ReadsKind kind rest (λ octets. field octets >>= λ first. read first.word >>= λ a. read' first.rest >>= λ b. Some (make a b))
      two make line = (
        next r rest (IsBy kind rest) _
            (λ tail a is. last r' tail (IsBy kind rest) _ (λ b is'. ap with_kind (is ∙ ap (spaced (text a)) is') ∙ line a b)),
        next_same r rest _ (λ tail a. ap (λ o. o >>= λ b. Some (make a b)) (last_same r' tail)),
      )

      module _ {C : Type 0} {read'' : List ℕ → Option C} {text'' : C → List ℕ} (r'' : IsReader read'' text'') where
        three : (make : A → B → C → Event) → ((a : A) (b : B) (c : C) → with_kind (spaced (text a) (spaced (text' b) (text'' c))) ≡ line_of (make a b c))
            → ReadsKind kind rest (λ octets. field octets >>= λ first. read first.word >>= λ a. field first.rest >>= λ second. read' second.word
            >>= λ b. read'' second.rest >>= λ c. Some (make a b c))
        three make line = (
          next r rest (IsBy kind rest) _
              (λ tail a is. next r' tail (IsBy kind rest) _
              (λ end b is'. last r'' end (IsBy kind rest) _
              (λ c is''. ap with_kind (is ∙ ap (spaced (text a)) (is' ∙ ap (spaced (text' b)) is'')) ∙ line a b c))),
          next_same r rest _ (λ tail a. next_same r' tail _ (λ end b. ap (λ o. o >>= λ c. Some (make a b c)) (last_same r'' end))),
        )

-- # Kinds

pub by_kind : (kind : EventKind) (rest : List ℕ) → ReadsKind kind rest (event_by kind)
unfolding event_by coordinator_of meter_of depot_of near_of counter_of number_of allow_of rand_of join_of leave_of send_of deliver_of inject_of lose_of break_of
    tick_of restart_of cut_of rekey_of challenge_of activate_of kick_of show_of bcast_of scan_of choose_of path_of lower_word
by_kind kinds.Coordinator rest = two kinds.Coordinator rest eui_reader sixteen_reader (λ who key. Coordinator who (record { 0 = key })) (λ a b. refl)
by_kind kinds.Meter rest = two kinds.Meter rest eui_reader sixteen_reader (λ who psk. Meter who (record { 0 = psk })) (λ a b. refl)
by_kind kinds.Depot rest = one kinds.Depot rest number_reader Depot (λ a. refl)
by_kind kinds.Near rest = three kinds.Near rest number_reader number_reader cost_reader Near (λ a b c. refl)
by_kind kinds.Counter rest = two kinds.Counter rest number_reader number_reader Counter (λ a b. refl)
by_kind kinds.Number rest = two kinds.Number rest number_reader (within_reader 1 65535) Number (λ a b. refl)
by_kind kinds.Allow rest = one kinds.Allow rest number_reader Allow (λ a. refl)
by_kind kinds.RandomOctets rest = two kinds.RandomOctets rest number_reader sixteen_reader (λ node value. GiveRand node (record { 0 = value })) (λ a b. refl)
by_kind kinds.Join rest = two kinds.Join rest number_reader number_reader Join (λ a b. refl)
by_kind kinds.Leave rest = one kinds.Leave rest number_reader Leave (λ a. refl)
by_kind kinds.Send rest = three kinds.Send rest number_reader number_reader hex_reader Send (λ a b c. refl)
by_kind kinds.Deliver rest = three kinds.Deliver rest number_reader number_reader cost_reader Deliver (λ a b c. refl)
by_kind kinds.Inject rest = three kinds.Inject rest number_reader cost_reader hex_reader Inject (λ a b c. refl)
by_kind kinds.Lose rest = one kinds.Lose rest number_reader Lose (λ a. refl)
by_kind kinds.Break rest = two kinds.Break rest number_reader number_reader Break (λ a b. refl)
by_kind kinds.Tick rest = one kinds.Tick rest (within_reader 1 86400) Tick (λ a. refl)
by_kind kinds.Restart rest = one kinds.Restart rest number_reader Restart (λ a. refl)
by_kind kinds.Cut rest = three kinds.Cut rest number_reader (within_reader 1 1000) kept_reader Cut (λ a b c. refl)
by_kind kinds.Rekey rest = two kinds.Rekey rest (within_reader 0 1) sixteen_reader (λ index key. Rekey index (record { 0 = key })) (λ a b. refl)
by_kind kinds.Challenge rest = one kinds.Challenge rest number_reader Challenge (λ a. refl)
by_kind kinds.Activate rest = two kinds.Activate rest number_reader (within_reader 0 1) Activate (λ a b. refl)
by_kind kinds.Kick rest = one kinds.Kick rest number_reader Kick (λ a. refl)
by_kind kinds.Show rest = one kinds.Show rest number_reader Show (λ a. refl)
by_kind kinds.Checks rest = (tt, refl)
by_kind kinds.Bcast rest = two kinds.Bcast rest number_reader hex_reader Bcast (λ a b. refl)
by_kind kinds.Scan rest = one kinds.Scan rest number_reader Scan (λ a. refl)
by_kind kinds.Choose rest = two kinds.Choose rest number_reader (within_reader 1 16) Choose (λ a b. refl)
by_kind kinds.Path rest = two kinds.Path rest number_reader number_reader Path (λ a b. refl)
