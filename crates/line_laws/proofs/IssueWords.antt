-- Pair tags in lists, and the words that leave rings and tags alone.
use Rattle.std.proofs.Common.{◌≡◌, ℕ, Bool, true, false, List, [], ◌∷◌, ◌++◌, Option, Some, None, refl}
use Rattle.std.specs.Prelude.{if◌then◌else◌, IfSome, ◌||◌}
use Rattle.std.specs.List.{list_any}
use Rattle.std.specs.Option.{option_map_or}
use Rattle.group_keys.specs.KeyRing as ring
use Rattle.joining_messages.specs.declared.message.JoinMessage.{JoinMessage}
use Rattle.node_rules.specs.Memory.{StationMemory, Memory, Load, Command, address_of, next_hop}
use Rattle.node_rules.specs.Drafts.{Draft, with_rank, with_own_number, with_next_tag, with_ring, with_routing_by, goes, body_goes, is_awaited, waits, seeks}
use Rattle.node_rules.specs.Drafts.{seeks_once, sets_out, leave}
use Rattle.node_rules.specs.MemoryDrafts.{on_station, station_part, is_commanded}
use Rattle.node_rules.specs.JoiningPackets.{command_of}
use Rattle.line_laws.specs.Stores.{IsReadable}
use Rattle.line_laws.proofs.Made.{RingWord, Given, Made, Starts, Ranks, Numbers, Tags, Rings, Idles, Loses, Goes, Sends, Waits, Leaves}
use Rattle.line_laws.proofs.AddressPuts.{Rung, RingWrites, writes_append, number_away}
pub use Rattle.line_laws.specs.Keyed.{Each, Among, Here, Later}

pub among_left : {A : Type 0} (x : A) (xs ys : List A) → Among x xs → Among x (xs ++ ys)
among_left x xs ys (Here rest) = Here (rest ++ ys)
among_left x xs ys (Later y rest a) = Later y (rest ++ ys) (among_left x rest ys a)

pub among_right : {A : Type 0} (x : A) (xs ys : List A) → Among x ys → Among x (xs ++ ys)
among_right x [] ys a = a
among_right x (y ∷ xs) ys a = Later y (xs ++ ys) (among_right x xs ys a)

pub each_append : {A : Type 0} (P : A → Type 0) (xs ys : List A) → Each P xs → Each P ys → Each P (xs ++ ys)
each_append P [] ys h k = k
each_append P (x ∷ xs) ys h k = (h.0, each_append P xs ys h.1 k)

pub each_weaker : {A : Type 0} (P Q : A → Type 0) → ((x : A) → P x → Q x) → (xs : List A) → Each P xs → Each Q xs
each_weaker P Q f [] h = tt
each_weaker P Q f (x ∷ xs) h = (f x h.0, each_weaker P Q f xs h.1)

-- where none of them passes a test, this one does not
pub none_any : {A : Type 0} (test : A → Bool) (x : A) (xs : List A) → Among x xs → list_any test xs ≡ false → test x ≡ false
none_any test x xs (Here rest) e = first (test x) (list_any test rest) e
  where
    first : (a b : Bool) → (a || b) ≡ false → a ≡ false
    first true b e = absurd (cc)
    first false b e = refl
none_any test x xs (Later y rest a) e = none_any test x rest a (second (test y) (list_any test rest) e)
  where
    second : (a b : Bool) → (a || b) ≡ false → b ≡ false
    second true b e = absurd (cc)
    second false b e = e

-- one that passes a test, with what holds of each
pub record Found {A : Type 0} (P : A → Type 0) (test : A → Bool) : Type 0 where
  pub one : A
  pub passes : test one ≡ true
  pub is : P one

pub any_found : {A : Type 0} (P : A → Type 0) (test : A → Bool) (xs : List A) → list_any test xs ≡ true → Each P xs → Found P test
any_found P test [] e h = absurd (cc)
any_found P test (x ∷ xs) e h = by_test (test x) refl e (λ k. any_found P test xs k h.1)
  where
    by_test : (b : Bool) → test x ≡ b → (b || list_any test xs) ≡ true → (list_any test xs ≡ true → Found P test) → Found P test
    by_test true is e rest = record { one = x; passes = is; is = h.0 }
    by_test false is e rest = rest e

-- # Words that leave rings and tags alone

pub record LeavesAlone (S : ring.Ring → Type 0) (s d : Draft StationMemory) : Type 0 where
  pub rung : Rung S s → Rung S d
  pub ring : d.memory.ring ≡ s.memory.ring
  pub made : d.made ≡ s.made
  pub opened : d.opened ≡ s.opened

module _ (S : ring.Ring → Type 0) where
  goes_leaves : (own hop to note : ℕ) (load : Load) (d : Draft StationMemory) → LeavesAlone S d (body_goes own hop to note load d)
  unfolding body_goes
  goes_leaves own hop to note load d = record { rung = λ h. record { puts = h.puts; ring = h.ring; reads = h.reads }; ring = refl; made = refl; opened = refl }

  waits_leaves : (to note : ℕ) (load : Load) (now : ℕ) (s d : Draft StationMemory) → LeavesAlone S s d → LeavesAlone S s (waits to note load now d)
  unfolding waits
  waits_leaves to note load now s d l =
      record { rung = λ h. let x = l.rung h in record { puts = x.puts; ring = x.ring; reads = x.reads }; ring = l.ring; made = l.made; opened = l.opened }

  seeks_leaves : (own dest : ℕ) (d : Draft StationMemory) → LeavesAlone S d (seeks_once own dest d)
  unfolding seeks_once with_own_number goes
  seeks_leaves own dest d = by_wait (is_awaited d.memory dest)
    where
      by_wait : (b : Bool) → LeavesAlone S d (if b then d else seeks own dest d)
      by_wait true = record { rung = λ h. h; ring = refl; made = refl; opened = refl }
      by_wait false = record {
        rung = λ h. record {
          puts = writes_append S d.puts _ h.puts (number_away S d.memory.own_number);
          ring = h.ring;
          reads = h.reads;
        };
        ring = refl;
        made = refl;
        opened = refl;
      }

  pub sets_out_leaves : (own to note : ℕ) (load : Load) (now : ℕ) (d : Draft StationMemory) → LeavesAlone S d (sets_out own to note load now d)
  sets_out_leaves own to note load now d = by_hop (next_hop d.memory to) refl
    where
      by_hop : (hop : Option ℕ) → next_hop d.memory to ≡ hop → LeavesAlone S d (sets_out own to note load now d)
      by_hop None e = rw e (waits_leaves to note load now d _ (seeks_leaves own to d))
      by_hop (Some hop) e = rw e (goes_leaves own hop to note load d)

-- a command leaves all of it alone
pub record LeavesIn (S : ring.Ring → Type 0) (s d : Draft Memory) : Type 0 where
  pub puts : RingWrites S s.puts → IfSome s.memory.station.ring IsReadable → S s.memory.station.ring → RingWrites S d.puts
  pub ring : d.memory.station.ring ≡ s.memory.station.ring
  pub session : d.memory.session ≡ s.memory.session
  pub book : d.memory.book ≡ s.memory.book
  pub made : d.made ≡ s.made
  pub opened : d.opened ≡ s.opened

pub commanded_leaves : (S : ring.Ring → Type 0) (to : ℕ) (message : JoinMessage) (now : ℕ) (d : Draft Memory) → LeavesIn S d (is_commanded to message now d)
unfolding is_commanded on_station
commanded_leaves S to message now d = by_address (address_of d.memory.station)
  where
    by_address : (own : Option ℕ) → LeavesIn S d (option_map_or (λ own. on_station (sets_out own to 0 (Command (command_of message)) now) d) own d)
    by_address None = record { puts = λ p r s. p; ring = refl; session = refl; book = refl; made = refl; opened = refl }
    by_address (Some own) =
        let x = sets_out_leaves S own to 0 (Command (command_of message)) now (station_part d) in
        record {
          puts = λ p r s. (x.rung (record { puts = p; ring = s; reads = r })).puts;
          ring = x.ring;
          session = refl;
          book = refl;
          made = x.made;
          opened = x.opened;
        }

-- the words of a line make and open no pair tag
pub made_tags : (W : RingWord → Type 0) (g : Given) (s d : Draft StationMemory) → Made W g s d → (d.made ≡ s.made) × (d.opened ≡ s.opened)
unfolding with_rank with_own_number with_next_tag with_ring with_routing_by goes body_goes waits leave
made_tags W g s d Starts = (refl, refl)
made_tags W g s d (Ranks by origin rank e made o fits) = made_tags W g s e made
made_tags W g s d (Numbers e made left) = made_tags W g s e made
made_tags W g s d (Tags e made first) = made_tags W g s e made
made_tags W g s d (Rings x e made change) = made_tags W g s e made
made_tags W g s d (Idles e made) = made_tags W g s e made
made_tags W g s d (Loses lost by e made) = made_tags W g s e made
made_tags W g s d (Goes to unit note e made said alone) = made_tags W g s e made
made_tags W g s d (Sends own hop to note load e made here there short carried alone) = made_tags W g s e made
made_tags W g s d (Waits to note load now e made none room short carried alone) = made_tags W g s e made
made_tags W g s d (Leaves own dest hop rank e made here offered) = made_tags W g s e made

pub none_among : {A : Type 0} (x : A) (xs : List A) → xs ≡ [] → Among x xs → ⊥
none_among x xs e (Here rest) = absurd (some x rest e)
  where
    some : {A : Type 0} (x : A) (xs : List A) → x ∷ xs ≡ [] → ⊥
    some x xs e = cc
none_among x xs e (Later y rest a) = absurd (some y rest e)
  where
    some : {A : Type 0} (x : A) (xs : List A) → x ∷ xs ≡ [] → ⊥
    some x xs e = cc
