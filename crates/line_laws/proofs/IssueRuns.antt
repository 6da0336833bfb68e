-- The law that a joined meter holds only keys that were issued to it.
use Rattle.std.proofs.Common.{◌≡◌, ◌≢◌, ⊎_elim, ℕ, suc, false, List, [], ◌∷◌, ◌++◌, get_or, Option, Some, None, Ok, Err, refl, sym, ap, ◌∙◌, append_assoc}
use Rattle.std.proofs.Common.{append-nil}
use Rattle.std.specs.Prelude.{All, IfSome, slice_get}
use Rattle.std.specs.Int.{bytes_high_first}
use Rattle.std.proofs.lemmas.Bool.{cases_eq}
use Rattle.std.proofs.lemmas.Option.{slice_get-get_or}
use Rattle.plc_base.proofs.NumbersOfOctets.{bytes_high_first-big_from}
use Rattle.plc_base.specs.declared.address.Eui.{Eui}
use Rattle.plc_base.specs.declared.key.Key.{Key}
use Rattle.group_keys.specs.KeyRing as ring
use Rattle.group_keys.specs.KeyBook as books
use Rattle.line_events.specs.Events.{IsEui}
use Rattle.node_rules.specs.Memory.{Memory, Role, Coordinator, Meter, Node}
use Rattle.line_rules.specs.Worlds.{World, Issued, Trace, node_at, start}
use Rattle.line_rules.specs.Steps.{Step}
use Rattle.line_rules.specs.Runs.{Entry, all_of}
use Rattle.line_rules.specs.SafeRuns.{IsIssued, HoldsIssued, HasIssuedKeys, HasOnlyIssuedKeys}
use Rattle.line_laws.specs.Stores.{IsKept}
use Rattle.line_laws.proofs.KeptMemory.{Left}
use Rattle.line_laws.proofs.Nodes.{NodeOk}
use Rattle.line_laws.proofs.Worlds.{FlightFits, WorldOk, at_place}
use Rattle.line_laws.proofs.IssueWords.{Among, Here, Later, Each}
use Rattle.line_laws.proofs.IssueNodes.{GivenAt, RingOk, MeterOk}
use Rattle.line_laws.proofs.IssueWorlds.{Keyed}
use Rattle.line_laws.proofs.IssueSteps.{StepKeyed, Fails, Taken}

-- # EUIs by their numbers

eui_of : List ℕ → Eui
eui_of octets = record { 0 = octets }

pub eui_same : (a b : Eui) → IsEui a → IsEui b → books.eui_number a ≡ books.eui_number b → a ≡ b
unfolding eui_of
eui_same a b ha hb e = ap eui_of (sym (bytes_high_first-big_from 8 a.0 ha.0 ha.1) ∙ ap (bytes_high_first 8) e ∙ bytes_high_first-big_from 8 b.0 hb.0 hb.1)

-- # What stands among what was issued

record Place (given : List Issued) (one : Issued) : Type 0 where
  place : ℕ
  is : slice_get given place ≡ Some one

place_of : (one : Issued) (given : List Issued) → Among one given → Place given one
place_of one given (Here rest) = record { place = 0; is = refl }
place_of one given (Later y rest a) = let p = place_of one rest a in record { place = suc p.place; is = p.is }

each_at : (P : Issued → Type 0) (one : Issued) (given : List Issued) → Among one given → Each P given → P one
each_at P one given (Here rest) h = h.0
each_at P one given (Later y rest a) h = each_at P one rest a h.1

abbrev pub IsNamed : Issued → Type 0
IsNamed i = IsEui i.eui

abbrev issued_as : Eui → ℕ → Key → Issued
issued_as eui index key = record { eui = eui; index = index; key = key }

given_key : (given : List Issued) → Each IsNamed given → (eui : Eui) → IsEui eui → (index : ℕ) (key : Option Key) → GivenAt given eui index key
    → IsIssued given eui index key
given_key given names eui named index None h = tt
given_key given names eui named index (Some key) h =
    let p = place_of h.one given h.among in
    let same : h.one.eui ≡ eui = eui_same h.one.eui eui (each_at IsNamed h.one given h.among names) named h.to in
    record {
      place = p.place;
      is = p.is
          ∙ ap Some (ap (λ e. issued_as e h.one.index h.one.key) same ∙ ap (λ k. issued_as eui k h.one.key) h.at ∙ ap (issued_as eui index) h.key_is);
    }

holds : (b : books.Book) (given : List Issued) → Each IsNamed given → (eui : Eui) → IsEui eui → (r : ring.Ring) → RingOk b given eui r
    → IfSome r (λ g. HoldsIssued given eui g)
holds b given names eui named None h = tt
holds b given names eui named (Some g) h = (given_key given names eui named 0 g.key0 h.key0, given_key given names eui named 1 g.key1 h.key1)

-- # A world

all_from : {A : Type 0} (P : A → Type 0) (xs : List A) → ((n : ℕ) (x : A) → slice_get xs n ≡ Some x → P x) → All P xs
all_from P xs f k d lt = f k (get_or xs k d) (slice_get-get_or xs k d lt)

module _ (w : World) (given : List Issued) (ok : WorldOk w) (k : Keyed w given) (names : Each IsNamed given) where
  node_holds : (n : ℕ) (x : Node) → node_at w n ≡ Some x → HasIssuedKeys given x.eui x.role x.memory
  node_holds n x there = ⊎_elim
      (λ (e : n ≡ 0). coordinator x.role ((k.coordinator x (ap (slice_get w.nodes) (sym e) ∙ there)).role))
      (λ (ne : n ≢ 0). meter (k.meters n x ne there) x.role x.memory (at_place NodeOk w.nodes n x there ok.nodes).kept) (cases_eq n 0)
    where
      coordinator : (role : Role) → role ≡ Coordinator → HasIssuedKeys given x.eui role x.memory
      coordinator Coordinator e = tt
      coordinator (Meter psk) e = absurd (cc)

      meter : MeterOk k.book given x → (role : Role) (o : Option Memory) → Left (IsKept role) x.store.records o → HasIssuedKeys given x.eui role o
      meter h Coordinator o q = tt
      meter h (Meter psk) None q = tt
      meter h (Meter psk) (Some m) q = holds k.book given names x.eui (k.named n x there) m.station.ring (h.ring m.station.ring q.station.ring.stored)

  pub world_holds : HasOnlyIssuedKeys given w
  world_holds = all_from (λ (x : Node). HasIssuedKeys given x.eui x.role x.memory) w.nodes node_holds

-- # Runs

pub start_keyed : Keyed start []
start_keyed = record {
  book = [];
  coordinator = λ c e. absurd (cc);
  meters = λ n x ne e. absurd (none n x e);
  made = tt;
  roles = λ n x ne e. absurd (none n x e);
  apart = λ i j x y a b same. absurd (none i x a);
  still = λ e. refl;
  named = λ n x e. absurd (none n x e);
}
  where
    none : (n : ℕ) (x : Node) → slice_get [] n ≡ Some x → ⊥
    none n x e = cc

abbrev pub Kept : List Issued → Step → Type 0
Kept given (Ok r) = r.1.happenings.forged ≡ false → Keyed r.0 (given ++ r.1.issued)
Kept given (Err fault) = Unit {0}

pub kept : (w : World) (given : List Issued) (s : Step) → StepKeyed w given s → Kept given s
kept w given s (Fails fault) = tt
kept w given s (Taken r f) = f

pub all_of_one : {A : Type 0} (listed : Trace → List A) (xs : List Entry) (x : Entry) → all_of listed (xs ++ x ∷ []) ≡ all_of listed xs ++ listed x.trace
all_of_one listed [] x = append-nil (listed x.trace)
all_of_one listed (y ∷ ys) x =
    ap (λ zs. listed y.trace ++ zs) (all_of_one listed ys x) ∙ sym (append_assoc (listed y.trace) (all_of listed ys) (listed x.trace))

abbrev pub EntryFlies : Entry → Type 0
EntryFlies x = All FlightFits x.after.flights
