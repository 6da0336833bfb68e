-- The laws that a meter that was kicked stays out, and one that is shut out.
use Rattle.std.proofs.Common.{◌≡◌, ◌≢◌, ⊎_elim, ℕ, zero, suc, true, false, List, [], ◌∷◌, ◌++◌, Option, Some, None, refl, sym, ap, ◌∙◌, subst, arith}
use Rattle.std.specs.Prelude.{All, IfSome, slice_get}
use Rattle.std.proofs.lemmas.Bool.{cases_eq, eqb-true}
use Rattle.std.proofs.lemmas.Option.{same_Some}
use Rattle.std.proofs.lemmas.List.Elements.{All-nil, All-cons, All-head, All-tail}
use Rattle.plc_base.specs.declared.address.Eui.{Eui}
use Rattle.plc_base.specs.declared.key.Key.{Key}
use Rattle.plc_base.specs.Grant.{Granted}
use Rattle.group_keys.specs.KeyBook as books
use Rattle.line_rules.specs.Agreement.{HasKey, NodeHasKey, NeverStood, IsKicked, NeverAllowed, is_kick_of, is_allow_of}
use Rattle.line_events.specs.Events.{IsEui}
use Rattle.line_rules.specs.Further.{line_step}
use Rattle.line_rules.specs.Runs.{Entry, NoneForged}
use Rattle.line_rules.specs.SafeRuns.{IsIssued, HoldsIssued, HasIssuedKeys}
use Rattle.line_rules.specs.Worlds.{World, Issued, node_at, start}
use Rattle.line_events.specs.declared.event.Event.{Event}
use Rattle.line_events.specs.declared.event.Event.TheVariants as events
use Rattle.node_rules.specs.Ciphers.{Ciphers, network}
use Rattle.node_rules.specs.Memory.{Memory, Role, Coordinator, Meter, Node}
use Rattle.line_laws.specs.Kicked.{EveryKickedMeterStaysOut, EveryShutOutMeterStaysOut, IsShutOut}
use Rattle.line_laws.specs.LineAccounts.{ShutIn}
use Rattle.line_laws.specs.Owed.{KeepsRanges}
use Rattle.line_laws.proofs.FurtherAgrees.{line_keys_other, line_keys_stood, line_names}
use Rattle.line_laws.proofs.FurtherGrowth.{line_steps_shut}
use Rattle.line_laws.proofs.FurtherOctets.{every_flight}
use Rattle.line_laws.proofs.FurtherRestarts.{line_kicks_shut}
use Rattle.line_laws.proofs.Homes.{at_length}
use Rattle.line_laws.proofs.IssueRuns.{start_keyed, world_holds}
use Rattle.line_laws.proofs.IssueWords.{Each, each_append, each_weaker}
use Rattle.line_laws.proofs.IssueWorlds.{Keyed, IsMeter}
use Rattle.line_laws.proofs.IssuedNamed.{StepNamed}
use Rattle.line_laws.proofs.KeysStood.{IssuedBy, StoodIn, ToOther}
use Rattle.line_laws.proofs.LineRuns.{AreLawful, Lawful, Stood, books_on, keyed_on, lawful, on}
use Rattle.line_laws.proofs.StorableGrants.{network_ranges}
use Rattle.line_laws.proofs.EveryRun.{start_ok}
use Rattle.line_laws.proofs.ShutSteps.{ShutAt}
use Rattle.line_laws.proofs.Worlds.{WorldOk, at_place, within as place_within}

abbrev IsNamed : Issued → Type 0
IsNamed i = IsEui i.eui

abbrev IsHonest : Entry → Type 0
IsHonest x = x.trace.happenings.forged ≡ false

each_place : (P : Issued → Type 0) (xs : List Issued) (place : ℕ) (i : Issued) → slice_get xs place ≡ Some i → Each P xs → P i
each_place P [] place i e h = absurd (cc)
each_place P (x ∷ xs) zero i e h = subst P (same_Some _ _ e) h.0
each_place P (x ∷ xs) (suc place) i e h = each_place P xs place i e h.1

-- What holds of a world in a run without a forged event, with what was issued up to then.
record Now (w : World) (given : List Issued) : Type 0 where
  ok : WorldOk w
  keyed : Keyed w given
  named : Each IsNamed given

-- # Who holds a key

-- no key that was issued to a meter is this one
abbrev NotTo : Key → Eui → Issued → Type 0
NotTo key eui i = i.eui ≡ eui → i.key ≡ key → ⊥

-- no key that was issued to anyone is this one
abbrev NotThis : Key → Issued → Type 0
NotThis key i = i.key ≡ key → ⊥

module _ (w : World) (given : List Issued) (now : Now w given) (key : Key) where
  not_issued : (eui : Eui) → Each (NotTo key eui) given → (index : ℕ) (o : Option Key) → IsIssued given eui index o → o ≡ Some key → ⊥
  not_issued eui none index None h e = absurd (cc)
  not_issued eui none index (Some k) h e =
      each_place (NotTo key eui) given h.place (record { eui = eui; index = index; key = k }) h.is none refl (same_Some _ _ e)

  meter_holds_none : (number : ℕ) (y : Node) → number ≢ 0 → node_at w number ≡ Some y → Each (NotTo key y.eui) given → HasKey y.memory key → ⊥
  meter_holds_none number y ne there none = by_role y.role y.memory (now.keyed.roles number y ne there)
      (at_place (λ (x : Node). HasIssuedKeys given x.eui x.role x.memory) w.nodes number y there (world_holds w given now.ok now.keyed now.named))
    where
      by_ring : (r : Option Granted) → IfSome r (λ g. HoldsIssued given y.eui g) → (m : Memory) → m.station.ring ≡ r → HasKey (Some m) key → ⊥
      by_ring None h m e has = absurd (rw e at has)
      by_ring (Some g) h m e has = ⊎_elim (λ (a : g.key0 ≡ Some key). not_issued y.eui none 0 g.key0 h.0 a)
          (λ (b : g.key1 ≡ Some key). not_issued y.eui none 1 g.key1 h.1 b) (rw e at has)

      by_role : (role : Role) (o : Option Memory) → IsMeter role → HasIssuedKeys given y.eui role o → HasKey o key → ⊥
      by_role Coordinator o is h has = absurd is
      by_role (Meter psk) None is h has = absurd has
      by_role (Meter psk) (Some m) is h has = by_ring m.station.ring h m refl has

  holds_none : (number : ℕ) → number ≢ 0 → ((y : Node) → node_at w number ≡ Some y → Each (NotTo key y.eui) given) → NodeHasKey w number key → ⊥
  holds_none number ne none has = by_node (node_at w number) refl
    where
      by_node : (o : Option Node) → node_at w number ≡ o → ⊥
      by_node None e = absurd (rw e at has)
      by_node (Some y) e = meter_holds_none number y ne e (none y e) (rw e at has)

  -- a key that was issued to nobody, and does not stand at the coordinator
  nobody_holds : (number : ℕ) → (NodeHasKey w 0 key → ⊥) → Each (NotThis key) given → NodeHasKey w number key → ⊥
  nobody_holds number first none has = ⊎_elim
      (λ (e : number ≡ 0). first (subst (λ n. NodeHasKey w n key) e has))
      (λ (ne : number ≢ 0). holds_none number ne (λ y there. each_weaker (NotThis key) (NotTo key y.eui) (λ i h same k. h k) given none) has)
      (cases_eq number 0)

-- # One event

module _ (ciphers : Ciphers) (fits : KeepsRanges ciphers) (key : Key) (w : World) (given : List Issued) (now : Now w given) (x : Entry)
    (l : Lawful ciphers w x) where
  abbrev s : Stood w
  s = l.before

  next : IsHonest x → Now x.after (given ++ x.trace.issued)
  next honest = record {
    ok = l.after.ok;
    keyed = keyed_on ciphers fits w x l given now.keyed honest;
    named = each_append IsNamed given x.trace.issued now.named
        (subst StepNamed l.step (line_names ciphers fits w s.ok s.flown s.logs x.event l.says));
  }

  first_is : (n : ℕ) (y : Node) → node_at w n ≡ Some y → y.role ≡ Coordinator → n ≡ 0
  first_is n y there role = ⊎_elim (λ (e : n ≡ 0). e) (λ (ne : n ≢ 0). absurd (no_meter (subst IsMeter role (now.keyed.roles n y ne there)))) (cases_eq n 0)
    where
      no_meter : IsMeter Coordinator → ⊥
      no_meter h = h

  -- where the key does not stand at the coordinator, it is issued to nobody
  issues_none : (NodeHasKey w 0 key → ⊥) → Each (NotThis key) x.trace.issued
  issues_none absent =
      let P : Issued → Type 0 = StoodIn ciphers fits w s.ok s.flown first_is in
      let stood : Each P x.trace.issued = subst (IssuedBy ciphers fits w s.ok s.flown first_is P) l.step
      (line_keys_stood ciphers fits w s.ok s.flown s.logs first_is x.event l.says) in
      each_weaker P (NotThis key) (λ i h e. absent (subst (NodeHasKey w 0) e h)) x.trace.issued stood

  -- to a meter that is shut out nothing is issued
  issues_other : (eui : Eui) → ShutAt eui w → w.running ≡ true → Each (NotTo key eui) x.trace.issued
  issues_other eui shut running =
      let P : Issued → Type 0 = ToOther ciphers fits w s.ok s.flown first_is eui shut running in
      let other : Each P x.trace.issued = subst (IssuedBy ciphers fits w s.ok s.flown first_is P) l.step
      (line_keys_other ciphers fits w s.ok s.flown s.logs first_is eui shut running x.event l.says) in
      each_weaker P (NotTo key eui) (λ i h e same. h (ap books.eui_number e)) x.trace.issued other

  -- nodes stay, with their EUIs
  eui_stays : (number : ℕ) (z y : Node) → node_at w number ≡ Some z → node_at x.after number ≡ Some y → y.eui ≡ z.eui
  eui_stays number z y there later =
      let inside = place_within w.nodes number z there in
      let old = (books_on ciphers fits w x l given now.keyed (omega arith)).euis number y inside later in
      sym old.2 ∙ ap (λ (n : Node). n.eui) (same_Some _ _ (sym old.1 ∙ there))

-- # After the kick

-- The meter is shut out, and the key was not issued to it.
record IsOut (number : ℕ) (key : Key) (w : World) (given : List Issued) : Type 0 where
  now : Now w given
  meter : Node
  there : node_at w number ≡ Some meter
  shut : ShutAt meter.eui w
  running : w.running ≡ true
  none : Each (NotTo key meter.eui) given

out_holds_none : (number : ℕ) (key : Key) (w : World) (given : List Issued) → number ≢ 0 → IsOut number key w given → NodeHasKey w number key → ⊥
out_holds_none number key w given ne out =
    holds_none w given out.now key number ne (λ y there. subst (λ (z : Node). Each (NotTo key z.eui) given) (same_Some _ _ (sym out.there ∙ there)) out.none)

abbrev HoldsNot : ℕ → Key → Entry → Type 0
HoldsNot number key x = NodeHasKey x.after number key → ⊥

module _ (ciphers : Ciphers) (fits : KeepsRanges ciphers) (number : ℕ) (key : Key) where
  out_on : (w : World) (given : List Issued) (x : Entry) → number ≢ 0 → IsOut number key w given → Lawful ciphers w x → IsHonest x
      → is_allow_of number x.event ≡ false → IsOut number key x.after (given ++ x.trace.issued)
  out_on w given x ne out l honest other =
      let s = l.before in
      let goes = on ciphers fits w x l in
      let inside = place_within w.nodes number out.meter out.there in
      let longer = goes.nodes in
      let y = at_length x.after.nodes number (omega arith) in
      let same : y.one.eui ≡ out.meter.eui = eui_stays ciphers fits key w given out.now x l number out.meter y.one out.there y.is in
      let shut : ShutAt out.meter.eui x.after = subst (ShutIn out.meter.eui) l.step
      (line_steps_shut out.meter.eui ciphers fits w s.ok s.flown s.logs out.shut x.event number out.meter l.says other out.running out.there refl
      out.now.keyed.apart) in
      record {
        now = next ciphers fits key w given out.now x l honest;
        meter = y.one;
        there = y.is;
        shut = subst (λ (u : Eui). ShutAt u x.after) (sym same) shut;
        running = goes.running out.running;
        none = subst (λ (u : Eui). Each (NotTo key u) (given ++ x.trace.issued)) (sym same)
            (each_append (NotTo key out.meter.eui) given x.trace.issued out.none (issues_other ciphers fits key w given out.now x l out.meter.eui out.shut
            out.running));
      }

  stays_out : (w : World) (given : List Issued) → number ≢ 0 → IsOut number key w given → (after rest : List Entry) → AreLawful ciphers w (after ++ rest)
      → NoneForged after → NeverAllowed number after → All (HoldsNot number key) after
  stays_out w given ne out [] rest l honest other = All-nil (HoldsNot number key)
  stays_out w given ne out (x ∷ xs) rest l honest other =
      let o = out_on w given x ne out l.0 (All-head IsHonest x xs honest) (All-head (λ (y : Entry). is_allow_of number y.event ≡ false) x xs other) in
      All-cons (HoldsNot number key) x xs (out_holds_none number key x.after (given ++ x.trace.issued) ne o)
      (stays_out x.after (given ++ x.trace.issued) ne o xs rest l.1 (All-tail IsHonest x xs honest)
      (All-tail (λ (y : Entry). is_allow_of number y.event ≡ false) x xs other))

  -- # The kick, and before it

  kick_of : (event : Event) → is_kick_of number event ≡ true → event ≡ events.Kick number
  kick_of (events.Kick node) e = ap events.Kick (eqb-true _ _ e)
  kick_of _ e = absurd (cc)

  kicks_out : (w : World) (given : List Issued) (k : Entry) → Now w given → Lawful ciphers w k → IsHonest k → IsKicked number k
      → Each (NotThis key) (given ++ k.trace.issued) → (number ≢ 0) × (IsOut number key k.after (given ++ k.trace.issued))
  kicks_out w given k now l honest kicked none =
      let later = next ciphers fits key w given now k l honest in
      let kind = kick_of k.event kicked.event in
      let o = line_kicks_shut ciphers w now.ok number k.after k.trace (ap (line_step ciphers w) (sym kind) ∙ l.step) kicked.answer later.ok in
      let goes = on ciphers fits w k l in
      let inside = place_within w.nodes number o.1.0 o.1.1 in
      let longer = goes.nodes in
      let y = at_length k.after.nodes number (omega arith) in
      let same : y.one.eui ≡ o.1.0.eui = eui_stays ciphers fits key w given now k l number o.1.0 y.one o.1.1 y.is in (
        o.0,
        record {
          now = later;
          meter = y.one;
          there = y.is;
          shut = subst (λ (u : Eui). ShutAt u k.after) (sym same) o.1.2;
          running = o.1.3;
          none = each_weaker (NotThis key) (NotTo key y.one.eui) (λ i h e. h) (given ++ k.trace.issued) none;
        },
      )

  out_from : (w : World) (given : List Issued) → Now w given → (NodeHasKey w 0 key → ⊥) → Each (NotThis key) given
      → (before after rest : List Entry) (k : Entry) → AreLawful ciphers w (before ++ k ∷ after ++ rest)
      → NoneForged (before ++ k ∷ after) → IsKicked number k → NeverAllowed number after → NeverStood key (before ++ k ∷ [])
      → All (HoldsNot number key) (before ++ k ∷ after)
  out_from w given now absent none [] after rest k l honest kicked other never =
      let true_is = All-head IsHonest k after honest in
      let all = each_append (NotThis key) given k.trace.issued none (issues_none ciphers fits key w given now k l.0 absent) in
      let o = kicks_out w given k now l.0 true_is kicked all in
      All-cons (HoldsNot number key) k after (out_holds_none number key k.after (given ++ k.trace.issued) o.0 o.1)
      (stays_out k.after (given ++ k.trace.issued) o.0 o.1 after rest l.1 (All-tail IsHonest k after honest) other)
  out_from w given now absent none (x ∷ xs) after rest k l honest kicked other never =
      let later = next ciphers fits key w given now x l.0 (All-head IsHonest x (xs ++ k ∷ after) honest) in
      let all = each_append (NotThis key) given x.trace.issued none (issues_none ciphers fits key w given now x l.0 absent) in
      let gone = All-head (HoldsNot 0 key) x (xs ++ k ∷ []) never in
      All-cons (HoldsNot number key) x (xs ++ k ∷ after) (nobody_holds x.after (given ++ x.trace.issued) later key number gone all)
      (out_from x.after (given ++ x.trace.issued) later gone all xs after rest k l.1 (All-tail IsHonest x (xs ++ k ∷ after) honest) kicked other
      (All-tail (HoldsNot 0 key) x (xs ++ k ∷ []) never))

  -- # Shut out by the book

  abbrev IsOutAfter : Entry → Type 0
  IsOutAfter x = IsShutOut number x.after

  -- the meter of a world in which it is shut out, where it has none of the keys that were issued
  out_of : (w : World) (given : List Issued) → Now w given → (o : IsShutOut number w) → Each (NotTo key o.meter.eui) given → IsOut number key w given
  out_of w given now o none = record { now = now; meter = o.meter; there = o.there; shut = o.book; running = o.running; none = none }

  -- an event after which it is still shut out
  shut_on : (w : World) (given : List Issued) (x : Entry) → IsOut number key w given → Lawful ciphers w x → IsHonest x → IsShutOut number x.after
      → IsOut number key x.after (given ++ x.trace.issued)
  shut_on w given x out l honest o =
      let same = eui_stays ciphers fits key w given out.now x l number out.meter o.meter out.there o.there in
      out_of x.after (given ++ x.trace.issued) (next ciphers fits key w given out.now x l honest) o
      (subst (λ (u : Eui). Each (NotTo key u) (given ++ x.trace.issued)) (sym same)
      (each_append (NotTo key out.meter.eui) given x.trace.issued out.none (issues_other ciphers fits key w given out.now x l out.meter.eui out.shut
      out.running)))

  stays_shut : (w : World) (given : List Issued) → number ≢ 0 → IsOut number key w given → (after rest : List Entry) → AreLawful ciphers w (after ++ rest)
      → NoneForged after → All IsOutAfter after → All (HoldsNot number key) after
  stays_shut w given ne out [] rest l honest shut = All-nil (HoldsNot number key)
  stays_shut w given ne out (x ∷ xs) rest l honest shut =
      let o = shut_on w given x out l.0 (All-head IsHonest x xs honest) (All-head IsOutAfter x xs shut) in
      All-cons (HoldsNot number key) x xs (out_holds_none number key x.after (given ++ x.trace.issued) ne o)
      (stays_shut x.after (given ++ x.trace.issued) ne o xs rest l.1 (All-tail IsHonest x xs honest) (All-tail IsOutAfter x xs shut))

  shut_from : (w : World) (given : List Issued) → Now w given → (NodeHasKey w 0 key → ⊥) → Each (NotThis key) given
      → (before after rest : List Entry) (k : Entry) → AreLawful ciphers w (before ++ k ∷ after ++ rest)
      → NoneForged (before ++ k ∷ after) → IsShutOut number k.after → All IsOutAfter after → NeverStood key (before ++ k ∷ [])
      → All (HoldsNot number key) (before ++ k ∷ after)
  shut_from w given now absent none [] after rest k l honest out shut never =
      let all = each_append (NotThis key) given k.trace.issued none (issues_none ciphers fits key w given now k l.0 absent) in
      let later = next ciphers fits key w given now k l.0 (All-head IsHonest k after honest) in
      let o = out_of k.after (given ++ k.trace.issued) later out
      (each_weaker (NotThis key) (NotTo key out.meter.eui) (λ i h e. h) (given ++ k.trace.issued) all) in
      All-cons (HoldsNot number key) k after (out_holds_none number key k.after (given ++ k.trace.issued) out.other o)
      (stays_shut k.after (given ++ k.trace.issued) out.other o after rest l.1 (All-tail IsHonest k after honest) shut)
  shut_from w given now absent none (x ∷ xs) after rest k l honest out shut never =
      let later = next ciphers fits key w given now x l.0 (All-head IsHonest x (xs ++ k ∷ after) honest) in
      let all = each_append (NotThis key) given x.trace.issued none (issues_none ciphers fits key w given now x l.0 absent) in
      let gone = All-head (HoldsNot 0 key) x (xs ++ k ∷ []) never in
      All-cons (HoldsNot number key) x (xs ++ k ∷ after) (nobody_holds x.after (given ++ x.trace.issued) later key number gone all)
      (shut_from x.after (given ++ x.trace.issued) later gone all xs after rest k l.1 (All-tail IsHonest x (xs ++ k ∷ after) honest) out shut
      (All-tail (HoldsNot 0 key) x (xs ++ k ∷ []) never))

-- # Every run

start_now : Now start []
start_now = record { ok = start_ok; keyed = start_keyed; named = tt }

pub every_kick : EveryKickedMeterStaysOut
every_kick entries r number before after rest k key split honest kicked other never =
    out_from network network_ranges number key start [] start_now (λ h. h) tt before after rest k
    (subst (AreLawful network start) split (lawful network network_ranges entries r (every_flight entries r))) honest kicked other never

pub every_shut_out : EveryShutOutMeterStaysOut
every_shut_out entries r number before after rest k key split honest out shut never =
    shut_from network network_ranges number key start [] start_now (λ h. h) tt before after rest k
    (subst (AreLawful network start) split (lawful network network_ranges entries r (every_flight entries r))) honest out shut never
