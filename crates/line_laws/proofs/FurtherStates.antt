-- Runs of the network with further reach before the first forged event: what each event keeps holds along them.
use Rattle.std.proofs.Common.{⊎_elim, ◌≡◌, ◌≢◌, ℕ, false, List, [], ◌∷◌, ◌++◌, Some, Ok, sym, subst}
use Rattle.std.specs.Prelude.{IfSome}
use Rattle.std.proofs.lemmas.Bool.{cases_eq}
use Rattle.std.proofs.lemmas.List.Elements.{All-head, All-tail}
use Rattle.node_rules.specs.Ciphers.{network}
use Rattle.node_rules.specs.Memory.{Node, Coordinator}
use Rattle.line_rules.specs.Agreement.{NodeHasKey}
use Rattle.line_events.specs.Events.{AreEvents, IsEvent}
use Rattle.line_rules.specs.Further.{line_step}
use Rattle.line_rules.specs.Logs.{LogsKept}
use Rattle.line_rules.specs.Runs.{Entry, IsRun, events_of, issued, one_of, takings}
use Rattle.line_rules.specs.Worlds.{World, Issued, Pairing, node_at, start}
use Rattle.line_laws.specs.Agreed.{Confirmed}
use Rattle.line_laws.specs.FurtherLines.{LogsHold, StepHolds}
use Rattle.line_laws.specs.FurtherState.{EveryIssuedKeyStood, EveryRunIsRanged, IssuedStood, StayRanged}
use Rattle.line_laws.specs.IssuedRight.{AreIssuedRight, EveryKeyIsIssuedRight, IsIssuedRight}
use Rattle.line_laws.specs.Keyed.{Among, Each, IsMeter, Keyed}
use Rattle.line_laws.specs.Lines.{WorldOk}
use Rattle.line_laws.specs.Ranges.{WorldRanged}
use Rattle.line_laws.proofs.AgreeRuns.{Agreed_in, agreed}
use Rattle.line_laws.proofs.FurtherAgrees.{line_agrees, line_keys_right, line_keys_stood, line_names}
use Rattle.line_laws.proofs.FurtherKeyed.{line_keyed}
use Rattle.line_laws.proofs.FurtherLogs.{line_logs_hold}
use Rattle.line_laws.proofs.FurtherOctets.{line_speaks, octets_speak, Octets, Spelled}
use Rattle.line_laws.proofs.FurtherRanges.{LineRangedIn, line_ranged}
use Rattle.line_laws.proofs.FurtherSteps.{line_steps_hold}
use Rattle.line_laws.proofs.FurtherStepKinds.{line_step_is}
use Rattle.line_laws.proofs.IssueRuns.{IsNamed, Kept, all_of_one, kept, start_keyed}
use Rattle.line_laws.proofs.IssueWords.{each_append}
use Rattle.line_laws.proofs.IssuedNamed.{StepNamed}
use Rattle.line_laws.proofs.KeysStood.{IssuedBy}
use Rattle.line_laws.proofs.OctetRuns.{SpeaksIn, WorldSpeaks, start_speaks}
use Rattle.line_laws.proofs.RangeRuns.{start_ranged}
use Rattle.line_laws.proofs.StorableGrants.{network_ranges}
use Rattle.line_laws.proofs.EveryRun.{start_ok}

-- What holds of a world that was reached, forged or not.
pub record Stands (w : World) : Type 0 where
  pub ok : WorldOk w
  pub speaks : WorldSpeaks w
  pub logs : LogsKept w

-- What holds of one that was reached with no event forged.
pub record Sound (w : World) (before : List Entry) : Type 0 where
  pub stands : Stands w
  pub ranged : WorldRanged w
  pub keyed : Keyed w (issued before)
  pub named : Each IsNamed (issued before)
  pub confirmed : Confirmed w (takings before)

-- the coordinator is the first node
pub first_node : (w : World) (given : List Issued) → Keyed w given → (n : ℕ) (x : Node) → node_at w n ≡ Some x → x.role ≡ Coordinator → n ≡ 0
first_node w given k n x there role = ⊎_elim (λ (e : n ≡ 0). e) (λ (ne : n ≢ 0). let none : ⊥ = subst IsMeter role (k.roles n x ne there) in absurd none)
    (cases_eq n 0)

abbrev pub LeadsTo : World → Entry → Type 0
LeadsTo w x = line_step network w x.event ≡ Ok (x.after, x.trace)

-- # One event

module _ (w : World) (h : Stands w) (x : Entry) (event : IsEvent x.event) (is : LeadsTo w x) where
  pub stands_on : Stands x.after
  stands_on =
      let held = subst (StepHolds w) is (line_steps_hold network network_ranges w h.ok h.speaks.flights h.logs x.event event) in
      record {
        ok = held.0.0;
        speaks = subst (SpeaksIn w h.ok h.speaks) is (line_speaks w h.ok h.speaks h.logs x.event (line_step network w x.event)
            (line_step_is Octets Spelled network network_ranges w h.ok h.speaks.flights h.logs (octets_speak w h.ok h.speaks h.logs) x.event event));
        logs = subst LogsHold is (line_logs_hold network network_ranges w h.ok h.speaks.flights h.logs x.event event);
      }

  names_here : Each IsNamed x.trace.issued
  names_here = subst StepNamed is (line_names network network_ranges w h.ok h.speaks.flights h.logs x.event event)

  module _ (given : List Issued) (k : Keyed w given) where
    pub stood_here : Each (λ (i : Issued). NodeHasKey w 0 i.key) x.trace.issued
    stood_here = subst (IssuedBy network network_ranges w h.ok h.speaks.flights (first_node w given k) (λ i. NodeHasKey w 0 i.key)) is
        (line_keys_stood network network_ranges w h.ok h.speaks.flights h.logs (first_node w given k) x.event event)

    pub right_here : Each (IsIssuedRight w x.event) x.trace.issued
    right_here = subst (IssuedBy network network_ranges w h.ok h.speaks.flights (first_node w given k) (IsIssuedRight w x.event)) is
        (line_keys_right network network_ranges w h.ok h.speaks.flights h.logs (first_node w given k) x.event event)

module _ (w : World) (before : List Entry) (o : Sound w before) (x : Entry) (event : IsEvent x.event) (is : LeadsTo w x)
    (honest : x.trace.happenings.forged ≡ false) where
  abbrev h : Stands w
  h = o.stands

  keyed_on : Keyed x.after (issued (before ++ x ∷ []))
  keyed_on =
      let next : Keyed x.after (issued before ++ x.trace.issued) =
      subst (Kept (issued before)) is (kept w (issued before) _ (line_keyed network network_ranges w h.ok h.speaks.flights (issued before) o.keyed h.logs
      x.event event)) honest in
      subst (Keyed x.after) (sym (all_of_one (λ d. d.issued) before x)) next

  agreed_on : Confirmed x.after (takings before ++ one_of x.trace.taken) × IfSome x.trace.done (λ (p : Pairing). Among p (takings before))
  agreed_on = subst (Agreed_in (takings before)) is
      (agreed w (takings before) _ (line_agrees network network_ranges w h.ok h.speaks.flights (issued before) o.keyed (takings before) o.confirmed h.logs
      x.event event)) honest

  pub sound_on : Sound x.after (before ++ x ∷ [])
  sound_on = record {
    stands = stands_on w h x event is;
    ranged = subst (LineRangedIn w h.ok h.speaks o.ranged) is (line_ranged w h.ok h.speaks o.ranged h.logs x.event event) honest;
    keyed = keyed_on;
    named = subst (Each IsNamed) (sym (all_of_one (λ d. d.issued) before x))
        (each_append IsNamed (issued before) x.trace.issued o.named (names_here w h x event is));
    confirmed = subst (Confirmed x.after) (sym (all_of_one (λ d. one_of d.taken) before x)) agreed_on.0;
  }

-- # Runs

pub start_sound : Sound start []
start_sound = record {
  stands = record { ok = start_ok; speaks = start_speaks; logs = tt };
  ranged = start_ranged;
  keyed = start_keyed;
  named = tt;
  confirmed = tt;
}

ranged_from : (w : World) (before : List Entry) → Sound w before → (entries : List Entry) → AreEvents (events_of entries) → IsRun network w entries
    → StayRanged entries
ranged_from w before o [] says run = tt
ranged_from w before o (x ∷ xs) says run = λ honest.
    let next = sound_on w before o x (All-head IsEvent x.event (events_of xs) says) run.2 honest in
    (next.ranged, ranged_from x.after (before ++ x ∷ []) next xs (All-tail IsEvent x.event (events_of xs) says) run.3)

stood_from : (w : World) (before : List Entry) → Sound w before → (entries : List Entry) → AreEvents (events_of entries) → IsRun network w entries
    → IssuedStood w entries
stood_from w before o [] says run = tt
stood_from w before o (x ∷ xs) says run =
    let event = All-head IsEvent x.event (events_of xs) says in (
      stood_here w o.stands x event run.2 (issued before) o.keyed,
      λ honest. stood_from x.after (before ++ x ∷ []) (sound_on w before o x event run.2 honest) xs (All-tail IsEvent x.event (events_of xs) says) run.3,
    )

right_from : (w : World) (before : List Entry) → Sound w before → (entries : List Entry) → AreEvents (events_of entries) → IsRun network w entries
    → AreIssuedRight w entries
right_from w before o [] says run = tt
right_from w before o (x ∷ xs) says run =
    let event = All-head IsEvent x.event (events_of xs) says in (
      right_here w o.stands x event run.2 (issued before) o.keyed,
      λ honest. right_from x.after (before ++ x ∷ []) (sound_on w before o x event run.2 honest) xs (All-tail IsEvent x.event (events_of xs) says) run.3,
    )

pub every_run_ranged : EveryRunIsRanged
every_run_ranged entries r = ranged_from start [] start_sound entries r.events r.run

pub every_issued_stood : EveryIssuedKeyStood
every_issued_stood entries r = stood_from start [] start_sound entries r.events r.run

pub every_issued_right : EveryKeyIsIssuedRight
every_issued_right entries r = right_from start [] start_sound entries r.events r.run
