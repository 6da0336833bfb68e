-- What is heard where checks are on.
use Rattle.std.proofs.Common.{◌≡◌, ℕ, Bool, true, false, List, Option, Some, None, Result, Ok, Err, refl, ap, sym, ◌∙◌}
use Rattle.std.specs.Prelude.{is_ok}
use Rattle.plc_base.specs.declared.key.Key.{Key}
use Rattle.loadng_messages.specs.declared.message.Message.{Message}
use Rattle.loadng_messages.specs.declared.message.Message.TheVariants.{Rreq, Rrep, Rerr}
use Rattle.neighbour_checks.specs.Neighbours.{is_listed}
use Rattle.node_rules.specs.Accepted.{Accepted}
use Rattle.node_rules.specs.declared.heard.Path.{Path}
use Rattle.node_rules.specs.declared.heard.Path.TheVariants as paths
use Rattle.node_rules.specs.declared.refusal.Dropped.{Dropped}
use Rattle.node_rules.specs.declared.refusal.Dropped.TheVariants as drops
use Rattle.node_rules.specs.Frames.{Sent}
use Rattle.node_rules.specs.Plans.{Plan, resting, within}
use Rattle.node_rules.specs.Drafts.{StationPlace, choose}
use Rattle.node_rules.specs.Replies.{reply_among}
use Rattle.node_rules.specs.Laws.{RefusesCleanly, ChangesNothing}
use Rattle.reach_rules.specs.declared.heard.CommandHeard.{CommandHeard}
use Rattle.reach_rules.specs.declared.refusal.ReachDropped.{ReachDropped}
use Rattle.reach_rules.specs.declared.refusal.ReachDropped.TheVariants.{Known, Blacklisted}
use Rattle.reach_rules.specs.ReachingNodes.{Reaching, ReachHeard, Commanding, with_memory, with_checks, drop_it, known_answer, known_plan, command_answer}
use Rattle.reach_rules.specs.CheckedReplies.{message_of, is_unbelieved, acknowledged_to, acknowledged, checks_after, with_check}
use Rattle.reach_rules.specs.FurtherReceptions.{NeighbourCommand, command_of, hear_command, hear_by}
use Rattle.reach_rules.specs.Laws.{FramesRefuseCleanly, RepliesAreAcknowledged, ListedAreNotBelieved, IsAcknowledged}
use Rattle.reach_rules.proofs.Commands.{commands_cleanly}

module _ {M H : Type 0} (h : StationPlace M) (x : Reaching M) (now : ℕ) where
  -- # Acknowledging changes no answer

  chosen_answer : (t : Bool) (q p : Plan M (Result H Dropped)) → q.answer ≡ p.answer → (choose t q p).answer ≡ p.answer
  unfolding choose
  chosen_answer true q p e = e
  chosen_answer false q p e = refl

  chosen_failed : (t : Bool) (q p : Plan M (Result H Dropped)) → q.failed ≡ p.failed → (choose t q p).failed ≡ p.failed
  unfolding choose
  chosen_failed true q p e = e
  chosen_failed false q p e = refl

  to_answer : (from : ℕ) (message : Option Message) (p : Plan M (Result H Dropped)) → (acknowledged_to h from message p).answer ≡ p.answer
  to_answer from None p = refl
  to_answer from (Some (Rreq number cost origin dest)) p = refl
  to_answer from (Some (Rrep number cost origin to)) p = refl
  to_answer from (Some (Rerr lost to)) p = refl

  to_failed : (from : ℕ) (message : Option Message) (p : Plan M (Result H Dropped)) → (acknowledged_to h from message p).failed ≡ p.failed
  to_failed from None p = refl
  to_failed from (Some (Rreq number cost origin dest)) p = refl
  to_failed from (Some (Rrep number cost origin to)) p = refl
  to_failed from (Some (Rerr lost to)) p = refl

  same_answer : (path : Path) (message : Option Message) (p : Plan M (Result H Dropped)) → (acknowledged h path message p).answer ≡ p.answer
  same_answer (paths.Sealed from true key) message p = refl
  same_answer (paths.Sealed from false key) message p = chosen_answer (is_ok p.answer) _ p (to_answer from message p)
  same_answer (paths.Up from) message p = refl
  same_answer (paths.Down from) message p = refl

  same_failed : (path : Path) (message : Option Message) (p : Plan M (Result H Dropped)) → (acknowledged h path message p).failed ≡ p.failed
  same_failed (paths.Sealed from true key) message p = refl
  same_failed (paths.Sealed from false key) message p = chosen_failed (is_ok p.answer) _ p (to_failed from message p)
  same_failed (paths.Up from) message p = refl
  same_failed (paths.Down from) message p = refl

  -- what is dropped is not acknowledged
  not_acknowledged : (path : Path) (message : Option Message) (p : Plan M (Result H Dropped)) → is_ok p.answer ≡ false → acknowledged h path message p ≡ p
  unfolding choose
  not_acknowledged (paths.Sealed from true key) message p e = refl
  not_acknowledged (paths.Sealed from false key) message p e = ap (λ t. choose t (acknowledged_to h from message p) p) e
  not_acknowledged (paths.Up from) message p e = refl
  not_acknowledged (paths.Down from) message p e = refl

  -- # Refusals

  known_refusal : (a : Result H Dropped) (reason : ReachDropped) → known_answer a ≡ Err reason → is_ok a ≡ false
  known_refusal (Ok heard) reason e = absurd (cc)
  known_refusal (Err word) reason e = refl

  clean_of : (p : Plan M (Result H Dropped)) → RefusesCleanly drops.Store x.memory p → (a : Result H Dropped) → p.answer ≡ a → (reason : ReachDropped)
      → known_answer a ≡ Err reason → ChangesNothing x.memory p
  clean_of p c (Ok heard) is reason e = absurd (cc)
  clean_of p c (Err word) is reason e = c.1 word is

  known_clean : (p : Plan M (Result H Dropped)) → RefusesCleanly drops.Store x.memory p → RefusesCleanly (Known drops.Store) x (known_plan x p)
  known_clean p c = (
    ap known_answer c.0,
    λ reason e.
        let n = clean_of p c p.answer refl reason e in
        record { puts = n.puts; memory = ap (with_memory x) n.memory; frames = n.frames; made = n.made; opened = n.opened },
  )

  checked_clean : (path : Path) (message : Option Message) (p : Plan M (Result H Dropped)) → RefusesCleanly drops.Store x.memory p
      → RefusesCleanly (Known drops.Store) x (with_check (reply_among p.frames) now (known_plan x (acknowledged h path message p)))
  checked_clean path message p c = (
    ap known_answer (same_failed path message p ∙ c.0),
    λ reason e.
        let refused : known_answer p.answer ≡ Err reason = sym (ap known_answer (same_answer path message p)) ∙ e in
        let n = clean_of p c p.answer refl reason refused in
        let same : acknowledged h path message p ≡ p = not_acknowledged path message p (known_refusal p.answer reason refused) in
        record {
          puts = ap (λ (q : Plan M (Result H Dropped)). q.puts) same ∙ n.puts;
          memory =
              ap (λ (frames : List Sent). with_checks (checks_after x.beside.checks (reply_among frames) now)
              (with_memory x (acknowledged h path message p).memory)) n.frames
              ∙ ap (with_memory x) (ap (λ (q : Plan M (Result H Dropped)). q.memory) same ∙ n.memory);
          frames = ap (λ (q : Plan M (Result H Dropped)). q.frames) same ∙ n.frames;
          made = ap (λ (q : Plan M (Result H Dropped)). q.made) same ∙ n.made;
          opened = ap (λ (q : Plan M (Result H Dropped)). q.opened) same ∙ n.opened;
        },
  )

  dropped_clean : (reason : ReachDropped) → RefusesCleanly {H = ReachHeard H} (Known drops.Store) x (drop_it x reason)
  unfolding resting
  dropped_clean reason = (refl, λ why e. record { puts = refl; memory = refl; frames = refl; made = refl; opened = refl })

  chosen_clean : (t : Bool) (q p : Plan (Reaching M) (Result (ReachHeard H) ReachDropped)) → RefusesCleanly (Known drops.Store) x q
      → RefusesCleanly (Known drops.Store) x p → RefusesCleanly (Known drops.Store) x (choose t q p)
  unfolding choose
  chosen_clean true q p a b = a
  chosen_clean false q p a b = b

  command_refusal : (a : Result CommandHeard ReachDropped) (reason : ReachDropped) → command_answer {H = H} a ≡ Err reason → a ≡ Err reason
  command_refusal (Ok heard) reason e = absurd (cc)
  command_refusal (Err word) reason e = cc

  command_clean : (p : Commanding M) → RefusesCleanly (Known drops.Store) x p
      → RefusesCleanly (Known drops.Store) x (within (λ y. y) (command_answer {H = H}) p)
  command_clean p c = (
    ap command_answer c.0,
    λ reason e.
        let n = c.1 reason (command_refusal p.answer reason e) in
        record { puts = n.puts; memory = n.memory; frames = n.frames; made = n.made; opened = n.opened },
  )

  by_command : (checks_on : Bool) (got : Accepted) (p : Plan M (Result H Dropped)) → RefusesCleanly drops.Store x.memory p → (c : Option NeighbourCommand)
      → RefusesCleanly (Known drops.Store) x (hear_by h checks_on x got now p c)
  by_command checks_on got p clean None =
      chosen_clean checks_on _ _
      (chosen_clean (is_unbelieved x.beside.checks got.path (message_of got)) _ _ (dropped_clean Blacklisted) (checked_clean got.path (message_of got) p clean))
      (known_clean p clean)
  by_command checks_on got p clean (Some c) = command_clean (hear_command h x c) (commands_cleanly h x c)

  -- # Replies and requests

  acknowledged_plan : (from number cost origin to : ℕ) (key : Key) (heard : H) (p : Plan M (Result H Dropped)) (path : Path) (message : Option Message)
      → path ≡ paths.Sealed from false key → message ≡ Some (Rrep number cost origin to) → p.answer ≡ Ok heard
      → IsAcknowledged h from number origin p (choose (is_unbelieved x.beside.checks path message) (drop_it x Blacklisted)
      (with_check (reply_among p.frames) now (known_plan x (acknowledged h path message p))))
  unfolding choose
  acknowledged_plan from number cost origin to key heard p path message on is ok =
      let taken : is_ok p.answer ≡ true = ap is_ok ok in
      rw (on, is, taken) (record { answer = refl; puts = refl; memory = refl; frames = refl })

  unbelieved_plan : (from number cost origin dest : ℕ) (key : Key) (p : Plan M (Result H Dropped)) (path : Path) (message : Option Message)
      → path ≡ paths.Sealed from true key → message ≡ Some (Rreq number cost origin dest) → is_listed x.beside.checks from ≡ true
      → choose (is_unbelieved x.beside.checks path message) (drop_it x Blacklisted)
      (with_check (reply_among p.frames) now (known_plan x (acknowledged h path message p))) ≡ drop_it x Blacklisted
  unfolding choose
  unbelieved_plan from number cost origin dest key p path message on is listed = rw (on, is, listed) refl

pub frames_cleanly : {M H : Type 0} → FramesRefuseCleanly M H
frames_cleanly h checks_on x got now p clean = by_command h x now checks_on got p clean (command_of got)

pub replies_acknowledged : {M H : Type 0} → RepliesAreAcknowledged M H
replies_acknowledged h x got now p from number cost origin to key heard on is ok =
    acknowledged_plan h x now from number cost origin to key heard p got.path (message_of got) on is ok

pub listed_unbelieved : {M H : Type 0} → ListedAreNotBelieved M H
listed_unbelieved h x got now p from number cost origin dest key on is listed =
    unbelieved_plan h x now from number cost origin dest key p got.path (message_of got) on is listed
