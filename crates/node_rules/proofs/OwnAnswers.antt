-- What a station answers by its own rules, which hand nothing on unread.
use Rattle.std.proofs.Common.{◌≡◌, ℕ, Bool, true, false, List, Option, Some, None, Result, Ok, Err, subst}
use Rattle.std.specs.Prelude.{if◌then◌else◌}
use Rattle.mesh_header.specs.declared.unit.Mesh.{Mesh as MeshHeader}
use Rattle.mesh_header.specs.declared.unit.Unit.{Unit as MeshUnit}
use Rattle.loadng_messages.specs.declared.message.Message.{Message}
use Rattle.loadng_messages.specs.declared.message.Message.TheVariants.{Rreq, Rrep, Rerr}
use Rattle.routing_set.specs.declared.rank.Rank.{Rank}
use Rattle.fragment_buffers.specs.Reassembly.{Reassembly}
use Rattle.fragment_buffers.specs.PieceIntake as pieces
use Rattle.node_rules.specs.declared.heard.Heard.{Heard}
use Rattle.node_rules.specs.declared.heard.Heard.TheVariants as heard
use Rattle.node_rules.specs.declared.refusal.Dropped.{Dropped}
use Rattle.node_rules.specs.declared.refusal.Dropped.TheVariants.{Store}
use Rattle.node_rules.specs.Memory.{StationMemory, next_hop}
use Rattle.node_rules.specs.Plans.{resting}
use Rattle.node_rules.specs.Drafts.{Draft, alone, refused, sealing, sealed, checked, choose}
use Rattle.node_rules.specs.HearingRules.{Hearing, dropped, hear_request, hear_reply_for, hear_reply, hear_error, forward_by, forward, report_by, gathered}
use Rattle.node_rules.specs.HearingRules.{hear_message, hear_message_in}

-- an answer that hands nothing on unread
abbrev pub IsOwn : Heard → Type 0
IsOwn (heard.Up from note octets) = Unit {0}
IsOwn heard.Held = Unit {0}
IsOwn heard.Relayed = Unit {0}
IsOwn heard.Answered = Unit {0}
IsOwn heard.Learned = Unit {0}
IsOwn heard.Broken = Unit {0}
IsOwn heard.Reported = Unit {0}
IsOwn (heard.Joining way body) = ⊥
IsOwn (heard.Local from all code body) = ⊥

-- a plan that answers so, unless it refuses
pub data Own : Hearing → Type 0 where
  ByAnswer : (p : Hearing) → ((h : Heard) → p.answer ≡ Ok h → IsOwn h) → Own p

same_heard : (g h : Heard) → ◌≡◌ {A = Result Heard Dropped} (Ok g) (Ok h) → g ≡ h
same_heard g h e = cc

module _ (l : StationMemory) where
  pub refused_own : (reason : Dropped) → Own (refused dropped l reason)
  unfolding resting
  refused_own reason = ByAnswer _ (λ h e. absurd (cc))

  checked_own : (fault : Option Dropped) (p : Hearing) → Own p → Own (checked dropped l fault p)
  unfolding checked
  checked_own None p o = o
  checked_own (Some reason) p o = refused_own reason

  sealed_when : (test : Bool) (d : Draft StationMemory) (g : Heard) → IsOwn g
      → Own (if test then refused dropped l dropped.spent else sealing alone dropped d g)
  sealed_when true d g own = refused_own dropped.spent
  sealed_when false d g own = ByAnswer _ (λ h e. subst (λ (k : Heard). IsOwn k) (same_heard g h e) own)

  sealed_own : (d : Draft StationMemory) (g : Heard) → IsOwn g → Own (sealed alone dropped l d g)
  unfolding sealed
  sealed_own d g own = sealed_when _ d g own

  pub resting_own : (g : Heard) → IsOwn g → Own (resting l (Ok g) (Err Store))
  unfolding resting
  resting_own g own = ByAnswer _ (λ h e. subst (λ (k : Heard). IsOwn k) (same_heard g h e) own)

pub choose_own : (test : Bool) (p q : Hearing) → Own p → Own q → Own (choose test p q)
unfolding choose
choose_own true p q a b = a
choose_own false p q a b = b

ruleset words = (refused_own, checked_own, sealed_own, resting_own, choose_own)

module _ (l : StationMemory) where
  request_own : (own by origin dest : ℕ) (rank : Rank) (now : ℕ) → Own (hear_request l own by origin dest rank now)
  request_own own by origin dest rank now = search (words, tt) depth 16

  reply_for_own : (own by origin to : ℕ) (rank : Rank) (now : ℕ) (hop : Option ℕ) → Own (hear_reply_for l own by origin to rank now hop)
  reply_for_own own by origin to rank now None = search words depth 16
  reply_for_own own by origin to rank now (Some hop) = search (words, tt) depth 16

  reply_own : (own by origin to : ℕ) (rank : Rank) (now : ℕ) → Own (hear_reply l own by origin to rank now)
  reply_own own by origin to rank now = search (words, tt, reply_for_own own by origin to rank now (next_hop l to)) depth 16

  error_own : (own by lost to : ℕ) → Own (hear_error l own by lost to)
  error_own own by lost to = search (words, tt) depth 16

  report_own : (mesh : MeshHeader) (hop : Option ℕ) → Own (report_by l mesh hop)
  report_own mesh None = search words depth 16
  report_own mesh (Some hop) = search (words, tt) depth 16

  forward_by_own : (own : ℕ) (mesh : MeshHeader) (unit : MeshUnit) (note : ℕ) (hop : Option ℕ) → Own (forward_by l own mesh unit note hop)
  forward_by_own own mesh unit note None = search (words, report_own mesh (next_hop l mesh.origin)) depth 16
  forward_by_own own mesh unit note (Some hop) = search (words, tt) depth 16

  pub forward_own : (own : ℕ) (mesh : MeshHeader) (unit : MeshUnit) (note : ℕ) → Own (forward l own mesh unit note)
  forward_own own mesh unit note = forward_by_own own mesh unit note (next_hop l mesh.to)

  pub gathered_own : (from : ℕ) (t : pieces.Taking) → Own (gathered l from t)
  unfolding gathered resting
  gathered_own from t = by t.outcome t.held
    where
      by : (o : pieces.Outcome) (held : List Reassembly) → Own (gathered l from (record { held = held; outcome = o }))
      by pieces.Full held = ByAnswer _ (λ h e. absurd (cc))
      by pieces.Held held = ByAnswer _ (λ h e. subst (λ (k : Heard). IsOwn k) (same_heard heard.Held h e) tt)
      by (pieces.Whole note octets) held = ByAnswer _ (λ h e. subst (λ (k : Heard). IsOwn k) (same_heard (heard.Up from note octets) h e) tt)

  message_own : (own by : ℕ) (all : Bool) (cost now : ℕ) (message : Message) → Own (hear_message l own by all cost now message)
  message_own own by true cost now (Rreq number c origin dest) = request_own own by origin dest _ now
  message_own own by true cost now (Rrep number c origin to) = search words depth 16
  message_own own by true cost now (Rerr lost to) = search words depth 16
  message_own own by false cost now (Rreq number c origin dest) = search words depth 16
  message_own own by false cost now (Rrep number c origin to) = reply_own own by origin to _ now
  message_own own by false cost now (Rerr lost to) = error_own own by lost to

  pub message_in_own : (own by : ℕ) (all : Bool) (cost now : ℕ) (message : Option Message) → Own (hear_message_in l own by all cost now message)
  message_in_own own by all cost now None = search words depth 16
  message_in_own own by all cost now (Some message) = message_own own by all cost now message
