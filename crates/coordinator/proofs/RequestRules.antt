-- What a meter comes to that asks to be let in.
use Rattle.std.proofs.Common.{◌≡◌, ℕ, true, false, [], Some, None, Result, refl, sym, ap, subst, ◌∙◌}
use Rattle.std.specs.Prelude.{IfSome}
use Rattle.store_tables.specs.Writes.{Wrote}
use Rattle.plc_base.specs.Keeper.{Store}
use Rattle.plc_base.specs.declared.address.Eui.{Eui}
use Rattle.plc_base.specs.declared.key.RandomOctets.{RandomOctets}
use Rattle.plc_base.specs.declared.out_frame.Out.{Out}
use Rattle.plc_base.specs.declared.tags.TagList.{TagList}
use Rattle.store_tables.proofs.WritesLemmas.{wrote_none}
use Rattle.group_keys.specs.KeyBook as book
use Rattle.eap_psk.specs.declared.server.Server.{Server}
use Rattle.eap_psk.specs.Tags.{no_tags}
use Rattle.joining_messages.specs.declared.message.JoinMessage.{JoinMessage}
use Rattle.joining_messages.specs.declared.message.JoinBody.TheVariants as body
use Rattle.node_rules.specs.declared.heard.Way.{Way}
use Rattle.node_rules.specs.declared.heard.CoordinatorHeard.{CoordinatorHeard}
use Rattle.node_rules.specs.declared.heard.CoordinatorHeard.TheVariants.{Challenged, Declined}
use Rattle.node_rules.specs.declared.refusal.Dropped.{Dropped}
use Rattle.node_rules.specs.declared.refusal.Dropped.TheVariants.{SessionsFull, NoRandom}
use Rattle.node_rules.specs.Memory.{Memory, CoordinatorSession}
use Rattle.node_rules.specs.MemoryDrafts.{with_memory_by, oldest, without_oldest}
use Rattle.node_rules.specs.JoiningPackets.{message, first_packet, server_for}
use Rattle.node_rules.specs.Drafts.{empty_draft, refused, checked, choose}
use Rattle.node_rules.specs.HearingRules.{dropped}
use Rattle.node_rules.specs.Coordinators.{CoordinatorIdentity, with_session, sessions_full, declines, challenges, open_session, join_without_packet}
use Rattle.node_rules.specs.States.{State}
use Rattle.node_rules.specs.CarriedPlans.{Carries}
use Rattle.coordinator.specs.CoordinatorAgreement.{CoordinatorAgreesWith}
use Rattle.coordinator.specs.JoiningReplies.{RoomToSay, say_fault, done_by, saying, said_after}
use Rattle.coordinator.proofs.StoredChanges.{carried_by}
use Rattle.coordinator.proofs.ReplyRules.{answered, said, lacks_plan, room_held}

-- # The plan, by what is tested

module _ (own : CoordinatorIdentity) (m : Memory) (way : Way) (eui : Eui) (now : ℕ) where
  pub full : true ≡ sessions_full m eui → refused {H = CoordinatorHeard} dropped m SessionsFull ≡ open_session own m way eui now
  unfolding checked
  full f = rw (← f) refl

  pub no_random : false ≡ sessions_full m eui → None ≡ oldest m → refused {H = CoordinatorHeard} dropped m NoRandom ≡ open_session own m way eui now
  unfolding checked
  no_random f v = rw (← f, ← v) refl

  pub opens : (value : RandomOctets) → false ≡ sessions_full m eui → Some value ≡ oldest m
      → challenges m way (server_for eui own.eui value) now ≡ open_session own m way eui now
  unfolding checked
  opens value f v = rw (← f, ← v) refl

  pub let_in : true ≡ book.is_allowed m.book eui → open_session own m way eui now ≡ join_without_packet own m way eui now
  unfolding choose
  let_in a = rw (← a) refl

  pub kept_out : false ≡ book.is_allowed m.book eui → declines m way (message eui body.Decline) now ≡ join_without_packet own m way eui now
  unfolding choose
  kept_out a = rw (← a) refl

-- # Declined

module _ (m : Memory) (way : Way) (eui : Eui) (now : ℕ) where
  decline_plan : (tags : TagList) → tags ≡ no_tags
      → said_after m way (message eui body.Decline) now (done_by [] m tags) Declined ≡ declines m way (message eui body.Decline) now
  unfolding empty_draft
  decline_plan tags none = ap (λ (k : TagList). said_after m way (message eui body.Decline) now (done_by [] m k) Declined) none

  pub decline_lacks : (s : State Memory) (reason : Dropped) → CoordinatorAgreesWith m s.store.records → say_fault m way (message eui body.Decline) ≡ Some reason
      → refused {H = CoordinatorHeard} dropped m reason ≡ declines m way (message eui body.Decline) now
  decline_lacks s reason h fault =
      lacks_plan m m [] no_tags (message eui body.Decline) now Declined refl h.home way reason fault ∙ decline_plan no_tags refl

  pub declined : (s t : State Memory) (tags : TagList) (r : Result (Unit {0}) Dropped) (out : Out) → CoordinatorAgreesWith m s.store.records → s.memory ≡ Some m
      → tags ≡ no_tags
      → RoomToSay m way (message eui body.Decline) → IfSome s.memory (λ k. Carries s (saying k way (message eui body.Decline) tags now) r out t)
      → Carries s (declines m way (message eui body.Decline) now) (answered Declined r) out t
  declined s t tags r out h running none room c =
      carried_by s t (said_after m way (message eui body.Decline) now (done_by [] m tags) Declined) (declines m way (message eui body.Decline) now)
      (answered Declined r) out (decline_plan tags none)
      (said m m [] tags (message eui body.Decline) now Declined refl h.home way s s t r out room (wrote_none s.store) refl running c)

-- # Challenged

module _ (m : Memory) (way : Way) (server : Server) (now : ℕ) where
  -- the memory with the session
  abbrev pub Opened : Memory
  Opened = with_session (record { server = server; way = way; since = now }) (without_oldest m)

  challenge_plan : (join : JoinMessage) (tags : TagList) → join ≡ message server.eui (body.Challenge (first_packet server)) → tags ≡ no_tags
      → said_after m way join now (done_by [] Opened tags) Challenged ≡ challenges m way server now
  unfolding empty_draft with_memory_by
  challenge_plan join tags same none = λ i. said_after m way (same i) now (done_by [] Opened (none i)) Challenged

  pub challenge_lacks : (s : State Memory) (join : JoinMessage) (reason : Dropped) → CoordinatorAgreesWith m s.store.records
      → join ≡ message server.eui (body.Challenge (first_packet server))
      → say_fault m way join ≡ Some reason → refused {H = CoordinatorHeard} dropped m reason ≡ challenges m way server now
  challenge_lacks s join reason h same fault =
      lacks_plan m Opened [] no_tags join now Challenged refl h.home way reason fault ∙ challenge_plan join no_tags same refl

  pub opened_room : (s mid : State Memory) (join : JoinMessage) → mid ≡ record s { memory = Some Opened } → RoomToSay m way join
      → IfSome mid.memory (λ k. RoomToSay k way join)
  opened_room s mid join is room = room_held mid m Opened way join (ap (λ (x : State Memory). x.memory) is) refl room

  pub challenged : (s mid t : State Memory) (join : JoinMessage) (tags : TagList) (r : Result (Unit {0}) Dropped) (out : Out)
      → CoordinatorAgreesWith m s.store.records
      → join ≡ message server.eui (body.Challenge (first_packet server)) → tags ≡ no_tags → RoomToSay m way join → mid ≡ record s { memory = Some Opened }
      → IfSome mid.memory (λ k. Carries mid (saying k way join tags now) r out t) → Carries s (challenges m way server now) (answered Challenged r) out t
  challenged s mid t join tags r out h same none room is c =
      carried_by s t (said_after m way join now (done_by [] Opened tags) Challenged) (challenges m way server now) (answered Challenged r) out
      (challenge_plan join tags same none)
      (said m Opened [] tags join now Challenged refl h.home way s mid t r out room
      (subst (λ (k : Store). Wrote s.store [] true k) (sym (ap (λ (x : State Memory). x.store) is)) (wrote_none s.store))
      (ap (λ (x : State Memory). x.eui) is) (ap (λ (x : State Memory). x.memory) is) c)

  -- the same by the session as it was read again
  pub opened_room_by : (x : CoordinatorSession) → record { server = server; way = way; since = now } ≡ x → (s mid : State Memory) (join : JoinMessage)
      → mid ≡ record s { memory = Some Opened } → RoomToSay m way join
      → IfSome mid.memory (λ k. RoomToSay k x.way join)
  opened_room_by x same s mid join is room =
      subst (λ (y : CoordinatorSession). IfSome mid.memory (λ k. RoomToSay k y.way join)) same (opened_room s mid join is room)

  pub challenged_by : (x : CoordinatorSession) → record { server = server; way = way; since = now } ≡ x
      → (s mid t : State Memory) (join : JoinMessage) (tags : TagList) (r : Result (Unit {0}) Dropped) (out : Out) → CoordinatorAgreesWith m s.store.records
      → join ≡ message server.eui (body.Challenge (first_packet server)) → tags ≡ no_tags → RoomToSay m way join → mid ≡ record s { memory = Some Opened }
      → IfSome mid.memory (λ k. Carries mid (saying k x.way join tags x.since) r out t) → Carries s (challenges m way server now) (answered Challenged r) out t
  challenged_by x same s mid t join tags r out h is none room began c =
      challenged s mid t join tags r out h is none room began
      (subst (λ (y : CoordinatorSession). IfSome mid.memory (λ k. Carries mid (saying k y.way join tags y.since) r out t)) (sym same) c)
