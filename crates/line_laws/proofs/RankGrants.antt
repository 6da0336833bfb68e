-- What a meter makes of a frame, where the grant that it takes, if it takes one, has its own address.
use Rattle.std.proofs.Common.{◌≡◌, ℕ, Bool, true, false, List, [], ◌∷◌, length, Option, Some, None, Ok, Err, refl, sym, subst}
use Rattle.std.specs.Prelude.{if◌then◌else◌, nat_lt}
use Rattle.std.specs.Option.{option_map, option_map_or}
use Rattle.std.proofs.lemmas.Option.{same_Some, none-some}
use Rattle.plc_base.specs.Grant.{Granted}
use Rattle.plc_base.specs.declared.address.Eui.{Eui}
use Rattle.plc_base.specs.declared.tags.PairTag.{PairTag}
use Rattle.eap_psk.specs.Messages.{granting_text}
use Rattle.eap_psk.specs.Sessions.{identifier_of}
use Rattle.eap_psk.specs.Tags.{mac_s_tag, granting_tag, success_tag}
use Rattle.eap_psk.specs.declared.peer.Peer.{Peer}
use Rattle.eap_psk.specs.declared.server.Agreed.{Agreed}
use Rattle.joining_messages.specs.declared.message.JoinMessage.{JoinMessage}
use Rattle.joining_messages.specs.declared.message.JoinBody.{JoinBody}
use Rattle.joining_messages.specs.declared.message.JoinBody.TheVariants as body
use Rattle.joining_messages.specs.Reader.{join_in}
use Rattle.routing_set.specs.declared.rank.Rank.{Rank}
use Rattle.node_rules.specs.Accepted.{Accepted}
use Rattle.node_rules.specs.declared.heard.MeterHeard.TheVariants as heard
use Rattle.node_rules.specs.declared.heard.Way.{Way}
use Rattle.node_rules.specs.declared.heard.Way.TheVariants.{Air, Near, Mesh}
use Rattle.node_rules.specs.declared.refusal.Dropped.{Dropped}
use Rattle.node_rules.specs.declared.refusal.Dropped.TheVariants.{CounterSpent, NoSession, Store}
use Rattle.node_rules.specs.Memory.{Memory, MeterSession, SessionWay, ByAgent, ByCommand, address_of}
use Rattle.node_rules.specs.Plans.{resting}
use Rattle.node_rules.specs.Drafts.{Draft, empty_draft, with_ring, counters_left, refused, sealing, sealed, checked, choose}
use Rattle.node_rules.specs.HearingRules.{dropped, hear}
use Rattle.node_rules.specs.MemoryDrafts.{in_memory, on_station, with_memory_by, with_pair_tags, goes_up, unread, Unread, packet_fault}
use Rattle.node_rules.specs.JoiningPackets.{is_first, message}
use Rattle.node_rules.specs.Meters.{Identity, Hearing, with_session, says, ends, third_way_fault, take_with, take_by, take, challenged, hear_near}
use Rattle.node_rules.specs.Meters.{hear_order, hear_join, hear_join_in, heard_by, hear_meter}
use Rattle.line_laws.proofs.IssueWords.{Among, Here, Later, among_right, commanded_leaves}
use Rattle.line_laws.proofs.Made.{Given, Offered}
use Rattle.line_laws.proofs.NodeCalls.{heard_given}
use Rattle.line_laws.proofs.MeterForms.{IsTaken}
use Rattle.line_laws.proofs.RankFold.{IsAt, OfferFits}
use Rattle.line_laws.proofs.RankPlans.{PlanRanks, resting_ranks}
use Rattle.line_laws.proofs.RankCalls.{meter_hears_ranks}
use Rattle.line_laws.proofs.Homed.{TakenFrom, IsTagged}

-- the grant, if it passes
abbrev only : (Granted → Bool) → Option Granted → Option Granted
only ok None = None
only ok (Some g) = if ok g then Some g else None

-- the same meter, which reads no other grants
abbrev pub picky : (Granted → Bool) → Identity → Identity
picky ok x = record x { ciphers = record x.ciphers { granted = λ psk peer packet. only ok (x.ciphers.granted psk peer packet) } }

module _ (x : Identity) (m : Memory) (got : Accepted) (cost note now : ℕ) (ok : Granted → Bool) where
  -- A frame with a grant that does not pass.
  pub record Wrong : Type 0 where
    pub granted : Granted
    pub from : TakenFrom x m got cost note now granted
    pub wrong : ok granted ≡ false

  -- the picky meter does the same, or the frame is refused, or a wrong grant is taken under its tag
  pub data Walk (q p : Hearing) : Type 0 where
    Same : q ≡ p → Walk q p
    Refused : (reason : Dropped) → p ≡ resting m (Err reason) (Err Store) → Walk q p
    Takes : (agreed : Agreed) → p.answer ≡ Ok (heard.Took agreed) → (wrong : Wrong) → IsTagged wrong.from p.opened → Walk q p

  walk_checked : (fault : Option Dropped) (q p : Hearing) → (fault ≡ None → Walk q p) → Walk (checked dropped m fault q) (checked dropped m fault p)
  unfolding checked
  walk_checked None q p k = k refl
  walk_checked (Some reason) q p k = Same refl

  walk_choose : (test : Bool) (q p r s : Hearing) → Walk q p → Walk r s → Walk (choose test q r) (choose test p s)
  unfolding choose
  walk_choose true q p r s k j = k
  walk_choose false q p r s k j = j

  -- # The third packet

  walk_sealed : (q : Hearing) (d : Draft Memory) (agreed : Agreed) (wrong : Wrong) → IsTagged wrong.from d.opened → Walk q (ends m d (heard.Took agreed))
  unfolding sealed
  walk_sealed q d agreed wrong tagged = by_left (nat_lt (counters_left m.station) (length d.units))
    where
      by_left : (b : Bool) → Walk q (if b then refused dropped m CounterSpent else sealing in_memory dropped d (heard.Took agreed))
      by_left true = Refused CounterSpent refl
      by_left false = Takes agreed refl wrong tagged

  walk_lack : (q : Hearing) (lack : Option Dropped) (d : Draft Memory) (agreed : Agreed) (wrong : Wrong) → IsTagged wrong.from d.opened
      → Walk q (checked dropped m lack (ends m d (heard.Took agreed)))
  unfolding checked
  walk_lack q None d agreed wrong tagged = walk_sealed q d agreed wrong tagged
  walk_lack q (Some reason) d agreed wrong tagged = Refused reason refl

  -- what is said opens no tag
  said_opens : (way : SessionWay) (own : Eui) (join : JoinMessage) (d : Draft Memory) → (says way own join now d).opened ≡ d.opened
  unfolding goes_up
  said_opens (ByAgent agent) own join d = refl
  said_opens ByCommand own join d = (commanded_leaves (λ r. Unit {0}) 0 join now d).opened

  tagged_draft : (made opened : List PairTag) (d : Draft Memory) (tag : PairTag) → Among tag opened → Among tag (with_pair_tags made opened d).opened
  unfolding with_pair_tags
  tagged_draft made opened d tag among = among_right tag d.opened opened among

  -- the challenge of the frame
  record Challenged (packet : List ℕ) : Type 0 where
    unread_is : Unread
    frame : unread (hear m.station got cost note now).answer ≡ Some unread_is
    join : JoinMessage
    read : join_in unread_is.body ≡ Some join
    challenge : join.body ≡ body.Challenge packet

  module _ (packet : List ℕ) (came : Challenged packet) (session_way : SessionWay) where
    walk_with : (s : MeterSession) (peer : Peer) → m.session ≡ Some s → s.peer ≡ Some peer → x.ciphers.third_fault x.psk peer packet ≡ None
        → (o : Option Granted) → x.ciphers.granted x.psk peer packet ≡ o
        → Walk (take_with (picky ok x) m session_way packet now peer (only ok o)) (take_with x m session_way packet now peer o)
    walk_with s peer there has right None is = Same refl
    walk_with s peer there has right (Some g) is = by_ok (ok g) refl
      where
        by_ok : (b : Bool) → ok g ≡ b → Walk (take_with (picky ok x) m session_way packet now peer (if b then Some g else None))
            (take_with x m session_way packet now peer (Some g))
        by_ok true e = Same refl
        by_ok false e =
            let join = message x.eui (body.Join (x.ciphers.fourth x.psk (identifier_of packet) peer)) in
            let made : List PairTag = success_tag peer.eui (identifier_of packet) peer.rand_s peer.rand_p ∷ [] in
            let opened : List PairTag = mac_s_tag peer.eui peer.id_s peer.rand_p
            ∷ granting_tag peer.eui (identifier_of packet) peer.rand_s peer.rand_p (granting_text g) ∷ [] in
            let before : Draft Memory = on_station (with_ring (Some g)) (with_memory_by (with_session None) (empty_draft m)) in
            let d : Draft Memory = with_pair_tags made opened before in
            walk_lack _ _ _ _ (record {
              granted = g;
              from = record {
                unread_is = came.unread_is;
                frame = came.frame;
                join = came.join;
                read = came.read;
                packet = packet;
                challenge = came.challenge;
                session = s;
                open_is = there;
                peer = peer;
                has = has;
                right = right;
                is = is;
              };
              wrong = e;
            })
            (subst (Among (granting_tag peer.eui (identifier_of packet) peer.rand_s peer.rand_p (granting_text g)))
            (sym (said_opens session_way peer.eui join d))
            (tagged_draft made opened before _ (Later _ _ (Here []))))

    no_fault : {A B : Type 0} (f : A → B) (o : Option A) → option_map f o ≡ None → o ≡ None
    no_fault f None e = refl
    no_fault f (Some a) e = absurd (cc)

    walk_by : (s : MeterSession) → m.session ≡ Some s → (o : Option Peer) → s.peer ≡ o
        → Walk (take_by (picky ok x) m session_way packet now o) (take_by x m session_way packet now o)
    walk_by s there None has = Same refl
    walk_by s there (Some peer) has = walk_checked (option_map packet_fault (x.ciphers.third_fault x.psk peer packet)) _ _
        (λ none. walk_with s peer there has (no_fault packet_fault _ none) (x.ciphers.granted x.psk peer packet) refl)

    walk_session : (o : Option MeterSession) → m.session ≡ o
        → Walk (option_map_or (λ (s : MeterSession). take_by (picky ok x) m session_way packet now s.peer) o (refused dropped m NoSession))
        (option_map_or (λ (s : MeterSession). take_by x m session_way packet now s.peer) o (refused dropped m NoSession))
    walk_session None e = Same refl
    walk_session (Some s) e = walk_by s e s.peer refl

    walk_take : Walk (take (picky ok x) m session_way packet now) (take x m session_way packet now)
    walk_take = walk_checked (third_way_fault m session_way) _ _ (λ none. walk_session m.session refl)

    walk_challenged : Walk (challenged (picky ok x) m session_way packet now) (challenged x m session_way packet now)
    walk_challenged = walk_choose (is_first packet) _ _ _ _ (Same refl) walk_take

  -- # A joining message

  walk_near : (agent : ℕ) (b : JoinBody) → ((packet : List ℕ) → b ≡ body.Challenge packet → Challenged packet)
      → Walk (hear_near (picky ok x) m agent b now) (hear_near x m agent b now)
  walk_near agent (body.Challenge eap) came = walk_challenged eap (came eap refl) (ByAgent agent)
  walk_near agent _ came = Same refl

  walk_order : (b : JoinBody) → ((packet : List ℕ) → b ≡ body.Challenge packet → Challenged packet)
      → Walk (hear_order (picky ok x) m b now) (hear_order x m b now)
  walk_order (body.Challenge eap) came = walk_challenged eap (came eap refl) ByCommand
  walk_order _ came = Same refl

  walk_join : (way : Way) (join : JoinMessage) → ((packet : List ℕ) → join.body ≡ body.Challenge packet → Challenged packet)
      → Walk (hear_join (picky ok x) m way join now) (hear_join x m way join now)
  walk_join (Air from) join came = Same refl
  walk_join (Near agent) join came = walk_choose _ _ _ _ _ (walk_near agent join.body came) (Same refl)
  walk_join (Mesh origin) join came = walk_choose _ _ _ _ _ (walk_choose _ _ _ _ _ (walk_order join.body came) (Same refl)) (Same refl)

  walk_join_in : (u : Unread) → unread (hear m.station got cost note now).answer ≡ Some u → (o : Option JoinMessage) → join_in u.body ≡ o
      → Walk (hear_join_in (picky ok x) m u.way o now) (hear_join_in x m u.way o now)
  walk_join_in u frame None read = Same refl
  walk_join_in u frame (Some join) read = walk_join u.way join (λ packet e. record { unread_is = u; frame = frame; join = join; read = read; challenge = e })

  walk_heard : (o : Option Unread) → unread (hear m.station got cost note now).answer ≡ o
      → Walk (heard_by (picky ok x) m now (hear m.station got cost note now) o) (heard_by x m now (hear m.station got cost note now) o)
  walk_heard None frame = Same refl
  walk_heard (Some u) frame = walk_join_in u frame (join_in u.body) refl

  pub walk_meter : Walk (hear_meter (picky ok x) m got cost note now) (hear_meter x m got cost note now)
  walk_meter = walk_heard (unread (hear m.station got cost note now).answer) refl

-- what the picky meter takes passes
pub picky_grants : (At : ℕ → Type 0) (g : Given) (m : Memory) (ok : Granted → Bool) → ((granted : Granted) → ok granted ≡ true → At granted.address)
    → (x : Identity) (granted : Granted) → IsTaken g (picky ok x) m granted → At granted.address
picky_grants At g m ok passes x granted taken = by_read (x.ciphers.granted x.psk taken.peer taken.packet) taken.is
  where
    by_ok : (g : Granted) (b : Bool) → ok g ≡ b → (if b then Some g else None) ≡ Some granted → At granted.address
    by_ok g true e is = subst (λ (y : Granted). At y.address) (same_Some _ _ is) (passes g e)
    by_ok g false e is = absurd (none-some granted is)

    by_read : (o : Option Granted) → only ok o ≡ Some granted → At granted.address
    by_read None is = absurd (none-some granted is)
    by_read (Some g) is = by_ok g (ok g) refl is

module _ (At Own : ℕ → Type 0) (C : ℕ → ℕ → Rank → Type 0) (m : Memory) (here : IsAt At (address_of m.station)) (got : Accepted) (cost note now : ℕ)
    (offers : (address : Option ℕ) → IsAt At address → (by origin : ℕ) (rank : Rank) → Offered (heard_given got cost note now) address by origin rank
    → OfferFits Own C by origin rank now)
    (ok : Granted → Bool) (passes : (g : Granted) → ok g ≡ true → At g.address) (fails : (g : Granted) → ok g ≡ false → ¬ (At g.address)) where
  -- where a meter that takes a grant takes one of its own address
  pub taking_ranks : (x : Identity) → ((agreed : Agreed) → (hear_meter x m got cost note now).answer ≡ Ok (heard.Took agreed) → (granted : Granted)
      → (t : TakenFrom x m got cost note now granted) → IsTagged t (hear_meter x m got cost note now).opened → At granted.address)
      → PlanRanks At Own C m (hear_meter x m got cost note now)
  taking_ranks x took = by_walk (walk_meter x m got cost note now ok)
    where
      by_walk : Walk x m got cost note now ok (hear_meter (picky ok x) m got cost note now) (hear_meter x m got cost note now)
          → PlanRanks At Own C m (hear_meter x m got cost note now)
      by_walk (Same e) = subst (λ (p : Hearing). PlanRanks At Own C m p) e
          (meter_hears_ranks At Own C m here got cost note now offers (picky ok x) (picky_grants At (heard_given got cost note now) m ok passes x))
      by_walk (Refused reason e) = subst (λ (p : Hearing). PlanRanks At Own C m p) (sym e) (resting_ranks At Own C m m _ _ refl refl here)
      by_walk (Takes agreed e w tagged) = absurd (fails w.granted w.wrong (took agreed e w.granted w.from tagged))
