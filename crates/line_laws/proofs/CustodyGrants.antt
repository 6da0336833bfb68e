-- What a meter hears is of the sends, where the grant that it takes, if it takes one, has the address of its home.
use Rattle.std.proofs.Common.{◌≡◌, ℕ, Bool, Ok, Err, sym, subst}
use Rattle.std.specs.Prelude.{◌==◌}
use Rattle.std.proofs.lemmas.Bool.{eqb-true, eqb-false}
use Rattle.std.proofs.lemmas.List.Elements.{All-nil}
use Rattle.plc_base.specs.Grant.{Granted}
use Rattle.eap_psk.specs.declared.server.Agreed.{Agreed}
use Rattle.node_rules.specs.Accepted.{Accepted}
use Rattle.node_rules.specs.declared.heard.MeterHeard.TheVariants as meter_heard
use Rattle.node_rules.specs.declared.refusal.Dropped.{Dropped}
use Rattle.node_rules.specs.declared.refusal.Dropped.TheVariants.{Store}
use Rattle.node_rules.specs.Memory.{Memory}
use Rattle.node_rules.specs.Meters as meters
use Rattle.node_rules.specs.Plans.{resting}
use Rattle.line_laws.specs.Sends.{SentAs}
use Rattle.line_laws.proofs.CustodyPlans.{Agrees}
use Rattle.line_laws.proofs.CustodyTrue.{SentIsOf, StationIsTrue, PlanIsTrue, MeterUpIsOf, KeepsAddress, HearsTrue, meter_hears_true}
use Rattle.line_laws.proofs.CustodyWhole.{OneSend}
use Rattle.line_laws.proofs.Homed.{TakenFrom, IsTagged}
use Rattle.line_laws.proofs.Made.{Install}
use Rattle.line_laws.proofs.MeterForms.{RingCause, ByPacket}
use Rattle.line_laws.proofs.NodeCalls.{heard_given}
use Rattle.line_laws.proofs.RankGrants.{picky, picky_grants, Walk, Same, Refused, Takes, walk_meter}

-- A grant that a meter takes has the address of its home: asked only where it is taken, since a packet that is refused opens no tag.
pub record TakesHome (own : ℕ) (got : Accepted) (cost note now : ℕ) (x : meters.Identity) (m : Memory) : Type 0 where
  pub taken : (agreed : Agreed) → (meters.hear_meter x m got cost note now).answer ≡ Ok (meter_heard.Took agreed)
      → (granted : Granted) → (t : TakenFrom x m got cost note now granted) → IsTagged t (meters.hear_meter x m got cost note now).opened
      → granted.address ≡ own

module _ (S : ℕ → SentAs → Type 0) (one : OneSend S) (own : ℕ) (got : Accepted) (cost note now : ℕ) (hears : HearsTrue S (heard_given got cost note now)) where
  -- whether a grant has this home
  abbrev fits : Granted → Bool
  fits g = g.address == own

  picky_keeps : (x : meters.Identity) (m : Memory) → KeepsAddress own (heard_given got cost note now) (picky fits x) m
  picky_keeps x m = record { taken = by_cause }
    where
      by_cause : (granted : Granted) → RingCause (heard_given got cost note now) (picky fits x) m (Install granted) → granted.address ≡ own
      by_cause granted (ByPacket g taken) = picky_grants (λ a. a ≡ own) (heard_given got cost note now) m fits (λ k e. eqb-true _ _ e) x granted taken

  -- a frame that is refused leaves the memory, and hands nothing up
  refused : (m : Memory) (reason : Dropped) → StationIsTrue S own m.station → PlanIsTrue S own (MeterUpIsOf S own) (resting m (Err reason) (Err Store))
  unfolding resting
  refused m reason first = record { station = first; frames = All-nil (SentIsOf S); up = tt; fails = tt }

  pub taking_true : (x : meters.Identity) (m : Memory) → TakesHome own got cost note now x m → StationIsTrue S own m.station
      → Agrees (heard_given got cost note now) m.station → PlanIsTrue S own (MeterUpIsOf S own) (meters.hear_meter x m got cost note now)
  taking_true x m took first agrees = by_walk (walk_meter x m got cost note now fits)
    where
      by_walk : Walk x m got cost note now fits (meters.hear_meter (picky fits x) m got cost note now) (meters.hear_meter x m got cost note now)
          → PlanIsTrue S own (MeterUpIsOf S own) (meters.hear_meter x m got cost note now)
      by_walk (Same e) = subst (λ (p : meters.Hearing). PlanIsTrue S own (MeterUpIsOf S own) p) e
          (meter_hears_true S one own got cost note now hears (picky fits x) m (picky_keeps x m) first agrees)
      by_walk (Refused reason e) = subst (λ (p : meters.Hearing). PlanIsTrue S own (MeterUpIsOf S own) p) (sym e) (refused m reason first)
      by_walk (Takes agreed e w tagged) = absurd (eqb-false _ _ w.wrong (took.taken agreed e w.granted w.from tagged))
