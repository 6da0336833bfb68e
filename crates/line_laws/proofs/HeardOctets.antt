-- What a station hands on of octets is octets, by the law of stations, in the forms that the accounts ask for.
use Rattle.std.proofs.Common.{◌≡◌, ℕ, Option, Some, None, subst}
use Rattle.std.specs.Prelude.{IfSome}
use Rattle.plc_base.specs.Fields.{AreOctets}
use Rattle.node_rules.specs.Accepted.{Accepted}
use Rattle.node_rules.specs.Memory.{StationMemory}
use Rattle.node_rules.specs.HearingRules.{hear}
use Rattle.node_rules.specs.MemoryDrafts.{Unread, unread}
use Rattle.node_rules.specs.OctetLaws.{UnreadFits}
use Rattle.node_rules.proofs.HeardOctets.{unreads_fit}

module _ (l : StationMemory) (got : Accepted) (cost note now : ℕ) where
  pub unread_fits : (u : Unread) → AreOctets got.payload → unread (hear l got cost note now).answer ≡ Some u → UnreadFits u
  unread_fits u are e = subst (λ o. IfSome o UnreadFits) e (unreads_fit l got cost note now are)

  pub unread_octets : (u : Unread) → AreOctets got.payload → unread (hear l got cost note now).answer ≡ Some u → AreOctets u.body
  unread_octets u are e = (unread_fits u are e).0

  pub heard_octets : AreOctets got.payload → IfSome (unread (hear l got cost note now).answer) (λ (u : Unread). AreOctets u.body)
  heard_octets are = by_unread (unread (hear l got cost note now).answer) (unreads_fit l got cost note now are)
    where
      by_unread : (o : Option Unread) → IfSome o UnreadFits → IfSome o (λ (u : Unread). AreOctets u.body)
      by_unread None fits = tt
      by_unread (Some u) fits = fits.0
