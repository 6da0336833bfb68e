use Rattle.std.proofs.Common.{◌≡◌, List, ℕ, map, ap, subst, ◌∙◌}
use Rattle.octet_log.specs.LogChains.{chain_of}
use Rattle.octet_log.specs.Logs.{Log, IsLast}
use Rattle.octet_log.proofs.Lasts.{last_in_chain}
use Rattle.octet_log.proofs.log.OctetLog.last.Goals as goal

pub returns : goal.returns
returns c =
    let same : c.self.inside.chains.chains
    ≡ map chain_of c.args.self.now.strings = c.self.invariant.chains ∙ ap (λ (l : Log). map chain_of l.strings) c.self.view_is in
    let last = subst (λ (cs : List ℕ). IsLast cs c.chain_of.result c.last-number.result) same c.last-number.ensures in
    last_in_chain c.args.self.now.strings c.args.octets.now c.last-number.result c.last_from.result
    (subst (λ chain. IsLast (map chain_of c.args.self.now.strings) chain c.last-number.result) c.chain_of.ensures.value last) c.last_from.ensures
