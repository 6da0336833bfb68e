use Rattle.std.proofs.Common.{rules, ◌≡◌, is_ok, subst}
use Rattle.plc_base.specs.Keeper.{Stores}
use Rattle.group_keys.specs.KeyRing.{ring_write, with_key}
use Rattle.group_keys.proofs.key_ring.KeyRing.put.Goals as goal

pub returns-clause-store : goal.returns-clause-store
returns-clause-store g c =
    let ring : c.map-grant.result ≡ with_key c.args.self.now c.args.index c.args.key.now = search rules in
    let ok : is_ok c.keep.result ≡ is_ok c.map_err.result = search rules in
    subst (λ r. Stores (g.K.Keeper.store c.args.keeper.now) (ring_write r) (is_ok c.map_err.result) (g.K.Keeper.store c.keep.new.keeper)) ring
    (subst (λ b. Stores (g.K.Keeper.store c.args.keeper.now) (ring_write c.map-grant.result) b (g.K.Keeper.store c.keep.new.keeper)) ok c.keep.ensures.store)
