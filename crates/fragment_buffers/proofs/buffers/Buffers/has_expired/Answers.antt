use Rattle.std.proofs.Common.{ℕ, ◌+◌, ◌≤◌, ◌↔◌, IsTrue, sym, ap, subst, arith}
use Rattle.fragment_buffers.specs.Entries.{Entry}
use Rattle.fragment_buffers.proofs.OneList.{there, read}
use Rattle.fragment_buffers.proofs.buffers.Buffers.has_expired.Goals as goal
use Rattle.fragment_buffers.specs.declared.times.TheConstants.{REASSEMBLY_TIME}

pub index-requires : goal.index-requires
index-requires c = omega (
  arith,
  c.self.inside.buffers.ok,
  there c.self.inside.buffers.items c.self.inside.places c.args.self.now c.args.index c.self.view_is
      c.requires,
)

pub returns : goal.returns
returns c =
    let entry = read c.self.inside.buffers.items c.self.inside.places c.args.self.now c.args.index c.self.view_is c.requires c.index.result.now
    c.self.invariant.all
    c.index.ensures in
    subst (λ (s : ℕ). IsTrue c.has_expired.result ↔ (s + REASSEMBLY_TIME ≤ c.args.now)) (sym (ap (λ (e : Entry). e.since) entry)) c.has_expired.ensures
