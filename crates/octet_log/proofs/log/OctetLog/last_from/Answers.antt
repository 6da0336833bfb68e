use Rattle.std.proofs.Common.{◌≡◌, ◌-◌, List, ℕ, map, take, ap, subst, ◌∙◌, arith}
use Rattle.std.specs.Prelude.{slice_index}
use Rattle.octet_log.specs.LogChains.{chain_of}
use Rattle.octet_log.specs.Logs.{Log, IsLast}
use Rattle.octet_log.proofs.Lasts.{IsSought, sought_before, sought_ends}
use Rattle.octet_log.proofs.log.OctetLog.last_from.Goals as goal

pub loop-number-preserved : goal.loop-number-preserved
loop-number-preserved c =
    let n = c.loop-number.number in
    let same : c.self.inside.chains.chains
    ≡ map chain_of c.args.self.now.strings = c.self.invariant.chains ∙ ap (λ (l : Log). map chain_of l.strings) c.self.view_is in
    sought_before c.args.self.now.strings c.args.octets.now c.args.from n c.before-number.result c.loop-number.invariant c.loop-number-test.true
    c.requires.within
    (λ e. let yes = c.is_at.ensures.1 e in absurd cc)
    (subst (λ (cs : List ℕ). IsLast (take (n - 1) cs) (slice_index cs (n - 1)) c.before-number.result) same c.before-number.ensures)

pub returns : goal.returns
returns c =
    let none : c.loop-number.number ≡ 0 = omega (arith, c.loop-number-test.false) in
    sought_ends c.args.self.now.strings c.args.octets.now c.args.from 0
    (subst (λ n. IsSought c.args.self.now.strings c.args.octets.now c.args.from n) none c.loop-number.invariant) c.requires.within
    (λ some. absurd (omega (arith, some)))
