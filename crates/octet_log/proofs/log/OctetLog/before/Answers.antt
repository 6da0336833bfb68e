use Rattle.std.proofs.Common.{◌≡◌, ◌-◌, List, ℕ, Some, map, take, ap, subst, ◌∙◌, arith}
use Rattle.std.specs.Prelude.{slice_index, slice_get}
use Rattle.octet_log.specs.LogChains.{chain_of}
use Rattle.octet_log.specs.Logs.{Log, IsLast}
use Rattle.octet_log.proofs.Lasts.{last_before, chain_index}
use Rattle.octet_log.proofs.log.OctetLog.before.Goals as goal

pub returns-in-Some : goal.returns-in-Some
returns-in-Some c = λ octets here.
    let n = c.args.number in
    let p = c.before-in-Some.result in
    let strings = c.args.self.now.strings in
    let same : c.self.inside.chains.chains ≡ map chain_of strings = c.self.invariant.chains ∙ ap (λ (l : Log). map chain_of l.strings) c.self.view_is in
    let one : Some c.in-Some.octets.now ≡ Some octets = c.in-Some.ensures ∙ ap (λ (l : Log). slice_get l.strings (n - 1)) c.self.view_is ∙ here in
    let is : c.in-Some.octets.now ≡ octets = cc in
    let last = subst (λ (cs : List ℕ). IsLast (take (n - 1) cs) (slice_index cs (n - 1)) p) same c.before-in-Some.ensures in
    let last2 = subst (λ chain. IsLast (take (n - 1) (map chain_of strings)) chain p) (chain_index strings (n - 1) octets here) last in
    last_before strings octets (n - 1) p c.last_from.result last2 (omega (arith, c.requires.within))
    (subst (λ (x : List ℕ). IsLast (take p strings) x c.last_from.result) is c.last_from.ensures)
