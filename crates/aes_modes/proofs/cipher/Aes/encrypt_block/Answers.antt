use Rattle.std.proofs.Common.{◌≡◌, ℕ, suc, ◌<◌, List, [], map, get_or, subst, arith, ◌∙◌}
use Rattle.aes_modes.specs.Cipher.{last_round, encrypted, round_key}
use Rattle.aes_modes.specs.LookUps.{unhidden}
use Rattle.aes_modes.specs.Schedule.{IsSchedule}
use Rattle.aes_modes.proofs.Schedule.{state_none, state_more}
use Rattle.aes_modes.proofs.cipher.Aes.encrypt_block.Goals as goal

pub returns : goal.returns
unfolding encrypted
returns c =
    let key : List ℕ = c.args.self.now in
    let block : List ℕ = c.args.block.now in
    let keys : List (List ℕ) = c.self.inside.keys in
    let held : IsSchedule key keys = subst (λ (x : List ℕ). IsSchedule x keys) c.self.view_is c.self.invariant in
    let k : (i : ℕ) → i < 9 → map unhidden (get_or keys (suc i) []) ≡ round_key key (suc i) = held.1 in
    let e0 = state_none key block c.add_round_key-s.result c.turn-s.result (get_or keys 0 []) held.0 c.add_round_key-s.ensures c.turn-s.ensures in
    let e1 = state_more key block c.turn-s.result c.round-s.result (get_or keys 1 []) 0 e0 (k 0 (omega arith)) c.round-s.ensures in
    let e2 = state_more key block c.round-s.result c.round-s-2.result (get_or keys 2 []) 1 e1 (k 1 (omega arith)) c.round-s-2.ensures in
    let e3 = state_more key block c.round-s-2.result c.round-s-3.result (get_or keys 3 []) 2 e2 (k 2 (omega arith)) c.round-s-3.ensures in
    let e4 = state_more key block c.round-s-3.result c.round-s-4.result (get_or keys 4 []) 3 e3 (k 3 (omega arith)) c.round-s-4.ensures in
    let e5 = state_more key block c.round-s-4.result c.round-s-5.result (get_or keys 5 []) 4 e4 (k 4 (omega arith)) c.round-s-5.ensures in
    let e6 = state_more key block c.round-s-5.result c.round-s-6.result (get_or keys 6 []) 5 e5 (k 5 (omega arith)) c.round-s-6.ensures in
    let e7 = state_more key block c.round-s-6.result c.round-s-7.result (get_or keys 7 []) 6 e6 (k 6 (omega arith)) c.round-s-7.ensures in
    let e8 = state_more key block c.round-s-7.result c.round-s-8.result (get_or keys 8 []) 7 e7 (k 7 (omega arith)) c.round-s-8.ensures in
    let e9 = state_more key block c.round-s-8.result c.round-s-9.result (get_or keys 9 []) 8 e8 (k 8 (omega arith)) c.round-s-9.ensures in
    c.last_round-s.ensures ∙ (λ i. last_round (held.2 i) (e9 i))
