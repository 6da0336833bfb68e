use Rattle.std.proofs.Common.{◌≡◌, ◌+◌, ℕ, suc, List, [], get_or, subst, sym, ap, arith, ◌∙◌}
use Rattle.aes_modes.specs.Cipher.{last_round, encrypted, round_key, state_after}
use Rattle.aes_modes.specs.Sliced.{state, IsSlicedSchedule}
use Rattle.aes_modes.proofs.SlicedSchedule.{added_state, begun, more}
use Rattle.aes_modes.proofs.sliced.SlicedAes.encrypt_two.Goals as goal

pub rounds-init : goal.rounds-init
rounds-init c =
    let key : List ℕ = c.args.self.now in
    let keys : List (List ℕ) = c.self.inside.keys in
    let held : IsSlicedSchedule key keys = subst (λ (x : List ℕ). IsSlicedSchedule x keys) c.self.view_is c.self.invariant in (
      begun key c.args.x.now c.pack.result (get_or keys 0 []) c.xor_words-q.result 0 c.pack.ensures.first (held 0 (omega arith) 0 (omega arith))
          (added_state c.pack.result (get_or keys 0 []) c.xor_words-q.result c.xor_words-q.ensures 0 (omega arith)),
      begun key c.args.y.now c.pack.result (get_or keys 0 []) c.xor_words-q.result 1 c.pack.ensures.second (held 0 (omega arith) 1 (omega arith))
          (added_state c.pack.result (get_or keys 0 []) c.xor_words-q.result c.xor_words-q.ensures 1 (omega arith)),
    )

pub rounds-preserved : goal.rounds-preserved
rounds-preserved c =
    let key : List ℕ = c.args.self.now in
    let keys : List (List ℕ) = c.self.inside.keys in
    let held : IsSlicedSchedule key keys = subst (λ (x : List ℕ). IsSlicedSchedule x keys) c.self.view_is c.self.invariant in
    let i = c.rounds.i in
    let one : i + 1 ≡ suc i = omega arith in
    let k0 : state 0 (get_or keys (i + 1) []) ≡ round_key key (suc i) = held (i + 1) (omega arith) 0 (omega arith) ∙ ap (round_key key) one in
    let k1 : state 1 (get_or keys (i + 1) []) ≡ round_key key (suc i) = held (i + 1) (omega arith) 1 (omega arith) ∙ ap (round_key key) one in (
      more key c.args.x.now c.rounds.q c.sliced_round-next.result (get_or keys (i + 1) []) 0 i c.rounds.invariant.0 k0 (c.sliced_round-next.ensures 0
          (omega arith))
          ∙ ap (state_after key c.args.x.now) (sym one),
      more key c.args.y.now c.rounds.q c.sliced_round-next.result (get_or keys (i + 1) []) 1 i c.rounds.invariant.1 k1 (c.sliced_round-next.ensures 1
          (omega arith))
          ∙ ap (state_after key c.args.y.now) (sym one),
    )

pub returns-clause-first : goal.returns-clause-first
unfolding encrypted
returns-clause-first c =
    let key : List ℕ = c.args.self.now in
    let keys : List (List ℕ) = c.self.inside.keys in
    let held : IsSlicedSchedule key keys = subst (λ (x : List ℕ). IsSlicedSchedule x keys) c.self.view_is c.self.invariant in
    let done : c.rounds.i ≡ 9 = omega arith in
    let nine : state 0 c.rounds.q ≡ state_after key c.args.x.now 9 = c.rounds.invariant.0 ∙ ap (state_after key c.args.x.now) done in
    c.unpack.ensures.first ∙ c.sliced_last_round.ensures 0 (omega arith) ∙ (λ j. last_round (held 10 (omega arith) 0 (omega arith) j) (nine j))

pub returns-clause-second : goal.returns-clause-second
unfolding encrypted
returns-clause-second c =
    let key : List ℕ = c.args.self.now in
    let keys : List (List ℕ) = c.self.inside.keys in
    let held : IsSlicedSchedule key keys = subst (λ (x : List ℕ). IsSlicedSchedule x keys) c.self.view_is c.self.invariant in
    let done : c.rounds.i ≡ 9 = omega arith in
    let nine : state 1 c.rounds.q ≡ state_after key c.args.y.now 9 = c.rounds.invariant.1 ∙ ap (state_after key c.args.y.now) done in
    c.unpack.ensures.second ∙ c.sliced_last_round.ensures 1 (omega arith) ∙ (λ j. last_round (held 10 (omega arith) 1 (omega arith) j) (nine j))
