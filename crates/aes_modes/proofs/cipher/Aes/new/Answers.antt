use Rattle.std.proofs.Common.{◌≡◌, List, ℕ, ◌∙◌, refl}
use Rattle.aes_modes.specs.Cipher.{round_key}
use Rattle.aes_modes.proofs.Schedule.{round_key-zero, next_round_key_is, schedule}
use Rattle.aes_modes.proofs.cipher.Aes.new.Goals as goal

pub invariant_of-result : goal.invariant_of-result
invariant_of-result c =
    let key : List ℕ = c.args.key.now.0 in
    let e1 : c.step.result.0 ≡ round_key key 1 = next_round_key_is key key c.step.result.0 0 (round_key-zero key) c.step.ensures.next in
    let e2 : c.step-2.result.0 ≡ round_key key 2 = next_round_key_is key c.step.result.0 c.step-2.result.0 1 e1 c.step-2.ensures.next in
    let e3 : c.step-3.result.0 ≡ round_key key 3 = next_round_key_is key c.step-2.result.0 c.step-3.result.0 2 e2 c.step-3.ensures.next in
    let e4 : c.step-4.result.0 ≡ round_key key 4 = next_round_key_is key c.step-3.result.0 c.step-4.result.0 3 e3 c.step-4.ensures.next in
    let e5 : c.step-5.result.0 ≡ round_key key 5 = next_round_key_is key c.step-4.result.0 c.step-5.result.0 4 e4 c.step-5.ensures.next in
    let e6 : c.step-6.result.0 ≡ round_key key 6 = next_round_key_is key c.step-5.result.0 c.step-6.result.0 5 e5 c.step-6.ensures.next in
    let e7 : c.step-7.result.0 ≡ round_key key 7 = next_round_key_is key c.step-6.result.0 c.step-7.result.0 6 e6 c.step-7.ensures.next in
    let e8 : c.step-8.result.0 ≡ round_key key 8 = next_round_key_is key c.step-7.result.0 c.step-8.result.0 7 e7 c.step-8.ensures.next in
    let e9 : c.step-9.result.0 ≡ round_key key 9 = next_round_key_is key c.step-8.result.0 c.step-9.result.0 8 e8 c.step-9.ensures.next in
    let e10 : c.step-10.result.0 ≡ round_key key 10 = next_round_key_is key c.step-9.result.0 c.step-10.result.0 9 e9 c.step-10.ensures.next in
    schedule key c.step-2.result.1 c.step-3.result.1 c.step-4.result.1 c.step-5.result.1 c.step-6.result.1 c.step-7.result.1 c.step-8.result.1
    c.step-9.result.1 c.step-10.result.1 c.step-10.result.0
    (c.step-2.ensures.hidden ∙ e1) (c.step-3.ensures.hidden ∙ e2) (c.step-4.ensures.hidden ∙ e3) (c.step-5.ensures.hidden ∙ e4)
    (c.step-6.ensures.hidden ∙ e5) (c.step-7.ensures.hidden ∙ e6) (c.step-8.ensures.hidden ∙ e7) (c.step-9.ensures.hidden ∙ e8)
    (c.step-10.ensures.hidden ∙ e9) e10

pub returns : goal.returns
returns c = refl
