-- A draw more is a draw after the draws before it.
use Rattle.std.proofs.Common.{◌≡◌, ℕ, zero, suc, ◌+◌, refl, ap, ◌∙◌, arith, add-one}
use Rattle.rand_pcg.specs.Lcg.{Lcg, next, next_state, state_after}
use Rattle.rand_pcg.specs.Pcg.{multiplier_64}
use Rattle.air_draws.specs.declared.draws.Purpose.{Purpose}
use Rattle.air_draws.specs.Draws.{first, drawn, after, after_key}

-- one step after n steps is n + 1 steps
state_after-next : (w m p n s : ℕ) → next_state w m p (state_after w m p n s) ≡ state_after w m p (suc n) s
unfolding state_after
state_after-next w m p zero s = refl
state_after-next w m p (suc n) s = state_after-next w m p n (next_state w m p s)

pub one_more : (seed : ℕ) (purpose : Purpose) (k : ℕ) → after (drawn seed purpose k) ≡ drawn seed purpose (k + 1)
unfolding after drawn
one_more seed purpose k =
    let g : Lcg = first seed purpose in
    rw add-one (ap (λ (s : ℕ). record g { state = s }) (state_after-next 64 multiplier_64 g.increment k g.state))

pub four_more : (seed : ℕ) (purpose : Purpose) (k : ℕ) → after_key (drawn seed purpose k) ≡ drawn seed purpose (k + 4)
unfolding after_key
four_more seed purpose k =
    let four : k + 1 + 1 + 1 + 1 ≡ k + 4 = omega arith in
    ap after (ap after (ap after (one_more seed purpose k) ∙ one_more seed purpose (k + 1)) ∙ one_more seed purpose (k + 1 + 1))
    ∙ one_more seed purpose (k + 1 + 1 + 1) ∙ ap (drawn seed purpose) four

pub none_yet : (seed : ℕ) (purpose : Purpose) → drawn seed purpose 0 ≡ first seed purpose
unfolding drawn state_after
none_yet seed purpose = refl
