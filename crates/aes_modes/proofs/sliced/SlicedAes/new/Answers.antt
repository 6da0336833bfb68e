use Rattle.std.proofs.Common.{List, ℕ, [], ◌∷◌, refl}
use Rattle.aes_modes.proofs.SlicedSchedule.{Key_at, first_key_at, next_key, constant_is, all_keys}
use Rattle.aes_modes.proofs.sliced.SlicedAes.new.Goals as goal

pub invariant_of-result : goal.invariant_of-result
invariant_of-result c =
    let key : List ℕ = c.args.key.now.0 in
    let e0 : Key_at key 0 c.pack-k0.result = first_key_at key c.pack-k0.result c.pack-k0.ensures.first c.pack-k0.ensures.second in
    let e1 : Key_at key 1 c.sliced_next_round_key-k1.result = next_key key c.pack-k0.result c.sliced_next_round_key-k1.result 0 e0
    (c.sliced_next_round_key-k1.ensures 1
    (constant_is 1 (3 ∷ 0 ∷ 0 ∷ 0 ∷ 0 ∷ 0 ∷ 0 ∷ 0 ∷ []) refl)) in
    let e2 : Key_at key 2 c.sliced_next_round_key-k2.result = next_key key c.sliced_next_round_key-k1.result c.sliced_next_round_key-k2.result 1 e1
    (c.sliced_next_round_key-k2.ensures 2
    (constant_is 2 (0 ∷ 3 ∷ 0 ∷ 0 ∷ 0 ∷ 0 ∷ 0 ∷ 0 ∷ []) refl)) in
    let e3 : Key_at key 3 c.sliced_next_round_key-k3.result = next_key key c.sliced_next_round_key-k2.result c.sliced_next_round_key-k3.result 2 e2
    (c.sliced_next_round_key-k3.ensures 4
    (constant_is 4 (0 ∷ 0 ∷ 3 ∷ 0 ∷ 0 ∷ 0 ∷ 0 ∷ 0 ∷ []) refl)) in
    let e4 : Key_at key 4 c.sliced_next_round_key-k4.result = next_key key c.sliced_next_round_key-k3.result c.sliced_next_round_key-k4.result 3 e3
    (c.sliced_next_round_key-k4.ensures 8
    (constant_is 8 (0 ∷ 0 ∷ 0 ∷ 3 ∷ 0 ∷ 0 ∷ 0 ∷ 0 ∷ []) refl)) in
    let e5 : Key_at key 5 c.sliced_next_round_key-k5.result = next_key key c.sliced_next_round_key-k4.result c.sliced_next_round_key-k5.result 4 e4
    (c.sliced_next_round_key-k5.ensures 16
    (constant_is 16 (0 ∷ 0 ∷ 0 ∷ 0 ∷ 3 ∷ 0 ∷ 0 ∷ 0 ∷ []) refl)) in
    let e6 : Key_at key 6 c.sliced_next_round_key-k6.result = next_key key c.sliced_next_round_key-k5.result c.sliced_next_round_key-k6.result 5 e5
    (c.sliced_next_round_key-k6.ensures 32
    (constant_is 32 (0 ∷ 0 ∷ 0 ∷ 0 ∷ 0 ∷ 3 ∷ 0 ∷ 0 ∷ []) refl)) in
    let e7 : Key_at key 7 c.sliced_next_round_key-k7.result = next_key key c.sliced_next_round_key-k6.result c.sliced_next_round_key-k7.result 6 e6
    (c.sliced_next_round_key-k7.ensures 64
    (constant_is 64 (0 ∷ 0 ∷ 0 ∷ 0 ∷ 0 ∷ 0 ∷ 3 ∷ 0 ∷ []) refl)) in
    let e8 : Key_at key 8 c.sliced_next_round_key-k8.result = next_key key c.sliced_next_round_key-k7.result c.sliced_next_round_key-k8.result 7 e7
    (c.sliced_next_round_key-k8.ensures 128
    (constant_is 128 (0 ∷ 0 ∷ 0 ∷ 0 ∷ 0 ∷ 0 ∷ 0 ∷ 3 ∷ []) refl)) in
    let e9 : Key_at key 9 c.sliced_next_round_key-k9.result = next_key key c.sliced_next_round_key-k8.result c.sliced_next_round_key-k9.result 8 e8
    (c.sliced_next_round_key-k9.ensures 27
    (constant_is 27 (3 ∷ 3 ∷ 0 ∷ 3 ∷ 3 ∷ 0 ∷ 0 ∷ 0 ∷ []) refl)) in
    let e10 : Key_at key 10 c.sliced_next_round_key-k10.result = next_key key c.sliced_next_round_key-k9.result c.sliced_next_round_key-k10.result 9 e9
    (c.sliced_next_round_key-k10.ensures
    54 (constant_is 54 (0 ∷ 3 ∷ 3 ∷ 0 ∷ 3 ∷ 3 ∷ 0 ∷ 0 ∷ []) refl)) in
    all_keys key c.pack-k0.result c.sliced_next_round_key-k1.result c.sliced_next_round_key-k2.result c.sliced_next_round_key-k3.result
    c.sliced_next_round_key-k4.result
    c.sliced_next_round_key-k5.result c.sliced_next_round_key-k6.result c.sliced_next_round_key-k7.result c.sliced_next_round_key-k8.result
    c.sliced_next_round_key-k9.result c.sliced_next_round_key-k10.result
    e0 e1 e2 e3 e4 e5 e6 e7 e8 e9 e10

pub returns : goal.returns
returns c = refl
