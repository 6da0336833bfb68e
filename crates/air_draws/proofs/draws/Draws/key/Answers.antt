use Rattle.std.proofs.Common.{◌≡◌, ℕ, List, [], ◌∷◌, ◌++◌, get_or, refl, ap, ◌∙◌}
use Rattle.std.specs.Int.{w32, to_be_bytes}
use Rattle.air_draws.specs.Draws.{word, after, key_octets, after_key}
use Rattle.air_draws.proofs.draws.Draws.key.Goals as goal

-- four times four octets, one by one
joined : (a b c d : List ℕ) (i j k l : ℕ)
    → a ≡ to_be_bytes w32 i → b ≡ to_be_bytes w32 j → c ≡ to_be_bytes w32 k → d ≡ to_be_bytes w32 l
    → get_or a 0 0 ∷ get_or a 1 0 ∷ get_or a 2 0 ∷ get_or a 3 0 ∷ get_or b 0 0 ∷ get_or b 1 0 ∷ get_or b 2 0 ∷ get_or b 3 0
    ∷ get_or c 0 0 ∷ get_or c 1 0 ∷ get_or c 2 0 ∷ get_or c 3 0 ∷ get_or d 0 0 ∷ get_or d 1 0 ∷ get_or d 2 0 ∷ get_or d 3 0 ∷ []
    ≡ to_be_bytes w32 i ++ to_be_bytes w32 j ++ to_be_bytes w32 k ++ to_be_bytes w32 l
joined a b c d i j k l first second third fourth = rw (first, second, third, fourth) refl

pub returns-clause-value : goal.returns-clause-value
unfolding key_octets
returns-clause-value c =
    let second = c.word-2.ensures.value ∙ ap word c.word.ensures.after in
    let twice = c.word-2.ensures.after ∙ ap after c.word.ensures.after in
    let third = c.word-3.ensures.value ∙ ap word twice in
    let thrice = c.word-3.ensures.after ∙ ap after twice in
    joined _ _ _ _ _ _ _ _ (c.to_be_bytes.ensures ∙ ap (to_be_bytes w32) c.word.ensures.value)
    (c.to_be_bytes-2.ensures ∙ ap (to_be_bytes w32) second) (c.to_be_bytes-3.ensures ∙ ap (to_be_bytes w32) third)
    (c.to_be_bytes-4.ensures ∙ ap (to_be_bytes w32) (c.word-4.ensures.value ∙ ap word thrice))

pub returns-clause-after : goal.returns-clause-after
unfolding after_key
returns-clause-after c =
    let twice = c.word-2.ensures.after ∙ ap after c.word.ensures.after in
    let thrice = c.word-3.ensures.after ∙ ap after twice in
    c.word-4.ensures.after ∙ ap after thrice
