-- Options of a block, one after the other.
use Rattle.std.proofs.Common.{◌≡◌, ◌≤◌, ℕ, ◌+◌, ◌*◌, List, [], ◌∷◌, ◌++◌, length, refl, sym, ap, ◌∙◌, arith, append_assoc, append-nil, length-append}
use Rattle.std.specs.Prelude.{All}
use Rattle.std.proofs.lemmas.List.Elements.{All-append, All-cons, All-head, All-nil, All-tail}
use Rattle.pcapng.specs.Blocks.{BlockOption, AreOptions, option_spelling, options_spelling}
use Rattle.pcapng.proofs.Lengths.{length_of_option}
use Rattle.line_capture.specs.Sentences.{AreFew, IsSmall}

-- one option more
pub one_option : (old : List ℕ) (o : BlockOption) → old ++ option_spelling o.code o.octets ≡ old ++ options_spelling (o ∷ [])
one_option old o = ap (λ (t : List ℕ). old ++ t) (sym (append-nil (option_spelling o.code o.octets)))

pub options_append : (a b : List BlockOption) → options_spelling (a ++ b) ≡ options_spelling a ++ options_spelling b
options_append [] b = refl
options_append (o ∷ a) b =
    ap (λ (t : List ℕ). option_spelling o.code o.octets ++ t) (options_append a b)
    ∙ sym (append_assoc (option_spelling o.code o.octets) (options_spelling a) (options_spelling b))

-- options, and others after them
pub options_then : (old middle new : List ℕ) (a b : List BlockOption) → middle ≡ old ++ options_spelling a → new ≡ middle ++ options_spelling b
    → new ≡ old ++ options_spelling (a ++ b)
options_then old middle new a b e f =
    f ∙ ap (λ (t : List ℕ). t ++ options_spelling b) e ∙ append_assoc old (options_spelling a) (options_spelling b)
    ∙ ap (λ (t : List ℕ). old ++ t) (sym (options_append a b))

pub options_four : (old one two three new : List ℕ) (a b c d : List BlockOption) → one ≡ old ++ options_spelling a → two ≡ one ++ options_spelling b
    → three ≡ two ++ options_spelling c → new ≡ three ++ options_spelling d → new ≡ old ++ options_spelling (a ++ (b ++ (c ++ d)))
options_four old one two three new a b c d e f g h =
    options_then old one new a (b ++ (c ++ d)) e (options_then one two new b (c ++ d) f (options_then two three new c d g h))

-- the first options
pub options_begun : (old new : List ℕ) (os : List BlockOption) → old ≡ [] → new ≡ old ++ options_spelling os → new ≡ options_spelling os
options_begun old new os e f = f ∙ ap (λ (t : List ℕ). t ++ options_spelling os) e

pub few_one : (o : BlockOption) → IsSmall o → AreFew 1 (o ∷ [])
few_one o h = record { count = omega arith; each = All-cons IsSmall o [] h (All-nil IsSmall) }

pub few_then : (m n k : ℕ) (a b : List BlockOption) → AreFew m a → AreFew n b → m + n ≤ k → AreFew k (a ++ b)
few_then m n k a b x y h =
    record { count = omega (arith, length-append a b, x.count, y.count); each = All-append IsSmall a b x.each y.each }

pub few_more : (m n : ℕ) (os : List BlockOption) → AreFew m os → m ≤ n → AreFew n os
few_more m n os x h = let c = x.count in record { count = omega (arith, c, h); each = x.each }

small_octets : (os : List BlockOption) → All IsSmall os → length (options_spelling os) ≤ 2007 * length os
small_octets [] h = omega arith
small_octets (o ∷ os) h =
    let a = length-append (option_spelling o.code o.octets) (options_spelling os) in
    let b = length_of_option o.code o.octets in
    let c = small_octets os (All-tail IsSmall o os h) in
    let d = (All-head IsSmall o os h).size in
    omega (arith, a, b, c, d)

pub few_octets : (n : ℕ) (os : List BlockOption) → AreFew n os → length (options_spelling os) ≤ 2007 * n
few_octets n os h = let a = small_octets os h.each in let b = h.count in omega (arith, a, b)

pub are_options : (os : List BlockOption) → All IsSmall os → AreOptions os
are_options [] h = tt
are_options (o ∷ os) h =
    let small = All-head IsSmall o os h in
    let size = small.size in
    (record { code = small.code; begun = small.begun; size = omega (arith, size) }, are_options os (All-tail IsSmall o os h))
