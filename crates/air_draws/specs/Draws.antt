-- The draws of a run: a stream of PCG32 (XSH RR 64/32, O'Neill 2014) for each purpose. A draw takes one word of its own stream, so what is
-- drawn for one purpose never depends on how much is drawn for another.
use Rattle.std.specs.Prelude.{ℕ, ◌*◌, ◌/◌, ◌^◌, ltb, Bool, List, ◌++◌}
use Rattle.std.specs.Int.{w32, to_be_bytes}
use Rattle.rand_pcg.specs.Lcg.{Lcg, advance, started, increment_of}
use Rattle.rand_pcg.specs.Pcg.{multiplier_64, pcg32}
use Rattle.air_draws.specs.declared.draws.Purpose.{Purpose}
use Rattle.air_draws.specs.declared.draws.Purpose.TheVariants.{Place, Loss, Backoff, Times, Keys, Failures, Attack}

-- the stream of a purpose
abbrev pub stream_of : Purpose → ℕ
stream_of Place = 1
stream_of Loss = 2
stream_of Backoff = 3
stream_of Times = 4
stream_of Keys = 5
stream_of Failures = 6
stream_of Attack = 7

-- the generator of a purpose before its first draw
unfoldable pub first : ℕ → Purpose → Lcg
first seed purpose = started 64 multiplier_64 seed (increment_of 64 (stream_of purpose))

-- the generator of a purpose after k draws of one word
unfoldable pub drawn : ℕ → Purpose → ℕ → Lcg
drawn seed purpose k = advance 64 multiplier_64 k (first seed purpose)

-- the word that a generator gives next
unfoldable pub word : Lcg → ℕ
word g = (pcg32 g).0

-- the generator after its next word
unfoldable pub after : Lcg → Lcg
after g = (pcg32 g).1

-- a number below n, by scaling the word: each comes within one of 2 ^ 32 / n words
unfoldable pub below : ℕ → Lcg → ℕ
below n g = word g * n / 2 ^ 32

-- whether that happens which has a chance of this many ten-thousandths
unfoldable pub happens : ℕ → Lcg → Bool
happens chance g = ltb (below 10000 g) chance

-- sixteen octets: four words, the highest octet of each first
unfoldable pub key_octets : Lcg → List ℕ
key_octets g =
    to_be_bytes w32 (word g) ++ to_be_bytes w32 (word (after g)) ++ to_be_bytes w32 (word (after (after g)))
    ++ to_be_bytes w32 (word (after (after (after g))))

-- the generator after sixteen octets
unfoldable pub after_key : Lcg → Lcg
after_key g = after (after (after (after g)))
