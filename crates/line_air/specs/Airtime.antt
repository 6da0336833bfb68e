-- How long frames are on the air, in microseconds. The numbers are those that the authors remember of G3-PLC in the CENELEC A band (36
-- carriers, a symbol of 695 microseconds, a preamble of 6.08 milliseconds, 13 symbols of control, segments of at most 133 octets in ROBO and
-- 235 else); they were not checked against G.9903.
use Rattle.std.specs.Prelude.{ℕ, ◌+◌, ◌-◌, ◌*◌, ◌/◌, ◌%◌, eqb, cond}
use Rattle.line_air.specs.declared.times.Span.{Span}
use Rattle.line_air.specs.declared.settings.Rate.{Rate}
use Rattle.line_air.specs.declared.settings.Rate.TheVariants.{Robo, Dbpsk, Dqpsk, D8psk}

abbrev pub symbol : ℕ
symbol = 695

-- the preamble and 13 symbols of control
abbrev pub head : ℕ
head = 15115

-- twice the bits of one symbol: half of the bits are the code's, and ROBO sends each four times
abbrev pub twice_bits : Rate → ℕ
twice_bits Robo = 9
twice_bits Dbpsk = 36
twice_bits Dqpsk = 72
twice_bits D8psk = 108

-- the octets of parity of a segment
abbrev pub parity : Rate → ℕ
parity Robo = 8
parity Dbpsk = 16
parity Dqpsk = 16
parity D8psk = 16

-- the most octets of a segment
abbrev pub longest : Rate → ℕ
longest Robo = 133
longest Dbpsk = 235
longest Dqpsk = 235
longest D8psk = 235

-- a quotient, rounded up
abbrev pub rounded_up : ℕ → ℕ → ℕ
rounded_up n d = (n + d - 1) / d

-- a segment of this many octets: its head, then as many symbols as its octets, its parity and six bits that end the code take
unfoldable pub segment : Rate → ℕ → ℕ
segment rate octets = head + rounded_up (2 * ((octets + parity rate) * 8 + 6)) (twice_bits rate) * symbol

-- a frame: its octets and two of check sum, in segments as long as can be
unfoldable pub airtime : Rate → ℕ → Span
airtime rate octets =
    let whole = (octets + 2) / longest rate in
    let rest = (octets + 2) % longest rate in
    cond (eqb rest 0) (record { micros = whole * segment rate (longest rate); segments = whole })
    (record { micros = whole * segment rate (longest rate) + segment rate rest; segments = whole + 1 })
