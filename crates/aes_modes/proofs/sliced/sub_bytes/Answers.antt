use Rattle.std.proofs.Common.{ℕ, ◌<◌, List, ap, ◌∙◌, arith}
use Rattle.aes_modes.specs.Field.{s_box}
use Rattle.aes_modes.specs.Sliced.{octet_at}
use Rattle.aes_modes.proofs.Written.{spelled}
use Rattle.aes_modes.proofs.sliced.sub_bytes.Goals as goal

pub returns : goal.returns
returns c = λ (p : ℕ) (low : p < 32). c.circuit.ensures.octets p low ∙ ap (λ (q : List ℕ). s_box (octet_at q p)) (spelled 8 c.args.q (omega arith))
