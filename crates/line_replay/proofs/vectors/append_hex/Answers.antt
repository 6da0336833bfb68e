use Rattle.std.proofs.Common.{◌∙◌, ◌++◌, ℕ, List, refl, sym, ap, lit<, arith}
use Rattle.std.proofs.lemmas.List.{append-nil}
use Rattle.aes_modes.proofs.Opened.{at_ok}
use Rattle.line_replay.proofs.HexTexts.{encode_lower-nil, hex_more, length-hex}
use Rattle.line_replay.proofs.vectors.append_hex.Goals as goal

pub loop-octet-init : goal.loop-octet-init
loop-octet-init c =
    sym (ap (λ (xs : List ℕ). c.args.text.now ++ xs) encode_lower-nil ∙ append-nil c.args.text.now)

pub append-requires : goal.append-requires
append-requires c =
    (lit< tt, omega (arith, length-hex c.args.text.now c.loop-octet.text c.args.octets.now c.loop-octet.octet-index (omega arith) c.loop-octet.invariant))

pub loop-octet-preserved : goal.loop-octet-preserved
loop-octet-preserved c =
    hex_more c.args.text.now c.loop-octet.text c.encode_to_slice.new.output c.append.new.self c.args.octets.now c.loop-octet.octet-index
    (omega arith) c.loop-octet.invariant
    (at_ok c.encode_to_slice.result (c.encode_to_slice.ensures.fits.1 refl) c.encode_to_slice.ensures.written)
    c.append.ensures

pub returns-clause-length : goal.returns-clause-length
returns-clause-length c =
    omega (arith, length-hex c.args.text.now c.loop-octet.text c.args.octets.now c.loop-octet.octet-index (omega arith) c.loop-octet.invariant)
