use Rattle.std.proofs.Common.{◌≡◌, ◌<◌, ◌≤◌, length, ◌∷◌, ℕ, eqb, ap, sym, ◌∙◌, arith}
use Rattle.plc_base.specs.Fields.{after, octet}
use Rattle.plc_base.proofs.Places.{after_none}
use Rattle.mac_frames.specs.Grammar.{low_control}
use Rattle.mac_frames.specs.Faults.{bits}
use Rattle.mac_frames.proofs.Controls.{low_is, low_none}
use Rattle.mac_frames.proofs.control.low_of.Goals as goal

pub returns : goal.returns
returns c =
    let x = c.in_ok-low.low in
    let octets = c.args.octets.now in
    let small : x < 256 = omega arith in
    let type : bits 0 3 x ≡ 1 = omega arith in
    let four : bits 4 1 x ≡ 0 = omega arith in
    let seven : bits 7 1 x ≡ 0 = omega arith in
    let six : bits 6 1 x ≡ 1 = omega arith in
    let same : low_control (eqb (bits 3 1 x) 1) (eqb (bits 5 1 x) 1) ≡ x = low_is x small type four seven six in
    let is : x ≡ octet 0 octets = c.in_ok-low.ensures.0 in
    let some : 1 ≤ length octets = omega (arith, c.in_ok-low.ensures.1.within) in
    let whole : x ≡ low_control (eqb c.bits-3.result 1) (eqb c.bits-4.result 1) =
    sym same ∙ (λ i. low_control (eqb (sym c.bits-3.ensures i) 1) (eqb (sym c.bits-4.ensures i) 1)) in (
      low_none x octets some (sym is) type four seven six,
      (
        ap (λ (y : ℕ). eqb y 1) c.bits-3.ensures ∙ ap (λ (y : ℕ). eqb (bits 3 1 y) 1) is,
        some,
        sym (after_none octets) ∙ c.in_ok-low.ensures.1.parts ∙ ap (λ (y : ℕ). y ∷ after 1 octets) whole,
      ),
    )
