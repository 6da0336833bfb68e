use Rattle.std.proofs.Common.{◌≡◌, ℕ, ◌/◌, map, bit_and, refl, ap, ◌∙◌, w8}
use Rattle.std.proofs.lemmas.Simd.{below_from_Fits}
use Rattle.aes_modes.specs.LookUps.{entry, turned_low, turned_high, unturned}
use Rattle.aes_modes.proofs.LookUps.{via_map, via_zip, places, turned_back}
use Rattle.aes_modes.proofs.look_ups.turn.Goals as goal

pub look-b-requires : goal.look-b-requires
look-b-requires c = places (λ (b : ℕ). bit_and b 15) refl c.args.x _ c.low-a.ensures (below_from_Fits w8 c.args.x c.fits-x.1)

pub look-e-requires : goal.look-e-requires
look-e-requires c = places (λ (b : ℕ). b / 16) refl c.args.x _ c.high-d.ensures (below_from_Fits w8 c.args.x c.fits-x.1)

pub returns : goal.returns
returns c =
    let m_b : c.look-b.result ≡ map (λ (b : ℕ). entry turned_low (bit_and b 15)) c.args.x =
    via_map (entry turned_low) (λ (b : ℕ). bit_and b 15) c.args.x _ _ c.low-a.ensures c.look-b.ensures in
    let m_e : c.look-e.result ≡ map (λ (b : ℕ). entry turned_high (b / 16)) c.args.x =
    via_map (entry turned_high) (λ (b : ℕ). b / 16) c.args.x _ _ c.high-d.ensures c.look-e.ensures in
    ap (map unturned)
    (via_zip (λ (b : ℕ). entry turned_low (bit_and b 15)) (λ (b : ℕ). entry turned_high (b / 16)) c.args.x _ _ _ m_b m_e c.add.ensures)
    ∙ turned_back c.args.x (below_from_Fits w8 c.args.x c.fits-x.1)
