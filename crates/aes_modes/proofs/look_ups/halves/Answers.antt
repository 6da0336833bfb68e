use Rattle.std.proofs.Common.{◌≡◌, map, refl, w8}
use Rattle.std.proofs.lemmas.Simd.{below_from_Fits}
use Rattle.aes_modes.specs.LookUps.{entry, inverses, scaled_inverses}
use Rattle.aes_modes.proofs.LookUps.{via_map, via_zip, places, fun_i, fun_k, fun_f, fun_j, fun_p, fun_m, fun_q, fun_n, fun_r, fun_g, fun_s, fun_h}
use Rattle.aes_modes.proofs.look_ups.halves.Goals as goal

pub look-f-requires : goal.look-f-requires
look-f-requires c =
    let m_k : c.low-k.result ≡ map fun_k c.args.x = c.low-k.ensures in
    places fun_k refl c.args.x _ m_k (below_from_Fits w8 c.args.x c.fits-x.1)

pub look-p-requires : goal.look-p-requires
look-p-requires c =
    let m_i : c.high-i.result ≡ map fun_i c.args.x = c.high-i.ensures in
    places fun_i refl c.args.x _ m_i (below_from_Fits w8 c.args.x c.fits-x.1)

pub look-q-requires : goal.look-q-requires
look-q-requires c =
    let m_i : c.high-i.result ≡ map fun_i c.args.x = c.high-i.ensures in
    let m_k : c.low-k.result ≡ map fun_k c.args.x = c.low-k.ensures in
    let m_j : c.add-j.result ≡ map fun_j c.args.x = via_zip fun_i fun_k c.args.x _ _ _ m_i m_k c.add-j.ensures in
    places fun_j refl c.args.x _ m_j (below_from_Fits w8 c.args.x c.fits-x.1)

pub look-r-requires : goal.look-r-requires
look-r-requires c =
    let m_i : c.high-i.result ≡ map fun_i c.args.x = c.high-i.ensures in
    let m_p : c.look-p.result ≡ map fun_p c.args.x = via_map (entry inverses) fun_i c.args.x _ _ m_i c.look-p.ensures in
    let m_k : c.low-k.result ≡ map fun_k c.args.x = c.low-k.ensures in
    let m_f : c.look-f.result ≡ map fun_f c.args.x = via_map (entry scaled_inverses) fun_k c.args.x _ _ m_k c.look-f.ensures in
    let m_m : c.add-m.result ≡ map fun_m c.args.x = via_zip fun_p fun_f c.args.x _ _ _ m_p m_f c.add-m.ensures in
    places fun_m refl c.args.x _ m_m (below_from_Fits w8 c.args.x c.fits-x.1)

pub look-s-requires : goal.look-s-requires
look-s-requires c =
    let m_i : c.high-i.result ≡ map fun_i c.args.x = c.high-i.ensures in
    let m_k : c.low-k.result ≡ map fun_k c.args.x = c.low-k.ensures in
    let m_j : c.add-j.result ≡ map fun_j c.args.x = via_zip fun_i fun_k c.args.x _ _ _ m_i m_k c.add-j.ensures in
    let m_q : c.look-q.result ≡ map fun_q c.args.x = via_map (entry inverses) fun_j c.args.x _ _ m_j c.look-q.ensures in
    let m_f : c.look-f.result ≡ map fun_f c.args.x = via_map (entry scaled_inverses) fun_k c.args.x _ _ m_k c.look-f.ensures in
    let m_n : c.add-n.result ≡ map fun_n c.args.x = via_zip fun_q fun_f c.args.x _ _ _ m_q m_f c.add-n.ensures in
    places fun_n refl c.args.x _ m_n (below_from_Fits w8 c.args.x c.fits-x.1)

pub returns-clause-first : goal.returns-clause-first
returns-clause-first c =
    let m_i : c.high-i.result ≡ map fun_i c.args.x = c.high-i.ensures in
    let m_p : c.look-p.result ≡ map fun_p c.args.x = via_map (entry inverses) fun_i c.args.x _ _ m_i c.look-p.ensures in
    let m_k : c.low-k.result ≡ map fun_k c.args.x = c.low-k.ensures in
    let m_f : c.look-f.result ≡ map fun_f c.args.x = via_map (entry scaled_inverses) fun_k c.args.x _ _ m_k c.look-f.ensures in
    let m_m : c.add-m.result ≡ map fun_m c.args.x = via_zip fun_p fun_f c.args.x _ _ _ m_p m_f c.add-m.ensures in
    let m_r : c.look-r.result ≡ map fun_r c.args.x = via_map (entry inverses) fun_m c.args.x _ _ m_m c.look-r.ensures in
    let m_j : c.add-j.result ≡ map fun_j c.args.x = via_zip fun_i fun_k c.args.x _ _ _ m_i m_k c.add-j.ensures in
    let m_g : c.add-g.result ≡ map fun_g c.args.x = via_zip fun_r fun_j c.args.x _ _ _ m_r m_j c.add-g.ensures in
    m_g

pub returns-clause-first_fits : goal.returns-clause-first_fits
returns-clause-first_fits c =
    let m_i : c.high-i.result ≡ map fun_i c.args.x = c.high-i.ensures in
    let m_p : c.look-p.result ≡ map fun_p c.args.x = via_map (entry inverses) fun_i c.args.x _ _ m_i c.look-p.ensures in
    let m_k : c.low-k.result ≡ map fun_k c.args.x = c.low-k.ensures in
    let m_f : c.look-f.result ≡ map fun_f c.args.x = via_map (entry scaled_inverses) fun_k c.args.x _ _ m_k c.look-f.ensures in
    let m_m : c.add-m.result ≡ map fun_m c.args.x = via_zip fun_p fun_f c.args.x _ _ _ m_p m_f c.add-m.ensures in
    let m_r : c.look-r.result ≡ map fun_r c.args.x = via_map (entry inverses) fun_m c.args.x _ _ m_m c.look-r.ensures in
    let m_j : c.add-j.result ≡ map fun_j c.args.x = via_zip fun_i fun_k c.args.x _ _ _ m_i m_k c.add-j.ensures in
    let m_g : c.add-g.result ≡ map fun_g c.args.x = via_zip fun_r fun_j c.args.x _ _ _ m_r m_j c.add-g.ensures in
    places fun_g refl c.args.x _ m_g (below_from_Fits w8 c.args.x c.fits-x.1)

pub returns-clause-second : goal.returns-clause-second
returns-clause-second c =
    let m_i : c.high-i.result ≡ map fun_i c.args.x = c.high-i.ensures in
    let m_k : c.low-k.result ≡ map fun_k c.args.x = c.low-k.ensures in
    let m_j : c.add-j.result ≡ map fun_j c.args.x = via_zip fun_i fun_k c.args.x _ _ _ m_i m_k c.add-j.ensures in
    let m_q : c.look-q.result ≡ map fun_q c.args.x = via_map (entry inverses) fun_j c.args.x _ _ m_j c.look-q.ensures in
    let m_f : c.look-f.result ≡ map fun_f c.args.x = via_map (entry scaled_inverses) fun_k c.args.x _ _ m_k c.look-f.ensures in
    let m_n : c.add-n.result ≡ map fun_n c.args.x = via_zip fun_q fun_f c.args.x _ _ _ m_q m_f c.add-n.ensures in
    let m_s : c.look-s.result ≡ map fun_s c.args.x = via_map (entry inverses) fun_n c.args.x _ _ m_n c.look-s.ensures in
    let m_h : c.add-h.result ≡ map fun_h c.args.x = via_zip fun_s fun_i c.args.x _ _ _ m_s m_i c.add-h.ensures in
    m_h

pub returns-clause-second_fits : goal.returns-clause-second_fits
returns-clause-second_fits c =
    let m_i : c.high-i.result ≡ map fun_i c.args.x = c.high-i.ensures in
    let m_k : c.low-k.result ≡ map fun_k c.args.x = c.low-k.ensures in
    let m_j : c.add-j.result ≡ map fun_j c.args.x = via_zip fun_i fun_k c.args.x _ _ _ m_i m_k c.add-j.ensures in
    let m_q : c.look-q.result ≡ map fun_q c.args.x = via_map (entry inverses) fun_j c.args.x _ _ m_j c.look-q.ensures in
    let m_f : c.look-f.result ≡ map fun_f c.args.x = via_map (entry scaled_inverses) fun_k c.args.x _ _ m_k c.look-f.ensures in
    let m_n : c.add-n.result ≡ map fun_n c.args.x = via_zip fun_q fun_f c.args.x _ _ _ m_q m_f c.add-n.ensures in
    let m_s : c.look-s.result ≡ map fun_s c.args.x = via_map (entry inverses) fun_n c.args.x _ _ m_n c.look-s.ensures in
    let m_h : c.add-h.result ≡ map fun_h c.args.x = via_zip fun_s fun_i c.args.x _ _ _ m_s m_i c.add-h.ensures in
    places fun_h refl c.args.x _ m_h (below_from_Fits w8 c.args.x c.fits-x.1)
