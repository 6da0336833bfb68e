-- Two tags with one spelling are the same.
use Rattle.std.proofs.Common.{◌≡◌, ℕ, ◌+◌, ◌^◌, ◌<◌, List, [], ◌∷◌, ◌++◌, length, refl, sym, ap, ◌∙◌, arith}
use Rattle.byteorder.specs.Endian.{big_bytes, big_number}
use Rattle.byteorder.specs.Numbers.{big_number-reads_back, length-bytes_high_first}
use Rattle.plc_base.specs.declared.tags.PairTag.{PairTag}
use Rattle.plc_base.specs.declared.tags.PairTag.TheVariants.{MacP, MacS, Channel}
use Rattle.plc_base.specs.Tags.{IsTag, tag_octets}

-- two fields of one length, and what follows them
split_same : (a b c d : List ℕ) → length a ≡ length b → a ++ c ≡ b ++ d → (a ≡ b) × (c ≡ d)
split_same [] [] c d h e = (refl, e)
split_same [] (y ∷ b) c d h e = absurd (omega arith)
split_same (x ∷ a) [] c d h e = absurd (omega arith)
split_same (x ∷ a) (y ∷ b) c d h e =
    let rest : a ++ c ≡ b ++ d = cc in
    let first : x ≡ y = cc in
    let k = split_same a b c d (omega arith) rest in
    (let same = k.0 in cc, k.1)

same_nonce : (m n : ℕ) → m < 2 ^ 32 → n < 2 ^ 32 → big_bytes 4 m ≡ big_bytes 4 n → m ≡ n
same_nonce m n p q e = sym (big_number-reads_back 4 m [] (omega arith)) ∙ ap (big_number 4) e ∙ big_number-reads_back 4 n [] (omega arith)

pub one_tag : (a b : PairTag) → IsTag a → IsTag b → tag_octets a ≡ tag_octets b → a ≡ b
one_tag (MacP a s) (MacP b t) p q e =
    let rest : a.0 ++ s ≡ b.0 ++ t = cc in
    let k = split_same a.0 b.0 s t (p ∙ sym q) rest in
    ap (λ xs. MacP (record { 0 = xs }) s) k.0 ∙ ap (λ xs. MacP b xs) k.1
one_tag (MacP a s) (MacS b t) p q e = absurd (cc)
one_tag (MacP a s) (Channel b y n h t) p q e = absurd (cc)
one_tag (MacS a s) (MacP b t) p q e = absurd (cc)
one_tag (MacS a s) (MacS b t) p q e =
    let rest : a.0 ++ s ≡ b.0 ++ t = cc in
    let k = split_same a.0 b.0 s t (p ∙ sym q) rest in
    ap (λ xs. MacS (record { 0 = xs }) s) k.0 ∙ ap (λ xs. MacS b xs) k.1
one_tag (MacS a s) (Channel b y n h t) p q e = absurd (cc)
one_tag (Channel a x m g s) (MacP b t) p q e = absurd (cc)
one_tag (Channel a x m g s) (MacS b t) p q e = absurd (cc)
one_tag (Channel a x m g s) (Channel b y n h t) p q e =
    let after_kind : a.0 ++ (x.0 ++ (big_bytes 4 m ++ (length g ∷ (g ++ s)))) ≡ b.0 ++ (y.0 ++ (big_bytes 4 n ++ (length h ∷ (h ++ t)))) = cc in
    let by_eui = split_same a.0 b.0 _ _ (p.0 ∙ sym q.0) after_kind in
    let by_rand = split_same x.0 y.0 _ _ (p.1 ∙ sym q.1) by_eui.1 in
    let by_nonce = split_same (big_bytes 4 m) (big_bytes 4 n) _ _ (length-bytes_high_first 4 m ∙ sym (length-bytes_high_first 4 n)) by_rand.1 in
    let long : length g ≡ length h = let all = by_nonce.1 in cc in
    let texts : g ++ s ≡ h ++ t = let all = by_nonce.1 in cc in
    let by_header = split_same g h s t long texts in
    let nonce = same_nonce m n p.2 q.2 by_nonce.0 in
    ap (λ xs. Channel (record { 0 = xs }) x m g s) by_eui.0
    ∙ ap (λ xs. Channel b (record { 0 = xs }) m g s) by_rand.0
    ∙ ap (λ k. Channel b y k g s) nonce
    ∙ ap (λ xs. Channel b y n xs s) by_header.0
    ∙ ap (λ xs. Channel b y n h xs) by_header.1
