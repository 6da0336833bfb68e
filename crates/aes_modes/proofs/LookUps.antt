-- What a look-up of lanes is, and that the S-box is look-ups, in all 256 cases.
use Rattle.std.proofs.Common.{◌≡◌, ℕ, zero, suc, ◌+◌, ◌*◌, ◌/◌, ◌<◌, ◌≤◌, List, [], ◌∷◌, map, get_or, length, replicate, true, false, Bool, bit_xor, bit_and}
use Rattle.std.proofs.Common.{refl, sym, ap, ◌∙◌, arith, w8}
use Rattle.std.specs.List.{range_with_len}
use Rattle.std.proofs.lemmas.Simd.{swz_l}
use Rattle.std.proofs.lemmas.Float.{T_from_true}
use Rattle.std.proofs.lemmas.List.{length-map}
use Rattle.std.proofs.lemmas.List.FromFn.{get_or-map-range_with_len}
use lib.Lanes.{zip2, Each1}
use lib.Dec.{T, leb, ltb}
use mathlib.Core.Bool.{cond, ◌||◌}
use Rattle.aes_modes.specs.Field.{product, inverse, s_box}
use Rattle.aes_modes.specs.LookUps.{entry, inverses, scaled_inverses, half_g, half_h, turned, unturned, unhidden, plain}

pub zip_const : (f : ℕ → ℕ → ℕ) (a n : ℕ) (xs : List ℕ) → length xs ≡ n → zip2 f xs (replicate n a) ≡ map (λ (x : ℕ). f x a) xs
zip_const f a zero [] h = refl
zip_const f a zero (x ∷ xs) h = absurd (omega arith)
zip_const f a (suc n) [] h = absurd (omega arith)
zip_const f a (suc n) (x ∷ xs) h = λ i. f x a ∷ zip_const f a n xs (omega arith) i

pub look_is : (xs js : List ℕ) (i : ℕ) → i + length js ≤ 16 → swz_l w8 16 xs i js ≡ map (entry xs) js
look_is xs [] i h = refl
look_is xs (j ∷ js) i h =
    let spot : 16 * (i / 16) + j ≡ j = omega arith in
    λ p. cond (leb 128 j) 0 (get_or xs (spot p) 0) ∷ look_is xs js (suc i) (omega arith) p

pub zip_maps : (g h : ℕ → ℕ) (xs : List ℕ) → zip2 bit_xor (map g xs) (map h xs) ≡ map (λ (b : ℕ). bit_xor (g b) (h b)) xs
zip_maps g h [] = refl
zip_maps g h (x ∷ xs) = λ i. bit_xor (g x) (h x) ∷ zip_maps g h xs i

pub map_map : (g f : ℕ → ℕ) (xs : List ℕ) → map g (map f xs) ≡ map (λ (b : ℕ). g (f b)) xs
map_map g f [] = refl
map_map g f (x ∷ xs) = λ i. g (f x) ∷ map_map g f xs i

pub via_map : (g f : ℕ → ℕ) (x y z : List ℕ) → y ≡ map f x → z ≡ map g y → z ≡ map (λ (b : ℕ). g (f b)) x
via_map g f x y z ey ez = ez ∙ (λ i. map g (ey i)) ∙ map_map g f x

pub via_zip : (f g : ℕ → ℕ) (x y z w : List ℕ) → y ≡ map f x → z ≡ map g x → w ≡ zip2 bit_xor y z
    → w ≡ map (λ (b : ℕ). bit_xor (f b) (g b)) x
via_zip f g x y z w ey ez ew = ew ∙ (λ i. zip2 bit_xor (ey i) (ez i)) ∙ zip_maps f g x

-- what a look-up may be asked
abbrev pub fits : ℕ → Bool
fits j = leb 128 j || ltb j 16

fits_at : (f : ℕ → ℕ) → map (λ (b : ℕ). fits (f b)) (range_with_len 0 256) ≡ map (λ (b : ℕ). true) (range_with_len 0 256)
    → (b : ℕ) → b < 256 → fits (f b) ≡ true
fits_at f table b low =
    sym (get_or-map-range_with_len (λ (b : ℕ). fits (f b)) 0 256 b b false low (omega arith))
    ∙ ap (λ (xs : List Bool). get_or xs b false) table
    ∙ get_or-map-range_with_len (λ (b : ℕ). true) 0 256 b b false low (omega arith)

each_fits : (f : ℕ → ℕ) → ((b : ℕ) → b < 256 → fits (f b) ≡ true) → (xs : List ℕ) → Each1 (λ (b : ℕ). b < 256) xs
    → Each1 (λ (j : ℕ). T (leb 128 j || ltb j 16)) (map f xs)
each_fits f all [] h = tt
each_fits f all (x ∷ xs) (p, ps) = (T_from_true (fits (f x)) (all x p), each_fits f all xs ps)

pub places : (f : ℕ → ℕ) → map (λ (b : ℕ). fits (f b)) (range_with_len 0 256) ≡ map (λ (b : ℕ). true) (range_with_len 0 256)
    → (x y : List ℕ) → y ≡ map f x → Each1 (λ (b : ℕ). b < 256) x → Each1 (λ (j : ℕ). T (leb 128 j || ltb j 16)) y
places f table x y ey below = rw ey (each_fits f (fits_at f table) x below)

-- # Functions that are the same on octets

pub at : (f g : ℕ → ℕ) → map f (range_with_len 0 256) ≡ map g (range_with_len 0 256) → (b : ℕ) → b < 256 → f b ≡ g b
at f g same b low =
    sym (get_or-map-range_with_len f 0 256 b b 0 low (omega arith))
    ∙ ap (λ (xs : List ℕ). get_or xs b 0) same ∙ get_or-map-range_with_len g 0 256 b b 0 low (omega arith)

lanes : (f g : ℕ → ℕ) → map f (range_with_len 0 256) ≡ map g (range_with_len 0 256)
    → (xs : List ℕ) → Each1 (λ (b : ℕ). b < 256) xs → map f xs ≡ map g xs
lanes f g same [] h = refl
lanes f g same (x ∷ xs) (p, ps) = λ i. at f g same x p i ∷ lanes f g same xs ps i

abbrev id : ℕ → ℕ
id b = b

map_id : (xs : List ℕ) → map id xs ≡ xs
map_id [] = refl
map_id (x ∷ xs) = λ i. x ∷ map_id xs i

stays : (f : ℕ → ℕ) → map f (range_with_len 0 256) ≡ map id (range_with_len 0 256)
    → (xs : List ℕ) → Each1 (λ (b : ℕ). b < 256) xs → map f xs ≡ xs
stays f same xs low = lanes f id same xs low ∙ map_id xs

-- # Octets turned and back

pub turned_back : (xs : List ℕ) → Each1 (λ (b : ℕ). b < 256) xs → map unturned (map turned xs) ≡ xs
turned_back xs low = map_map unturned turned xs ∙ stays (λ (b : ℕ). unturned (turned b)) refl xs low

abbrev plus_99 : ℕ → ℕ
plus_99 b = bit_xor b 99

pub hidden_back : (k r : List ℕ) → length k ≡ 16 → Each1 (λ (b : ℕ). b < 256) k → r ≡ zip2 bit_xor k (replicate 16 91)
    → map unhidden r ≡ map unturned k
hidden_back k r len low er =
    ap (map unhidden) (er ∙ zip_const bit_xor 91 16 k len) ∙ map_map unhidden (λ (b : ℕ). bit_xor b 91) k
    ∙ lanes (λ (b : ℕ). unhidden (bit_xor b 91)) unturned refl k low

-- # SubBytes

abbrev plain_box : ℕ → ℕ
plain_box b = bit_xor (plain b) 99

abbrev turned_box : ℕ → ℕ
turned_box b = s_box (unturned b)

all_plain : map plain_box (range_with_len 0 256) ≡ map turned_box (range_with_len 0 256)
unfolding product inverse s_box
all_plain = refl

pub lanes_plain : (xs : List ℕ) → Each1 (λ (b : ℕ). b < 256) xs → map plain_box xs ≡ map s_box (map unturned xs)
lanes_plain xs low = lanes plain_box turned_box all_plain xs low ∙ sym (map_map s_box unturned xs)

-- look-ups of the halves, and their sum
pub looked : (x g h u v w us vs : List ℕ) → g ≡ map half_g x → h ≡ map half_h x → u ≡ map (entry us) g → v ≡ map (entry vs) h
    → w ≡ zip2 bit_xor u v → w ≡ map (λ (b : ℕ). bit_xor (entry us (half_g b)) (entry vs (half_h b))) x
looked x g h u v w us vs eg eh eu ev ew =
    via_zip (λ (b : ℕ). entry us (half_g b)) (λ (b : ℕ). entry vs (half_h b)) x u v w
    (via_map (entry us) half_g x g u eg eu) (via_map (entry vs) half_h x h v eh ev) ew

pub boxed : (x w y : List ℕ) → length x ≡ 16 → Each1 (λ (b : ℕ). b < 256) x → w ≡ map plain x → y ≡ zip2 bit_xor w (replicate 16 99)
    → y ≡ map s_box (map unturned x)
boxed x w y len low ew ey =
    ey ∙ (λ i. zip2 bit_xor (ew i) (replicate 16 99)) ∙ zip_const bit_xor 99 16 (map plain x) (length-map x plain ∙ len)
    ∙ map_map plus_99 plain x ∙ lanes_plain x low

-- # The octet at each step of the halves

abbrev pub fun_i : ℕ → ℕ
fun_i b = b / 16

abbrev pub fun_k : ℕ → ℕ
fun_k b = bit_and b 15

abbrev pub fun_f : ℕ → ℕ
fun_f b = entry scaled_inverses (fun_k b)

abbrev pub fun_j : ℕ → ℕ
fun_j b = bit_xor (fun_i b) (fun_k b)

abbrev pub fun_p : ℕ → ℕ
fun_p b = entry inverses (fun_i b)

abbrev pub fun_m : ℕ → ℕ
fun_m b = bit_xor (fun_p b) (fun_f b)

abbrev pub fun_q : ℕ → ℕ
fun_q b = entry inverses (fun_j b)

abbrev pub fun_n : ℕ → ℕ
fun_n b = bit_xor (fun_q b) (fun_f b)

abbrev pub fun_r : ℕ → ℕ
fun_r b = entry inverses (fun_m b)

abbrev pub fun_g : ℕ → ℕ
fun_g b = bit_xor (fun_r b) (fun_j b)

abbrev pub fun_s : ℕ → ℕ
fun_s b = entry inverses (fun_n b)

abbrev pub fun_h : ℕ → ℕ
fun_h b = bit_xor (fun_s b) (fun_i b)
