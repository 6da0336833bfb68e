-- Tags by their spellings, and which of them are the same.
use Rattle.std.proofs.Common.{◌≡◌, inl, inr, ℕ, zero, suc, ◌-◌, ◌*◌, ◌^◌, ◌<◌, ◌≤◌, Bool, true, false, All, List, [], ◌∷◌, ◌++◌, length, map, max, take, drop}
use Rattle.std.proofs.Common.{Some, refl, sym, ap, subst, ◌∙◌, arith, length-append}
use Rattle.std.specs.Prelude.{slice_get, slice_index, not, nat_eq, ◌==◌, ◌||◌, ◌&&◌, Result, Ok, Err, OnOk, OnErr}
use Rattle.std.specs.List.{list_any}
use Rattle.std.specs.Str.{bytes_eq}
use Rattle.std.specs.Cmp.Lexicographic.{bytes_decides}
use Rattle.std.proofs.Math.Seq.{drop-append_seam, take-append_seam}
use Rattle.std.proofs.Math.Dec.{eqb-suc-zero}
use Rattle.std.proofs.lemmas.Bool.{cases_lt, eqb-true, eq-eqb}
use Rattle.std.proofs.lemmas.Option.{slice_get_within}
use Rattle.std.proofs.lemmas.List.Elements.{All-nil, All-cons}
use Rattle.byteorder.specs.Endian.{big_bytes, big_number}
use Rattle.byteorder.specs.Numbers.{big_number-reads_back, length-bytes_high_first}
use Rattle.octet_log.specs.Logs.{Log, IsLast}
use Rattle.octet_log.proofs.Lasts.{got_left, got_last}
use Rattle.plc_base.specs.declared.address.Eui.{Eui}
use Rattle.plc_base.specs.declared.tags.PairTag.{PairTag}
use Rattle.plc_base.specs.declared.tags.PairTag.TheVariants.{MacP, MacS, Channel}
use Rattle.plc_base.specs.Tags.{IsTag, tag_octets}
use Rattle.plc_base.proofs.NumbersOfOctets.{bytes_high_first-big_from}
use Rattle.node_rules.specs.Acceptance.{same_eui}
use Rattle.line_flights.specs.Flights.{same_rand, same_tag, is_forged_tag}
use Rattle.line_flights.specs.SpelledTags.{tag_of, channel_by, field_of, behind_field, IsSpelling, AreSpelled}

front : (n : ℕ) (xs ys : List ℕ) → length xs ≡ n → take n (xs ++ ys) ≡ xs
front n xs ys e = ap (λ k. take k (xs ++ ys)) (sym e) ∙ take-append_seam xs ys

behind : (n : ℕ) (xs ys : List ℕ) → length xs ≡ n → drop n (xs ++ ys) ≡ ys
behind n xs ys e = ap (λ k. drop k (xs ++ ys)) (sym e) ∙ drop-append_seam xs ys

-- # The tag of a spelling

channel_back : (eui rand : List ℕ) (nonce : ℕ) (header text : List ℕ) → nonce < 2 ^ 32
    → channel_by eui rand (big_bytes 4 nonce ++ (length header ∷ (header ++ text))) ≡ Channel (record { 0 = eui }) (record { 0 = rand }) nonce header text
channel_back eui rand nonce header text range =
    let rest = length header ∷ (header ++ text) in
    let number : big_number 4 (big_bytes 4 nonce ++ rest) ≡ nonce = big_number-reads_back 4 nonce rest (omega (arith, range)) in
    let tail : drop 4 (big_bytes 4 nonce ++ rest) ≡ rest = behind 4 (big_bytes 4 nonce) rest (length-bytes_high_first 4 nonce) in
    let head : field_of (drop 4 (big_bytes 4 nonce ++ rest)) ≡ header = ap field_of tail ∙ front (length header) header text refl in
    let plain : behind_field (drop 4 (big_bytes 4 nonce ++ rest)) ≡ text = ap behind_field tail ∙ behind (length header) header text refl in
    λ i. Channel (record { 0 = eui }) (record { 0 = rand }) (number i) (head i) (plain i)

pub tag_back : (tag : PairTag) → IsTag tag → tag_of (tag_octets tag) ≡ tag
unfolding tag_of
tag_back (MacP eui text) is =
    let first = front 8 eui.0 text is in
    let last = behind 8 eui.0 text is in
    λ i. MacP (record { 0 = first i }) (last i)
tag_back (MacS eui text) is =
    let first = front 8 eui.0 text is in
    let last = behind 8 eui.0 text is in
    λ i. MacS (record { 0 = first i }) (last i)
tag_back (Channel eui rand nonce header text) is =
    let tail = big_bytes 4 nonce ++ (length header ∷ (header ++ text)) in
    let first = front 8 eui.0 (rand.0 ++ tail) is.0 in
    let last = behind 8 eui.0 (rand.0 ++ tail) is.0 in
    let second : take 16 (drop 8 (eui.0 ++ (rand.0 ++ tail))) ≡ rand.0 = ap (take 16) last ∙ front 16 rand.0 tail is.1 in
    let third : drop 16 (drop 8 (eui.0 ++ (rand.0 ++ tail))) ≡ tail = ap (drop 16) last ∙ behind 16 rand.0 tail is.1 in
    (λ i. channel_by (first i) (second i) (third i)) ∙ channel_back eui.0 rand.0 nonce header text is.2

pub spelling_of : (tag : PairTag) (octets : List ℕ) → octets ≡ tag_octets tag → IsTag tag → ((k : ℕ) → slice_index octets k < 256) → IsSpelling octets
spelling_of tag octets e is small =
    let back : tag_of octets ≡ tag = ap tag_of e ∙ tag_back tag is in record {
      back = ap tag_octets back ∙ sym e;
      sound = subst IsTag (sym back) is;
      octet = small;
    }

-- # The log

pub spelled_push : (log : Log) (octets : List ℕ) → AreSpelled log → IsSpelling octets → 1 ≤ log.places → length octets ≤ 158
    → AreSpelled (record { strings = log.strings ++ octets ∷ []; places = log.places - 1; room = log.room - length octets })
spelled_push log octets was is some short = record {
  each = λ k string e. elim (cases_lt k (length log.strings)) [
    | inl before ↦ was.each k string (sym (got_left log.strings (octets ∷ []) k before) ∙ e)
    | inr behind ↦
        let inside = slice_get_within (log.strings ++ octets ∷ []) k string e in
        let last : length log.strings ≡ k = omega (arith, behind, inside, length-append log.strings (octets ∷ [])) in
        let one : Some octets ≡ Some string = sym (got_last log.strings octets k last) ∙ e in
        let same : octets ≡ string = cc in subst IsSpelling same is
  ];
  fit = omega (arith, was.fit, some, short);
}

pub spelled_reserve : {T E : Type 0} (r : Result T E) (log new : Log) (tags octets : ℕ) → octets ≡ 158 * tags
    → OnOk r (new ≡ record log { places = max log.places tags; room = max log.room octets }) → OnErr r (new ≡ log) → AreSpelled log → AreSpelled new
spelled_reserve (Err e) log new tags octets count ok err was = subst AreSpelled (sym err) was
spelled_reserve (Ok t) log new tags octets count ok err was = subst AreSpelled (sym ok) (record { each = was.each; fit = omega (arith, was.fit, count) })

-- # The same tag

both : (a b : Bool) → a && b ≡ true → (a ≡ true) × (b ≡ true)
both true b h = (refl, h)
both false b h = absurd (cc h)

octets_left : (xs ys : List ℕ) → ((k : ℕ) → slice_index (xs ++ ys) k < 256) → All (λ x. x < 256) xs
octets_left [] ys small = All-nil (λ x. x < 256)
octets_left (x ∷ xs) ys small = All-cons (λ x. x < 256) x xs (small 0) (octets_left xs ys (λ k. small (suc k)))

-- EUIs of octets are the same where their numbers are
one_eui : (a b : Eui) (s t : List ℕ) → length a.0 ≡ 8 → length b.0 ≡ 8 → ((k : ℕ) → slice_index (a.0 ++ s) k < 256) → ((k : ℕ) → slice_index (b.0 ++ t) k < 256)
    → same_eui a b ≡ true → a.0 ≡ b.0
one_eui a b s t p q small_a small_b e =
    sym (bytes_high_first-big_from 8 a.0 p (octets_left a.0 s small_a)) ∙ ap (big_bytes 8) (eqb-true (big_number 8 a.0) (big_number 8 b.0) e)
    ∙ bytes_high_first-big_from 8 b.0 q (octets_left b.0 t small_b)

one_string : (a b : List ℕ) → bytes_eq a b ≡ true → a ≡ b
one_string a b e = (bytes_decides a b).0 e

pub one_tag : (a b : PairTag) → IsTag a → IsTag b → ((k : ℕ) → slice_index (tag_octets a) k < 256) → ((k : ℕ) → slice_index (tag_octets b) k < 256)
    → same_tag a b ≡ true → a ≡ b
one_tag (MacP a s) (MacP b t) p q small_a small_b e =
    let h = both (same_eui a b) (bytes_eq s t) e in
    let eui = one_eui a b s t p q (λ k. small_a (suc k)) (λ k. small_b (suc k)) h.0 in
    let text = one_string s t h.1 in
    λ i. MacP (record { 0 = eui i }) (text i)
one_tag (MacP a s) (MacS b t) p q small_a small_b e = absurd (cc e)
one_tag (MacP a s) (Channel b y n h t) p q small_a small_b e = absurd (cc e)
one_tag (MacS a s) (MacP b t) p q small_a small_b e = absurd (cc e)
one_tag (MacS a s) (MacS b t) p q small_a small_b e =
    let h = both (same_eui a b) (bytes_eq s t) e in
    let eui = one_eui a b s t p q (λ k. small_a (suc k)) (λ k. small_b (suc k)) h.0 in
    let text = one_string s t h.1 in
    λ i. MacS (record { 0 = eui i }) (text i)
one_tag (MacS a s) (Channel b y n h t) p q small_a small_b e = absurd (cc e)
one_tag (Channel a x m g s) (MacP b t) p q small_a small_b e = absurd (cc e)
one_tag (Channel a x m g s) (MacS b t) p q small_a small_b e = absurd (cc e)
one_tag (Channel a x m g s) (Channel b y n h t) p q small_a small_b e =
    let r1 = both (same_eui a b) _ e in
    let r2 = both (same_rand x y) _ r1.1 in
    let r3 = both (m == n) _ r2.1 in
    let r4 = both (bytes_eq g h) (bytes_eq s t) r3.1 in
    let eui = one_eui a b _ _ p.0 q.0 (λ k. small_a (suc k)) (λ k. small_b (suc k)) r1.0 in
    let rand = one_string x.0 y.0 r2.0 in
    let nonce = eqb-true m n r3.0 in
    let header = one_string g h r4.0 in
    let text = one_string s t r4.1 in
    λ i. Channel (record { 0 = eui i }) (record { 0 = rand i }) (nonce i) (header i) (text i)

own_string : (s : List ℕ) → bytes_eq s s ≡ true
own_string s = (bytes_decides s s).1 refl

own_eui : (a : Eui) → same_eui a a ≡ true
own_eui a = eq-eqb (big_number 8 a.0) (big_number 8 a.0) refl

pub own_tag : (tag : PairTag) → same_tag tag tag ≡ true
own_tag (MacP a s) = rw (own_eui a, own_string s) refl
own_tag (MacS a s) = rw (own_eui a, own_string s) refl
own_tag (Channel a x m g s) = rw (own_eui a, own_string x.0, eq-eqb m m refl, own_string g, own_string s) refl

-- # Which tags are forged

either_true : (b : Bool) → b || true ≡ true
either_true true = refl
either_true false = refl

module _ (tag : PairTag) (is : IsTag tag) (small : (k : ℕ) → slice_index (tag_octets tag) k < 256) where
  other : (octets : List ℕ) → IsSpelling octets → (octets ≡ tag_octets tag → ⊥) → same_tag tag (tag_of octets) ≡ false
  other octets spelled differs = by_test (same_tag tag (tag_of octets)) refl
    where
      by_test : (b : Bool) → same_tag tag (tag_of octets) ≡ b → same_tag tag (tag_of octets) ≡ false
      by_test false e = e
      by_test true e =
          let small_too = subst (λ (l : List ℕ). (k : ℕ) → slice_index l k < 256) (sym spelled.back) spelled.octet in
          let one : tag ≡ tag_of octets = one_tag tag (tag_of octets) is spelled.sound small small_too e in
          absurd (differs (sym spelled.back ∙ sym (ap tag_octets one)))

  none_same : (strings : List (List ℕ)) → ((k : ℕ) (octets : List ℕ) → slice_get strings k ≡ Some octets → IsSpelling octets)
      → ((k : ℕ) → slice_get strings k ≡ Some (tag_octets tag) → ⊥) → list_any (same_tag tag) (map tag_of strings) ≡ false
  none_same [] each none = refl
  none_same (s ∷ strings) each none =
      ap (λ b. b || list_any (same_tag tag) (map tag_of strings)) (other s (each 0 s refl) (λ e. none 0 (ap Some e)))
      ∙ none_same strings (λ k octets e. each (suc k) octets e) (λ k e. none (suc k) e)

  one_same : (strings : List (List ℕ)) (k : ℕ) → slice_get strings k ≡ Some (tag_octets tag) → list_any (same_tag tag) (map tag_of strings) ≡ true
  one_same [] k e = absurd cc
  one_same (s ∷ strings) zero e =
      let same : s ≡ tag_octets tag = cc in
      let back : tag_of s ≡ tag = ap tag_of same ∙ tag_back tag is in
      ap (λ b. b || list_any (same_tag tag) (map tag_of strings)) (ap (same_tag tag) back ∙ own_tag tag)
  one_same (s ∷ strings) (suc k) e = ap (λ b. same_tag tag (tag_of s) || b) (one_same strings k e) ∙ either_true (same_tag tag (tag_of s))

  pub forged_by_last : (strings : List (List ℕ)) (n : ℕ) → ((k : ℕ) (octets : List ℕ) → slice_get strings k ≡ Some octets → IsSpelling octets)
      → IsLast strings (tag_octets tag) n → nat_eq n 0 ≡ is_forged_tag (map tag_of strings) tag
  forged_by_last strings zero each last = sym (ap not (none_same strings each (λ k e. last.none k (omega arith) e)))
  forged_by_last strings (suc n) each last =
      let place : n ≡ suc n - 1 = omega arith in
      rw (eqb-suc-zero n) (sym (ap not (one_same strings n (ap (λ k. slice_get strings k) place ∙ last.here (omega arith)))))
