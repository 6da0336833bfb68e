-- Chains of numbers, link by link.
use Rattle.std.proofs.Common.{◌≡◌, inl, inr, ℕ, zero, suc, ◌+◌, ◌-◌, ◌<◌, ◌≤◌, List, [], ◌∷◌, ◌++◌, length, take, set, get_or, replicate, refl, sym, subst, ◌∙◌}
use Rattle.std.proofs.Common.{arith, length-append}
use Rattle.std.specs.Prelude.{slice_index}
use Rattle.std.proofs.lemmas.Bool.{cases_lt, cases_eq}
use Rattle.std.proofs.lemmas.List.{get_or_append_left, get_or_push, get_or-set_same, get_or-set_other, take_all, take-append-le, map_push, length-map}
use Rattle.std.proofs.lemmas.List.{length-set}
use Rattle.octet_log.specs.declared.chains.Link.{Link}
use Rattle.octet_log.specs.LogChains.{IsLinked, chains_of, befores_of}
use Rattle.octet_log.specs.Logs.{IsLast}
use Rattle.octet_log.proofs.Lasts.{other_pushed, own_pushed}

pub zeros_at : (n k : ℕ) → ◌≡◌ {A = ℕ} (get_or (replicate n 0) k 0) 0
zeros_at zero k = refl
zeros_at (suc n) zero = refl
zeros_at (suc n) (suc k) = zeros_at n k

-- one more link
pub linked_push : (heads : List ℕ) (links : List Link) (places most : ℕ) → IsLinked heads links places most → (l : Link) → l.chain < 16384 → 1 ≤ places
    → l.before ≡ slice_index heads l.chain
    → (n most' : ℕ) → n ≡ length links + 1 → most ≤ most' → IsLinked (set heads l.chain n) (links ++ l ∷ []) (places - 1) most'
linked_push heads links places most was l in_range some before n most' number more =
    let size : length heads ≡ 16384 = was.made (omega (arith, some)) in
    let count : length (chains_of links) ≡ length links = length-map links (λ (l : Link). l.chain) in
    let count2 : length (befores_of links) ≡ length links = length-map links (λ (l : Link). l.before) in
    let grown : chains_of (links ++ l ∷ []) ≡ chains_of links ++ l.chain ∷ [] = map_push (λ (l : Link). l.chain) links l in
    let grown2 : befores_of (links ++ l ∷ []) ≡ befores_of links ++ l.before ∷ [] = map_push (λ (l : Link). l.before) links l in
    let size2 : length (set heads l.chain n) ≡ 16384 = omega (arith, size, length-set heads l.chain n) in record {
      size = inr size2;
      made = λ _. size2;
      fit = omega (arith, was.fit, some, more, length-append links (l ∷ []));
      head = λ chain range. subst (λ (cs : List ℕ). IsLast cs chain (slice_index (set heads l.chain n) chain)) (sym grown) (elim (cases_eq chain l.chain) [
        | inl same ↦ subst (λ c. IsLast (chains_of links ++ l.chain ∷ []) c (slice_index (set heads l.chain n) c)) (sym same)
            (subst (IsLast (chains_of links ++ l.chain ∷ []) l.chain) (sym (get_or-set_same heads l.chain n 0 (omega (arith, size, in_range))))
            (own_pushed (chains_of links) l.chain n (omega (arith, number, count))))
        | inr other ↦ subst (IsLast (chains_of links ++ l.chain ∷ []) chain) (sym (get_or-set_other heads l.chain chain n 0 other))
            (other_pushed (chains_of links) chain l.chain (slice_index heads chain) (λ e. other (sym e)) (was.head chain range))
      ]);
      before = λ k inside. rw (grown, grown2) (elim (cases_lt k (length links)) [
        | inl old ↦
            let cut = take-append-le k (chains_of links) (l.chain ∷ []) (omega (arith, old, count)) in
            let at = get_or_append_left (chains_of links) (l.chain ∷ []) 0 k (omega (arith, old, count)) in
            let at2 = get_or_append_left (befores_of links) (l.before ∷ []) 0 k (omega (arith, old, count2)) in
            rw (cut, at, at2) (was.before k old)
        | inr new ↦
            let last : length links ≡ k = omega (arith, new, inside, length-append links (l ∷ [])) in
            let cut : take k (chains_of links ++ l.chain ∷ []) ≡ chains_of links = take-append-le k (chains_of links) (l.chain ∷ [])
            (omega (arith, last, count)) ∙ take_all k (chains_of links) (omega (arith, last, count)) in
            let at = get_or_push (chains_of links) l.chain 0 k (omega (arith, last, count)) in
            let at2 = get_or_push (befores_of links) l.before 0 k (omega (arith, last, count2)) in
            rw (cut, at, at2, before) (was.head l.chain in_range)
      ]);
    }
