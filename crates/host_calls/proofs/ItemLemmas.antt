-- Items that were written are read back.
use Rattle.std.proofs.Common.{◌≡◌, ℕ, ◌+◌, ◌*◌, ◌/◌, ◌%◌, nat_lt, Bool, false, List, [], ◌∷◌, ◌++◌, length, take, drop, Some, None}
use Rattle.std.proofs.Common.{refl, sym, ap, ◌∙◌, arith, length-append}
use Rattle.std.proofs.lemmas.Bool.{le-ltb}
use Rattle.std.specs.Prelude.{if◌then◌else◌}
use Rattle.std.proofs.lemmas.Option.{same_Some}
use Rattle.host_calls.specs.Items.{Read, item_of, item_in, ItemsAreReadBack, SpellingsAreUnique}

take_own : (xs ys : List ℕ) → take (length xs) (xs ++ ys) ≡ xs
take_own [] ys = refl
take_own (x ∷ xs) ys = ap (λ (l : List ℕ). x ∷ l) (take_own xs ys)

drop_own : (xs ys : List ℕ) → drop (length xs) (xs ++ ys) ≡ ys
drop_own [] ys = refl
drop_own (x ∷ xs) ys = drop_own xs ys

is_there : (xs ys : List ℕ) → nat_lt (length (xs ++ ys)) (length xs) ≡ false
is_there xs ys = le-ltb (length (xs ++ ys)) (length xs) (omega (arith, length-append xs ys))

of_own : (kind : ℕ) (xs ys : List ℕ) → item_of kind (length xs) (xs ++ ys) ≡ Some (record { item = record { kind = kind; octets = xs }; rest = ys })
of_own kind xs ys =
    ap (λ (short : Bool). if short then None
    else Some (record { item = record { kind = kind; octets = take (length xs) (xs ++ ys) }; rest = drop (length xs) (xs ++ ys) }))
    (is_there xs ys)
    ∙ (λ i. Some (record { item = record { kind = kind; octets = take_own xs ys i }; rest = drop_own xs ys i }))

two_digits : (n : ℕ) → 256 * (n / 256) + n % 256 ≡ n
two_digits n = omega arith

pub back : ItemsAreReadBack
back item rest =
    ap (λ (n : ℕ). item_of item.kind n (item.octets ++ rest)) (two_digits (length item.octets)) ∙ of_own item.kind item.octets rest

pub unique : SpellingsAreUnique
unique one two rest more e =
    let same : record { item = one; rest = rest } ≡ record { item = two; rest = more } =
    same_Some _ _ (sym (back one rest) ∙ ap item_in e ∙ back two more) in
    (ap (λ (r : Read). r.item) same, ap (λ (r : Read). r.rest) same)
