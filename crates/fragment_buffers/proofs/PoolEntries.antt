-- What a pool owes to the entries, over the calls that change both.
use Rattle.std.proofs.Common.{◌≡◌, ℕ, suc, ◌+◌, ◌<◌, ◌≤◌, ◌⊎◌, inl, inr, List, [], ◌∷◌, ◌++◌, length, map, get_or, set, take, drop, nat_lt, if◌then◌else◌}
use Rattle.std.proofs.Common.{refl, sym, ap, subst, ◌∙◌, arith, length-append, length-set}
use Rattle.std.proofs.lemmas.Bool.{cases_lt, cases_eq}
use Rattle.std.proofs.lemmas.List.{get_or_append_left, get_or_push, get_or-set_same, get_or-set_other, map-append, length-map, get_or-map, same_lists}
use Rattle.std.proofs.lemmas.List.Sums.{sum_by_push, sum_by-remove, sum_by-set, sum_by-cons}
use Rattle.std.proofs.lemmas.List.Edits.{get_or-remove_below, get_or-remove_above, length-remove}
use Rattle.std.proofs.lemmas.List.Elements.{All-from_get_or, All-set, All-push, All-append, All-take, All-drop}
use Rattle.std.specs.List.{remove, All, take-map, drop-map}
use Rattle.block_pool.specs.Pool.{PoolState, IsChain, chain_octets}
use Rattle.block_pool.proofs.Callers.{is_chain_if_long}
use Rattle.fragment_buffers.specs.Reassembly.{Reassembly}
use Rattle.fragment_buffers.specs.PieceIntake.{blocks, blocks_held}
use Rattle.fragment_buffers.specs.Entries.{Entry, no_entry, entry_at, blocks_used, piece_in, reassembly_in, reassemblies_in, Keeps, Moves, IsBounded}
use Rattle.fragment_buffers.proofs.Octets.{map_same}
pub use Rattle.fragment_buffers.specs.Steps.{Begins, Changes}
use Rattle.fragment_buffers.specs.Steps.{Stays}

-- each entry is of a datagram with octets
abbrev pub AreSome : List Entry → Type 0
AreSome es = All (λ e. 0 < e.size) es

pub kept_chain : (p : PoolState) (es : List Entry) (i : ℕ) → Keeps p es → AreSome es → i < length es → IsChain p (entry_at es i).chain
kept_chain p es i k some lt = is_chain_if_long p _ (omega (arith, k.lengths i lt, some i no_entry lt))

-- # What the entries tell

gathered_entry_same : (p q : PoolState) (e : Entry) → chain_octets q e.chain ≡ chain_octets p e.chain → reassembly_in q e ≡ reassembly_in p e
gathered_entry_same p q e same =
    ap (λ os. record { origin = e.origin; size = e.size; tag = e.tag; note = e.note; since = e.since; pieces = map (piece_in os) e.places }) same

pub gathered_same : (p q : PoolState) (es : List Entry)
    → ((i : ℕ) → i < length es → chain_octets q (entry_at es i).chain ≡ chain_octets p (entry_at es i).chain) → reassemblies_in q es ≡ reassemblies_in p es
gathered_same p q es same =
    map_same (reassembly_in q) (reassembly_in p) es
    (All-from_get_or (λ e. reassembly_in q e ≡ reassembly_in p e) es no_entry (λ i lt. gathered_entry_same p q (entry_at es i) (same i lt)))

pub gathered_at : (p : PoolState) (es : List Entry) (i : ℕ) (d : Reassembly) → i < length es
    → get_or (reassemblies_in p es) i d ≡ reassembly_in p (entry_at es i)
gathered_at p es i d lt = get_or-map (reassembly_in p) es i no_entry d lt

pub blocks_gathered : (p : PoolState) (es : List Entry) → blocks_held (reassemblies_in p es) ≡ blocks_used es
blocks_gathered p [] = refl
blocks_gathered p (e ∷ es) = sum_by-cons (λ r. blocks r.size) (reassembly_in p e) (reassemblies_in p es) ∙ ap (λ n. blocks e.size + n) (blocks_gathered p es)
    ∙ sym (sum_by-cons (λ e. blocks e.size) e es)

-- # An entry more

entry_before : (es : List Entry) (e : Entry) (i : ℕ) → i < length es → entry_at (es ++ e ∷ []) i ≡ entry_at es i
entry_before es e i lt = get_or_append_left es (e ∷ []) no_entry i lt

entry_last : (es : List Entry) (e : Entry) (i : ℕ) → i ≡ length es → entry_at (es ++ e ∷ []) i ≡ e
entry_last es e i last = ap (entry_at (es ++ e ∷ [])) last ∙ get_or_push es e no_entry (length es) refl

before_or_last : (es : List Entry) (e : Entry) (i : ℕ) → i < length (es ++ e ∷ []) → (i < length es) ⊎ (i ≡ length es)
before_or_last es e i lt = elim (cases_lt i (length es)) [ inl less ↦ inl less | inr more ↦ inr (omega (arith, length-append es (e ∷ []))) ]

pub gathered_push : (p q : PoolState) (es : List Entry) (e : Entry) → Keeps p es → AreSome es → Begins p q e
    → reassemblies_in q (es ++ e ∷ []) ≡ reassemblies_in p es ++ reassembly_in q e ∷ []
gathered_push p q es e k some b =
    map-append (reassembly_in q) es (e ∷ [])
    ∙ ap (λ rs. rs ++ reassembly_in q e ∷ []) (gathered_same p q es (λ i lt. (b.others _ (kept_chain p es i k some lt)).1))

pub keeps_push : (p q : PoolState) (es : List Entry) (e : Entry) → Keeps p es → AreSome es → Begins p q e → Keeps q (es ++ e ∷ [])
keeps_push p q es e k some b =
    let more : List Entry = es ++ e ∷ [] in
    let sum : blocks_used more ≡ blocks_used es + blocks e.size = sum_by_push (λ e. blocks e.size) es e in
    let other : (i : ℕ) → i < length es → (entry_at es i).chain ≡ e.chain → ⊥ = λ i lt bad. b.new (subst (IsChain p) bad (kept_chain p es i k some lt)) in
    record {
      lengths = λ i lt. elim (before_or_last es e i lt) as (λ _. length (chain_octets q (entry_at more i).chain) ≡ (entry_at more i).size) [
        | inl less ↦ subst (λ (w : Entry). length (chain_octets q w.chain) ≡ w.size) (sym (entry_before es e i less))
            (ap length (b.others _ (kept_chain p es i k some less)).1 ∙ k.lengths i less)
        | inr last ↦ subst (λ (w : Entry). length (chain_octets q w.chain) ≡ w.size) (sym (entry_last es e i last)) b.long
      ];
      distinct = λ i j li lj same. elim (before_or_last es e i li) as (λ _. i ≡ j) [
        | inl less ↦ elim (before_or_last es e j lj) as (λ _. i ≡ j) [
          | inl less' ↦ k.distinct i j less less'
              (ap (λ (w : Entry). w.chain) (sym (entry_before es e i less)) ∙ same ∙ ap (λ (w : Entry). w.chain) (entry_before es e j less'))
          | inr last ↦ absurd (other i less
              (ap (λ (w : Entry). w.chain) (sym (entry_before es e i less)) ∙ same ∙ ap (λ (w : Entry). w.chain) (entry_last es e j last)))
        ]
        | inr last ↦ elim (before_or_last es e j lj) as (λ _. i ≡ j) [
          | inl less' ↦ absurd (other j less'
              (ap (λ (w : Entry). w.chain) (sym (entry_before es e j less')) ∙ sym same ∙ ap (λ (w : Entry). w.chain) (entry_last es e i last)))
          | inr last' ↦ last ∙ sym last'
        ]
      ];
      room = omega (arith, sum, b.free, k.room);
    }

pub moves_push : (p q : PoolState) (es : List Entry) (e : Entry) → Begins p q e → Moves p q es (es ++ e ∷ [])
moves_push p q es e b = record {
  free = omega (arith, sum_by_push (λ (e : Entry). blocks e.size) es e, b.free);
  others = λ c is.
      let stays = b.others c is.0 in (
        (
          stays.0,
          λ i lt same. elim (before_or_last es e i lt) as (λ _. ⊥) [
            | inl less ↦ is.1 i less (ap (λ (w : Entry). w.chain) (sym (entry_before es e i less)) ∙ same)
            | inr last ↦ b.new (subst (IsChain p) (sym (ap (λ (w : Entry). w.chain) (sym (entry_last es e i last)) ∙ same)) is.0)
          ],
        ),
        stays.1,
      );
}

-- # An entry changed

entry_set : (es : List Entry) (i : ℕ) (e : Entry) (j : ℕ) → i < length es
    → ((j ≡ i) × (entry_at (set es i e) j ≡ e)) ⊎ ((j ≡ i → ⊥) × (entry_at (set es i e) j ≡ entry_at es j))
entry_set es i e j lt = elim (cases_eq j i) [
  | inl same ↦ inl (same, ap (entry_at (set es i e)) same ∙ get_or-set_same es i e no_entry lt)
  | inr ne ↦ inr (ne, get_or-set_other es i j e no_entry ne)
]

chain_set : (p q : PoolState) (es : List Entry) (i : ℕ) (e : Entry) (j : ℕ) → Changes p q es i e → (entry_at (set es i e) j).chain ≡ (entry_at es j).chain
chain_set p q es i e j c = elim (entry_set es i e j c.there) [
  | inl here ↦ ap (λ (w : Entry). w.chain) here.1 ∙ c.chain ∙ ap (λ k. (entry_at es k).chain) (sym here.0)
  | inr other ↦ ap (λ (w : Entry). w.chain) other.1
]

apart_from : (p : PoolState) (es : List Entry) (i j : ℕ) → Keeps p es → i < length es → j < length es → (j ≡ i → ⊥)
    → (entry_at es j).chain ≡ (entry_at es i).chain → ⊥
apart_from p es i j k li lj ne same = ne (k.distinct j i lj li same)

pub keeps_set : (p q : PoolState) (es : List Entry) (i : ℕ) (e : Entry) → Keeps p es → AreSome es → Changes p q es i e → Keeps q (set es i e)
keeps_set p q es i e k some c =
    let sum : blocks_used (set es i e) + blocks (entry_at es i).size
    ≡ blocks_used es + blocks e.size = sum_by-set (λ e. blocks e.size) es i e no_entry c.there in
    let n : length (set es i e) ≡ length es = length-set es i e in
    record {
      lengths = λ j lj. elim (entry_set es i e j c.there) as (λ _. length (chain_octets q (entry_at (set es i e) j).chain) ≡ (entry_at (set es i e) j).size) [
        | inl here ↦ subst (λ (w : Entry). length (chain_octets q w.chain) ≡ w.size) (sym here.1) c.long
        | inr other ↦ subst (λ (w : Entry). length (chain_octets q w.chain) ≡ w.size) (sym other.1)
            (ap length (c.others _ (apart_from p es i j k c.there (omega (arith, n)) other.0) (kept_chain p es j k some (omega (arith, n)))).1
            ∙ k.lengths j (omega (arith, n)))
      ];
      distinct = λ j m lj lm same. k.distinct j m (omega (arith, n)) (omega (arith, n)) (sym (chain_set p q es i e j c) ∙ same ∙ chain_set p q es i e m c);
      room = omega (arith, sum, ap (λ n. blocks n) c.size_is, c.free, k.room);
    }

pub gathered_set : (p q : PoolState) (es : List Entry) (i : ℕ) (e : Entry) → Keeps p es → AreSome es → Changes p q es i e
    → reassemblies_in q (set es i e) ≡ set (reassemblies_in p es) i (reassembly_in q e)
gathered_set p q es i e k some c =
    let n : length (set es i e) ≡ length es = length-set es i e in
    let new : length (reassemblies_in q (set es i e)) ≡ length es = length-map (set es i e) (reassembly_in q) ∙ n in
    let old : length (reassemblies_in p es) ≡ length es = length-map es (reassembly_in p) in
    same_lists _ _ (new ∙ sym (length-set (reassemblies_in p es) i (reassembly_in q e) ∙ old)) (λ j d lj.
    let within : j < length es = omega (arith, new) in
    gathered_at q (set es i e) j d (omega (arith, n)) ∙ elim (entry_set es i e j c.there) [
      | inl here ↦ ap (reassembly_in q) here.1
          ∙ sym (ap (λ m. get_or (set (reassemblies_in p es) i (reassembly_in q e)) m d) here.0
          ∙ get_or-set_same (reassemblies_in p es) i (reassembly_in q e) d (omega (arith, old, c.there)))
      | inr other ↦
          ap (reassembly_in q) other.1
          ∙ gathered_entry_same p q (entry_at es j) (c.others _ (apart_from p es i j k c.there within other.0) (kept_chain p es j k some within)).1
          ∙ sym (get_or-set_other (reassemblies_in p es) i j (reassembly_in q e) d other.0 ∙ gathered_at p es j d within)
    ])

pub moves_set : (p q : PoolState) (es : List Entry) (i : ℕ) (e : Entry) → Changes p q es i e → Moves p q es (set es i e)
moves_set p q es i e c = record {
  free = omega (arith, sum_by-set (λ (e : Entry). blocks e.size) es i e no_entry c.there, ap (λ n. blocks n) c.size_is, c.free);
  others = λ d is.
      let stays = c.others d (λ bad. is.1 i c.there (sym bad)) is.0 in
      ((stays.0, λ j lj same. is.1 j (omega (arith, length-set es i e)) (sym (chain_set p q es i e j c) ∙ same)), stays.1);
}

-- # An entry less

later : ℕ → ℕ → ℕ
later i j = if nat_lt j i then j else j + 1

later_apart : (i j : ℕ) → later i j ≡ i → ⊥
unfolding later
later_apart i j e = grind arith

later_same : (i j k : ℕ) → later i j ≡ later i k → j ≡ k
unfolding later
later_same i j k e = grind arith

later_within : (i j n : ℕ) → i < n → j + 1 < n → later i j < n
unfolding later
later_within i j n li lj = grind arith

entry_remove : (es : List Entry) (i j : ℕ) → i < length es → entry_at (remove es i) j ≡ entry_at es (later i j)
unfolding later
entry_remove es i j lt = elim (cases_lt j i) [
  | inl less ↦ get_or-remove_below es i no_entry j less lt ∙ ap (entry_at es) (grind arith)
  | inr more ↦ get_or-remove_above es i no_entry j more lt ∙ ap (entry_at es) (grind arith)
]

-- the entry's chain is given back
pub record Ends (p q : PoolState) (es : List Entry) (i : ℕ) : Type 0 where
  pub there : i < length es
  pub free : q.free ≡ p.free + blocks (entry_at es i).size
  pub others : (c : ℕ) → (c ≡ (entry_at es i).chain → ⊥) → IsChain p c → Stays p q c

pub keeps_remove : (p q : PoolState) (es : List Entry) (i : ℕ) → Keeps p es → AreSome es → Ends p q es i → Keeps q (remove es i)
keeps_remove p q es i k some e =
    let long : length (remove es i) + 1 ≡ length es = length-remove es i e.there in
    let old : (j : ℕ) → j < length (remove es i) → later i j < length es = λ j lj. later_within i j (length es) e.there (omega (arith, long)) in
    let sum : blocks_used (remove es i) + blocks (entry_at es i).size ≡ blocks_used es = sum_by-remove (λ e. blocks e.size) es i no_entry e.there in
    record {
      lengths = λ j lj. subst (λ (w : Entry). length (chain_octets q w.chain) ≡ w.size) (sym (entry_remove es i j e.there))
          (ap length (e.others _ (apart_from p es i (later i j) k e.there (old j lj) (later_apart i j)) (kept_chain p es (later i j) k some (old j lj))).1
          ∙ k.lengths (later i j) (old j lj));
      distinct = λ j m lj lm same. later_same i j m (k.distinct (later i j) (later i m) (old j lj) (old m lm)
          (ap (λ (w : Entry). w.chain) (sym (entry_remove es i j e.there)) ∙ same ∙ ap (λ (w : Entry). w.chain) (entry_remove es i m e.there)));
      room = omega (arith, sum, e.free, k.room);
    }

map_remove : {X Y : Type 0} (f : X → Y) (xs : List X) (i : ℕ) → map f (remove xs i) ≡ remove (map f xs) i
map_remove f xs i = map-append f (take i xs) (drop (suc i) xs) ∙ ap (λ ys. ys ++ map f (drop (suc i) xs)) (sym (take-map f i xs))
    ∙ ap (λ ys. take i (map f xs) ++ ys) (sym (drop-map f (suc i) xs))

pub gathered_remove : (p q : PoolState) (es : List Entry) (i : ℕ) → Keeps p es → AreSome es → Ends p q es i
    → reassemblies_in q (remove es i) ≡ remove (reassemblies_in p es) i
gathered_remove p q es i k some e =
    let long : length (remove es i) + 1 ≡ length es = length-remove es i e.there in
    let old : (j : ℕ) → j < length (remove es i) → later i j < length es = λ j lj. later_within i j (length es) e.there (omega (arith, long)) in
    gathered_same p q (remove es i) (λ j lj.
    subst (λ (w : Entry). chain_octets q w.chain ≡ chain_octets p w.chain) (sym (entry_remove es i j e.there))
    (e.others _ (apart_from p es i (later i j) k e.there (old j lj) (later_apart i j)) (kept_chain p es (later i j) k some (old j lj))).1)
    ∙ map_remove (reassembly_in p) es i

pub moves_remove : (p q : PoolState) (es : List Entry) (i : ℕ) → Ends p q es i → Moves p q es (remove es i)
moves_remove p q es i e =
    let long : length (remove es i) + 1 ≡ length es = length-remove es i e.there in
    record {
      free = omega (arith, sum_by-remove (λ (e : Entry). blocks e.size) es i no_entry e.there, e.free);
      others = λ d is.
          let stays = e.others d (λ bad. is.1 i e.there (sym bad)) is.0 in (
            (
              stays.0,
              λ j lj same. is.1 (later i j) (later_within i j (length es) e.there (omega (arith, long)))
                  (ap (λ (w : Entry). w.chain) (sym (entry_remove es i j e.there)) ∙ same),
            ),
            stays.1,
          );
    }

-- # One after another

pub moves_both : (p q r : PoolState) (es fs gs : List Entry) → Moves p q es fs → Moves q r fs gs → Moves p r es gs
moves_both p q r es fs gs one two = record {
  free = two.free ∙ one.free;
  others = λ c is.
      let first = one.others c is in
      let second = two.others c first.0 in
      (second.0, second.1 ∙ first.1);
}

-- # Limits

bounded_remove : (es : List Entry) (i : ℕ) → i < length es → IsBounded es → IsBounded (remove es i)
bounded_remove es i lt b = record {
  count = omega (arith, length-remove es i lt, b.count);
  blocks = omega (arith, sum_by-remove (λ (e : Entry). blocks e.size) es i no_entry lt, b.blocks);
  some = All-append (λ (e : Entry). 0 < e.size) (take i es) (drop (suc i) es) (All-take (λ (e : Entry). 0 < e.size) i es b.some)
      (All-drop (λ (e : Entry). 0 < e.size) (suc i) es b.some);
}

pub bounded_push : (es : List Entry) (e : Entry) → length es < 8 → blocks_used es + blocks e.size ≤ 80 → 0 < e.size → IsBounded es → IsBounded (es ++ e ∷ [])
bounded_push es e few room some b = record {
  count = omega (arith, length-append es (e ∷ []), few);
  blocks = omega (arith, sum_by_push (λ (e : Entry). blocks e.size) es e, room);
  some = All-push (λ (e : Entry). 0 < e.size) es e b.some some;
}

pub bounded_set : (es : List Entry) (i : ℕ) (e : Entry) → i < length es → e.size ≡ (entry_at es i).size → 0 < e.size → IsBounded es → IsBounded (set es i e)
bounded_set es i e lt size some b = record {
  count = omega (arith, length-set es i e, b.count);
  blocks = omega (arith, sum_by-set (λ (e : Entry). blocks e.size) es i e no_entry lt, ap (λ n. blocks n) size, b.blocks);
  some = All-set (λ (e : Entry). 0 < e.size) es i e some b.some;
}

pub used_set : (es : List Entry) (i : ℕ) (e : Entry) → i < length es → e.size ≡ (entry_at es i).size → blocks_used (set es i e) ≡ blocks_used es
used_set es i e lt size = omega (arith, sum_by-set (λ (e : Entry). blocks e.size) es i e no_entry lt, ap (λ n. blocks n) size)

pub bounded_after : (es fs : List Entry) (i : ℕ) → fs ≡ remove es i → i < length es → IsBounded es → IsBounded fs
bounded_after es fs i is lt b = subst IsBounded (sym is) (bounded_remove es i lt b)

pub used_after : (es fs : List Entry) (i : ℕ) → fs ≡ remove es i → i < length es → blocks_used fs + blocks (entry_at es i).size ≡ blocks_used es
used_after es fs i is lt = ap (λ gs. blocks_used gs + blocks (entry_at es i).size) is ∙ sum_by-remove (λ (e : Entry). blocks e.size) es i no_entry lt
