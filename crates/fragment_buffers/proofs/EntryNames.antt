-- Names of entries and of the reassemblies that they tell.
use Rattle.std.proofs.Common.{◌≡◌, ℕ, ◌+◌, ◌<◌, ◌≤◌, ◌⊎◌, inl, inr, false, List, [], ◌∷◌, ◌++◌, length, get_or, sym, ap, ◌∙◌, arith, eq-eqb}
use Rattle.std.proofs.lemmas.Bool.{and_from}
use Rattle.std.proofs.lemmas.List.{length-map}
use Rattle.mesh_header.specs.Pieces.{Placed}
use Rattle.block_pool.specs.Pool.{PoolState}
use Rattle.fragment_buffers.specs.Reassembly.{Reassembly, begun}
use Rattle.fragment_buffers.specs.PieceIntake.{Full, blocks, same_name, taken}
use Rattle.fragment_buffers.specs.Answers.{nothing, has_name, NoneIsNamed, settled_at, joined_at}
use Rattle.fragment_buffers.specs.Entries.{Entry, entry_at, reassembly_in, reassemblies_in, blocks_used}
use Rattle.fragment_buffers.proofs.PoolEntries.{gathered_at, blocks_gathered}
use Rattle.fragment_buffers.proofs.Rule.{taken_found, taken_new, taken_full}

pub length-gathered : (p : PoolState) (es : List Entry) → length (reassemblies_in p es) ≡ length es
length-gathered p es = length-map es (reassembly_in p)

name_gathered : (p : PoolState) (es : List Entry) (origin : ℕ) (piece : Placed) (note now k : ℕ) → k < length es
    → same_name (begun origin piece note now) (get_or (reassemblies_in p es) k nothing) ≡ has_name origin piece.size piece.tag (entry_at es k)
name_gathered p es origin piece note now k lt = ap (same_name (begun origin piece note now)) (gathered_at p es k nothing lt)

none_gathered : (p : PoolState) (es : List Entry) (origin : ℕ) (piece : Placed) (note now : ℕ) → NoneIsNamed es origin piece
    → (k : ℕ) → k < length (reassemblies_in p es) → same_name (begun origin piece note now) (get_or (reassemblies_in p es) k nothing) ≡ false
none_gathered p es origin piece note now none k lt =
    let within : k < length es = omega (arith, length-gathered p es) in
    name_gathered p es origin piece note now k within ∙ none k within

pub full_gathered : (p : PoolState) (es : List Entry) (origin : ℕ) (piece : Placed) (note now : ℕ) → NoneIsNamed es origin piece
    → (8 ≤ length es) ⊎ (80 < blocks_used es + blocks piece.size)
    → taken (reassemblies_in p es) origin piece note now ≡ record { held = reassemblies_in p es; outcome = Full }
full_gathered p es origin piece note now none full =
    taken_full (reassemblies_in p es) origin piece note now (none_gathered p es origin piece note now none) (elim full [
      | inl many ↦ inl (omega (arith, length-gathered p es))
      | inr more ↦ inr (omega (arith, blocks_gathered p es))
    ])

pub new_gathered : (p q : PoolState) (es fs : List Entry) (origin : ℕ) (piece : Placed) (note now i : ℕ) → NoneIsNamed es origin piece → length es < 8
    → blocks_used es + blocks piece.size ≤ 80
    → reassemblies_in q fs ≡ reassemblies_in p es ++ begun origin piece note now ∷ [] → i ≡ length es
    → taken (reassemblies_in p es) origin piece note now ≡ settled_at (reassemblies_in q fs) i
new_gathered p q es fs origin piece note now i none few fits pushed is =
    taken_new (reassemblies_in p es) origin piece note now (none_gathered p es origin piece note now none) (omega (arith, length-gathered p es))
    (omega (arith, blocks_gathered p es))
    ∙ ap (λ held. settled_at held (length (reassemblies_in p es))) (sym pushed) ∙ ap (settled_at (reassemblies_in q fs)) (length-gathered p es ∙ sym is)

pub found_gathered : (p : PoolState) (es : List Entry) (origin : ℕ) (piece : Placed) (note now i : ℕ) → i < length es
    → (origin ≡ (entry_at es i).origin) × (piece.size ≡ (entry_at es i).size) × (piece.tag ≡ (entry_at es i).tag)
    → ((k : ℕ) → k < i → has_name origin piece.size piece.tag (entry_at es k) ≡ false)
    → taken (reassemblies_in p es) origin piece note now ≡ joined_at (reassemblies_in p es) i piece note now
found_gathered p es origin piece note now i lt same first =
    taken_found (reassemblies_in p es) origin piece note now i (omega (arith, length-gathered p es))
    (same.0 ∙ sym (ap (λ (r : Reassembly). r.origin) (gathered_at p es i nothing lt)))
    (name_gathered p es origin piece note now i lt ∙ and_from _ _ (eq-eqb _ _ same.0) (and_from _ _ (eq-eqb _ _ same.1) (eq-eqb _ _ same.2)))
    (λ k lk. name_gathered p es origin piece note now k (omega arith) ∙ first k lk)
