-- The entry of a name, and when the first one expires, by what is kept of the reassemblies.
use Rattle.std.proofs.Common.{◌≡◌, ℕ, ◌<◌, false, List, [], ◌∷◌, length, take, drop, Option, Some, None, IfSome, IfNone, refl, sym, ap, subst}
use Rattle.std.proofs.Common.{◌∙◌, arith}
use Rattle.std.specs.Prelude.{fold}
use Rattle.std.proofs.lemmas.List.{get_or_default}
use Rattle.fragment_buffers.specs.declared.piece_span.PieceSpan.{PieceSpan}
use Rattle.fragment_buffers.specs.declared.buffers.Buffer.{Buffer}
use Rattle.fragment_buffers.specs.Answers.{has_name}
use Rattle.fragment_buffers.specs.Entries.{Entry, entry_at}
use Rattle.fragment_buffers.specs.FirstEnd.{first_end, end_by}
use Rattle.fragment_buffers.specs.Buffers.{entry_of, entries_from, pieces_in, no_buffer, buffer_at, is_named, end_before}
use Rattle.fragment_buffers.proofs.OneList.{start_of, length-entries, there, read}

-- # Names

module _ {X P Q : Type 0} where
  none_too : (o : Option X) → (P → Q) → IfNone o P → IfNone o Q
  none_too None f h = f h
  none_too (Some x) f h = h

module _ {X : Type 0} (P Q R : X → Type 0) where
  some_too : (o : Option X) → ((x : X) → P x → Q x) → IfSome o P → IfSome o Q
  some_too None f h = h
  some_too (Some x) f h = f x h

  some_both : (o : Option X) → ((x : X) → P x → Q x → R x) → IfSome o P → IfSome o Q → IfSome o R
  some_both None f g h = h
  some_both (Some x) f g h = f x g h

-- the names that a place has
abbrev HasName : (origin size tag : ℕ) → Buffer → Type 0
HasName origin size tag b = (origin ≡ b.origin) × (size ≡ b.size) × (tag ≡ b.tag)

abbrev HasEntryName : (origin size tag : ℕ) → Entry → Type 0
HasEntryName origin size tag e = (origin ≡ e.origin) × (size ≡ e.size) × (tag ≡ e.tag)

module _ (bs : List Buffer) (ps : List PieceSpan) (es : List Entry) (origin size tag : ℕ) (view : entries_from bs ps ≡ es) (all : pieces_in bs ≡ length ps)
  where
    long : length bs ≡ length es
    long = omega (arith, sym (length-entries bs ps), ap length view)

    -- the entry at a place is that of its buffer
    entry_same : (k : ℕ) (lt : k < length es) → entry_at es k ≡ entry_of (buffer_at bs k) (take (buffer_at bs k).pieces (drop (start_of bs k) ps))
    entry_same k lt =
        read bs ps es k view lt (buffer_at bs k) all (get_or_default bs k no_buffer (buffer_at bs k) (there bs ps es k view lt))

    name_same : (k : ℕ) → k < length es → has_name origin size tag (entry_at es k) ≡ is_named origin size tag (buffer_at bs k)
    name_same k lt = ap (has_name origin size tag) (entry_same k lt)

    pub none_named : (o : Option ℕ) → IfNone o ((k : ℕ) → k < length bs → is_named origin size tag (buffer_at bs k) ≡ false)
        → IfNone o ((k : ℕ) → k < length es → has_name origin size tag (entry_at es k) ≡ false)
    none_named o h = none_too o (λ f k lt. name_same k lt ∙ f k (omega (arith, lt, long))) h

    pub one_named : (o : Option ℕ) → IfSome o (λ i. i < length bs) → IfSome o (λ i. HasName origin size tag (buffer_at bs i))
        → IfSome o (λ i. HasEntryName origin size tag (entry_at es i))
    one_named o within h = some_both (λ i. i < length bs) (λ i. HasName origin size tag (buffer_at bs i)) (λ i. HasEntryName origin size tag (entry_at es i)) o
        (λ i lt named. subst (HasEntryName origin size tag) (sym (entry_same i (omega (arith, lt, long)))) named) within h

    pub none_before : (o : Option ℕ) → IfSome o (λ i. i < length bs)
        → IfSome o (λ i. (k : ℕ) → k < i → is_named origin size tag (buffer_at bs k) ≡ false)
        → IfSome o (λ i. (k : ℕ) → k < i → has_name origin size tag (entry_at es k) ≡ false)
    none_before o within h =
        some_both (λ i. i < length bs) (λ i. (k : ℕ) → k < i → is_named origin size tag (buffer_at bs k) ≡ false)
        (λ i. (k : ℕ) → k < i → has_name origin size tag (entry_at es k) ≡ false) o
        (λ i lt first k lk. name_same k (omega (arith, lt, lk, long)) ∙ first k lk) within h

pub one_there : (bs : List Buffer) (ps : List PieceSpan) (es : List Entry) → entries_from bs ps ≡ es → (o : Option ℕ) → IfSome o (λ i. i < length bs)
    → IfSome o (λ i. i < length es)
one_there bs ps es view o h =
    some_too (λ i. i < length bs) (λ i. i < length es) (λ i. i < length es) o (λ i lt. omega (arith, lt, length-entries bs ps, ap length view)) h

-- # Times

ends_same : (bs : List Buffer) (ps : List PieceSpan) (time : ℕ) → fold end_by time (entries_from bs ps) ≡ fold end_before time bs
unfolding entries_from
ends_same [] ps time = refl
ends_same (b ∷ bs) ps time = ends_same bs (drop b.pieces ps) (end_before time b)

pub same_end : (bs : List Buffer) (ps : List PieceSpan) → first_end (entries_from bs ps) ≡ fold end_before 18446744073709551615 bs
unfolding first_end
same_end bs ps = ends_same bs ps 18446744073709551615
