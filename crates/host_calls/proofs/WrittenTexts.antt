-- Texts that are written one after another.
use Rattle.std.proofs.Common.{◌≡◌, ℕ, ◌+◌, ◌<◌, ◌≤◌, List, [], ◌∷◌, ◌++◌, length, drop, get_or, Result, Ok, Err, refl, sym, ap, subst, ◌∙◌}
use Rattle.std.proofs.Common.{arith, length-append}
use Rattle.std.specs.Prelude.{OnErr}
use Rattle.std.proofs.lemmas.List.{append-nil, append_assoc, drop_more}
use Rattle.std.specs.Io.KnownBytes.{Appends}
use Rattle.std.proofs.KnownBytes.{Appends-trans, Appends-nil}
use Rattle.plc_base.specs.Causes.{Rose}
use Rattle.plc_base.specs.Streams.{SinkState, SinkFaults, HasWritten}
use Rattle.plc_base.proofs.SinkLemmas.{wrote_nothing, wrote_both, wrote_less}

-- All of a text was written.
pub record Wrote (old new : SinkState) (text : List ℕ) : Type 0 where
  pub appends : Appends old.taken new.taken text
  pub faults : SinkFaults old new (length text)

pub none : (s : SinkState) → Wrote s s []
none s = record { appends = Appends-nil s.taken; faults = wrote_nothing s }

pub all : {T E : Type 0} {old new : SinkState} {value : T} {text : List ℕ} → HasWritten {E = E} old new (Ok value) text → Wrote old new text
all {T} {E} {old} {new} {value} {text} h =
    let whole : text ≡ h.front = h.whole ∙ ap (λ (l : List ℕ). h.front ++ l) h.all ∙ append-nil h.front in
    record { appends = subst (λ (l : List ℕ). Appends old.taken new.taken l) (sym whole) h.appends; faults = h.faults }

pub done : {T E : Type 0} {old new : SinkState} {value : T} {text : List ℕ} → Wrote old new text → HasWritten {E = E} old new (Ok value) text
done {T} {E} {old} {new} {value} {text} w = record {
  front = text;
  rest = [];
  whole = sym (append-nil text);
  appends = w.appends;
  all = refl;
  cause = record { later = w.faults.later; failed = tt };
  faults = w.faults;
}

rose_later : {T E : Type 0} (a b c : ℕ) (r : Result T E) → a ≤ b → OnErr r (Rose b c) → OnErr r (Rose a c)
rose_later a b c (Ok value) less h = tt
rose_later a b c (Err e) less h = omega (arith, less, h)

-- a text after one of which all was written
pub behind : {T E : Type 0} {first middle last : SinkState} {result : Result T E} (front text : List ℕ) → Wrote first middle front
    → HasWritten middle last result text → HasWritten first last result (front ++ text)
behind {T} {E} {first} {middle} {last} {result} front text w h = record {
  front = front ++ h.front;
  rest = h.rest;
  whole = ap (λ (l : List ℕ). front ++ l) h.whole ∙ sym (append_assoc front h.front h.rest);
  appends = Appends-trans first.taken middle.taken last.taken front h.front w.appends h.appends;
  all = h.all;
  cause = record {
    later = omega (arith, w.faults.later, h.cause.later);
    failed = rose_later first.faults middle.faults last.faults result w.faults.later h.cause.failed;
  };
  faults = subst (SinkFaults first last) (sym (length-append front text)) (wrote_both (length front) (length text) w.faults h.faults);
}

-- so all of both was written
pub both : {first middle last : SinkState} (front text : List ℕ) → Wrote first middle front → Wrote middle last text → Wrote first last (front ++ text)
both {first} {middle} {last} front text w v = record {
  appends = Appends-trans first.taken middle.taken last.taken front text w.appends v.appends;
  faults = subst (SinkFaults first last) (sym (length-append front text)) (wrote_both (length front) (length text) w.faults v.faults);
}

-- a text of which the sink took a part, and others that were to come
pub cut_short : {S T E F : Type 0} {old new : SinkState} {e : E} (f : F) (text more : List ℕ) → HasWritten {T = S} old new (Err e) text
    → HasWritten {T = T} old new (Err f) (text ++ more)
cut_short {S} {T} {E} {F} {old} {new} {e} f text more h = record {
  front = h.front;
  rest = h.rest ++ more;
  whole = ap (λ (l : List ℕ). l ++ more) h.whole ∙ append_assoc h.front h.rest more;
  appends = h.appends;
  all = tt;
  cause = record { later = h.cause.later; failed = h.cause.failed };
  faults = wrote_less (length text) (length (text ++ more)) (omega (arith, length-append text more)) h.faults;
}

-- # Texts of items, one after another

-- the text of the items that are left, where this one is next
pub one_next : {A : Type 0} (one : A → List ℕ) (all : List A → List ℕ) → ((x : A) (rest : List A) → all (x ∷ rest) ≡ one x ++ all rest)
    → (items : List A) (i : ℕ) (x : A) → i < length items → x ≡ get_or items i x → all (drop i items) ≡ one x ++ all (drop (i + 1) items)
one_next {A} one all step items i x within is =
    ap all (drop_more items i x within ∙ ap (λ (y : A). y ∷ drop (i + 1) items) (sym is)) ∙ step x (drop (i + 1) items)

-- one more text was written
pub one_more : {old mid new : SinkState} (front text before after : List ℕ) (whole : List ℕ) → Wrote old mid front → whole ≡ front ++ before
    → before ≡ text ++ after → Wrote mid new text → (done : List ℕ) × Wrote old new done × (whole ≡ done ++ after)
one_more {old} {mid} {new} front text before after whole w e next v =
    (front ++ text, both front text w v, e ∙ ap (λ (l : List ℕ). front ++ l) next ∙ sym (append_assoc front text after))

-- a text of which the sink took a part, after others
pub one_less : {S T E F : Type 0} {old mid new : SinkState} {e : E} (f : F) (front text before after : List ℕ) (whole : List ℕ) → Wrote old mid front
    → whole ≡ front ++ before → before ≡ text ++ after → HasWritten {T = S} mid new (Err e) text → HasWritten {T = T} old new (Err f) whole
one_less {S} {T} {E} {F} {old} {mid} {new} {e} f front text before after whole w e2 next h =
    subst (λ (l : List ℕ). HasWritten {T = T} old new (Err f) l) (sym (e2 ∙ ap (λ (l : List ℕ). front ++ l) next))
    (behind front (text ++ after) w (cut_short {S = S} {T = T} f text after h))

-- the text of a value that is the same
pub of_same : {X T E : Type 0} {old new : SinkState} {result : Result T E} (text : X → List ℕ) (a b : X) → a ≡ b → HasWritten old new result (text a)
    → HasWritten old new result (text b)
of_same {X} {T} {E} {old} {new} {result} text a b same h = subst (λ (x : X). HasWritten old new result (text x)) same h
