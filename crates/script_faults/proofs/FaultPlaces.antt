-- A fault stands where its line stops being one that can be read.
use Rattle.std.proofs.Common.{◌≡◌, ℕ, zero, suc, ◌+◌, ◌<◌, ◌≤◌, ◌==◌, Bool, true, false, ◌&&◌, ◌⊎◌, inl, inr, List, [], ◌∷◌, ◌++◌, length, take, drop}
use Rattle.std.proofs.Common.{get_or, max, Option, Some, None, refl, ap, ◌∙◌, sym, subst, arith}
use Rattle.std.specs.Prelude.{IfSome, codes, ◌||◌, not, if◌then◌else◌}
use Rattle.std.specs.List.{position_or_len}
use Rattle.std.proofs.lemmas.Bool.{and_parts, eqb-true, le-ltb}
use Rattle.std.proofs.lemmas.List.{length-append, append_assoc, append-nil, take_all}
use Rattle.std.proofs.Math.Seq.{take-append_seam, take-append-add}
use Rattle.hex.specs.Hex.{decode_pairs}
use Rattle.line_script.specs.Words.{Field, field, number, number_within, hex_octets, keeps_new}
use Rattle.line_script.specs.LineReader.{reads}
use Rattle.line_script.proofs.WordsRead.{IsWord, field_read}
use Rattle.script_faults.specs.declared.form.WordKind.{WordKind}
use Rattle.script_faults.specs.declared.form.WordKind.TheVariants as words
use Rattle.script_faults.specs.declared.form.Form.{Form}
use Rattle.script_faults.specs.declared.form.Form.TheVariants.{Alone, One, Two, Three}
use Rattle.script_faults.specs.declared.fault.Cause.{Cause}
use Rattle.script_faults.specs.declared.fault.Cause.TheVariants.{Wrong, Surplus}
use Rattle.script_faults.specs.declared.fault.Fault.{Fault}
use Rattle.script_faults.specs.Forms.{is_word, fault, word_end, wrong_unless, split_fault, last_fault, missing, short_fault, two_fault, three_fault}
use Rattle.script_faults.specs.Forms.{words_fault}
use Rattle.script_faults.specs.Places.{ended}
use Rattle.script_faults.proofs.Readable.{first_by, first_ok, two_ok, three_ok, form_ok}
use Rattle.script_faults.proofs.StrayOctets.{is_clean, stray_word}

-- # Lists

pub same_head : {a b : ℕ} {xs ys : List ℕ} → a ∷ xs ≡ b ∷ ys → a ≡ b
same_head is = ap (λ l. get_or l 0 0) is

pub same_tail : {a b : ℕ} {xs ys : List ℕ} → a ∷ xs ≡ b ∷ ys → xs ≡ ys
same_tail is = ap (drop 1) is

same_both : {a b : ℕ} {xs ys : List ℕ} → a ≡ b → xs ≡ ys → a ∷ xs ≡ b ∷ ys
same_both a b = λ i. a i ∷ b i

pub not_empty : (w p more : List ℕ) (c : ℕ) → [] ≡ (w ++ (c ∷ p)) ++ more → ⊥
not_empty [] p more c is = let long = ap length is in absurd (omega (arith, long))
not_empty (d ∷ ds) p more c is = let long = ap length is in absurd (omega (arith, long))

-- what begins with a word and a space
spaced_parts : (w p more other : List ℕ) → ended other ≡ (w ++ (32 ∷ p)) ++ more
    → (next : List ℕ) × (other ≡ w ++ (32 ∷ next)) × (ended next ≡ p ++ more)
spaced_parts [] p more [] is = let c : 10 ≡ 32 = same_head is in absurd (omega (arith, c))
spaced_parts [] p more (c ∷ cs) is = (cs, same_both (same_head is) refl, same_tail is)
spaced_parts (d ∷ ds) p more [] is = absurd (not_empty ds p more 32 (same_tail is))
spaced_parts (d ∷ ds) p more (c ∷ cs) is =
    let parts = spaced_parts ds p more cs (same_tail is) in (parts.0, same_both (same_head is) parts.1, parts.2)

-- what begins with a line and its end
ended_parts : (w more other : List ℕ) → ended other ≡ (w ++ (10 ∷ [])) ++ more → (other ≡ w) ⊎ ((next : List ℕ) × (other ≡ w ++ (10 ∷ next)))
ended_parts [] more [] is = inl refl
ended_parts [] more (c ∷ cs) is = inr (cs, same_both (same_head is) refl)
ended_parts (d ∷ ds) more [] is = absurd (not_empty ds [] more 10 (same_tail is))
ended_parts (d ∷ ds) more (c ∷ cs) is =
    elim (ended_parts ds more cs (same_tail is)) [
      | inl same ↦ inl (same_both (same_head is) same)
      | inr parts ↦ inr (parts.0, same_both (same_head is) parts.1)
    ]

-- the first octets of a word and a space, up to the space or further
with_space : (w z : List ℕ) (n : ℕ) → length w ≤ n → (p : List ℕ) × (take (suc n) (ended (w ++ (32 ∷ z))) ≡ w ++ (32 ∷ p))
with_space [] z n far = (take n (ended z), refl)
with_space (c ∷ cs) z zero far = absurd (omega (arith, far))
with_space (c ∷ cs) z (suc n) far = let parts = with_space cs z n (omega (arith, far)) in (parts.0, ap (λ l. c ∷ l) parts.1)

-- # Fields

alone_long : (w : List ℕ) → IsWord w → position_or_len (λ c. c == 32) w ≡ length w
alone_long [] is = refl
alone_long (c ∷ cs) is = let more = alone_long cs is.1 in rw is.0 (omega (arith, more))

pub alone_read : (w : List ℕ) → IsWord w → field w ≡ None
unfolding field
alone_read w is = rw (alone_long w is, le-ltb (length w) (length w) (omega arith)) refl

-- a line is a word, or a word and a space and more
abbrev pub Parts : List ℕ → Type 0
Parts line = IsWord line ⊎ ((w rest : List ℕ) × IsWord w × (line ≡ w ++ (32 ∷ rest)))

parts_by : (c : ℕ) (cs : List ℕ) (test : Bool) → (c == 32) ≡ test → Parts cs → Parts (c ∷ cs)
parts_by c cs true is parts = inr ([], cs, tt, same_both (eqb-true c 32 is) refl)
parts_by c cs false is (inl word) = inl (is, word)
parts_by c cs false is (inr more) = inr (c ∷ more.0, more.1, (is, more.2), same_both refl more.3)

pub parts_of : (line : List ℕ) → Parts line
parts_of [] = inl tt
parts_of (c ∷ cs) = parts_by c cs (c == 32) refl (parts_of cs)

pub joined : (v w : List ℕ) → IsWord v → (c : ℕ) → (c == 32) ≡ false → IsWord w → IsWord (v ++ (c ∷ w))
joined [] w iv c ic iw = (ic, iw)
joined (d ∷ ds) w iv c ic iw = (iv.0, joined ds w iv.1 c ic iw)

-- # Places by what is read

-- nothing that begins so is read
abbrev Dead : (List ℕ → Bool) → List ℕ → Type 0
Dead R front = (other more : List ℕ) → ended other ≡ front ++ more → R other ≡ false

-- the place of a fault in the octets from a place on
pub record Marks (R : List ℕ → Bool) (rest : List ℕ) (at : ℕ) (f : Fault) : Type 0 where
  pub start : ℕ
  pub end : ℕ
  pub starts : f.start ≡ at + start
  pub ends : f.end ≡ at + end
  pub some : start < end
  pub within : end ≤ length rest + 1
  pub before : (more : List ℕ) × (R (take start rest ++ more) ≡ true)
  pub none : Dead R (take (end + 1) (ended rest))

dead_spaced : (R : List ℕ → Bool) (w z : List ℕ) (end : ℕ) → ((next : List ℕ) → R (w ++ (32 ∷ next)) ≡ false) → length w ≤ end
    → Dead R (take (end + 1) (ended (w ++ (32 ∷ z))))
dead_spaced R w z end none far other more is =
    let one : end + 1 ≡ suc end = omega arith in
    let front = with_space w z end far in
    let parts = spaced_parts w front.0 more other (is ∙ ap (λ n. take n (ended (w ++ (32 ∷ z))) ++ more) one ∙ ap (λ l. l ++ more) front.1) in
    ap R parts.1 ∙ none parts.0

dead_ended : (R : List ℕ → Bool) (w : List ℕ) (end : ℕ) → R w ≡ false → ((next : List ℕ) → R (w ++ (10 ∷ next)) ≡ false) → length w ≤ end
    → Dead R (take (end + 1) (ended w))
dead_ended R w end alone none far other more is =
    let long : length (ended w) ≡ length w + 1 = length-append w (10 ∷ []) in
    let whole : take (end + 1) (ended w) ≡ ended w = take_all (end + 1) (ended w) (omega (arith, long)) in
    elim (ended_parts w more other (is ∙ ap (λ l. l ++ more) whole)) [
      | inl same ↦ ap R same ∙ alone
      | inr parts ↦ ap R parts.1 ∙ none parts.0
    ]

-- a word before a space is none
pub word_marks : (R : List ℕ → Bool) (w z : List ℕ) (at : ℕ) (cause : Cause) → ((next : List ℕ) → R (w ++ (32 ∷ next)) ≡ false)
    → (more : List ℕ) × (R more ≡ true) → Marks R (w ++ (32 ∷ z)) at (fault cause at (word_end at w))
word_marks R w z at cause none sample =
    let long = length-append w (32 ∷ z) in
    record {
      start = 0;
      end = max (length w) 1;
      starts = omega arith;
      ends = refl;
      some = omega arith;
      within = omega (arith, long);
      before = sample;
      none = dead_spaced R w z (max (length w) 1) none (omega arith);
    }

-- a word at the end of the line is none
pub end_marks : (R : List ℕ → Bool) (w : List ℕ) (at : ℕ) (cause : Cause) → R w ≡ false → ((next : List ℕ) → R (w ++ (10 ∷ next)) ≡ false)
    → (more : List ℕ) × (R more ≡ true) → Marks R w at (fault cause at (word_end at w))
end_marks R w at cause alone none sample =
    record {
      start = 0;
      end = max (length w) 1;
      starts = omega arith;
      ends = refl;
      some = omega arith;
      within = omega arith;
      before = sample;
      none = dead_ended R w (max (length w) 1) alone none (omega arith);
    }

-- the line ends where a word is expected
pub missing_marks : (R : List ℕ → Bool) (w : List ℕ) (at here : ℕ) (kind : WordKind) → here ≡ at + length w → R w ≡ false
    → ((next : List ℕ) → R (w ++ (10 ∷ next)) ≡ false) → (more : List ℕ) × (R (w ++ more) ≡ true) → Marks R w at (missing kind here)
missing_marks R w at here kind is alone none sample =
    let whole : take (length w) w ≡ w = take_all (length w) w (omega arith) in
    record {
      start = length w;
      end = length w + 1;
      starts = is;
      ends = omega (arith, is);
      some = omega arith;
      within = omega arith;
      before = (sample.0, ap (λ l. R (l ++ sample.0)) whole ∙ sample.1);
      none = dead_ended R w (length w + 1) alone none (omega arith);
    }

-- more stands behind the last word
pub surplus_marks : (R : List ℕ → Bool) (w z : List ℕ) (at start end : ℕ) → start ≡ at + length w → end ≡ at + length (w ++ (32 ∷ z)) → R w ≡ true
    → ((next : List ℕ) → R (w ++ (32 ∷ next)) ≡ false) → Marks R (w ++ (32 ∷ z)) at (fault Surplus start end)
surplus_marks R w z at start end starts ends read none =
    let long = length-append w (32 ∷ z) in
    let front : take (length w) (w ++ (32 ∷ z)) ++ [] ≡ w = append-nil (take (length w) (w ++ (32 ∷ z))) ∙ take-append_seam w (32 ∷ z) in
    record {
      start = length w;
      end = length (w ++ (32 ∷ z));
      starts = starts;
      ends = ends;
      some = omega (arith, long);
      within = omega arith;
      before = ([], ap R front ∙ read);
      none = dead_spaced R w z (length (w ++ (32 ∷ z))) none (omega (arith, long));
    }

beyond : (w z : List ℕ) (n : ℕ) → take (length w + suc n) (w ++ (32 ∷ z)) ≡ w ++ (32 ∷ take n z)
beyond w z n = take-append-add w (32 ∷ z) (suc n)

-- a fault after a word and a space
pub shifted_marks : (R T : List ℕ → Bool) (w z : List ℕ) (at here : ℕ) (f : Fault) → here ≡ at + length w + 1
    → ((next : List ℕ) → R (w ++ (32 ∷ next)) ≡ T next) → Marks T z here f → Marks R (w ++ (32 ∷ z)) at f
shifted_marks R T w z at here f is reads marks =
    let long = length-append w (32 ∷ z) in
    let starts = marks.starts in
    let ends = marks.ends in
    let some = marks.some in
    let within = marks.within in
    let more = marks.before.0 in
    let front : take (length w + suc marks.start) (w ++ (32 ∷ z)) ++ more ≡ w ++ (32 ∷ (take marks.start z ++ more)) =
    ap (λ l. l ++ more) (beyond w z marks.start) ∙ append_assoc w (32 ∷ take marks.start z) more in
    record {
      start = length w + suc marks.start;
      end = length w + suc marks.end;
      starts = omega (arith, starts, is);
      ends = omega (arith, ends, is);
      some = omega (arith, some);
      within = omega (arith, long, within);
      before = (more, ap R front ∙ reads (take marks.start z ++ more) ∙ marks.before.1);
      none = λ other rest same.
          let whole : ended (w ++ (32 ∷ z)) ≡ w ++ (32 ∷ ended z) = append_assoc w (32 ∷ z) (10 ∷ []) in
          let count : length w + suc marks.end + 1 ≡ length w + suc (marks.end + 1) = omega arith in
          let begins : take (length w + suc marks.end + 1) (ended (w ++ (32 ∷ z))) ≡ w ++ (32 ∷ take (marks.end + 1) (ended z)) =
          (λ i. take (count i) (whole i)) ∙ beyond w (ended z) (marks.end + 1) in
          let parts = spaced_parts w (take (marks.end + 1) (ended z)) rest other (same ∙ ap (λ l. l ++ rest) begins) in
          ap R parts.1 ∙ reads parts.0 ∙ marks.none parts.0 rest parts.2;
    }

pub if_marks : {P Q : Fault → Type 0} → ((f : Fault) → P f → Q f) → (o : Option Fault) → IfSome o P → IfSome o Q
if_marks all None is = tt
if_marks all (Some f) is = all f is

-- # Words

abbrev sample : WordKind → List ℕ
sample words.Node = codes "0"
sample words.Flight = codes "0"
sample words.Counter = codes "0"
sample words.Own = codes "1"
sample words.Cost = codes "1"
sample words.Index = codes "1"
sample words.Seconds = codes "1"
sample words.Write = codes "1"
sample words.Choice = codes "1"
sample words.Eui = codes "0000000000000000"
sample words.Key = codes "00000000000000000000000000000000"
sample words.Random = codes "00000000000000000000000000000000"
sample words.Octets = codes "00"
sample words.Record = codes "new"

sample_ok : (kind : WordKind) → is_word kind (sample kind) ≡ true
unfolding number number_within hex_octets decode_pairs keeps_new
sample_ok words.Node = refl
sample_ok words.Flight = refl
sample_ok words.Counter = refl
sample_ok words.Own = refl
sample_ok words.Cost = refl
sample_ok words.Index = refl
sample_ok words.Seconds = refl
sample_ok words.Write = refl
sample_ok words.Choice = refl
sample_ok words.Eui = refl
sample_ok words.Key = refl
sample_ok words.Random = refl
sample_ok words.Octets = refl
sample_ok words.Record = refl

sample_clean : (kind : WordKind) → is_clean (sample kind) ≡ true
sample_clean words.Node = refl
sample_clean words.Flight = refl
sample_clean words.Counter = refl
sample_clean words.Own = refl
sample_clean words.Cost = refl
sample_clean words.Index = refl
sample_clean words.Seconds = refl
sample_clean words.Write = refl
sample_clean words.Choice = refl
sample_clean words.Eui = refl
sample_clean words.Key = refl
sample_clean words.Random = refl
sample_clean words.Octets = refl
sample_clean words.Record = refl

neither : (a b : Bool) → not (a || b) ≡ true → a ≡ false
neither true b is = cc is
neither false b is = refl

clean_word : (w : List ℕ) → is_clean w ≡ true → IsWord w
clean_word [] is = tt
clean_word (c ∷ cs) is =
    let parts = and_parts (not (c == 32 || c == 10)) (is_clean cs) is in (neither (c == 32) (c == 10) parts.0, clean_word cs parts.1)

sample_word : (kind : WordKind) → IsWord (sample kind)
sample_word kind = clean_word (sample kind) (sample_clean kind)

first_spaced : (kind : WordKind) (T : List ℕ → Bool) (w z : List ℕ) → IsWord w → first_ok kind T (w ++ (32 ∷ z)) ≡ (is_word kind w && T z)
first_spaced kind T w z is = ap (first_by kind T) (field_read w z is)

first_alone : (kind : WordKind) (T : List ℕ → Bool) (w : List ℕ) → IsWord w → first_ok kind T w ≡ false
first_alone kind T w is = ap (first_by kind T) (alone_read w is)

first_true : (kind : WordKind) (T : List ℕ → Bool) (w z : List ℕ) → IsWord w → is_word kind w ≡ true → T z ≡ true
    → first_ok kind T (w ++ (32 ∷ z)) ≡ true
first_true kind T w z word is more = first_spaced kind T w z word ∙ (λ i. is i && more i)

first_false : (kind : WordKind) (T : List ℕ → Bool) (w z : List ℕ) → IsWord w → is_word kind w ≡ false → first_ok kind T (w ++ (32 ∷ z)) ≡ false
first_false kind T w z word is = first_spaced kind T w z word ∙ ap (λ b. b && T z) is

-- a line feed after a word, and then a space
pub feed_spaced : (w v z next : List ℕ) → next ≡ v ++ (32 ∷ z) → w ++ (10 ∷ next) ≡ (w ++ (10 ∷ v)) ++ (32 ∷ z)
feed_spaced w v z next is = ap (λ l. w ++ (10 ∷ l)) is ∙ sym (append_assoc w (10 ∷ v) (32 ∷ z))

first_feed_by : (kind : WordKind) (T : List ℕ → Bool) (w next : List ℕ) → IsWord w → Parts next → first_ok kind T (w ++ (10 ∷ next)) ≡ false
first_feed_by kind T w next word (inl one) = first_alone kind T (w ++ (10 ∷ next)) (joined w next word 10 refl one)
first_feed_by kind T w next word (inr parts) =
    ap (first_ok kind T) (feed_spaced w parts.0 parts.1 next parts.3)
    ∙ first_false kind T (w ++ (10 ∷ parts.0)) parts.1 (joined w parts.0 word 10 refl parts.2) (stray_word kind w parts.0 false)

first_feed : (kind : WordKind) (T : List ℕ → Bool) (w next : List ℕ) → IsWord w → first_ok kind T (w ++ (10 ∷ next)) ≡ false
first_feed kind T w next word = first_feed_by kind T w next word (parts_of next)

-- # The last word

last_split : (kind : WordKind) (at : ℕ) (w z : List ℕ) (test : Bool) → is_word kind w ≡ test
    → IfSome (wrong_unless test kind at w (Some (fault Surplus (at + length w) (at + length (w ++ (32 ∷ z))))))
    (Marks (is_word kind) (w ++ (32 ∷ z)) at)
last_split kind at w z true is =
    surplus_marks (is_word kind) w z at (at + length w) (at + length (w ++ (32 ∷ z))) refl refl is (λ next. stray_word kind w next true)
last_split kind at w z false is =
    word_marks (is_word kind) w z at (Wrong kind) (λ next. stray_word kind w next true) (sample kind, sample_ok kind)

last_by : (kind : WordKind) (at : ℕ) (rest : List ℕ) (test : Bool) → is_word kind rest ≡ test → Parts rest
    → IfSome (if test then None else split_fault (field rest) kind at rest) (Marks (is_word kind) rest at)
last_by kind at rest true is parts = tt
last_by kind at rest false is (inl word) =
    subst (λ o. IfSome (split_fault o kind at rest) (Marks (is_word kind) rest at)) (sym (alone_read rest word))
    (end_marks (is_word kind) rest at (Wrong kind) is (λ next. stray_word kind rest next false) (sample kind, sample_ok kind))
last_by kind at rest false is (inr parts) =
    let w = parts.0 in
    let z = parts.1 in
    subst (λ l. IfSome (split_fault (field l) kind at l) (Marks (is_word kind) l at)) (sym parts.3)
    (subst (λ o. IfSome (split_fault o kind at (w ++ (32 ∷ z))) (Marks (is_word kind) (w ++ (32 ∷ z)) at)) (sym (field_read w z parts.2))
    (last_split kind at w z (is_word kind w) refl))

last_marks : (kind : WordKind) (at : ℕ) (rest : List ℕ) → IfSome (last_fault kind at rest) (Marks (is_word kind) rest at)
last_marks kind at rest = last_by kind at rest (is_word kind rest) refl (parts_of rest)

-- # A word before others

abbrev first_fault : WordKind → WordKind → (ℕ → List ℕ → Option Fault) → ℕ → List ℕ → Option Field → Option Fault
first_fault kind next more at rest o =
    elim o [
      | None ↦ short_fault kind next at rest
      | Some first ↦ wrong_unless (is_word kind first.word) kind at first.word (more (at + length first.word + 1) first.rest)
    ]

module _ (kind next : WordKind) (T : List ℕ → Bool) (more : ℕ → List ℕ → Option Fault) (s : List ℕ) (passes : T s ≡ true)
    (marks : (at : ℕ) (z : List ℕ) → IfSome (more at z) (Marks T z at)) where
  first_sample : (front : List ℕ) × (first_ok kind T front ≡ true)
  first_sample = (sample kind ++ (32 ∷ s), first_true kind T (sample kind) s (sample_word kind) (sample_ok kind) passes)

  short_marks : (at : ℕ) (w : List ℕ) (test : Bool) → IsWord w → is_word kind w ≡ test
      → IfSome (wrong_unless test kind at w (Some (missing next (at + length w)))) (Marks (first_ok kind T) w at)
  short_marks at w true word is =
      missing_marks (first_ok kind T) w at (at + length w) next refl (first_alone kind T w word) (λ z. first_feed kind T w z word)
      (32 ∷ s, first_true kind T w s word is passes)
  short_marks at w false word is =
      end_marks (first_ok kind T) w at (Wrong kind) (first_alone kind T w word) (λ z. first_feed kind T w z word) first_sample

  next_marks : (at : ℕ) (w z : List ℕ) (test : Bool) → IsWord w → is_word kind w ≡ test
      → IfSome (wrong_unless test kind at w (more (at + length w + 1) z)) (Marks (first_ok kind T) (w ++ (32 ∷ z)) at)
  next_marks at w z true word is =
      if_marks (λ f. shifted_marks (first_ok kind T) T w z at (at + length w + 1) f refl
      (λ rest. first_spaced kind T w rest word ∙ ap (λ b. b && T rest) is))
      (more (at + length w + 1) z) (marks (at + length w + 1) z)
  next_marks at w z false word is =
      word_marks (first_ok kind T) w z at (Wrong kind) (λ rest. first_false kind T w rest word is) first_sample

  first_marks_by : (at : ℕ) (rest : List ℕ) → Parts rest → IfSome (first_fault kind next more at rest (field rest)) (Marks (first_ok kind T) rest at)
  first_marks_by at rest (inl word) =
      subst (λ o. IfSome (first_fault kind next more at rest o) (Marks (first_ok kind T) rest at)) (sym (alone_read rest word))
      (short_marks at rest (is_word kind rest) word refl)
  first_marks_by at rest (inr parts) =
      let w = parts.0 in
      let z = parts.1 in
      subst (λ l. IfSome (first_fault kind next more at l (field l)) (Marks (first_ok kind T) l at)) (sym parts.3)
      (subst (λ o. IfSome (first_fault kind next more at (w ++ (32 ∷ z)) o) (Marks (first_ok kind T) (w ++ (32 ∷ z)) at)) (sym (field_read w z parts.2))
      (next_marks at w z (is_word kind w) parts.2 refl))

  first_marks : (at : ℕ) (rest : List ℕ) → IfSome (first_fault kind next more at rest (field rest)) (Marks (first_ok kind T) rest at)
  first_marks at rest = first_marks_by at rest (parts_of rest)

two_marks : (kind last : WordKind) (at : ℕ) (rest : List ℕ) → IfSome (two_fault kind last at rest) (Marks (two_ok kind last) rest at)
two_marks kind last at rest = first_marks kind last (is_word last) (last_fault last) (sample last) (sample_ok last) (last_marks last) at rest

abbrev two_samples : WordKind → WordKind → List ℕ
two_samples kind last = sample kind ++ (32 ∷ sample last)

two_samples_ok : (kind last : WordKind) → two_ok kind last (two_samples kind last) ≡ true
two_samples_ok kind last = first_true kind (is_word last) (sample kind) (sample last) (sample_word kind) (sample_ok kind) (sample_ok last)

three_marks : (kind next last : WordKind) (at : ℕ) (rest : List ℕ) → IfSome (three_fault kind next last at rest) (Marks (three_ok kind next last) rest at)
three_marks kind next last at rest =
    first_marks kind next (two_ok next last) (two_fault next last) (two_samples next last) (two_samples_ok next last) (two_marks next last) at rest

-- # The words after the first

abbrev pub is_alone : Form → Bool
is_alone Alone = true
is_alone _ = false

abbrev pub form_sample : Form → List ℕ
form_sample Alone = []
form_sample (One first) = sample first
form_sample (Two first last) = two_samples first last
form_sample (Three first next last) = sample first ++ (32 ∷ two_samples next last)

pub form_sample_ok : (form : Form) → is_alone form ≡ false → form_ok form (form_sample form) ≡ true
form_sample_ok Alone is = cc is
form_sample_ok (One first) is = sample_ok first
form_sample_ok (Two first last) is = two_samples_ok first last
form_sample_ok (Three first next last) is =
    first_true first (two_ok next last) (sample first) (two_samples next last) (sample_word first) (sample_ok first) (two_samples_ok next last)

pub words_marks : (form : Form) (at : ℕ) (rest : List ℕ) → is_alone form ≡ false → IfSome (words_fault form at rest) (Marks (form_ok form) rest at)
words_marks Alone at rest is = cc is
words_marks (One first) at rest is = last_marks first at rest
words_marks (Two first last) at rest is = two_marks first last at rest
words_marks (Three first next last) at rest is = three_marks first next last at rest
