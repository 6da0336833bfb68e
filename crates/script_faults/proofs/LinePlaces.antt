-- The fault of a line stands where the line stops being one that can be read.
use Rattle.std.proofs.Common.{◌≡◌, ℕ, zero, suc, ◌+◌, ◌-◌, ◌<◌, ◌==◌, Bool, true, false, ◌⊎◌, inl, inr, List, [], ◌∷◌, ◌++◌, length, take}
use Rattle.std.proofs.Common.{Option, Some, None, refl, ap, ◌∙◌, sym, subst, arith}
use Rattle.std.specs.Prelude.{IfSome, is_some, if◌then◌else◌}
use Rattle.std.specs.Str.{bytes_eq}
use Rattle.std.proofs.lemmas.List.{length-append}
use Rattle.line_events.specs.declared.event.Event.TheVariants as events
use Rattle.line_script.specs.declared.kind.EventKind.{EventKind}
use Rattle.line_script.specs.declared.kind.EventKind.TheVariants as kinds
use Rattle.line_script.specs.declared.reading.Reading.TheVariants.{Quiet}
use Rattle.line_script.specs.Kinds.{kind_word, kind_named}
use Rattle.line_script.specs.Words.{◌>>=◌, field}
use Rattle.line_script.specs.LineReader.{event_by, event_alone, event_with, event_of, reads, reading}
use Rattle.line_script.proofs.WordsRead.{IsWord, field_read}
use Rattle.script_faults.specs.declared.form.Form.{Form}
use Rattle.script_faults.specs.declared.form.Form.TheVariants.{Alone, One, Two, Three}
use Rattle.script_faults.specs.declared.fault.Cause.TheVariants.{Unknown}
use Rattle.script_faults.specs.declared.fault.Fault.{Fault}
use Rattle.script_faults.specs.Forms.{form_of, words_fault, ended_fault, alone_fault, spaced_fault, event_fault_by, event_fault, fault_of, has_reading}
use Rattle.script_faults.specs.Places.{IsPlace, ended, is_readable}
use Rattle.script_faults.proofs.Readable.{form_ok, line_by, reads_is}
use Rattle.script_faults.proofs.StrayOctets.{stray_kind, stray_text, named_is}
use Rattle.script_faults.proofs.FaultPlaces.{Parts, parts_of, joined, alone_read, feed_spaced, same_head, same_tail, Marks, word_marks, end_marks}
use Rattle.script_faults.proofs.FaultPlaces.{missing_marks, surplus_marks, shifted_marks, if_marks, is_alone, form_sample, form_sample_ok, words_marks}

-- # Which lines are events

abbrev line_ok : List ℕ → Bool
line_ok line = is_some (event_with line (field line))

abbrev checks_word : List ℕ
checks_word = kind_word kinds.Checks

abbrev checks_by : Bool → Bool
checks_by test = is_some (if test then Some events.Checks else None)

line_alone : (w : List ℕ) → IsWord w → line_ok w ≡ checks_by (bytes_eq w checks_word)
unfolding event_alone
line_alone w is = ap (λ o. is_some (event_with w o)) (alone_read w is)

line_spaced : (w z : List ℕ) → IsWord w → line_ok (w ++ (32 ∷ z)) ≡ is_some (kind_named w >>= λ kind. event_by kind z)
line_spaced w z is = ap (λ o. is_some (event_with (w ++ (32 ∷ z)) o)) (field_read w z is)

line_named : (w z : List ℕ) (kind : EventKind) → IsWord w → kind_named w ≡ Some kind → line_ok (w ++ (32 ∷ z)) ≡ form_ok (form_of kind) z
line_named w z kind word is = line_spaced w z word ∙ ap (λ o. is_some (o >>= λ k. event_by k z)) is ∙ line_by kind z

line_unnamed : (w z : List ℕ) → IsWord w → kind_named w ≡ None → line_ok (w ++ (32 ∷ z)) ≡ false
line_unnamed w z word is = line_spaced w z word ∙ ap (λ o. is_some (o >>= λ k. event_by k z)) is

line_feed_by : (w next : List ℕ) → IsWord w → Parts next → line_ok (w ++ (10 ∷ next)) ≡ false
line_feed_by w next word (inl one) =
    line_alone (w ++ (10 ∷ next)) (joined w next word 10 refl one) ∙ ap checks_by (stray_text w checks_word next false refl)
line_feed_by w next word (inr parts) =
    ap line_ok (feed_spaced w parts.0 parts.1 next parts.3)
    ∙ line_unnamed (w ++ (10 ∷ parts.0)) parts.1 (joined w parts.0 word 10 refl parts.2) (stray_kind w parts.0 false)

line_feed : (w next : List ℕ) → IsWord w → line_ok (w ++ (10 ∷ next)) ≡ false
line_feed w next word = line_feed_by w next word (parts_of next)

checks_sample : (line : List ℕ) × (line_ok line ≡ true)
checks_sample = (checks_word, line_alone checks_word (refl, (refl, (refl, (refl, (refl, (refl, tt)))))))

-- only one kind has no words after the first
alone_kind : (kind : EventKind) → (is_alone (form_of kind) ≡ false) ⊎ (kind ≡ kinds.Checks)
alone_kind kinds.Coordinator = inl refl
alone_kind kinds.Meter = inl refl
alone_kind kinds.Depot = inl refl
alone_kind kinds.Near = inl refl
alone_kind kinds.Counter = inl refl
alone_kind kinds.Number = inl refl
alone_kind kinds.Allow = inl refl
alone_kind kinds.RandomOctets = inl refl
alone_kind kinds.Join = inl refl
alone_kind kinds.Leave = inl refl
alone_kind kinds.Send = inl refl
alone_kind kinds.Deliver = inl refl
alone_kind kinds.Inject = inl refl
alone_kind kinds.Lose = inl refl
alone_kind kinds.Break = inl refl
alone_kind kinds.Tick = inl refl
alone_kind kinds.Restart = inl refl
alone_kind kinds.Cut = inl refl
alone_kind kinds.Rekey = inl refl
alone_kind kinds.Challenge = inl refl
alone_kind kinds.Activate = inl refl
alone_kind kinds.Kick = inl refl
alone_kind kinds.Show = inl refl
alone_kind kinds.Checks = inr refl
alone_kind kinds.Bcast = inl refl
alone_kind kinds.Scan = inl refl
alone_kind kinds.Choose = inl refl
alone_kind kinds.Path = inl refl

is_checks : (w : List ℕ) (kind : EventKind) → kind_named w ≡ Some kind → kind ≡ kinds.Checks → bytes_eq w checks_word ≡ true
is_checks w kind named is = sym (ap (λ k. bytes_eq w (kind_word k)) is) ∙ named_is w kind named

-- # Faults of lines

missing_form : (form : Form) (w : List ℕ) → is_alone form ≡ false → line_ok w ≡ false → ((next : List ℕ) → line_ok (w ++ (10 ∷ next)) ≡ false)
    → (more : List ℕ) × (line_ok (w ++ more) ≡ true) → Marks line_ok w 0 (ended_fault form (length w))
missing_form Alone w is alone none whole = cc is
missing_form (One first) w is alone none whole = missing_marks line_ok w 0 (length w) first (omega arith) alone none whole
missing_form (Two first _) w is alone none whole = missing_marks line_ok w 0 (length w) first (omega arith) alone none whole
missing_form (Three first _ _) w is alone none whole = missing_marks line_ok w 0 (length w) first (omega arith) alone none whole

alone_marks : (w : List ℕ) (test : Bool) (o : Option EventKind) → IsWord w → bytes_eq w checks_word ≡ test → kind_named w ≡ o
    → IfSome (alone_fault test o w) (Marks line_ok w 0)
alone_marks w true o word is named = tt
alone_marks w false None word is named =
    end_marks line_ok w 0 Unknown (line_alone w word ∙ ap checks_by is) (λ next. line_feed w next word) checks_sample
alone_marks w false (Some kind) word is named =
    elim (alone_kind kind) [
      | inl more ↦
          missing_form (form_of kind) w more (line_alone w word ∙ ap checks_by is) (λ next. line_feed w next word)
          (32 ∷ form_sample (form_of kind), line_named w (form_sample (form_of kind)) kind word named ∙ form_sample_ok (form_of kind) more)
      | inr checks ↦ cc (sym is ∙ is_checks w kind named checks)
    ]

checks_marks : (w z : List ℕ) → IsWord w → kind_named w ≡ Some kinds.Checks
    → IfSome (words_fault (form_of kinds.Checks) (length w + 1) z) (Marks line_ok (w ++ (32 ∷ z)) 0)
checks_marks w z word named =
    let long = length-append w (32 ∷ z) in
    surplus_marks line_ok w z 0 (length w + 1 - 1) (length w + 1 + length z) (omega arith) (omega (arith, long))
    (line_alone w word ∙ ap checks_by (is_checks w kinds.Checks named refl)) (λ next. line_named w next kinds.Checks word named)

spaced_marks : (w z : List ℕ) (o : Option EventKind) → IsWord w → kind_named w ≡ o
    → IfSome (spaced_fault o (record { word = w; rest = z })) (Marks line_ok (w ++ (32 ∷ z)) 0)
spaced_marks w z None word named = word_marks line_ok w z 0 Unknown (λ next. line_unnamed w next word named) checks_sample
spaced_marks w z (Some kind) word named =
    elim (alone_kind kind) [
      | inl more ↦
          if_marks (λ f. shifted_marks line_ok (form_ok (form_of kind)) w z 0 (length w + 1) f (omega arith) (λ next. line_named w next kind word named))
          (words_fault (form_of kind) (length w + 1) z) (words_marks (form_of kind) (length w + 1) z more)
      | inr checks ↦
          subst (λ k. IfSome (words_fault (form_of k) (length w + 1) z) (Marks line_ok (w ++ (32 ∷ z)) 0)) (sym checks)
          (checks_marks w z word (named ∙ ap Some checks))
    ]

event_marks_by : (line : List ℕ) → Parts line → IfSome (event_fault_by (field line) line) (Marks line_ok line 0)
event_marks_by line (inl word) =
    subst (λ o. IfSome (event_fault_by o line) (Marks line_ok line 0)) (sym (alone_read line word))
    (alone_marks line (bytes_eq line checks_word) (kind_named line) word refl refl)
event_marks_by line (inr parts) =
    let w = parts.0 in
    let z = parts.1 in
    subst (λ l. IfSome (event_fault_by (field l) l) (Marks line_ok l 0)) (sym parts.3)
    (subst (λ o. IfSome (event_fault_by o (w ++ (32 ∷ z))) (Marks line_ok (w ++ (32 ∷ z)) 0)) (sym (field_read w z parts.2))
    (spaced_marks w z (kind_named w) parts.2 refl))

-- # Lines

readable_by : (test : Bool) (line : List ℕ) → test ≡ false
    → has_reading (if test then Quiet else reads (event_of line)) ≡ line_ok line
unfolding event_of
readable_by true line is = cc is
readable_by false line is = reads_is (event_with line (field line))

readable : (c : ℕ) (cs : List ℕ) → (c == 35) ≡ false → is_readable (c ∷ cs) ≡ line_ok (c ∷ cs)
unfolding reading
readable c cs is = readable_by (c == 35) (c ∷ cs) is

-- the line without an octet says nothing
before_by : (c : ℕ) (cs : List ℕ) (start : ℕ) → (c == 35) ≡ false → (more : List ℕ) × (line_ok (take start (c ∷ cs) ++ more) ≡ true)
    → (more : List ℕ) × (is_readable (take start (c ∷ cs) ++ more) ≡ true)
unfolding reading
before_by c cs zero is sample = ([], refl)
before_by c cs (suc n) is sample = (sample.0, readable c (take n cs ++ sample.0) is ∙ sample.1)

none_by : (c : ℕ) (cs : List ℕ) (end : ℕ) → (c == 35) ≡ false → 0 < end
    → ((other more : List ℕ) → ended other ≡ take (end + 1) (ended (c ∷ cs)) ++ more → line_ok other ≡ false)
    → (other more : List ℕ) → ended other ≡ take (end + 1) (ended (c ∷ cs)) ++ more → is_readable other ≡ false
none_by c cs zero is some none other more same = absurd (omega (arith, some))
none_by c cs (suc n) is some none [] more same = absurd (nothing_left cs (same_tail (same ∙ ap (λ k. take k (ended (c ∷ cs)) ++ more) count)))
  where
    count : suc n + 1 ≡ suc (suc n)
    count = omega arith

    nothing_left : (ds : List ℕ) → [] ≡ take (suc n) (ended ds) ++ more → ⊥
    nothing_left [] e = let long = ap length e in absurd (omega (arith, long))
    nothing_left (d ∷ ds) e = let long = ap length e in absurd (omega (arith, long))
none_by c cs (suc n) is some none (d ∷ ds) more same =
    let count : suc n + 1 ≡ suc (suc n) = omega arith in
    let first : d ≡ c = same_head (same ∙ ap (λ k. take k (ended (c ∷ cs)) ++ more) count) in
    readable d ds (ap (λ x. x == 35) first ∙ is) ∙ none (d ∷ ds) more same

place_of : (c : ℕ) (cs : List ℕ) (f : Fault) → (c == 35) ≡ false → Marks line_ok (c ∷ cs) 0 f → IsPlace (c ∷ cs) f.start f.end
place_of c cs f is marks =
    let starts = marks.starts in
    let ends = marks.ends in
    let some = marks.some in
    let start : marks.start ≡ f.start = omega (arith, starts) in
    let end : marks.end ≡ f.end = omega (arith, ends) in
    let here : IsPlace (c ∷ cs) marks.start marks.end =
    record {
      some = marks.some;
      within = marks.within;
      before = before_by c cs marks.start is marks.before;
      none = none_by c cs marks.end is (omega (arith, some)) marks.none;
    } in
    subst (λ n. IsPlace (c ∷ cs) f.start n) end (subst (λ n. IsPlace (c ∷ cs) n marks.end) start here)

places_by : (c : ℕ) (cs : List ℕ) (test : Bool) → (c == 35) ≡ test
    → IfSome (if test then None else event_fault (c ∷ cs)) (λ f. IsPlace (c ∷ cs) f.start f.end)
places_by c cs true is = tt
places_by c cs false is = if_marks (λ f marks. place_of c cs f is marks) (event_fault (c ∷ cs)) (event_marks_by (c ∷ cs) (parts_of (c ∷ cs)))

pub places_are : (line : List ℕ) → IfSome (fault_of line) (λ f. IsPlace line f.start f.end)
unfolding fault_of
places_are [] = tt
places_are (c ∷ cs) = places_by c cs (c == 35) refl
