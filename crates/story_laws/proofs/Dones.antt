-- When a story says that it is done, an event of its own says so, and where none does, it doesn't.
use Rattle.std.proofs.Common.{◌≡◌, ◌≢◌, ℕ, suc, ◌+◌, ◌≤◌, ◌<◌, Bool, true, false, List, [], ◌∷◌, ◌++◌, length, Option, Some, None}
use Rattle.std.proofs.Common.{refl, sym, ap, subst, ◌∙◌, ◌⊎◌, inl, inr, ⊎_elim, arith, length-append}
use Rattle.std.proofs.lemmas.Option.{same_Some}
use Rattle.line_record.specs.declared.kind.StoryKind.{StoryKind}
use Rattle.line_record.specs.declared.kind.StoryKind.TheVariants as kinds
use Rattle.line_record.specs.declared.recorded.RecordedEvent.{RecordedEvent}
use Rattle.line_record.specs.Kinds.{is_line}
use Rattle.line_record.specs.Lists.{changed_at}
use Rattle.line_record.specs.Marks.{or_first, or_last}
use Rattle.line_record.specs.RunRecords.{numbered}
use Rattle.story_laws.proofs.Numbered.{kept_number, last_number, left_number, number_now, number_was, pushed_number, split_number, within}
use Rattle.story_laws.proofs.StoryCores.{Core, core_came, core_marked, marks, says}

true_false : true ≡ false → ⊥
true_false e = cc

-- # What is known of one story

-- which other events count: of a joining all after the one at which it is done, of others all before
abbrev pub Beyond : StoryKind → ℕ → ℕ → Type 0
Beyond kinds.Setup n m = m < n
Beyond kinds.Datagram n m = m < n
Beyond kinds.Joining n m = n < m
Beyond kinds.Renewal n m = n < m
Beyond kinds.Order n m = m < n
Beyond kinds.Injection n m = m < n
Beyond kinds.Broadcast n m = m < n
Beyond kinds.Walk n m = m < n
Beyond kinds.Line n m = m < n

-- an event of this number is one of a story, from its first one on
pub record IsEventOf (es : List RecordedEvent) (owners : List ℕ) (i first m : ℕ) (d : RecordedEvent) : Type 0 where
  pub there : numbered es m ≡ Some d
  pub owner : numbered owners m ≡ Some i
  pub since : first ≤ m

-- the event of this number says that the story is done, and it is the first that does, or the last
pub record SaidAt (es : List RecordedEvent) (owners : List ℕ) (i : ℕ) (k : StoryKind) (first person n : ℕ) : Type 0 where
  pub event : RecordedEvent
  pub of : IsEventOf es owners i first n event
  pub is : says k person event ≡ true
  pub only : (m : ℕ) (d : RecordedEvent) → Beyond k n m → IsEventOf es owners i first m d → says k person d ≡ false

pub data IsSo (es : List RecordedEvent) (owners : List ℕ) (i : ℕ) (k : StoryKind) (first person : ℕ) : Option ℕ → Type 0 where
  Never : ((m : ℕ) (d : RecordedEvent) → IsEventOf es owners i first m d → says k person d ≡ false) → IsSo es owners i k first person None
  SaysAt : (n : ℕ) → SaidAt es owners i k first person n → IsSo es owners i k first person (Some n)

-- # Events that say nothing of it

module _ (es es' : List RecordedEvent) (owners owners' : List ℕ) (i : ℕ) (k : StoryKind) (first person : ℕ)
    (back : (m : ℕ) (d : RecordedEvent) → IsEventOf es' owners' i first m d → IsEventOf es owners i first m d ⊎ (says k person d ≡ false))
    (forth : (m : ℕ) (d : RecordedEvent) → IsEventOf es owners i first m d → IsEventOf es' owners' i first m d) where
  quiet : (P : ℕ → Type 0) → ((m : ℕ) (d : RecordedEvent) → P m → IsEventOf es owners i first m d → says k person d ≡ false)
      → (m : ℕ) (d : RecordedEvent) → P m → IsEventOf es' owners' i first m d → says k person d ≡ false
  quiet P old m d p of =
      ⊎_elim (λ (was : IsEventOf es owners i first m d). old m d p was) (λ (no : says k person d ≡ false). no) (back m d of)

  pub so_through : (r : Option ℕ) → IsSo es owners i k first person r → IsSo es' owners' i k first person r
  so_through r (Never h) =
      Never (λ m d of. ⊎_elim (λ (was : IsEventOf es owners i first m d). h m d was) (λ (no : says k person d ≡ false). no) (back m d of))
  so_through r (SaysAt n s) =
      SaysAt n (record { event = s.event; of = forth n s.event s.of; is = s.is; only = quiet (Beyond k n) s.only })

-- # One more event

module _ (es : List RecordedEvent) (e : RecordedEvent) (owners : List ℕ) (i first : ℕ) where
  abbrev New : List RecordedEvent
  New = es ++ (e ∷ [])

  event_kept : (m : ℕ) (d : RecordedEvent) → IsEventOf es owners i first m d → IsEventOf New owners i first m d
  event_kept m d of = record { there = kept_number es e m d of.there; owner = of.owner; since = of.since }

  -- an event of the longer list was there, or is the last
  event_was : (m : ℕ) (d : RecordedEvent) → IsEventOf New owners i first m d
      → IsEventOf es owners i first m d ⊎ ((m ≡ length es + 1) × (d ≡ e))
  event_was m d of =
      ⊎_elim (λ (was : numbered es m ≡ Some d). inl (record { there = was; owner = of.owner; since = of.since })) (λ new. inr new)
      (pushed_number es e m d of.there)

  -- where the last event says nothing of it
  pub silent : (k : StoryKind) (person : ℕ) (r : Option ℕ) → says k person e ≡ false → IsSo es owners i k first person r
      → IsSo New owners i k first person r
  silent k person r none =
      so_through es New owners owners i k first person
      (λ m d of.
      ⊎_elim (λ (was : IsEventOf es owners i first m d). inl was)
      (λ (new : (m ≡ length es + 1) × (d ≡ e)). inr (ap (says k person) new.1 ∙ none)) (event_was m d of)) event_kept r

  -- where it is of another story
  pub elsewhere : (story : ℕ) → numbered owners (length es + 1) ≡ Some story → story ≢ i → (k : StoryKind) (person : ℕ) (r : Option ℕ)
      → IsSo es owners i k first person r → IsSo New owners i k first person r
  elsewhere story own other k person r =
      so_through es New owners owners i k first person
      (λ m d of.
      ⊎_elim (λ (was : IsEventOf es owners i first m d). inl was)
      (λ (new : (m ≡ length es + 1) × (d ≡ e)).
      absurd (other (same_Some story i (sym own ∙ ap (λ (n : ℕ). numbered owners n) (sym new.0) ∙ of.owner)))) (event_was m d of)) event_kept r

  module _ (own : numbered owners (length es + 1) ≡ Some i) where
    of_last : first ≤ length es + 1 → IsEventOf New owners i first (length es + 1) e
    of_last since = record { there = last_number es e; owner = own; since = since }

    no_later : {P : Type 0} (m : ℕ) (d : RecordedEvent) → length es + 1 < m → IsEventOf New owners i first m d → P
    no_later m d later of =
        let inside = within (es ++ (e ∷ [])) m d of.there in absurd (omega (arith, inside, later, length-append es (e ∷ [])))

    -- a story of a kind that is done at the last such event
    last_so : (k : StoryKind) (person : ℕ) (r : Option ℕ) → first ≤ length es + 1
        → ((m : ℕ) → Beyond k (length es + 1) m → length es + 1 < m)
        → IsSo es owners i k first person r → (b : Bool) → says k person e ≡ b → IsSo New owners i k first person (or_last r b (length es + 1))
    last_so k person r since beyond so true is =
        SaysAt (length es + 1)
        (record { event = e; of = of_last since; is = is; only = λ m d later of. no_later m d (beyond m later) of })
    last_so k person r since beyond so false is = silent k person r is so

    -- a story of a kind that is done at the first, where the last event says so
    first_said : (k : StoryKind) (person : ℕ) (r : Option ℕ) → first ≤ length es + 1 → ((n m : ℕ) → Beyond k n m → m < n) → says k person e ≡ true
        → IsSo es owners i k first person r → IsSo New owners i k first person (or_first r true (length es + 1))
    first_said k person r since beyond is (Never h) =
        SaysAt (length es + 1)
        (record {
          event = e;
          of = of_last since;
          is = is;
          only = λ m d earlier of.
              ⊎_elim (λ (was : IsEventOf es owners i first m d). h m d was)
              (λ (new : (m ≡ length es + 1) × (d ≡ e)). let less = beyond (length es + 1) m earlier in absurd (omega (arith, less, new.0)))
              (event_was m d of);
        })
    first_said k person r since beyond is (SaysAt n s) =
        SaysAt n
        (record {
          event = s.event;
          of = event_kept n s.event s.of;
          is = s.is;
          only = λ m d earlier of.
              ⊎_elim (λ (was : IsEventOf es owners i first m d). s.only m d earlier was)
              (λ (new : (m ≡ length es + 1) × (d ≡ e)).
              let less = beyond n m earlier in
              let inside = within es n s.event s.of.there in absurd (omega (arith, less, inside, new.0)))
              (event_was m d of);
        })

    same_first : (r : Option ℕ) (n : ℕ) → or_first r false n ≡ r
    same_first None n = refl
    same_first (Some m) n = refl

    first_so : (k : StoryKind) (person : ℕ) (r : Option ℕ) → first ≤ length es + 1 → ((n m : ℕ) → Beyond k n m → m < n)
        → IsSo es owners i k first person r → (b : Bool) → says k person e ≡ b → IsSo New owners i k first person (or_first r b (length es + 1))
    first_so k person r since beyond so true is = first_said k person r since beyond is so
    first_so k person r since beyond so false is =
        subst (λ (o : Option ℕ). IsSo New owners i k first person o) (sym (same_first r (length es + 1))) (silent k person r is so)

    -- a story to which the last event belongs
    pub marked_so : (k : StoryKind) (person : ℕ) (r : Option ℕ) → (is_line k ≡ false → first ≤ length es + 1) → IsSo es owners i k first person r
        → IsSo New owners i k first person (marks k person (length es + 1) e r)
    marked_so kinds.Setup person r since so = silent kinds.Setup person r refl so
    marked_so kinds.Datagram person r since so = silent kinds.Datagram person r refl so
    marked_so kinds.Joining person r since so = last_so kinds.Joining person r (since refl) (λ m later. later) so (says kinds.Joining person e) refl
    marked_so kinds.Renewal person r since so = last_so kinds.Renewal person r (since refl) (λ m later. later) so (says kinds.Renewal person e) refl
    marked_so kinds.Order person r since so = first_so kinds.Order person r (since refl) (λ n m less. less) so (says kinds.Order person e) refl
    marked_so kinds.Injection person r since so = silent kinds.Injection person r refl so
    marked_so kinds.Broadcast person r since so = silent kinds.Broadcast person r refl so
    marked_so kinds.Walk person r since so = first_so kinds.Walk person r (since refl) (λ n m less. less) so (says kinds.Walk person e) refl
    marked_so kinds.Line person r since so = silent kinds.Line person r refl so

-- # What is known of all

abbrev pub is_datagram : StoryKind → Bool
is_datagram kinds.Datagram = true
is_datagram _ = false

-- an event that says nothing of any story
abbrev pub IsMute : RecordedEvent → Type 0
IsMute e = (k : StoryKind) (person : ℕ) → says k person e ≡ false

pub record IsDatagramAt (cs : List Core) (i : ℕ) : Type 0 where
  pub core : Core
  pub there : numbered cs i ≡ Some core
  pub kind : core.kind ≡ kinds.Datagram

pub record Holds (es : List RecordedEvent) (owners : List ℕ) (cs : List Core) (sent : List ℕ) : Type 0 where
  -- each story but that of a datagram is done where an event of its own says so
  pub so : (i : ℕ) (c : Core) → numbered cs i ≡ Some c → is_datagram c.kind ≡ false → IsSo es owners i c.kind c.first c.person c.reached
  pub since : (i : ℕ) (c : Core) → numbered cs i ≡ Some c → is_line c.kind ≡ false → c.first ≤ length es + 1
  -- the events that have no story so far say nothing
  pub mute : (m : ℕ) (d : RecordedEvent) → length owners < m → numbered es m ≡ Some d → IsMute d
  -- each send has the story of a datagram
  pub sends : (k i : ℕ) → numbered sent k ≡ Some i → IsDatagramAt cs i

abbrev pub CoreIsSo : List RecordedEvent → List ℕ → ℕ → Core → Type 0
CoreIsSo es owners i c = is_datagram c.kind ≡ false → IsSo es owners i c.kind c.first c.person c.reached

-- a story that is changed is that of a datagram still
pub still_datagram : (f : Core → Core) → ((c : Core) → (f c).kind ≡ c.kind) → (cs : List Core) (story i : ℕ) → IsDatagramAt cs i
    → IsDatagramAt (changed_at story f cs) i
still_datagram f same cs story i at =
    let now = number_now f cs story i at.core at.there in
    record {
      core = now.0;
      there = now.1;
      kind =
          ⊎_elim (λ (changed : now.0 ≡ f at.core). ap (λ (c : Core). c.kind) changed ∙ same at.core ∙ at.kind)
          (λ (kept : now.0 ≡ at.core). ap (λ (c : Core). c.kind) kept ∙ at.kind) now.2;
    }

module _ (es : List RecordedEvent) (owners : List ℕ) (cs : List Core) (sent : List ℕ) (h : Holds es owners cs sent) where
  -- one story more
  pub grown : (new : Core) → ((i : ℕ) → CoreIsSo es owners i new) → (is_line new.kind ≡ false → new.first ≤ length es + 1)
      → Holds es owners (cs ++ (new ∷ [])) sent
  grown new new_so new_since = record {
    so = λ i c is.
        ⊎_elim (λ (old : numbered cs i ≡ Some c). h.so i c old)
        (λ (one : (i ≡ length cs + 1) × (c ≡ new)). subst (CoreIsSo es owners i) (sym one.1) (new_so i)) (pushed_number cs new i c is);
    since = λ i c is.
        ⊎_elim (λ (old : numbered cs i ≡ Some c). h.since i c old)
        (λ (one : (i ≡ length cs + 1) × (c ≡ new)).
        subst (λ (d : Core). is_line d.kind ≡ false → d.first ≤ length es + 1) (sym one.1) new_since) (pushed_number cs new i c is);
    mute = h.mute;
    sends = λ k i is.
        let at = h.sends k i is in record { core = at.core; there = kept_number cs new i at.core at.there; kind = at.kind };
  }

  -- events that say nothing get their stories
  pub owned : (more : List ℕ) → Holds es (owners ++ more) cs sent
  owned more = record {
    so = λ i c is other.
        so_through es es owners (owners ++ more) i c.kind c.first c.person
        (λ m d of.
        ⊎_elim (λ (old : numbered owners m ≡ Some i). inl (record { there = of.there; owner = old; since = of.since }))
        (λ (new : (j : ℕ) × (m ≡ length owners + j + 1) × (numbered more (suc j) ≡ Some i)).
        inr (h.mute m d (omega (arith, new.1)) of.there c.kind c.person)) (split_number owners more m i of.owner))
        (λ m d of. record { there = of.there; owner = left_number owners more m i of.owner; since = of.since }) c.reached (h.so i c is other);
    since = h.since;
    mute = λ m d later there. h.mute m d (omega (arith, later, length-append owners more)) there;
    sends = h.sends;
  }

  -- an event that says nothing and has no story so far
  pub unowned : (e : RecordedEvent) → IsMute e → Holds (es ++ (e ∷ [])) owners cs sent
  unowned e none = record {
    so = λ i c is other. silent es e owners i c.first c.kind c.person c.reached (none c.kind c.person) (h.so i c is other);
    since = λ i c is line. let old = h.since i c is line in omega (arith, old, length-append es (e ∷ []));
    mute = λ m d later there.
        ⊎_elim (λ (was : numbered es m ≡ Some d). h.mute m d later was)
        (λ (new : (m ≡ length es + 1) × (d ≡ e)). subst IsMute (sym new.1) none) (pushed_number es e m d there);
    sends = h.sends;
  }

  -- a send more
  pub sent_more : (story : ℕ) → IsDatagramAt cs story → Holds es owners cs (sent ++ (story ∷ []))
  sent_more story at = record {
    so = h.so;
    since = h.since;
    mute = h.mute;
    sends = λ k i is.
        ⊎_elim (λ (old : numbered sent k ≡ Some i). h.sends k i old)
        (λ (new : (k ≡ length sent + 1) × (i ≡ story)). subst (IsDatagramAt cs) (sym new.1) at) (pushed_number sent story k i is);
  }

  -- the datagram of a send is handed up
  pub handed_up : (story n : ℕ) → IsDatagramAt cs story → Holds es owners (changed_at story (core_came n) cs) sent
  handed_up story n at = record {
    so = λ i c is.
        let was = number_was (core_came n) cs story i c is in
        ⊎_elim (λ (here : (story ≡ i) × (c ≡ core_came n was.0)).
        let is_it : at.core ≡ was.0 = same_Some at.core was.0 (sym at.there ∙ ap (λ (k : ℕ). numbered cs k) here.0 ∙ was.1) in
        let kind : c.kind ≡ kinds.Datagram = ap (λ (d : Core). d.kind) here.1 ∙ sym (ap (λ (d : Core). d.kind) is_it) ∙ at.kind in
        λ other. absurd (true_false (sym (ap is_datagram kind) ∙ other)))
        (λ (there : (story ≢ i) × (c ≡ was.0)). subst (CoreIsSo es owners i) (sym there.1) (h.so i was.0 was.1)) was.2;
    since = λ i c is.
        let was = number_was (core_came n) cs story i c is in
        ⊎_elim (λ (here : (story ≡ i) × (c ≡ core_came n was.0)).
        subst (λ (d : Core). is_line d.kind ≡ false → d.first ≤ length es + 1) (sym here.1) (h.since i was.0 was.1))
        (λ (there : (story ≢ i) × (c ≡ was.0)).
        subst (λ (d : Core). is_line d.kind ≡ false → d.first ≤ length es + 1) (sym there.1) (h.since i was.0 was.1)) was.2;
    mute = h.mute;
    sends = λ k i is. still_datagram (core_came n) (λ c. refl) cs story i (h.sends k i is);
  }

  -- an event of a story
  module _ (e : RecordedEvent) (story : ℕ) (count : length owners ≡ length es + 1) (own : numbered owners (length es + 1) ≡ Some story) where
    abbrev Marked : List Core
    Marked = changed_at story (core_marked (length es + 1) e) cs

    pub marked_since : (i : ℕ) (c : Core) → numbered Marked i ≡ Some c → is_line c.kind ≡ false → c.first ≤ length (es ++ (e ∷ [])) + 1
    marked_since i c is line =
        let was = number_was (core_marked (length es + 1) e) cs story i c is in
        let old : c.first ≤ length es + 1 =
        ⊎_elim (λ (here : (story ≡ i) × (c ≡ core_marked (length es + 1) e was.0)).
        subst (λ (d : Core). is_line d.kind ≡ false → d.first ≤ length es + 1) (sym here.1) (h.since i was.0 was.1) line)
        (λ (there : (story ≢ i) × (c ≡ was.0)).
        subst (λ (d : Core). is_line d.kind ≡ false → d.first ≤ length es + 1) (sym there.1) (h.since i was.0 was.1) line) was.2 in
        omega (arith, old, length-append es (e ∷ []))

    marked_core : (i : ℕ) (c : Core) → numbered Marked i ≡ Some c → CoreIsSo (es ++ (e ∷ [])) owners i c
    marked_core i c is =
        let was = number_was (core_marked (length es + 1) e) cs story i c is in
        ⊎_elim (λ (here : (story ≡ i) × (c ≡ core_marked (length es + 1) e was.0)).
        subst (CoreIsSo (es ++ (e ∷ [])) owners i) (sym here.1)
        (λ other. marked_so es e owners i was.0.first (own ∙ ap Some here.0) was.0.kind was.0.person was.0.reached (h.since i was.0 was.1)
        (h.so i was.0 was.1 other)))
        (λ (there : (story ≢ i) × (c ≡ was.0)).
        subst (CoreIsSo (es ++ (e ∷ [])) owners i) (sym there.1)
        (λ other. elsewhere es e owners i was.0.first story own there.0 was.0.kind was.0.person was.0.reached (h.so i was.0 was.1 other))) was.2

    pub told : Holds (es ++ (e ∷ [])) owners Marked sent
    told = record {
      so = marked_core;
      since = marked_since;
      mute = λ m d later there.
          let inside = within (es ++ (e ∷ [])) m d there in absurd (omega (arith, inside, later, count, length-append es (e ∷ [])));
      sends = λ k i is. still_datagram (core_marked (length es + 1) e) (λ c. refl) cs story i (h.sends k i is);
    }
