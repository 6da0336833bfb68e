-- What a record says became of a flight is so, event by event.
use Rattle.std.proofs.Common.{◌≡◌, ◌≢◌, ℕ, suc, ◌+◌, ◌-◌, ◌≤◌, ◌<◌, ◌==◌, Bool, true, false, List, [], ◌∷◌, ◌++◌, length, Option, Some}
use Rattle.std.proofs.Common.{refl, sym, subst, ◌∙◌, ◌⊎◌, inl, inr, ⊎_elim, arith, length-append}
use Rattle.std.specs.Prelude.{◌&&◌, ◌||◌, if◌then◌else◌}
use Rattle.std.proofs.lemmas.Bool.{eq-eqb, ne_eqb}
use Rattle.line_record.specs.declared.act.Act.{Act}
use Rattle.line_record.specs.declared.act.Act.TheVariants as acts
use Rattle.line_record.specs.declared.course.Course.{Course}
use Rattle.line_record.specs.declared.course.Fate.{Fate}
use Rattle.line_record.specs.declared.course.Fate.TheVariants as fates
use Rattle.line_record.specs.declared.recorded.RecordedEvent.{RecordedEvent}
use Rattle.line_record.specs.Kinds.{actor_of, is_dropped, is_reported, takes_on}
use Rattle.line_record.specs.Lists.{changed_at}
use Rattle.line_record.specs.Marks.{answered, courses_by, fate_after, fate_lost, heard, is_accepted, is_for, lost, lost_by}
use Rattle.line_record.specs.RunRecords.{numbered}
use Rattle.story_laws.specs.Fates.{HasGoneOn, IsFate, IsHeardAt, NeverCame, NeverHeard, NotLostBefore, WasLost, WasRefused, WasReported}
use Rattle.story_laws.specs.Fates.{hears, loses, settles}
use Rattle.story_laws.proofs.Numbered.{changed_length, kept_number, last_number, number_was, positive, pushed_number, split_number, within}

true_false : true ≡ false → ⊥
true_false e = cc

both : (a b : Bool) → a ≡ true → b ≡ true → a && b ≡ true
both a b x y = λ i. x i && y i

first_false : (a b : Bool) → a ≡ false → a && b ≡ false
first_false a b x = λ i. x i && b

second_false : (a b : Bool) → b ≡ false → a && b ≡ false
second_false true b x = x
second_false false b x = refl

-- what is not accepted is not settled
unsettled : (a b c : Bool) → a || (b || c) ≡ false → a || b ≡ false
unsettled true b c is = is
unsettled false true c is = is
unsettled false false c is = refl

same_true : (m n : ℕ) → m ≡ n → (m == n) ≡ true
same_true m n is = eq-eqb m n is

-- # One more event

module _ (es : List RecordedEvent) (e : RecordedEvent) where
  -- what is said of each event of a longer list
  each_more : (P : ℕ → RecordedEvent → Type 0) → ((k : ℕ) (d : RecordedEvent) → numbered es k ≡ Some d → P k d) → P (length es + 1) e
      → (k : ℕ) (d : RecordedEvent) → numbered (es ++ (e ∷ [])) k ≡ Some d → P k d
  each_more P old new k d is =
      ⊎_elim (λ (was : numbered es k ≡ Some d). old k d was)
      (λ (now : (k ≡ length es + 1) × (d ≡ e)). subst (λ (x : ℕ). P x d) (sym now.0) (subst (P (length es + 1)) (sym now.1) new))
      (pushed_number es e k d is)

  -- an event of a smaller number than one that was there was there too
  was_there : (k m : ℕ) (c d : RecordedEvent) → numbered es m ≡ Some c → k < m → numbered (es ++ (e ∷ [])) k ≡ Some d → numbered es k ≡ Some d
  was_there k m c d there less is =
      ⊎_elim (λ (was : numbered es k ≡ Some d). was)
      (λ (now : (k ≡ length es + 1) × (d ≡ e)). let bound = within es m c there in absurd (omega (arith, now.0, bound, less)))
      (pushed_number es e k d is)

  -- and so was one before the new one
  was_before : (k : ℕ) (d : RecordedEvent) → k < length es + 1 → numbered (es ++ (e ∷ [])) k ≡ Some d → numbered es k ≡ Some d
  was_before k d less is =
      ⊎_elim (λ (was : numbered es k ≡ Some d). was)
      (λ (now : (k ≡ length es + 1) × (d ≡ e)). absurd (omega (arith, now.0, less)))
      (pushed_number es e k d is)

  none_after : (k : ℕ) (d : RecordedEvent) → length es + 1 < k → numbered (es ++ (e ∷ [])) k ≡ Some d → ⊥
  none_after k d more is =
      let bound = within (es ++ (e ∷ [])) k d is in
      omega (arith, bound, more, length-append es (e ∷ []))

  module _ (n : ℕ) (to : Option ℕ) where
    heard_still : (m : ℕ) (d : RecordedEvent) → IsHeardAt es n to m d → IsHeardAt (es ++ (e ∷ [])) n to m d
    heard_still m d at = record {
      there = kept_number es e m d at.there;
      heard = at.heard;
      before = λ k c less is hears_it. at.before k c less (was_there k m d c at.there less is) hears_it;
    }

    never_more : NeverHeard es n to → hears n to e ≡ false → NeverHeard (es ++ (e ∷ [])) n to
    never_more never unheard = each_more (λ (k : ℕ) (d : RecordedEvent). hears n to d ≡ false) never unheard

    abbrev Unsettled : List RecordedEvent → Type 0
    Unsettled events = (k : ℕ) (d : RecordedEvent) → numbered events k ≡ Some d → hears n to d ≡ true → settles d.answer ≡ false

    abbrev UnacceptedAfter : ℕ → List RecordedEvent → Type 0
    UnacceptedAfter m events =
        (k : ℕ) (d : RecordedEvent) → m < k → numbered events k ≡ Some d → hears n to d ≡ true → is_accepted d.answer ≡ false

    unsettled_more : Unsettled es → (hears n to e ≡ true → settles e.answer ≡ false) → Unsettled (es ++ (e ∷ []))
    unsettled_more old new = each_more (λ (k : ℕ) (d : RecordedEvent). hears n to d ≡ true → settles d.answer ≡ false) old new

    unaccepted_more : (m : ℕ) → UnacceptedAfter m es → (hears n to e ≡ true → is_accepted e.answer ≡ false) → UnacceptedAfter m (es ++ (e ∷ []))
    unaccepted_more m old new k d after is hears_it =
        each_more (λ (k : ℕ) (d : RecordedEvent). m < k → hears n to d ≡ true → is_accepted d.answer ≡ false)
        (λ k d is after. old k d after is) (λ after. new) k d is after hears_it

    lost_still : (m : ℕ) (d : RecordedEvent) → numbered es m ≡ Some d → NotLostBefore es n m → NotLostBefore (es ++ (e ∷ [])) n m
    lost_still m d there first k c less is = first k c less (was_there k m d c there less is)

    -- # It does not bring the flight

    still_fate : hears n to e ≡ false → loses n e.act ≡ false → (f : Fate) → IsFate es n to f → IsFate (es ++ (e ∷ [])) n to f
    still_fate unheard unlost f (NeverCame never unlost_yet) =
        NeverCame (never_more never unheard) (each_more (λ (k : ℕ) (d : RecordedEvent). loses n d.act ≡ false) unlost_yet unlost)
    still_fate unheard unlost f (WasLost m d there is first never) =
        WasLost m d (kept_number es e m d there) is (lost_still m d there first) (never_more never unheard)
    still_fate unheard unlost f (HasGoneOn m d at is) = HasGoneOn m d (heard_still m d at) is
    still_fate unheard unlost f (WasReported m d at is) = WasReported m d (heard_still m d at) is
    still_fate unheard unlost f (WasRefused m d at none after) =
        WasRefused m d (heard_still m d at) (unsettled_more none (λ is. absurd (true_false (sym is ∙ unheard))))
        (unaccepted_more m after (λ is. absurd (true_false (sym is ∙ unheard))))

    lost_fate : hears n to e ≡ false → loses n e.act ≡ true → (f : Fate) → IsFate es n to f
        → IsFate (es ++ (e ∷ [])) n to (fate_lost (length es + 1) f)
    lost_fate unheard loses_it f (NeverCame never unlost) =
        WasLost (length es + 1) e (last_number es e) loses_it (λ k d less is. unlost k d (was_before k d less is)) (never_more never unheard)
    lost_fate unheard loses_it f (WasLost m d there is first never) =
        WasLost m d (kept_number es e m d there) is (lost_still m d there first) (never_more never unheard)
    lost_fate unheard loses_it f (HasGoneOn m d at is) = HasGoneOn m d (heard_still m d at) is
    lost_fate unheard loses_it f (WasReported m d at is) = WasReported m d (heard_still m d at) is
    lost_fate unheard loses_it f (WasRefused m d at none after) =
        WasRefused m d (heard_still m d at) (unsettled_more none (λ is. absurd (true_false (sym is ∙ unheard))))
        (unaccepted_more m after (λ is. absurd (true_false (sym is ∙ unheard))))

    -- # It brings the flight

    answered_fate : IsHeardAt (es ++ (e ∷ [])) n to (length es + 1) e → Unsettled es
        → IsFate (es ++ (e ∷ [])) n to (answered (length es + 1) e.answer)
    answered_fate at none = by_answer (takes_on e.answer) refl (is_reported e.answer) refl
      where
        by_answer : (a : Bool) → takes_on e.answer ≡ a → (b : Bool) → is_reported e.answer ≡ b
            → IsFate (es ++ (e ∷ [])) n to
            (if a then fates.WentOn (length es + 1) else (if b then fates.Reported (length es + 1) else fates.Refused (length es + 1)))
        by_answer true took b is = HasGoneOn (length es + 1) e at took
        by_answer false took true is = WasReported (length es + 1) e at is
        by_answer false took false is =
            WasRefused (length es + 1) e at (unsettled_more none (λ hears_it. λ i. took i || is i))
            (λ k d after there hears_it. absurd (none_after k d after there))

    first_heard : NeverHeard es n to → hears n to e ≡ true → IsHeardAt (es ++ (e ∷ [])) n to (length es + 1) e
    first_heard never heard_now = record {
      there = last_number es e;
      heard = heard_now;
      before = λ k d less is hears_it. absurd (true_false (sym hears_it ∙ never k d (was_before k d less is)));
    }

    never_settled : NeverHeard es n to → Unsettled es
    never_settled never k d is hears_it = absurd (true_false (sym hears_it ∙ never k d is))

    heard_fate : hears n to e ≡ true → (f : Fate) → IsFate es n to f → IsFate (es ++ (e ∷ [])) n to (fate_after (length es + 1) e.answer f)
    heard_fate heard_now f (NeverCame never unlost) = answered_fate (first_heard never heard_now) (never_settled never)
    heard_fate heard_now f (WasLost m d there is first never) = answered_fate (first_heard never heard_now) (never_settled never)
    heard_fate heard_now f (HasGoneOn m d at is) = HasGoneOn m d (heard_still m d at) is
    heard_fate heard_now f (WasReported m d at is) = WasReported m d (heard_still m d at) is
    heard_fate heard_now f (WasRefused m d at none after) = by_accepted (is_accepted e.answer) refl
      where
        by_accepted : (b : Bool) → is_accepted e.answer ≡ b
            → IsFate (es ++ (e ∷ [])) n to (if b then answered (length es + 1) e.answer else fates.Refused m)
        by_accepted true is =
            answered_fate
            (record {
              there = last_number es e;
              heard = heard_now;
              before = λ k c less there hears_it. (none k c (was_before k c less there) hears_it, is);
            }) none
        by_accepted false is =
            WasRefused m d (heard_still m d at)
            (unsettled_more none (λ hears_it. unsettled (takes_on e.answer) (is_reported e.answer) (is_dropped e.answer) is))
            (unaccepted_more m after (λ hears_it. is))

-- # The courses of flights

-- what is known of the courses of the flights so far: what became of each is so, and no event so far brought or lost a later flight
pub record AreSo (es : List RecordedEvent) (cs : List Course) : Type 0 where
  pub fates : (n : ℕ) (c : Course) → numbered cs n ≡ Some c → IsFate es n c.to c.fate
  pub come : (k : ℕ) (d : RecordedEvent) → numbered es k ≡ Some d → d.came ≤ length cs
  pub unlost : (n : ℕ) → length cs < n → (k : ℕ) (d : RecordedEvent) → numbered es k ≡ Some d → loses n d.act ≡ false

-- an event that is of the flights so far: it brings and loses no later one, and brings none where it loses one
pub record IsOfFlights (e : RecordedEvent) (count : ℕ) : Type 0 where
  pub comes : e.came ≤ count
  pub unlost : (n : ℕ) → count < n → loses n e.act ≡ false
  pub one : (n : ℕ) → loses n e.act ≡ true → e.came ≡ 0

-- flights that are new
abbrev pub AllMissed : List Course → Type 0
AllMissed cs = (i : ℕ) (c : Course) → numbered cs (suc i) ≡ Some c → c.fate ≡ fates.Missed

module _ (es : List RecordedEvent) (e : RecordedEvent) (cs : List Course) (so : AreSo es cs) (of : IsOfFlights e (length cs)) where
  not_heard : (n : ℕ) (to : Option ℕ) → e.came ≢ n → hears n to e ≡ false
  not_heard n to other = first_false (e.came == n) (is_for to (actor_of e.act)) (ne_eqb e.came n other)

  -- an event that loses a flight does not bring it
  lost_unheard : (n : ℕ) (to : Option ℕ) → 0 < n → loses n e.act ≡ true → hears n to e ≡ false
  lost_unheard n to some is = not_heard n to (λ came. let none = of.one n is in absurd (omega (arith, none, came, some)))

  -- the course of a flight that is heard, or is not
  after_hearing : (n : ℕ) (c : Course) → 0 < n → numbered cs n ≡ Some c → e.came ≡ n → loses n e.act ≡ false
      → IsFate (es ++ (e ∷ [])) n (heard (length es + 1) (actor_of e.act) e.answer c).to (heard (length es + 1) (actor_of e.act) e.answer c).fate
  after_hearing n c some is came unlost = by_for (is_for c.to (actor_of e.act)) refl
    where
      by_for : (b : Bool) → is_for c.to (actor_of e.act) ≡ b
          → IsFate (es ++ (e ∷ [])) n (if b then record c { fate = fate_after (length es + 1) e.answer c.fate } else record c { overheard = true }).to
          (if b then record c { fate = fate_after (length es + 1) e.answer c.fate } else record c { overheard = true }).fate
      by_for true is_it =
          heard_fate es e n c.to (both (e.came == n) (is_for c.to (actor_of e.act)) (same_true e.came n came) is_it) c.fate (so.fates n c is)
      by_for false other =
          still_fate es e n c.to (second_false (e.came == n) (is_for c.to (actor_of e.act)) other) unlost c.fate (so.fates n c is)

  -- whether a flight is lost by an act
  lost_number : (act : Act) (n : ℕ) (m : ℕ) (xs : List Course) (y : Course) → numbered (lost_by act m xs) n ≡ Some y
      → (x : Course) × (numbered xs n ≡ Some x) × (((loses n act ≡ true) × (y ≡ lost m x)) ⊎ ((loses n act ≡ false) × (y ≡ x)))
  lost_number (acts.Lose flight) n m xs y is =
      let was = number_was (lost m) xs flight n y is in (
        was.0,
        was.1,
        ⊎_elim (λ (same : (flight ≡ n) × (y ≡ lost m was.0)). inl (same_true flight n same.0, same.1))
            (λ (other : (flight ≢ n) × (y ≡ was.0)). inr (ne_eqb flight n other.0, other.1)) was.2,
      )
  lost_number (acts.Coordinator eui) n m xs y is = (y, is, inr (refl, refl))
  lost_number (acts.Meter eui) n m xs y is = (y, is, inr (refl, refl))
  lost_number (acts.Depot node) n m xs y is = (y, is, inr (refl, refl))
  lost_number (acts.Near a b) n m xs y is = (y, is, inr (refl, refl))
  lost_number (acts.Counter node) n m xs y is = (y, is, inr (refl, refl))
  lost_number (acts.Number node) n m xs y is = (y, is, inr (refl, refl))
  lost_number (acts.Allow node) n m xs y is = (y, is, inr (refl, refl))
  lost_number (acts.RandomOctets node) n m xs y is = (y, is, inr (refl, refl))
  lost_number (acts.Join node agent) n m xs y is = (y, is, inr (refl, refl))
  lost_number (acts.Leave node) n m xs y is = (y, is, inr (refl, refl))
  lost_number (acts.Send from to octets) n m xs y is = (y, is, inr (refl, refl))
  lost_number (acts.Deliver flight node cost) n m xs y is = (y, is, inr (refl, refl))
  lost_number (acts.Inject node cost octets) n m xs y is = (y, is, inr (refl, refl))
  lost_number (acts.Break node next) n m xs y is = (y, is, inr (refl, refl))
  lost_number (acts.Tick seconds) n m xs y is = (y, is, inr (refl, refl))
  lost_number (acts.Restart node) n m xs y is = (y, is, inr (refl, refl))
  lost_number (acts.Cut node nth keeps_new) n m xs y is = (y, is, inr (refl, refl))
  lost_number (acts.Rekey index) n m xs y is = (y, is, inr (refl, refl))
  lost_number (acts.Challenge node) n m xs y is = (y, is, inr (refl, refl))
  lost_number (acts.Activate node index) n m xs y is = (y, is, inr (refl, refl))
  lost_number (acts.Kick node) n m xs y is = (y, is, inr (refl, refl))
  lost_number (acts.Show node) n m xs y is = (y, is, inr (refl, refl))
  lost_number acts.Checks n m xs y is = (y, is, inr (refl, refl))
  lost_number (acts.Bcast node octets) n m xs y is = (y, is, inr (refl, refl))
  lost_number (acts.Scan node) n m xs y is = (y, is, inr (refl, refl))
  lost_number (acts.Choose node k) n m xs y is = (y, is, inr (refl, refl))
  lost_number (acts.Path from to) n m xs y is = (y, is, inr (refl, refl))

  -- the course of a flight that was heard or not, where it is not lost
  heard_course : (n : ℕ) (x c : Course) → 0 < n → numbered cs n ≡ Some c → loses n e.act ≡ false
      → ((e.came ≡ n) × (x ≡ heard (length es + 1) (actor_of e.act) e.answer c)) ⊎ ((e.came ≢ n) × (x ≡ c))
      → IsFate (es ++ (e ∷ [])) n x.to x.fate
  heard_course n x c some is unlost how =
      ⊎_elim (λ (here : (e.came ≡ n) × (x ≡ heard (length es + 1) (actor_of e.act) e.answer c)).
      subst (λ (y : Course). IsFate (es ++ (e ∷ [])) n y.to y.fate) (sym here.1) (after_hearing n c some is here.0 unlost))
      (λ (there : (e.came ≢ n) × (x ≡ c)).
      subst (λ (y : Course). IsFate (es ++ (e ∷ [])) n y.to y.fate) (sym there.1)
      (still_fate es e n c.to (not_heard n c.to there.0) unlost c.fate (so.fates n c is))) how

  -- where it is lost
  lost_course : (n : ℕ) (x c : Course) → 0 < n → numbered cs n ≡ Some c → loses n e.act ≡ true
      → ((e.came ≡ n) × (x ≡ heard (length es + 1) (actor_of e.act) e.answer c)) ⊎ ((e.came ≢ n) × (x ≡ c))
      → IsFate (es ++ (e ∷ [])) n (lost (length es + 1) x).to (lost (length es + 1) x).fate
  lost_course n x c some is loses_it how =
      ⊎_elim (λ (here : (e.came ≡ n) × (x ≡ heard (length es + 1) (actor_of e.act) e.answer c)).
      let none = of.one n loses_it in absurd (omega (arith, none, here.0, some)))
      (λ (there : (e.came ≢ n) × (x ≡ c)).
      subst (λ (y : Course). IsFate (es ++ (e ∷ [])) n (lost (length es + 1) y).to (lost (length es + 1) y).fate) (sym there.1)
      (lost_fate es e n c.to (lost_unheard n c.to some loses_it) loses_it c.fate (so.fates n c is))) how

  old_course : (n : ℕ) (y : Course) → numbered (courses_by e (length es + 1) cs) n ≡ Some y → IsFate (es ++ (e ∷ [])) n y.to y.fate
  old_course n y is =
      let by_loss = lost_number e.act n (length es + 1) (changed_at_came) y is in
      let x = by_loss.0 in
      let by_hearing = number_was (heard (length es + 1) (actor_of e.act) e.answer) cs e.came n x by_loss.1 in
      let c = by_hearing.0 in
      let some = positive cs n c by_hearing.1 in
      ⊎_elim (λ (loses_it : (loses n e.act ≡ true) × (y ≡ lost (length es + 1) x)).
      subst (λ (z : Course). IsFate (es ++ (e ∷ [])) n z.to z.fate) (sym loses_it.1) (lost_course n x c some by_hearing.1 loses_it.0 by_hearing.2))
      (λ (unlost : (loses n e.act ≡ false) × (y ≡ x)).
      subst (λ (z : Course). IsFate (es ++ (e ∷ [])) n z.to z.fate) (sym unlost.1) (heard_course n x c some by_hearing.1 unlost.0 by_hearing.2)) by_loss.2
    where
      changed_at_came : List Course
      changed_at_came = changed_at e.came (heard (length es + 1) (actor_of e.act) e.answer) cs

  lost_length : (act : Act) (m : ℕ) (xs : List Course) → length (lost_by act m xs) ≡ length xs
  lost_length (acts.Lose flight) m xs = changed_length (lost m) flight xs
  lost_length (acts.Coordinator eui) m xs = refl
  lost_length (acts.Meter eui) m xs = refl
  lost_length (acts.Depot node) m xs = refl
  lost_length (acts.Near a b) m xs = refl
  lost_length (acts.Counter node) m xs = refl
  lost_length (acts.Number node) m xs = refl
  lost_length (acts.Allow node) m xs = refl
  lost_length (acts.RandomOctets node) m xs = refl
  lost_length (acts.Join node agent) m xs = refl
  lost_length (acts.Leave node) m xs = refl
  lost_length (acts.Send from to octets) m xs = refl
  lost_length (acts.Deliver flight node cost) m xs = refl
  lost_length (acts.Inject node cost octets) m xs = refl
  lost_length (acts.Break node next) m xs = refl
  lost_length (acts.Tick seconds) m xs = refl
  lost_length (acts.Restart node) m xs = refl
  lost_length (acts.Cut node nth keeps_new) m xs = refl
  lost_length (acts.Rekey index) m xs = refl
  lost_length (acts.Challenge node) m xs = refl
  lost_length (acts.Activate node index) m xs = refl
  lost_length (acts.Kick node) m xs = refl
  lost_length (acts.Show node) m xs = refl
  lost_length acts.Checks m xs = refl
  lost_length (acts.Bcast node octets) m xs = refl
  lost_length (acts.Scan node) m xs = refl
  lost_length (acts.Choose node k) m xs = refl
  lost_length (acts.Path from to) m xs = refl

  pub courses_length : length (courses_by e (length es + 1) cs) ≡ length cs
  courses_length =
      lost_length e.act (length es + 1) (changed_at e.came (heard (length es + 1) (actor_of e.act) e.answer) cs)
      ∙ changed_length (heard (length es + 1) (actor_of e.act) e.answer) e.came cs

  -- a flight that no event so far brought or lost
  new_fate : (n : ℕ) (to : Option ℕ) → length cs < n → IsFate (es ++ (e ∷ [])) n to fates.Missed
  new_fate n to new =
      NeverCame
      (each_more es e (λ (k : ℕ) (d : RecordedEvent). hears n to d ≡ false)
      (λ k d is. let bound = so.come k d is in
      first_false (d.came == n) (is_for to (actor_of d.act)) (ne_eqb d.came n (λ came. absurd (omega (arith, bound, came, new)))))
      (let bound = of.comes in not_heard n to (λ came. absurd (omega (arith, bound, came, new)))))
      (each_more es e (λ (k : ℕ) (d : RecordedEvent). loses n d.act ≡ false) (so.unlost n new) (of.unlost n new))

  -- after the event, and with the flights that it made
  pub are_so_after : (more : List Course) → AllMissed more → AreSo (es ++ (e ∷ [])) (courses_by e (length es + 1) cs ++ more)
  are_so_after more missed = record {
    fates = λ n c is.
        ⊎_elim (λ (old : numbered (courses_by e (length es + 1) cs) n ≡ Some c). old_course n c old)
        (λ (new : (i : ℕ) × (n ≡ length (courses_by e (length es + 1) cs) + i + 1) × (numbered more (suc i) ≡ Some c)).
        subst (λ (f : Fate). IsFate (es ++ (e ∷ [])) n c.to f) (sym (missed new.0 c new.2))
        (let counted = courses_length in new_fate n c.to (omega (arith, new.1, counted))))
        (split_number (courses_by e (length es + 1) cs) more n c is);
    come =
        each_more es e (λ (k : ℕ) (d : RecordedEvent). d.came ≤ length (courses_by e (length es + 1) cs ++ more))
        (λ k d is. let bound = so.come k d is in let counted = courses_length in
        omega (arith, bound, counted, length-append (courses_by e (length es + 1) cs) more))
        (let bound = of.comes in let counted = courses_length in
        omega (arith, bound, counted, length-append (courses_by e (length es + 1) cs) more));
    unlost = λ n later.
        let counted = courses_length in
        let beyond : length cs < n = omega (arith, later, counted, length-append (courses_by e (length es + 1) cs) more) in
        each_more es e (λ (k : ℕ) (d : RecordedEvent). loses n d.act ≡ false) (so.unlost n beyond) (of.unlost n beyond);
  }
