-- The story of a send is its own: what stands at its number in the list, whatever is marked elsewhere.
use Rattle.std.proofs.Common.{◌≡◌, ◌≢◌, ℕ, zero, suc, ◌+◌, ◌-◌, ◌≤◌, ◌<◌, ◌==◌, Bool, true, false, List, [], ◌∷◌, ◌++◌, length, Option, Some, None}
use Rattle.std.proofs.Common.{refl, ap, sym, ◌∙◌, subst, arith, length-append, ◌⊎◌, inl, inr, ⊎_elim}
use Rattle.std.specs.Prelude.{slice_get, slice_set, if◌then◌else◌}
use Rattle.std.specs.Option.{option_and_then}
use Rattle.std.proofs.lemmas.Bool.{ne_eqb}
use Rattle.std.proofs.lemmas.Option.{none-some, same_Some}
use Rattle.store_tables.proofs.SlotTables.{slice_get-push}
use Rattle.line_events.specs.declared.event.Answer.{Answer}
use Rattle.line_record.specs.declared.act.Act.{Act}
use Rattle.line_record.specs.declared.act.Act.TheVariants as acts
use Rattle.line_record.specs.declared.recorded.RecordedEvent.{RecordedEvent}
use Rattle.line_record.specs.declared.kept.Kept.{Kept}
use Rattle.line_record.specs.declared.kind.StoryKind.{StoryKind}
use Rattle.line_record.specs.declared.kind.StoryKind.TheVariants as kinds
use Rattle.line_record.specs.declared.story.Story.{Story}
use Rattle.line_record.specs.KeptItems.{end_of, is_still}
use Rattle.line_record.specs.Kinds.{begins, joins, person_of, prepares, sends}
use Rattle.line_record.specs.Lists.{changed_at, changed_place}
use Rattle.line_record.specs.Marks.{left, marked, marked_by, new_story, or_kept, with_gathered, with_kept}
use Rattle.line_record.specs.RunRecords.{numbered}
use Rattle.line_record.specs.declared.place.Place.{Place}
use Rattle.line_record.specs.declared.place.Place.TheVariants.{At, New}
use Rattle.line_record.specs.NodeItems.{ended_so, stories_begun, stories_ended}
use Rattle.line_record.specs.NodeItems.{story_ended}
use Rattle.line_record.specs.Stories.{Stories, last_owner, line_number, line_place, next_event, number_at, place_by, place_of, ready_owners, settled}
use Rattle.line_record.specs.Stories.{unready, with_line, with_place, ended}
use Rattle.line_record.specs.Stories.{sent_with}

-- # What the story of a datagram says, beside what is kept of it

abbrev pub face_by : StoryKind → ℕ → Option ℕ → Option (ℕ × Option ℕ)
face_by kinds.Datagram first reached = Some (first, reached)
face_by _ first reached = None

abbrev pub face : Story → Option (ℕ × Option ℕ)
face x = face_by x.kind x.first x.reached

abbrev pub face_at : ℕ → List Story → Option (ℕ × Option ℕ)
face_at n xs = option_and_then face (numbered xs n)

-- # Numbers and places

not_zero : (n : ℕ) → (suc n == 0) ≡ false
not_zero n = ne_eqb (suc n) 0 (λ e. absurd (omega (arith, e)))

pub number_place : {A : Type 0} (xs : List A) (n : ℕ) → numbered xs (suc n) ≡ slice_get xs n
number_place {A} xs n =
    ap (λ (b : Bool). if b then None else slice_get xs (suc n - 1)) (not_zero n) ∙ ap (λ (k : ℕ). slice_get xs k) (omega arith)

change_place : {A : Type 0} (n : ℕ) (f : A → A) (xs : List A) → changed_at (suc n) f xs ≡ changed_place (slice_get xs n) n f xs
change_place {A} n f xs =
    ap (λ (b : Bool). if b then xs else changed_place (slice_get xs (suc n - 1)) (suc n - 1) f xs) (not_zero n)
    ∙ ap (λ (k : ℕ). changed_place (slice_get xs k) k f xs) (omega arith)

place_of_face : (xs : List Story) (n : ℕ) → face_at (suc n) xs ≡ option_and_then face (slice_get xs n)
place_of_face xs n = ap (option_and_then face) (number_place xs n)

-- # A list with another item under a number

cons_changed : {A : Type 0} (o : Option A) (place : ℕ) (f : A → A) (x : A) (xs : List A)
    → changed_place o (suc place) f (x ∷ xs) ≡ x ∷ changed_place o place f xs
cons_changed None place f x xs = refl
cons_changed (Some y) place f x xs = refl

place_face : (f : Story → Story) (xs : List Story) (m n : ℕ) → ((x : Story) → face (f x) ≡ face x)
    → option_and_then face (slice_get (changed_place (slice_get xs m) m f xs) n) ≡ option_and_then face (slice_get xs n)
place_face f [] m n same = refl
place_face f (x ∷ xs) zero zero same = same x
place_face f (x ∷ xs) zero (suc n) same = refl
place_face f (x ∷ xs) (suc m) zero same = ap (λ (ys : List Story). option_and_then face (slice_get ys 0)) (cons_changed (slice_get xs m) m f x xs)
place_face f (x ∷ xs) (suc m) (suc n) same =
    ap (λ (ys : List Story). option_and_then face (slice_get ys (suc n))) (cons_changed (slice_get xs m) m f x xs) ∙ place_face f xs m n same

-- what does not change the face of a story changes none in a list
changed_face : (f : Story → Story) (m n : ℕ) (xs : List Story) → ((x : Story) → face (f x) ≡ face x) → face_at n (changed_at m f xs) ≡ face_at n xs
changed_face f zero n xs same = refl
changed_face f (suc m) zero xs same = refl
changed_face f (suc m) (suc n) xs same =
    ap (face_at (suc n)) (change_place m f xs) ∙ place_of_face (changed_place (slice_get xs m) m f xs) n ∙ place_face f xs m n same ∙ sym (place_of_face xs n)

place_here : (f : Story → Story) (xs : List Story) (m : ℕ) (x : Story) → slice_get xs m ≡ Some x
    → slice_get (changed_place (slice_get xs m) m f xs) m ≡ Some (f x)
place_here f [] m x is = absurd (none-some x is)
place_here f (y ∷ xs) zero x is = ap (λ (z : Story). Some (f z)) (same_Some y x is)
place_here f (y ∷ xs) (suc m) x is = ap (λ (ys : List Story). slice_get ys (suc m)) (cons_changed (slice_get xs m) m f y xs) ∙ place_here f xs m x is

pub changed_here : (f : Story → Story) (m : ℕ) (xs : List Story) (x : Story) → numbered xs m ≡ Some x → numbered (changed_at m f xs) m ≡ Some (f x)
changed_here f zero xs x is = absurd (none-some x is)
changed_here f (suc m) xs x is =
    ap (λ (ys : List Story). numbered ys (suc m)) (change_place m f xs) ∙ number_place (changed_place (slice_get xs m) m f xs) m
    ∙ place_here f xs m x (sym (number_place xs m) ∙ is)

place_other : (f : Story → Story) (xs : List Story) (m n : ℕ) → m ≢ n → slice_get (changed_place (slice_get xs m) m f xs) n ≡ slice_get xs n
place_other f [] m n other = refl
place_other f (y ∷ xs) zero zero other = absurd (other refl)
place_other f (y ∷ xs) zero (suc n) other = refl
place_other f (y ∷ xs) (suc m) zero other = ap (λ (ys : List Story). slice_get ys 0) (cons_changed (slice_get xs m) m f y xs)
place_other f (y ∷ xs) (suc m) (suc n) other =
    ap (λ (ys : List Story). slice_get ys (suc n)) (cons_changed (slice_get xs m) m f y xs) ∙ place_other f xs m n (λ k. other (ap suc k))

pub changed_other : (f : Story → Story) (m n : ℕ) (xs : List Story) → m ≢ n → face_at n (changed_at m f xs) ≡ face_at n xs
changed_other f zero n xs other = refl
changed_other f (suc m) zero xs other = refl
changed_other f (suc m) (suc n) xs other =
    ap (face_at (suc n)) (change_place m f xs) ∙ place_of_face (changed_place (slice_get xs m) m f xs) n
    ∙ ap (option_and_then face) (place_other f xs m n (λ k. other (ap suc k))) ∙ sym (place_of_face xs n)

place_length : (f : Story → Story) (o : Option Story) (m : ℕ) (xs : List Story) → length (changed_place o m f xs) ≡ length xs
place_length f None m xs = refl
place_length f (Some x) m xs = set_length xs m (f x)
  where
    set_length : (ys : List Story) (k : ℕ) (y : Story) → length (slice_set ys k y) ≡ length ys
    set_length [] k y = refl
    set_length (z ∷ ys) zero y = refl
    set_length (z ∷ ys) (suc k) y = ap suc (set_length ys k y)

pub changed_length : (f : Story → Story) (m : ℕ) (xs : List Story) → length (changed_at m f xs) ≡ length xs
changed_length f zero xs = refl
changed_length f (suc m) xs = ap length (change_place m f xs) ∙ place_length f (slice_get xs m) m xs

-- # What changes no face

marked_face : (k : StoryKind) (n : ℕ) (e : RecordedEvent) (x : Story) → x.kind ≡ k → face (marked_by k n e x) ≡ face x
marked_face kinds.Joining n e x is =
    ap (λ (k : StoryKind). face_by k x.first (marked_by kinds.Joining n e x).reached) is ∙ sym (ap (λ (k : StoryKind). face_by k x.first x.reached) is)
marked_face kinds.Renewal n e x is =
    ap (λ (k : StoryKind). face_by k x.first (marked_by kinds.Renewal n e x).reached) is ∙ sym (ap (λ (k : StoryKind). face_by k x.first x.reached) is)
marked_face kinds.Order n e x is =
    ap (λ (k : StoryKind). face_by k x.first (marked_by kinds.Order n e x).reached) is ∙ sym (ap (λ (k : StoryKind). face_by k x.first x.reached) is)
marked_face kinds.Walk n e x is =
    ap (λ (k : StoryKind). face_by k x.first (marked_by kinds.Walk n e x).reached) is ∙ sym (ap (λ (k : StoryKind). face_by k x.first x.reached) is)
marked_face kinds.Setup n e x is = refl
marked_face kinds.Datagram n e x is = refl
marked_face kinds.Injection n e x is = refl
marked_face kinds.Broadcast n e x is = refl
marked_face kinds.Line n e x is = refl

if_face : (b : Bool) (x y z : Story) → face y ≡ face x → face z ≡ face x → face (if b then y else z) ≡ face x
if_face true x y z here there = here
if_face false x y z here there = there

gathered_face : (k : Kept) (x : Story) → face (with_gathered k x) ≡ face x
gathered_face k x =
    if_face (is_still k.end) x (record x { gathers = Some k; ended = x.ended }) (record x { gathers = None; ended = or_kept x.ended k }) refl refl

kept_face : (k : Kept) (x : Story) → face (with_kept k x) ≡ face x
kept_face k x = if_face k.gathered x (with_gathered k x) (record x { waits = Some k }) (gathered_face k x) refl

begun_face : (o : Option Kept) (n : ℕ) (xs : List Story) → face_at n (stories_begun o xs) ≡ face_at n xs
begun_face None n xs = refl
begun_face (Some k) n xs = changed_face (with_kept k) k.story n xs (kept_face k)

one_ended_face : (b : Bool) (m n : ℕ) (k : Kept) (xs : List Story)
    → face_at n (if b then xs else changed_at m (with_kept k) xs) ≡ face_at n xs
one_ended_face true m n k xs = refl
one_ended_face false m n k xs = changed_face (with_kept k) m n xs (kept_face k)

ended_face : (m : ℕ) (e : RecordedEvent) (keeping : List Kept) (n : ℕ) (xs : List Story) → face_at n (stories_ended m e keeping xs) ≡ face_at n xs
ended_face m e [] n xs = refl
ended_face m e (k ∷ ks) n xs =
    ended_face m e ks n (story_ended m e k xs) ∙ one_ended_face (is_still (end_of m e k)) k.story n (ended_so (end_of m e k) k) xs

may_end_face : (b : Bool) (m : ℕ) (e : RecordedEvent) (keeping : List Kept) (n : ℕ) (xs : List Story)
    → face_at n (if b then stories_ended m e keeping xs else xs) ≡ face_at n xs
may_end_face true m e keeping n xs = ended_face m e keeping n xs
may_end_face false m e keeping n xs = refl

left_face : (b : Bool) (m n : ℕ) (xs : List Story) → face_at n (if b then changed_at m left xs else xs) ≡ face_at n xs
left_face true m n xs = changed_face left m n xs (λ x. refl)
left_face false m n xs = refl

-- # A list with another item at its end

place_pushed : (xs : List Story) (n : ℕ) (y : Story) (p : ℕ × Option ℕ) → option_and_then face (slice_get xs n) ≡ Some p
    → option_and_then face (slice_get (xs ++ (y ∷ [])) n) ≡ Some p
place_pushed [] n y p is = absurd (none-some p is)
place_pushed (x ∷ xs) zero y p is = is
place_pushed (x ∷ xs) (suc n) y p is = place_pushed xs n y p is

pushed : (xs : List Story) (n : ℕ) (y : Story) (p : ℕ × Option ℕ) → face_at n xs ≡ Some p → face_at n (xs ++ (y ∷ [])) ≡ Some p
pushed xs zero y p is = absurd (none-some p is)
pushed xs (suc n) y p is = place_of_face (xs ++ (y ∷ [])) n ∙ place_pushed xs n y p (sym (place_of_face xs n) ∙ is)

placed : (place : Place) (first node n : ℕ) (xs : List Story) (p : ℕ × Option ℕ) → face_at n xs ≡ Some p → face_at n (with_place place first node xs) ≡ Some p
placed (At number) first node n xs p is = is
placed (New kind) first node n xs p is = pushed xs n (new_story kind first node) p is

lined : (o : Option ℕ) (first n : ℕ) (xs : List Story) (p : ℕ × Option ℕ) → face_at n xs ≡ Some p → face_at n (with_line o first xs) ≡ Some p
lined None first n xs p is = is
lined (Some place) first n xs p is = placed (line_place xs) (first + place) 0 n xs p is

-- # The story of each send is its own

-- no two sends have one story, and each story of a send is one of this many
pub record AreOwn (sent : List ℕ) (count : ℕ) : Type 0 where
  pub within : (k i : ℕ) → numbered sent k ≡ Some i → i ≤ count
  pub one : (a b i : ℕ) → numbered sent a ≡ Some i → numbered sent b ≡ Some i → a ≡ b

-- the story of a send that began with this event, and when its datagram came
pub record Follows (send event : ℕ) (at_last : Option ℕ) (sent : List ℕ) (stories : List Story) : Type 0 where
  pub number : ℕ
  pub owner : numbered sent send ≡ Some number
  pub recorded : face_at number stories ≡ Some (event, at_last)

-- the stories are more, and the faces of those that were there are the same
pub record GoOn (old new : List Story) : Type 0 where
  pub longer : length old ≤ length new
  pub same : (n : ℕ) (p : ℕ × Option ℕ) → face_at n old ≡ Some p → face_at n new ≡ Some p

pub go_through : (a b c : List Story) → GoOn a b → GoOn b c → GoOn a c
go_through a b c x y = record { longer = omega (arith, x.longer, y.longer); same = λ n p is. y.same n p (x.same n p is) }

-- what changes no face and no length
pub stay : (old new : List Story) → length new ≡ length old → ((n : ℕ) → face_at n new ≡ face_at n old) → GoOn old new
stay old new count same = record { longer = omega (arith, count); same = λ n p is. same n ∙ is }

place_longer : (place : Place) (first node : ℕ) (xs : List Story) → length xs ≤ length (with_place place first node xs)
place_longer (At number) first node xs = omega arith
place_longer (New kind) first node xs = omega (arith, length-append xs (new_story kind first node ∷ []))

place_on : (place : Place) (first node : ℕ) (xs : List Story) → GoOn xs (with_place place first node xs)
place_on place first node xs = record { longer = place_longer place first node xs; same = λ n p is. placed place first node n xs p is }

line_longer : (o : Option ℕ) (first : ℕ) (xs : List Story) → length xs ≤ length (with_line o first xs)
line_longer None first xs = omega arith
line_longer (Some place) first xs = place_longer (line_place xs) (first + place) 0 xs

pub line_on : (o : Option ℕ) (first : ℕ) (xs : List Story) → GoOn xs (with_line o first xs)
line_on o first xs = record { longer = line_longer o first xs; same = λ n p is. lined o first n xs p is }

begun_length : (o : Option Kept) (xs : List Story) → length (stories_begun o xs) ≡ length xs
begun_length None xs = refl
begun_length (Some k) xs = changed_length (with_kept k) k.story xs

pub begun_on : (o : Option Kept) (xs : List Story) → GoOn xs (stories_begun o xs)
begun_on o xs = stay xs (stories_begun o xs) (begun_length o xs) (λ n. begun_face o n xs)

one_ended_length : (b : Bool) (m : ℕ) (k : Kept) (xs : List Story) → length (if b then xs else changed_at m (with_kept k) xs) ≡ length xs
one_ended_length true m k xs = refl
one_ended_length false m k xs = changed_length (with_kept k) m xs

ended_length : (m : ℕ) (e : RecordedEvent) (keeping : List Kept) (xs : List Story) → length (stories_ended m e keeping xs) ≡ length xs
ended_length m e [] xs = refl
ended_length m e (k ∷ ks) xs = ended_length m e ks (story_ended m e k xs) ∙ one_ended_length (is_still (end_of m e k)) k.story (ended_so (end_of m e k) k) xs

may_end_length : (b : Bool) (m : ℕ) (e : RecordedEvent) (keeping : List Kept) (xs : List Story)
    → length (if b then stories_ended m e keeping xs else xs) ≡ length xs
may_end_length true m e keeping xs = ended_length m e keeping xs
may_end_length false m e keeping xs = refl

pub may_end_on : (b : Bool) (m : ℕ) (e : RecordedEvent) (keeping : List Kept) (xs : List Story) → GoOn xs (if b then stories_ended m e keeping xs else xs)
may_end_on b m e keeping xs =
    stay xs (if b then stories_ended m e keeping xs else xs) (may_end_length b m e keeping xs) (λ n. may_end_face b m e keeping n xs)

left_length : (b : Bool) (m : ℕ) (xs : List Story) → length (if b then changed_at m left xs else xs) ≡ length xs
left_length true m xs = changed_length left m xs
left_length false m xs = refl

pub left_on : (b : Bool) (m : ℕ) (xs : List Story) → GoOn xs (if b then changed_at m left xs else xs)
left_on b m xs = stay xs (if b then changed_at m left xs else xs) (left_length b m xs) (λ n. left_face b m n xs)

pub marked_on : (n : ℕ) (e : RecordedEvent) (story : ℕ) (xs : List Story) → GoOn xs (changed_at story (marked n e) xs)
marked_on n e story xs =
    stay xs (changed_at story (marked n e) xs) (changed_length (marked n e) story xs)
    (λ m. changed_face (marked n e) story m xs (λ x. marked_face x.kind n e x refl))

-- # What goes on with the same sends

pub own_on : (sent : List ℕ) (old new : ℕ) → old ≤ new → AreOwn sent old → AreOwn sent new
own_on sent old new more own = record {
  within = λ k i is. let inside = own.within k i is in omega (arith, inside, more);
  one = own.one;
}

pub follows_on : (send event : ℕ) (at_last : Option ℕ) (sent : List ℕ) (old new : List Story) → GoOn old new → Follows send event at_last sent old
    → Follows send event at_last sent new
follows_on send event at_last sent old new on f = record {
  number = f.number;
  owner = f.owner;
  recorded = on.same f.number (event, at_last) f.recorded;
}

-- the stories after a part of an event that sends nothing
pub record GoesOn (old s : Stories) : Type 0 where
  pub sent : s.sent ≡ old.sent
  pub on : GoOn old.stories s.stories

pub goes_through : (a b c : Stories) → GoesOn a b → GoesOn b c → GoesOn a c
goes_through a b c x y = record { sent = y.sent ∙ x.sent; on = go_through a.stories b.stories c.stories x.on y.on }

-- # A send is the story of its own

false_true : {P : Type 0} → false ≡ true → P
false_true e = absurd (nothing e)
  where
    nothing : false ≡ true → ⊥
    nothing e = cc

-- a send begins the story of a datagram, and prepares nothing
pub sends_begin : (act : Act) (a : Answer) → sends act a ≡ true → (begins act ≡ Some kinds.Datagram) × (prepares act ≡ None)
sends_begin (acts.Send from to octets) a is = (refl, refl)
sends_begin (acts.Coordinator eui) a is = false_true is
sends_begin (acts.Meter eui) a is = false_true is
sends_begin (acts.Depot node) a is = false_true is
sends_begin (acts.Near x y) a is = false_true is
sends_begin (acts.Counter node) a is = false_true is
sends_begin (acts.Number node) a is = false_true is
sends_begin (acts.Allow node) a is = false_true is
sends_begin (acts.RandomOctets node) a is = false_true is
sends_begin (acts.Join node agent) a is = false_true is
sends_begin (acts.Leave node) a is = false_true is
sends_begin (acts.Deliver flight node cost) a is = false_true is
sends_begin (acts.Inject node cost octets) a is = false_true is
sends_begin (acts.Lose flight) a is = false_true is
sends_begin (acts.Break node next) a is = false_true is
sends_begin (acts.Tick seconds) a is = false_true is
sends_begin (acts.Restart node) a is = false_true is
sends_begin (acts.Cut node nth keeps) a is = false_true is
sends_begin (acts.Rekey index) a is = false_true is
sends_begin (acts.Challenge node) a is = false_true is
sends_begin (acts.Activate node index) a is = false_true is
sends_begin (acts.Kick node) a is = false_true is
sends_begin (acts.Show node) a is = false_true is
sends_begin acts.Checks a is = false_true is
sends_begin (acts.Bcast node octets) a is = false_true is
sends_begin (acts.Scan node) a is = false_true is
sends_begin (acts.Choose node k) a is = false_true is
sends_begin (acts.Path from to) a is = false_true is

last_pushed : (xs : List ℕ) (y : ℕ) → last_owner (xs ++ (y ∷ [])) ≡ y
last_pushed xs y =
    let place : length (xs ++ (y ∷ [])) - 1 ≡ length xs = omega (arith, length-append xs (y ∷ [])) in
    ap (λ (o : Option ℕ). elim o [ None ↦ 0 | Some story ↦ story ])
    (ap (λ (k : ℕ). slice_get (xs ++ (y ∷ [])) k) place ∙ slice_get-push xs y)

pushed_count : {A : Type 0} (xs : List A) (y : A) → length (xs ++ (y ∷ [])) ≡ suc (length xs)
pushed_count xs y = omega (arith, length-append xs (y ∷ []))

pushed_face : (xs : List Story) (y : Story) → face_at (length (xs ++ (y ∷ []))) (xs ++ (y ∷ [])) ≡ face y
pushed_face xs y =
    ap (λ (n : ℕ). face_at n (xs ++ (y ∷ []))) (pushed_count xs y) ∙ place_of_face (xs ++ (y ∷ [])) (length xs)
    ∙ ap (option_and_then face) (slice_get-push xs y)

-- the story of the event that was settled last, where it begins that of a datagram
pub record IsBegun (old : Stories) (event : ℕ) (s : Stories) : Type 0 where
  pub owner : last_owner s.owners ≡ length s.stories
  pub longer : length old.stories < length s.stories
  pub recorded : face_at (length s.stories) s.stories ≡ Some (event, None)

pub settled_so : (act : Act) (s : Stories) → GoesOn s (settled act s)
unfolding settled
settled_so act s =
    let lined = with_line (unready (joins act) s.ready) (length s.owners + 1) s.stories in
    let place = place_of act lined s.courses in
    record {
      sent = refl;
      on = go_through s.stories lined (with_place place (next_event s) (person_of act) lined)
          (line_on (unready (joins act) s.ready) (length s.owners + 1) s.stories) (place_on place (next_event s) (person_of act) lined);
    }

pub begun_so : (act : Act) (s : Stories) → begins act ≡ Some kinds.Datagram → IsBegun s (next_event s) (settled act s)
unfolding settled
begun_so act s is =
    let lined = with_line (unready (joins act) s.ready) (length s.owners + 1) s.stories in
    let place = place_of act lined s.courses in
    let new : place ≡ New kinds.Datagram = ap (λ (o : Option StoryKind). place_by o act lined s.courses) is in
    let story = new_story kinds.Datagram (next_event s) (person_of act) in
    let count : length (with_place place (next_event s) (person_of act) lined) ≡ suc (length lined) =
    ap (λ (p : Place). length (with_place p (next_event s) (person_of act) lined)) new ∙ pushed_count lined story in
    record {
      owner =
          last_pushed (s.owners ++ ready_owners (joins act) (number_at place lined)
          (line_number (unready (joins act) s.ready) s.stories) s.ready) (number_at place lined)
          ∙ ap (λ (p : Place). number_at p lined) new ∙ sym (count ∙ omega arith);
      longer = omega (arith, count, line_longer (unready (joins act) s.ready) (length s.owners + 1) s.stories);
      recorded =
          subst (λ (p : Place). face_at (length (with_place p (next_event s) (person_of act) lined)) (with_place p (next_event s) (person_of act) lined)
          ≡ Some (next_event s, None)) (sym new) (pushed_face lined story);
    }

-- # The list of sends with one more

pushed_place : (xs : List ℕ) (y k i : ℕ) → slice_get (xs ++ (y ∷ [])) k ≡ Some i → (slice_get xs k ≡ Some i) ⊎ ((k ≡ length xs) × (i ≡ y))
pushed_place [] y zero i is = inr (refl, sym (same_Some y i is))
pushed_place [] y (suc k) i is = absurd (none-some i is)
pushed_place (x ∷ xs) y zero i is = inl is
pushed_place (x ∷ xs) y (suc k) i is =
    ⊎_elim (λ old. inl old) (λ (new : (k ≡ length xs) × (i ≡ y)). inr (ap suc new.0, new.1)) (pushed_place xs y k i is)

pushed_number : (xs : List ℕ) (y k i : ℕ) → numbered (xs ++ (y ∷ [])) k ≡ Some i → (numbered xs k ≡ Some i) ⊎ ((k ≡ suc (length xs)) × (i ≡ y))
pushed_number xs y zero i is = absurd (none-some i is)
pushed_number xs y (suc k) i is =
    ⊎_elim (λ old. inl (number_place xs k ∙ old)) (λ (new : (k ≡ length xs) × (i ≡ y)). inr (ap suc new.0, new.1))
    (pushed_place xs y k i (sym (number_place (xs ++ (y ∷ [])) k) ∙ is))

kept_place : (xs : List ℕ) (y k i : ℕ) → slice_get xs k ≡ Some i → slice_get (xs ++ (y ∷ [])) k ≡ Some i
kept_place [] y k i is = absurd (none-some i is)
kept_place (x ∷ xs) y zero i is = is
kept_place (x ∷ xs) y (suc k) i is = kept_place xs y k i is

kept_number : (xs : List ℕ) (y k i : ℕ) → numbered xs k ≡ Some i → numbered (xs ++ (y ∷ [])) k ≡ Some i
kept_number xs y zero i is = absurd (none-some i is)
kept_number xs y (suc k) i is = number_place (xs ++ (y ∷ [])) k ∙ kept_place xs y k i (sym (number_place xs k) ∙ is)

pub last_number : (xs : List ℕ) (y : ℕ) → numbered (xs ++ (y ∷ [])) (length xs + 1) ≡ Some y
last_number xs y = ap (λ (k : ℕ). numbered (xs ++ (y ∷ [])) k) (omega arith) ∙ number_place (xs ++ (y ∷ [])) (length xs) ∙ slice_get-push xs y

own_pushed : (sent : List ℕ) (old new : ℕ) → old < new → AreOwn sent old → AreOwn (sent ++ (new ∷ [])) new
own_pushed sent old new more own = record { within = within; one = one }
  where
    within : (k i : ℕ) → numbered (sent ++ (new ∷ [])) k ≡ Some i → i ≤ new
    within k i is =
        ⊎_elim (λ (there : numbered sent k ≡ Some i). let inside = own.within k i there in omega (arith, inside, more))
        (λ (last : (k ≡ suc (length sent)) × (i ≡ new)). omega (arith, last.1)) (pushed_number sent new k i is)

    apart : (k : ℕ) → numbered sent k ≡ Some new → ⊥
    apart k there = let inside = own.within k new there in absurd (omega (arith, inside, more))

    old_one : (a b i : ℕ) → numbered sent a ≡ Some i → numbered (sent ++ (new ∷ [])) b ≡ Some i → a ≡ b
    old_one a b i x y =
        ⊎_elim (λ (there : numbered sent b ≡ Some i). own.one a b i x there)
        (λ (last : (b ≡ suc (length sent)) × (i ≡ new)). absurd (apart a (x ∙ ap Some last.1))) (pushed_number sent new b i y)

    last_one : (a b i : ℕ) → a ≡ suc (length sent) → i ≡ new → numbered (sent ++ (new ∷ [])) b ≡ Some i → a ≡ b
    last_one a b i x is y =
        ⊎_elim (λ (there : numbered sent b ≡ Some i). absurd (apart b (there ∙ ap Some is)))
        (λ (last : (b ≡ suc (length sent)) × (i ≡ new)). x ∙ sym last.0) (pushed_number sent new b i y)

    one : (a b i : ℕ) → numbered (sent ++ (new ∷ [])) a ≡ Some i → numbered (sent ++ (new ∷ [])) b ≡ Some i → a ≡ b
    one a b i x y =
        ⊎_elim (λ (there : numbered sent a ≡ Some i). old_one a b i there y)
        (λ (last : (a ≡ suc (length sent)) × (i ≡ new)). last_one a b i last.0 last.1 y) (pushed_number sent new a i x)

pub own_sent : (b : Bool) (sent : List ℕ) (story old new : ℕ) → old ≤ new → (b ≡ true → (story ≡ new) × (old < new)) → AreOwn sent old
    → AreOwn (sent_with b story sent) new
own_sent false sent story old new more begun own = own_on sent old new more own
own_sent true sent story old new more begun own =
    let is = begun refl in
    subst (λ (k : ℕ). AreOwn (sent ++ (k ∷ [])) new) (sym is.0) (own_pushed sent old new is.1 own)

pub follows_sent : (b : Bool) (story send event : ℕ) (at_last : Option ℕ) (sent : List ℕ) (stories : List Story) → Follows send event at_last sent stories
    → Follows send event at_last (sent_with b story sent) stories
follows_sent false story send event at_last sent stories f = f
follows_sent true story send event at_last sent stories f =
    record { number = f.number; owner = kept_number sent story send f.number f.owner; recorded = f.recorded }
