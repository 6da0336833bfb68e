-- What counts of a story where it is asked whether it is done, and what leaves that as it is.
use Rattle.std.proofs.Common.{◌≡◌, ℕ, Bool, true, false, List, [], ◌∷◌, Option, Some, None, length, refl, ◌∙◌}
use Rattle.std.specs.Prelude.{◌&&◌, if◌then◌else◌, map}
use Rattle.line_record.specs.declared.kept.Kept.{Kept}
use Rattle.line_record.specs.declared.kind.StoryKind.{StoryKind}
use Rattle.line_record.specs.declared.kind.StoryKind.TheVariants as kinds
use Rattle.line_record.specs.declared.recorded.RecordedEvent.{RecordedEvent}
use Rattle.line_record.specs.declared.recorded.RecordedFlight.{RecordedFlight}
use Rattle.line_record.specs.declared.story.Story.{Story}
use Rattle.line_record.specs.KeptItems.{end_of, is_still, may_end}
use Rattle.line_record.specs.Kinds.{is_heeded, is_path, obeys_at}
use Rattle.line_record.specs.Lists.{changed_at}
use Rattle.line_record.specs.Marks.{came, is_node, left, marked, marked_by, or_first, or_kept, or_last, with_gathered, with_kept}
use Rattle.line_record.specs.NodeItems.{ended_so, has_kept, message_about, message_kept, piece_kept, stories_begun, stories_ended, stories_left}
use Rattle.line_record.specs.NodeItems.{story_ended, waiting_kept}
use Rattle.line_record.specs.RunRecords.{made_by}
use Rattle.line_record.specs.Stories.{Stories, announced, flight_owner, flight_seen, flights_seen, kept_begun, kept_ended, kept_seen, last_owner, may_leave}
use Rattle.line_record.specs.Stories.{message_story, up_kept}
use Rattle.story_laws.proofs.Numbered.{map_changed, map_kept}

-- # The core of a story

pub record Core : Type 0 where
  pub kind : StoryKind
  pub first : ℕ
  pub person : ℕ
  pub reached : Option ℕ

abbrev pub core_of : Story → Core
core_of x = record { kind = x.kind; first = x.first; person = x.person; reached = x.reached }

-- # What an event says

-- whether an event of a story of this kind, about this node, says that it is done
abbrev pub says : StoryKind → ℕ → RecordedEvent → Bool
says kinds.Setup person e = false
says kinds.Datagram person e = false
says kinds.Joining person e = is_node e.done person
says kinds.Renewal person e = is_node e.done person
says kinds.Order person e = is_heeded e.answer && is_node (obeys_at e.act) person
says kinds.Injection person e = false
says kinds.Broadcast person e = false
says kinds.Walk person e = is_path e.answer
says kinds.Line person e = false

-- when a story of this kind is done, after an event of this number
abbrev pub marks : StoryKind → ℕ → ℕ → RecordedEvent → Option ℕ → Option ℕ
marks kinds.Setup person n e reached = reached
marks kinds.Datagram person n e reached = reached
marks kinds.Joining person n e reached = or_last reached (says kinds.Joining person e) n
marks kinds.Renewal person n e reached = or_last reached (says kinds.Renewal person e) n
marks kinds.Order person n e reached = or_first reached (says kinds.Order person e) n
marks kinds.Injection person n e reached = reached
marks kinds.Broadcast person n e reached = reached
marks kinds.Walk person n e reached = or_first reached (says kinds.Walk person e) n
marks kinds.Line person n e reached = reached

-- a core that is done at another event
abbrev pub with_reached : Core → Option ℕ → Core
with_reached c reached = record { kind = c.kind; first = c.first; person = c.person; reached = reached }

abbrev pub core_marked : ℕ → RecordedEvent → Core → Core
core_marked n e c = with_reached c (marks c.kind c.person n e c.reached)

abbrev pub core_came : ℕ → Core → Core
core_came n c = with_reached c (or_first c.reached true n)

marked_so : (k : StoryKind) (n : ℕ) (e : RecordedEvent) (x : Story)
    → core_of (marked_by k n e x) ≡ with_reached (core_of x) (marks k x.person n e x.reached)
marked_so kinds.Setup n e x = refl
marked_so kinds.Datagram n e x = refl
marked_so kinds.Joining n e x = refl
marked_so kinds.Renewal n e x = refl
marked_so kinds.Order n e x = refl
marked_so kinds.Injection n e x = refl
marked_so kinds.Broadcast n e x = refl
marked_so kinds.Walk n e x = refl
marked_so kinds.Line n e x = refl

pub marked_cores : (n : ℕ) (e : RecordedEvent) (story : ℕ) (xs : List Story)
    → map core_of (changed_at story (marked n e) xs) ≡ changed_at story (core_marked n e) (map core_of xs)
marked_cores n e story xs = map_changed core_of (marked n e) (core_marked n e) (λ x. marked_so x.kind n e x) story xs

pub came_cores : (n story : ℕ) (xs : List Story) → map core_of (changed_at story (came n) xs) ≡ changed_at story (core_came n) (map core_of xs)
came_cores n story xs = map_changed core_of (came n) (core_came n) (λ x. refl) story xs

-- # What leaves it as it is

if_core : (b : Bool) (x y z : Story) → core_of y ≡ core_of x → core_of z ≡ core_of x → core_of (if b then y else z) ≡ core_of x
if_core true x y z here there = here
if_core false x y z here there = there

gathered_core : (k : Kept) (x : Story) → core_of (with_gathered k x) ≡ core_of x
gathered_core k x =
    if_core (is_still k.end) x (record x { gathers = Some k; ended = x.ended }) (record x { gathers = None; ended = or_kept x.ended k }) refl refl

kept_core : (k : Kept) (x : Story) → core_of (with_kept k x) ≡ core_of x
kept_core k x = if_core k.gathered x (with_gathered k x) (record x { waits = Some k }) (gathered_core k x) refl

abbrev SameCores : List Story → List Story → Type 0
SameCores old new = map core_of new ≡ map core_of old

if_cores : (b : Bool) (xs ys zs : List Story) → SameCores xs ys → SameCores xs zs → SameCores xs (if b then ys else zs)
if_cores true xs ys zs here there = here
if_cores false xs ys zs here there = there

begun_cores : (o : Option Kept) (xs : List Story) → SameCores xs (stories_begun o xs)
begun_cores None xs = refl
begun_cores (Some k) xs = map_kept core_of (with_kept k) (kept_core k) k.story xs

ended_cores : (m : ℕ) (e : RecordedEvent) (keeping : List Kept) (xs : List Story) → SameCores xs (stories_ended m e keeping xs)
ended_cores m e [] xs = refl
ended_cores m e (k ∷ ks) xs =
    ended_cores m e ks (story_ended m e k xs)
    ∙ if_cores (is_still (end_of m e k)) xs xs (changed_at k.story (with_kept (ended_so (end_of m e k) k)) xs) refl
    (map_kept core_of (with_kept (ended_so (end_of m e k) k)) (kept_core (ended_so (end_of m e k) k)) k.story xs)

left_cores : (owner node : ℕ) (keeping : List Kept) (xs : List Story) → SameCores xs (stories_left owner node keeping xs)
left_cores owner node keeping xs =
    if_cores (has_kept false owner node keeping) xs (changed_at owner left xs) xs (map_kept core_of left (λ x. refl) owner xs) refl

-- # What nodes keep, and flights

-- other stories with the same cores, in which all events have the stories that they had
pub record Stays (s t : Stories) : Type 0 where
  pub cores : SameCores s.stories t.stories
  pub owners : t.owners ≡ s.owners
  pub sent : t.sent ≡ s.sent

stays_through : (a b c : Stories) → Stays a b → Stays b c → Stays a c
stays_through a b c x y = record { cores = y.cores ∙ x.cores; owners = y.owners ∙ x.owners; sent = y.sent ∙ x.sent }

pub ending_stays : (e : RecordedEvent) (n : ℕ) (s : Stories) → SameCores s.stories (kept_ended e n s).stories
ending_stays e n s =
    if_cores (may_end e) s.stories (stories_ended n e s.keeping s.stories) s.stories (ended_cores n e s.keeping s.stories) refl

pub kept_stays : (e : RecordedEvent) (n story : ℕ) (s : Stories) → Stays s (kept_seen e n story s)
unfolding kept_seen
kept_stays e n story s =
    let a = kept_ended e n s in
    let c = kept_begun (waiting_kept e n story) (up_kept e a) in
    record {
      cores =
          begun_cores (piece_kept e n c.courses c.keeping) c.stories ∙ begun_cores (waiting_kept e n story) a.stories ∙ ending_stays e n s;
      owners = refl;
      sent = refl;
    }

pub announced_stays : (e : RecordedEvent) (flights : List RecordedFlight) (s : Stories) → Stays s (announced e flights s)
unfolding announced
announced_stays e flights s =
    let about = message_about e flights in
    record {
      cores =
          begun_cores (message_kept about e (length s.owners) (message_story about (last_owner s.owners) s) (made_by e flights)) s.stories;
      owners = refl;
      sent = refl;
    }

flight_stays : (f : RecordedFlight) (s : Stories) → Stays s (flight_seen f s)
unfolding flight_seen
flight_stays f s =
    let owner = flight_owner f (last_owner s.owners) s in
    record {
      cores = if_cores (may_leave f) s.stories (stories_left owner f.from s.keeping s.stories) s.stories (left_cores owner f.from s.keeping s.stories) refl;
      owners = refl;
      sent = refl;
    }

pub flights_stay : (fs : List RecordedFlight) (s : Stories) → Stays s (flights_seen fs s)
flights_stay [] s = record { cores = refl; owners = refl; sent = refl }
flights_stay (f ∷ fs) s =
    stays_through s (flight_seen f s) (flights_seen fs (flight_seen f s)) (flight_stays f s) (flights_stay fs (flight_seen f s))

pub all_stay : (e : RecordedEvent) (flights : List RecordedFlight) (s : Stories)
    → Stays s (flights_seen (made_by e flights) (announced e flights s))
all_stay e flights s =
    stays_through s (announced e flights s) (flights_seen (made_by e flights) (announced e flights s)) (announced_stays e flights s)
    (flights_stay (made_by e flights) (announced e flights s))
