-- Which sentences fit an option of a block.
use Rattle.std.proofs.Common.{◌≡◌, ◌≤◌, ◌<◌, ◌^◌, ℕ, ◌*◌, List, [], ◌∷◌, ◌++◌, length, arith, length-append, subst, sym}
use Rattle.std.specs.Prelude.{All, Bool, ◌==◌, codes, false, if◌then◌else◌, true, ⊤}
use Rattle.std.specs.Fmt.{decimal}
use Rattle.std.proofs.lemmas.List.Elements.{All-cons, All-head, All-nil, All-tail}
use Rattle.std.proofs.lemmas.Fmt.{length-decimal-le}
use Rattle.hex.specs.Hex.{encode_lower, lower_digits}
use Rattle.hex.proofs.HexLemmas.{length-encode_with}
use Rattle.plc_base.specs.declared.address.Eui.{Eui}
use Rattle.line_events.specs.declared.event.Answer.{Answer}
use Rattle.line_events.specs.declared.event.Answer.TheVariants.{Made, Joined, Set, Allowed, Given, Asked, Left, Sent, Waiting, Lost, Broken, Ticked}
use Rattle.line_events.specs.declared.event.Answer.TheVariants.{Restarted, Drawn, Challenged, Activated, Ordered, Kicked, Shown, Up, Held, Relayed}
use Rattle.line_events.specs.declared.event.Answer.TheVariants.{Answered, Learned}
use Rattle.line_events.specs.declared.event.Answer.TheVariants.{Reported, Carried, Replied, Took, Noted, Declined, Keyed, Done, NoAddress, Halted}
use Rattle.line_events.specs.declared.event.Answer.TheVariants.{NotJoined, BadSize}
use Rattle.line_events.specs.declared.event.Answer.TheVariants.{ToSelf, WaitingFull, MetersFull, RandomsFull, AlreadyJoined, IndexActive, NotIssued}
use Rattle.line_events.specs.declared.event.Answer.TheVariants.{BadStore, Malformed, NotForMe, NoKey, BadTag}
use Rattle.line_events.specs.declared.event.Answer.TheVariants.{Replayed, PeersFull, Store, BadUnit, NoRoute, HopsSpent, NotBetter, CostSpent, RoutesFull}
use Rattle.line_events.specs.declared.event.Answer.TheVariants.{NotAllowed, NoSession, SessionsFull}
use Rattle.line_events.specs.declared.event.Answer.TheVariants.{NoRandom, Form, OtherSession, BadMac, BadChannel, NoSuccess, NotHeld, BufferFull, SeqSpent}
use Rattle.line_events.specs.declared.event.Answer.TheVariants.{CounterSpent, Acked, Bup}
use Rattle.line_events.specs.declared.event.Answer.TheVariants.{Scanning, Beacon, Beaconed, Traced, Path, Blacklisted, NotAwaited, Old, OriginsFull}
use Rattle.line_events.specs.declared.event.Answer.TheVariants.{NumberSpent, NotScanning, NoBeacon}
use Rattle.line_events.specs.declared.event.Answer.TheVariants.{Revisited, PathLong}
use Rattle.line_events.specs.Answers.{is_ok}
use Rattle.line_script.specs.AnswerWords.{answer_word, verdict_word}
use Rattle.sentence_parts.specs.declared.part.Part.{Part}
use Rattle.sentence_parts.specs.declared.part.Part.TheVariants.{Words, Number, Count, Place as At}
use Rattle.sentence_parts.specs.declared.part.Who.TheVariants.{Device}
use Rattle.sentence_parts.specs.Parts.{count_text, part_text, parts_text}
use Rattle.line_capture.specs.Comments.{forged_words}
use Rattle.line_capture.specs.Sentences.{AreFew, IsSentence, IsShort, IsSmall, said}

pub short_number : (n : ℕ) → n < 2 ^ 64 → length (decimal n) ≤ 100
short_number n h = let e = length-decimal-le 20 n (omega arith) (omega (arith, h)) h in omega (arith, e)

short_parts : (parts : List Part) → All IsShort parts → length (parts_text parts) ≤ 100 * length parts
short_parts [] h = omega arith
short_parts (part ∷ parts) h =
    let a = length-append (part_text part) (parts_text parts) in
    let b = short_parts parts (All-tail IsShort part parts h) in
    let c = All-head IsShort part parts h in
    omega (arith, a, b, c)

pub sentence_octets : (parts : List Part) → IsSentence parts → length (parts_text parts) ≤ 2000
sentence_octets parts h = let a = short_parts parts h.each in let b = h.count in omega (arith, a, b)

pub short_words : (part : Part) (words : List ℕ) → part ≡ Words words → length words ≤ 100 → IsShort part
short_words part words e h = subst (λ (p : Part). IsShort p) (sym e) h

pub short_numbered : (part : Part) (n : ℕ) → part ≡ Number n → n < 2 ^ 64 → IsShort part
short_numbered part n e h = subst (λ (p : Part). IsShort p) (sym e) (short_number n h)

short_ending : (one : Bool) → length (if one then [] else codes "s") ≤ 1
short_ending true = omega arith
short_ending false = omega arith

short_count : (n : ℕ) (noun : List ℕ) → n < 2 ^ 64 → length noun ≤ 50 → length (count_text n noun) ≤ 100
short_count n noun h few =
    let ending : List ℕ = if n == 1 then [] else codes "s" in
    let e = length-decimal-le 20 n (omega arith) (omega (arith, h)) h in
    let a = length-append (decimal n) (codes " " ++ (noun ++ ending)) in
    let b = length-append noun ending in
    omega (arith, e, a, b, short_ending (n == 1), few)

pub short_counted : (part : Part) (n : ℕ) (noun : List ℕ) → part ≡ Count n noun → n < 2 ^ 64 → length noun ≤ 50 → IsShort part
short_counted part n noun e h few = subst (λ (p : Part). IsShort p) (sym e) (short_count n noun h few)

-- words that are others
pub short_said : (part : Part) (words said : List ℕ) → part ≡ Words words → words ≡ said → length said ≤ 100 → IsShort part
short_said part words said e f h = short_words part words e (subst (λ (t : List ℕ). length t ≤ 100) (sym f) h)

pub short_device : (part : Part) (eui : Eui) → part ≡ At (Device eui) → length eui.0 ≡ 8 → IsShort part
short_device part eui e n =
    let a = length-encode_with lower_digits eui.0 in
    let b = length-append (codes "EUI ") (encode_lower eui.0) in
    let h : length (part_text (At (Device eui))) ≤ 100 = omega (arith, a, b, n) in
    subst (λ (p : Part). IsShort p) (sym e) h

-- each part is short
abbrev pub EachShort : List Part → Type 0
EachShort [] = ⊤
EachShort (part ∷ parts) = IsShort part × EachShort parts

all_short : (parts : List Part) → EachShort parts → All IsShort parts
all_short [] h = All-nil IsShort
all_short (part ∷ parts) h = All-cons IsShort part parts h.0 (all_short parts h.1)

pub sentence : (parts : List Part) → length parts ≤ 20 → EachShort parts → IsSentence parts
sentence parts n h = record { count = n; each = all_short parts h }

-- what a sentence says is one small option
pub few_said : (code : ℕ) (parts : List Part) → 0 < code → code < 2 ^ 16 → IsSentence parts → AreFew 1 (said code parts)
few_said code parts begun below h =
    record {
      count = omega arith;
      each = All-cons IsSmall _ [] (record { begun = begun; code = below; size = sentence_octets parts h }) (All-nil IsSmall);
    }

-- # The words of answers

short_ok : (ok : Bool) → length (if ok then codes "ok" else codes "no") ≤ 10
short_ok true = omega arith
short_ok false = omega arith

pub short_verdict : (answer : Answer) → length (verdict_word answer) ≤ 10
short_verdict answer = short_ok (is_ok answer)

pub short_answer : (answer : Answer) → length (answer_word answer) ≤ 20
short_answer Made = omega arith
short_answer Joined = omega arith
short_answer Set = omega arith
short_answer Allowed = omega arith
short_answer Given = omega arith
short_answer Asked = omega arith
short_answer Left = omega arith
short_answer Sent = omega arith
short_answer Waiting = omega arith
short_answer Lost = omega arith
short_answer Broken = omega arith
short_answer Ticked = omega arith
short_answer Restarted = omega arith
short_answer Drawn = omega arith
short_answer Challenged = omega arith
short_answer Activated = omega arith
short_answer Ordered = omega arith
short_answer Kicked = omega arith
short_answer Shown = omega arith
short_answer Up = omega arith
short_answer Held = omega arith
short_answer Relayed = omega arith
short_answer Answered = omega arith
short_answer Learned = omega arith
short_answer Reported = omega arith
short_answer Carried = omega arith
short_answer Replied = omega arith
short_answer Took = omega arith
short_answer Noted = omega arith
short_answer Declined = omega arith
short_answer Keyed = omega arith
short_answer Done = omega arith
short_answer NoAddress = omega arith
short_answer Halted = omega arith
short_answer NotJoined = omega arith
short_answer BadSize = omega arith
short_answer ToSelf = omega arith
short_answer WaitingFull = omega arith
short_answer MetersFull = omega arith
short_answer RandomsFull = omega arith
short_answer AlreadyJoined = omega arith
short_answer IndexActive = omega arith
short_answer NotIssued = omega arith
short_answer BadStore = omega arith
short_answer Malformed = omega arith
short_answer NotForMe = omega arith
short_answer NoKey = omega arith
short_answer BadTag = omega arith
short_answer Replayed = omega arith
short_answer PeersFull = omega arith
short_answer Store = omega arith
short_answer BadUnit = omega arith
short_answer NoRoute = omega arith
short_answer HopsSpent = omega arith
short_answer NotBetter = omega arith
short_answer CostSpent = omega arith
short_answer RoutesFull = omega arith
short_answer NotAllowed = omega arith
short_answer NoSession = omega arith
short_answer SessionsFull = omega arith
short_answer NoRandom = omega arith
short_answer Form = omega arith
short_answer OtherSession = omega arith
short_answer BadMac = omega arith
short_answer BadChannel = omega arith
short_answer NoSuccess = omega arith
short_answer NotHeld = omega arith
short_answer BufferFull = omega arith
short_answer SeqSpent = omega arith
short_answer CounterSpent = omega arith
short_answer Acked = omega arith
short_answer Bup = omega arith
short_answer Scanning = omega arith
short_answer Beacon = omega arith
short_answer Beaconed = omega arith
short_answer Traced = omega arith
short_answer Path = omega arith
short_answer Blacklisted = omega arith
short_answer NotAwaited = omega arith
short_answer Old = omega arith
short_answer OriginsFull = omega arith
short_answer NumberSpent = omega arith
short_answer NotScanning = omega arith
short_answer NoBeacon = omega arith
short_answer Revisited = omega arith
short_answer PathLong = omega arith

-- # The words of what is heard

pub short_spaced : (answer : Answer) → length (verdict_word answer ++ codes " ") ≤ 100
short_spaced answer = let a = length-append (verdict_word answer) (codes " ") in let b = short_verdict answer in omega (arith, a, b)

pub short_word : (answer : Answer) → length (answer_word answer) ≤ 100
short_word answer = let a = short_answer answer in omega (arith, a)

pub short_forged : (forged : Bool) → length (forged_words forged) ≤ 100
short_forged true = omega arith
short_forged false = omega arith
