-- Answers and reasons by their words.
use Rattle.std.proofs.Common.{◌≡◌, ℕ, List, [], ◌∷◌, refl}
use Rattle.std.specs.Prelude.{if◌then◌else◌}
use Rattle.std.specs.Str.{bytes_eq}
use Rattle.line_events.specs.declared.event.Answer.{Answer}
use Rattle.line_events.specs.declared.event.Answer.TheVariants.{Made, Joined, Set, Allowed, Given, Asked, Left, Sent, Waiting, Lost, Broken, Ticked, Restarted}
use Rattle.line_events.specs.declared.event.Answer.TheVariants.{Drawn, Challenged, Activated, Ordered, Kicked, Shown, Up, Held, Relayed, Answered, Learned}
use Rattle.line_events.specs.declared.event.Answer.TheVariants.{Reported, Carried, Replied, Took, Noted, Declined, Keyed, Done, NoAddress, Halted, NotJoined}
use Rattle.line_events.specs.declared.event.Answer.TheVariants.{BadSize, ToSelf, WaitingFull, MetersFull, RandomsFull, AlreadyJoined, IndexActive, NotIssued}
use Rattle.line_events.specs.declared.event.Answer.TheVariants.{BadStore, Malformed, NotForMe, NoKey, BadTag, Replayed, PeersFull, Store, BadUnit, NoRoute}
use Rattle.line_events.specs.declared.event.Answer.TheVariants.{HopsSpent, NotBetter, CostSpent, RoutesFull, NotAllowed, NoSession, SessionsFull, NoRandom}
use Rattle.line_events.specs.declared.event.Answer.TheVariants.{Form, OtherSession, BadMac, BadChannel, NoSuccess, NotHeld, BufferFull, SeqSpent, CounterSpent}
use Rattle.line_events.specs.declared.event.Answer.TheVariants.{Acked, Bup, Scanning, Beacon, Beaconed, Traced, Path, Blacklisted, NotAwaited, Old, OriginsFull}
use Rattle.line_events.specs.declared.event.Answer.TheVariants.{NumberSpent, NotScanning, NoBeacon, Revisited, PathLong}
use Rattle.line_script.specs.declared.report.Reason.{Reason}
use Rattle.line_script.specs.declared.report.Reason.TheVariants as reasons
use Rattle.line_script.specs.AnswerWords.{answer_word, verdict_word}
use Rattle.line_script.specs.Texts.{reason_word}
use Rattle.text_laws.proofs.WordLists.{IsPlain}

-- # Answers

-- the first answer that has a word, or the last one
abbrev answer_among : Answer → List Answer → List ℕ → Answer
answer_among last [] word = last
answer_among last (a ∷ others) word = if bytes_eq word (answer_word a) then a else answer_among last others word

abbrev all_answers : List Answer
all_answers =
    Made ∷ Joined ∷ Set ∷ Allowed ∷ Given ∷ Asked ∷ Left ∷ Sent ∷ Waiting ∷ Lost ∷ Broken ∷ Ticked ∷ Restarted ∷ Drawn ∷ Challenged ∷ Activated
    ∷ Ordered ∷ Kicked ∷ Shown ∷ Up ∷ Held ∷ Relayed ∷ Answered ∷ Learned ∷ Reported ∷ Carried ∷ Replied ∷ Took ∷ Noted ∷ Declined ∷ Keyed ∷ Done
    ∷ NoAddress ∷ Halted ∷ NotJoined ∷ BadSize ∷ ToSelf ∷ WaitingFull ∷ MetersFull ∷ RandomsFull ∷ AlreadyJoined ∷ IndexActive ∷ NotIssued
    ∷ BadStore ∷ Malformed ∷ NotForMe ∷ NoKey ∷ BadTag ∷ Replayed ∷ PeersFull ∷ Store ∷ BadUnit ∷ NoRoute ∷ HopsSpent ∷ NotBetter ∷ CostSpent
    ∷ RoutesFull ∷ NotAllowed ∷ NoSession ∷ SessionsFull ∷ NoRandom ∷ Form ∷ OtherSession ∷ BadMac ∷ BadChannel ∷ NoSuccess ∷ NotHeld ∷ BufferFull
    ∷ SeqSpent ∷ CounterSpent ∷ Acked ∷ Bup ∷ Scanning ∷ Beacon ∷ Beaconed ∷ Traced ∷ Path ∷ Blacklisted ∷ NotAwaited ∷ Old ∷ OriginsFull
    ∷ NumberSpent ∷ NotScanning ∷ NoBeacon ∷ Revisited ∷ PathLong ∷ []

unfoldable pub answer_in : List ℕ → Answer
answer_in word = answer_among Made all_answers word

-- the words of an answer are words, and the answer is the only one that has its word
pub answer_back : (answer : Answer) → IsPlain (verdict_word answer) × IsPlain (answer_word answer) × (answer_in (answer_word answer) ≡ answer)
unfolding answer_in
answer_back Made = (refl, refl, refl)
answer_back Joined = (refl, refl, refl)
answer_back Set = (refl, refl, refl)
answer_back Allowed = (refl, refl, refl)
answer_back Given = (refl, refl, refl)
answer_back Asked = (refl, refl, refl)
answer_back Left = (refl, refl, refl)
answer_back Sent = (refl, refl, refl)
answer_back Waiting = (refl, refl, refl)
answer_back Lost = (refl, refl, refl)
answer_back Broken = (refl, refl, refl)
answer_back Ticked = (refl, refl, refl)
answer_back Restarted = (refl, refl, refl)
answer_back Drawn = (refl, refl, refl)
answer_back Challenged = (refl, refl, refl)
answer_back Activated = (refl, refl, refl)
answer_back Ordered = (refl, refl, refl)
answer_back Kicked = (refl, refl, refl)
answer_back Shown = (refl, refl, refl)
answer_back Up = (refl, refl, refl)
answer_back Held = (refl, refl, refl)
answer_back Relayed = (refl, refl, refl)
answer_back Answered = (refl, refl, refl)
answer_back Learned = (refl, refl, refl)
answer_back Reported = (refl, refl, refl)
answer_back Carried = (refl, refl, refl)
answer_back Replied = (refl, refl, refl)
answer_back Took = (refl, refl, refl)
answer_back Noted = (refl, refl, refl)
answer_back Declined = (refl, refl, refl)
answer_back Keyed = (refl, refl, refl)
answer_back Done = (refl, refl, refl)
answer_back NoAddress = (refl, refl, refl)
answer_back Halted = (refl, refl, refl)
answer_back NotJoined = (refl, refl, refl)
answer_back BadSize = (refl, refl, refl)
answer_back ToSelf = (refl, refl, refl)
answer_back WaitingFull = (refl, refl, refl)
answer_back MetersFull = (refl, refl, refl)
answer_back RandomsFull = (refl, refl, refl)
answer_back AlreadyJoined = (refl, refl, refl)
answer_back IndexActive = (refl, refl, refl)
answer_back NotIssued = (refl, refl, refl)
answer_back BadStore = (refl, refl, refl)
answer_back Malformed = (refl, refl, refl)
answer_back NotForMe = (refl, refl, refl)
answer_back NoKey = (refl, refl, refl)
answer_back BadTag = (refl, refl, refl)
answer_back Replayed = (refl, refl, refl)
answer_back PeersFull = (refl, refl, refl)
answer_back Store = (refl, refl, refl)
answer_back BadUnit = (refl, refl, refl)
answer_back NoRoute = (refl, refl, refl)
answer_back HopsSpent = (refl, refl, refl)
answer_back NotBetter = (refl, refl, refl)
answer_back CostSpent = (refl, refl, refl)
answer_back RoutesFull = (refl, refl, refl)
answer_back NotAllowed = (refl, refl, refl)
answer_back NoSession = (refl, refl, refl)
answer_back SessionsFull = (refl, refl, refl)
answer_back NoRandom = (refl, refl, refl)
answer_back Form = (refl, refl, refl)
answer_back OtherSession = (refl, refl, refl)
answer_back BadMac = (refl, refl, refl)
answer_back BadChannel = (refl, refl, refl)
answer_back NoSuccess = (refl, refl, refl)
answer_back NotHeld = (refl, refl, refl)
answer_back BufferFull = (refl, refl, refl)
answer_back SeqSpent = (refl, refl, refl)
answer_back CounterSpent = (refl, refl, refl)
answer_back Acked = (refl, refl, refl)
answer_back Bup = (refl, refl, refl)
answer_back Scanning = (refl, refl, refl)
answer_back Beacon = (refl, refl, refl)
answer_back Beaconed = (refl, refl, refl)
answer_back Traced = (refl, refl, refl)
answer_back Path = (refl, refl, refl)
answer_back Blacklisted = (refl, refl, refl)
answer_back NotAwaited = (refl, refl, refl)
answer_back Old = (refl, refl, refl)
answer_back OriginsFull = (refl, refl, refl)
answer_back NumberSpent = (refl, refl, refl)
answer_back NotScanning = (refl, refl, refl)
answer_back NoBeacon = (refl, refl, refl)
answer_back Revisited = (refl, refl, refl)
answer_back PathLong = (refl, refl, refl)

-- # Reasons

abbrev reason_among : Reason → List Reason → List ℕ → Reason
reason_among last [] word = last
reason_among last (r ∷ others) word = if bytes_eq word (reason_word r) then r else reason_among last others word

unfoldable pub reason_in : List ℕ → Reason
reason_in word =
    reason_among reasons.Input (reasons.Input ∷ reasons.Long ∷ reasons.Form ∷ reasons.Events ∷ reasons.Setup ∷ reasons.Node ∷ reasons.Flight ∷ []) word

pub reason_back : (reason : Reason) → IsPlain (reason_word reason) × (reason_in (reason_word reason) ≡ reason)
unfolding reason_in
reason_back reasons.Input = (refl, refl)
reason_back reasons.Long = (refl, refl)
reason_back reasons.Form = (refl, refl)
reason_back reasons.Events = (refl, refl)
reason_back reasons.Setup = (refl, refl)
reason_back reasons.Node = (refl, refl)
reason_back reasons.Flight = (refl, refl)
