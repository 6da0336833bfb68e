-- The words of answers have no line feed.
use Rattle.std.proofs.Common.{◌≡◌, Bool, true, false, refl}
use Rattle.std.specs.Prelude.{codes, if◌then◌else◌}
use Rattle.line_events.specs.declared.event.Answer.{Answer}
use Rattle.line_events.specs.declared.event.Answer.TheVariants as answers
use Rattle.line_events.specs.Answers.{is_ok}
use Rattle.line_script.specs.AnswerWords.{answer_word, verdict_word}
use Rattle.line_replay.proofs.Inside.{is_inside}

pub answer_inside : (answer : Answer) → is_inside (answer_word answer) ≡ true
answer_inside answers.Made = refl
answer_inside answers.Joined = refl
answer_inside answers.Set = refl
answer_inside answers.Allowed = refl
answer_inside answers.Given = refl
answer_inside answers.Asked = refl
answer_inside answers.Left = refl
answer_inside answers.Sent = refl
answer_inside answers.Waiting = refl
answer_inside answers.Lost = refl
answer_inside answers.Broken = refl
answer_inside answers.Ticked = refl
answer_inside answers.Restarted = refl
answer_inside answers.Drawn = refl
answer_inside answers.Challenged = refl
answer_inside answers.Activated = refl
answer_inside answers.Ordered = refl
answer_inside answers.Kicked = refl
answer_inside answers.Shown = refl
answer_inside answers.Up = refl
answer_inside answers.Held = refl
answer_inside answers.Relayed = refl
answer_inside answers.Answered = refl
answer_inside answers.Learned = refl
answer_inside answers.Reported = refl
answer_inside answers.Carried = refl
answer_inside answers.Replied = refl
answer_inside answers.Took = refl
answer_inside answers.Noted = refl
answer_inside answers.Declined = refl
answer_inside answers.Keyed = refl
answer_inside answers.Done = refl
answer_inside answers.NoAddress = refl
answer_inside answers.Halted = refl
answer_inside answers.NotJoined = refl
answer_inside answers.BadSize = refl
answer_inside answers.ToSelf = refl
answer_inside answers.WaitingFull = refl
answer_inside answers.MetersFull = refl
answer_inside answers.RandomsFull = refl
answer_inside answers.AlreadyJoined = refl
answer_inside answers.IndexActive = refl
answer_inside answers.NotIssued = refl
answer_inside answers.BadStore = refl
answer_inside answers.Malformed = refl
answer_inside answers.NotForMe = refl
answer_inside answers.NoKey = refl
answer_inside answers.BadTag = refl
answer_inside answers.Replayed = refl
answer_inside answers.PeersFull = refl
answer_inside answers.Store = refl
answer_inside answers.BadUnit = refl
answer_inside answers.NoRoute = refl
answer_inside answers.HopsSpent = refl
answer_inside answers.NotBetter = refl
answer_inside answers.CostSpent = refl
answer_inside answers.RoutesFull = refl
answer_inside answers.NotAllowed = refl
answer_inside answers.NoSession = refl
answer_inside answers.SessionsFull = refl
answer_inside answers.NoRandom = refl
answer_inside answers.Form = refl
answer_inside answers.OtherSession = refl
answer_inside answers.BadMac = refl
answer_inside answers.BadChannel = refl
answer_inside answers.NoSuccess = refl
answer_inside answers.NotHeld = refl
answer_inside answers.BufferFull = refl
answer_inside answers.SeqSpent = refl
answer_inside answers.CounterSpent = refl
answer_inside answers.Acked = refl
answer_inside answers.Bup = refl
answer_inside answers.Scanning = refl
answer_inside answers.Beacon = refl
answer_inside answers.Beaconed = refl
answer_inside answers.Traced = refl
answer_inside answers.Path = refl
answer_inside answers.Blacklisted = refl
answer_inside answers.NotAwaited = refl
answer_inside answers.Old = refl
answer_inside answers.OriginsFull = refl
answer_inside answers.NumberSpent = refl
answer_inside answers.NotScanning = refl
answer_inside answers.NoBeacon = refl
answer_inside answers.Revisited = refl
answer_inside answers.PathLong = refl

ok_inside : (ok : Bool) → is_inside (if ok then codes "ok" else codes "no") ≡ true
ok_inside true = refl
ok_inside false = refl

pub verdict_inside : (answer : Answer) → is_inside (verdict_word answer) ≡ true
verdict_inside answer = ok_inside (is_ok answer)
