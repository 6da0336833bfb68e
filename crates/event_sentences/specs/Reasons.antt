-- What is said of an answer alone.
use Rattle.std.specs.Prelude.{ℕ, Bool, true, false, List, codes}
use Rattle.line_events.specs.declared.event.Answer.{Answer}
use Rattle.line_events.specs.declared.event.Answer.TheVariants as answers
use Rattle.line_script.specs.AnswerWords.{answer_word}

-- what a refused frame is refused for
abbrev pub plain_reason : Answer → List ℕ
plain_reason answers.HopsSpent = codes "no hops are left"
plain_reason answers.NoSession = codes "no session awaits this message"
plain_reason answers.OtherSession = codes "the message belongs to another session"
plain_reason answers.Form = codes "this is not the message that is awaited"
plain_reason answers.SessionsFull = codes "8 sessions are open"
plain_reason answers.NotAllowed = codes "this meter is not allowed"
plain_reason answers.BadMac = codes "the message was changed, or made with another pair key"
plain_reason answers.BadUnit = codes "this may not come this way"
plain_reason answers.BufferFull = codes "its buffers are full"
plain_reason answers.NotHeld = codes "it holds no key at that index"
plain_reason answers.RoutesFull = codes "64 ranks are kept, all fresh"
plain_reason answers.PeersFull = codes "64 senders are known already"
plain_reason answers.CounterSpent = codes "its counters are used up"
plain_reason answers.SeqSpent = codes "its own numbers are used up"
plain_reason answers.BadChannel = codes "the protected part does not open"
plain_reason answers.NoSuccess = codes "the protected part says no success"
plain_reason answers.CostSpent = codes "the way would cost more than 65,535"
plain_reason answers.Blacklisted = codes "the neighbour did not acknowledge a reply"
plain_reason answers.NotAwaited = codes "no reply awaits this acknowledgement"
plain_reason answers.Old = codes "the broadcast is its own, or not above the mark of its origin"
plain_reason answers.OriginsFull = codes "32 origins of broadcasts are known already"
plain_reason answers.NotScanning = codes "it does not look for agents"
plain_reason answers.Revisited = codes "the request has been here before"
plain_reason answers.PathLong = codes "the way has as many nodes as it may"
plain_reason a = answer_word a

-- the same for what somebody asked for
abbrev pub plain_refusal : Answer → List ℕ
plain_refusal answers.ToSelf = codes "the target is the node itself"
plain_refusal answers.WaitingFull = codes "8 bodies wait already, or their room is used up"
plain_refusal answers.BadSize = codes "more than 1,280 octets"
plain_refusal answers.RandomsFull = codes "8 random values are held"
plain_refusal answers.NotAllowed = codes "this meter is not allowed"
plain_refusal answers.NotIssued = codes "this key was not issued to the meter"
plain_refusal answers.NotHeld = codes "no key is held at this index"
plain_refusal answers.IndexActive = codes "the coordinator seals with this index"
plain_refusal answers.NoRandom = codes "the coordinator holds no random value"
plain_refusal answers.SessionsFull = codes "8 sessions are open"
plain_refusal answers.CounterSpent = codes "the counters are used up"
plain_refusal answers.SeqSpent = codes "the own numbers are used up"
plain_refusal answers.NumberSpent = codes "the numbers of its broadcasts are used up"
plain_refusal answers.NoRoute = codes "there is no route"
plain_refusal answers.NoBeacon = codes "fewer agents were heard"
plain_refusal a = answer_word a

-- which keys a node holds: at index 0, at index 1
abbrev pub held_keys : Bool → Bool → List ℕ
held_keys true true = codes "; it holds index 0, 1"
held_keys true false = codes "; it holds index 0"
held_keys false true = codes "; it holds index 1"
held_keys false false = codes "; it holds none"
