-- A run of the program: what was answered so far, and how it ends.
use Rattle.std.proofs.Common.{◌≡◌, ◌≢◌, inl, inr, ℕ, ◌+◌, ◌≤◌, List, [], ◌++◌, length, Result, Ok, Err, refl, sym, subst}
use Rattle.std.proofs.Common.{arith, length-append}
use Rattle.std.proofs.lemmas.List.{append_assoc, append-nil}
use Rattle.std.specs.Io.KnownBytes.{Consumes}
use Rattle.std.proofs.KnownBytes.{Consumes-nil, Consumes-trans}
use Rattle.plc_base.specs.declared.streams.Failed.{Failed}
use Rattle.plc_base.specs.Streams.{SourceState, SinkState, SourceFaults, SourceRose, SinkRose, HasWritten}
use Rattle.plc_base.proofs.SourceLemmas.{no_reads, both_reads}
use Rattle.plc_base.specs.Fields.{part}
use Rattle.plc_base.specs.Keeper.{Store}
use Rattle.plc_base.specs.declared.keeper.BadStore.{BadStore}
use Rattle.node_rules.specs.Memory as memory
use Rattle.node_rules.specs.RestartStates.{memory_of}
use Rattle.host_calls.specs.Items.{Item, spelling}
use Rattle.host_calls.specs.declared.status.Status.{Status}
use Rattle.host_calls.specs.declared.status.Status.TheVariants as status
use Rattle.host_calls.proofs.WrittenTexts.{all, behind}
use Rattle.host_calls.proofs.WrittenTexts as written_texts
use Rattle.meter_host.specs.declared.serving.Outcome.{Outcome}
use Rattle.meter_host.specs.declared.serving.Outcome.TheVariants.{Ended, Unusable, Usage, Memory, ReadFault, WriteFault}
use Rattle.meter_host.specs.ProgramRuns.{Phase, Runs, Closed, Turn, Answered, begins, goes_on, HasAnswered, GaveNone, ClosedAs, EndsAs, Serves}
use Rattle.meter_host.specs.ItemCalls.{NotOpened, Answers, puts_in}
use Rattle.meter_host.specs.ProgramRuns.{outcome_of, taken_by, Refuses, Opens, Says, IsToOpen, IsTaken, TakesIn}
use Rattle.host_calls.specs.ItemReader.{HasFailed}
use Rattle.host_calls.specs.Answers.{status_text, answer_text}
use Rattle.meter_node.specs.MeterStates.{MeterState}

-- What was answered so far, and that it has at least this many octets.
pub record SoFar (first : Phase) (source0 source1 : SourceState) (sink0 sink1 : SinkState) (last : Phase) (count : ℕ) : Type 0 where
  pub items : HasAnswered first source0 source1 sink0 sink1 last
  pub counted : count ≤ length items.read

pub begun : (first : Phase) (source : SourceState) (sink : SinkState) → SoFar first source source sink sink first 0
begun first source sink = record {
  items = record {
    read = [];
    said = [];
    answered = begins first;
    gave = Consumes-nil source.left;
    written = written_texts.done (written_texts.none sink);
    source = no_reads source;
  };
  counted = omega arith;
}

-- why a meter was not opened whose item has 24 octets
pub refuses : (old : Store) (octets : List ℕ) (s : Status) (r : Result memory.Memory BadStore) → length octets ≡ 24
    → r ≡ memory_of (memory.Meter (record { 0 = part 8 16 octets })) old.records → NotOpened r s → Refuses old octets s
refuses old octets status.Malformed (Ok m) long e n = absurd n
refuses old octets status.Malformed (Err b) long e n = absurd n
refuses old octets status.Done r long e n = (long, subst (λ x. NotOpened x status.Done) e n)
refuses old octets (status.Refused reason) r long e n = (long, subst (λ x. NotOpened x (status.Refused reason)) e n)
refuses old octets status.Halted r long e n = (long, subst (λ x. NotOpened x status.Halted) e n)
refuses old octets status.BadStore r long e n = (long, subst (λ x. NotOpened x status.BadStore) e n)
refuses old octets status.Memory r long e n = (long, subst (λ x. NotOpened x status.Memory) e n)

-- # One item more

abbrev pub turned : {first old : Phase} {source0 source1 source2 : SourceState} {sink0 sink1 sink2 : SinkState}
    (h : HasAnswered first source0 source1 sink0 sink1 old) (item : Item) (answer : List ℕ) (new : Phase)
    → Consumes source1.left source2.left (spelling item) → SourceFaults source1 source2 → Turn old item answer new
    → HasWritten {T = Unit {0}} {E = Failed} sink1 sink2 (Ok tt) answer → HasAnswered first source0 source2 sink0 sink2 new
turned {first} {old} {source0} {source1} {source2} h item answer new gave faults turn written = record {
  read = h.read ++ spelling item;
  said = h.said ++ answer;
  answered = goes_on first old new h.read h.said item answer h.answered turn;
  gave = Consumes-trans source0.left source1.left source2.left h.read (spelling item) h.gave gave;
  written = behind h.said answer (all h.written) written;
  source = both_reads h.source faults;
}

-- an item whose record was taken in, or was none that may be, and how that was said
pub taken_in : {old new : Store} (item : Item) (ended : Status) (said : List ℕ) → item.kind ≢ 2 → IsTaken item.kind item.octets old ended new
    → said ≡ status_text ended → TakesIn old item said new
taken_in item ended said other taken is = record { other = other; ended = ended; taken = taken; is_said = is }

-- one more item of a loop
pub one_more : {first old : Phase} {source0 source1 source2 : SourceState} {sink0 sink1 sink2 : SinkState} {count : ℕ}
    (s : SoFar first source0 source1 sink0 sink1 old count) (item : Item) (answer : List ℕ) (new : Phase)
    → Consumes source1.left source2.left (spelling item) → SourceFaults source1 source2 → Turn old item answer new
    → HasWritten {T = Unit {0}} {E = Failed} sink1 sink2 (Ok tt) answer → SoFar first source0 source2 sink0 sink2 new (count + 1)
one_more {count = count} s item answer new gave faults turn written = record {
  items = turned s.items item answer new gave faults turn written;
  counted = let before = s.counted in omega (arith, length-append s.items.read (spelling item), before);
}

same_fault : {e : Failed} {sink1 sink2 : SinkState} {text : List ℕ} → HasWritten {T = Unit {0}} {E = Failed} sink1 sink2 (Err e) text
    → HasWritten {T = Unit {0}} {E = Failed} sink1 sink2 (Err (record {})) text
same_fault w = record {
  front = w.front;
  rest = w.rest;
  whole = w.whole;
  appends = w.appends;
  all = tt;
  cause = record { later = w.cause.later; failed = w.cause.failed };
  faults = w.faults;
}

-- a write of the answer failed
pub ends_writing : {first old : Phase} {source0 source1 source2 : SourceState} {sink0 sink1 sink2 : SinkState}
    (h : HasAnswered first source0 source1 sink0 sink1 old) (item : Item) (answer : List ℕ) (new : Phase) (e : Failed)
    → Consumes source1.left source2.left (spelling item) → SourceFaults source1 source2 → Turn old item answer new
    → HasWritten {T = Unit {0}} {E = Failed} sink1 sink2 (Err e) answer → Serves first source0 source2 sink0 sink2 WriteFault
ends_writing {first} {old} {source0} {source1} {source2} h item answer new e gave faults turn written = record {
  read = h.read ++ spelling item;
  said = h.said ++ answer;
  last = new;
  answered = goes_on first old new h.read h.said item answer h.answered turn;
  mid = source2;
  gave = Consumes-trans source0.left source1.left source2.left h.read (spelling item) h.gave gave;
  written = behind h.said answer (all h.written) (same_fault written);
  ends = refl;
  before = both_reads h.source faults;
  after = no_reads source2;
}

-- # One call more

module _ {first : Phase} {source0 source1 source2 : SourceState} {sink0 sink1 sink2 : SinkState} {old new : MeterState} where
  pub one_more_call : {count : ℕ} (s : SoFar first source0 source1 sink0 sink1 (Runs old) count) (kind : ℕ) (octets : List ℕ)
      → Consumes source1.left source2.left (spelling (record { kind = kind; octets = octets })) → SourceFaults source1 source2
      → Answers kind octets old new sink1 sink2 (Ok tt) → SoFar first source0 source2 sink0 sink2 (Runs new) (count + 1)
  one_more_call s kind octets gave faults a =
      one_more s (record { kind = kind; octets = octets }) (answer_text (puts_in a.mid.station.store) a.given a.status) (Runs new) gave faults
      (record { mid = a.mid; ended = a.status; given = a.given; called = a.called; stored = a.stored; is_said = refl }) a.written

  pub ends_calling : (h : HasAnswered first source0 source1 sink0 sink1 (Runs old)) (kind : ℕ) (octets : List ℕ) (e : Failed)
      → Consumes source1.left source2.left (spelling (record { kind = kind; octets = octets })) → SourceFaults source1 source2
      → Answers kind octets old new sink1 sink2 (Err e) → Serves first source0 source2 sink0 sink2 WriteFault
  ends_calling h kind octets e gave faults a =
      ends_writing h (record { kind = kind; octets = octets }) (answer_text (puts_in a.mid.station.store) a.given a.status) (Runs new) e gave faults
      (record { mid = a.mid; ended = a.status; given = a.given; called = a.called; stored = a.stored; is_said = refl }) a.written

-- # The ends

module _ {first last : Phase} {source0 source1 : SourceState} {sink0 sink1 : SinkState} (h : HasAnswered first source0 source1 sink0 sink1 last) where
  whole : (outcome : Outcome) → taken_by outcome ≡ Ok tt → HasWritten sink0 sink1 (taken_by outcome) h.said
  whole outcome is = subst (λ (r : Result (Unit {0}) Failed). HasWritten sink0 sink1 r h.said) (sym is) h.written

  -- the source gave no item more
  pub ends_reading : {source2 : SourceState} (outcome : Outcome) → GaveNone outcome source1 source2 → SourceFaults source1 source2
      → Serves first source0 source2 sink0 sink1 outcome
  ends_reading {source2} outcome none faults = record {
    read = h.read;
    said = h.said;
    last = last;
    answered = h.answered;
    mid = source1;
    gave = h.gave;
    written = whole outcome (is_whole outcome none);
    ends = by outcome none;
    before = h.source;
    after = faults;
  }
    where
      is_whole : (o : Outcome) → GaveNone o source1 source2 → taken_by o ≡ Ok tt
      is_whole Ended none = refl
      is_whole Unusable none = refl
      is_whole Usage none = absurd none
      is_whole Memory none = absurd none
      is_whole ReadFault none = refl
      is_whole WriteFault none = absurd none

      by : (o : Outcome) → GaveNone o source1 source2 → EndsAs o last h.read source1 source2
      by Ended none = inl none
      by Unusable none = inl none
      by Usage none = absurd none
      by Memory none = absurd none
      by ReadFault none = none
      by WriteFault none = absurd none

  -- the meter was not opened
  pub ends_closed : (s : Status) → last ≡ Closed s → Serves first source0 source1 sink0 sink1 (outcome_of s)
  ends_closed s closed = record {
    read = h.read;
    said = h.said;
    last = last;
    answered = h.answered;
    mid = source1;
    gave = h.gave;
    written = whole (outcome_of s) (is_whole s);
    ends = by s closed;
    before = h.source;
    after = no_reads source1;
  }
    where
      is_whole : (s : Status) → taken_by (outcome_of s) ≡ Ok tt
      is_whole status.Done = refl
      is_whole (status.Refused reason) = refl
      is_whole status.Halted = refl
      is_whole status.BadStore = refl
      is_whole status.Malformed = refl
      is_whole status.Memory = refl

      by : (s : Status) → last ≡ Closed s → EndsAs (outcome_of s) last h.read source1 source1
      by status.Done e = inr (subst (ClosedAs Unusable) (sym e) refl, refl)
      by (status.Refused reason) e = inr (subst (ClosedAs Unusable) (sym e) refl, refl)
      by status.Halted e = inr (subst (ClosedAs Unusable) (sym e) refl, refl)
      by status.BadStore e = inr (subst (ClosedAs Unusable) (sym e) refl, refl)
      by status.Malformed e = inr (subst (ClosedAs Unusable) (sym e) refl, refl)
      by status.Memory e = (inr (subst (ClosedAs Memory) (sym e) refl), refl)

-- the item that was to open the meter did not, and that was said, or a write of it failed
pub ends_refused : {first old : Phase} {source0 source1 source2 : SourceState} {sink0 sink1 sink2 : SinkState}
    (h : HasAnswered first source0 source1 sink0 sink1 old) (item : Item) (s : Status) (outcome : Outcome)
    → Consumes source1.left source2.left (spelling item) → SourceFaults source1 source2 → Turn old item (status_text s) (Closed s)
    → Says sink1 sink2 (status_text s) (outcome_of s) outcome → Serves first source0 source2 sink0 sink2 outcome
ends_refused {first} {old} {source0} {source1} {source2} {sink0} {sink1} {sink2} h item s outcome gave faults turn says = by outcome says
  where
    closed : {o : Outcome} → (o ≡ outcome_of s) × HasWritten {T = Unit {0}} {E = Failed} sink1 sink2 (Ok tt) (status_text s)
        → Serves first source0 source2 sink0 sink2 o
    closed {o} p =
        subst (Serves first source0 source2 sink0 sink2) (sym p.0)
        (ends_closed (turned h item (status_text s) (Closed s) gave faults turn p.1) s refl)

    by : (o : Outcome) → Says sink1 sink2 (status_text s) (outcome_of s) o → Serves first source0 source2 sink0 sink2 o
    by Ended p = closed p
    by Unusable p = closed p
    by Usage p = closed p
    by Memory p = closed p
    by ReadFault p = closed p
    by WriteFault w = ends_writing h item (status_text s) (Closed s) (record {}) gave faults turn w

-- # The item that is to open the meter

module _ {first : Phase} {source0 source1 : SourceState} {sink0 sink1 sink2 : SinkState} {store : Store} {octets : List ℕ}
    (t : IsToOpen first source0 source1 sink0 sink1 store octets) where
  pub ends_unopened : (s : Status) (outcome : Outcome) → Opens store octets (Err s) → Says sink1 sink2 (status_text s) (outcome_of s) outcome
      → Serves first source0 source1 sink0 sink2 outcome
  ends_unopened s outcome opens says =
      ends_refused t.so_far (record { kind = 2; octets = octets }) s outcome t.next t.source (record { is_open = refl; opens = opens; is_said = refl }) says

  pub ends_unsaid : (m : MeterState) (e : Failed) → Opens store octets (Ok m)
      → HasWritten {T = Unit {0}} {E = Failed} sink1 sink2 (Err e) (status_text status.Done) → Serves first source0 source1 sink0 sink2 WriteFault
  ends_unsaid m e opens written =
      ends_writing t.so_far (record { kind = 2; octets = octets }) (status_text status.Done) (Runs m) e t.next t.source
      (record { is_open = refl; opens = opens; is_said = refl }) written

  pub has_opened : (m : MeterState) → Opens store octets (Ok m) → HasWritten {T = Unit {0}} {E = Failed} sink1 sink2 (Ok tt) (status_text status.Done)
      → HasAnswered first source0 source1 sink0 sink2 (Runs m)
  has_opened m opens written =
      turned t.so_far (record { kind = 2; octets = octets }) (status_text status.Done) (Runs m) t.next t.source
      (record { is_open = refl; opens = opens; is_said = refl }) written

-- there was no memory to begin
pub ends_at_once : (first : Phase) (source : SourceState) (sink : SinkState) → Serves first source source sink sink Memory
ends_at_once first source sink = record {
  read = [];
  said = [];
  last = first;
  answered = begins first;
  mid = source;
  gave = Consumes-nil source.left;
  written = written_texts.done (written_texts.none sink);
  ends = (inl refl, refl);
  before = no_reads source;
  after = no_reads source;
}

-- # A run after a run

answered_both : {first mid last : Phase} {read said more answers : List ℕ} → Answered first read said mid → Answered mid more answers last
    → Answered first (read ++ more) (said ++ answers) last
answered_both {first} {mid} {last} {read} {said} {more} {answers} a (begins phase) =
    subst (λ (r : List ℕ). Answered first r (said ++ []) mid) (sym (append-nil read))
    (subst (λ (t : List ℕ). Answered first read t mid) (sym (append-nil said)) a)
answered_both {first} {mid} {last} {read} {said} a (goes_on mid0 old new before told item answer b turn) =
    subst (λ (r : List ℕ). Answered first r (said ++ (told ++ answer)) new) (append_assoc read before (spelling item))
    (subst (λ (t : List ℕ). Answered first ((read ++ before) ++ spelling item) t new) (append_assoc said told answer)
    (goes_on first old new (read ++ before) (said ++ told) item answer (answered_both a b) turn))

-- items are answered after others; a run that had memory to begin ends as it does
pub serves_after : {first mid : Phase} {source0 source1 source2 : SourceState} {sink0 sink1 sink2 : SinkState} (outcome : Outcome)
    → HasAnswered first source0 source1 sink0 sink1 mid → Serves mid source1 source2 sink1 sink2 outcome → outcome ≢ Memory
    → Serves first source0 source2 sink0 sink2 outcome
serves_after {first} {mid} {source0} {source1} {source2} {sink0} {sink1} {sink2} outcome h s began = record {
  read = h.read ++ s.read;
  said = h.said ++ s.said;
  last = s.last;
  answered = answered_both h.answered s.answered;
  mid = s.mid;
  gave = Consumes-trans source0.left source1.left s.mid.left h.read s.read h.gave s.gave;
  written = behind h.said s.said (all h.written) s.written;
  ends = by outcome s.ends began;
  before = both_reads h.source s.before;
  after = s.after;
}
  where
    by : (o : Outcome) → EndsAs o s.last s.read s.mid source2 → o ≢ Memory → EndsAs o s.last (h.read ++ s.read) s.mid source2
    by Ended (inl none) began = inl none
    by Ended (inr many) began = inr (let enough = many.0 in omega (arith, length-append h.read s.read, enough), many.1)
    by Unusable e began = e
    by Usage e began = absurd e
    by Memory e began = absurd (began refl)
    by ReadFault e began = e
    by WriteFault e began = e

-- # Why a fault is answered

module _ {first : Phase} {source0 source1 : SourceState} {sink0 sink1 : SinkState} {outcome : Outcome}
    (s : Serves first source0 source1 sink0 sink1 outcome) where
  pub read_failed : outcome ≡ ReadFault → SourceRose source0 source1
  read_failed is =
      let failed : HasFailed s.mid source1 = subst (λ (o : Outcome). EndsAs o s.last s.read s.mid source1) is s.ends in
      let later = s.before.later in let rose = failed.rose in omega (arith, later, rose)

  pub write_failed : outcome ≡ WriteFault → SinkRose sink0 sink1
  write_failed is =
      let written : HasWritten sink0 sink1 (taken_by WriteFault) s.said =
      subst (λ (o : Outcome). HasWritten sink0 sink1 (taken_by o) s.said) is s.written in
      written.cause.failed
