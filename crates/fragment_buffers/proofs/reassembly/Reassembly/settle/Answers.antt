use Rattle.std.proofs.Common.{◌≡◌, length, sym, ap, subst, ◌∙◌, arith}
use Rattle.std.specs.List.{remove}
use Rattle.block_pool.specs.Pool.{chain_octets}
use Rattle.fragment_buffers.specs.declared.reassembly.Taken.TheVariants as answer
use Rattle.fragment_buffers.specs.PieceIntake.{Taking, Held, Whole}
use Rattle.fragment_buffers.specs.Answers.{taken_of, octets_of, settled_at}
use Rattle.fragment_buffers.specs.Entries.{Entry, IsEntry, IsCovered, HasGap, no_entry, reassemblies_in, entry_at}
use Rattle.fragment_buffers.proofs.PlaceRules.{settled_gap, settled_whole}
use Rattle.fragment_buffers.proofs.reassembly.Reassembly.settle.Goals as goal

pub is_whole-requires : goal.is_whole-requires
is_whole-requires c = omega (arith, ap length c.self.view_is, c.requires.there)

pub note-note-requires : goal.note-note-requires
note-note-requires c = omega (arith, ap length c.self.view_is, c.requires.there)

pub read-requires-clause-there : goal.read-requires-clause-there
read-requires-clause-there c = omega (arith, ap length c.self.view_is, c.requires.there)

pub read-requires-clause-some : goal.read-requires-clause-some
read-requires-clause-some c = c.self.invariant.bounded.some c.args.index no_entry (omega (arith, ap length c.self.view_is, c.requires.there))

pub read-requires-clause-chain : goal.read-requires-clause-chain
read-requires-clause-chain c =
    subst (λ es. length (chain_octets c.args.pool.now (entry_at es c.args.index).chain) ≡ (entry_at es c.args.index).size) (sym c.self.view_is)
    (c.requires.keeps.lengths c.args.index c.requires.there)

gap : (c : goal.Then-not-is_whole) → settled_at (reassemblies_in c.args.pool.now c.args.self.now) c.args.index
    ≡ record { held = reassemblies_in c.args.pool.now c.args.self.now; outcome = Held }
gap c =
    let entry = ap (λ es. entry_at es c.args.index) c.self.view_is in
    settled_gap c.args.pool.now c.args.self.now c.args.index c.requires.there (subst HasGap entry c.if-not-is_whole.ensures.value)

pub returns-then-not-is_whole-clause-answer : goal.returns-then-not-is_whole-clause-answer
returns-then-not-is_whole-clause-answer c = sym (ap (λ (t : Taking). taken_of t.outcome) (gap c))

pub returns-then-not-is_whole-clause-datagram : goal.returns-then-not-is_whole-clause-datagram
returns-then-not-is_whole-clause-datagram c = c.requires.empty ∙ sym (ap (λ (t : Taking). octets_of t.outcome) (gap c))

pub returns-then-not-is_whole-clause-gathered : goal.returns-then-not-is_whole-clause-gathered
returns-then-not-is_whole-clause-gathered c = sym (ap (λ (t : Taking). t.held) (gap c))

whole : (c : goal.After-end) → settled_at (reassemblies_in c.args.pool.now c.args.self.now) c.args.index
    ≡ record {
      held = remove (reassemblies_in c.args.pool.now c.args.self.now) c.args.index;
      outcome = Whole (entry_at c.args.self.now c.args.index).note (chain_octets c.args.pool.now (entry_at c.args.self.now c.args.index).chain);
    }
whole c =
    let entry = ap (λ es. entry_at es c.args.index) c.self.view_is in
    settled_whole c.args.pool.now c.args.self.now c.args.index c.requires.there (subst IsEntry entry c.is_whole.ensures.rule)
    (c.requires.keeps.lengths c.args.index c.requires.there)
    (subst IsCovered entry c.if-not-is_whole.ensures.value)

pub returns-clause-answer : goal.returns-clause-answer
returns-clause-answer c =
    let entry = ap (λ es. entry_at es c.args.index) c.self.view_is in
    ap answer.Whole (c.note-note.ensures ∙ ap (λ (e : Entry). e.note) entry) ∙ sym (ap (λ (t : Taking). taken_of t.outcome) (whole c))

pub returns-clause-datagram : goal.returns-clause-datagram
returns-clause-datagram c =
    let entry = ap (λ es. entry_at es c.args.index) c.self.view_is in
    c.read.ensures ∙ ap (λ (e : Entry). chain_octets c.args.pool.now e.chain) entry ∙ sym (ap (λ (t : Taking). octets_of t.outcome) (whole c))

pub returns-clause-gathered : goal.returns-clause-gathered
returns-clause-gathered c = c.end.ensures.gathered ∙ sym (ap (λ (t : Taking). t.held) (whole c))
