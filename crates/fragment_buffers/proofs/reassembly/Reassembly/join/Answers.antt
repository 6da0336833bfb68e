use Rattle.std.proofs.Common.{◌≡◌, length, sym, ap, subst, ◌∙◌, arith}
use Rattle.std.specs.List.{list_any}
use Rattle.fragment_buffers.specs.PieceIntake.{Taking, Held}
use Rattle.fragment_buffers.specs.Answers.{taken_of, octets_of, settled_at, joined_at}
use Rattle.fragment_buffers.specs.Entries.{Entry, IsEntry, entry_at, reassemblies_in, same_place, place_of}
use Rattle.fragment_buffers.proofs.PoolEntries.{moves_both}
use Rattle.fragment_buffers.proofs.PlaceRules.{joined_repeat, joined_grown}
use Rattle.fragment_buffers.proofs.reassembly.Reassembly.join.Goals as goal

pub repeats-requires : goal.repeats-requires
repeats-requires c = omega (arith, ap length c.self.view_is, c.requires.there)

repeat : (c : goal.Then-repeats) → joined_at (reassemblies_in c.args.pool.now c.args.self.now) c.args.index c.args.piece.now c.args.note c.args.now
    ≡ record { held = reassemblies_in c.args.pool.now c.args.self.now; outcome = Held }
repeat c =
    let entry = ap (λ es. entry_at es c.args.index) c.self.view_is in
    joined_repeat c.args.pool.now c.args.self.now c.args.index c.args.piece.now c.args.note c.args.now c.requires.there
    (subst IsEntry entry c.repeats.ensures.rule) (c.requires.keeps.lengths c.args.index c.requires.there)
    (ap (λ (e : Entry). list_any (same_place (place_of c.args.piece.now)) e.places) (sym entry) ∙ sym c.repeats.ensures.value ∙ c.if-repeats.true)

pub returns-then-repeats-clause-answer : goal.returns-then-repeats-clause-answer
returns-then-repeats-clause-answer c = sym (ap (λ (t : Taking). taken_of t.outcome) (repeat c))

pub returns-then-repeats-clause-datagram : goal.returns-then-repeats-clause-datagram
returns-then-repeats-clause-datagram c = c.requires.empty ∙ sym (ap (λ (t : Taking). octets_of t.outcome) (repeat c))

pub returns-then-repeats-clause-gathered : goal.returns-then-repeats-clause-gathered
returns-then-repeats-clause-gathered c = sym (ap (λ (t : Taking). t.held) (repeat c))

grown_is : (c : goal.After-settle) → joined_at (reassemblies_in c.args.pool.now c.args.self.now) c.args.index c.args.piece.now c.args.note c.args.now
    ≡ settled_at (reassemblies_in c.grow.new.pool c.grow.new.self) c.args.index
grown_is c =
    let entry = ap (λ es. entry_at es c.args.index) c.self.view_is in
    joined_grown c.args.pool.now c.args.self.now c.args.index c.args.piece.now c.args.note c.args.now c.requires.there
    (subst IsEntry entry c.repeats.ensures.rule) (c.requires.keeps.lengths c.args.index c.requires.there)
    (ap (λ (e : Entry). list_any (same_place (place_of c.args.piece.now)) e.places) (sym entry) ∙ sym c.repeats.ensures.value ∙ c.if-repeats.false)
    ∙ ap (λ held. settled_at held c.args.index) (sym c.grow.ensures.gathered)

pub returns-clause-answer : goal.returns-clause-answer
returns-clause-answer c = c.settle.ensures.answer ∙ sym (ap (λ (t : Taking). taken_of t.outcome) (grown_is c))

pub returns-clause-datagram : goal.returns-clause-datagram
returns-clause-datagram c = c.settle.ensures.datagram ∙ sym (ap (λ (t : Taking). octets_of t.outcome) (grown_is c))

pub returns-clause-gathered : goal.returns-clause-gathered
returns-clause-gathered c = c.settle.ensures.gathered ∙ sym (ap (λ (t : Taking). t.held) (grown_is c))

pub returns-clause-moves : goal.returns-clause-moves
returns-clause-moves c =
    moves_both c.args.pool.now c.grow.new.pool c.settle.new.pool c.args.self.now c.grow.new.self c.settle.new.self c.grow.ensures.moves c.settle.ensures.moves
