use Rattle.std.proofs.Common.{◌≡◌, ℕ, ◌<◌, false, List, length, Ok, sym, ap, subst, ◌∙◌}
use Rattle.fragment_buffers.specs.PieceIntake.{Taking, taken}
use Rattle.fragment_buffers.specs.Answers.{answer_of, octets_of, has_name, joined_at}
use Rattle.fragment_buffers.specs.Entries.{Entry, reassemblies_in, entry_at}
use Rattle.fragment_buffers.proofs.EntryNames.{found_gathered}
use Rattle.fragment_buffers.proofs.Rule.{joined_answer}
use Rattle.fragment_buffers.proofs.reassembly.Reassembly.take.Goals as goal

pub join-requires-clause-there : goal.join-requires-clause-there
join-requires-clause-there c = subst (λ (es : List Entry). c.in-Some.index < length es) c.self.view_is c.in-Some.ensures.there

pub join-requires-clause-size : goal.join-requires-clause-size
join-requires-clause-size c =
    sym (subst (λ (es : List Entry). c.size.result ≡ (entry_at es c.in-Some.index).size) c.self.view_is c.in-Some.ensures.named.1) ∙ c.size.ensures.value

pub join-requires-clause-tag : goal.join-requires-clause-tag
join-requires-clause-tag c =
    sym (subst (λ (es : List Entry). c.tag.result ≡ (entry_at es c.in-Some.index).tag) c.self.view_is c.in-Some.ensures.named.2) ∙ c.tag.ensures

pub begin-requires-clause-none : goal.begin-requires-clause-none
begin-requires-clause-none c = λ k lk.
    let none = subst (λ (es : List Entry). (j : ℕ) → j < length es → has_name c.args.origin c.size.result c.tag.result (entry_at es j) ≡ false)
    c.self.view_is c.in-None.ensures.none in
    subst (λ n. has_name c.args.origin n c.args.piece.now.tag (entry_at c.args.self.now k) ≡ false) c.size.ensures.value
    (subst (λ t. has_name c.args.origin c.size.result t (entry_at c.args.self.now k) ≡ false) c.tag.ensures (none k lk))

found : (c : goal.After-join) → taken (reassemblies_in c.args.pool.now c.args.self.now) c.args.origin c.args.piece.now c.args.note c.args.now
    ≡ joined_at (reassemblies_in c.args.pool.now c.args.self.now) c.in-Some.index c.args.piece.now c.args.note c.args.now
found c =
    let i = c.in-Some.index in
    let size : ℕ = c.size.result in let tag : ℕ = c.tag.result in
    let there = subst (λ (es : List Entry). i < length es) c.self.view_is c.in-Some.ensures.there in
    let named = subst (λ (es : List Entry). (c.args.origin ≡ (entry_at es i).origin) × (size ≡ (entry_at es i).size) × (tag ≡ (entry_at es i).tag))
    c.self.view_is c.in-Some.ensures.named in
    let none = subst (λ (es : List Entry). (k : ℕ) → k < i → has_name c.args.origin size tag (entry_at es k) ≡ false) c.self.view_is c.in-Some.ensures.first in
    let first : (k : ℕ) → k < i → has_name c.args.origin c.args.piece.now.size c.args.piece.now.tag (entry_at c.args.self.now k) ≡ false = λ k lk.
    subst (λ n. has_name c.args.origin n c.args.piece.now.tag (entry_at c.args.self.now k) ≡ false) c.size.ensures.value
    (subst (λ t. has_name c.args.origin size t (entry_at c.args.self.now k) ≡ false) c.tag.ensures (none k lk)) in
    found_gathered c.args.pool.now c.args.self.now c.args.origin c.args.piece.now c.args.note c.args.now i there
    (named.0, sym c.size.ensures.value ∙ named.1, sym c.tag.ensures ∙ named.2) first

pub returns-in-Some-clause-answer : goal.returns-in-Some-clause-answer
returns-in-Some-clause-answer c =
    ap (λ a. Ok a) c.join.ensures.answer
    ∙ sym (joined_answer (reassemblies_in c.args.pool.now c.args.self.now) c.in-Some.index c.args.piece.now c.args.note c.args.now)
    ∙ sym (ap (λ (t : Taking). answer_of t.outcome) (found c))

pub returns-in-Some-clause-datagram : goal.returns-in-Some-clause-datagram
returns-in-Some-clause-datagram c = c.join.ensures.datagram ∙ sym (ap (λ (t : Taking). octets_of t.outcome) (found c))

pub returns-in-Some-clause-gathered : goal.returns-in-Some-clause-gathered
returns-in-Some-clause-gathered c = c.join.ensures.gathered ∙ sym (ap (λ (t : Taking). t.held) (found c))
