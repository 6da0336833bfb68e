use Rattle.std.proofs.Common.{◌≡◌, Ok, inl, inr, length, sym, ap, ◌∙◌, arith}
use Rattle.fragment_buffers.specs.PieceIntake.{Taking, Full, taken, blocks}
use Rattle.fragment_buffers.specs.Answers.{answer_of, octets_of, settled_at}
use Rattle.fragment_buffers.specs.Entries.{reassemblies_in, blocks_used}
use Rattle.fragment_buffers.proofs.EntryNames.{full_gathered, new_gathered}
use Rattle.fragment_buffers.proofs.Rule.{settled_answer}
use Rattle.fragment_buffers.proofs.reassembly.Reassembly.begin.Goals as goal
use Rattle.fragment_buffers.proofs.reassembly.Reassembly.begin.Goals.{then-index-ge-REASSEMBLIES-via-then-index-ge-REASSEMBLIES}
use Rattle.fragment_buffers.proofs.reassembly.Reassembly.begin.Goals.{then-index-ge-REASSEMBLIES-via-else-index-ge-REASSEMBLIES+then-self-div_ceil-gt-BLOCKS}

refused : (c : goal.Joined-then-index-ge-REASSEMBLIES)
    → taken (reassemblies_in c.args.pool.now c.args.self.now) c.args.origin c.args.piece.now c.args.note c.args.now
    ≡ record { held = reassemblies_in c.args.pool.now c.args.self.now; outcome = Full }
refused c =
    let long = ap length c.self.view_is in
    let used = ap (λ es. blocks_used es) c.self.view_is in
    full_gathered c.args.pool.now c.args.self.now c.args.origin c.args.piece.now c.args.note c.args.now c.requires.none
    (elim c.then-index-ge-REASSEMBLIES.branch [
      | then-index-ge-REASSEMBLIES-via-then-index-ge-REASSEMBLIES w ↦ inl (omega (arith, long, c.len-index.ensures, w.if-index-ge-REASSEMBLIES.true))
      | then-index-ge-REASSEMBLIES-via-else-index-ge-REASSEMBLIES+then-self-div_ceil-gt-BLOCKS w ↦
          inr (omega (arith, used, c.self.invariant.blocks, w.if-self-div_ceil-gt-BLOCKS.true, w.div_ceil.ensures, ap (λ n. blocks n) w.size.ensures.value))
    ])

pub returns-then-index-ge-REASSEMBLIES-clause-answer : goal.returns-then-index-ge-REASSEMBLIES-clause-answer
returns-then-index-ge-REASSEMBLIES-clause-answer c = sym (ap (λ (t : Taking). answer_of t.outcome) (refused c))

pub returns-then-index-ge-REASSEMBLIES-clause-datagram : goal.returns-then-index-ge-REASSEMBLIES-clause-datagram
returns-then-index-ge-REASSEMBLIES-clause-datagram c = c.requires.empty ∙ sym (ap (λ (t : Taking). octets_of t.outcome) (refused c))

pub returns-then-index-ge-REASSEMBLIES-clause-gathered : goal.returns-then-index-ge-REASSEMBLIES-clause-gathered
returns-then-index-ge-REASSEMBLIES-clause-gathered c = sym (ap (λ (t : Taking). t.held) (refused c))

begun_is : (c : goal.After-settle) → taken (reassemblies_in c.args.pool.now c.args.self.now) c.args.origin c.args.piece.now c.args.note c.args.now
    ≡ settled_at (reassemblies_in c.push.new.pool c.push.new.self) c.len-index.result
begun_is c =
    let long = ap length c.self.view_is in
    let used = ap (λ es. blocks_used es) c.self.view_is in
    new_gathered c.args.pool.now c.push.new.pool c.args.self.now c.push.new.self c.args.origin c.args.piece.now c.args.note c.args.now c.len-index.result
    c.requires.none
    (omega (arith, long, c.len-index.ensures, c.if-index-ge-REASSEMBLIES.false)) (omega (arith, used, c.self.invariant.blocks)) c.push.ensures.gathered
    (c.len-index.ensures ∙ long)

pub returns-clause-answer : goal.returns-clause-answer
returns-clause-answer c =
    ap (λ a. Ok a) c.settle.ensures.answer ∙ sym (settled_answer (reassemblies_in c.push.new.pool c.push.new.self) c.len-index.result)
    ∙ sym (ap (λ (t : Taking). answer_of t.outcome) (begun_is c))

pub returns-clause-datagram : goal.returns-clause-datagram
returns-clause-datagram c = c.settle.ensures.datagram ∙ sym (ap (λ (t : Taking). octets_of t.outcome) (begun_is c))

pub returns-clause-gathered : goal.returns-clause-gathered
returns-clause-gathered c = c.settle.ensures.gathered ∙ sym (ap (λ (t : Taking). t.held) (begun_is c))
