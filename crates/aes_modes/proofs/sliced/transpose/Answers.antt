use Rattle.std.proofs.Common.{ℕ, ◌+◌, ◌*◌, ◌/◌, ◌%◌, [], ◌∷◌, slice_index, ◌∙◌, arith}
use Rattle.std.specs.Int.{bit_at}
use Rattle.aes_modes.proofs.Words.{at_32}
use Rattle.aes_modes.proofs.sliced.transpose.Goals as goal

pub returns-clause-w0 : goal.returns-clause-w0
returns-clause-w0 c =
    at_32 (λ (p : ℕ). bit_at c.cross_4-r.result.0 p) (λ (p : ℕ). bit_at (slice_index c.args.q (p % 8)) (8 * (p / 8) + 0))
    (λ i.
    (c.cross_4-r.ensures.first 0 (omega arith) ∙ c.cross_2-i.ensures.first 0 (omega arith) ∙ c.cross_1-a.ensures.first 0 (omega arith)) i
    ∷ (c.cross_4-r.ensures.first 1 (omega arith) ∙ c.cross_2-i.ensures.first 1 (omega arith) ∙ c.cross_1-a.ensures.first 1 (omega arith)) i
    ∷ (c.cross_4-r.ensures.first 2 (omega arith) ∙ c.cross_2-i.ensures.first 2 (omega arith) ∙ c.cross_1-c.ensures.first 0 (omega arith)) i
    ∷ (c.cross_4-r.ensures.first 3 (omega arith) ∙ c.cross_2-i.ensures.first 3 (omega arith) ∙ c.cross_1-c.ensures.first 1 (omega arith)) i
    ∷ (c.cross_4-r.ensures.first 4 (omega arith) ∙ c.cross_2-m.ensures.first 0 (omega arith) ∙ c.cross_1-e.ensures.first 0 (omega arith)) i
    ∷ (c.cross_4-r.ensures.first 5 (omega arith) ∙ c.cross_2-m.ensures.first 1 (omega arith) ∙ c.cross_1-e.ensures.first 1 (omega arith)) i
    ∷ (c.cross_4-r.ensures.first 6 (omega arith) ∙ c.cross_2-m.ensures.first 2 (omega arith) ∙ c.cross_1-g.ensures.first 0 (omega arith)) i
    ∷ (c.cross_4-r.ensures.first 7 (omega arith) ∙ c.cross_2-m.ensures.first 3 (omega arith) ∙ c.cross_1-g.ensures.first 1 (omega arith)) i
    ∷ (c.cross_4-r.ensures.first 8 (omega arith) ∙ c.cross_2-i.ensures.first 8 (omega arith) ∙ c.cross_1-a.ensures.first 8 (omega arith)) i
    ∷ (c.cross_4-r.ensures.first 9 (omega arith) ∙ c.cross_2-i.ensures.first 9 (omega arith) ∙ c.cross_1-a.ensures.first 9 (omega arith)) i
    ∷ (c.cross_4-r.ensures.first 10 (omega arith) ∙ c.cross_2-i.ensures.first 10 (omega arith) ∙ c.cross_1-c.ensures.first 8 (omega arith)) i
    ∷ (c.cross_4-r.ensures.first 11 (omega arith) ∙ c.cross_2-i.ensures.first 11 (omega arith) ∙ c.cross_1-c.ensures.first 9 (omega arith)) i
    ∷ (c.cross_4-r.ensures.first 12 (omega arith) ∙ c.cross_2-m.ensures.first 8 (omega arith) ∙ c.cross_1-e.ensures.first 8 (omega arith)) i
    ∷ (c.cross_4-r.ensures.first 13 (omega arith) ∙ c.cross_2-m.ensures.first 9 (omega arith) ∙ c.cross_1-e.ensures.first 9 (omega arith)) i
    ∷ (c.cross_4-r.ensures.first 14 (omega arith) ∙ c.cross_2-m.ensures.first 10 (omega arith) ∙ c.cross_1-g.ensures.first 8 (omega arith)) i
    ∷ (c.cross_4-r.ensures.first 15 (omega arith) ∙ c.cross_2-m.ensures.first 11 (omega arith) ∙ c.cross_1-g.ensures.first 9 (omega arith)) i
    ∷ (c.cross_4-r.ensures.first 16 (omega arith) ∙ c.cross_2-i.ensures.first 16 (omega arith) ∙ c.cross_1-a.ensures.first 16 (omega arith)) i
    ∷ (c.cross_4-r.ensures.first 17 (omega arith) ∙ c.cross_2-i.ensures.first 17 (omega arith) ∙ c.cross_1-a.ensures.first 17 (omega arith)) i
    ∷ (c.cross_4-r.ensures.first 18 (omega arith) ∙ c.cross_2-i.ensures.first 18 (omega arith) ∙ c.cross_1-c.ensures.first 16 (omega arith)) i
    ∷ (c.cross_4-r.ensures.first 19 (omega arith) ∙ c.cross_2-i.ensures.first 19 (omega arith) ∙ c.cross_1-c.ensures.first 17 (omega arith)) i
    ∷ (c.cross_4-r.ensures.first 20 (omega arith) ∙ c.cross_2-m.ensures.first 16 (omega arith) ∙ c.cross_1-e.ensures.first 16 (omega arith)) i
    ∷ (c.cross_4-r.ensures.first 21 (omega arith) ∙ c.cross_2-m.ensures.first 17 (omega arith) ∙ c.cross_1-e.ensures.first 17 (omega arith)) i
    ∷ (c.cross_4-r.ensures.first 22 (omega arith) ∙ c.cross_2-m.ensures.first 18 (omega arith) ∙ c.cross_1-g.ensures.first 16 (omega arith)) i
    ∷ (c.cross_4-r.ensures.first 23 (omega arith) ∙ c.cross_2-m.ensures.first 19 (omega arith) ∙ c.cross_1-g.ensures.first 17 (omega arith)) i
    ∷ (c.cross_4-r.ensures.first 24 (omega arith) ∙ c.cross_2-i.ensures.first 24 (omega arith) ∙ c.cross_1-a.ensures.first 24 (omega arith)) i
    ∷ (c.cross_4-r.ensures.first 25 (omega arith) ∙ c.cross_2-i.ensures.first 25 (omega arith) ∙ c.cross_1-a.ensures.first 25 (omega arith)) i
    ∷ (c.cross_4-r.ensures.first 26 (omega arith) ∙ c.cross_2-i.ensures.first 26 (omega arith) ∙ c.cross_1-c.ensures.first 24 (omega arith)) i
    ∷ (c.cross_4-r.ensures.first 27 (omega arith) ∙ c.cross_2-i.ensures.first 27 (omega arith) ∙ c.cross_1-c.ensures.first 25 (omega arith)) i
    ∷ (c.cross_4-r.ensures.first 28 (omega arith) ∙ c.cross_2-m.ensures.first 24 (omega arith) ∙ c.cross_1-e.ensures.first 24 (omega arith)) i
    ∷ (c.cross_4-r.ensures.first 29 (omega arith) ∙ c.cross_2-m.ensures.first 25 (omega arith) ∙ c.cross_1-e.ensures.first 25 (omega arith)) i
    ∷ (c.cross_4-r.ensures.first 30 (omega arith) ∙ c.cross_2-m.ensures.first 26 (omega arith) ∙ c.cross_1-g.ensures.first 24 (omega arith)) i
    ∷ (c.cross_4-r.ensures.first 31 (omega arith) ∙ c.cross_2-m.ensures.first 27 (omega arith) ∙ c.cross_1-g.ensures.first 25 (omega arith)) i ∷ [])

pub returns-clause-w1 : goal.returns-clause-w1
returns-clause-w1 c =
    at_32 (λ (p : ℕ). bit_at c.cross_4-s.result.0 p) (λ (p : ℕ). bit_at (slice_index c.args.q (p % 8)) (8 * (p / 8) + 1))
    (λ i.
    (c.cross_4-s.ensures.first 0 (omega arith) ∙ c.cross_2-j.ensures.first 0 (omega arith) ∙ c.cross_1-a.ensures.second 0 (omega arith)) i
    ∷ (c.cross_4-s.ensures.first 1 (omega arith) ∙ c.cross_2-j.ensures.first 1 (omega arith) ∙ c.cross_1-a.ensures.second 1 (omega arith)) i
    ∷ (c.cross_4-s.ensures.first 2 (omega arith) ∙ c.cross_2-j.ensures.first 2 (omega arith) ∙ c.cross_1-c.ensures.second 0 (omega arith)) i
    ∷ (c.cross_4-s.ensures.first 3 (omega arith) ∙ c.cross_2-j.ensures.first 3 (omega arith) ∙ c.cross_1-c.ensures.second 1 (omega arith)) i
    ∷ (c.cross_4-s.ensures.first 4 (omega arith) ∙ c.cross_2-n.ensures.first 0 (omega arith) ∙ c.cross_1-e.ensures.second 0 (omega arith)) i
    ∷ (c.cross_4-s.ensures.first 5 (omega arith) ∙ c.cross_2-n.ensures.first 1 (omega arith) ∙ c.cross_1-e.ensures.second 1 (omega arith)) i
    ∷ (c.cross_4-s.ensures.first 6 (omega arith) ∙ c.cross_2-n.ensures.first 2 (omega arith) ∙ c.cross_1-g.ensures.second 0 (omega arith)) i
    ∷ (c.cross_4-s.ensures.first 7 (omega arith) ∙ c.cross_2-n.ensures.first 3 (omega arith) ∙ c.cross_1-g.ensures.second 1 (omega arith)) i
    ∷ (c.cross_4-s.ensures.first 8 (omega arith) ∙ c.cross_2-j.ensures.first 8 (omega arith) ∙ c.cross_1-a.ensures.second 8 (omega arith)) i
    ∷ (c.cross_4-s.ensures.first 9 (omega arith) ∙ c.cross_2-j.ensures.first 9 (omega arith) ∙ c.cross_1-a.ensures.second 9 (omega arith)) i
    ∷ (c.cross_4-s.ensures.first 10 (omega arith) ∙ c.cross_2-j.ensures.first 10 (omega arith) ∙ c.cross_1-c.ensures.second 8 (omega arith)) i
    ∷ (c.cross_4-s.ensures.first 11 (omega arith) ∙ c.cross_2-j.ensures.first 11 (omega arith) ∙ c.cross_1-c.ensures.second 9 (omega arith)) i
    ∷ (c.cross_4-s.ensures.first 12 (omega arith) ∙ c.cross_2-n.ensures.first 8 (omega arith) ∙ c.cross_1-e.ensures.second 8 (omega arith)) i
    ∷ (c.cross_4-s.ensures.first 13 (omega arith) ∙ c.cross_2-n.ensures.first 9 (omega arith) ∙ c.cross_1-e.ensures.second 9 (omega arith)) i
    ∷ (c.cross_4-s.ensures.first 14 (omega arith) ∙ c.cross_2-n.ensures.first 10 (omega arith) ∙ c.cross_1-g.ensures.second 8 (omega arith)) i
    ∷ (c.cross_4-s.ensures.first 15 (omega arith) ∙ c.cross_2-n.ensures.first 11 (omega arith) ∙ c.cross_1-g.ensures.second 9 (omega arith)) i
    ∷ (c.cross_4-s.ensures.first 16 (omega arith) ∙ c.cross_2-j.ensures.first 16 (omega arith) ∙ c.cross_1-a.ensures.second 16 (omega arith)) i
    ∷ (c.cross_4-s.ensures.first 17 (omega arith) ∙ c.cross_2-j.ensures.first 17 (omega arith) ∙ c.cross_1-a.ensures.second 17 (omega arith)) i
    ∷ (c.cross_4-s.ensures.first 18 (omega arith) ∙ c.cross_2-j.ensures.first 18 (omega arith) ∙ c.cross_1-c.ensures.second 16 (omega arith)) i
    ∷ (c.cross_4-s.ensures.first 19 (omega arith) ∙ c.cross_2-j.ensures.first 19 (omega arith) ∙ c.cross_1-c.ensures.second 17 (omega arith)) i
    ∷ (c.cross_4-s.ensures.first 20 (omega arith) ∙ c.cross_2-n.ensures.first 16 (omega arith) ∙ c.cross_1-e.ensures.second 16 (omega arith)) i
    ∷ (c.cross_4-s.ensures.first 21 (omega arith) ∙ c.cross_2-n.ensures.first 17 (omega arith) ∙ c.cross_1-e.ensures.second 17 (omega arith)) i
    ∷ (c.cross_4-s.ensures.first 22 (omega arith) ∙ c.cross_2-n.ensures.first 18 (omega arith) ∙ c.cross_1-g.ensures.second 16 (omega arith)) i
    ∷ (c.cross_4-s.ensures.first 23 (omega arith) ∙ c.cross_2-n.ensures.first 19 (omega arith) ∙ c.cross_1-g.ensures.second 17 (omega arith)) i
    ∷ (c.cross_4-s.ensures.first 24 (omega arith) ∙ c.cross_2-j.ensures.first 24 (omega arith) ∙ c.cross_1-a.ensures.second 24 (omega arith)) i
    ∷ (c.cross_4-s.ensures.first 25 (omega arith) ∙ c.cross_2-j.ensures.first 25 (omega arith) ∙ c.cross_1-a.ensures.second 25 (omega arith)) i
    ∷ (c.cross_4-s.ensures.first 26 (omega arith) ∙ c.cross_2-j.ensures.first 26 (omega arith) ∙ c.cross_1-c.ensures.second 24 (omega arith)) i
    ∷ (c.cross_4-s.ensures.first 27 (omega arith) ∙ c.cross_2-j.ensures.first 27 (omega arith) ∙ c.cross_1-c.ensures.second 25 (omega arith)) i
    ∷ (c.cross_4-s.ensures.first 28 (omega arith) ∙ c.cross_2-n.ensures.first 24 (omega arith) ∙ c.cross_1-e.ensures.second 24 (omega arith)) i
    ∷ (c.cross_4-s.ensures.first 29 (omega arith) ∙ c.cross_2-n.ensures.first 25 (omega arith) ∙ c.cross_1-e.ensures.second 25 (omega arith)) i
    ∷ (c.cross_4-s.ensures.first 30 (omega arith) ∙ c.cross_2-n.ensures.first 26 (omega arith) ∙ c.cross_1-g.ensures.second 24 (omega arith)) i
    ∷ (c.cross_4-s.ensures.first 31 (omega arith) ∙ c.cross_2-n.ensures.first 27 (omega arith) ∙ c.cross_1-g.ensures.second 25 (omega arith)) i ∷ [])

pub returns-clause-w2 : goal.returns-clause-w2
returns-clause-w2 c =
    at_32 (λ (p : ℕ). bit_at c.cross_4-t.result.0 p) (λ (p : ℕ). bit_at (slice_index c.args.q (p % 8)) (8 * (p / 8) + 2))
    (λ i.
    (c.cross_4-t.ensures.first 0 (omega arith) ∙ c.cross_2-i.ensures.second 0 (omega arith) ∙ c.cross_1-a.ensures.first 2 (omega arith)) i
    ∷ (c.cross_4-t.ensures.first 1 (omega arith) ∙ c.cross_2-i.ensures.second 1 (omega arith) ∙ c.cross_1-a.ensures.first 3 (omega arith)) i
    ∷ (c.cross_4-t.ensures.first 2 (omega arith) ∙ c.cross_2-i.ensures.second 2 (omega arith) ∙ c.cross_1-c.ensures.first 2 (omega arith)) i
    ∷ (c.cross_4-t.ensures.first 3 (omega arith) ∙ c.cross_2-i.ensures.second 3 (omega arith) ∙ c.cross_1-c.ensures.first 3 (omega arith)) i
    ∷ (c.cross_4-t.ensures.first 4 (omega arith) ∙ c.cross_2-m.ensures.second 0 (omega arith) ∙ c.cross_1-e.ensures.first 2 (omega arith)) i
    ∷ (c.cross_4-t.ensures.first 5 (omega arith) ∙ c.cross_2-m.ensures.second 1 (omega arith) ∙ c.cross_1-e.ensures.first 3 (omega arith)) i
    ∷ (c.cross_4-t.ensures.first 6 (omega arith) ∙ c.cross_2-m.ensures.second 2 (omega arith) ∙ c.cross_1-g.ensures.first 2 (omega arith)) i
    ∷ (c.cross_4-t.ensures.first 7 (omega arith) ∙ c.cross_2-m.ensures.second 3 (omega arith) ∙ c.cross_1-g.ensures.first 3 (omega arith)) i
    ∷ (c.cross_4-t.ensures.first 8 (omega arith) ∙ c.cross_2-i.ensures.second 8 (omega arith) ∙ c.cross_1-a.ensures.first 10 (omega arith)) i
    ∷ (c.cross_4-t.ensures.first 9 (omega arith) ∙ c.cross_2-i.ensures.second 9 (omega arith) ∙ c.cross_1-a.ensures.first 11 (omega arith)) i
    ∷ (c.cross_4-t.ensures.first 10 (omega arith) ∙ c.cross_2-i.ensures.second 10 (omega arith) ∙ c.cross_1-c.ensures.first 10 (omega arith)) i
    ∷ (c.cross_4-t.ensures.first 11 (omega arith) ∙ c.cross_2-i.ensures.second 11 (omega arith) ∙ c.cross_1-c.ensures.first 11 (omega arith)) i
    ∷ (c.cross_4-t.ensures.first 12 (omega arith) ∙ c.cross_2-m.ensures.second 8 (omega arith) ∙ c.cross_1-e.ensures.first 10 (omega arith)) i
    ∷ (c.cross_4-t.ensures.first 13 (omega arith) ∙ c.cross_2-m.ensures.second 9 (omega arith) ∙ c.cross_1-e.ensures.first 11 (omega arith)) i
    ∷ (c.cross_4-t.ensures.first 14 (omega arith) ∙ c.cross_2-m.ensures.second 10 (omega arith) ∙ c.cross_1-g.ensures.first 10 (omega arith)) i
    ∷ (c.cross_4-t.ensures.first 15 (omega arith) ∙ c.cross_2-m.ensures.second 11 (omega arith) ∙ c.cross_1-g.ensures.first 11 (omega arith)) i
    ∷ (c.cross_4-t.ensures.first 16 (omega arith) ∙ c.cross_2-i.ensures.second 16 (omega arith) ∙ c.cross_1-a.ensures.first 18 (omega arith)) i
    ∷ (c.cross_4-t.ensures.first 17 (omega arith) ∙ c.cross_2-i.ensures.second 17 (omega arith) ∙ c.cross_1-a.ensures.first 19 (omega arith)) i
    ∷ (c.cross_4-t.ensures.first 18 (omega arith) ∙ c.cross_2-i.ensures.second 18 (omega arith) ∙ c.cross_1-c.ensures.first 18 (omega arith)) i
    ∷ (c.cross_4-t.ensures.first 19 (omega arith) ∙ c.cross_2-i.ensures.second 19 (omega arith) ∙ c.cross_1-c.ensures.first 19 (omega arith)) i
    ∷ (c.cross_4-t.ensures.first 20 (omega arith) ∙ c.cross_2-m.ensures.second 16 (omega arith) ∙ c.cross_1-e.ensures.first 18 (omega arith)) i
    ∷ (c.cross_4-t.ensures.first 21 (omega arith) ∙ c.cross_2-m.ensures.second 17 (omega arith) ∙ c.cross_1-e.ensures.first 19 (omega arith)) i
    ∷ (c.cross_4-t.ensures.first 22 (omega arith) ∙ c.cross_2-m.ensures.second 18 (omega arith) ∙ c.cross_1-g.ensures.first 18 (omega arith)) i
    ∷ (c.cross_4-t.ensures.first 23 (omega arith) ∙ c.cross_2-m.ensures.second 19 (omega arith) ∙ c.cross_1-g.ensures.first 19 (omega arith)) i
    ∷ (c.cross_4-t.ensures.first 24 (omega arith) ∙ c.cross_2-i.ensures.second 24 (omega arith) ∙ c.cross_1-a.ensures.first 26 (omega arith)) i
    ∷ (c.cross_4-t.ensures.first 25 (omega arith) ∙ c.cross_2-i.ensures.second 25 (omega arith) ∙ c.cross_1-a.ensures.first 27 (omega arith)) i
    ∷ (c.cross_4-t.ensures.first 26 (omega arith) ∙ c.cross_2-i.ensures.second 26 (omega arith) ∙ c.cross_1-c.ensures.first 26 (omega arith)) i
    ∷ (c.cross_4-t.ensures.first 27 (omega arith) ∙ c.cross_2-i.ensures.second 27 (omega arith) ∙ c.cross_1-c.ensures.first 27 (omega arith)) i
    ∷ (c.cross_4-t.ensures.first 28 (omega arith) ∙ c.cross_2-m.ensures.second 24 (omega arith) ∙ c.cross_1-e.ensures.first 26 (omega arith)) i
    ∷ (c.cross_4-t.ensures.first 29 (omega arith) ∙ c.cross_2-m.ensures.second 25 (omega arith) ∙ c.cross_1-e.ensures.first 27 (omega arith)) i
    ∷ (c.cross_4-t.ensures.first 30 (omega arith) ∙ c.cross_2-m.ensures.second 26 (omega arith) ∙ c.cross_1-g.ensures.first 26 (omega arith)) i
    ∷ (c.cross_4-t.ensures.first 31 (omega arith) ∙ c.cross_2-m.ensures.second 27 (omega arith) ∙ c.cross_1-g.ensures.first 27 (omega arith)) i ∷ [])

pub returns-clause-w3 : goal.returns-clause-w3
returns-clause-w3 c =
    at_32 (λ (p : ℕ). bit_at c.cross_4-u.result.0 p) (λ (p : ℕ). bit_at (slice_index c.args.q (p % 8)) (8 * (p / 8) + 3))
    (λ i.
    (c.cross_4-u.ensures.first 0 (omega arith) ∙ c.cross_2-j.ensures.second 0 (omega arith) ∙ c.cross_1-a.ensures.second 2 (omega arith)) i
    ∷ (c.cross_4-u.ensures.first 1 (omega arith) ∙ c.cross_2-j.ensures.second 1 (omega arith) ∙ c.cross_1-a.ensures.second 3 (omega arith)) i
    ∷ (c.cross_4-u.ensures.first 2 (omega arith) ∙ c.cross_2-j.ensures.second 2 (omega arith) ∙ c.cross_1-c.ensures.second 2 (omega arith)) i
    ∷ (c.cross_4-u.ensures.first 3 (omega arith) ∙ c.cross_2-j.ensures.second 3 (omega arith) ∙ c.cross_1-c.ensures.second 3 (omega arith)) i
    ∷ (c.cross_4-u.ensures.first 4 (omega arith) ∙ c.cross_2-n.ensures.second 0 (omega arith) ∙ c.cross_1-e.ensures.second 2 (omega arith)) i
    ∷ (c.cross_4-u.ensures.first 5 (omega arith) ∙ c.cross_2-n.ensures.second 1 (omega arith) ∙ c.cross_1-e.ensures.second 3 (omega arith)) i
    ∷ (c.cross_4-u.ensures.first 6 (omega arith) ∙ c.cross_2-n.ensures.second 2 (omega arith) ∙ c.cross_1-g.ensures.second 2 (omega arith)) i
    ∷ (c.cross_4-u.ensures.first 7 (omega arith) ∙ c.cross_2-n.ensures.second 3 (omega arith) ∙ c.cross_1-g.ensures.second 3 (omega arith)) i
    ∷ (c.cross_4-u.ensures.first 8 (omega arith) ∙ c.cross_2-j.ensures.second 8 (omega arith) ∙ c.cross_1-a.ensures.second 10 (omega arith)) i
    ∷ (c.cross_4-u.ensures.first 9 (omega arith) ∙ c.cross_2-j.ensures.second 9 (omega arith) ∙ c.cross_1-a.ensures.second 11 (omega arith)) i
    ∷ (c.cross_4-u.ensures.first 10 (omega arith) ∙ c.cross_2-j.ensures.second 10 (omega arith) ∙ c.cross_1-c.ensures.second 10 (omega arith)) i
    ∷ (c.cross_4-u.ensures.first 11 (omega arith) ∙ c.cross_2-j.ensures.second 11 (omega arith) ∙ c.cross_1-c.ensures.second 11 (omega arith)) i
    ∷ (c.cross_4-u.ensures.first 12 (omega arith) ∙ c.cross_2-n.ensures.second 8 (omega arith) ∙ c.cross_1-e.ensures.second 10 (omega arith)) i
    ∷ (c.cross_4-u.ensures.first 13 (omega arith) ∙ c.cross_2-n.ensures.second 9 (omega arith) ∙ c.cross_1-e.ensures.second 11 (omega arith)) i
    ∷ (c.cross_4-u.ensures.first 14 (omega arith) ∙ c.cross_2-n.ensures.second 10 (omega arith) ∙ c.cross_1-g.ensures.second 10 (omega arith)) i
    ∷ (c.cross_4-u.ensures.first 15 (omega arith) ∙ c.cross_2-n.ensures.second 11 (omega arith) ∙ c.cross_1-g.ensures.second 11 (omega arith)) i
    ∷ (c.cross_4-u.ensures.first 16 (omega arith) ∙ c.cross_2-j.ensures.second 16 (omega arith) ∙ c.cross_1-a.ensures.second 18 (omega arith)) i
    ∷ (c.cross_4-u.ensures.first 17 (omega arith) ∙ c.cross_2-j.ensures.second 17 (omega arith) ∙ c.cross_1-a.ensures.second 19 (omega arith)) i
    ∷ (c.cross_4-u.ensures.first 18 (omega arith) ∙ c.cross_2-j.ensures.second 18 (omega arith) ∙ c.cross_1-c.ensures.second 18 (omega arith)) i
    ∷ (c.cross_4-u.ensures.first 19 (omega arith) ∙ c.cross_2-j.ensures.second 19 (omega arith) ∙ c.cross_1-c.ensures.second 19 (omega arith)) i
    ∷ (c.cross_4-u.ensures.first 20 (omega arith) ∙ c.cross_2-n.ensures.second 16 (omega arith) ∙ c.cross_1-e.ensures.second 18 (omega arith)) i
    ∷ (c.cross_4-u.ensures.first 21 (omega arith) ∙ c.cross_2-n.ensures.second 17 (omega arith) ∙ c.cross_1-e.ensures.second 19 (omega arith)) i
    ∷ (c.cross_4-u.ensures.first 22 (omega arith) ∙ c.cross_2-n.ensures.second 18 (omega arith) ∙ c.cross_1-g.ensures.second 18 (omega arith)) i
    ∷ (c.cross_4-u.ensures.first 23 (omega arith) ∙ c.cross_2-n.ensures.second 19 (omega arith) ∙ c.cross_1-g.ensures.second 19 (omega arith)) i
    ∷ (c.cross_4-u.ensures.first 24 (omega arith) ∙ c.cross_2-j.ensures.second 24 (omega arith) ∙ c.cross_1-a.ensures.second 26 (omega arith)) i
    ∷ (c.cross_4-u.ensures.first 25 (omega arith) ∙ c.cross_2-j.ensures.second 25 (omega arith) ∙ c.cross_1-a.ensures.second 27 (omega arith)) i
    ∷ (c.cross_4-u.ensures.first 26 (omega arith) ∙ c.cross_2-j.ensures.second 26 (omega arith) ∙ c.cross_1-c.ensures.second 26 (omega arith)) i
    ∷ (c.cross_4-u.ensures.first 27 (omega arith) ∙ c.cross_2-j.ensures.second 27 (omega arith) ∙ c.cross_1-c.ensures.second 27 (omega arith)) i
    ∷ (c.cross_4-u.ensures.first 28 (omega arith) ∙ c.cross_2-n.ensures.second 24 (omega arith) ∙ c.cross_1-e.ensures.second 26 (omega arith)) i
    ∷ (c.cross_4-u.ensures.first 29 (omega arith) ∙ c.cross_2-n.ensures.second 25 (omega arith) ∙ c.cross_1-e.ensures.second 27 (omega arith)) i
    ∷ (c.cross_4-u.ensures.first 30 (omega arith) ∙ c.cross_2-n.ensures.second 26 (omega arith) ∙ c.cross_1-g.ensures.second 26 (omega arith)) i
    ∷ (c.cross_4-u.ensures.first 31 (omega arith) ∙ c.cross_2-n.ensures.second 27 (omega arith) ∙ c.cross_1-g.ensures.second 27 (omega arith)) i ∷ [])

pub returns-clause-w4 : goal.returns-clause-w4
returns-clause-w4 c =
    at_32 (λ (p : ℕ). bit_at c.cross_4-r.result.1 p) (λ (p : ℕ). bit_at (slice_index c.args.q (p % 8)) (8 * (p / 8) + 4))
    (λ i.
    (c.cross_4-r.ensures.second 0 (omega arith) ∙ c.cross_2-i.ensures.first 4 (omega arith) ∙ c.cross_1-a.ensures.first 4 (omega arith)) i
    ∷ (c.cross_4-r.ensures.second 1 (omega arith) ∙ c.cross_2-i.ensures.first 5 (omega arith) ∙ c.cross_1-a.ensures.first 5 (omega arith)) i
    ∷ (c.cross_4-r.ensures.second 2 (omega arith) ∙ c.cross_2-i.ensures.first 6 (omega arith) ∙ c.cross_1-c.ensures.first 4 (omega arith)) i
    ∷ (c.cross_4-r.ensures.second 3 (omega arith) ∙ c.cross_2-i.ensures.first 7 (omega arith) ∙ c.cross_1-c.ensures.first 5 (omega arith)) i
    ∷ (c.cross_4-r.ensures.second 4 (omega arith) ∙ c.cross_2-m.ensures.first 4 (omega arith) ∙ c.cross_1-e.ensures.first 4 (omega arith)) i
    ∷ (c.cross_4-r.ensures.second 5 (omega arith) ∙ c.cross_2-m.ensures.first 5 (omega arith) ∙ c.cross_1-e.ensures.first 5 (omega arith)) i
    ∷ (c.cross_4-r.ensures.second 6 (omega arith) ∙ c.cross_2-m.ensures.first 6 (omega arith) ∙ c.cross_1-g.ensures.first 4 (omega arith)) i
    ∷ (c.cross_4-r.ensures.second 7 (omega arith) ∙ c.cross_2-m.ensures.first 7 (omega arith) ∙ c.cross_1-g.ensures.first 5 (omega arith)) i
    ∷ (c.cross_4-r.ensures.second 8 (omega arith) ∙ c.cross_2-i.ensures.first 12 (omega arith) ∙ c.cross_1-a.ensures.first 12 (omega arith)) i
    ∷ (c.cross_4-r.ensures.second 9 (omega arith) ∙ c.cross_2-i.ensures.first 13 (omega arith) ∙ c.cross_1-a.ensures.first 13 (omega arith)) i
    ∷ (c.cross_4-r.ensures.second 10 (omega arith) ∙ c.cross_2-i.ensures.first 14 (omega arith) ∙ c.cross_1-c.ensures.first 12 (omega arith)) i
    ∷ (c.cross_4-r.ensures.second 11 (omega arith) ∙ c.cross_2-i.ensures.first 15 (omega arith) ∙ c.cross_1-c.ensures.first 13 (omega arith)) i
    ∷ (c.cross_4-r.ensures.second 12 (omega arith) ∙ c.cross_2-m.ensures.first 12 (omega arith) ∙ c.cross_1-e.ensures.first 12 (omega arith)) i
    ∷ (c.cross_4-r.ensures.second 13 (omega arith) ∙ c.cross_2-m.ensures.first 13 (omega arith) ∙ c.cross_1-e.ensures.first 13 (omega arith)) i
    ∷ (c.cross_4-r.ensures.second 14 (omega arith) ∙ c.cross_2-m.ensures.first 14 (omega arith) ∙ c.cross_1-g.ensures.first 12 (omega arith)) i
    ∷ (c.cross_4-r.ensures.second 15 (omega arith) ∙ c.cross_2-m.ensures.first 15 (omega arith) ∙ c.cross_1-g.ensures.first 13 (omega arith)) i
    ∷ (c.cross_4-r.ensures.second 16 (omega arith) ∙ c.cross_2-i.ensures.first 20 (omega arith) ∙ c.cross_1-a.ensures.first 20 (omega arith)) i
    ∷ (c.cross_4-r.ensures.second 17 (omega arith) ∙ c.cross_2-i.ensures.first 21 (omega arith) ∙ c.cross_1-a.ensures.first 21 (omega arith)) i
    ∷ (c.cross_4-r.ensures.second 18 (omega arith) ∙ c.cross_2-i.ensures.first 22 (omega arith) ∙ c.cross_1-c.ensures.first 20 (omega arith)) i
    ∷ (c.cross_4-r.ensures.second 19 (omega arith) ∙ c.cross_2-i.ensures.first 23 (omega arith) ∙ c.cross_1-c.ensures.first 21 (omega arith)) i
    ∷ (c.cross_4-r.ensures.second 20 (omega arith) ∙ c.cross_2-m.ensures.first 20 (omega arith) ∙ c.cross_1-e.ensures.first 20 (omega arith)) i
    ∷ (c.cross_4-r.ensures.second 21 (omega arith) ∙ c.cross_2-m.ensures.first 21 (omega arith) ∙ c.cross_1-e.ensures.first 21 (omega arith)) i
    ∷ (c.cross_4-r.ensures.second 22 (omega arith) ∙ c.cross_2-m.ensures.first 22 (omega arith) ∙ c.cross_1-g.ensures.first 20 (omega arith)) i
    ∷ (c.cross_4-r.ensures.second 23 (omega arith) ∙ c.cross_2-m.ensures.first 23 (omega arith) ∙ c.cross_1-g.ensures.first 21 (omega arith)) i
    ∷ (c.cross_4-r.ensures.second 24 (omega arith) ∙ c.cross_2-i.ensures.first 28 (omega arith) ∙ c.cross_1-a.ensures.first 28 (omega arith)) i
    ∷ (c.cross_4-r.ensures.second 25 (omega arith) ∙ c.cross_2-i.ensures.first 29 (omega arith) ∙ c.cross_1-a.ensures.first 29 (omega arith)) i
    ∷ (c.cross_4-r.ensures.second 26 (omega arith) ∙ c.cross_2-i.ensures.first 30 (omega arith) ∙ c.cross_1-c.ensures.first 28 (omega arith)) i
    ∷ (c.cross_4-r.ensures.second 27 (omega arith) ∙ c.cross_2-i.ensures.first 31 (omega arith) ∙ c.cross_1-c.ensures.first 29 (omega arith)) i
    ∷ (c.cross_4-r.ensures.second 28 (omega arith) ∙ c.cross_2-m.ensures.first 28 (omega arith) ∙ c.cross_1-e.ensures.first 28 (omega arith)) i
    ∷ (c.cross_4-r.ensures.second 29 (omega arith) ∙ c.cross_2-m.ensures.first 29 (omega arith) ∙ c.cross_1-e.ensures.first 29 (omega arith)) i
    ∷ (c.cross_4-r.ensures.second 30 (omega arith) ∙ c.cross_2-m.ensures.first 30 (omega arith) ∙ c.cross_1-g.ensures.first 28 (omega arith)) i
    ∷ (c.cross_4-r.ensures.second 31 (omega arith) ∙ c.cross_2-m.ensures.first 31 (omega arith) ∙ c.cross_1-g.ensures.first 29 (omega arith)) i ∷ [])

pub returns-clause-w5 : goal.returns-clause-w5
returns-clause-w5 c =
    at_32 (λ (p : ℕ). bit_at c.cross_4-s.result.1 p) (λ (p : ℕ). bit_at (slice_index c.args.q (p % 8)) (8 * (p / 8) + 5))
    (λ i.
    (c.cross_4-s.ensures.second 0 (omega arith) ∙ c.cross_2-j.ensures.first 4 (omega arith) ∙ c.cross_1-a.ensures.second 4 (omega arith)) i
    ∷ (c.cross_4-s.ensures.second 1 (omega arith) ∙ c.cross_2-j.ensures.first 5 (omega arith) ∙ c.cross_1-a.ensures.second 5 (omega arith)) i
    ∷ (c.cross_4-s.ensures.second 2 (omega arith) ∙ c.cross_2-j.ensures.first 6 (omega arith) ∙ c.cross_1-c.ensures.second 4 (omega arith)) i
    ∷ (c.cross_4-s.ensures.second 3 (omega arith) ∙ c.cross_2-j.ensures.first 7 (omega arith) ∙ c.cross_1-c.ensures.second 5 (omega arith)) i
    ∷ (c.cross_4-s.ensures.second 4 (omega arith) ∙ c.cross_2-n.ensures.first 4 (omega arith) ∙ c.cross_1-e.ensures.second 4 (omega arith)) i
    ∷ (c.cross_4-s.ensures.second 5 (omega arith) ∙ c.cross_2-n.ensures.first 5 (omega arith) ∙ c.cross_1-e.ensures.second 5 (omega arith)) i
    ∷ (c.cross_4-s.ensures.second 6 (omega arith) ∙ c.cross_2-n.ensures.first 6 (omega arith) ∙ c.cross_1-g.ensures.second 4 (omega arith)) i
    ∷ (c.cross_4-s.ensures.second 7 (omega arith) ∙ c.cross_2-n.ensures.first 7 (omega arith) ∙ c.cross_1-g.ensures.second 5 (omega arith)) i
    ∷ (c.cross_4-s.ensures.second 8 (omega arith) ∙ c.cross_2-j.ensures.first 12 (omega arith) ∙ c.cross_1-a.ensures.second 12 (omega arith)) i
    ∷ (c.cross_4-s.ensures.second 9 (omega arith) ∙ c.cross_2-j.ensures.first 13 (omega arith) ∙ c.cross_1-a.ensures.second 13 (omega arith)) i
    ∷ (c.cross_4-s.ensures.second 10 (omega arith) ∙ c.cross_2-j.ensures.first 14 (omega arith) ∙ c.cross_1-c.ensures.second 12 (omega arith)) i
    ∷ (c.cross_4-s.ensures.second 11 (omega arith) ∙ c.cross_2-j.ensures.first 15 (omega arith) ∙ c.cross_1-c.ensures.second 13 (omega arith)) i
    ∷ (c.cross_4-s.ensures.second 12 (omega arith) ∙ c.cross_2-n.ensures.first 12 (omega arith) ∙ c.cross_1-e.ensures.second 12 (omega arith)) i
    ∷ (c.cross_4-s.ensures.second 13 (omega arith) ∙ c.cross_2-n.ensures.first 13 (omega arith) ∙ c.cross_1-e.ensures.second 13 (omega arith)) i
    ∷ (c.cross_4-s.ensures.second 14 (omega arith) ∙ c.cross_2-n.ensures.first 14 (omega arith) ∙ c.cross_1-g.ensures.second 12 (omega arith)) i
    ∷ (c.cross_4-s.ensures.second 15 (omega arith) ∙ c.cross_2-n.ensures.first 15 (omega arith) ∙ c.cross_1-g.ensures.second 13 (omega arith)) i
    ∷ (c.cross_4-s.ensures.second 16 (omega arith) ∙ c.cross_2-j.ensures.first 20 (omega arith) ∙ c.cross_1-a.ensures.second 20 (omega arith)) i
    ∷ (c.cross_4-s.ensures.second 17 (omega arith) ∙ c.cross_2-j.ensures.first 21 (omega arith) ∙ c.cross_1-a.ensures.second 21 (omega arith)) i
    ∷ (c.cross_4-s.ensures.second 18 (omega arith) ∙ c.cross_2-j.ensures.first 22 (omega arith) ∙ c.cross_1-c.ensures.second 20 (omega arith)) i
    ∷ (c.cross_4-s.ensures.second 19 (omega arith) ∙ c.cross_2-j.ensures.first 23 (omega arith) ∙ c.cross_1-c.ensures.second 21 (omega arith)) i
    ∷ (c.cross_4-s.ensures.second 20 (omega arith) ∙ c.cross_2-n.ensures.first 20 (omega arith) ∙ c.cross_1-e.ensures.second 20 (omega arith)) i
    ∷ (c.cross_4-s.ensures.second 21 (omega arith) ∙ c.cross_2-n.ensures.first 21 (omega arith) ∙ c.cross_1-e.ensures.second 21 (omega arith)) i
    ∷ (c.cross_4-s.ensures.second 22 (omega arith) ∙ c.cross_2-n.ensures.first 22 (omega arith) ∙ c.cross_1-g.ensures.second 20 (omega arith)) i
    ∷ (c.cross_4-s.ensures.second 23 (omega arith) ∙ c.cross_2-n.ensures.first 23 (omega arith) ∙ c.cross_1-g.ensures.second 21 (omega arith)) i
    ∷ (c.cross_4-s.ensures.second 24 (omega arith) ∙ c.cross_2-j.ensures.first 28 (omega arith) ∙ c.cross_1-a.ensures.second 28 (omega arith)) i
    ∷ (c.cross_4-s.ensures.second 25 (omega arith) ∙ c.cross_2-j.ensures.first 29 (omega arith) ∙ c.cross_1-a.ensures.second 29 (omega arith)) i
    ∷ (c.cross_4-s.ensures.second 26 (omega arith) ∙ c.cross_2-j.ensures.first 30 (omega arith) ∙ c.cross_1-c.ensures.second 28 (omega arith)) i
    ∷ (c.cross_4-s.ensures.second 27 (omega arith) ∙ c.cross_2-j.ensures.first 31 (omega arith) ∙ c.cross_1-c.ensures.second 29 (omega arith)) i
    ∷ (c.cross_4-s.ensures.second 28 (omega arith) ∙ c.cross_2-n.ensures.first 28 (omega arith) ∙ c.cross_1-e.ensures.second 28 (omega arith)) i
    ∷ (c.cross_4-s.ensures.second 29 (omega arith) ∙ c.cross_2-n.ensures.first 29 (omega arith) ∙ c.cross_1-e.ensures.second 29 (omega arith)) i
    ∷ (c.cross_4-s.ensures.second 30 (omega arith) ∙ c.cross_2-n.ensures.first 30 (omega arith) ∙ c.cross_1-g.ensures.second 28 (omega arith)) i
    ∷ (c.cross_4-s.ensures.second 31 (omega arith) ∙ c.cross_2-n.ensures.first 31 (omega arith) ∙ c.cross_1-g.ensures.second 29 (omega arith)) i ∷ [])

pub returns-clause-w6 : goal.returns-clause-w6
returns-clause-w6 c =
    at_32 (λ (p : ℕ). bit_at c.cross_4-t.result.1 p) (λ (p : ℕ). bit_at (slice_index c.args.q (p % 8)) (8 * (p / 8) + 6))
    (λ i.
    (c.cross_4-t.ensures.second 0 (omega arith) ∙ c.cross_2-i.ensures.second 4 (omega arith) ∙ c.cross_1-a.ensures.first 6 (omega arith)) i
    ∷ (c.cross_4-t.ensures.second 1 (omega arith) ∙ c.cross_2-i.ensures.second 5 (omega arith) ∙ c.cross_1-a.ensures.first 7 (omega arith)) i
    ∷ (c.cross_4-t.ensures.second 2 (omega arith) ∙ c.cross_2-i.ensures.second 6 (omega arith) ∙ c.cross_1-c.ensures.first 6 (omega arith)) i
    ∷ (c.cross_4-t.ensures.second 3 (omega arith) ∙ c.cross_2-i.ensures.second 7 (omega arith) ∙ c.cross_1-c.ensures.first 7 (omega arith)) i
    ∷ (c.cross_4-t.ensures.second 4 (omega arith) ∙ c.cross_2-m.ensures.second 4 (omega arith) ∙ c.cross_1-e.ensures.first 6 (omega arith)) i
    ∷ (c.cross_4-t.ensures.second 5 (omega arith) ∙ c.cross_2-m.ensures.second 5 (omega arith) ∙ c.cross_1-e.ensures.first 7 (omega arith)) i
    ∷ (c.cross_4-t.ensures.second 6 (omega arith) ∙ c.cross_2-m.ensures.second 6 (omega arith) ∙ c.cross_1-g.ensures.first 6 (omega arith)) i
    ∷ (c.cross_4-t.ensures.second 7 (omega arith) ∙ c.cross_2-m.ensures.second 7 (omega arith) ∙ c.cross_1-g.ensures.first 7 (omega arith)) i
    ∷ (c.cross_4-t.ensures.second 8 (omega arith) ∙ c.cross_2-i.ensures.second 12 (omega arith) ∙ c.cross_1-a.ensures.first 14 (omega arith)) i
    ∷ (c.cross_4-t.ensures.second 9 (omega arith) ∙ c.cross_2-i.ensures.second 13 (omega arith) ∙ c.cross_1-a.ensures.first 15 (omega arith)) i
    ∷ (c.cross_4-t.ensures.second 10 (omega arith) ∙ c.cross_2-i.ensures.second 14 (omega arith) ∙ c.cross_1-c.ensures.first 14 (omega arith)) i
    ∷ (c.cross_4-t.ensures.second 11 (omega arith) ∙ c.cross_2-i.ensures.second 15 (omega arith) ∙ c.cross_1-c.ensures.first 15 (omega arith)) i
    ∷ (c.cross_4-t.ensures.second 12 (omega arith) ∙ c.cross_2-m.ensures.second 12 (omega arith) ∙ c.cross_1-e.ensures.first 14 (omega arith)) i
    ∷ (c.cross_4-t.ensures.second 13 (omega arith) ∙ c.cross_2-m.ensures.second 13 (omega arith) ∙ c.cross_1-e.ensures.first 15 (omega arith)) i
    ∷ (c.cross_4-t.ensures.second 14 (omega arith) ∙ c.cross_2-m.ensures.second 14 (omega arith) ∙ c.cross_1-g.ensures.first 14 (omega arith)) i
    ∷ (c.cross_4-t.ensures.second 15 (omega arith) ∙ c.cross_2-m.ensures.second 15 (omega arith) ∙ c.cross_1-g.ensures.first 15 (omega arith)) i
    ∷ (c.cross_4-t.ensures.second 16 (omega arith) ∙ c.cross_2-i.ensures.second 20 (omega arith) ∙ c.cross_1-a.ensures.first 22 (omega arith)) i
    ∷ (c.cross_4-t.ensures.second 17 (omega arith) ∙ c.cross_2-i.ensures.second 21 (omega arith) ∙ c.cross_1-a.ensures.first 23 (omega arith)) i
    ∷ (c.cross_4-t.ensures.second 18 (omega arith) ∙ c.cross_2-i.ensures.second 22 (omega arith) ∙ c.cross_1-c.ensures.first 22 (omega arith)) i
    ∷ (c.cross_4-t.ensures.second 19 (omega arith) ∙ c.cross_2-i.ensures.second 23 (omega arith) ∙ c.cross_1-c.ensures.first 23 (omega arith)) i
    ∷ (c.cross_4-t.ensures.second 20 (omega arith) ∙ c.cross_2-m.ensures.second 20 (omega arith) ∙ c.cross_1-e.ensures.first 22 (omega arith)) i
    ∷ (c.cross_4-t.ensures.second 21 (omega arith) ∙ c.cross_2-m.ensures.second 21 (omega arith) ∙ c.cross_1-e.ensures.first 23 (omega arith)) i
    ∷ (c.cross_4-t.ensures.second 22 (omega arith) ∙ c.cross_2-m.ensures.second 22 (omega arith) ∙ c.cross_1-g.ensures.first 22 (omega arith)) i
    ∷ (c.cross_4-t.ensures.second 23 (omega arith) ∙ c.cross_2-m.ensures.second 23 (omega arith) ∙ c.cross_1-g.ensures.first 23 (omega arith)) i
    ∷ (c.cross_4-t.ensures.second 24 (omega arith) ∙ c.cross_2-i.ensures.second 28 (omega arith) ∙ c.cross_1-a.ensures.first 30 (omega arith)) i
    ∷ (c.cross_4-t.ensures.second 25 (omega arith) ∙ c.cross_2-i.ensures.second 29 (omega arith) ∙ c.cross_1-a.ensures.first 31 (omega arith)) i
    ∷ (c.cross_4-t.ensures.second 26 (omega arith) ∙ c.cross_2-i.ensures.second 30 (omega arith) ∙ c.cross_1-c.ensures.first 30 (omega arith)) i
    ∷ (c.cross_4-t.ensures.second 27 (omega arith) ∙ c.cross_2-i.ensures.second 31 (omega arith) ∙ c.cross_1-c.ensures.first 31 (omega arith)) i
    ∷ (c.cross_4-t.ensures.second 28 (omega arith) ∙ c.cross_2-m.ensures.second 28 (omega arith) ∙ c.cross_1-e.ensures.first 30 (omega arith)) i
    ∷ (c.cross_4-t.ensures.second 29 (omega arith) ∙ c.cross_2-m.ensures.second 29 (omega arith) ∙ c.cross_1-e.ensures.first 31 (omega arith)) i
    ∷ (c.cross_4-t.ensures.second 30 (omega arith) ∙ c.cross_2-m.ensures.second 30 (omega arith) ∙ c.cross_1-g.ensures.first 30 (omega arith)) i
    ∷ (c.cross_4-t.ensures.second 31 (omega arith) ∙ c.cross_2-m.ensures.second 31 (omega arith) ∙ c.cross_1-g.ensures.first 31 (omega arith)) i ∷ [])

pub returns-clause-w7 : goal.returns-clause-w7
returns-clause-w7 c =
    at_32 (λ (p : ℕ). bit_at c.cross_4-u.result.1 p) (λ (p : ℕ). bit_at (slice_index c.args.q (p % 8)) (8 * (p / 8) + 7))
    (λ i.
    (c.cross_4-u.ensures.second 0 (omega arith) ∙ c.cross_2-j.ensures.second 4 (omega arith) ∙ c.cross_1-a.ensures.second 6 (omega arith)) i
    ∷ (c.cross_4-u.ensures.second 1 (omega arith) ∙ c.cross_2-j.ensures.second 5 (omega arith) ∙ c.cross_1-a.ensures.second 7 (omega arith)) i
    ∷ (c.cross_4-u.ensures.second 2 (omega arith) ∙ c.cross_2-j.ensures.second 6 (omega arith) ∙ c.cross_1-c.ensures.second 6 (omega arith)) i
    ∷ (c.cross_4-u.ensures.second 3 (omega arith) ∙ c.cross_2-j.ensures.second 7 (omega arith) ∙ c.cross_1-c.ensures.second 7 (omega arith)) i
    ∷ (c.cross_4-u.ensures.second 4 (omega arith) ∙ c.cross_2-n.ensures.second 4 (omega arith) ∙ c.cross_1-e.ensures.second 6 (omega arith)) i
    ∷ (c.cross_4-u.ensures.second 5 (omega arith) ∙ c.cross_2-n.ensures.second 5 (omega arith) ∙ c.cross_1-e.ensures.second 7 (omega arith)) i
    ∷ (c.cross_4-u.ensures.second 6 (omega arith) ∙ c.cross_2-n.ensures.second 6 (omega arith) ∙ c.cross_1-g.ensures.second 6 (omega arith)) i
    ∷ (c.cross_4-u.ensures.second 7 (omega arith) ∙ c.cross_2-n.ensures.second 7 (omega arith) ∙ c.cross_1-g.ensures.second 7 (omega arith)) i
    ∷ (c.cross_4-u.ensures.second 8 (omega arith) ∙ c.cross_2-j.ensures.second 12 (omega arith) ∙ c.cross_1-a.ensures.second 14 (omega arith)) i
    ∷ (c.cross_4-u.ensures.second 9 (omega arith) ∙ c.cross_2-j.ensures.second 13 (omega arith) ∙ c.cross_1-a.ensures.second 15 (omega arith)) i
    ∷ (c.cross_4-u.ensures.second 10 (omega arith) ∙ c.cross_2-j.ensures.second 14 (omega arith) ∙ c.cross_1-c.ensures.second 14 (omega arith)) i
    ∷ (c.cross_4-u.ensures.second 11 (omega arith) ∙ c.cross_2-j.ensures.second 15 (omega arith) ∙ c.cross_1-c.ensures.second 15 (omega arith)) i
    ∷ (c.cross_4-u.ensures.second 12 (omega arith) ∙ c.cross_2-n.ensures.second 12 (omega arith) ∙ c.cross_1-e.ensures.second 14 (omega arith)) i
    ∷ (c.cross_4-u.ensures.second 13 (omega arith) ∙ c.cross_2-n.ensures.second 13 (omega arith) ∙ c.cross_1-e.ensures.second 15 (omega arith)) i
    ∷ (c.cross_4-u.ensures.second 14 (omega arith) ∙ c.cross_2-n.ensures.second 14 (omega arith) ∙ c.cross_1-g.ensures.second 14 (omega arith)) i
    ∷ (c.cross_4-u.ensures.second 15 (omega arith) ∙ c.cross_2-n.ensures.second 15 (omega arith) ∙ c.cross_1-g.ensures.second 15 (omega arith)) i
    ∷ (c.cross_4-u.ensures.second 16 (omega arith) ∙ c.cross_2-j.ensures.second 20 (omega arith) ∙ c.cross_1-a.ensures.second 22 (omega arith)) i
    ∷ (c.cross_4-u.ensures.second 17 (omega arith) ∙ c.cross_2-j.ensures.second 21 (omega arith) ∙ c.cross_1-a.ensures.second 23 (omega arith)) i
    ∷ (c.cross_4-u.ensures.second 18 (omega arith) ∙ c.cross_2-j.ensures.second 22 (omega arith) ∙ c.cross_1-c.ensures.second 22 (omega arith)) i
    ∷ (c.cross_4-u.ensures.second 19 (omega arith) ∙ c.cross_2-j.ensures.second 23 (omega arith) ∙ c.cross_1-c.ensures.second 23 (omega arith)) i
    ∷ (c.cross_4-u.ensures.second 20 (omega arith) ∙ c.cross_2-n.ensures.second 20 (omega arith) ∙ c.cross_1-e.ensures.second 22 (omega arith)) i
    ∷ (c.cross_4-u.ensures.second 21 (omega arith) ∙ c.cross_2-n.ensures.second 21 (omega arith) ∙ c.cross_1-e.ensures.second 23 (omega arith)) i
    ∷ (c.cross_4-u.ensures.second 22 (omega arith) ∙ c.cross_2-n.ensures.second 22 (omega arith) ∙ c.cross_1-g.ensures.second 22 (omega arith)) i
    ∷ (c.cross_4-u.ensures.second 23 (omega arith) ∙ c.cross_2-n.ensures.second 23 (omega arith) ∙ c.cross_1-g.ensures.second 23 (omega arith)) i
    ∷ (c.cross_4-u.ensures.second 24 (omega arith) ∙ c.cross_2-j.ensures.second 28 (omega arith) ∙ c.cross_1-a.ensures.second 30 (omega arith)) i
    ∷ (c.cross_4-u.ensures.second 25 (omega arith) ∙ c.cross_2-j.ensures.second 29 (omega arith) ∙ c.cross_1-a.ensures.second 31 (omega arith)) i
    ∷ (c.cross_4-u.ensures.second 26 (omega arith) ∙ c.cross_2-j.ensures.second 30 (omega arith) ∙ c.cross_1-c.ensures.second 30 (omega arith)) i
    ∷ (c.cross_4-u.ensures.second 27 (omega arith) ∙ c.cross_2-j.ensures.second 31 (omega arith) ∙ c.cross_1-c.ensures.second 31 (omega arith)) i
    ∷ (c.cross_4-u.ensures.second 28 (omega arith) ∙ c.cross_2-n.ensures.second 28 (omega arith) ∙ c.cross_1-e.ensures.second 30 (omega arith)) i
    ∷ (c.cross_4-u.ensures.second 29 (omega arith) ∙ c.cross_2-n.ensures.second 29 (omega arith) ∙ c.cross_1-e.ensures.second 31 (omega arith)) i
    ∷ (c.cross_4-u.ensures.second 30 (omega arith) ∙ c.cross_2-n.ensures.second 30 (omega arith) ∙ c.cross_1-g.ensures.second 30 (omega arith)) i
    ∷ (c.cross_4-u.ensures.second 31 (omega arith) ∙ c.cross_2-n.ensures.second 31 (omega arith) ∙ c.cross_1-g.ensures.second 31 (omega arith)) i ∷ [])
