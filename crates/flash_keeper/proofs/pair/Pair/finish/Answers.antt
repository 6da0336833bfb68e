use Rattle.std.proofs.Common.{◌∙◌, ℕ, inl, sym, subst, ap, arith, ◌+◌, ◌-◌, ◌<◌}
use Rattle.flash_keeper.specs.Flash.{Bank}
use Rattle.flash_keeper.specs.Front.{HasFront}
use Rattle.flash_keeper.specs.Log.{IsLeft, place, room}
use Rattle.flash_keeper.specs.Banks.{AreHeld, AreAmong, AreWornBoth}
use Rattle.flash_keeper.specs.declared.front.Front.{Front}
use Rattle.flash_keeper.proofs.Outcomes.{on_err, one_ok, one_err, both_err, four_err, of_both, both_ok}
use Rattle.flash_keeper.proofs.LogLemmas.{one_of}
use Rattle.flash_keeper.proofs.BankLemmas.{store_left, dead_moved, numbered-same, held_beside_dead}
use Rattle.flash_keeper.specs.Wear.{AreWorn}
use Rattle.flash_keeper.proofs.WearLemmas.{worn_more, both_beside_dead, opened_is_worn, found_undone, found_next, then_keeps, then_counts}
use Rattle.flash_keeper.proofs.pair.Pair.finish.Goals as goal

pub returns-in_err-sure-clause-left : goal.returns-in_err-sure-clause-left
returns-in_err-sure-clause-left g c = on_err c.from_residual.result (λ choice n left.
    store_left c.args.self.now.front (g.B.FlashBank.bank c.settle_before.new.bank) (g.B.FlashBank.bank c.args.self.now.spare) n choice
    (numbered-same _ _ (c.settle_before.ensures.firm ∙ sym c.requires.number.firm) (c.settle_before.ensures.heads 1 (omega arith)) c.requires.number)
    (c.settle_before.ensures.heads 2 (omega arith) ∙ c.requires.mark)
    (c.in_err-sure.ensures.left n choice left (c.first_blank-at.ensures.found n choice left)) c.requires.spare)

pub overflow_sub-at : goal.overflow_sub-at
overflow_sub-at g c =
    let choice = c.requires.log.0 in
    let n = c.requires.log.1 in
    let left = c.requires.log.2 in
    let more = (c.in_ok-sure.ensures.torn c.if-not-sure.true n choice left (c.first_blank-at.ensures.found n choice left)).more in
    omega (arith, more)

pub rewrite-requires-clause-within : goal.rewrite-requires-clause-within
rewrite-requires-clause-within g c =
    let choice = c.requires.log.0 in
    let n = c.requires.log.1 in
    let left = c.requires.log.2 in
    let torn = c.in_ok-sure.ensures.torn c.if-not-sure.true n choice left (c.first_blank-at.ensures.found n choice left) in
    torn.within

pub rewrite-requires-clause-certain : goal.rewrite-requires-clause-certain
rewrite-requires-clause-certain g c =
    let choice = c.requires.log.0 in
    let n = c.requires.log.1 in
    let left = c.requires.log.2 in
    (c.in_ok-sure.ensures.torn c.if-not-sure.true n choice left (c.first_blank-at.ensures.found n choice left)).certain

pub returns-then-not-sure-clause-records : goal.returns-then-not-sure-clause-records
returns-then-not-sure-clause-records g c = one_ok c.rewrite.result (λ same choice n left.
    one_of same (c.in_ok-sure.ensures.torn c.if-not-sure.true n choice left (c.first_blank-at.ensures.found n choice left)).stands)
    c.rewrite.ensures.records

pub returns-then-not-sure-clause-left : goal.returns-then-not-sure-clause-left
returns-then-not-sure-clause-left g c = one_err c.rewrite.result (λ f choice n left.
    let short = c.in_ok-sure.ensures.torn c.if-not-sure.true n choice left (c.first_blank-at.ensures.found n choice left) in
    inl (_, n, f n choice short.left short.stands)) c.rewrite.ensures.left

pub returns-clause-records : goal.returns-clause-records
returns-clause-records g c = one_ok c.finish_at.result (λ f choice n left.
    (f choice (c.in_ok-sure.ensures.sure c.if-not-sure.false n choice left (c.first_blank-at.ensures.found n choice left))).1) c.finish_at.ensures.settled

pub returns-clause-ready : goal.returns-clause-ready
returns-clause-ready g c =
    let choice = c.requires.log.0 in
    let n = c.requires.log.1 in
    let left = c.requires.log.2 in
    let closable = c.in_ok-sure.ensures.sure c.if-not-sure.false n choice left (c.first_blank-at.ensures.found n choice left) in
    one_ok c.finish_at.result (λ f. record {
      sizes = c.finish_at.ensures.size ∙ c.settle_before.ensures.size ∙ c.requires.sizes ∙ ap (λ (b : Bank). b.size) (sym c.finish_at.ensures.spare);
      number = numbered-same _ _ (c.finish_at.ensures.firm ∙ sym c.requires.number.firm)
          (c.finish_at.ensures.heads 1 (omega arith) ∙ c.settle_before.ensures.heads 1 (omega arith)) c.requires.number;
      mark = c.finish_at.ensures.heads 2 (omega arith) ∙ c.settle_before.ensures.heads 2 (omega arith) ∙ c.requires.mark;
      log = (f choice closable).0;
      beside = dead_moved _ _ c.finish_at.ensures.spare c.requires.spare;
    }) c.finish_at.ensures.settled

pub returns-clause-left : goal.returns-clause-left
returns-clause-left g c = one_err c.finish_at.result (λ f choice n left.
    store_left c.finish_at.new.self.front _ _ _ choice
    (numbered-same _ _ (c.finish_at.ensures.firm ∙ sym c.requires.number.firm)
    (c.finish_at.ensures.heads 1 (omega arith) ∙ c.settle_before.ensures.heads 1 (omega arith)) c.requires.number)
    (c.finish_at.ensures.heads 2 (omega arith) ∙ c.settle_before.ensures.heads 2 (omega arith) ∙ c.requires.mark)
    (f choice (c.in_ok-sure.ensures.sure c.if-not-sure.false n choice left (c.first_blank-at.ensures.found n choice left)))
    (dead_moved _ _ c.finish_at.ensures.spare c.requires.spare))
    c.finish_at.ensures.left

pub returns-then-not-sure-clause-in_place : goal.returns-then-not-sure-clause-in_place
returns-then-not-sure-clause-in_place g c = λ choice n left decided. absurd (c.in_ok-sure.ensures.undecided c.if-not-sure.true n choice left
    (c.first_blank-at.ensures.found n choice left) decided)

pub returns-in_err-sure-clause-held : goal.returns-in_err-sure-clause-held
returns-in_err-sure-clause-held g c =
    let n = c.args.self.now.next in
    on_err c.from_residual.result (λ choice left.
    held_beside_dead c.args.self.now.front (g.B.FlashBank.bank c.settle_before.new.bank) (g.B.FlashBank.bank c.args.self.now.spare) n c.args.self.now.copied
    choice
    (c.settle_before.ensures.size ∙ c.requires.sizes)
    (numbered-same _ _ (c.settle_before.ensures.firm ∙ sym c.requires.number.firm) (c.settle_before.ensures.heads 1 (omega arith)) c.requires.number)
    (c.settle_before.ensures.heads 2 (omega arith) ∙ c.requires.mark)
    (c.in_err-sure.ensures.left n choice left (c.first_blank-at.ensures.found n choice left)) c.requires.spare c.requires.fresh)

pub returns-then-not-sure-clause-held : goal.returns-then-not-sure-clause-held
returns-then-not-sure-clause-held g c =
    let front = c.args.self.now.front in
    let n = c.args.self.now.next in
    let live = g.B.FlashBank.bank c.rewrite.new.self.live in
    let spare = g.B.FlashBank.bank c.rewrite.new.self.spare in
    let new = c.rewrite.new.self in
    four_err c.rewrite.result (λ front_is next left held choice was.
    let short = c.in_ok-sure.ensures.torn c.if-not-sure.true n choice was (c.first_blank-at.ensures.found n choice was) in
    let log = (left n choice short.left short.stands).log in
    subst (λ (f : Front). AreHeld f live spare new.next new.copied × AreAmong choice f live new.next) (sym front_is)
    (subst (λ (k : ℕ). AreHeld front live spare k new.copied × AreAmong choice front live k) (sym next)
    (held n choice short.left (inl short.same), (log.stands, log.stands_next))))
    c.rewrite.ensures.front c.rewrite.ensures.next c.rewrite.ensures.left c.rewrite.ensures.held

pub returns-clause-held : goal.returns-clause-held
returns-clause-held g c =
    let n = c.args.self.now.next in
    let live = g.B.FlashBank.bank c.finish_at.new.self.live in
    both_err c.finish_at.result (λ f next choice left.
    let closable = c.in_ok-sure.ensures.sure c.if-not-sure.false n choice left (c.first_blank-at.ensures.found n choice left) in
    held_beside_dead c.finish_at.new.self.front live (g.B.FlashBank.bank c.finish_at.new.self.spare) c.finish_at.new.self.next
    c.finish_at.new.self.copied choice
    (c.finish_at.ensures.size ∙ c.settle_before.ensures.size ∙ c.requires.sizes ∙ ap (λ (b : Bank). b.size) (sym c.finish_at.ensures.spare))
    (numbered-same _ _ (c.finish_at.ensures.firm ∙ sym c.requires.number.firm)
    (c.finish_at.ensures.heads 1 (omega arith) ∙ c.settle_before.ensures.heads 1 (omega arith)) c.requires.number)
    (c.finish_at.ensures.heads 2 (omega arith) ∙ c.settle_before.ensures.heads 2 (omega arith) ∙ c.requires.mark)
    (subst (λ (k : ℕ). IsLeft c.finish_at.new.self.front live k choice) (sym next) (f choice closable))
    (dead_moved _ _ c.finish_at.ensures.spare c.requires.spare) (c.finish_at.ensures.copied ∙ c.requires.fresh))
    c.finish_at.ensures.left c.finish_at.ensures.next

pub first_blank-at-requires : goal.first_blank-at-requires
first_blank-at-requires g c = record { firm = c.requires.log.2.firm; fits = c.requires.log.2.has_front.within }

pub rewrite-requires-clause-front : goal.rewrite-requires-clause-front
rewrite-requires-clause-front g c =
    let choice = c.requires.log.0 in
    let n = c.requires.log.1 in
    let left = c.requires.log.2 in
    (c.in_ok-sure.ensures.torn c.if-not-sure.true n choice left (c.first_blank-at.ensures.found n choice left)).left.has_front

pub returns-then-not-sure-clause-worn : goal.returns-then-not-sure-clause-worn
returns-then-not-sure-clause-worn g c = one_ok c.rewrite.result (λ worn f fits is.
    worn f (subst (λ (b : Bank). AreWorn c.args.self.now.front f b (g.B.FlashBank.bank c.args.self.now.spare))
    (sym (c.in_ok-sure.ensures.same c.if-not-sure.true)) is))
    c.rewrite.ensures.worn

pub returns-then-not-sure-clause-once : goal.returns-then-not-sure-clause-once
returns-then-not-sure-clause-once g c = λ f is.
    let was = subst (λ (b : Bank). AreWorn c.args.self.now.front f b (g.B.FlashBank.bank c.args.self.now.spare))
    (sym (c.in_ok-sure.ensures.same c.if-not-sure.true)) is in
    of_both c.rewrite.result
    (both_ok c.rewrite.result (λ worn ready. both_beside_dead c.rewrite.new.self.front f (g.B.FlashBank.bank c.rewrite.new.self.live)
    (g.B.FlashBank.bank c.rewrite.new.self.spare)
    ready.beside (worn f was)) c.rewrite.ensures.worn c.rewrite.ensures.ready)
    (one_err c.rewrite.result (λ cut. cut f was) c.rewrite.ensures.cut)

pub returns-in_err-sure-clause-once : goal.returns-in_err-sure-clause-once
returns-in_err-sure-clause-once g c = λ f is. (
  worn_more c.args.self.now.front f (g.B.FlashBank.bank c.args.self.now.live) (g.B.FlashBank.bank c.settle_before.new.bank)
      (g.B.FlashBank.bank c.args.self.now.spare) c.settle_before.ensures.keeps c.settle_before.ensures.counts.once is,
  inl c.requires.spare,
)

pub returns-clause-worn : goal.returns-clause-worn
returns-clause-worn g c =
    let front = c.args.self.now.front in
    let old = g.B.FlashBank.bank c.args.self.now.live in
    let mid = g.B.FlashBank.bank c.settle_before.new.bank in
    let new = g.B.FlashBank.bank c.finish_at.new.self.live in
    let spare = g.B.FlashBank.bank c.args.self.now.spare in
    let at = c.first_blank-at.result in
    let choice = c.requires.log.0 in
    let n = c.requires.log.1 in
    let left = c.requires.log.2 in
    let found = c.first_blank-at.ensures.found n choice left in
    let one = ap (room front) c.settle_before.ensures.size in
    let two = ap (room front) c.finish_at.ensures.size in
    both_ok c.finish_at.result (λ done first f fits is.
    let fits' : c.finish_at.new.self.next < room front new.size =
    subst (λ (h : Front). c.finish_at.new.self.next < room h new.size) c.finish_at.ensures.front fits in
    let less : at < room front old.size = omega (arith, fits', first, one, two) in
    subst (λ (h : Front). AreWorn h f new (g.B.FlashBank.bank c.finish_at.new.self.spare)) (sym c.finish_at.ensures.front)
    (subst (λ (b : Bank). AreWorn front f new b) (sym c.finish_at.ensures.spare)
    (opened_is_worn front f at old mid new spare c.settle_before.ensures.keeps c.finish_at.ensures.keeps c.settle_before.ensures.counts
    c.finish_at.ensures.counts less (found_undone front old n at choice left found less (c.first_blank-at.ensures.unclosed less))
    (found_next front old n at choice left found) (done (omega (arith, less, one))) is))) c.finish_at.ensures.done c.finish_at.ensures.at

pub returns-clause-once : goal.returns-clause-once
returns-clause-once g c = λ f is.
    let front = c.args.self.now.front in
    let old = g.B.FlashBank.bank c.args.self.now.live in
    let mid = g.B.FlashBank.bank c.settle_before.new.bank in
    let new = g.B.FlashBank.bank c.finish_at.new.self.live in
    let at = c.first_blank-at.result in
    subst (λ (h : Front). AreWornBoth h (f + 1) new (g.B.FlashBank.bank c.finish_at.new.self.spare)) (sym c.finish_at.ensures.front)
    (subst (λ (b : Bank). AreWornBoth front (f + 1) new b) (sym c.finish_at.ensures.spare) (
      worn_more front f old new (g.B.FlashBank.bank c.args.self.now.spare)
          (then_keeps front old mid new c.settle_before.ensures.keeps c.finish_at.ensures.keeps)
          (then_counts old mid new (place front (at - 1)) (place front at) (place front at + 12) (omega arith) (omega arith) c.settle_before.ensures.counts
          c.finish_at.ensures.counts).once is,
      inl c.requires.spare,
    ))

pub returns-in_err-sure-clause-front : goal.returns-in_err-sure-clause-front
returns-in_err-sure-clause-front g c =
    let choice = c.requires.log.0 in
    let n = c.requires.log.1 in
    let left = c.requires.log.2 in
    (c.in_err-sure.ensures.left n choice left (c.first_blank-at.ensures.found n choice left)).has_front

pub returns-then-not-sure-clause-front : goal.returns-then-not-sure-clause-front
returns-then-not-sure-clause-front g c =
    let choice = c.requires.log.0 in
    let n = c.requires.log.1 in
    let left = c.requires.log.2 in
    let live = g.B.FlashBank.bank c.rewrite.new.self.live in
    let short = c.in_ok-sure.ensures.torn c.if-not-sure.true n choice left (c.first_blank-at.ensures.found n choice left) in
    of_both c.rewrite.result (one_ok c.rewrite.result (λ ready. ready.log.has_front) c.rewrite.ensures.ready)
    (both_err c.rewrite.result (λ front_is is. subst (λ (h : Front). HasFront live h) (sym front_is) (is n choice short.left short.stands).log.has_front)
    c.rewrite.ensures.front c.rewrite.ensures.left)

pub returns-clause-front : goal.returns-clause-front
returns-clause-front g c =
    let choice = c.requires.log.0 in
    let n = c.requires.log.1 in
    let left = c.requires.log.2 in
    let closable = c.in_ok-sure.ensures.sure c.if-not-sure.false n choice left (c.first_blank-at.ensures.found n choice left) in
    of_both c.finish_at.result (one_ok c.finish_at.result (λ f. (f choice closable).0.has_front) c.finish_at.ensures.settled)
    (one_err c.finish_at.result (λ f. (f choice closable).has_front) c.finish_at.ensures.left)
