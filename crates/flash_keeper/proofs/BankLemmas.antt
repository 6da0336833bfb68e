-- Two banks: what is left of them after each step.
use Rattle.std.proofs.Common.{◌≡◌, ◌⊎◌, inl, inr, ℕ, ◌+◌, ◌-◌, ◌<◌, ◌≤◌, Bool, true, false, Option, Some, None, refl}
use Rattle.std.proofs.Common.{sym, subst, ap, ◌∙◌, arith}
use Rattle.plc_base.specs.Keeper.{Records}
use Rattle.flash_keeper.specs.Flash.{Bank, IsBlank, Programs, erased}
use Rattle.flash_keeper.specs.Front.{HasFront}
use Rattle.flash_keeper.specs.Log.{place, mark, close, fence, room, upto, upto_fence, IsCertain, IsSettled, IsLeft, IsFoundBlank, IsClosable, IsShort, Choice}
use Rattle.flash_keeper.specs.Log.{IsOneOf, SameOutside, IsOpen, IsBlankFrom, IsDecided, AreDecided}
use Rattle.flash_keeper.specs.Banks.{IsHeaded, IsDead, IsNumbered, IsStanding, IsBeside, AreLeft, IsStore, AreReady, IsSeen, choice_of}
use Rattle.flash_keeper.specs.Banks.{IsDecayed, MayOpen, IsCause, IsCopy, AreHeld, AreAmong}
use Rattle.flash_keeper.specs.declared.front.Front.{Front}
use Rattle.flash_keeper.specs.declared.keeper.OpenFault.{OpenFault}
use Rattle.flash_keeper.proofs.RecordLemmas.{whole-same}
use Rattle.flash_keeper.proofs.FrontLemmas.{front-same, some_is_none, some_same}
use Rattle.flash_keeper.proofs.CellLemmas.{upto-same, upto_fence-same, all_certain-same}
use Rattle.flash_keeper.proofs.LogLemmas.{one_of, settled_is_left, uncounted_cell}

-- a head stays where its words do
pub headed-same : (old new : Bank) (g : ℕ) → new.torn ≡ old.torn → new.words 0 ≡ old.words 0 → new.words 1 ≡ old.words 1 → IsHeaded old g → IsHeaded new g
headed-same old new g torn head_at first h = record { firm = torn ∙ h.firm; head = head_at ∙ h.head; number = first ∙ h.number }

-- a generation stays where its word does
pub numbered-same : (old new : Bank) → new.torn ≡ old.torn → new.words 1 ≡ old.words 1 → IsNumbered old → IsNumbered new
numbered-same old new torn same n = record { firm = torn ∙ n.firm; generation = n.generation; number = same ∙ n.number; more = n.more }

pub numbered_of_head : (bank : Bank) (g : ℕ) → 0 < g → IsHeaded bank g → IsNumbered bank
numbered_of_head bank g more h = record { firm = h.firm; generation = g; number = h.number; more = more }

-- a log stays where the words of its cells do
pub settled-same : (f : Front) (old new : Bank) (n : ℕ) → new.torn ≡ old.torn → new.size ≡ old.size → ((i : ℕ) → 3 ≤ i → new.words i ≡ old.words i)
    → IsSettled f old n
    → IsSettled f new n
settled-same f old new n torn size same s = record {
  firm = torn ∙ s.firm;
  has_front = front-same f old new size (λ i three le. same i three) s.has_front;
  certain = all_certain-same f old.words new.words n (λ i three le. same i three) s.certain;
  blank = λ i le. same i (omega (arith, le)) ∙ s.blank i le;
  within = subst (λ (z : ℕ). n ≤ room f z) (sym size) s.within;
}

pub records-same : (f : Front) (old new : Bank) (n : ℕ) → HasFront old f → ((i : ℕ) → 3 ≤ i → new.words i ≡ old.words i)
    → upto f new.words n ≡ upto f old.words n
records-same f old new n h same = upto-same f old.words new.words n h.records (λ i three le. same i three)

-- so does what is left of a log
pub left-same : (f : Front) (old new : Bank) (n : ℕ) (c : Choice) → new.torn ≡ old.torn → new.size ≡ old.size → ((i : ℕ) → 3 ≤ i → new.words i ≡ old.words i)
    → IsLeft f old n c → IsLeft f new n c
left-same f old new n c torn size same l = record {
  firm = torn ∙ l.firm;
  has_front = front-same f old new size (λ i three le. same i three) l.has_front;
  certain = all_certain-same f old.words new.words n (λ i three le. same i three) l.certain;
  last = opened l.last;
  blank = λ i le. same i (omega (arith, le)) ∙ l.blank i le;
  within = subst (λ (z : ℕ). (n < room f z) ⊎ ((n ≡ room f z) × IsBlankFrom new.words (place f n))) (sym size) (still l.within);
  stands = one_of (records-same f old new n l.has_front same) l.stands;
  stands_next = one_of (upto_fence-same f old.words new.words n l.has_front.records (λ i three le. same i three) (λ i a b. same i (omega (arith, a)))
      (same (fence f n) (omega
      arith))) l.stands_next;
}
  where
    opened : IsOpen f old.words n → IsOpen f new.words n
    opened (inl (e, m)) = inl (same (fence f n) (omega arith) ∙ e, same (mark f n) (omega arith) ∙ m)
    opened (inr (whole, inl e)) =
        inr (whole-same old.words new.words (place f n) 8 (λ i a b. same i (omega (arith, a))) whole, inl (same (mark f n) (omega arith) ∙ e))
    opened (inr (whole, inr e)) =
        inr (whole-same old.words new.words (place f n) 8 (λ i a b. same i (omega (arith, a))) whole, inr (same (fence f n) (omega arith) ∙ e))

    still : (n < room f old.size) ⊎ ((n ≡ room f old.size) × IsBlankFrom old.words (place f n))
        → (n < room f old.size) ⊎ ((n ≡ room f old.size) × IsBlankFrom new.words (place f n))
    still (inl less) = inl less
    still (inr (e, blank)) = inr (e, λ i le. same i (omega (arith, le)) ∙ blank i le)

-- which mark is programmed last does not change the log
pub after_head : (at word : ℕ) (ok : Bool) (old new : Bank) → at < 3 → Programs at word ok old new → (i : ℕ) → 3 ≤ i → new.words i ≡ old.words i
after_head at word ok old new less p i three = p.others i (λ e. omega (arith, less, three, e))

-- of two banks the one that was read as a live one stands for the records
pub choose : (a b : Bank) (c : Choice) (g : ℕ) (seen : Option ℕ) → IsSeen a seen → seen ≡ Some g → IsStore a b c
    → (f : Front) × (n : ℕ) × AreLeft f a b n c
choose a b c g seen sees is (inl left) = left
choose a b c g seen sees is (inr (f, n, left)) = elim left.beside [
  | inl dead ↦ absurd (some_is_none (sym is ∙ sees.dead dead.0))
  | inr standing ↦ (standing.1, standing.2, record { number = standing.0; log = standing.3; beside = inr (left.number, f, n, left.log) })
]

pub choose_second : (a b : Bank) (c : Choice) (g : ℕ) (seen : Option ℕ) → IsSeen b seen → seen ≡ Some g → IsStore a b c
    → (f : Front) × (n : ℕ) × AreLeft f b a n c
choose_second a b c g seen sees is store = choose b a c g seen sees is (swapped store)
  where
    swapped : IsStore a b c → IsStore b a c
    swapped (inl l) = inr l
    swapped (inr l) = inl l

-- of two banks that an opening may be given, of which the first one read as live: they are left so, or it has decayed
pub chosen : (a b : Bank) (g : ℕ) (seen : Option ℕ) → IsSeen a seen → seen ≡ Some g → MayOpen a b
    → ((c : Choice) × (f : Front) × (n : ℕ) × AreLeft f a b n c) ⊎ IsDecayed a b
chosen a b g seen sees is (inl (c, store)) = let left = choose a b c g seen sees is store in inl (c, left.0, left.1, left.2)
chosen a b g seen sees is (inr (inl decayed)) = inr decayed
chosen a b g seen sees is (inr (inr decayed)) = absurd (some_is_none (sym is ∙ sees.dead decayed.spare_is))

pub chosen_second : (a b : Bank) (g : ℕ) (seen : Option ℕ) → IsSeen b seen → seen ≡ Some g → MayOpen a b
    → ((c : Choice) × (f : Front) × (n : ℕ) × AreLeft f b a n c) ⊎ IsDecayed b a
chosen_second a b g seen sees is (inl (c, store)) = let left = choose_second a b c g seen sees is store in inl (c, left.0, left.1, left.2)
chosen_second a b g seen sees is (inr (inl decayed)) = absurd (some_is_none (sym is ∙ sees.dead decayed.spare_is))
chosen_second a b g seen sees is (inr (inr decayed)) = inr decayed

-- which of them has decayed
pub decayed_is : (a b : Bank) (g : ℕ) (seen : Option ℕ) → IsSeen a seen → seen ≡ Some g → IsDecayed a b ⊎ IsDecayed b a → IsDecayed a b
decayed_is a b g seen sees is (inl decayed) = decayed
decayed_is a b g seen sees is (inr decayed) = absurd (some_is_none (sym is ∙ sees.dead decayed.spare_is))

swapped_decay : (a b : Bank) → IsDecayed a b ⊎ IsDecayed b a → IsDecayed b a ⊎ IsDecayed a b
swapped_decay a b (inl decayed) = inr decayed
swapped_decay a b (inr decayed) = inl decayed

pub decayed_second : (a b : Bank) (g : ℕ) (seen : Option ℕ) → IsSeen b seen → seen ≡ Some g → IsDecayed a b ⊎ IsDecayed b a → IsDecayed b a
decayed_second a b g seen sees is decayed = decayed_is b a g seen sees is (swapped_decay a b decayed)

-- one of them reads as live
pub decayed_is_seen : (a b : Bank) (one two : Option ℕ) → IsSeen a one → IsSeen b two → one ≡ None → two ≡ None → IsDecayed a b ⊎ IsDecayed b a → ⊥
decayed_is_seen a b one two sees_a sees_b is_a is_b (inl d) = some_is_none (sym (sees_a.live d.generation d.live_is) ∙ is_a)
decayed_is_seen a b one two sees_a sees_b is_a is_b (inr d) = some_is_none (sym (sees_b.live d.generation d.live_is) ∙ is_b)

-- why the banks were not opened
pub cause_of : (e : OpenFault) (a b : Bank) → a.size ≡ b.size → (e ≡ OpenFault.Flash) ⊎ ((e ≡ OpenFault.Decayed) × ((c : Choice) → IsStore a b c → ⊥))
    → IsCause e a b
cause_of e a b sizes (inl is) = subst (λ (x : OpenFault). IsCause x a b) (sym is) sizes
cause_of e a b sizes (inr (is, never)) = subst (λ (x : OpenFault). IsCause x a b) (sym is) (sizes, never)

-- banks of which nothing is open
pub ready_is_left : (f : Front) (live spare : Bank) (n : ℕ) (c : Choice) → AreReady f live spare n → IsOneOf c (upto f live.words n) → AreLeft f live spare n c
ready_is_left f live spare n c r one = record {
  number = r.number;
  log = settled_is_left f live n c r.log one;
  beside = inl (r.beside, inr r.mark);
}

-- and where the spare one is erased, or that was cut short
pub wiped_is_ready : (f : Front) (live old new : Bank) (n : ℕ) → AreReady f live old n → IsBlank new → new.size ≡ old.size → AreReady f live new n
wiped_is_ready f live old new n r b size =
    record { sizes = r.sizes ∙ sym size; number = r.number; mark = r.mark; log = r.log; beside = inr (b.firm, b.blank 2) }

pub wiped_is_left : (f : Front) (live old new : Bank) (n : ℕ) (c : Choice) → AreReady f live old n → IsDead new → IsOneOf c (upto f live.words n)
    → AreLeft f live new n c
wiped_is_left f live old new n c r dead one = record { number = r.number; log = settled_is_left f live n c r.log one; beside = inl (dead, inr r.mark) }

-- a program of the first word or of the mark of a bank that is dead or stands for records leaves it so
pub word_of_left : (f : Front) (old new : Bank) (at n : ℕ) (c : Choice) (ok : Bool) → at < 3 → Programs at 0 ok old new → IsLeft f old n c → IsLeft f new n c
word_of_left f old new at n c ok less p left = left-same f old new n c p.torn p.size (after_head at 0 ok old new less p) left

pub still_dead : (old new : Bank) (ok : Bool) → Programs 0 0 ok old new → IsDead old → IsDead new
still_dead old new ok p (inl zero) = inl (p.kept zero)
still_dead old new ok p (inr (firm, unmarked)) = inr (p.torn ∙ firm, p.others 2 (λ e. omega (arith, e)) ∙ unmarked)

-- a bank that is retired stays beside the live one
pub retired_beside : (live old new : Bank) (c : Choice) (ok : Bool) → Programs 0 0 ok old new → IsBeside live old c → IsBeside live new c
retired_beside live old new c ok p (inl (dead, inl number)) =
    inl (still_dead old new ok p dead, inl (numbered-same old new p.torn (p.others 1 (λ e. omega (arith, e))) number))
retired_beside live old new c ok p (inl (dead, inr marked)) = inl (still_dead old new ok p dead, inr marked)
retired_beside live old new c ok p (inr (number, f, n, left)) =
    inr (numbered-same old new p.torn (p.others 1 (λ e. omega (arith, e))) number, f, n, word_of_left f old new 0 n c ok (omega arith) p left)

-- so does one beside a bank whose mark is confirmed
pub confirmed_beside : (old new spare : Bank) (c : Choice) (ok : Bool) → Programs 2 0 ok old new → IsBeside old spare c → IsBeside new spare c
confirmed_beside old new spare c ok p (inl (dead, inl number)) = inl (dead, inl number)
confirmed_beside old new spare c ok p (inl (dead, inr marked)) = inl (dead, inr (p.kept marked))
confirmed_beside old new spare c ok p (inr standing) = inr standing

-- a bank that is left so stays so when its mark is confirmed, and when the other one is retired
pub confirmed_left : (f : Front) (old new spare : Bank) (n : ℕ) (c : Choice) (ok : Bool) → Programs 2 0 ok old new → AreLeft f old spare n c
    → AreLeft f new spare n c
confirmed_left f old new spare n c ok p l = record {
  number = numbered-same old new p.torn (p.others 1 (λ e. omega (arith, e))) l.number;
  log = word_of_left f old new 2 n c ok (omega arith) p l.log;
  beside = confirmed_beside old new spare c ok p l.beside;
}

pub retired_left : (f : Front) (live old new : Bank) (n : ℕ) (c : Choice) (ok : Bool) → Programs 0 0 ok old new → AreLeft f live old n c
    → AreLeft f live new n c
retired_left f live old new n c ok p l = record { number = l.number; log = l.log; beside = retired_beside live old new c ok p l.beside }

-- and when that is noted
pub noted_left : (f : Front) (live old new : Bank) (n : ℕ) (c : Choice) (ok : Bool) → Programs 1 0 ok old new → old.words 0 ≡ Some 0 → live.words 2 ≡ Some 0
    → AreLeft f live old n c → AreLeft f live new n c
noted_left f live old new n c ok p zero marked l = record {
  number = l.number;
  log = l.log;
  beside = inl (inl (p.others 0 (λ e. omega (arith, e)) ∙ zero), inr marked);
}

-- the mark of a copy is programmed, or cut short
pub marked_log : (f : Front) (b0 b1 : Bank) (g n : ℕ) (ok : Bool) → IsHeaded b0 g → IsSettled f b0 n → Programs 2 0 ok b0 b1
    → IsHeaded b1 g × IsSettled f b1 n × (upto f b1.words n ≡ upto f b0.words n)
marked_log f b0 b1 g n ok head log p =
    let words = after_head 2 0 ok b0 b1 (omega arith) p in (
      headed-same b0 b1 g p.torn (p.others 0 (λ x. omega (arith, x))) (p.others 1 (λ x. omega (arith, x))) head,
      settled-same f b0 b1 n p.torn p.size words log,
      records-same f b0 b1 n log.has_front words,
    )

-- then the copy stands for the records, whether the mark is there or not
pub copy_stands : (f : Front) (b0 b1 : Bank) (g n : ℕ) (ok : Bool) (c : Choice) (r : Records) → 0 < g → IsHeaded b0 g → IsSettled f b0 n → upto f b0.words n ≡ r
    → Programs 2 0 ok b0 b1 → IsOneOf c r → IsStanding b1 c
copy_stands f b0 b1 g n ok c r more head log records p one =
    let all = marked_log f b0 b1 g n ok head log p in
    (numbered_of_head b1 g more all.0, f, n, settled_is_left f b1 n c all.1 (one_of (all.2 ∙ records) one))

-- a copy whose mark is done is ready, beside the bank that was copied and retired
pub copy_is_ready : (f : Front) (old retired b0 b1 : Bank) (g n : ℕ) → 0 < g → IsHeaded b0 g → IsSettled f b0 n → Programs 2 0 true b0 b1
    → Programs 0 0 true old retired
    → b0.size ≡ old.size → AreReady f b1 retired n
copy_is_ready f old retired b0 b1 g n more head log p q size =
    let all = marked_log f b0 b1 g n true head log p in
    record {
      sizes = p.size ∙ size ∙ sym q.size;
      number = numbered_of_head b1 g more all.0;
      mark = p.done refl;
      log = all.1;
      beside = inl (q.done refl);
    }

pub front_of_cells : (f : Front) (old new : Bank) (n : ℕ) → HasFront old f → SameOutside (place f n) (place f n + 12) old new
    → upto f new.words n ≡ upto f old.words n
front_of_cells f old new n h same = upto-same f old.words new.words n h.records (λ i three le. same i (inl le))

-- a log whose choice is what it stands for
pub own_left : (f : Front) (bank : Bank) (n : ℕ) (c : Choice) → IsLeft f bank n c → IsLeft f bank n (choice_of f bank n)
own_left f bank n c left = record {
  firm = left.firm;
  has_front = left.has_front;
  certain = left.certain;
  last = left.last;
  blank = left.blank;
  within = left.within;
  stands = inl refl;
  stands_next = inr refl;
}

pub n_within : (f : Front) (bank : Bank) (n : ℕ) (c : Choice) → IsLeft f bank n c → n ≤ room f bank.size
n_within f bank n c left = elim left.within [
  | inl less ↦ omega (arith, less)
  | inr both ↦ (let e = both.0 in omega (arith, e))
]

-- the cell before the first blank one is certain
pub sure_zero : (f : Front) (bank : Bank) (n at : ℕ) (c : Choice) → at ≡ 0 → IsLeft f bank n c → IsFoundBlank f bank n at → IsClosable f bank at c
sure_zero f bank n at c head_at left (inl (here, unmarked)) = subst (λ (k : ℕ). IsClosable f bank k c) (sym here) (left, unmarked)
sure_zero f bank n at c head_at left (inr next) = absurd (omega (arith, head_at, next))

pub sure_before : (f : Front) (old new : Bank) (n at : ℕ) (c : Choice) (ok : Bool) → new.torn ≡ old.torn → new.size ≡ old.size → 0 < at
    → IsLeft f old n c → IsFoundBlank f old n at → ok ≡ true
    → (ok ≡ true → (d : Choice) → IsLeft f old (at - 1) d → IsSettled f new (at - 1 + 1) × IsOneOf d (upto f new.words (at - 1 + 1)))
    → (IsCertain f old.words (at - 1) → (i : ℕ) → new.words i ≡ old.words i) → IsClosable f new at c
sure_before f old new n at c ok torn size more left (inl (here, unmarked)) is settled certain =
    let same = certain (left.certain (at - 1) (omega (arith, here, more))) in
    subst (λ (k : ℕ). IsClosable f new k c) (sym here) (
      left-same f old new n c torn size (λ i three. same i) left,
      λ fits. same (mark f n) ∙ unmarked (subst (λ (z : ℕ). n < room f z) size fits),
    )
sure_before f old new n at c ok torn size more left (inr next) is settled certain =
    let last : at - 1 ≡ n = omega (arith, next) in
    let back : at - 1 + 1 ≡ at = omega (arith, more) in
    let s = settled is c (subst (λ (k : ℕ). IsLeft f old k c) (sym last) left) in
    let log : IsSettled f new at = subst (λ (k : ℕ). IsSettled f new k) back s.0 in
    (settled_is_left f new at c log (subst (λ (k : ℕ). IsOneOf c (upto f new.words k)) back s.1), λ fits. log.blank (mark f at) (omega arith))

-- a log is left so without the cell before the first blank one, whose mark is not whole
short : (f : Front) (bank : Bank) (n at : ℕ) (c : Choice) → 0 < at → IsLeft f bank n c → IsFoundBlank f bank n at → (bank.words (mark f (at - 1)) ≡ Some 0 → ⊥)
    → IsShort f bank n at c
short f bank n at c more left (inl (here, unmarked)) never =
    let back : at - 1 + 1 ≡ n = omega (arith, more, here) in
    let still = sym (uncounted_cell f bank.words (at - 1) (none (left.certain (at - 1) (omega (arith, here, more))))) ∙ ap (upto f bank.words) back in
    record {
      more = more;
      certain = λ k le. left.certain k (omega (arith, le, here));
      within = omega (arith, here, n_within f bank n c left);
      same = still;
      stands = one_of still left.stands;
      left = left;
    }
  where
    none : IsCertain f bank.words (at - 1) → bank.words (mark f (at - 1)) ≡ Some erased
    none (inl both) = absurd (never both.0)
    none (inr both) = both.0
short f bank n at c more left (inr next) never =
    let last : at - 1 ≡ n = omega (arith, next) in
    record {
      more = more;
      certain = λ k le. left.certain k (omega (arith, le, last));
      within = omega (arith, last, n_within f bank n c left);
      same = ap (upto f bank.words) last;
      stands = one_of (ap (upto f bank.words) last) left.stands;
      left = left;
    }

pub torn_before : (f : Front) (old new : Bank) (n at : ℕ) (c : Choice) (ok : Bool) → 0 < at → IsLeft f old n c → IsFoundBlank f old n at → ok ≡ false
    → (ok ≡ false → new ≡ old) → (ok ≡ false → old.words (mark f (at - 1)) ≡ Some 0 → ⊥) → IsShort f new n at c
torn_before f old new n at c ok more left found is torn unmarked =
    subst (λ (b : Bank). IsShort f b n at c) (sym (torn is)) (short f old n at c more left found (unmarked is))

-- cells stay decided where their words do
pub decided-same : (f : Front) (old new : Bank) (n : ℕ) → ((i : ℕ) → 3 ≤ i → new.words i ≡ old.words i) → AreDecided f old.words n → AreDecided f new.words n
decided-same f old new n same decided = (one n decided.0, λ k e. one k (decided.1 k e))
  where
    one : (k : ℕ) → IsDecided f old.words k → IsDecided f new.words k
    one k (inl e) = inl (same (close f k) (omega arith) ∙ e)
    one k (inr e) = inr (same (fence f k) (omega arith) ∙ e)

-- a log of which the last two cells are decided is not left torn
pub never_undecided : (f : Front) (bank : Bank) (n at : ℕ) (ok : Bool) → 0 < at → IsFoundBlank f bank n at → ok ≡ false
    → (ok ≡ false → IsDecided f bank.words (at - 1) → ⊥) → AreDecided f bank.words n → ⊥
never_undecided f bank n at ok more (inl (here, unmarked)) is undecided decided = undecided is (decided.1 (at - 1) (omega (arith, here, more)))
never_undecided f bank n at ok more (inr next) is undecided decided =
    let last : n ≡ at - 1 = omega (arith, next) in
    undecided is (subst (λ (k : ℕ). IsDecided f bank.words k) last decided.0)

pub left_before : (f : Front) (old new : Bank) (n at : ℕ) (c : Choice) → new.torn ≡ old.torn → new.size ≡ old.size → 0 < at → IsLeft f old n c
    → IsFoundBlank f old n at → ((d : Choice) → IsLeft f old (at - 1) d → IsLeft f new (at - 1) d)
    → (IsCertain f old.words (at - 1) → (i : ℕ) → new.words i ≡ old.words i) → IsLeft f new n c
left_before f old new n at c torn size more left (inl (here, unmarked)) keeps certain =
    let same = certain (left.certain (at - 1) (omega (arith, here, more))) in
    left-same f old new n c torn size (λ i three. same i) left
left_before f old new n at c torn size more left (inr next) keeps certain =
    let last : at - 1 ≡ n = omega (arith, next) in
    subst (λ (k : ℕ). IsLeft f new k c) last (keeps c (subst (λ (k : ℕ). IsLeft f old k c) (sym last) left))

-- a full bank is settled
pub full_is_settled : (f : Front) (bank : Bank) (n : ℕ) (c : Choice) → IsLeft f bank n c → (n < room f bank.size → ⊥)
    → IsSettled f bank n × IsOneOf c (upto f bank.words n)
full_is_settled f bank n c left full = elim left.within [
  | inl less ↦ absurd (full less)
  | inr both ↦ (let e = both.0 in
      (record { firm = left.firm; has_front = left.has_front; certain = left.certain; blank = both.1; within = omega (arith, e) }, left.stands))
]

-- what the cells of the live bank are left as
pub store_left : (f : Front) (live spare : Bank) (n : ℕ) (c : Choice) → IsNumbered live → live.words 2 ≡ Some 0 → IsLeft f live n c → IsDead spare
    → IsStore live spare c
store_left f live spare n c number marked log dead = inl (f, n, record { number = number; log = log; beside = inl (dead, inr marked) })

pub dead_moved : (new old : Bank) → new ≡ old → IsDead old → IsDead new
dead_moved new old same dead = subst (λ (b : Bank). IsDead b) (sym same) dead

-- beside no copy
no_copy : (f : Front) (live spare : Bank) (n : ℕ) (copied : Option Front) → copied ≡ None → (h : Front) → copied ≡ Some h → IsCopy f live spare n h
no_copy f live spare n copied none h is = absurd (some_is_none (sym is ∙ none))

pub ready_is_held : (f : Front) (live spare : Bank) (n : ℕ) (copied : Option Front) → AreReady f live spare n → copied ≡ None → AreHeld f live spare n copied
ready_is_held f live spare n copied r none = record {
  sizes = r.sizes;
  left = ready_is_left f live spare n (choice_of f live n) r (inl refl);
  copy_is = no_copy f live spare n copied none;
}

pub wiped_is_held : (f : Front) (live old new : Bank) (n : ℕ) (copied : Option Front) → AreReady f live old n → IsDead new → new.size ≡ old.size → copied ≡ None
    → AreHeld f live new n copied
wiped_is_held f live old new n copied r dead size none = record {
  sizes = r.sizes ∙ sym size;
  left = wiped_is_left f live old new n (choice_of f live n) r dead (inl refl);
  copy_is = no_copy f live new n copied none;
}

-- a log of which something may be open, beside a bank that no reading takes for a live one
pub held_beside_dead : (f : Front) (live spare : Bank) (n : ℕ) (copied : Option Front) (c : Choice) → live.size ≡ spare.size → IsNumbered live
    → live.words 2 ≡ Some 0
    → IsLeft f live n c → IsDead spare → copied ≡ None → AreHeld f live spare n copied × AreAmong c f live n
held_beside_dead f live spare n copied c sizes number marked left dead none = (
  record {
    sizes = sizes;
    left = record { number = number; log = own_left f live n c left; beside = inl (dead, inr marked) };
    copy_is = no_copy f live spare n copied none;
  },
  (left.stands, left.stands_next),
)

-- and beside a copy whose mark may be cut short
pub held_beside_standing : (f : Front) (live spare : Bank) (n : ℕ) (copied : Option Front) (c : Choice) → live.size ≡ spare.size → IsNumbered live
    → IsLeft f live n c
    → IsStanding spare (choice_of f live n) → copied ≡ None → AreHeld f live spare n copied
held_beside_standing f live spare n copied c sizes number left standing none = record {
  sizes = sizes;
  left = record { number = number; log = own_left f live n c left; beside = inr standing };
  copy_is = no_copy f live spare n copied none;
}

-- what a log may stand for stays where the words of its cells do
choice-same : (f : Front) (old new : Bank) (n : ℕ) → HasFront old f → ((i : ℕ) → 3 ≤ i → new.words i ≡ old.words i) → choice_of f new n ≡ choice_of f old n
choice-same f old new n h same =
    let first = records-same f old new n h same in
    let second = upto_fence-same f old.words new.words n h.records (λ i three le. same i three) (λ i a b. same i (omega (arith, a)))
    (same (fence f n) (omega arith)) in
    λ i. record { old = first i; new = second i }

among-same : (f : Front) (old new : Bank) (n : ℕ) → HasFront old f → ((i : ℕ) → 3 ≤ i → new.words i ≡ old.words i) → AreAmong (choice_of f old n) f new n
among-same f old new n h same =
    let e = choice-same f old new n h same in
    (inl (ap (λ (c : Choice). c.old) e), inr (ap (λ (c : Choice). c.new) e))

-- banks of which only the words of heads have changed
pub moved_is_held : (f : Front) (old live spare : Bank) (n : ℕ) (copied : Option Front) → HasFront old f → live.size ≡ spare.size
    → ((i : ℕ) → 3 ≤ i → live.words i ≡ old.words i)
    → copied ≡ None → AreLeft f live spare n (choice_of f old n) → AreHeld f live spare n copied × AreAmong (choice_of f old n) f live n
moved_is_held f old live spare n copied h sizes same none left = (
  record {
    sizes = sizes;
    left = subst (λ (c : Choice). AreLeft f live spare n c) (sym (choice-same f old live n h same)) left;
    copy_is = no_copy f live spare n copied none;
  },
  among-same f old live n h same,
)

-- a bank whose copy is whole, and whose retirement was cut short
pub handed_is_held : (f h : Front) (old retired b0 b1 : Bank) (g n cells : ℕ) (copied : Option Front) (c : Choice) → 0 < g → IsHeaded b0 g
    → IsSettled h b0 0 → Programs 2 0 true b0 b1 → Programs 0 0 false old retired → b0.size ≡ old.size → upto h b0.words 0 ≡ upto f old.words cells
    → IsNumbered old → IsLeft f old n c → IsOneOf (choice_of f old n) (upto f old.words cells) → copied ≡ Some h → AreHeld f retired b1 n copied
handed_is_held f h old retired b0 b1 g n cells copied c more head log p q size records number left one is =
    let all = marked_log h b0 b1 g 0 true head log p in
    let same = after_head 0 0 false old retired (omega arith) q in
    let stands = subst (λ (d : Choice). IsOneOf d (upto f old.words cells)) (sym (choice-same f old retired n left.has_front same)) one in
    record {
      sizes = q.size ∙ sym size ∙ sym p.size;
      left = record {
        number = numbered-same old retired q.torn (q.others 1 (λ e. omega (arith, e))) number;
        log = own_left f retired n c (word_of_left f old retired 0 n c false (omega arith) q left);
        beside = inr (copy_stands h b0 b1 g 0 true (choice_of f retired n) (upto f old.words cells) more head log records p stands);
      };
      copy_is = λ k at. subst (λ (j : Front). IsCopy f retired b1 n j) (some_same (sym is ∙ at)) (record {
        number = numbered_of_head b1 g more all.0;
        mark = p.done refl;
        log = all.1;
        stands = one_of (all.2 ∙ records) stands;
      });
    }

-- its retirement was cut short once more
retired_is_held : (f : Front) (old retired spare : Bank) (n : ℕ) (copied : Option Front) → Programs 0 0 false old retired → AreHeld f old spare n copied
    → AreHeld f retired spare n copied × AreAmong (choice_of f old n) f retired n
retired_is_held f old retired spare n copied q held =
    let same = after_head 0 0 false old retired (omega arith) q in
    let choice = sym (choice-same f old retired n held.left.log.has_front same) in (
      record {
        sizes = q.size ∙ held.sizes;
        left = subst (λ (c : Choice). AreLeft f retired spare n c) choice (record {
          number = numbered-same old retired q.torn (q.others 1 (λ e. omega (arith, e))) held.left.number;
          log = word_of_left f old retired 0 n (choice_of f old n) false (omega arith) q held.left.log;
          beside = beside held.left.beside;
        });
        copy_is = λ k at. let copy_is = held.copy_is k at in record {
          number = copy_is.number;
          mark = copy_is.mark;
          log = copy_is.log;
          stands = subst (λ (c : Choice). IsOneOf c (upto k spare.words 0)) choice copy_is.stands;
        };
      },
      among-same f old retired n held.left.log.has_front same,
    )
  where
    beside : IsBeside old spare (choice_of f old n) → IsBeside retired spare (choice_of f old n)
    beside (inl (dead, inl number)) = inl (dead, inl number)
    beside (inl (dead, inr marked)) = inl (dead, inr (q.others 2 (λ e. omega (arith, e)) ∙ marked))
    beside (inr standing) = inr standing

pub still_held : (f h : Front) (old retired spare other : Bank) (n next : ℕ) (copied now : Option Front) → Programs 0 0 false old retired → other ≡ spare
    → h ≡ f → next ≡ n → now ≡ copied → AreHeld f old spare n copied
    → AreHeld h retired other next now × AreAmong (choice_of f old n) h retired next
still_held f h old retired spare other n next copied now q bank_is front_is next_is copied_is held =
    subst (λ (b : Bank). AreHeld h retired b next now × AreAmong (choice_of f old n) h retired next) (sym bank_is)
    (subst (λ (e : Front). AreHeld e retired spare next now × AreAmong (choice_of f old n) e retired next) (sym front_is)
    (subst (λ (k : ℕ). AreHeld f retired spare k now × AreAmong (choice_of f old n) f retired k) (sym next_is)
    (subst (λ (o : Option Front). AreHeld f retired spare n o × AreAmong (choice_of f old n) f retired n) (sym copied_is)
    (retired_is_held f old retired spare n copied q held))))

-- a copy that is gone on with, beside the bank that was copied and retired
pub copy_goes_on : (f h : Front) (old copy_bank retired : Bank) (n : ℕ) → IsCopy f old copy_bank n h → old.size ≡ copy_bank.size
    → Programs 0 0 true old retired → AreReady h copy_bank retired 0
copy_goes_on f h old copy_bank retired n is sizes q = record {
  sizes = sym sizes ∙ sym q.size;
  number = is.number;
  mark = is.mark;
  log = is.log;
  beside = inl (q.done refl);
}

-- where nothing was open, a rewriting that failed leaves the banks held with as many cells
pub rewritten_is_held : (f h : Front) (old spare live other : Bank) (n next : ℕ) (copied : Option Front) → AreReady f old spare n → h ≡ f → next ≡ n
    → ((k : ℕ) (c : Choice) → IsLeft f old k c → IsOneOf (choice_of f old k) (upto f old.words n) → AreHeld f live other k copied)
    → AreHeld h live other next copied
rewritten_is_held f h old spare live other n next copied r front_is same held =
    subst (λ (e : Front). AreHeld e live other next copied) (sym front_is)
    (subst (λ (k : ℕ). AreHeld f live other k copied) (sym same)
    (held n (choice_of f old n) (settled_is_left f old n (choice_of f old n) r.log (inl refl)) (inl refl)))

-- and with nothing else to be found
pub rewritten_found : (f h : Front) (old spare live other : Bank) (n next : ℕ) → AreReady f old spare n → h ≡ f → next ≡ n
    → ((k : ℕ) (c : Choice) → IsLeft f old k c → IsOneOf c (upto f old.words n) → AreLeft f live other k c)
    → upto_fence h live.words next ≡ upto f old.words n
rewritten_found f h old spare live other n next r front_is same left =
    let choice : Choice = record { old = upto f old.words n; new = upto f old.words n } in
    let l = left n choice (settled_is_left f old n choice r.log (inl refl)) (inl refl) in
    (λ i. upto_fence (front_is i) live.words (same i)) ∙ elim l.log.stands_next [
      | inl e ↦ e
      | inr e ↦ e
    ]

pub rewritten_records : (f h : Front) (old live : Bank) (n next : ℕ) → HasFront old f → h ≡ f → next ≡ n
    → ((i : ℕ) → 3 ≤ i → live.words i ≡ old.words i) → upto h live.words next ≡ upto f old.words n
rewritten_records f h old live n next has front_is same words = (λ i. upto (front_is i) live.words (same i)) ∙ records-same f old live n has words
