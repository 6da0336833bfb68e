-- The places of all pieces stand in one list, those of the first reassembly first: what a change of one reassembly makes of the entries.
use Rattle.std.proofs.Common.{◌≡◌, ℕ, suc, ◌+◌, ◌-◌, ◌<◌, ◌≤◌, false, List, [], ◌∷◌, ◌++◌, length, get_or, set, take, drop, remove, insert, refl, sym, ap}
use Rattle.std.proofs.Common.{subst}
use Rattle.std.proofs.Common.{◌∙◌, arith}
use Rattle.std.proofs.Common.{append_assoc, append-nil, length-append, length-take, length-drop, take-append-drop, drop-cons, drop-drop, take-add}
use lib.Seq.{take_at, drop_at, get_or_at, set_at, set_split, take-append-le, drop-append-le}
use Rattle.std.proofs.Common.{Result, Ok, Err, IsOk, is_ok, if◌then◌else◌}
use Rattle.std.proofs.lemmas.List.{get_or_default}
use Rattle.std.proofs.lemmas.List.Elements.{All-nil, All-set, All-append, All-take, All-drop}
use Rattle.std.proofs.lemmas.List.Edits.{remove-append_right, length-insert}
use Rattle.std.proofs.lemmas.List.Sums.{sum_by-cons, sum_by-set, sum_by-take-drop, sum_by-drop_more, sum_by-remove, sum_by-take-le}
use Rattle.std.specs.List.{sum_by, list_any, All}
use Rattle.fragment_buffers.specs.declared.piece_span.PieceSpan.{PieceSpan}
use Rattle.fragment_buffers.specs.declared.buffers.Buffer.{Buffer}
use Rattle.fragment_buffers.specs.Entries.{Entry, IsEntry, IsPlace, entry_at, no_entry, blocks_used, meet}
use Rattle.fragment_buffers.specs.Buffers.{entry_of, pieces_in, entries_from}
use Rattle.fragment_buffers.proofs.Places.{room_in_all, one_more}

pieces-cons : (b : Buffer) (bs : List Buffer) → pieces_in (b ∷ bs) ≡ b.pieces + pieces_in bs
pieces-cons b bs = sum_by-cons (λ (x : Buffer). x.pieces) b bs

pub length-entries : (bs : List Buffer) (ps : List PieceSpan) → length (entries_from bs ps) ≡ length bs
unfolding entries_from
length-entries [] ps = refl
length-entries (b ∷ bs) ps = ap suc (length-entries bs (drop b.pieces ps))

-- some reassemblies, and further ones after them
entries-append : (ls bs : List Buffer) (xs ys : List PieceSpan) → pieces_in ls ≡ length xs
    → entries_from (ls ++ bs) (xs ++ ys) ≡ entries_from ls xs ++ entries_from bs ys
unfolding entries_from
entries-append [] bs [] ys e = refl
entries-append [] bs (x ∷ xs) ys e = let none : pieces_in [] ≡ 0 = refl in absurd (omega (arith, e, none))
entries-append (l ∷ ls) bs xs ys e =
    let sum = pieces-cons l ls in
    let fits : l.pieces ≤ length xs = omega (arith, e, sum) in
    let rest : pieces_in ls ≡ length (drop l.pieces xs) = omega (arith, e, sum, length-drop l.pieces xs) in
    (λ i. entry_of l (take-append-le l.pieces xs ys fits i) ∷ entries_from (ls ++ bs) (drop-append-le l.pieces xs ys fits i))
    ∙ ap (λ es. entry_of l (take l.pieces xs) ∷ es) (entries-append ls bs (drop l.pieces xs) ys rest)

-- a reassembly in the middle
entries_mid : (ls rs : List Buffer) (b : Buffer) (xs ys zs : List PieceSpan) → pieces_in ls ≡ length xs → b.pieces ≡ length ys
    → entries_from (ls ++ b ∷ rs) (xs ++ (ys ++ zs)) ≡ entries_from ls xs ++ entry_of b ys ∷ entries_from rs zs
unfolding entries_from
entries_mid ls rs b xs ys zs before here =
    entries-append ls (b ∷ rs) xs (ys ++ zs) before
    ∙ (λ i. entries_from ls xs ++ entry_of b (take_at ys zs b.pieces (sym here) i) ∷ entries_from rs (drop_at ys zs b.pieces (sym here) i))

-- a further reassembly, without a piece
pub entries_push : (bs : List Buffer) (b : Buffer) (ps : List PieceSpan) → pieces_in bs ≡ length ps → b.pieces ≡ 0
    → entries_from (bs ++ b ∷ []) ps ≡ entries_from bs ps ++ entry_of b [] ∷ []
unfolding entries_from
entries_push bs b ps all none =
    ap (λ l. entries_from (bs ++ b ∷ []) l) (sym (append-nil ps)) ∙ entries-append bs (b ∷ []) ps [] all
    ∙ ap (λ n. entries_from bs ps ++ entry_of b (take n []) ∷ []) none

remove_at : (xs ys : List Entry) (e : Entry) (i : ℕ) → length xs ≡ i → remove (xs ++ e ∷ ys) i ≡ xs ++ ys
remove_at xs ys e i long =
    let none : i - i ≡ 0 = omega arith in
    remove-append_right xs (e ∷ ys) i i long (omega arith) ∙ ap (λ k. xs ++ remove (e ∷ ys) k) none

-- how many pieces the reassemblies before this one have
abbrev pub start_of : List Buffer → ℕ → ℕ
start_of bs i = pieces_in (take i bs)

-- the reassembly b at a place, and the places of its pieces
module _ (bs : List Buffer) (ps : List PieceSpan) (i : ℕ) (b : Buffer) (all : pieces_in bs ≡ length ps) (lt : i < length bs) (is : b ≡ get_or bs i b) where
  abbrev start : ℕ
  start = start_of bs i

  abbrev earlier : List PieceSpan
  earlier = take start ps

  abbrev own : List PieceSpan
  own = take b.pieces (drop start ps)

  abbrev later : List PieceSpan
  later = drop b.pieces (drop start ps)

  pub fits : start + b.pieces ≤ length ps
  fits = omega (
    arith,
    all,
    sum_by-take-drop (λ (x : Buffer). x.pieces) bs i,
    sum_by-drop_more (λ (x : Buffer). x.pieces) bs i b lt,
    ap (λ (x : Buffer). x.pieces) is,
  )

  places_split : ps ≡ earlier ++ (own ++ later)
  places_split = sym (ap (λ l. take start ps ++ l) (take-append-drop b.pieces (drop start ps)) ∙ take-append-drop start ps)

  buffers_split : bs ≡ take i bs ++ b ∷ drop (suc i) bs
  buffers_split = sym (take-append-drop i bs) ∙ ap (λ l. take i bs ++ l) (drop-cons bs i b lt) ∙ ap (λ x. take i bs ++ x ∷ drop (suc i) bs) (sym is)

  before : pieces_in (take i bs) ≡ length earlier
  before = omega (arith, length-take start ps, fits)

  pub count_own : b.pieces ≡ length own
  count_own = omega (arith, length-take b.pieces (drop start ps), length-drop start ps, fits)

  entries_split : entries_from bs ps ≡ entries_from (take i bs) earlier ++ entry_of b own ∷ entries_from (drop (suc i) bs) later
  entries_split = (λ k. entries_from (buffers_split k) (places_split k)) ∙ entries_mid (take i bs) (drop (suc i) bs) b earlier own later before count_own

  front : length (entries_from (take i bs) earlier) ≡ i
  front = omega (arith, length-entries (take i bs) earlier, length-take i bs, lt)

  pub entry_is : (d : Entry) → get_or (entries_from bs ps) i d ≡ entry_of b own
  entry_is d = ap (λ es. get_or es i d) entries_split ∙ get_or_at _ (entry_of b own) _ d i front

  -- c comes in its place, with the places qs
  entries_set : (c : Buffer) (qs : List PieceSpan) → c.pieces ≡ length qs
      → entries_from (set bs i c) (earlier ++ (qs ++ later)) ≡ set (entries_from bs ps) i (entry_of c qs)
  entries_set c qs count =
      ap (λ l. entries_from l (earlier ++ (qs ++ later))) (set_split bs i c lt)
      ∙ entries_mid (take i bs) (drop (suc i) bs) c earlier qs later before count
      ∙ sym (ap (λ es. set es i (entry_of c qs)) entries_split ∙ set_at _ (entry_of b own) _ (entry_of c qs) i front)

  pieces_set : (c : Buffer) → pieces_in (set bs i c) + b.pieces ≡ pieces_in bs + c.pieces
  pieces_set c = omega (arith, sum_by-set (λ (x : Buffer). x.pieces) bs i c b lt, ap (λ (x : Buffer). x.pieces) is)

  -- # A piece more

  later_is : drop (start + b.pieces) ps ≡ later
  later_is = sym (drop-drop b.pieces start ps)

  pub inserted : (end : ℕ) (p : PieceSpan) → end ≡ start_of bs i + b.pieces → insert ps end p ≡ earlier ++ ((own ++ p ∷ []) ++ later)
  inserted end p e =
      ap (λ k. take k ps ++ p ∷ drop k ps) e
      ∙ (λ k. take-add start b.pieces ps k ++ p ∷ later_is k)
      ∙ append_assoc earlier own (p ∷ later) ∙ ap (λ l. earlier ++ l) (sym (append_assoc own (p ∷ []) later))

  pub entries_more : (c : Buffer) (qs : List PieceSpan) (end : ℕ) (p : PieceSpan) → end ≡ start_of bs i + b.pieces → qs ≡ insert ps end p
      → c.pieces ≡ b.pieces + 1 → entries_from (set bs i c) qs ≡ set (entries_from bs ps) i (entry_of c (own ++ p ∷ []))
  entries_more c qs end p e list more =
      ap (entries_from (set bs i c)) (list ∙ inserted end p e)
      ∙ entries_set c (own ++ p ∷ []) (omega (arith, more, count_own, length-append own (p ∷ [])))

  pub pieces_more : (c : Buffer) (qs : List PieceSpan) (end : ℕ) (p : PieceSpan) → end ≡ start_of bs i + b.pieces → qs ≡ insert ps end p
      → c.pieces ≡ b.pieces + 1 → (pieces_in (set bs i c) ≡ length qs) × (length qs ≡ length ps + 1)
  pieces_more c qs end p e list more =
      let long : length qs ≡ length ps + 1 = ap length list ∙ length-insert ps end p (omega (arith, e, fits)) in
      (omega (arith, long, pieces_set c, all, more), long)

  -- # No piece any more

  abbrev cut_list : List PieceSpan
  cut_list = take start ps ++ drop (start + b.pieces) ps

  cut_is : cut_list ≡ earlier ++ later
  cut_is = ap (λ l. earlier ++ l) later_is

  length_cut : length cut_list + b.pieces ≡ length ps
  length_cut = omega (arith, length-append (take start ps) (drop (start + b.pieces) ps), length-take start ps, length-drop (start + b.pieces) ps, fits)

  pub entries_none : (c : Buffer) (qs : List PieceSpan) → qs ≡ cut_list → c.pieces ≡ 0
      → entries_from (set bs i c) qs ≡ set (entries_from bs ps) i (entry_of c [])
  entries_none c qs list none = ap (entries_from (set bs i c)) (list ∙ cut_is) ∙ entries_set c [] none

  pub pieces_none : (c : Buffer) (qs : List PieceSpan) → qs ≡ cut_list → c.pieces ≡ 0 → (pieces_in (set bs i c) ≡ length qs) × (length qs ≤ length ps)
  pieces_none c qs list none =
      let long = ap length list in
      (omega (arith, long, length_cut, pieces_set c, all, none), omega (arith, long, length_cut))

  -- # One less

  pub entries_removed : (qs : List PieceSpan) → qs ≡ cut_list → entries_from (remove bs i) qs ≡ remove (entries_from bs ps) i
  entries_removed qs list =
      ap (entries_from (remove bs i)) (list ∙ cut_is)
      ∙ entries-append (take i bs) (drop (suc i) bs) earlier later before
      ∙ sym (ap (λ es. remove es i) entries_split ∙ remove_at _ _ (entry_of b own) i front)

  pub pieces_removed : (qs : List PieceSpan) → qs ≡ cut_list → (pieces_in (remove bs i) ≡ length qs) × (length qs ≤ length ps)
  pieces_removed qs list =
      let long = ap length list in
      let sum = sum_by-remove (λ (x : Buffer). x.pieces) bs i b lt in
      (omega (arith, long, length_cut, sum, ap (λ (x : Buffer). x.pieces) is, all), omega (arith, long, length_cut))

-- # How many

pub places_sum : (bs : List Buffer) (ps : List PieceSpan) → pieces_in bs ≡ length ps → sum_by (λ (e : Entry). length e.places) (entries_from bs ps) ≡ length ps
unfolding entries_from
places_sum [] [] e = refl
places_sum [] (p ∷ ps) e = let none : pieces_in [] ≡ 0 = refl in absurd (omega (arith, e, none))
places_sum (b ∷ bs) ps e =
    let sum = pieces-cons b bs in
    let rest = length-drop b.pieces ps in
    let more = places_sum bs (drop b.pieces ps) (omega (arith, e, sum, rest)) in
    omega (
      arith,
      sum_by-cons (λ (e : Entry). length e.places) (entry_of b (take b.pieces ps)) (entries_from bs (drop b.pieces ps)),
      more,
      rest,
      length-take b.pieces ps,
      e,
      sum,
    )

pub no_entries : entries_from [] [] ≡ []
unfolding entries_from
no_entries = refl

-- # What a contract sees

-- how many pieces the reassemblies before a place have, as it was counted
pub counted : (bs l m : List Buffer) (i n : ℕ) → m ≡ take i l → l ≡ bs → n ≡ pieces_in m → n ≡ start_of bs i
counted bs l m i n part same sum = sum ∙ ap pieces_in (part ∙ ap (take i) same)

pub few_counted : (bs l m : List Buffer) (ps : List PieceSpan) (i : ℕ) → m ≡ take i l → l ≡ bs → pieces_in bs ≡ length ps → length ps ≤ 640 → pieces_in m ≤ 640
few_counted bs l m ps i part same all few =
    omega (arith, ap pieces_in (part ∙ ap (take i) same), sum_by-take-le (λ (x : Buffer). x.pieces) bs i, all, few)

module _ (bs : List Buffer) (ps : List PieceSpan) (es : List Entry) (i : ℕ) (view : entries_from bs ps ≡ es) (within : i < length es) where
  pub there : i < length bs
  there = omega (arith, length-entries bs ps, ap length view, within)

  pub rule_at : All IsEntry (entries_from bs ps) → IsEntry (entry_at es i)
  rule_at rules = subst (λ l. IsEntry (entry_at l i)) view (rules i no_entry (omega (arith, ap length view, within)))

  module _ (b : Buffer) (all : pieces_in bs ≡ length ps) (is : b ≡ get_or bs i b) where
    pub read : entry_at es i ≡ entry_of b (take b.pieces (drop (start_of bs i) ps))
    read = ap (λ l. entry_at l i) (sym view) ∙ entry_is bs ps i b all there is no_entry

    -- a piece more
    pub more : (c : Buffer) (qs : List PieceSpan) (end : ℕ) (p : PieceSpan) → end ≡ start_of bs i + b.pieces → qs ≡ insert ps end p
        → c ≡ record b { pieces = b.pieces + 1 }
        → entries_from (set bs i c) qs ≡ set es i (record (entry_at es i) { places = (entry_at es i).places ++ p ∷ [] })
    more c qs end p e list one =
        entries_more bs ps i b all there is c qs end p e list (ap (λ (x : Buffer). x.pieces) one)
        ∙ (λ k. set (view k) i (entry_of (one k) (take b.pieces (drop (start_of bs i) ps) ++ p ∷ [])))
        ∙ ap (λ (e : Entry). set es i (record e { places = e.places ++ p ∷ [] })) (sym read)

    -- begun anew
    pub anew : (c : Buffer) (qs : List PieceSpan) (s note now : ℕ) → s ≡ start_of bs i → qs ≡ take s ps ++ drop (s + b.pieces) ps
        → c ≡ record b { note = note; since = now; pieces = 0 }
        → entries_from (set bs i c) qs ≡ set es i (record (entry_at es i) { note = note; since = now; places = [] })
    anew c qs s note now e list one =
        entries_none bs ps i b all there is c qs (list ∙ ap (λ n. take n ps ++ drop (n + b.pieces) ps) e) (ap (λ (x : Buffer). x.pieces) one)
        ∙ (λ k. set (view k) i (entry_of (one k) []))
        ∙ ap (λ (e : Entry). set es i (record e { note = note; since = now; places = [] })) (sym read)

    -- ended
    pub removed : (qs : List PieceSpan) (s : ℕ) → s ≡ start_of bs i → qs ≡ take s ps ++ drop (s + b.pieces) ps
        → entries_from (remove bs i) qs ≡ remove es i
    removed qs s e list =
        entries_removed bs ps i b all there is qs (list ∙ ap (λ n. take n ps ++ drop (n + b.pieces) ps) e) ∙ ap (λ l. remove l i) view

-- a further place fits into the memory
pub few_more : (bs : List Buffer) (ps : List PieceSpan) (es : List Entry) (i : ℕ) (p : PieceSpan) → entries_from bs ps ≡ es → pieces_in bs ≡ length ps
    → All IsEntry (entries_from bs ps) → i < length es → IsPlace (entry_at es i).size p → list_any (meet p) (entry_at es i).places ≡ false
    → blocks_used es ≤ 80 → length ps < 640
few_more bs ps es i p view all rules within place apart room =
    let some = room_in_all es i no_entry (subst (All IsEntry) view rules) within
    (one_more (entry_at es i) p (rule_at bs ps es i view within rules) place apart) in
    omega (arith, some, places_sum bs ps all, ap (sum_by (λ (e : Entry). length e.places)) view, room)

-- # Cutting places

-- what is left without the pieces of a reassembly
pub cut_from : (bs : List Buffer) (ps qs : List PieceSpan) (i s n : ℕ) → s ≡ start_of bs i → qs ≡ take s ps ++ drop (s + n) ps
    → qs ≡ take (start_of bs i) ps ++ drop (start_of bs i + n) ps
cut_from bs ps qs i s n e list = list ∙ ap (λ k. take k ps ++ drop (k + n) ps) e

pub cut_none : (ps : List PieceSpan) (s : ℕ) → ps ≡ take s ps ++ drop (s + 0) ps
cut_none ps s = let none : s + 0 ≡ s = omega arith in sym (ap (λ k. take s ps ++ drop k ps) none ∙ take-append-drop s ps)

pub cut_more : (ps : List PieceSpan) (s k : ℕ) → s + k < length ps → remove (take s ps ++ drop (s + k) ps) s ≡ take s ps ++ drop (s + (k + 1)) ps
cut_more ps s k lt =
    let none : s - s ≡ 0 = omega arith in
    let sum : s + k + 1 ≡ s + (k + 1) = omega arith in
    remove-append_right (take s ps) (drop (s + k) ps) s s (omega (arith, length-take s ps, lt)) (omega arith)
    ∙ ap (λ j. take s ps ++ remove (drop (s + k) ps) j) none
    ∙ ap (λ l. take s ps ++ l) (drop-drop 1 (s + k) ps ∙ ap (λ n. drop n ps) sum)

pub cut_length : (ps qs : List PieceSpan) (s k : ℕ) → s + k < length ps → qs ≡ take s ps ++ drop (s + k) ps → s < length qs
cut_length ps qs s k lt e =
    omega (arith, ap length e, length-append (take s ps) (drop (s + k) ps), length-take s ps, length-drop (s + k) ps, lt)

-- # As the code reads it

pub if_ok : {T F : Type 0} {X : Type 0} (r : Result T F) (some same new : X) → IsOk r → new ≡ (if is_ok r then some else same) → new ≡ some
if_ok (Ok t) some same new ok e = e
if_ok (Err t) some same new ok e = absurd cc

pub same_read : (bs : List Buffer) (i : ℕ) (a b : Buffer) → i < length bs → a ≡ get_or bs i a → b ≡ get_or bs i b → a ≡ b
same_read bs i a b lt is is' = is ∙ get_or_default bs i a b lt ∙ sym is'

-- the sums and entries after each change
pub rules_set : (es : List Entry) (i : ℕ) (e : Entry) → All IsEntry es → IsEntry e → All IsEntry (set es i e)
rules_set es i e rules rule = All-set IsEntry es i e rule rules

pub rules_removed : (es : List Entry) (i : ℕ) → All IsEntry es → All IsEntry (remove es i)
rules_removed es i rules = All-append IsEntry (take i es) (drop (suc i) es) (All-take IsEntry i es rules) (All-drop IsEntry (suc i) es rules)

pub no_piece : (b : Buffer) → b.size ≤ 1280 → IsEntry (entry_of b [])
no_piece b le = record { size = le; places = All-nil (IsPlace b.size); apart = λ i j d li lj. absurd (omega arith) }
