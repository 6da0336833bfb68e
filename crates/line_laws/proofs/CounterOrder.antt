-- The counters of the flights of one node rise.
use Rattle.std.proofs.Common.{◌≡◌, ◌≢◌, ⊎_elim, ℕ, ◌+◌, ◌≤◌, ◌<◌, true, List, [], ◌∷◌, ◌++◌, length, map, set, get_or, Option, Some, None, refl, sym, ◌∙◌}
use Rattle.std.proofs.Common.{subst, append_assoc, append-nil, arith}
use Rattle.std.specs.Prelude.{All, AllPairs, IfSome, slice_get}
use Rattle.std.proofs.lemmas.Bool.{cases_eq}
use Rattle.std.proofs.lemmas.List.{length-set, get_or-set_same, get_or-set_other}
use Rattle.std.proofs.lemmas.List.Quantifiers.{all_pairs_push}
use Rattle.std.proofs.lemmas.List.Elements.{All-push, All-weaker}
use Rattle.std.proofs.lemmas.Option.{slice_get-get_or, same_Some}
use Rattle.node_rules.specs.Ciphers.{Ciphers}
use Rattle.node_rules.specs.Frames.{Sent, Sealed, Up, Down, spelled}
use Rattle.line_rules.specs.Worlds.{Flight}
use Rattle.line_rules.specs.Nonces.{NonceParts, nonce_parts, CounterRises}
use Rattle.line_rules.specs.Steps.{flight_by}
use Rattle.line_laws.specs.Owed.{KeepsRanges}
use Rattle.line_laws.proofs.HeadsSaid.{sealed_counter, up_nonce, down_nonce}
use Rattle.line_laws.proofs.Frontiers.{Numbered, numbered_le}
pub use Rattle.line_laws.specs.Lines.{IsBelow}

if_some : (o : Option NonceParts) (P Q : NonceParts → Type 0) → ((p : NonceParts) → P p → Q p) → IfSome o P → IfSome o Q
if_some None P Q f h = tt
if_some (Some p) P Q f h = f p h

pub below_higher : (number low high : ℕ) → low ≤ high → (f : Flight) → IsBelow number low f → IsBelow number high f
below_higher number low high le f h same = if_some (nonce_parts f) (λ p. p.counter < low) (λ p. p.counter < high) (λ p lt. omega arith) (h same)

-- a flight after those that are below it
rises_behind : (number low : ℕ) (f g : Flight) → g.from ≡ number → IfSome (nonce_parts g) (λ q. low ≤ q.counter) → IsBelow number low f → CounterRises f g
rises_behind number low f g home at h same = both (nonce_parts f) (nonce_parts g) (h (same ∙ home)) at
  where
    both : (o k : Option NonceParts) → IfSome o (λ p. p.counter < low) → IfSome k (λ q. low ≤ q.counter) → IfSome o (λ p. IfSome k (λ q. p.counter < q.counter))
    both None k a b = tt
    both (Some p) None a b = tt
    both (Some p) (Some q) a b = omega arith

module _ (ciphers : Ciphers) (fits : KeepsRanges ciphers) (number : ℕ) where
  abbrev fly : Sent → Flight
  fly frame = flight_by number (spelled ciphers frame)

  none_at : (f : Flight) (P : NonceParts → Type 0) → nonce_parts f ≡ None → IfSome (nonce_parts f) P
  none_at f P e = subst (λ o. IfSome o P) (sym e) tt

  -- What is known of the flights so far.
  pub record Grown (fs : List Flight) (last : ℕ) : Type 0 where
    pub pairs : AllPairs CounterRises fs
    pub below : All (IsBelow number last) fs

  one_more : (fs : List Flight) (low next : ℕ) (g : Flight) → low ≤ next → g.from ≡ number → IfSome (nonce_parts g) (λ q. low ≤ q.counter)
      → IfSome (nonce_parts g) (λ q. q.counter < next) → Grown fs low → Grown (fs ++ g ∷ []) next
  one_more fs low next g le home at under h = record {
    pairs = all_pairs_push CounterRises fs g h.pairs (λ k d lt. rises_behind number low (get_or fs k d) g home at (h.below k d lt));
    below =
        All-push (IsBelow number next) fs g (All-weaker (IsBelow number low) (IsBelow number next) (below_higher number low next le) fs h.below) (λ _. under);
  }

  pub grows : (fs : List Flight) (frames : List Sent) (first last : ℕ) → last ≤ 4294967295 → Grown fs first → Numbered first last frames
      → Grown (fs ++ map fly frames) last
  grows fs [] first last cap h n = subst (λ xs. Grown xs last) (sym (append-nil fs))
      (record { pairs = h.pairs; below = All-weaker (IsBelow number first) (IsBelow number last) (below_higher number first last n) fs h.below })
  grows fs (Sealed l ∷ rest) first last cap h n =
      let at : first ≤ l.counter = n.0 in
      let more : l.counter + 1 ≤ last = numbered_le (l.counter + 1) last rest n.1 in
      let is = sealed_counter ciphers l (omega arith) in
      let f = fly (Sealed l) in
      let grown = one_more fs first (l.counter + 1) f (omega arith) refl
      (if_some (nonce_parts f) (λ p. p.counter ≡ l.counter) (λ q. first ≤ q.counter) (λ p e. omega arith) is)
      (if_some (nonce_parts f) (λ p. p.counter ≡ l.counter) (λ q. q.counter < l.counter + 1) (λ p e. omega arith) is) h in
      subst (λ xs. Grown xs last) (append_assoc fs (f ∷ []) (map fly rest)) (grows (fs ++ f ∷ []) rest (l.counter + 1) last cap grown n.1)
  grows fs (Up agent from message ∷ rest) first last cap h n =
      let f = fly (Up agent from message) in
      let none = up_nonce ciphers agent from message in
      subst (λ xs. Grown xs last) (append_assoc fs (f ∷ []) (map fly rest))
      (grows (fs ++ f ∷ []) rest first last cap
      (one_more fs first first f (omega arith) refl (none_at f (λ q. first ≤ q.counter) none) (none_at f (λ q. q.counter < first) none) h) n)
  grows fs (Down from message ∷ rest) first last cap h n =
      let f = fly (Down from message) in
      let none = down_nonce ciphers from message in
      subst (λ xs. Grown xs last) (append_assoc fs (f ∷ []) (map fly rest))
      (grows (fs ++ f ∷ []) rest first last cap
      (one_more fs first first f (omega arith) refl (none_at f (λ q. first ≤ q.counter) none) (none_at f (λ q. q.counter < first) none) h) n)

-- a flight that is lost keeps its counter
pub lost_pairs : (fs : List Flight) (k : ℕ) (f : Flight) → slice_get fs k ≡ Some f → k < length fs → AllPairs CounterRises fs
    → AllPairs CounterRises (set fs k (record f { lost = true }))
lost_pairs fs k f there within pairs i j d lt inside =
    let same = length-set fs k (record f { lost = true }) in
    let here : get_or fs k d ≡ f = same_Some _ _ (sym (slice_get-get_or fs k d within) ∙ there) in
    ⊎_elim
    (λ (ik : i ≡ k).
    let jk : j ≢ k = omega arith in
    rw (ik, get_or-set_same fs k (record f { lost = true }) d within, get_or-set_other fs k j (record f { lost = true }) d jk)
    (subst (λ (x : Flight). CounterRises x (get_or fs j d)) here (subst (λ n. CounterRises (get_or fs n d) (get_or fs j d)) ik (pairs i j d lt (omega arith)))))
    (λ (ik : i ≢ k). ⊎_elim
    (λ (jk : j ≡ k). rw (jk, get_or-set_same fs k (record f { lost = true }) d within, get_or-set_other fs k i (record f { lost = true }) d ik)
    (subst (λ (x : Flight). CounterRises (get_or fs i d) x) here (subst (λ n. CounterRises (get_or fs i d) (get_or fs n d)) jk (pairs i j d lt (omega arith)))))
    (λ (jk : j ≢ k). rw (get_or-set_other fs k i (record f { lost = true }) d ik, get_or-set_other fs k j (record f { lost = true }) d jk)
    (pairs i j d lt (omega arith))) (cases_eq j k)) (cases_eq i k)
