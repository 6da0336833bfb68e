-- What is left of a plan whose writes may fail.
use Rattle.std.proofs.Common.{◌≡◌, ◌⊎◌, ℕ, ◌-◌, ◌≤◌, ◌<◌, Bool, true, false, List, [], ◌∷◌, ◌++◌, length, Option, Some, None, refl, sym, ap, ◌∙◌, suc, subst}
use Rattle.std.proofs.Common.{inl, inr, ⊎_elim, arith}
use Rattle.std.specs.Option.{option_map}
use Rattle.std.specs.Prelude.{IfSome, if◌then◌else◌, nat_lt}
use Rattle.std.specs.FinMap.{insert}
use Rattle.std.proofs.lemmas.Bool.{ltb-true, ltb-false}
use Rattle.std.proofs.lemmas.Option.{same_Some}
use Rattle.plc_base.specs.declared.keeper.Cut.{Cut}
use Rattle.plc_base.specs.Keeper.{Records, Write}
use Rattle.store_tables.specs.Writes.{Written, write}
use Rattle.node_rules.specs.Plans.{Plan, carry_out, outcome_of}
use Rattle.node_rules.specs.Laws.{all_put, nearer_by, IsWhole, IsCutOff, WritesFailCleanly, NoCutNoFailure}

-- all writes were made
record Made (puts : List Write) (cut : Option Cut) (records : Records) (w : Written) : Type 0 where
  whole : w.whole ≡ true
  spared : IfSome cut (λ c. (puts ≡ []) ⊎ (length puts < c.nth))
  cut_left : w.cut ≡ option_map (nearer_by (length puts)) cut
  left : w.records ≡ all_put puts records

-- one failed
record Failed (puts : List Write) (cut : Option Cut) (records : Records) (w : Written) : Type 0 where
  whole : w.whole ≡ false
  front : List Write
  one : Write
  rest : List Write
  split : puts ≡ front ++ one ∷ rest
  by : Cut
  loss : cut ≡ Some by
  place : length front ≡ by.nth - 1
  left : w.records ≡ (if by.keeps_new then all_put (front ++ one ∷ []) records else all_put front records)
  cut_left : w.cut ≡ None

uncut : (puts : List Write) (records : Records) → Made puts None records (write puts None records)
uncut [] records = record { whole = refl; spared = tt; cut_left = refl; left = refl }
uncut (w ∷ rest) records =
    let more = uncut rest (insert records w.slot w.octets) in
    record { whole = more.whole; spared = tt; cut_left = more.cut_left; left = more.left }

-- the cut that is to come after a write that it spares
abbrev nearer : Cut → Cut
nearer cut = nearer_by 1 cut

-- what becomes of the first write, by the test of the cut
abbrev first : Write → List Write → Cut → Records → Bool → Written
first w rest cut records far =
    if far then write rest (Some (nearer cut)) (insert records w.slot w.octets)
    else record { whole = false; records = (if cut.keeps_new then insert records w.slot w.octets else records); cut = None }

one_less : (front : List Write) (n : ℕ) → 1 < n → length front ≡ (n - 1) - 1 → suc (length front) ≡ n - 1
one_less front n far e = omega arith

behind : (w : Write) (rest : List Write) (cut : Cut) (records : Records) (far : Bool) → nat_lt 1 cut.nth ≡ far
    → Made rest (Some (nearer cut)) (insert records w.slot w.octets) (write rest (Some (nearer cut)) (insert records w.slot w.octets))
    ⊎ Failed rest (Some (nearer cut)) (insert records w.slot w.octets) (write rest (Some (nearer cut)) (insert records w.slot w.octets))
    → Made (w ∷ rest) (Some cut) records (first w rest cut records far) ⊎ Failed (w ∷ rest) (Some cut) records (first w rest cut records far)
behind w rest cut records true t (inl m) = inl (record {
  whole = m.whole;
  spared = inr (further rest cut.nth (ltb-true _ _ t) m.spared);
  cut_left = m.cut_left ∙ ap (λ n. Some (record cut { nth = n })) (less_again rest cut.nth);
  left = m.left;
})
  where
    further : (rest : List Write) (n : ℕ) → 1 < n → (rest ≡ []) ⊎ (length rest < n - 1) → suc (length rest) < n
    further rest n far (inl none) = rw none (omega arith)
    further rest n far (inr less) = omega arith

    less_again : (rest : List Write) (n : ℕ) → (n - 1) - length rest ≡ n - suc (length rest)
    less_again rest n = omega arith
behind w rest cut records true t (inr f) = inr (record {
  whole = f.whole;
  front = w ∷ f.front;
  one = f.one;
  rest = f.rest;
  split = ap (λ ps. w ∷ ps) f.split;
  by = cut;
  loss = refl;
  place = one_less f.front cut.nth (ltb-true _ _ t) (f.place ∙ ap (λ (c : Cut). c.nth - 1) (sym (same_Some _ _ f.loss)));
  left = f.left ∙ ap (λ (c : Cut). if c.keeps_new then all_put (f.front ++ f.one ∷ []) (insert records w.slot w.octets)
      else all_put f.front (insert records w.slot w.octets)) (sym (same_Some _ _ f.loss));
  cut_left = f.cut_left;
})
behind w rest cut records false t h = inr (record {
  whole = refl;
  front = [];
  one = w;
  rest = rest;
  split = refl;
  by = cut;
  loss = refl;
  place = let near : cut.nth ≤ 1 = ltb-false _ _ t in none_in_front cut.nth near;
  left = refl;
  cut_left = refl;
})
  where
    none_in_front : (n : ℕ) → n ≤ 1 → 0 ≡ n - 1
    none_in_front n near = omega arith

-- the first write, as the definition has it
first_is : (w : Write) (rest : List Write) (cut : Cut) (records : Records) → write (w ∷ rest) (Some cut) records ≡ first w rest cut records (nat_lt 1 cut.nth)
first_is w rest cut records = by_test (nat_lt 1 cut.nth) refl
  where
    by_test : (b : Bool) → nat_lt 1 cut.nth ≡ b → write (w ∷ rest) (Some cut) records ≡ first w rest cut records b
    by_test true t = rw t refl
    by_test false t = rw t refl

cut_off : (puts : List Write) (cut : Cut) (records : Records)
    → Made puts (Some cut) records (write puts (Some cut) records) ⊎ Failed puts (Some cut) records (write puts (Some cut) records)
cut_off [] cut records = inl (record { whole = refl; spared = inl refl; cut_left = ap (λ n. Some (record cut { nth = n })) (none_less cut.nth); left = refl })
  where
    none_less : (n : ℕ) → n ≡ n - 0
    none_less n = omega arith
cut_off (w ∷ rest) cut records =
    subst (λ x. Made (w ∷ rest) (Some cut) records x ⊎ Failed (w ∷ rest) (Some cut) records x) (sym (first_is w rest cut records))
    (behind w rest cut records (nat_lt 1 cut.nth) refl (cut_off rest (nearer cut) (insert records w.slot w.octets)))

module _ {M A : Type 0} (records : Records) (p : Plan M A) where
  whole : (cut : Option Cut) (w : Written) → Made p.puts cut records w → IsWhole records cut p (outcome_of w p)
  whole cut w m =
      rw m.whole (record { spared = m.spared; cut_left = m.cut_left; answer = refl; left = m.left; memory = refl; frames = refl; made = refl; opened = refl })

  broken : (cut : Option Cut) (w : Written) → Failed p.puts cut records w → IsCutOff records cut p (outcome_of w p)
  broken cut w f = rw f.whole (record {
    front = f.front;
    write = f.one;
    rest = f.rest;
    split = f.split;
    by = f.by;
    loss = f.loss;
    place = f.place;
    left = f.left;
    cut_left = f.cut_left;
    answer = refl;
    memory = refl;
    frames = refl;
    made = refl;
    opened = refl;
  })

  pub no_cut_by : IsWhole records None p (carry_out records None p)
  unfolding carry_out
  no_cut_by = whole None _ (uncut p.puts records)

  pub clean_by : (cut : Option Cut) → IsWhole records cut p (carry_out records cut p) ⊎ IsCutOff records cut p (carry_out records cut p)
  unfolding carry_out
  clean_by None = inl (whole None _ (uncut p.puts records))
  clean_by (Some cut) = ⊎_elim (λ m. inl (whole (Some cut) _ m)) (λ f. inr (broken (Some cut) _ f)) (cut_off p.puts cut records)

pub clean : {M A : Type 0} → WritesFailCleanly M A
clean records cut p = clean_by records p cut

pub no_cut : {M A : Type 0} → NoCutNoFailure M A
no_cut records p = no_cut_by records p
