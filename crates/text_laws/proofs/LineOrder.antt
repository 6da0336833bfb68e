-- Lines in the order of their places: the parts of a list are found in it.
use Rattle.std.proofs.Common.{◌≡◌, ℕ, suc, ◌<◌, List, [], ◌∷◌, ◌++◌, length, refl, sym, subst, arith}
use Rattle.text_laws.specs.ReportLines.{ReportLine}
use Rattle.text_laws.specs.Reports.{joined}

-- # Lists that begin with lines of a kind

abbrev pub AreEach : (ReportLine → Type 0) → List ReportLine → Type 0
AreEach P [] = Unit {0}
AreEach P (l ∷ ls) = P l × AreEach P ls

-- the first line is so, if there is one
abbrev pub Begins : (ReportLine → Type 0) → List ReportLine → Type 0
Begins P [] = Unit {0}
Begins P (l ∷ ls) = P l

pub each_both : (P : ReportLine → Type 0) (ls ms : List ReportLine) → AreEach P ls → AreEach P ms → AreEach P (ls ++ ms)
each_both P [] ms il im = im
each_both P (l ∷ ls) ms il im = (il.0, each_both P ls ms il.1 im)

pub each_by : (P Q : ReportLine → Type 0) (ls : List ReportLine) → ((l : ReportLine) → P l → Q l) → AreEach P ls → AreEach Q ls
each_by P Q [] all are = tt
each_by P Q (l ∷ ls) all are = (all l are.0, each_by P Q ls all are.1)

module _ (P Q : ReportLine → Type 0) (never : (l : ReportLine) → P l → Q l → ⊥) where
  begin_not : (l : ReportLine) (rest later : List ReportLine) → P l → Begins Q later → later ≡ l ∷ rest → ⊥
  begin_not l rest later is begins same = never l is (subst (Begins Q) same begins)

  -- what begins otherwise than the lines before it is found after them
  pub split : (ps qs a b : List ReportLine) → AreEach P ps → AreEach P qs → Begins Q a → Begins Q b → ps ++ a ≡ qs ++ b → (ps ≡ qs) × (a ≡ b)
  split [] [] a b ip iq ia ib is = (refl, is)
  split [] (q ∷ qs) a b ip iq ia ib is = absurd (begin_not q (qs ++ b) a iq.0 ia is)
  split (p ∷ ps) [] a b ip iq ia ib is = absurd (begin_not p (ps ++ a) b ip.0 ib (sym is))
  split (p ∷ ps) (q ∷ qs) a b ip iq ia ib is =
      let first : p ≡ q = cc is in
      let next : ps ++ a ≡ qs ++ b = cc is in
      let more = split ps qs a b ip.1 iq.1 ia ib next in
      (λ i. first i ∷ more.0 i, more.1)

-- # Parts

module _ (place : ReportLine → ℕ) where
  -- each line is at this place
  abbrev pub AreAt : ℕ → List ReportLine → Type 0
  AreAt k ls = AreEach (λ l. place l ≡ k) ls

  -- each part has a place of its own, the first this one
  abbrev pub AreInOrder : ℕ → List (List ReportLine) → Type 0
  AreInOrder k [] = Unit {0}
  AreInOrder k (part ∷ parts) = AreAt k part × AreInOrder (suc k) parts

  -- what begins after a place is found after the lines at it
  pub split_at : (k : ℕ) (ps qs a b : List ReportLine) → AreAt k ps → AreAt k qs → Begins (λ l. k < place l) a → Begins (λ l. k < place l) b
      → ps ++ a ≡ qs ++ b → (ps ≡ qs) × (a ≡ b)
  split_at k = split (λ l. place l ≡ k) (λ l. k < place l) (λ l is later. omega (arith, is, later))

  parts_begin : (k j : ℕ) (parts : List (List ReportLine)) → k < j → AreInOrder j parts → Begins (λ l. k < place l) (joined parts)
  parts_begin k j [] later are = tt
  parts_begin k j ([] ∷ parts) later are = parts_begin k (suc j) parts (omega (arith, later)) are.1
  parts_begin k j ((l ∷ part) ∷ parts) later are = omega (arith, later, are.0.0)

  -- parts in one order that are joined to the same lines are the same
  pub same_parts : (k : ℕ) (ps qs : List (List ReportLine)) → length ps ≡ length qs → AreInOrder k ps → AreInOrder k qs → joined ps ≡ joined qs → ps ≡ qs
  same_parts k [] [] long ip iq is = refl
  same_parts k [] (q ∷ qs) long ip iq is = absurd (omega (arith, long))
  same_parts k (p ∷ ps) [] long ip iq is = absurd (omega (arith, long))
  same_parts k (p ∷ ps) (q ∷ qs) long ip iq is =
      let both = split_at k p q (joined ps) (joined qs) ip.0 iq.0 (parts_begin k (suc k) ps (omega arith) ip.1) (parts_begin k (suc k) qs (omega arith) iq.1)
      is in
      let more = same_parts (suc k) ps qs (omega (arith, long)) ip.1 iq.1 both.1 in
      λ i. both.0 i ∷ more i

  -- lines of parts at places after one are after it
  pub parts_after : (k j : ℕ) (parts : List (List ReportLine)) → k < j → AreInOrder j parts → AreEach (λ l. k < place l) (joined parts)
  parts_after k j [] later are = tt
  parts_after k j (part ∷ parts) later are =
      each_both (λ l. k < place l) part (joined parts)
      (each_by (λ l. place l ≡ j) (λ l. k < place l) part (λ l is. omega (arith, later, is)) are.0)
      (parts_after k (suc j) parts (omega (arith, later)) are.1)
