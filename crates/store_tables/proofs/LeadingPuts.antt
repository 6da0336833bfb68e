-- Writes that lead from one value to another, composed, and cut off.
use Rattle.std.proofs.Common.{◌≡◌, Bool, true, false, cond, List, [], ◌∷◌, ◌++◌, Option, Some, None, refl, sym, ap, ◌∙◌, subst}
use Rattle.std.specs.Prelude.{if◌then◌else◌, ◌||◌}
use Rattle.std.specs.FinMap.{insert}
use Rattle.plc_base.specs.declared.keeper.Cut.{Cut}
use Rattle.plc_base.specs.Keeper.{Records, Write, succeeds, cut_after, records_after, writes}
use Rattle.store_tables.specs.Writes.{Written, write}
use Rattle.store_tables.specs.LeadingPuts.{all_put, Reads, Prefixes, PutsLead, Left}

pub all_put-append : (ps qs : List Write) (r : Records) → all_put (ps ++ qs) r ≡ all_put qs (all_put ps r)
all_put-append [] qs r = refl
all_put-append (p ∷ ps) qs r = all_put-append ps qs (insert r p.slot p.octets)

-- a put that succeeds writes its slot
pub succeeded_writes : (cut : Option Cut) → succeeds cut ≡ true → writes cut ≡ true
succeeded_writes None e = refl
succeeded_writes (Some c) e = ap (λ b. b || c.keeps_new) e

module _ {M : Type 0} (Q : M → Records → Type 0) where
  first_prefix : (ps : List Write) (r : Records) → Prefixes Q ps r → Reads Q r
  first_prefix [] r f = f
  first_prefix (p ∷ ps) r f = f.0

  prefixes_append : (ps qs : List Write) (r : Records) → Prefixes Q ps r → Prefixes Q qs (all_put ps r) → Prefixes Q (ps ++ qs) r
  prefixes_append [] qs r f g = g
  prefixes_append (p ∷ ps) qs r f g = (f.0, prefixes_append ps qs (insert r p.slot p.octets) f.1 g)

  -- no write, where what the one says of the records says the other
  pub leads_beside : (m n : M) → ((r : Records) → Q m r → Q n r) → PutsLead Q m [] n
  leads_beside m n same = record { run = λ r q. (record { value = m; kept = q }, same r q) }

  -- one write
  pub leads_one : (m n : M) (p : Write) → ((r : Records) → Q m r → Q n (insert r p.slot p.octets)) → PutsLead Q m (p ∷ []) n
  leads_one m n p one = record { run = λ r q. ((record { value = m; kept = q }, record { value = n; kept = one r q }), one r q) }

  -- one after the other
  pub leads_append : (m n o : M) (ps qs : List Write) → PutsLead Q m ps n → PutsLead Q n qs o → PutsLead Q m (ps ++ qs) o
  leads_append m n o ps qs f g = record {
    run = λ r q.
        let a = f.run r q in
        let b = g.run (all_put ps r) a.1 in
        (prefixes_append ps qs r a.0 b.0, subst (Q o) (sym (all_put-append ps qs r)) b.1);
  }

  -- what the kept value says may be used
  pub leads_when : (m n : M) (ps : List Write) → ((r : Records) → Q m r → PutsLead Q m ps n) → PutsLead Q m ps n
  leads_when m n ps f = record { run = λ r q. (f r q).run r q }

  -- after each prefix some value is what the records give
  pub prefix_reads : (ps front rest : List Write) (r : Records) → ps ≡ front ++ rest → Prefixes Q ps r → Reads Q (all_put front r)
  prefix_reads ps front rest r e f = at_front front rest r (subst (λ ws. Prefixes Q ws r) e f)
    where
      at_front : (front rest : List Write) (r : Records) → Prefixes Q (front ++ rest) r → Reads Q (all_put front r)
      at_front [] rest r f = first_prefix rest r f
      at_front (p ∷ front) rest r f = at_front front rest (insert r p.slot p.octets) f.1

  -- so it is of what a cut leaves
  cut_reads : (ps : List Write) (cut : Option Cut) (r : Records) → Prefixes Q ps r → Reads Q (write ps cut r).records
  cut_reads [] cut r f = f
  cut_reads (p ∷ ps) cut r f = by_success (succeeds cut) refl (λ c s g. cut_reads ps c s g)
    where
      by_writing : (b : Bool) → Reads Q (if b then insert r p.slot p.octets else r)
      by_writing true = first_prefix ps (insert r p.slot p.octets) f.1
      by_writing false = f.0

      by_success : (b : Bool) → succeeds cut ≡ b → ((c : Option Cut) (s : Records) → Prefixes Q ps s → Reads Q (write ps c s).records)
          → Reads Q (if b then write ps (cut_after cut) (records_after cut r p.slot p.octets)
          else record { whole = false; records = records_after cut r p.slot p.octets; cut = cut_after cut }).records
      by_success true e more =
          let written : records_after cut r p.slot p.octets
          ≡ insert r p.slot p.octets = ap (λ (b : Bool). cond b (insert r p.slot p.octets) r) (succeeded_writes cut e) in
          more (cut_after cut) (records_after cut r p.slot p.octets) (subst (Prefixes Q ps) (sym written) f.1)
      by_success false e more = by_writing (writes cut)

-- where none failed, all writes were made
pub whole_put : (ps : List Write) (cut : Option Cut) (r : Records) → (write ps cut r).whole ≡ true → (write ps cut r).records ≡ all_put ps r
whole_put [] cut r e = refl
whole_put (p ∷ ps) cut r h = by_success (succeeds cut) refl (λ c s k. whole_put ps c s k) h
  where
    by_success : (b : Bool) → succeeds cut ≡ b → ((c : Option Cut) (s : Records) → (write ps c s).whole ≡ true → (write ps c s).records ≡ all_put ps s)
        → let w : Written = if b then write ps (cut_after cut) (records_after cut r p.slot p.octets)
        else record { whole = false; records = records_after cut r p.slot p.octets; cut = cut_after cut } in
        w.whole ≡ true → w.records ≡ all_put ps (insert r p.slot p.octets)
    by_success true e more h =
        let written : records_after cut r p.slot p.octets
        ≡ insert r p.slot p.octets = ap (λ (b : Bool). cond b (insert r p.slot p.octets) r) (succeeded_writes cut e) in
        more (cut_after cut) (records_after cut r p.slot p.octets) h ∙ ap (all_put ps) written
    by_success false e more h = absurd (cc)

module _ {M : Type 0} (Q : M → Records → Type 0) where
  -- what is left of writes that lead from one value to another, whatever becomes of them
  pub left_by : (m n : M) (ps : List Write) (cut : Option Cut) (r : Records) → Q m r → PutsLead Q m ps n
      → Left Q (write ps cut r).whole n (write ps cut r).records
  left_by m n ps cut r q f = by_whole (write ps cut r).whole refl
    where
      by_whole : (b : Bool) → (write ps cut r).whole ≡ b → Left Q b n (write ps cut r).records
      by_whole true e = subst (Q n) (sym (whole_put ps cut r e)) (f.run r q).1
      by_whole false e = cut_reads Q ps cut r (f.run r q).0

-- the same over a value that holds the one as a part
module _ {M N : Type 0} (Q : M → Records → Type 0) (R : N → Records → Type 0) (f : M → N) (there : (m : M) (r : Records) → Q m r → R (f m) r) where
  prefixes_map : (ps : List Write) (r : Records) → Prefixes Q ps r → Prefixes R ps r
  prefixes_map [] r x = record { value = f x.value; kept = there x.value r x.kept }
  prefixes_map (p ∷ ps) r x = (record { value = f x.0.value; kept = there x.0.value r x.0.kept }, prefixes_map ps (insert r p.slot p.octets) x.1)

  pub leads_map : (back : (m : M) (r : Records) → R (f m) r → Q m r) (m n : M) (ps : List Write) → PutsLead Q m ps n → PutsLead R (f m) ps (f n)
  leads_map back m n ps x = record { run = λ r q. let y = x.run r (back m r q) in (prefixes_map ps r y.0, there n (all_put ps r) y.1) }

-- these writes leave what is said of the records
abbrev pub Leaves : (Records → Type 0) → List Write → Type 0
Leaves P [] = Unit {0}
Leaves P (p ∷ ps) = ((r : Records) → P r → P (insert r p.slot p.octets)) × Leaves P ps

-- the same over a value that holds the one as a part, where the writes leave what is said of the rest
module _ {M N : Type 0} (Q : M → Records → Type 0) (P : Records → Type 0) (R : N → Records → Type 0) (f : M → N)
    (there : (m : M) (r : Records) → Q m r → P r → R (f m) r) where
  prefixes_beside : (ps : List Write) (r : Records) → Leaves P ps → P r → Prefixes Q ps r → Prefixes R ps r
  prefixes_beside [] r l b x = record { value = f x.value; kept = there x.value r x.kept b }
  prefixes_beside (p ∷ ps) r l b x =
      (record { value = f x.0.value; kept = there x.0.value r x.0.kept b }, prefixes_beside ps (insert r p.slot p.octets) l.1 (l.0 r b) x.1)

  left_beside : (ps : List Write) (r : Records) → Leaves P ps → P r → P (all_put ps r)
  left_beside [] r l b = b
  left_beside (p ∷ ps) r l b = left_beside ps (insert r p.slot p.octets) l.1 (l.0 r b)

  pub leads_part : (back : (m : M) (r : Records) → R (f m) r → Q m r × P r) (m n : M) (ps : List Write) → Leaves P ps → PutsLead Q m ps n
      → PutsLead R (f m) ps (f n)
  leads_part back m n ps l x = record {
    run = λ r q.
        let both = back m r q in
        let y = x.run r both.0 in
        (prefixes_beside ps r l both.1 y.0, there n (all_put ps r) y.1 (left_beside ps r l both.1));
  }
