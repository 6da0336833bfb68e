-- A plan that keeps a memory with its records keeps it whatever becomes of its writes.
use Rattle.std.proofs.Common.{◌≡◌, ⊎_elim, Bool, true, false, List, [], ◌∷◌, ◌++◌, Option, refl, sym, ap, ◌∙◌, subst}
use Rattle.std.specs.Prelude.{if◌then◌else◌}
use Rattle.std.specs.FinMap.{insert}
use Rattle.plc_base.specs.declared.keeper.Cut.{Cut}
use Rattle.plc_base.specs.Keeper.{Records, Write}
use Rattle.node_rules.specs.Plans.{Plan, carry_out}
use Rattle.node_rules.specs.Laws.{all_put, IsWhole, IsCutOff}
use Rattle.node_rules.proofs.FailedWrites.{clean}
pub use Rattle.line_laws.specs.Lines.{Reads, Left}

pub all_put-append : (ps qs : List Write) (r : Records) → all_put (ps ++ qs) r ≡ all_put qs (all_put ps r)
all_put-append [] qs r = refl
all_put-append (p ∷ ps) qs r = all_put-append ps qs (insert r p.slot p.octets)

module _ {M : Type 0} (Q : M → Records → Type 0) where
  -- so it is after each front of the writes
  abbrev pub Fronts : List Write → Records → Type 0
  Fronts [] r = Reads Q r
  Fronts (p ∷ ps) r = Reads Q r × Fronts ps (insert r p.slot p.octets)

  -- these writes lead from one memory to the other
  pub record Leads (m : M) (ps : List Write) (n : M) : Type 0 where
    pub run : (r : Records) → Q m r → Fronts ps r × Q n (all_put ps r)

  first_front : (ps : List Write) (r : Records) → Fronts ps r → Reads Q r
  first_front [] r f = f
  first_front (p ∷ ps) r f = f.0

  fronts_append : (ps qs : List Write) (r : Records) → Fronts ps r → Fronts qs (all_put ps r) → Fronts (ps ++ qs) r
  fronts_append [] qs r f g = g
  fronts_append (p ∷ ps) qs r f g = (f.0, fronts_append ps qs (insert r p.slot p.octets) f.1 g)

  pub leads_beside : (m n : M) → ((r : Records) → Q m r → Q n r) → Leads m [] n
  leads_beside m n same = record { run = λ r q. (record { memory = m; kept = q }, same r q) }

  pub leads_one : (m n : M) (p : Write) → ((r : Records) → Q m r → Q n (insert r p.slot p.octets)) → Leads m (p ∷ []) n
  leads_one m n p one = record { run = λ r q. ((record { memory = m; kept = q }, record { memory = n; kept = one r q }), one r q) }

  pub leads_append : (m n o : M) (ps qs : List Write) → Leads m ps n → Leads n qs o → Leads m (ps ++ qs) o
  leads_append m n o ps qs f g = record {
    run = λ r q.
        let a = f.run r q in
        let b = g.run (all_put ps r) a.1 in
        (fronts_append ps qs r a.0 b.0, subst (Q o) (sym (all_put-append ps qs r)) b.1);
  }

  -- after each front some memory is what the records give
  pub front_reads : (ps front rest : List Write) (r : Records) → ps ≡ front ++ rest → Fronts ps r → Reads Q (all_put front r)
  front_reads ps front rest r e f = at_front front rest r (subst (λ ws. Fronts ws r) e f)
    where
      at_front : (front rest : List Write) (r : Records) → Fronts (front ++ rest) r → Reads Q (all_put front r)
      at_front [] rest r f = first_front rest r f
      at_front (p ∷ front) rest r f = at_front front rest (insert r p.slot p.octets) f.1

  pub carried : {A : Type 0} (r : Records) (cut : Option Cut) (p : Plan M A) (m : M) → Q m r → Leads m p.puts p.memory
      → Left Q (carry_out r cut p).records (carry_out r cut p).memory
  carried {A = A} r cut p m q f = ⊎_elim whole cut_off (clean r cut p)
    where
      whole : IsWhole r cut p (carry_out r cut p) → Left Q (carry_out r cut p).records (carry_out r cut p).memory
      whole w = rw (w.left, w.memory) (f.run r q).1

      append_one : (front : List Write) (one : Write) (rest : List Write) → (front ++ one ∷ []) ++ rest ≡ front ++ one ∷ rest
      append_one [] one rest = refl
      append_one (x ∷ front) one rest = ap (λ ws. x ∷ ws) (append_one front one rest)

      by_kind : (b : Bool) (front rest : List Write) (one : Write) → p.puts ≡ front ++ one ∷ rest
          → Reads Q (if b then all_put (front ++ one ∷ []) r else all_put front r)
      by_kind true front rest one e = front_reads p.puts (front ++ one ∷ []) rest r (e ∙ sym (append_one front one rest)) (f.run r q).0
      by_kind false front rest one e = front_reads p.puts front (one ∷ rest) r e (f.run r q).0

      cut_off : IsCutOff r cut p (carry_out r cut p) → Left Q (carry_out r cut p).records (carry_out r cut p).memory
      cut_off c = rw (c.left, c.memory) (by_kind c.by.keeps_new c.front c.rest c.write c.split)

  -- what the kept memory says may be used
  pub leads_when : (m n : M) (ps : List Write) → ((r : Records) → Q m r → Leads m ps n) → Leads m ps n
  leads_when m n ps f = record { run = λ r q. (f r q).run r q }

-- the same over a memory that holds the one as a part
module _ {M N : Type 0} (Q : M → Records → Type 0) (R : N → Records → Type 0) (f : M → N) (there : (m : M) (r : Records) → Q m r → R (f m) r) where
  fronts_map : (ps : List Write) (r : Records) → Fronts Q ps r → Fronts R ps r
  fronts_map [] r x = record { memory = f x.memory; kept = there x.memory r x.kept }
  fronts_map (p ∷ ps) r x = (record { memory = f x.0.memory; kept = there x.0.memory r x.0.kept }, fronts_map ps (insert r p.slot p.octets) x.1)

  pub leads_map : (back : (m : M) (r : Records) → R (f m) r → Q m r) (m n : M) (ps : List Write) → Leads Q m ps n → Leads R (f m) ps (f n)
  leads_map back m n ps x = record { run = λ r q. let y = x.run r (back m r q) in (fronts_map ps r y.0, there n (all_put ps r) y.1) }
