-- What a cut leaves of puts: those of a prefix, and each slot that none of them goes to.
use Rattle.std.proofs.Common.{◌≡◌, ◌≢◌, ◌⊎◌, inl, inr, ℕ, suc, ◌<◌, Bool, true, false, cond, List, [], ◌∷◌, ◌++◌, Option, refl, sym, ap, ◌∙◌, arith}
use Rattle.std.specs.Prelude.{if◌then◌else◌}
use Rattle.std.specs.FinMap.{get, insert}
use Rattle.plc_base.specs.declared.keeper.Cut.{Cut}
use Rattle.plc_base.specs.Keeper.{Records, Write, SameOutside, succeeds, cut_after, records_after, writes}
use Rattle.store_tables.specs.Writes.{Written, write}
use Rattle.store_tables.specs.LeadingPuts.{all_put}
use Rattle.store_tables.specs.Laws.{IsPrefixWritten, AreElsewhere}
use Rattle.store_tables.proofs.StoreLemmas.{get-insert_other}
use Rattle.store_tables.proofs.LeadingPuts.{succeeded_writes}

abbrev after_first : Write → List Write → Option Cut → Records → Bool → Written
after_first p ps cut r b =
    if b then write ps (cut_after cut) (records_after cut r p.slot p.octets)
    else record { whole = false; records = records_after cut r p.slot p.octets; cut = cut_after cut }

-- the records after the first put, which succeeded
first_put : (p : Write) (cut : Option Cut) (r : Records) → succeeds cut ≡ true → records_after cut r p.slot p.octets ≡ insert r p.slot p.octets
first_put p cut r e = ap (λ (b : Bool). cond b (insert r p.slot p.octets) r) (succeeded_writes cut e)

record Prefix (ps : List Write) (r : Records) (w : Written) : Type 0 where
  made : List Write
  rest : List Write
  split : ps ≡ made ++ rest
  left : w.records ≡ all_put made r
  all : w.whole ≡ true → rest ≡ []

prefix : (ps : List Write) (cut : Option Cut) (r : Records) → Prefix ps r (write ps cut r)
prefix [] cut r = record { made = []; rest = []; split = refl; left = refl; all = λ e. refl }
prefix (p ∷ ps) cut r = by_success (succeeds cut) refl (prefix ps (cut_after cut) (records_after cut r p.slot p.octets))
  where
    by_writing : (b : Bool) → Prefix (p ∷ ps) r (record { whole = false; records = if b then insert r p.slot p.octets else r; cut = cut_after cut })
    by_writing true = record { made = p ∷ []; rest = ps; split = refl; left = refl; all = λ e. absurd (cc) }
    by_writing false = record { made = []; rest = p ∷ ps; split = refl; left = refl; all = λ e. absurd (cc) }

    by_success : (b : Bool) → succeeds cut ≡ b
        → Prefix ps (records_after cut r p.slot p.octets) (write ps (cut_after cut) (records_after cut r p.slot p.octets))
        → Prefix (p ∷ ps) r (after_first p ps cut r b)
    by_success true e k = record {
      made = p ∷ k.made;
      rest = k.rest;
      split = ap (λ ws. p ∷ ws) k.split;
      left = k.left ∙ ap (all_put k.made) (first_put p cut r e);
      all = k.all;
    }
    by_success false e k = by_writing (writes cut)

pub prefix_written : (ps : List Write) (cut : Option Cut) (r : Records) → IsPrefixWritten ps cut r
prefix_written ps cut r = let k = prefix ps cut r in record { made = k.made; rest = k.rest; split = k.split; left = k.left; all = k.all }

-- a put changes no slot but its own
pub put_outside : (r : Records) (slot : ℕ) (octets : List ℕ) → SameOutside slot slot r (insert r slot octets)
put_outside r slot octets q h = get-insert_other r slot q octets (apart h)
  where
    apart : (q < slot) ⊎ (slot < q) → q ≢ slot
    apart (inl below) = omega arith
    apart (inr above) = omega arith

written_other : (p : Write) (slot : ℕ) (r : Records) (b : Bool) → p.slot ≢ slot → get (if b then insert r p.slot p.octets else r) slot ≡ get r slot
written_other p slot r true ne = get-insert_other r p.slot slot p.octets (λ e. ne (sym e))
written_other p slot r false ne = refl

pub slot_stays : (slot : ℕ) (ps : List Write) (cut : Option Cut) (r : Records) → AreElsewhere slot ps → get (write ps cut r).records slot ≡ get r slot
slot_stays slot [] cut r away = refl
slot_stays slot (p ∷ ps) cut r away =
    by_success (succeeds cut) (slot_stays slot ps (cut_after cut) (records_after cut r p.slot p.octets) (λ i d lt. away (suc i) d (omega arith)))
  where
    first : get (records_after cut r p.slot p.octets) slot ≡ get r slot
    first = written_other p slot r (writes cut) (away 0 p (omega arith))

    by_success : (b : Bool)
        → get (write ps (cut_after cut) (records_after cut r p.slot p.octets)).records slot ≡ get (records_after cut r p.slot p.octets) slot
        → get (after_first p ps cut r b).records slot ≡ get r slot
    by_success true more = more ∙ first
    by_success false more = first
