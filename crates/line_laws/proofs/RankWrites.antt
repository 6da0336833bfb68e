-- The writes of an offer, and each front of them, leave records that give ranks by the account.
use Rattle.std.proofs.lemmas.List.{length-append}
use Rattle.std.proofs.Common.{◌≡◌, ◌≢◌, ◌⊎◌, inl, ⊎_elim, ℕ, zero, suc, ◌+◌, ◌<◌, ◌^◌, Bool, true, false, List, [], ◌∷◌, ◌++◌, length, get_or, set, Option}
use Rattle.std.proofs.Common.{Some, None, refl, sym, ap, ◌∙◌, subst, arith}
use Rattle.std.specs.Prelude.{if◌then◌else◌, All, is_some, ◌==◌, unwrap_or, slice_get}
use Rattle.std.specs.FinMap.{get, insert}
use Rattle.std.proofs.lemmas.Bool.{cases_eq}
use Rattle.std.proofs.lemmas.List.{get_or-set_same, get_or-set_other}
use Rattle.std.proofs.lemmas.List.Elements.{All-set, All-push}
use Rattle.plc_base.specs.Keeper.{Records, Write}
use Rattle.store_tables.specs.Writes.{puts_of}
use Rattle.store_tables.specs.SlotTables as slots
use Rattle.store_tables.proofs.StoreLemmas.{get-insert_other}
use Rattle.store_tables.proofs.SlotTables.{found, stored_set, stored_push, stored_elsewhere}
use Rattle.routing_set.specs.declared.rank.Rank.{Rank}
use Rattle.routing_set.specs.declared.entry.RoutingEntry.{RoutingEntry}
use Rattle.routing_set.specs.RoutingSet as routing
use Rattle.routing_set.proofs.Entries.{entry_in-octets_of}
use Rattle.routing_set.proofs.FloorRecords.{floors_in-insert}
use Rattle.routing_set.proofs.Offers.{entered_held, writes_held, entered_new, writes_new, entered_first, writes_first, after_gone, gone_among, place_there}
use Rattle.routing_set.proofs.Offers.{one_goes, room_old, half_first}
use Rattle.line_laws.specs.Stores.{HasShortRank}
use Rattle.line_laws.proofs.KeptMemory.{Leads, leads_beside, leads_one, leads_append, leads_when}
use Rattle.line_laws.proofs.Slots.{put_outside, routing_stays}
use Rattle.line_laws.proofs.StoreRanks.{EntryFits, IsRanged}
use Rattle.line_laws.proofs.RankAccount.{Account, account_trans, offered_account, half_account}

-- These ranks are what the records give, and have the account since the first ones.
pub record RankKept (Own : ℕ → Type 0) (C : ℕ → ℕ → Rank → Type 0) (first now : routing.Routing) (r : Records) : Type 0 where
  pub account : Account Own C first now
  pub ranged : IsRanged now
  pub kept : routing.AgreesWith now r

-- a write beside ranks and floors
pub record IsAway (w : Write) : Type 0 where
  pub floors : 5 ≢ w.slot
  pub ranks : (w.slot < 0x0200) ⊎ (0x023F < w.slot)

-- all of them are
abbrev pub AreAway : List Write → Type 0
AreAway [] = Unit {0}
AreAway (w ∷ ws) = IsAway w × AreAway ws

module _ (Own : ℕ → Type 0) (C : ℕ → ℕ → Rank → Type 0) (first : routing.Routing) where
  abbrev Q : routing.Routing → Records → Type 0
  Q t r = RankKept Own C first t r

  stays_away : (t : routing.Routing) (r : Records) (w : Write) → IsAway w → Q t r → Q t (insert r w.slot w.octets)
  stays_away t r w away q = record { account = q.account; ranged = q.ranged; kept = routing_stays r w.slot w.octets t q.kept away.floors away.ranks }

  pub away_leads : (t : routing.Routing) (ws : List Write) → AreAway ws → Leads Q t ws t
  away_leads t [] away = leads_beside Q t t (λ r q. q)
  away_leads t (w ∷ ws) away = leads_append Q t t t (w ∷ []) ws (leads_one Q t t w (λ r q. stays_away t r w away.0 q)) (away_leads t ws away.1)

  -- the next ranks by their own account
  moves : (t s : routing.Routing) (r v : Records) → Q t r → Account Own C t s → IsRanged s → routing.AgreesWith s v → Q s v
  moves t s r v q a x kept = record { account = account_trans first t s q.account a; ranged = x; kept = kept }

  floors_stay : (t : routing.Routing) (r : Records) (place : ℕ) (octets : List ℕ) → routing.AgreesWith t r
      → routing.floors_in (get (insert r (0x0200 + place) octets) routing.floor_slot) ≡ Some t.floors
  floors_stay t r place octets kept = ap routing.floors_in (get-insert_other r (0x0200 + place) routing.floor_slot octets (omega arith)) ∙ kept.floors

  reads_entry : (e : RoutingEntry) (place : ℕ) → EntryFits e → routing.ranks.read place (routing.ranks.octets place e) ≡ Some (routing.ranks.rest e)
  reads_entry e place f = entry_in-octets_of e f.address f.low f.number f.cost

  -- an entry in a place, of which the account is given from a state before
  place_leads : (t : routing.Routing) (e : RoutingEntry) (place : ℕ) → place < length t.entries → EntryFits e
      → ((r : Records) → Q t r → Account Own C first (record t { entries = set t.entries place e })) → IsRanged (record t { entries = set t.entries place e })
      → Leads Q t (slots.entry_write routing.ranks place e ∷ []) (record t { entries = set t.entries place e })
  place_leads t e place within f a x = leads_one Q t _ _ (λ r q. record {
    account = a r q;
    ranged = x;
    kept = record {
      floors = floors_stay t r place (routing.octets_of e) q.kept;
      ranks = stored_set routing.ranks t.entries r _ place e q.kept.ranks within refl (reads_entry e place f);
    };
  })

  push_leads : (t : routing.Routing) (e : RoutingEntry) → EntryFits e
      → ((r : Records) → Q t r → Account Own C first (record t { entries = t.entries ++ e ∷ [] })) → IsRanged (record t { entries = t.entries ++ e ∷ [] })
      → Leads Q t (slots.entry_write routing.ranks (length t.entries) e ∷ []) (record t { entries = t.entries ++ e ∷ [] })
  push_leads t e f a x = leads_one Q t _ _ (λ r q. record {
    account = a r q;
    ranged = x;
    kept = record {
      floors = floors_stay t r (length t.entries) (routing.octets_of e) q.kept;
      ranks = stored_push routing.ranks t.entries r _ e q.kept.ranks (let longer = length-append t.entries (e ∷ []) in omega (arith, x.sound.entries.short))
          refl (reads_entry e (length t.entries) f);
    };
  })

  -- the floors before it
  raised_range : (floors : List ℕ) (gone : RoutingEntry) → ((class : ℕ) → get_or floors class 0 < 2 ^ 16) → HasShortRank gone → length floors ≡ 16
      → (class : ℕ) → get_or (routing.raised floors gone) class 0 < 2 ^ 16
  raised_range floors gone fits number long class = by_rise (routing.raises floors gone)
    where
      by_rise : (b : Bool) → get_or (if b then set floors (routing.class_of gone.address) gone.rank.number else floors) class 0 < 2 ^ 16
      by_rise false = fits class
      by_rise true =
          let within : routing.class_of gone.address < length floors = omega arith in
          ⊎_elim (λ (here : class ≡ routing.class_of gone.address). rw (here, get_or-set_same floors (routing.class_of gone.address) gone.rank.number 0 within)
          number.0)
          (λ (other : class ≢ routing.class_of gone.address). rw (get_or-set_other floors (routing.class_of gone.address) class gone.rank.number 0 other)
          (fits class)) (cases_eq class (routing.class_of gone.address))

  half_leads : (t : routing.Routing) (gone : RoutingEntry) → ((r : Records) → Q t r → Account Own C first (record t { floors = routing.raised t.floors gone }))
      → IsRanged (record t { floors = routing.raised t.floors gone })
      → Leads Q t (puts_of (routing.floors_due t.floors (Some gone))) (record t { floors = routing.raised t.floors gone })
  half_leads t gone a x = by_rise (routing.raises t.floors gone) refl
    where
      rose : Bool → List ℕ
      rose b = if b then set t.floors (routing.class_of gone.address) gone.rank.number else t.floors

      by_rise : (b : Bool) → routing.raises t.floors gone ≡ b
          → Leads Q t (puts_of (if b then Some (routing.floors_write (routing.raised t.floors gone)) else None))
          (record t { floors = routing.raised t.floors gone })
      by_rise false e =
          let same : routing.raised t.floors gone ≡ t.floors = ap rose e in
          subst (λ fs. Leads Q t [] (record t { floors = fs })) (sym same) (leads_beside Q t t (λ r q. q))
      by_rise true e = leads_one Q t _ _ (λ r q. record {
        account = a r q;
        ranged = x;
        kept = record {
          floors = floors_in-insert r (routing.raised t.floors gone) x.sound.sixteen x.floors;
          ranks = stored_elsewhere routing.ranks t.entries r _ 5 5 q.kept.ranks (put_outside r 5 _) (inl (omega arith));
        };
      })

  module _ (e : RoutingEntry) (now : ℕ) (t : routing.Routing) (f : EntryFits e) (x : IsRanged t) (room : routing.is_full t e.address now ≡ false)
      (account : (r : Records) → Q t r → Account Own C first (routing.entered t e now))
      (between : (r : Records) → Q t r → Account Own C first (routing.half_entered t e.address now)) where
    abbrev Goal : Type 0
    Goal = Leads Q t (routing.entry_writes t e now) (routing.entered t e now)

    to : (s : routing.Routing) → routing.entered t e now ≡ s → (r : Records) → Q t r → Account Own C first s
    to s is r q = subst (Account Own C first) is (account r q)

    at_place : (place : ℕ) → routing.place_of t.entries e.address ≡ Some place → Goal
    at_place place at =
        let there = found routing.ranks t.entries e.address place e at in
        let is = entered_held t e now place at in
        rw (writes_held t e now place at, is) (leads_when Q t _ _ (λ r q. place_leads t e place there.0 f (to _ is) (record {
          sound = (to _ is r q).sound;
          floors = x.floors;
          ranks = All-set HasShortRank t.entries place e (f.number, f.cost) x.ranks;
        })))

    at_end : routing.place_of t.entries e.address ≡ None → (length t.entries == 64) ≡ false → Goal
    at_end at short =
        let is = entered_new t e now at short in
        rw (writes_new t e now at short, is) (leads_when Q t _ _ (λ r q. push_leads t e f (to _ is) (record {
          sound = (to _ is r q).sound;
          floors = x.floors;
          ranks = All-push HasShortRank t.entries e x.ranks (f.number, f.cost);
        })))

    among_number : (entries : List RoutingEntry) (gone : RoutingEntry) (place : ℕ) → slice_get entries place ≡ Some gone → All HasShortRank entries
        → HasShortRank gone
    among_number [] gone place e all = absurd (cc)
    among_number (y ∷ ys) gone zero e all = let is : y ≡ gone = cc in subst HasShortRank is (all 0 y (omega arith))
    among_number (y ∷ ys) gone (suc place) e all = among_number ys gone place e (λ k d lt. all (suc k) d (omega arith))

    writes_gone : (gone : RoutingEntry) (place : ℕ) → routing.place_of t.entries gone.address ≡ Some place
        → routing.writes_of t (Some gone) e ≡ puts_of (routing.floors_due t.floors (Some gone)) ++ slots.entry_write routing.ranks place e ∷ []
    writes_gone gone place at =
        ap (λ (o : Option ℕ). puts_of (routing.floors_due t.floors (Some gone)) ++ slots.entry_write routing.ranks (unwrap_or o (length t.entries)) e ∷ []) at

    in_place : (gone : RoutingEntry) (place : ℕ) → routing.place_of t.entries e.address ≡ None → (length t.entries == 64) ≡ true
        → routing.first_to_go now t.entries ≡ Some gone
        → routing.place_of t.entries gone.address ≡ Some place → Goal
    in_place gone place at whole first_is there =
        let within = found routing.ranks t.entries gone.address place gone there in
        let is : routing.entered t e now ≡ record { entries = set t.entries place e; floors = routing.raised t.floors gone }
        = entered_first t e now at whole ∙ ap (λ o. routing.after_of t o e) first_is ∙ after_gone t gone e place there in
        let half_is : routing.half_entered t e.address now
        ≡ record t { floors = routing.raised t.floors gone } = half_first t e.address now at whole ∙ ap (λ o. routing.half_of t o) first_is in
        let puts : routing.entry_writes t e now ≡ puts_of (routing.floors_due t.floors (Some gone)) ++ slots.entry_write routing.ranks place e ∷ []
        = writes_first t e now at whole ∙ ap (λ o. routing.writes_of t o e) first_is ∙ writes_gone gone place there in
        let there_is = gone_among now t.entries gone first_is in
        let number = among_number t.entries gone there_is.place there_is.there x.ranks in
        let low = raised_range t.floors gone x.floors number x.sound.sixteen in
        rw (puts, is) (leads_when Q t _ _ (λ r q.
        let after = to _ is r q in
        let half = subst (Account Own C first) half_is (between r q) in
        leads_append Q t (record t { floors = routing.raised t.floors gone }) _ _ _
        (half_leads t gone (λ s p. half) (record { sound = half.sound; floors = low; ranks = x.ranks }))
        (place_leads (record t { floors = routing.raised t.floors gone }) e place within.0 f (λ s p. after)
        (record { sound = after.sound; floors = low; ranks = All-set HasShortRank t.entries place e (f.number, f.cost) x.ranks }))))

    entry_leads : Goal
    entry_leads = by_place (routing.place_of t.entries e.address) refl
      where
        by_given : (gone : RoutingEntry) (o : Option ℕ) → routing.place_of t.entries gone.address ≡ o → is_some o ≡ true
            → routing.place_of t.entries e.address ≡ None
            → (length t.entries == 64) ≡ true → routing.first_to_go now t.entries ≡ Some gone → Goal
        by_given gone None there some at whole first_is = absurd (cc)
        by_given gone (Some place) there some at whole first_is = in_place gone place at whole first_is there

        by_gone : (o : Option RoutingEntry) → routing.first_to_go now t.entries ≡ o → is_some o ≡ true → routing.place_of t.entries e.address ≡ None
            → (length t.entries == 64) ≡ true → Goal
        by_gone None first_is some at whole = absurd (cc)
        by_gone (Some gone) first_is some at whole =
            by_given gone (routing.place_of t.entries gone.address) refl (place_there t.entries gone (gone_among now t.entries gone first_is)) at whole first_is

        by_length : (b : Bool) → (length t.entries == 64) ≡ b → routing.place_of t.entries e.address ≡ None → Goal
        by_length false short at = at_end at short
        by_length true whole at = by_gone (routing.first_to_go now t.entries) refl (one_goes now t.entries (room_old t e.address now at whole room)) at whole

        by_place : (o : Option ℕ) → routing.place_of t.entries e.address ≡ o → Goal
        by_place (Some place) at = at_place place at
        by_place None at = by_length (length t.entries == 64) refl at

  -- an offer that is taken, also where it is cut off between its writes
  pub offered_leads : (t : routing.Routing) (dest : ℕ) (rank : Rank) (by now : ℕ) → EntryFits (routing.offered_entry dest rank by now)
      → routing.is_better t dest rank ≡ true → routing.is_full t dest now ≡ false
      → ¬ (Own dest) → C by dest rank → Leads Q t (routing.offer_writes t dest rank by now) (routing.offered t dest rank by now)
  offered_leads t dest rank by now f better room apart cause = leads_when Q t _ _ (λ r q.
      entry_leads (routing.offered_entry dest rank by now) now t f q.ranged room
      (λ s p. account_trans first t _ p.account (offered_account t dest rank by now p.account.sound better room apart cause))
      (λ s p. account_trans first t _ p.account (half_account t dest now p.account.sound)))
