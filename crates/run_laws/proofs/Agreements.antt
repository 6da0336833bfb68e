-- A run, as far as grants go: what a meter takes went out before, since the tag that it found right was made, and only the coordinator makes such a tag.
use Rattle.std.proofs.Common.{inl, inr, ◌≡◌, ◌⊎◌, ⊎_elim, ℕ, zero, suc, Bool, true, false, not, List, [], ◌∷◌, ◌++◌, length, Option, Some, None, Ok, refl, sym}
use Rattle.std.proofs.Common.{ap, subst, ◌∙◌}
use Rattle.std.specs.Prelude.{All, IfSome, slice_get}
use Rattle.std.specs.List.{list_any}
use Rattle.std.proofs.lemmas.Bool.{and_parts, eqb-true}
use Rattle.std.proofs.lemmas.List.{append_assoc}
use Rattle.std.proofs.lemmas.Option.{none-some, same_Some}
use Rattle.std.proofs.lemmas.Slice.Eq.{bytes_eq-Decides}
use Rattle.plc_base.specs.Grant.{Granted}
use Rattle.plc_base.specs.declared.address.Eui.{Eui}
use Rattle.plc_base.specs.declared.tags.PairTag.{PairTag}
use Rattle.plc_base.specs.declared.tags.PairTag.TheVariants as tags
use Rattle.eap_psk.specs.Messages.{granting_text, third_head}
use Rattle.eap_psk.specs.Tags.{granting_tag}
use Rattle.eap_psk.specs.declared.server.Agreed.{Agreed}
use Rattle.group_keys.specs.KeyBook as books
use Rattle.node_rules.specs.Ciphers.{network}
use Rattle.line_rules.specs.Agreement.{KeysAgree, KeysAgreeAfter, WasTaken}
use Rattle.line_rules.specs.Forgery.{ByTag, IsForgedRight}
use Rattle.line_rules.specs.Runs.{Entry, all_of, issued, one_of, takings}
use Rattle.line_rules.specs.Steps.{issued_by}
use Rattle.line_rules.specs.Traces.{AreTracedRight, CountsRight}
use Rattle.line_rules.specs.Worlds.{Issued, Pairing, Sending, Trace, World, same_tag, start}
use Rattle.line_laws.specs.Invariant.{HoldsAfterEach}
use Rattle.line_laws.specs.Keyed.{Among, Each, Here, Keyed, Later}
use Rattle.line_laws.specs.Lines.{NodeOk}
use Rattle.line_laws.specs.Owed.{KeepsRanges}
use Rattle.line_laws.specs.Stores.{IsReadable}
use Rattle.line_laws.proofs.AgreeTags.{rand_same}
use Rattle.line_laws.proofs.ForgeryRight.{Passes, none_made, some_passes}
use Rattle.line_laws.proofs.FurtherEvents.{further_step_is}
use Rattle.line_laws.proofs.IssueNodes.{text_same}
use Rattle.line_laws.proofs.IssueRuns.{all_of_one, start_keyed}
use Rattle.line_laws.proofs.IssueWords.{each_append, none_among}
use Rattle.line_laws.proofs.LineRuns.{AreLawful, Lawful}
use Rattle.line_laws.proofs.Nodes.{ring_readable}
use Rattle.line_laws.proofs.Worlds.{at_place}
use Rattle.run_laws.specs.Agreements.{AgreeOnGrantsAfter, IsDoneAsTaken, IsKeying, IsTakenAsSent}
use Rattle.run_laws.proofs.GrantEvents.{FurtherTells, IsSentIn, Reports, SentIn, TakenAt, TraceTells, line_tells}

-- # Lists

among_at : {A : Type 0} (xs : List A) (place : ℕ) (x : A) → slice_get xs place ≡ Some x → Among x xs
among_at [] place x e = absurd (none-some x e)
among_at (y ∷ xs) zero x e = subst (λ z. Among z (y ∷ xs)) (same_Some y x e) (Here xs)
among_at (y ∷ xs) (suc place) x e = Later y xs (among_at xs place x e)

place_of : {A : Type 0} (x : A) (xs : List A) → Among x xs → (place : ℕ) × (slice_get xs place ≡ Some x)
place_of x xs (Here rest) = (0, refl)
place_of x xs (Later y rest a) = let p = place_of x rest a in (suc p.0, p.1)

heads_same : {A : Type 0} (x y : A) (xs ys : List A) → x ∷ xs ≡ y ∷ ys → x ≡ y
heads_same x y xs ys e = cc (e)

tails_same : {A : Type 0} (x y : A) (xs ys : List A) → x ∷ xs ≡ y ∷ ys → xs ≡ ys
tails_same x y xs ys e = cc (e)

among_split : {A : Type 0} (x : A) (l : List A) → Among x l → (xs ys : List A) → l ≡ xs ++ ys → Among x xs ⊎ Among x ys
among_split x l a [] ys e = inr (subst (Among x) e a)
among_split x l (Here rest) (y ∷ xs) ys e = inl (subst (λ z. Among x (z ∷ xs)) (heads_same x y rest (xs ++ ys) e) (Here xs))
among_split x l (Later z rest b) (y ∷ xs) ys e = ⊎_elim (λ (c : Among x xs). inl (Later y xs c)) (λ (c : Among x ys). inr c)
    (among_split x rest b xs ys (tails_same z y rest (xs ++ ys) e))

among_parts : {A : Type 0} (xs ys : List A) (x : A) → Among x (xs ++ ys) → Among x xs ⊎ Among x ys
among_parts xs ys x a = among_split x (xs ++ ys) a xs ys refl

only_one : {A : Type 0} (x y : A) (l : List A) → l ≡ y ∷ [] → Among x l → x ≡ y
only_one x y l e (Here rest) = cc (e)
only_one {A = A} x y l e (Later z rest a) = absurd (none_among x rest (nothing_more e) a)
  where
    nothing_more : z ∷ rest ≡ y ∷ [] → rest ≡ []
    nothing_more e = cc (e)

each_one : {A : Type 0} (P : A → Type 0) (x : A) (xs : List A) → Each P xs → Among x xs → P x
each_one P x xs h (Here rest) = h.0
each_one P x xs h (Later y rest a) = each_one P x rest h.1 a

-- what is listed of a history stands at one of its entries
record ListedAt {A : Type 0} (listed : Trace → List A) (entries : List Entry) (a : A) : Type 0 where
  entry : Entry
  among : Among entry entries
  here : Among a (listed entry.trace)

listed_at : {A : Type 0} (listed : Trace → List A) (entries : List Entry) (a : A) → Among a (all_of listed entries) → ListedAt listed entries a
listed_at listed [] a among = absurd (none_among a [] refl among)
listed_at listed (x ∷ xs) a among = ⊎_elim
    (λ (h : Among a (listed x.trace)). record { entry = x; among = Here xs; here = h })
    (λ (h : Among a (all_of listed xs)). let r = listed_at listed xs a h in record { entry = r.entry; among = Later x xs r.among; here = r.here })
    (among_parts (listed x.trace) (all_of listed xs) a among)

-- # A tag that went out

-- what each tag of an entry is of
abbrev Makes : Entry → Type 0
Makes z = Each (IsSentIn z.trace.happenings.answer z.trace.issued) z.trace.made

-- The entry in which a grant went out, to a meter of this EUI.
record WentOut (z : Entry) (eui : Eui) (agreed : Agreed) (granted : Granted) : Type 0 where
  to : Eui
  named : books.eui_number to ≡ books.eui_number eui
  sent : IsKeying z to agreed granted

-- a tag over the same as one of a third message is of the same grant
third_of : (agreed : Agreed) (granted : Granted) (eui : Eui) (identifier : ℕ) (z : Entry) → IsReadable granted → (t : PairTag) → Among t z.trace.made
    → IsSentIn z.trace.happenings.answer z.trace.issued t
    → same_tag (granting_tag eui identifier agreed.rand_s agreed.rand_p (granting_text granted)) t ≡ true → WentOut z eui agreed granted
third_of agreed granted eui identifier z readable (tags.MacP e o) among h same = absurd (cc (same))
third_of agreed granted eui identifier z readable (tags.MacS e o) among h same = absurd (cc (same))
third_of agreed granted eui identifier z readable (tags.Channel e q n header text) among h same =
    let one = and_parts _ _ same in
    let two = and_parts _ _ one.1 in
    let three = and_parts _ _ two.1 in
    let four = and_parts _ _ three.1 in
    let front : List ℕ = third_head identifier agreed.rand_s.0 (length (granting_text granted)) in
    let rands : agreed.rand_p ≡ q = rand_same _ _ ((bytes_eq-Decides agreed.rand_p.0 q.0).0 two.0) in
    let nonces : 0 ≡ n = eqb-true _ _ three.0 in
    let headers : front ≡ header = (bytes_eq-Decides front header).0 four.0 in
    let texts : granting_text granted ≡ text = (bytes_eq-Decides (granting_text granted) text).0 four.1 in
    let s : SentIn z.trace.happenings.answer z.trace.issued e text = h (sym nonces) in
    let this : granted ≡ s.granted = text_same granted s.granted readable s.readable (texts ∙ s.is) in
    let whole : granting_tag e identifier agreed.rand_s agreed.rand_p (granting_text granted)
    ≡ tags.Channel e q n header text = λ i. tags.Channel e (rands i) (nonces i) (headers i) (texts i) in
    record {
      to = e;
      named = sym (eqb-true _ _ one.0);
      sent = record {
        answer = s.word;
        issued = s.keys ∙ ap (issued_by e) (sym this);
        identifier = identifier;
        made = subst (λ (u : PairTag). Among u z.trace.made) (sym whole) among;
      };
    }

-- # A grant that is taken

module _ (w : World) (x : Entry) (xs : List Entry) (right : IsForgedRight network w (x ∷ xs)) (honest : x.trace.happenings.forged ≡ false) where
  -- what was found right was made
  was_made : (t : PairTag) → Among t x.trace.opened → Passes (same_tag t) w.made
  was_made t among = by_test (list_any (same_tag t) w.made) refl
    where
      both : x.trace.happenings.forged ≡ true → Passes (same_tag t) w.made
      both e = absurd (cc (e, honest))

      by_test : (b : Bool) → list_any (same_tag t) w.made ≡ b → Passes (same_tag t) w.made
      by_test true e = some_passes (same_tag t) w.made e
      by_test false e = let at = place_of t x.trace.opened among in both (right.0.1 (ByTag at.0 t at.1 (none_made w.made t (ap not e))))

  module _ (before : List Entry) (made : w.made ≡ all_of (λ d. d.made) before) (makers : Each Makes before) (nodes : All NodeOk x.after.nodes) where
    sent_before : (p : Pairing) → TakenAt x.after.nodes x.trace.opened p → IsTakenAsSent before x p
    sent_before p h =
        let g = h.taken.grants in
        let t : PairTag = granting_tag h.node.eui g.identifier p.agreed.rand_s p.agreed.rand_p (granting_text g.granted) in
        let readable : IsReadable g.granted = subst (λ r. IfSome r IsReadable) g.held
        (ring_readable h.node h.taken.memory (at_place NodeOk x.after.nodes p.node h.node h.there nodes) h.taken.runs) in
        let found = was_made t g.tag in
        let at = listed_at (λ d. d.made) before found.one (subst (Among found.one) made (among_at w.made found.place found.one found.there)) in
        let out = third_of p.agreed g.granted h.node.eui g.identifier at.entry readable found.one at.here
        (each_one (IsSentIn at.entry.trace.happenings.answer at.entry.trace.issued) found.one at.entry.trace.made
        (each_one Makes at.entry before makers at.among) at.here) found.is in
        record {
          node = h.node;
          there = h.there;
          memory = h.taken.memory;
          runs = h.taken.runs;
          granted = g.granted;
          ring = g.held;
          eui = out.to;
          named = out.named;
          keying = at.entry;
          earlier = at.among;
          sent = out.sent;
        }

    taken_before : (o : Option Pairing) → IfSome o (TakenAt x.after.nodes x.trace.opened) → IfSome o (IsTakenAsSent before x)
    taken_before None h = tt
    taken_before (Some p) h = sent_before p h

-- # A joining that is done

-- Each grant that was taken in a history had gone out before.
data AreTaken : List Entry → Type 0 where
  NothingYet : AreTaken []
  OneMore : (before : List Entry) (x : Entry) → AreTaken before → IfSome x.trace.taken (IsTakenAsSent before x) → AreTaken (before ++ x ∷ [])

done_here : (before : List Entry) (x : Entry) (done : Pairing) (o : Option Pairing) → x.trace.taken ≡ o → IfSome o (IsTakenAsSent before x)
    → Among done (one_of o) → IsDoneAsTaken (before ++ x ∷ []) done
done_here before x done None e h a = absurd (none_among done [] refl a)
done_here before x done (Some p) e h a =
    let same : done ≡ p = only_one done p (p ∷ []) refl a in
    record { earlier = before; taking = x; later = []; split = refl; taken = e ∙ ap Some (sym same); as_sent = subst (IsTakenAsSent before x) (sym same) h }

done_as : (before : List Entry) (done : Pairing) → AreTaken before → Among done (takings before) → IsDoneAsTaken before done
done_as before done NothingYet a = absurd (none_among done [] refl a)
done_as before done (OneMore b x rest h) a = ⊎_elim
    (λ (c : Among done (takings b)).
    let d = done_as b done rest c in
    record {
      earlier = d.earlier;
      taking = d.taking;
      later = d.later ++ x ∷ [];
      split = ap (λ (es : List Entry). es ++ x ∷ []) d.split ∙ append_assoc d.earlier (d.taking ∷ d.later) (x ∷ []);
      taken = d.taken;
      as_sent = d.as_sent;
    })
    (λ (c : Among done (one_of x.trace.taken)). done_here b x done x.trace.taken refl h c)
    (among_parts (takings b) (one_of x.trace.taken) done (subst (Among done) (all_of_one (λ d. one_of d.taken) b x) a))

done_so : (before : List Entry) → AreTaken before → (o : Option Pairing) → IfSome o (λ done. WasTaken done (takings before)) → IfSome o (IsDoneAsTaken before)
done_so before takers None h = tt
done_so before takers (Some done) h = done_as before done takers (among_at (takings before) h.place done h.is)

-- # Runs

module _ (fits : KeepsRanges network) where
  entry_tells : (w : World) (x : Entry) → Lawful network w x → (given : List Issued) → Keyed w given → Reports x.trace → TraceTells x.after.nodes x.trace
  entry_tells w x l given k reports =
      let b = l.before in
      let h : FurtherTells (Ok (x.after, x.trace)) = subst FurtherTells l.step
      (line_tells network fits w b.ok b.flown given k x.event _ (further_step_is network w x.event l.says)) in
      h reports

  module _ (all : List Sending) (home : ℕ → ℕ) where
    agree_from : (before : List Entry) (w : World) → Keyed w (issued before) → w.made ≡ all_of (λ d. d.made) before → Each Makes before
        → AreTaken before → (entries : List Entry) → AreLawful network w entries → HoldsAfterEach all home before entries → KeysAgreeAfter before entries
        → IsForgedRight network w entries → CountsRight w entries → AreTracedRight w entries → AgreeOnGrantsAfter before entries
    agree_from before w k made makers takers [] lawful holds keys right counts traced = tt
    agree_from before w k made makers takers (x ∷ xs) lawful holds keys right counts traced = λ honest.
        let tells = entry_tells w x lawful.0 (issued before) k (record { took = traced.0.taken; none_issued = traced.0.none_issued }) in
        let taken = taken_before w x xs right honest before made makers lawful.0.after.ok.nodes x.trace.taken tells.took in
        let agreed = keys honest in
        let held = holds honest in (
          taken,
          done_so before takers x.trace.done agreed.0,
          agree_from (before ++ x ∷ []) x.after held.0.keyed
              (counts.0.made ∙ ap (λ (ts : List PairTag). ts ++ x.trace.made) made ∙ sym (all_of_one (λ d. d.made) before x))
              (each_append Makes before (x ∷ []) makers (tells.made, tt)) (OneMore before x takers taken) xs lawful.1 held.1 agreed.1 right.1 counts.1 traced.1,
        )

    -- nothing was made or taken before the first event
    pub agree_on_grants : (entries : List Entry) → AreLawful network start entries → HoldsAfterEach all home [] entries → KeysAgree entries
        → IsForgedRight network start entries → CountsRight start entries → AreTracedRight start entries → AgreeOnGrantsAfter [] entries
    agree_on_grants entries lawful holds keys right counts traced =
        agree_from [] start start_keyed refl tt NothingYet entries lawful holds keys right counts traced
