-- The laws of runs before the first forged event that rest on addresses and issued keys.
use Rattle.std.proofs.Common.{◌<◌, List, [], ◌∷◌, ◌++◌, length, sym, subst, arith}
use Rattle.std.specs.Prelude.{All, IfSome}
use Rattle.std.proofs.lemmas.List.Elements.{All-nil}
use Rattle.node_rules.specs.Ciphers.{Ciphers}
use Rattle.line_rules.specs.Agreement.{KeysAgreeAfter}
use Rattle.line_rules.specs.Nonces.{AreApart, NoncesDiffer}
use Rattle.line_rules.specs.Runs.{Entry, issued, one_of, takings}
use Rattle.line_rules.specs.Worlds.{World, Pairing, start}
use Rattle.line_laws.specs.Agreed.{Confirmed}
use Rattle.line_laws.specs.Issued.{EveryJoiningAgrees, IsIssuedAfter, OnlyIssuedKeys}
use Rattle.line_laws.specs.Keyed.{Among, Each, Keyed}
use Rattle.line_laws.specs.Laws.{EveryAddressDiffers, EveryNonceDiffers}
use Rattle.line_laws.specs.Live.{EveryFlightFalls, FlightsAlwaysFall}
use Rattle.line_laws.specs.Owed.{KeepsRanges}
use Rattle.line_laws.proofs.AddressBook.{Grows}
use Rattle.line_laws.proofs.AgreeRuns.{Agreed_in, agreed, if_taken}
use Rattle.line_laws.proofs.FurtherAgrees.{line_agrees, line_names}
use Rattle.line_laws.proofs.Homes.{at_length}
use Rattle.line_laws.proofs.IssueRuns.{IsNamed, all_of_one, start_keyed, world_holds}
use Rattle.line_laws.proofs.IssueWords.{each_append}
use Rattle.line_laws.proofs.IssuedNamed.{StepNamed}
use Rattle.line_laws.proofs.LineRuns.{AreLawful, books_on, ends_at, keyed_at, lawful, on, senders_at}
use Rattle.line_laws.proofs.NonceRuns.{AtHome, later_homes, nodes_apart, nonces_differ}

module _ (ciphers : Ciphers) (fits : KeepsRanges ciphers) where
  -- # Addresses and nonces

  apart_from : (w : World) (before : List Entry) → Keyed w (issued before) → (entries : List Entry) → AreLawful ciphers w entries → AreApart entries
  apart_from w before k [] l = tt
  apart_from w before k (x ∷ xs) l = λ honest.
      let k' = keyed_at ciphers fits w x l.0 before k honest in
      (nodes_apart x.after (issued (before ++ x ∷ [])) k' l.0.after.ok, apart_from x.after (before ++ x ∷ []) k' xs l.1)

  nonces_from : (w : World) (before : List Entry) (k : Keyed w (issued before)) → All (AtHome k.book w) w.flights → (entries : List Entry)
      → AreLawful ciphers w entries → NoncesDiffer entries
  nonces_from w before k homes [] l = tt
  nonces_from w before k homes (x ∷ xs) l = λ honest.
      let k' = keyed_at ciphers fits w x l.0 before k honest in
      let goes = on ciphers fits w x l.0 in
      let later = books_on ciphers fits w x l.0 (issued before) k in
      let book : 0 < length w.nodes → Grows k.book k'.book = λ some.
      let nodes = goes.nodes in
      let c = at_length x.after.nodes 0 (omega arith) in
      (later some).grows c.one c.is k'.book (k'.coordinator c.one c.is).book_kept in
      let all = later_homes w x.after (issued before) (issued (before ++ x ∷ [])) k k' l.0.after.ok book (λ some. (later some).euis) goes.flights
      l.0.before.ok.rising.homes homes (senders_at ciphers fits w x l.0) in (
        nonces_differ x.after (issued (before ++ x ∷ [])) k' l.0.after.ok all,
        nonces_from x.after (before ++ x ∷ []) k' all xs l.1,
      )

  -- # Live flights

  falls_from : (w : World) (before : List Entry) → Keyed w (issued before) → (entries : List Entry) → AreLawful ciphers w entries
      → FlightsAlwaysFall ciphers w entries
  falls_from w before k [] l = tt
  falls_from w before k (x ∷ xs) l = (
    (ends_at ciphers fits w x l.0 (issued before) k).falls,
    λ honest. falls_from x.after (before ++ x ∷ []) (keyed_at ciphers fits w x l.0 before k honest) xs l.1,
  )

  -- # Issued keys and joinings

  only_from : (w : World) (before : List Entry) → Keyed w (issued before) → Each IsNamed (issued before) → (entries : List Entry)
      → AreLawful ciphers w entries → IsIssuedAfter before entries
  only_from w before k names [] l = tt
  only_from w before k names (x ∷ xs) l = λ honest.
      let b = l.0.before in
      let k' = keyed_at ciphers fits w x l.0 before k honest in
      let named : Each IsNamed x.trace.issued = subst StepNamed l.0.step (line_names ciphers fits w b.ok b.flown b.logs x.event l.0.says) in
      let names' : Each IsNamed (issued (before ++ x ∷ [])) = subst (Each IsNamed) (sym (all_of_one (λ d. d.issued) before x))
      (each_append IsNamed (issued before) x.trace.issued names named) in (
        world_holds x.after (issued (before ++ x ∷ [])) l.0.after.ok k' names',
        only_from x.after (before ++ x ∷ []) k' names' xs l.1,
      )

  agrees_from : (w : World) (before : List Entry) → Keyed w (issued before) → Confirmed w (takings before) → (entries : List Entry)
      → AreLawful ciphers w entries → KeysAgreeAfter before entries
  agrees_from w before k c [] l = tt
  agrees_from w before k c (x ∷ xs) l = λ honest.
      let b = l.0.before in
      let both : Confirmed x.after (takings before ++ one_of x.trace.taken) × IfSome x.trace.done (λ (p : Pairing). Among p (takings before)) =
      subst (Agreed_in (takings before)) l.0.step
      (agreed w (takings before) _ (line_agrees ciphers fits w b.ok b.flown (issued before) k (takings before) c b.logs x.event l.0.says)) honest in
      let c' : Confirmed x.after (takings (before ++ x ∷ [])) = subst (Confirmed x.after) (sym (all_of_one (λ d. one_of d.taken) before x)) both.0 in (
        if_taken x.trace.done (takings before) both.1,
        agrees_from x.after (before ++ x ∷ []) (keyed_at ciphers fits w x l.0 before k honest) c' xs l.1,
      )

-- # Every run

pub every_address : EveryAddressDiffers
every_address ciphers fits entries r fly = apart_from ciphers fits start [] start_keyed entries (lawful ciphers fits entries r fly)

pub every_nonce : EveryNonceDiffers
every_nonce ciphers fits entries r fly =
    nonces_from ciphers fits start [] start_keyed (All-nil (AtHome start_keyed.book start)) entries (lawful ciphers fits entries r fly)

pub every_fall : EveryFlightFalls
every_fall ciphers fits entries r fly = falls_from ciphers fits start [] start_keyed entries (lawful ciphers fits entries r fly)

pub only_issued : OnlyIssuedKeys
only_issued ciphers fits entries r fly = only_from ciphers fits start [] start_keyed tt entries (lawful ciphers fits entries r fly)

pub every_joining : EveryJoiningAgrees
every_joining ciphers fits entries r fly = agrees_from ciphers fits start [] start_keyed tt entries (lawful ciphers fits entries r fly)
