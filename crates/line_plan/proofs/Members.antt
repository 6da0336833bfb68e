-- Members that are changed, and what options make of them.
use Rattle.std.proofs.Common.{◌≡◌, ◌<◌, ℕ, ◌+◌, ◌*◌, ◌==◌, false, List, [], ◌∷◌, length, drop, get_or, nat_lt, ◌/◌, ◌-◌, ◌≤◌, IfOk}
use Rattle.std.proofs.Common.{Option, None, Some, option_map, Result, Ok, Err, String, Global, Bor}
use Rattle.std.proofs.Common.{rules, string_bytes, Ordering, Less, Equal, Greater, refl, sym, ◌∙◌, ap, arith}
use Rattle.std.proofs.lemmas.Bool.{lt-ltb}
use Rattle.std.proofs.lemmas.List.{drop_more, length-drop}
use Rattle.std.specs.List.{position_or_len, before_first, after_first}
use Rattle.std.specs.Option.{MatchOption}
use Rattle.std.specs.Ordering.{match_ordering}
use Rattle.std.specs.String.{string_cmp}
use Rattle.std.specs.BTreeMap.{insert_entry}
use Rattle.toml.specs.declared.value.Value.{Value}
use Rattle.toml.specs.Data.{Data, table, Members, member, get_member}
use Rattle.toml.specs.View.{view, members_view}
use Rattle.line_plan.specs.declared.options.OptionFault.{OptionFault}
use Rattle.line_plan.specs.Options.{with_member, inner_of, with_inner, split_at_first, with_parts, with_path, with_option, with_options, ◌>>=◌}

abbrev Entry : Type 0
Entry = String Global × Value

inserted_by : (o : Ordering) (k : String Global) (v : Value) (e : Entry) (es : List Entry)
    → members_view (insert_entry string_cmp es k v) ≡ with_member (string_bytes k) (view v) (members_view es)
    → members_view (match_ordering o ((k, v) ∷ e ∷ es) ((e.0, v) ∷ es) (e ∷ insert_entry string_cmp es k v))
    ≡ match_ordering o (member (string_bytes k) (view v) (members_view (e ∷ es))) (member (string_bytes e.0) (view v) (members_view es))
    (member (string_bytes e.0) (view e.1) (with_member (string_bytes k) (view v) (members_view es)))
inserted_by Less k v e es more = refl
inserted_by Equal k v e es more = refl
inserted_by Greater k v e es more = ap (member (string_bytes e.0) (view e.1)) more

inserted : (k : String Global) (v : Value) (es : List Entry)
    → members_view (insert_entry string_cmp es k v) ≡ with_member (string_bytes k) (view v) (members_view es)
inserted k v [] = refl
inserted k v (e ∷ es) = inserted_by (string_cmp k e.0) k v e es (inserted k v es)

-- an entry that was inserted
pub put_there : (k : String Global) (name : List ℕ) (v : Value) (es new : List Entry) → string_bytes k ≡ name → new ≡ insert_entry string_cmp es k v
    → members_view new ≡ with_member name (view v) (members_view es)
put_there k name v es new same is = ap members_view is ∙ inserted k v es ∙ ap (λ (n : List ℕ). with_member n (view v) (members_view es)) same

-- a result that is a fault, or has what follows from it
pub ok_as : {T E : Type 0} (P Q : T → Type 0) (r : Result T E) → ((x : T) → P x → Q x) → IfOk r P → IfOk r Q
ok_as P Q (Ok x) also p = also x p
ok_as P Q (Err e) also p = tt

-- a key of a table within
pub put_both : (name key : List ℕ) (d : Data) (old inner more new : Members) (v : Data) → more ≡ with_member key d inner → v ≡ table more
    → new ≡ with_member name v old → Some new ≡ Some (with_member name (table (with_member key d inner)) old)
put_both name key d old inner more new v first is second =
    ap (λ (m : Members). Some m) second
    ∙ ap (λ (e : Data). Some (with_member name e old)) is
    ∙ ap (λ (m : Members). Some (with_member name (table m) old)) first

pub put_inside : (name key : List ℕ) (d : Data) (old inner : Members) (result : Option Members) → Some inner ≡ inner_of (get_member name old)
    → result ≡ Some (with_member name (table (with_member key d inner)) old) → result ≡ with_inner name key d old
unfolding with_inner
put_inside name key d old inner result found is =
    is ∙ ap (option_map (λ (i : Members). with_member name (table (with_member key d i)) old)) found

-- no table within
pub not_inside : (name key : List ℕ) (d : Data) (members : Members) → None ≡ inner_of (get_member name members) → None ≡ with_inner name key d members
unfolding with_inner
not_inside name key d members none =
    ap (option_map (λ (i : Members). with_member name (table (with_member key d i)) members)) none

-- a text with or without a mark
pub split_of : (mark : ℕ) (text : List ℕ) (r : Option (Bor (List ℕ) × Bor (List ℕ)))
    → MatchOption r (position_or_len (λ b. b == mark) text ≡ length text)
    (λ x. (x.0.now ≡ before_first (λ b. b == mark) text) × (x.1.now ≡ after_first (λ b. b == mark) text)
    × (position_or_len (λ b. b == mark) text < length text))
    → option_map (λ p. (p.0.now, p.1.now)) r ≡ split_at_first mark text
unfolding split_at_first
split_of mark text None all = rw (all, lt-irr (length text)) refl
  where
    lt-irr : (n : ℕ) → nat_lt n n ≡ false
    lt-irr n = search rules
split_of mark text (Some x) (before, after, there) =
    rw (lt-ltb (position_or_len (λ b. b == mark) text) (length text) there, before, after) refl

-- a path without a point, and one with a point
pub by_key : (path : List ℕ) (d : Data) (members new : Members) → None ≡ split_at_first 46 path → new ≡ with_member path d members
    → Some new ≡ with_path path d members
unfolding with_path
by_key path d members new none is = ap (λ (m : Members). Some m) is ∙ ap (λ (p : Option (List ℕ × List ℕ)). with_parts p path d members) none

pub by_parts : (path front back : List ℕ) (d : Data) (members : Members) (result : Option Members) → Some (front, back) ≡ split_at_first 46 path
    → result ≡ with_inner front back d members → result ≡ with_path path d members
unfolding with_path
by_parts path front back d members result some is = is ∙ ap (λ (p : Option (List ℕ × List ℕ)). with_parts p path d members) some

-- # Options one after the other

-- options before which this many words stand
abbrev pub rest_of : ℕ → List (String Global) → Members → Result Members OptionFault
rest_of nth options members = with_options (2 * nth) (drop (2 * nth) options) members

next_by : (options : List (String Global)) (nth : ℕ) (a b : String Global) (name word : List ℕ) (old : Members) (changed : Result Members OptionFault)
    → a ≡ get_or options (2 * nth) a → b ≡ get_or options (2 * nth + 1) b → name ≡ string_bytes a → word ≡ string_bytes b
    → 2 * nth + 1 < length options → with_option (2 * nth + 1) name word old ≡ changed
    → rest_of nth options old ≡ changed >>= λ more. rest_of (nth + 1) options more
next_by options nth a b name word old changed is-a is-b is-name is-word there is =
    ap (λ (os : List (String Global)). with_options (2 * nth) os old) both
    ∙ ap (λ (c : Result Members OptionFault). c >>= λ more. with_options (2 * nth + 2) (drop (2 * nth + 2) options) more) one
    ∙ ap (λ (n : ℕ). changed >>= λ more. with_options n (drop n options) more) (omega arith)
  where
    one : with_option (2 * nth + 1) (string_bytes a) (string_bytes b) old ≡ changed
    one = ap (λ (n : List ℕ). with_option (2 * nth + 1) n (string_bytes b) old) (sym is-name)
        ∙ ap (λ (w : List ℕ). with_option (2 * nth + 1) name w old) (sym is-word) ∙ is

    behind : drop (2 * nth + 1) options ≡ b ∷ drop (2 * nth + 2) options
    behind = drop_more options (2 * nth + 1) b there
        ∙ ap (λ (s : String Global). s ∷ drop (2 * nth + 1 + 1) options) (sym is-b)
        ∙ ap (λ (n : ℕ). b ∷ drop n options) (omega arith)

    both : drop (2 * nth) options ≡ a ∷ b ∷ drop (2 * nth + 2) options
    both = drop_more options (2 * nth) a (omega (arith, there))
        ∙ ap (λ (s : String Global). s ∷ drop (2 * nth + 1) options) (sym is-a)
        ∙ ap (λ (os : List (String Global)). a ∷ os) behind

-- one option more
pub one_more : (options : List (String Global)) (nth : ℕ) (a b : String Global) (name word : List ℕ) (old more : Members)
    → a ≡ get_or options (2 * nth) a → b ≡ get_or options (2 * nth + 1) b → name ≡ string_bytes a → word ≡ string_bytes b
    → nth < length options / 2 → with_option (2 * nth + 1) name word old ≡ Ok more → rest_of nth options old ≡ rest_of (nth + 1) options more
one_more options nth a b name word old more is-a is-b is-name is-word there is =
    next_by options nth a b name word old (Ok more) is-a is-b is-name is-word (omega (arith, there)) is

refused_by : (options : List (String Global)) (nth : ℕ) (a b : String Global) (name word : List ℕ) (old : Members) (fault : OptionFault)
    → a ≡ get_or options (2 * nth) a → b ≡ get_or options (2 * nth + 1) b → name ≡ string_bytes a → word ≡ string_bytes b
    → nth < length options / 2 → with_option (2 * nth + 1) name word old ≡ Err fault → rest_of nth options old ≡ Err fault
refused_by options nth a b name word old fault is-a is-b is-name is-word there is =
    next_by options nth a b name word old (Err fault) is-a is-b is-name is-word (omega (arith, there)) is

-- fewer than two words change nothing
no_more : (place : ℕ) (options : List (String Global)) (old : Members) → length options < 2 → with_options place options old ≡ Ok old
no_more place [] old few = refl
no_more place (o ∷ []) old few = refl
no_more place (o ∷ p ∷ options) old few = absurd (omega (arith, few))

-- all options were taken
pub all_done : (options : List (String Global)) (nth : ℕ) (old : Members) → length options / 2 ≤ nth → rest_of nth options old ≡ Ok old
all_done options nth old over =
    no_more (2 * nth) (drop (2 * nth) options) old (omega (arith, over, length-drop (2 * nth) options))
