-- How a job's books are kept.
use Rattle.std.proofs.Common.{◌≡◌, ℕ, zero, suc, ◌+◌, ◌<◌, ◌≤◌, Bool, true, false, cond, ltb, leb, List, [], ◌∷◌, ◌++◌, map, length, get_or, take, set, ℤ, pos, ◌+ℤ◌, nat_abs, Some, Option, sym, refl, ap, ◌∙◌, subst, ap₂, add-one, arith}
use mathlib.Core.Logic.{∥∥₁_elim}
use native.Mathlib.Nat.{ℕ_set}
use native.Mathlib.Bridge.{le_prop}
use Rattle.std.specs.List.{slice_get}
use Rattle.std.proofs.lemmas.List.{take-set-le, take_more, take_more_set, map-append, take-append-le, take_all, get_or-set_same, get_or-set_other}
use Rattle.std.proofs.lemmas.Bool.{le-leb, lt-leb, leb-true, ltb-true, eq-eqb, ne_eqb}
use Rattle.limits.specs.declared.Limit.{Limit}
use Rattle.limits.specs.Refusals.{done, refused}
use Rattle.grades.specs.Laws.{Kind}
use Rattle.diagrams.specs.declared.Node.{Node}
use Rattle.diagrams.specs.declared.Edge.{Edge}
use Rattle.diagrams.specs.Needs.{needs}
use Rattle.diagrams.specs.Apply.{Grown}
use Rattle.diagrams.proofs.Held.{held_count}
use Rattle.diagrams.proofs.Settle.{value_terminal}
use Rattle.jobs.specs.Books.{Held, one, blank, limits_of, product_of, Books}
use Rattle.jobs.specs.Calls.{but_last, empty?, tested, and_then, closed, named_below, standing, asked, all_in_range}
use Rattle.jobs.specs.declared.ledger.Record.{Record}

none_there : {P : Type 0} (k : ℕ) (n : Node) → slice_get [] k ≡ Some n → P
none_there k n e = let z : ◌≡◌ {A = ℕ} 0 1 = cc in absurd (omega arith)

empty_held : (parts : ℕ) → Held parts [] [] one
empty_held parts = record {
  holds = record {
    sound = record {
      below = λ k n e. none_there k n e;
      left_higher = λ k n e. none_there k n e;
      right_higher = λ k n e. none_there k n e;
      reduced = λ k n e. none_there k n e;
      unique = λ j k n e. none_there j n e;
    };
    no_other = λ k n e. none_there k n e;
    each = λ t m. absurd m;
  };
  ordered = record { below = λ k n e. none_there k n e; left = λ k n e. none_there k n e; right = λ k n e. none_there k n e };
  small = λ k n e. none_there k n e;
  under = tt;
  denotes = λ c l. ap (λ z. pos 1 +ℤ z) (value_terminal [] 0 c);
}

pub empty_books : (parts : ℕ) (ns : List Node) (rs : List Record) (count : ℕ) → ns ≡ [] → count ≡ 0 → ∥ Books parts ns rs count ∥₁
empty_books parts ns rs count e z = ∣ subst (λ n. Books parts ns rs n) (sym z) (subst (λ xs. Held parts [] xs one) (sym e) (empty_held parts)) ∣₁

pub top_held : (parts : ℕ) (ns : List Node) (rs : List Record) (count : ℕ) → Books parts ns rs count → Held parts (limits_of rs count) ns (product_of rs count)
top_held parts ns rs zero b = b
top_held parts ns rs (suc k) b = b.0

pub used_is : (parts : ℕ) (ns : List Node) (rs : List Record) (count : ℕ) → ∥ Books parts ns rs count ∥₁ → length ns ≡ needs parts (limits_of rs count)
used_is parts ns rs count books = ∥∥₁_elim books (ℕ_set _ _) (λ b. held_count parts ns (limits_of rs count) (top_held parts ns rs count b).holds)

-- as long as the records below count stay
records_kept : (parts : ℕ) (rs ss : List Record) (count : ℕ) → ((j : ℕ) → j < count → get_or ss j blank ≡ get_or rs j blank) → ((j : ℕ) → j ≤ count → take j ss ≡ take j rs) → (ns : List Node) → Books parts ns rs count → Books parts ns ss count
records_kept parts rs ss zero reads fronts ns b = b
records_kept parts rs ss (suc k) reads fronts ns b =
    let r : get_or ss k blank ≡ get_or rs k blank = reads k (omega arith) in
    let m : (get_or ss k blank).mark ≡ (get_or rs k blank).mark = ap (λ (x : Record). x.mark) r in (
      subst (λ ls. Held parts (map (λ (x : Record). x.limit) ls) ns (get_or ss k blank).product) (sym (fronts (suc k) (omega arith)))
          (subst (λ (x : Record). Held parts (limits_of rs (suc k)) ns x.product) (sym r) b.0),
      omega (arith, b.1),
      subst (λ u. Books parts (take u ns) ss k) (sym m) (records_kept parts rs ss k (λ j h. reads j (omega arith)) (λ j h. fronts j (omega arith)) (take (get_or rs k blank).mark ns) b.2),
    )

-- a limit more
limits_more : (rs : List Record) (count : ℕ) (r : Record) → count < length rs → limits_of (set rs count r) (count + 1) ≡ limits_of rs count ++ (r.limit ∷ [])
limits_more rs count r h = ap (map (λ (x : Record). x.limit)) (take_more_set rs count r h) ∙ map-append (λ (x : Record). x.limit) (take count rs) (r ∷ [])

books_more : (parts : ℕ) (ns new : List Node) (rs : List Record) (count : ℕ) (r : Record) → count < length rs → take (length ns) new ≡ ns → length ns ≤ length new → r.mark ≡ length ns → Held parts (limits_of rs count ++ (r.limit ∷ [])) new r.product → Books parts ns rs count → Books parts new (set rs count r) (count + 1)
books_more parts ns new rs count r inside front grows mark held b =
    let read : get_or (set rs count r) count blank ≡ r = get_or-set_same rs count r blank inside in
    let m : (get_or (set rs count r) count blank).mark ≡ length ns = ap (λ (x : Record). x.mark) read ∙ mark in
    let old : Books parts ns (set rs count r) count =
    records_kept parts rs (set rs count r) count (λ j h. get_or-set_other rs count j r blank (λ e. omega arith)) (λ j h. take-set-le j rs count r h) ns b in
    let top : Held parts (limits_of (set rs count r) (suc count)) new (get_or (set rs count r) count blank).product =
    subst (λ (x : Record). Held parts (limits_of (set rs count r) (suc count)) new x.product) (sym read)
    (subst (λ j. Held parts (limits_of (set rs count r) j) new r.product) (add-one count)
    (subst (λ ls. Held parts ls new r.product) (sym (limits_more rs count r inside)) held)) in
    let whole : Books parts new (set rs count r) (suc count) = (top, omega arith, subst (λ u. Books parts (take u new) (set rs count r) count) (sym m) (subst (λ xs. Books parts xs (set rs count r) count) (sym front) old)) in
    subst (λ j. Books parts new (set rs count r) j) (sym (add-one count)) whole

grown_front : (ns new : List Node) → Grown ns new → take (length ns) new ≡ ns
grown_front ns new g = ap (take (length ns)) g.is ∙ (take-append-le (length ns) ns g.more (omega arith) ∙ take_all (length ns) ns (omega arith))

grown_longer : (ns more : List Node) → length ns ≤ length (ns ++ more)
grown_longer [] more = omega arith
grown_longer (n ∷ ns) more = let h = grown_longer ns more in omega arith

module _ (parts : ℕ) (ns new : List Node) (rs : List Record) (count mark : ℕ) (l : Limit) (e : Edge) (inside : count < length rs) (books : ∥ Books parts ns rs count ∥₁) (mark-is : mark ≡ length ns) (grown : Grown ns new) (held : Held parts (limits_of rs count) ns (product_of rs count) → Held parts (limits_of rs count ++ (l ∷ [])) new e) where
  pub more_needs : length new ≡ needs parts (limits_of rs count ++ (l ∷ []))
  more_needs = ∥∥₁_elim books (ℕ_set _ _) (λ b. held_count parts new (limits_of rs count ++ (l ∷ [])) (held (top_held parts ns rs count b)).holds)

  module _ (ss : List Record) (next : ℕ) (es : ss ≡ set rs count (record { limit = l; product = e; mark = mark })) (en : next ≡ count + 1) where
    pub more_books : ∥ Books parts new ss next ∥₁
    more_books = ∥∥₁_elim books squash₁ (λ b. ∣ subst (λ n. Books parts new ss n) (sym en) (subst (λ xs. Books parts new xs (count + 1)) (sym es)
        (books_more parts ns new rs count (record { limit = l; product = e; mark = mark }) inside (grown_front ns new grown) (subst (λ xs. length ns ≤ length xs) (sym grown.is) (grown_longer ns grown.more)) mark-is (held (top_held parts ns rs count b)) b)) ∣₁)

    pub more_limits : limits_of ss next ≡ limits_of rs count ++ (l ∷ [])
    more_limits = ap₂ limits_of es en ∙ limits_more rs count (record { limit = l; product = e; mark = mark }) inside

-- a limit less
but_last_push : {A : Type 0} (xs : List A) (x : A) → but_last (xs ++ (x ∷ [])) ≡ xs
but_last_push [] x = refl
but_last_push (y ∷ []) x = refl
but_last_push (y ∷ (z ∷ xs)) x = ap (λ l. y ∷ l) (but_last_push (z ∷ xs) x)

limits_less : (rs : List Record) (count : ℕ) → count < length rs → but_last (limits_of rs (count + 1)) ≡ limits_of rs count
limits_less rs count h = ap but_last (ap (map (λ (x : Record). x.limit)) (take_more rs count blank h) ∙ map-append (λ (x : Record). x.limit) (take count rs) (get_or rs count blank ∷ [])) ∙ but_last_push (limits_of rs count) (get_or rs count blank).limit

limits_some : (rs : List Record) (count : ℕ) → count < length rs → empty? (limits_of rs (count + 1)) ≡ false
limits_some [] count h = absurd (omega arith)
limits_some (r ∷ rs) count h = rw add-one refl

module _ (parts : ℕ) (ns : List Node) (rs ss : List Record) (count less mark : ℕ) (books : ∥ Books parts ns rs count ∥₁) (es : ss ≡ rs) (e : less + 1 ≡ count) (m : mark ≡ (get_or rs less blank).mark) where
  down : Books parts ns rs count → ((get_or rs less blank).mark ≤ length ns) × Books parts (take (get_or rs less blank).mark ns) rs less
  down b = let x : Books parts ns rs (suc less) = subst (λ n. Books parts ns rs n) (sym e ∙ add-one less) b in (x.1, x.2)

  pub back_fits : mark ≤ length ns
  back_fits = ∥∥₁_elim books le_prop (λ b. omega (arith, (down b).0))

  pub back_books : (new : List Node) → new ≡ take mark ns → ∥ Books parts new ss less ∥₁
  back_books new is = ∥∥₁_elim books squash₁ (λ b. ∣ subst (λ xs. Books parts xs ss less) (sym (is ∙ ap (λ u. take u ns) m)) (subst (λ xs. Books parts (take (get_or rs less blank).mark ns) xs less) (sym es) (down b).1) ∣₁)

  pub back_limits : less < length rs → limits_of ss less ≡ but_last (limits_of rs count)
  back_limits h = ap (λ xs. limits_of xs less) es ∙ (sym (limits_less rs less h) ∙ ap (λ n. but_last (limits_of rs n)) e)

  pub back_some : less < length rs → empty? (limits_of rs count) ≡ false
  back_some h = ap (λ n. empty? (limits_of rs n)) (sym e) ∙ limits_some rs less h

pub limits_length : (rs : List Record) (count : ℕ) → count ≤ length rs → length (limits_of rs count) ≡ count
limits_length rs zero h = refl
limits_length [] (suc k) h = absurd (omega arith)
limits_length (r ∷ rs) (suc k) h = ap suc (limits_length rs k (omega arith))

-- close's replies
pub closed_rest : (room parts count : ℕ) (ls : List Limit) (named : Option ℕ) (l : Limit) → length ls ≡ count → done ≡ tested parts count named l.bound → cond (leb (needs parts (ls ++ (l ∷ []))) room) done (refused 15) ≡ closed room (standing parts ls) named l
closed_rest room parts count ls named l e h =
    ap (λ r. and_then r (cond (leb (needs parts (ls ++ (l ∷ []))) room) done (refused 15))) (h ∙ ap (λ m. tested parts m named l.bound) (sym e))

-- what the tests let through
pub passed : (parts count : ℕ) (named : Option ℕ) (bound : ℤ) → done ≡ tested parts count named bound → (count < 64) × (nat_abs bound ≤ 100000000)
passed parts count named bound h = go (leb (nat_abs bound) 100000000) (named_below named parts) (ltb count 64) refl refl h
  where
    go : (x y z : Bool) → leb (nat_abs bound) 100000000 ≡ x → ltb count 64 ≡ z → done ≡ cond x (cond y (cond z done (refused 14)) (refused 7)) (refused 9) → (count < 64) × (nat_abs bound ≤ 100000000)
    go true true true b e q = (ltb-true count 64 e, leb-true (nat_abs bound) 100000000 b)
    go true true false b e q = let z : ◌≡◌ {A = ℕ} 0 1 = cc in absurd (omega arith)
    go true false w b e q = let z : ◌≡◌ {A = ℕ} 0 1 = cc in absurd (omega arith)
    go false v w b e q = let z : ◌≡◌ {A = ℕ} 0 1 = cc in absurd (omega arith)

-- solve's replies
pub asked_count : {G : Type 0} (K : Kind G) (parts rows : ℕ) (ls : List Limit) (ws : List G) → (length ws ≡ parts → ⊥) → refused 10 ≡ asked K (standing parts ls) ws rows
asked_count K parts rows ls ws h = sym (ap (λ b. cond b (cond (all_in_range K ws) (cond (leb (needs parts ls) rows) done (refused 11)) (refused 9)) (refused 10)) (ne_eqb (length ws) parts h))

module _ {G : Type 0} (K : Kind G) (parts rows used : ℕ) (ls : List Limit) (ws : List G) (count : length ws ≡ parts) where
  pub asked_range : all_in_range K ws ≡ false → refused 9 ≡ asked K (standing parts ls) ws rows
  asked_range r = sym (ap₂ (λ x y. cond x (cond y (cond (leb (needs parts ls) rows) done (refused 11)) (refused 9)) (refused 10)) (eq-eqb (length ws) parts count) r)

  asked_rest : all_in_range K ws ≡ true → cond (leb (needs parts ls) rows) done (refused 11) ≡ asked K (standing parts ls) ws rows
  asked_rest r = sym (ap₂ (λ x y. cond x (cond y (cond (leb (needs parts ls) rows) done (refused 11)) (refused 9)) (refused 10)) (eq-eqb (length ws) parts count) r)

  pub asked_short : all_in_range K ws ≡ true → used ≡ needs parts ls → rows < used → refused 11 ≡ asked K (standing parts ls) ws rows
  asked_short r u h = sym (ap (λ b. cond b done (refused 11)) (lt-leb (needs parts ls) rows (omega arith))) ∙ asked_rest r

  pub asked_done : all_in_range K ws ≡ true → used ≡ needs parts ls → used ≤ rows → done ≡ asked K (standing parts ls) ws rows
  asked_done r u h = sym (ap (λ b. cond b done (refused 11)) (le-leb (needs parts ls) rows (omega arith))) ∙ asked_rest r
