-- Terms make a draft.
use Rattle.std.proofs.Common.{◌≡◌, ℕ, ◌+◌, ◌≤◌, true, cond, ltb, leb, List, [], ◌∷◌, set, replicate, ℤ, pos, nat_abs, Some, None, Option, sym, ap, ◌∙◌, subst, arith, lt-ltb, le-leb}
use Rattle.std.specs.Iterator.{Yields}
use Rattle.std.specs.Iterator.Runs.{WholeRun}
use Rattle.std.proofs.iter.runs.Made.{took}
use Rattle.std.proofs.lemmas.Bool.{leb-true}
use Rattle.fields.specs.Fields.{found, fault, and_then, number_at, signed_at, in_range, read_term, coefficient_at}
use Rattle.spelling.proofs.Sole.{then_from, cond_from}
use Rattle.limits.specs.declared.drafts.Term.{Term}
use Rattle.limits.specs.Refusals.{done, refused}
use Rattle.limits.specs.Drafts.{tested, coefficients_after, last_after, drafted, opened, with_term, with_terms}
use Rattle.records.specs.Meanings.{LeftIn, GivesTerm}
use Rattle.records.specs.declared.Terms.{Terms}
use Rattle.sheets.specs.Told.{filled, highest}

-- the next term's part is at least `least`, one above the highest part named
abbrev pub AfterLast : Option ℕ → ℕ → Type 0
AfterLast None least = Unit {0}
AfterLast (Some p) least = least ≡ p + 1

-- a term whose part is in order and whose coefficient is in range is taken
pub takes : (last : Option ℕ) (least : ℕ) (t : Term) → AfterLast last least → least ≤ t.part → t.part ≤ 47 → nat_abs t.coefficient ≤ 1000000 → tested last t.part t.coefficient ≡ done
takes None least t a h k c = ap (λ b. cond b (cond true (cond (leb (nat_abs t.coefficient) 1000000) done (refused 9)) (refused 8)) (refused 7)) (le-leb t.part 47 k) ∙ ap (λ b. cond b done (refused 9)) (le-leb _ _ c)
takes (Some p) least t a h k c = ap (λ b. cond b (cond (ltb p t.part) (cond (leb (nat_abs t.coefficient) 1000000) done (refused 9)) (refused 8)) (refused 7)) (le-leb t.part 47 k) ∙ ap (λ b. cond b (cond (leb (nat_abs t.coefficient) 1000000) done (refused 9)) (refused 8)) (lt-ltb p t.part (omega arith)) ∙ ap (λ b. cond b done (refused 9)) (le-leb _ _ c)

found_same : {A : Type 0} (x y : A) (p q : ℕ) → found x p ≡ found y q → x ≡ y
found_same x y p q e = cc

-- a term that is read is judged
pub term_judged : (body : List ℕ) (at least p : ℕ) (t : Term) (q : ℕ) → read_term body at least p ≡ found t q → (least ≤ t.part) × (nat_abs t.coefficient ≤ 1000000)
term_judged body at least p t q e =
    let (i, r, a, b) = then_from (number_at body p) (λ i r. coefficient_at body at least i r) t q e in
    let (_, c) = cond_from (leb i 47) (cond (leb least i) (and_then (signed_at body r) (λ v s. cond (in_range v) (found (record { part = i; coefficient = v }) s) (fault 9 3 at))) (fault 8 3 at)) 7 3 at t q b in
    let (rises-from, d) = cond_from (leb least i) (and_then (signed_at body r) (λ v s. cond (in_range v) (found (record { part = i; coefficient = v }) s) (fault 9 3 at))) 8 3 at t q c in
    let (v, s, f, g) = then_from (signed_at body r) (λ v s. cond (in_range v) (found (record { part = i; coefficient = v }) s) (fault 9 3 at)) t q d in
    let (small, h) = cond_from (in_range v) (found (record { part = i; coefficient = v }) s) 9 3 at t q g in
    let same : ◌≡◌ {A = Term} (record { part = i; coefficient = v }) t = found_same _ t s q h in
    let part : i ≡ t.part = ap (λ (x : Term). x.part) same in
    let coefficient : v ≡ t.coefficient = ap (λ (x : Term). x.coefficient) same in
    let low = leb-true least i rises-from in
    (omega arith, subst (λ z. nat_abs z ≤ 1000000) coefficient (leb-true (nat_abs v) 1000000 small))

-- a term that is taken
taken : (cs : List ℤ) (last : Option ℕ) (t : Term) → tested last t.part t.coefficient ≡ done → with_term (drafted cs last) t ≡ drafted (set cs t.part t.coefficient) (Some t.part)
taken cs last t e = ap (λ r. drafted (coefficients_after r cs t.part t.coefficient) (last_after r last t.part)) e

-- the terms that are left in a limit fill its draft
fills : (was end : Terms) (xs : List Term) → Yields GivesTerm was xs end → (after : Terms) → GivesTerm end None after
    → (cs : List ℤ) (last : Option ℕ) → AfterLast last was.least → (ts : List Term) → LeftIn was.payload.body.now was.least was.payload.at ts
    → with_terms (drafted cs last) xs ≡ drafted (filled cs ts) (highest last ts)
fills was end [] same after none cs last rises ts left =
    let gone : ts ≡ [] = none.terms ts (subst (λ (s : Terms). LeftIn s.payload.body.now s.least s.payload.at ts) same left) in
    ap (λ us. drafted (filled cs us) (highest last us)) (sym gone)
fills was end (x ∷ xs) (next, one, more) after none cs last rises ts left =
    let (us, e, later) = one.terms ts left in
    let (read, least, few, moved) = one.moves in
    let (low, small) = term_judged was.payload.body.now 0 was.least was.payload.at x next.payload.at read in
    ap (λ d. with_terms d xs) (taken cs last x (takes last was.least x rises low few small))
    ∙ (fills next end xs more after none (set cs x.part x.coefficient) (Some x.part) least us later
    ∙ ap (λ vs. drafted (filled cs vs) (highest last vs)) (sym e))

pub made : (bytes : List ℕ) (was : Terms) (cs : List ℤ) (last : Option ℕ) → was.payload.body.now ≡ bytes → was.payload.at ≡ 0 → was.least ≡ 0
    → WholeRun GivesTerm was (λ p. with_terms opened p.items ≡ drafted cs last)
    → (ts : List Term) → LeftIn bytes 0 0 ts → drafted cs last ≡ drafted (filled (replicate 48 (pos 0)) ts) (highest None ts)
made bytes was cs last e f g (run, from, whole, is) ts left =
    let (end, yields, last_call) = took run in
    let (after, none) = last_call whole in
    let there : LeftIn was.payload.body.now was.least was.payload.at ts =
    subst (λ b. LeftIn b was.least was.payload.at ts) (sym e) (subst (λ i. LeftIn bytes was.least i ts) (sym f) (subst (λ i. LeftIn bytes i 0 ts) (sym g) left)) in
    sym is ∙ fills was end run.items (subst (λ s. Yields GivesTerm s run.items end) from yields) after none (replicate 48 (pos 0)) None tt ts there
