-- A part is read while only parts have come.
use Rattle.std.proofs.Common.{◌≡◌, ℕ, ◌+◌, ◌-◌, Bool, true, false, cond, eqb, leb, List, length, take, ℤ, sym, refl, ap, ◌∙◌, arith}
use Rattle.std.proofs.lemmas.Bool.{eqb-true}
use Rattle.limits.specs.declared.Sense.{Sense}
use Rattle.fields.specs.Fields.{found, fault, and_then, number_at, signed_at}
use Rattle.records.specs.declared.Stage.{Stage}
use Rattle.records.specs.declared.Stage.TheVariants.{Parts, Limits, End}
use Rattle.records.specs.Sheets.{Saying, part_says, limit_says, goal_says, end_says, ended, read_part, read_limit, read_goal, read_record, read_terms, allowed, sense_of}
use Rattle.records.specs.Codes.{goal_of}
use Rattle.spelling.proofs.Sole.{then_from, cond_from, head}

-- whether a record says a part
abbrev says_part : Saying → Bool
says_part (part_says name mass wait price) = true
says_part (limit_says sense bound ts) = false
says_part (goal_says goal) = false
says_part end_says = false

same : (s t : Saying) (p q : ℕ) → found s p ≡ found t q → s ≡ t
same s t p q e = cc

ended_says : (body : List ℕ) (at : ℕ) (s t : Saying) (p q : ℕ) → ended body at s p ≡ found t q → s ≡ t
ended_says body at s t p q e = same s t p q (cond_from (eqb p (length body)) (found s p) 4 2 at t q e).1

goal_no_part : (body : List ℕ) (at p : ℕ) (t : Saying) (q : ℕ) → read_goal body at p ≡ found t q → says_part t ≡ false
goal_no_part body at p t q e =
    let (v, r, a, b) = then_from (number_at body p) (λ v r. cond (leb v 2) (ended body at (goal_says (goal_of v)) r) (fault 6 2 at)) t q e in
    let (_, c) = cond_from (leb v 2) (ended body at (goal_says (goal_of v)) r) 6 2 at t q b in
    sym (ap says_part (ended_says body at (goal_says (goal_of v)) t r q c))

limit_no_part : (sense : Sense) (body : List ℕ) (at p : ℕ) (t : Saying) (q : ℕ) → read_limit sense body at p ≡ found t q → says_part t ≡ false
limit_no_part sense body at p t q e =
    let (v, r, a, b) = then_from (signed_at body p) (λ v r. and_then (read_terms (length body - r) body at 0 r) (λ ts s. found (limit_says sense v ts) s)) t q e in
    let (ts, s, c, d) = then_from (read_terms (length body - r) body at 0 r) (λ ts s. found (limit_says sense v ts) s) t q b in
    sym (ap says_part (same (limit_says sense v ts) t s q d))

not_both : (t : Saying) → says_part t ≡ true → says_part t ≡ false → ⊥
not_both t a b = let h : true ≡ false = sym a ∙ b in let z : ◌≡◌ {A = ℕ} 0 1 = cc in omega arith

part_kind : (kind : ℕ) (names : List (List ℕ)) (sheet body : List ℕ) (at p : ℕ) (t : Saying) (q : ℕ) (x y z : Bool) → eqb kind 1 ≡ y → says_part t ≡ true
    → cond x (ended sheet at end_says p) (cond y (read_part names body at p) (cond z (read_goal body at p) (read_limit (sense_of kind) body at p))) ≡ found t q → kind ≡ 1
part_kind kind names sheet body at p t q true y z k s e = absurd (not_both t s (sym (ap says_part (ended_says sheet at end_says t p q e))))
part_kind kind names sheet body at p t q false true z k s e = eqb-true kind 1 k
part_kind kind names sheet body at p t q false false true k s e = absurd (not_both t s (goal_no_part body at p t q e))
part_kind kind names sheet body at p t q false false false k s e = absurd (not_both t s (limit_no_part (sense_of kind) body at p t q e))

parts_stage : (stage : Stage) → allowed stage 1 ≡ true → stage ≡ Parts
parts_stage Parts h = refl
parts_stage Limits h = let z : ◌≡◌ {A = ℕ} 0 1 = cc in absurd (omega arith)
parts_stage End h = let z : ◌≡◌ {A = ℕ} 0 1 = cc in absurd (omega arith)

pub part_in_parts : (stage : Stage) (names : List (List ℕ)) (sheet : List ℕ) (at : ℕ) (name : List ℕ) (mass : ℤ) (wait price r : ℕ)
    → read_record stage names sheet at ≡ found (part_says name mass wait price) r → stage ≡ Parts
part_in_parts stage names sheet at name mass wait price r e =
    let s = part_says name mass wait price in
    let h = head stage names sheet at r s e in
    let k = part_kind h.kind names sheet (take (h.start + h.size) sheet) at h.start s r (eqb h.kind 0) (eqb h.kind 1) (eqb h.kind 4) refl refl h.says in
    parts_stage stage (sym (ap (allowed stage) k) ∙ h.may_come_lem)
