-- The three functions of a limit, one after the other.
use Rattle.std.proofs.Common.{◌≡◌, ℕ, suc, ◌-◌, ◌*◌, ◌≤◌, Bool, true, false, cond, List, [], ◌∷◌, ◌++◌, length, get_or, ℤ, pos, ◌+ℤ◌, ◌*ℤ◌, nat_abs, Some, None, Option, sym, refl, ◌∙◌, subst, ap₂, ⊎_elim, arith}
use Rattle.std.proofs.lemmas.Int.{ints}
use Rattle.diagrams.specs.declared.Edge.{Edge}
use Rattle.diagrams.specs.declared.Operation.TheVariants as operation
use Rattle.diagrams.specs.declared.Question.{Question}
use Rattle.limits.specs.Limits.{sum}
use Rattle.diagrams.specs.Nodes.{From, Sound}
use Rattle.diagrams.specs.Apply.{operation_of, meaning, edge_at, target, Fit, Bit, Right, Asked, Allows, Sums, question, Grown}
use Rattle.diagrams.proofs.Steps.{allows_ext, bit_meaning}
use Rattle.diagrams.proofs.Settle.{edge_constant}
use Rattle.diagrams.proofs.Reached.{cover}
use Rattle.diagrams.proofs.Tables.{in_either}
use Rattle.diagrams.specs.Needs.{needed}
use Rattle.diagrams.proofs.Grow.{from_grown, edge_grown, grown_on}
use Rattle.tables.specs.declared.NodeTable.{NodeTable}
use Rattle.limits.specs.declared.Limit.{Limit}
use Rattle.tables.specs.Places.{made, Grew}
use Rattle.walks.specs.Walked.{Walked}
use Rattle.questions.specs.Bounds.{bound_edge, kept_question}
use Rattle.questions.proofs.Bounded.{fit_sense, meaning_kept}
use Rattle.walks.specs.Extended.{kept, times, Begins, Builds, Denotes, Built}
use Rattle.walks.proofs.Once.{grew_on}
use Rattle.diagrams.specs.declared.Node.{Node}
use Rattle.diagrams.proofs.Tail.{tail_sum}
use Rattle.questions.specs.declared.Range.{Range}
use Rattle.questions.specs.Ranges.{RangesAre}
use Rattle.walks.specs.Looks.{Ranged}

term_small : (x : Bool) (a s : ℤ) (n : ℕ) → nat_abs a ≤ 1000000 → nat_abs s ≤ 1000000 * n → nat_abs (cond x a (pos 0) +ℤ s) ≤ 1000000 * suc n
term_small true a s n h k = omega (arith, ints)
term_small false a s n h k = omega (arith, ints)

sum_small : (ws : List ℤ) (c : List Bool) → ((i : ℕ) → nat_abs (get_or ws i (pos 0)) ≤ 1000000) → nat_abs (sum ws c) ≤ 1000000 * length c
sum_small [] c h = omega arith
sum_small (a ∷ ws) [] h = omega arith
sum_small (a ∷ ws) (x ∷ c) h = term_small x a (sum ws c) (length c) (h 0) (sum_small ws c (λ i. h (suc i)))

module _ {parts : ℕ} {t : NodeTable} {product : Edge} {l : Limit} (b : Begins parts t product l) where
  kept_fit : (c : List Bool) → length c ≡ parts → Fit (operation_of l.sense) (sum l.coefficients c) l.bound
  kept_fit c h =
      let s = sum_small l.coefficients c b.coefficients in
      let f = b.few in
      let k = b.bound in
      fit_sense l.sense _ _ (omega arith) (omega arith)

  kept_bit : (c : List Bool) → length c ≡ parts → Bit (kept l c)
  kept_bit c h = subst Bit (meaning_kept l c) (bit_meaning (operation_of l.sense) _ _ (kept_fit c h))

  sum_is : (t₁ : NodeTable) (e : Edge) → Sums parts (made t₁) l.coefficients 0 e → (c : List Bool) → length c ≡ parts → edge_at (made t₁) 0 e c ≡ sum l.coefficients c
  sum_is t₁ e s c h = s.equal c (omega arith)

  bound_is : (t₁ : NodeTable) (c : List Bool) → edge_at (made t₁) 0 (bound_edge l) c ≡ l.bound
  bound_is t₁ c = edge_constant (made t₁) 0 (bound_edge l) c refl

  -- the question whether the sum keeps the limit may be asked
  pub kept_asked : {ts : List (List ℤ)} {t₁ : NodeTable} {e : Edge} {q : Question} → Builds parts ts t product l → Grew parts ts t t₁ → Sums parts (made t₁) l.coefficients 0 e → q ≡ kept_question l e → Asked parts (made t₁) ts 0 q
  kept_asked {ts} {t₁} {e} m g s is = subst (Asked parts (made t₁) ts 0) (sym is) (record {
    low = omega arith;
    left_in = s.from;
    right_in = tt;
    fit = λ c h. let k : length c ≡ parts = omega arith in subst (λ z. Fit (operation_of l.sense) z (edge_at (made t₁) 0 (bound_edge l) c)) (sym (sum_is t₁ e s c k)) (subst (λ z. Fit (operation_of l.sense) (sum l.coefficients c) z) (sym (bound_is t₁ c)) (kept_fit c k));
    allowed = let z : parts ≡ parts - 0 = omega arith in subst (λ p. Allows ts p (target (made t₁) 0 (kept_question l e))) z (allows_ext ts parts (kept l) (target (made t₁) 0 (kept_question l e)) (λ c h. sym (meaning_kept l c) ∙ sym (ap₂ (meaning (operation_of l.sense)) (sum_is t₁ e s c h) (bound_is t₁ c))) m.keeps);
  })

  kept_is : (t₂ : NodeTable) (e f : Edge) (t₁ : NodeTable) → Sound parts (made t₁) → Grown (made t₁) (made t₂) → Sums parts (made t₁) l.coefficients 0 e → Right parts (made t₂) (kept_question l e) f → (c : List Bool) → length c ≡ parts → edge_at (made t₂) 0 f c ≡ kept l c
  kept_is t₂ e f t₁ sound g s r c h =
      (r.right 0 (from_grown g 0 e.child s.from) tt).equal c (omega arith)
      ∙ (ap₂ (meaning (operation_of l.sense)) (edge_grown parts sound g 0 e c s.from ∙ sum_is t₁ e s c h) (bound_is t₂ c)
      ∙ meaning_kept l c)

  -- the product, once it is known whether the sum keeps the limit
  module _ {ts : List (List ℤ)} (m : Builds parts ts t product l) {t₁ t₂ : NodeTable} (g₁ : Grew parts ts t t₁) (g₂ : Grew parts ts t₁ t₂) {e f : Edge} (s : Sums parts (made t₁) l.coefficients 0 e) {q : Question} (is : q ≡ kept_question l e) (a : Right parts (made t₂) q f) where
    r : Right parts (made t₂) (kept_question l e) f
    r = subst (λ z. Right parts (made t₂) z f) is a

    abbrev last : Question
    last = question operation.Times product f

    kept_in : From (made t₂) 0 f.child
    kept_in = (r.right 0 (from_grown g₂.grown 0 e.child s.from) tt).from

    product_is : (c : List Bool) → edge_at (made t₂) 0 product c ≡ edge_at (made t) 0 product c
    product_is c = edge_grown parts m.table.sound (grown_on g₁.grown g₂.grown) 0 product c b.product_in

    last_is : (c : List Bool) → length c ≡ parts → target (made t₂) 0 last c ≡ times t product l c
    last_is c h = ap₂ ◌*ℤ◌ (product_is c) (kept_is t₂ e f t₁ g₁.good.sound g₂.grown s r c h)

    pub last_asked : Asked parts (made t₂) ts 0 last
    last_asked = record {
      low = omega arith;
      left_in = from_grown (grown_on g₁.grown g₂.grown) 0 product.child b.product_in;
      right_in = kept_in;
      fit = λ c h. let k : length c ≡ parts = omega arith in (subst Bit (sym (product_is c)) (b.product_bit c k), subst Bit (sym (kept_is t₂ e f t₁ g₁.good.sound g₂.grown s r c k)) (kept_bit c k));
      allowed = let z : parts ≡ parts - 0 = omega arith in subst (λ p. Allows ts p (target (made t₂) 0 last)) z (allows_ext ts parts (times t product l) (target (made t₂) 0 last) (λ c h. sym (last_is c h)) m.products);
    }

    last_value : (t₃ : NodeTable) → Grew parts ts t₂ t₃ → (c : List Bool) → length c ≡ parts → target (made t₃) 0 last c ≡ times t product l c
    last_value t₃ g₃ c k = ap₂ ◌*ℤ◌ (edge_grown parts g₂.good.sound g₃.grown 0 product c last_asked.left_in) (edge_grown parts g₂.good.sound g₃.grown 0 f c kept_in) ∙ last_is c k

    pub last_denotes : (t₃ : NodeTable) → Grew parts ts t₂ t₃ → (h : Edge) → Right parts (made t₃) last h → Denotes parts t t₃ product l h
    last_denotes t₃ g₃ h r' =
        let pl = from_grown g₃.grown 0 product.child last_asked.left_in in
        let at = r'.right 0 pl (from_grown g₃.grown 0 f.child kept_in) in
        let sum-grown = grown_on g₂.grown g₃.grown in
        record {
          from = at.from;
          equal = λ c k. at.equal c (omega arith) ∙ last_value t₃ g₃ c k;
          each = λ u m. ⊎_elim
              (λ i. cover parts (made t₃) g₃.good.sound parts 0 (omega arith) e.constant e.child (sum l.coefficients) (from_grown sum-grown 0 e.child s.from) (λ c k. edge_grown parts g₁.good.sound sum-grown 0 e c s.from ∙ sum_is t₁ e s c k) u i)
              (λ o. ⊎_elim
              (λ i. cover parts (made t₃) g₃.good.sound parts 0 (omega arith) f.constant f.child (kept l) (from_grown g₃.grown 0 f.child kept_in) (λ c k. edge_grown parts g₂.good.sound g₃.grown 0 f c kept_in ∙ kept_is t₂ e f t₁ g₁.good.sound g₂.grown s r c k) u i)
              (λ i. cover parts (made t₃) g₃.good.sound parts 0 (omega arith) h.constant h.child (times t product l) at.from (λ c k. at.equal c (omega arith) ∙ last_value t₃ g₃ c k) u i)
              (in_either u (needed parts (kept l)) (needed parts (times t product l)) o))
              (in_either u (needed parts (sum l.coefficients)) (needed parts (kept l) ++ needed parts (times t product l)) m);
        }

    pub last_built : {t₃ : NodeTable} (h : Option Edge) → Walked parts ts t₂ t₃ last h → Built parts ts t t₃ product l h
    last_built None w = record { grew = grew_on (grew_on g₁ g₂) w.grew; edge = w.answer }
    last_built {t₃} (Some h) w = record { grew = grew_on (grew_on g₁ g₂) w.grew; edge = last_denotes t₃ w.grew h w.answer }

-- the ranges of the limit's sum serve the first of the two walks
pub kept_ranged : {parts : ℕ} {t : NodeTable} {product : Edge} {l : Limit} → Begins parts t product l → (rs : List Range) → parts ≤ length l.coefficients → length rs ≡ 49 → RangesAre parts l.coefficients 0 rs → (ns : List Node) (e : Edge) → Sums parts ns l.coefficients 0 e → (q : Question) → q ≡ kept_question l e → Ranged parts ns rs q
kept_ranged {parts} {l = l} b rs long room each ns e s q is = subst (Ranged parts ns rs) (sym is) (record {
  ws = l.coefficients;
  can = record { few = b.few; long = long; small = b.coefficients };
  room = room;
  each = each;
  tail = tail_sum parts ns l.coefficients 0 (kept_question l e) (omega arith) s;
})
