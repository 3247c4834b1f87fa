-- The rule's choice is first among those that pass.
use Rattle.std.proofs.Common.{◌≡◌, suc, Bool, true, false, cond, not, List, [], ◌∷◌, length, Some, None, Option, sym, refl, ap, ◌∙◌, ap₂, ⊎_elim, arith}
use Rattle.std.proofs.lemmas.Bool.{both_ways, cases_Bool}
use Rattle.grades.specs.Laws.{Kind, Laws}
use Rattle.grades.specs.Rule.{grade, grade_from, best, chosen, answer, left_out, put_on}
use Rattle.grades.specs.Optimal.{NonePasses, Answers, RuleIsFirst, Best, Settled, RuleSettles, BestIsBest}

module _ {G : Type 0} (K : Kind G) (laws : Laws K) where
  grade_from_is : (g : G) (ws : List G) (c : List Bool) → grade_from K g ws c ≡ K.join g (grade K ws c)
  grade_from_is g [] c = sym (laws.empty_right g)
  grade_from_is g (w ∷ ws) [] = sym (laws.empty_right g)
  grade_from_is g (w ∷ ws) (false ∷ c) = grade_from_is g ws c
  grade_from_is g (w ∷ ws) (true ∷ c) =
      grade_from_is (K.join g w) ws c
      ∙ laws.associative g w (grade K ws c)
      ∙ ap (K.join g) (sym (grade_from_is (K.join K.empty w) ws c ∙ ap (λ v. K.join v (grade K ws c)) (laws.empty_left w)))

  -- the grade of a choice that fits the first part
  grade_fit : (w : G) (ws : List G) (c : List Bool) → grade K (w ∷ ws) (true ∷ c) ≡ K.join w (grade K ws c)
  grade_fit w ws c = grade_from_is (K.join K.empty w) ws c ∙ ap (λ v. K.join v (grade K ws c)) (laws.empty_left w)

  earlier : (a b : G) → K.no_later a b ≡ false → K.no_later b a ≡ true
  earlier a b e = laws.total a b e

  no_later_self : (a : G) → K.no_later a a ≡ true
  no_later_self a = ⊎_elim (λ h. h) (λ h. laws.total a a h) (cases_Bool (K.no_later a a))

  abbrev pub Least : List G → (List Bool → Bool) → G → Type 0
  Least ws passes g = (d : List Bool) → length d ≡ length ws → passes d ≡ true → K.no_later g (grade K ws d) ≡ true

  least_both : (w : G) (ws : List G) (passes : List Bool → Bool) (g : G) → Least ws (λ c. passes (false ∷ c)) g → ((d : List Bool) → length d ≡ length ws → passes (true ∷ d) ≡ true → K.no_later g (K.join w (grade K ws d)) ≡ true) → Least (w ∷ ws) passes g
  least_both w ws passes g out fit [] e p = absurd (omega arith)
  least_both w ws passes g out fit (false ∷ d) e p = out d (omega arith) p
  least_both w ws passes g out fit (true ∷ d) e p = rw grade_fit (fit d (omega arith) p)

  pub record Found (ws : List G) (passes : List Bool → Bool) (g : G) (c : List Bool) : Type 0 where
    pub sized : length c ≡ length ws
    pub kept : passes c ≡ true
    pub graded : grade K ws c ≡ g
    pub least : Least ws passes g

  abbrev pub Ends : List G → (List Bool → Bool) → Option G → List Bool → Type 0
  Ends ws passes None c = NonePasses ws passes
  Ends ws passes (Some g) c = Found ws passes g c

  module _ (w : G) (ws : List G) (passes : List Bool → Bool) (co cf : List Bool) where
    abbrev out : List Bool → Bool
    out c = passes (false ∷ c)

    abbrev fit : List Bool → Bool
    fit c = passes (true ∷ c)

    take_out : (a : G) → Found ws out a co → ((d : List Bool) → length d ≡ length ws → fit d ≡ true → K.no_later a (K.join w (grade K ws d)) ≡ true) → Found (w ∷ ws) passes a (false ∷ co)
    take_out a f h = record { sized = ap suc f.sized; kept = f.kept; graded = f.graded; least = least_both w ws passes a f.least h }

    take_fit : (b : G) → Found ws fit b cf → Least ws out (K.join w b) → Found (w ∷ ws) passes (K.join w b) (true ∷ cf)
    take_fit b f h = record {
      sized = ap suc f.sized;
      kept = f.kept;
      graded = grade_fit w ws cf ∙ ap (K.join w) f.graded;
      least = least_both w ws passes (K.join w b) h (λ d e p. laws.join_left w b (grade K ws d) (f.least d e p));
    }

    either : (a b : G) (r : Bool) → K.no_later a (K.join w b) ≡ r → Found ws out a co → Found ws fit b cf → Ends (w ∷ ws) passes (cond r (Some a) (Some (K.join w b))) (cond r (false ∷ co) (true ∷ cf))
    either a b true e f g = take_out a f (λ d l p. laws.transitive a (K.join w b) (K.join w (grade K ws d)) e (laws.join_left w b (grade K ws d) (g.least d l p)))
    either a b false e f g = take_fit b g (λ d l p. laws.transitive (K.join w b) a (grade K ws d) (earlier a (K.join w b) e) (f.least d l p))

    step : (a b : Option G) → Ends ws out a co → Ends ws fit b cf → Ends (w ∷ ws) passes (cond (left_out K a (put_on K w b)) a (put_on K w b)) (cond (left_out K a (put_on K w b)) (false ∷ co) (true ∷ cf))
    step None None f g = no_head
      where
        no_head : NonePasses (w ∷ ws) passes
        no_head [] e p = omega arith
        no_head (false ∷ d) e p = f d (omega arith) p
        no_head (true ∷ d) e p = g d (omega arith) p
    step None (Some b) f g = take_fit b g (λ d e p. absurd (f d e p))
    step (Some a) None f g = take_out a f (λ d e p. absurd (g d e p))
    step (Some a) (Some b) f g = either a b (K.no_later a (K.join w b)) refl f g

  pub ends : (ws : List G) (passes : List Bool → Bool) → Ends ws passes (best K ws passes) (chosen K ws passes)
  ends [] passes = at_end (passes []) refl
    where
      none_at : passes [] ≡ false → NonePasses {A = G} [] passes
      none_at e [] l p = both_ways _ e p
      none_at e (x ∷ d) l p = omega arith

      least_at : Least [] passes K.empty
      least_at d l p = no_later_self K.empty

      at_end : (b : Bool) → passes [] ≡ b → Ends [] passes (cond b (Some K.empty) None) []
      at_end true e = record { sized = refl; kept = e; graded = refl; least = least_at }
      at_end false e = none_at e
  ends (w ∷ ws) passes =
      step w ws passes (chosen K ws (λ c. passes (false ∷ c))) (chosen K ws (λ c. passes (true ∷ c))) (best K ws (λ c. passes (false ∷ c))) (best K ws (λ c. passes (true ∷ c))) (ends ws (λ c. passes (false ∷ c))) (ends ws (λ c. passes (true ∷ c)))

  answers : (ws : List G) (passes : List Bool → Bool) → Answers K ws passes (answer K ws passes)
  answers ws passes = at (best K ws passes) (ends ws passes)
    where
      at : (o : Option G) → Ends ws passes o (chosen K ws passes) → Answers K ws passes (elim o [ None ↦ None | Some g ↦ Some (chosen K ws passes) ])
      at None f = f
      at (Some g) f = record { sized = f.sized; kept = f.kept; least = λ d e p. rw f.graded (f.least d e p) }

  -- the best grade is the only one
  best_only : (ws : List G) (passes : List Bool → Bool) (c : List Bool) (o p : Option G) → Best K ws passes o → Ends ws passes p c → o ≡ p
  best_only ws passes c None None f g = refl
  best_only ws passes c None (Some b) f g = absurd (f c g.sized g.kept)
  best_only ws passes c (Some a) None f g = absurd (g f.0.0 f.0.1 f.0.2)
  best_only ws passes c (Some a) (Some b) f g =
      ap Some (laws.equal a b
      (rw g.graded at (f.1 c g.sized g.kept))
      (rw f.0.3 at (g.least f.0.0 f.0.1 f.0.2)))

  best_is : (ws : List G) (passes : List Bool → Bool) → Best K ws passes (best K ws passes)
  best_is ws passes = at (best K ws passes) (ends ws passes)
    where
      at : (o : Option G) → Ends ws passes o (chosen K ws passes) → Best K ws passes o
      at None f = f
      at (Some g) f = ((chosen K ws passes, f.sized, f.kept, f.graded), f.least)

  settled : (ws : List G) (passes : List Bool → Bool) → Settled K ws passes (chosen K ws passes)
  settled [] passes = tt
  settled (w ∷ ws) passes = at (left_out K (best K ws out) (put_on K w (best K ws fit))) refl (settled ws out) (settled ws fit)
    where
      out : List Bool → Bool
      out c = passes (false ∷ c)

      fit : List Bool → Bool
      fit c = passes (true ∷ c)

      same : (a b : Option G) → Best K ws out a → Best K ws fit b → left_out K a (put_on K w b) ≡ left_out K (best K ws out) (put_on K w (best K ws fit))
      same a b f g = ap₂ (λ p q. left_out K p (put_on K w q)) (best_only ws out (chosen K ws out) a (best K ws out) f (ends ws out)) (best_only ws fit (chosen K ws fit) b (best K ws fit) g (ends ws fit))

      at : (r : Bool) → left_out K (best K ws out) (put_on K w (best K ws fit)) ≡ r → Settled K ws out (chosen K ws out) → Settled K ws fit (chosen K ws fit) → Settled K (w ∷ ws) passes (cond r (false ∷ chosen K ws out) (true ∷ chosen K ws fit))
      at true e so sf = (λ a b f g. sym (ap not (same a b f g ∙ e)), so)
      at false e so sf = (λ a b f g. sym (ap not (same a b f g ∙ e)), sf)

pub rule_is_first_lem : {G : Type 0} (K : Kind G) → Laws K → RuleIsFirst K
rule_is_first_lem K laws ws passes = answers K laws ws passes

pub best_is_best_lem : {G : Type 0} (K : Kind G) → Laws K → BestIsBest K
best_is_best_lem K laws ws passes = best_is K laws ws passes

pub rule_settles_lem : {G : Type 0} (K : Kind G) → Laws K → RuleSettles K
rule_settles_lem K laws ws passes = settled K laws ws passes

-- choices of the right size alone matter
module _ {G : Type 0} (K : Kind G) where
  pub best_ext : (ws : List G) (p q : List Bool → Bool) → ((c : List Bool) → length c ≡ length ws → p c ≡ q c) → best K ws p ≡ best K ws q
  best_ext [] p q h = ap (λ b. cond b (Some K.empty) None) (h [] refl)
  best_ext (w ∷ ws) p q h =
      ap₂ (λ a b. cond (left_out K a (put_on K w b)) a (put_on K w b)) (best_ext ws (λ c. p (false ∷ c)) (λ c. q (false ∷ c)) (λ c e. h (false ∷ c) (ap suc e))) (best_ext ws (λ c. p (true ∷ c)) (λ c. q (true ∷ c)) (λ c e. h (true ∷ c) (ap suc e)))

  pub chosen_ext : (ws : List G) (p q : List Bool → Bool) → ((c : List Bool) → length c ≡ length ws → p c ≡ q c) → chosen K ws p ≡ chosen K ws q
  chosen_ext [] p q h = refl
  chosen_ext (w ∷ ws) p q h =
      let ho : (c : List Bool) → length c ≡ length ws → p (false ∷ c) ≡ q (false ∷ c) = λ c e. h (false ∷ c) (ap suc e) in
      let hf : (c : List Bool) → length c ≡ length ws → p (true ∷ c) ≡ q (true ∷ c) = λ c e. h (true ∷ c) (ap suc e) in
      ap₂ (λ a b. cond (left_out K a (put_on K w b)) (false ∷ chosen K ws (λ c. p (false ∷ c))) (true ∷ chosen K ws (λ c. p (true ∷ c)))) (best_ext ws (λ c. p (false ∷ c)) (λ c. q (false ∷ c)) ho) (best_ext ws (λ c. p (true ∷ c)) (λ c. q (true ∷ c)) hf)
      ∙ ap₂ (λ a b. cond (left_out K (best K ws (λ c. q (false ∷ c))) (put_on K w (best K ws (λ c. q (true ∷ c))))) (false ∷ a) (true ∷ b)) (chosen_ext ws (λ c. p (false ∷ c)) (λ c. q (false ∷ c)) ho) (chosen_ext ws (λ c. p (true ∷ c)) (λ c. q (true ∷ c)) hf)

  pub answer_ext : (ws : List G) (p q : List Bool → Bool) → ((c : List Bool) → length c ≡ length ws → p c ≡ q c) → answer K ws p ≡ answer K ws q
  answer_ext ws p q h = ap₂ (λ (o : Option G) (c : List Bool). elim o as (λ _. Option (List Bool)) [ None ↦ None | Some g ↦ Some c ]) (best_ext ws p q h) (chosen_ext ws p q h)
