-- The sum without its bound, from the last part down.
use Rattle.std.proofs.Common.{◌≡◌, ℕ, zero, suc, ◌+◌, ◌-◌, ◌^◌, ◌<◌, ◌≤◌, Bool, true, false, cond, List, [], ◌∷◌, length, get_or, drop, replicate, ℤ, pos, ◌+ℤ◌, nat_abs, sym, refl, ap, ◌∙◌, subst, ap₂, arith, drop-cons}
use lib.ListN.{length-replicate}
use lib.IntN.{+ℤ_idl}
use Rattle.std.proofs.lemmas.Int.{ints}
use Rattle.diagrams.specs.declared.Child.TheVariants.{Terminal}
use Rattle.diagrams.specs.declared.Node.{Node}
use Rattle.diagrams.specs.declared.Edge.{Edge}
use Rattle.limits.specs.Limits.{sum}
use Rattle.diagrams.specs.Nodes.{value, From}
use Rattle.diagrams.specs.Apply.{edge_at, joined, Joined, Makes, Allows, plus_edge, Sums}
use Rattle.diagrams.proofs.Steps.{allows_settled, allows_ext, constant_is}
use Rattle.diagrams.proofs.Settle.{edge_constant}

pub sum_out : (ws : List ℤ) (n : ℕ) → sum ws (replicate n false) ≡ pos 0
sum_out [] n = refl
sum_out (a ∷ ws) zero = refl
sum_out (a ∷ ws) (suc n) = +ℤ_idl (sum ws (replicate n false)) ∙ sum_out ws n

-- what the sum of the later parts needs, the sum needs
pub allows_later : (ts : List (List ℤ)) (parts : ℕ) (ws : List ℤ) → parts ≤ length ws → Allows ts parts (sum ws) → (i : ℕ) → i ≤ parts → Allows ts (parts - i) (sum (drop i ws))
allows_later ts parts ws l h zero low = let e : parts ≡ parts - 0 = omega arith in subst (λ z. Allows ts z (sum ws)) e h
allows_later ts parts ws l h (suc i) low =
    allows_settled ts parts i (sum (drop i ws)) (sum (drop (suc i) ws)) false (omega arith)
    (λ c e. ap (λ z. sum z (false ∷ c)) (drop-cons ws i (pos 0) (omega arith)) ∙ +ℤ_idl (sum (drop (suc i) ws) c))
    (allows_later ts parts ws l h i (omega arith))

pub sums_none : (parts : ℕ) (ns : List Node) (ws : List ℤ) (e : Edge) → e.child ≡ Terminal → e.constant ≡ pos 0 → Sums parts ns ws parts e
sums_none parts ns ws e t z = record {
  from = subst (From ns parts) (sym t) tt;
  equal = at;
}
  where
    last : (bs : List ℤ) → sum bs [] ≡ pos 0
    last [] = refl
    last (b ∷ bs) = refl

    at : (c : List Bool) → parts + length c ≡ parts → edge_at ns parts e c ≡ sum (drop parts ws) c
    at [] h = edge_constant ns parts e [] t ∙ (z ∙ sym (last (drop parts ws)))
    at (x ∷ c) h = absurd (omega arith)

pub sums_constant : (parts : ℕ) (ns : List Node) (ws : List ℤ) (i : ℕ) (e : Edge) → i ≤ parts → Sums parts ns ws i e → e.constant ≡ pos 0
sums_constant parts ns ws i e low s =
    let l : length (replicate (parts - i) false) ≡ parts - i = length-replicate (parts - i) false in
    sym (constant_is ns (parts - i) i e) ∙ (s.equal (replicate (parts - i) false) (omega arith) ∙ sum_out (drop i ws) (parts - i))

mix : (x : Bool) (a s : ℤ) → cond x (a +ℤ s) s ≡ cond x a (pos 0) +ℤ s
mix true a s = refl
mix false a s = sym (+ℤ_idl s)

plus_is : (a e v : ℤ) → e ≡ pos 0 → (e +ℤ a) +ℤ v ≡ a +ℤ (e +ℤ v)
plus_is a e v z = omega (arith, ints)

small_sum : (a e : ℤ) → e ≡ pos 0 → nat_abs a ≤ 1000000 → nat_abs (e +ℤ a) ≤ 2 ^ 28
small_sum a e z h = omega (arith, ints)

module _ (parts : ℕ) (ns : List Node) (ws : List ℤ) (i : ℕ) (low : i < parts) (l : parts ≤ length ws) (e : Edge) (s : Sums parts ns ws (suc i) e) where
  abbrev a : ℤ
  a = get_or ws i (pos 0)

  zero_constant : e.constant ≡ pos 0
  zero_constant = sums_constant parts ns ws (suc i) e (omega arith) s

  fit_equal : (c : List Bool) → suc i + length c ≡ parts → edge_at ns (suc i) (plus_edge e a) c ≡ a +ℤ sum (drop (suc i) ws) c
  fit_equal c h = plus_is a e.constant (value ns (suc i) e.child c) zero_constant ∙ ap (λ z. a +ℤ z) (s.equal c h)

  sum_equal : (x : Bool) (c : List Bool) → suc i + length c ≡ parts → sum (drop i ws) (x ∷ c) ≡ cond x (edge_at ns (suc i) (plus_edge e a) c) (edge_at ns (suc i) e c)
  sum_equal x c h =
      ap (λ z. sum z (x ∷ c)) (drop-cons ws i (pos 0) (omega arith))
      ∙ (sym (mix x a (sum (drop (suc i) ws) c))
      ∙ ap₂ (λ p q. cond x p q) (sym (fit_equal c h)) (sym (s.equal c h)))

  pub sum_makes : (ts : List (List ℤ)) → nat_abs a ≤ 1000000 → Allows ts parts (sum ws) → Makes parts ns ts i (plus_edge e a) e
  sum_makes ts h allows = record {
    low = low;
    fit_in = s.from;
    out_in = s.from;
    fit_small = small_sum a e.constant zero_constant h;
    out_small = let z = zero_constant in omega (arith, ints);
    allowed = allows_ext ts (parts - i) (sum (drop i ws)) (joined ns i (plus_edge e a) e) at (allows_later ts parts ws l allows i (omega arith));
  }
    where
      at : (c : List Bool) → length c ≡ parts - i → sum (drop i ws) c ≡ joined ns i (plus_edge e a) e c
      at [] k = absurd (omega arith)
      at (x ∷ c) k = sum_equal x c (omega arith)

-- the node that is made is the sum from part i up
pub sum_joined : (parts : ℕ) (ns : List Node) (ws : List ℤ) (i : ℕ) → i < parts → parts ≤ length ws → (e f : Edge) → Sums parts ns ws (suc i) e → Joined ns i (plus_edge e (get_or ws i (pos 0))) e f → Sums parts ns ws i f
sum_joined parts ns ws i low l e f s j = record { from = j.from; equal = at }
  where
    at : (c : List Bool) → i + length c ≡ parts → edge_at ns i f c ≡ sum (drop i ws) c
    at [] h = absurd (omega arith)
    at (true ∷ c) h = j.fitted c ∙ sym (sum_equal parts ns ws i low l e s true c (omega arith))
    at (false ∷ c) h = j.left_out c ∙ sym (sum_equal parts ns ws i low l e s false c (omega arith))
