-- Ranges of sums, and the comparisons that they decide.
use Rattle.std.proofs.Common.{◌≡◌, ℕ, zero, suc, ◌+◌, ◌-◌, ◌*◌, ◌<◌, ◌≤◌, Bool, true, false, cond, ◌⊎◌, List, [], ◌∷◌, length, get_or, drop, set, ℤ, pos, ◌+ℤ◌, nat_abs, ◌≤ℤ◌, sym, refl, ap, ◌∙◌, subst, inl, inr, Some, IfSome, arith}
use lib.Signed.{lt_z, le_z}
use Rattle.std.proofs.lemmas.List.{get_or-set_same, get_or-set_other}
use Rattle.std.proofs.lemmas.Int.{ints}
use Rattle.std.proofs.lemmas.Bool.{cases_lt}
use Rattle.std.specs.Bool.{then_some}
use mathlib.Core.Bool.{beq}
use Rattle.limits.specs.Limits.{sum}
use Rattle.diagrams.specs.declared.Child.TheVariants.{Terminal}
use Rattle.diagrams.specs.declared.Edge.{Edge}
use Rattle.diagrams.specs.declared.Operation.{Operation}
use Rattle.diagrams.specs.declared.Operation.TheVariants.{AtMost, AtLeast, Times}
use Rattle.diagrams.specs.declared.Question.{Question}
use Rattle.diagrams.specs.Apply.{Decides, constant_edge}
use Rattle.diagrams.proofs.Tail.{sum_at}
use Rattle.questions.specs.declared.Range.{Range}
use Rattle.questions.specs.Comparisons.{compared}
use Rattle.questions.proofs.Constants.{told}
use Rattle.questions.specs.Ranges.{no_range, wider, range_from, RangesAre, CanRange, SmallRange}

-- a value in a range
abbrev pub Holds : Range → ℤ → Type 0
Holds g v = (g.low ≤ℤ v) × (v ≤ℤ g.high)

last : (bs : List ℤ) → sum bs [] ≡ pos 0
last [] = refl
last (b ∷ bs) = refl

wider_holds : (g : Range) (a s : ℤ) (x : Bool) → Holds g s → Holds (wider g a) (cond x a (pos 0) +ℤ s)
wider_holds g a s x (h, k) = by (lt_z a (pos 0)) refl x
  where
    by : (b : Bool) → lt_z a (pos 0) ≡ b → (x : Bool) → Holds (cond b (record { low = g.low +ℤ a; high = g.high }) (record { low = g.low; high = g.high +ℤ a })) (cond x a (pos 0) +ℤ s)
    by true e true = (omega (arith, ints), omega (arith, ints))
    by true e false = (omega (arith, ints), omega (arith, ints))
    by false e true = (omega (arith, ints), omega (arith, ints))
    by false e false = (omega (arith, ints), omega (arith, ints))

pub range_holds : (ws : List ℤ) (n i : ℕ) → i + n ≤ length ws → (c : List Bool) → length c ≡ n → Holds (range_from ws i n) (sum (drop i ws) c)
range_holds ws zero i l [] h = let z = last (drop i ws) in (omega (arith, ints), omega (arith, ints))
range_holds ws zero i l (x ∷ c) h = absurd (omega arith)
range_holds ws (suc n) i l [] h = absurd (omega arith)
range_holds ws (suc n) i l (x ∷ c) h = subst (Holds (range_from ws i (suc n))) (sym (sum_at ws i x c (omega arith))) (wider_holds (range_from ws (suc i) n) (get_or ws i (pos 0)) (sum (drop (suc i) ws) c) x (range_holds ws n (suc i) (omega arith) c (omega arith)))

abbrev Within : ℕ → Range → Type 0
Within n g = (nat_abs g.low ≤ 1000000 * n) × (nat_abs g.high ≤ 1000000 * n)

wider_small : (g : Range) (a : ℤ) (n : ℕ) → nat_abs a ≤ 1000000 → Within n g → Within (suc n) (wider g a)
wider_small g a n m (h, k) = by (lt_z a (pos 0))
  where
    by : (b : Bool) → Within (suc n) (cond b (record { low = g.low +ℤ a; high = g.high }) (record { low = g.low; high = g.high +ℤ a }))
    by true = (omega (arith, ints), omega (arith, ints))
    by false = (omega (arith, ints), omega (arith, ints))

range_small : (ws : List ℤ) → ((i : ℕ) → nat_abs (get_or ws i (pos 0)) ≤ 1000000) → (n i : ℕ) → Within n (range_from ws i n)
range_small ws small zero i = (omega arith, omega arith)
range_small ws small (suc n) i = wider_small (range_from ws (suc i) n) (get_or ws i (pos 0)) n (small i) (range_small ws small n (suc i))

pub ranges_small : (parts : ℕ) (ws : List ℤ) → CanRange parts ws → (rs : List Range) (i j : ℕ) → RangesAre parts ws i rs → i ≤ j → j ≤ parts → SmallRange (get_or rs j no_range)
ranges_small parts ws can rs i j each h k = subst SmallRange (sym (each j h k)) (let f = can.few in let s = range_small ws can.small (parts - j) j in let s₀ = s.0 in let s₁ = s.1 in (omega arith, omega arith))

pub ranges_start : (parts : ℕ) (ws : List ℤ) (rs : List Range) → get_or rs parts no_range ≡ no_range → RangesAre parts ws parts rs
ranges_start parts ws rs e j h k = let z : parts ≡ j = omega arith in let y : 0 ≡ parts - j = omega arith in ap (λ i. get_or rs i no_range) (sym z) ∙ (e ∙ ap (range_from ws j) y)

pub ranges_step : (parts : ℕ) (ws : List ℤ) (rs : List Range) (i : ℕ) (g : Range) → i < parts → parts < length rs → RangesAre parts ws (suc i) rs → g ≡ wider (get_or rs (suc i) no_range) (get_or ws i (pos 0)) → RangesAre parts ws i (set rs i g)
ranges_step parts ws rs i g low room each is j h k = by (cases_lt i j)
  where
    here : get_or (set rs i g) i no_range ≡ range_from ws i (suc (parts - suc i))
    here = get_or-set_same rs i g no_range (omega arith) ∙ (is ∙ ap (λ r. wider r (get_or ws i (pos 0))) (each (suc i) (omega arith) (omega arith)))

    by : (i < j) ⊎ (j ≤ i) → get_or (set rs i g) j no_range ≡ range_from ws j (parts - j)
    by (inl l) = get_or-set_other rs i j g no_range (omega arith) ∙ each j (omega arith) k
    by (inr l) =
        let z : i ≡ j = omega arith in
        let y : suc (parts - suc i) ≡ parts - i = omega arith in
        subst (λ m. get_or (set rs i g) m no_range ≡ range_from ws m (parts - m)) z (here ∙ ap (range_from ws i) y)

-- a comparison that comes out alike at both ends of a range comes out so between them
between : (o : Operation) (a b low high v : ℤ) (k : Bool) → compared o (a +ℤ low) b ≡ Some k → compared o (a +ℤ high) b ≡ Some k → low ≤ℤ v → v ≤ℤ high → compared o (a +ℤ v) b ≡ Some k
between AtMost a b low high v true l h m n = let e : le_z (a +ℤ high) b ≡ true = cc in let g : true ≡ le_z (a +ℤ v) b = omega (arith, ints) in ap Some (sym g)
between AtMost a b low high v false l h m n = let e : le_z (a +ℤ low) b ≡ false = cc in let g : false ≡ le_z (a +ℤ v) b = omega (arith, ints) in ap Some (sym g)
between AtLeast a b low high v true l h m n = let e : le_z b (a +ℤ low) ≡ true = cc in let g : true ≡ le_z b (a +ℤ v) = omega (arith, ints) in ap Some (sym g)
between AtLeast a b low high v false l h m n = let e : le_z b (a +ℤ high) ≡ false = cc in let g : false ≡ le_z b (a +ℤ v) = omega (arith, ints) in ap Some (sym g)
between Times a b low high v k l h m n = cc

no_product : (a b low : ℤ) (k : Bool) → compared Times (a +ℤ low) b ≡ Some k → ⊥
no_product a b low k h = cc

decides : (q : Question) (low high : ℤ) (k : Bool) (e : Edge) → q.right.child ≡ Terminal → compared q.operation (q.left.constant +ℤ low) q.right.constant ≡ Some k → compared q.operation (q.left.constant +ℤ high) q.right.constant ≡ Some k → e ≡ constant_edge k → Decides q low high e
decides q low high k e right_is l h is = record {
  compares = λ t. absurd (no_product q.left.constant q.right.constant low k (subst (λ o. compared o (q.left.constant +ℤ low) q.right.constant ≡ Some k) t l));
  right_is = right_is;
  child_is = ap (λ z. z.child) is;
  equal = λ v m n. ap (λ z. z.constant) is ∙ sym (told q.operation (q.left.constant +ℤ v) q.right.constant k (between q.operation q.left.constant q.right.constant low high v k l h m n));
}

pub decided : (q : Question) (g : Range) (l h : Bool) (e : Edge) → q.right.child ≡ Terminal → compared q.operation (q.left.constant +ℤ g.low) q.right.constant ≡ Some l → compared q.operation (q.left.constant +ℤ g.high) q.right.constant ≡ Some h → e ≡ constant_edge l → IfSome (then_some (beq l h) e) (λ f. Decides q g.low g.high f)
decided q g true true e r low high is = decides q g.low g.high true e r low high is
decided q g true false e r low high is = tt
decided q g false true e r low high is = tt
decided q g false false e r low high is = decides q g.low g.high false e r low high is
