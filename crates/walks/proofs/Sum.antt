-- One more term of the sum.
use Rattle.std.proofs.Common.{◌≡◌, ℕ, suc, ◌-◌, ◌^◌, ◌<◌, ◌≤◌, List, length, get_or, ℤ, pos, nat_abs, Some, None, sym, subst, arith}
use Rattle.std.proofs.lemmas.Int.{ints}
use Rattle.diagrams.specs.declared.Edge.{Edge}
use Rattle.limits.specs.Limits.{sum}
use Rattle.diagrams.specs.Apply.{Makes, Joined, Allows, Sums, plus_edge}
use Rattle.diagrams.proofs.Chain.{sum_makes, sum_joined, sums_constant}
use Rattle.diagrams.proofs.Grow.{sums_grown}
use Rattle.tables.specs.declared.NodeTable.{NodeTable}
use Rattle.tables.specs.Places.{made, Made}
use Rattle.walks.specs.Walked.{Summed}
use Rattle.walks.proofs.Paths.{Summing}
use Rattle.walks.proofs.Once.{grew_on}

module _ {parts : ℕ} {ts : List (List ℤ)} {t t' : NodeTable} {ws : List ℤ} {i : ℕ} {e : Edge} (s : Summing parts ts t t' ws i e) where
  pub summing_small : nat_abs e.constant ≤ 2 ^ 28
  summing_small = let z = sums_constant parts (made t') ws i e s.low s.edge in omega (arith, ints)

  below : 0 < i → Sums parts (made t') ws (suc (i - 1)) e
  below h = let k : i ≡ suc (i - 1) = omega arith in subst (λ z. Sums parts (made t') ws z e) k s.edge

  pub summing_makes : 0 < i → parts ≤ length ws → ((k : ℕ) → nat_abs (get_or ws k (pos 0)) ≤ 1000000) → Allows ts parts (sum ws) → (fit : Edge) → fit ≡ plus_edge e (get_or ws (i - 1) (pos 0)) → Makes parts (made t') ts (i - 1) fit e
  summing_makes h few small allows fit is =
      let l = s.low in
      subst (λ z. Makes parts (made t') ts (i - 1) z e) (sym is) (sum_makes parts (made t') ws (i - 1) (omega arith) few e (below h) ts (small (i - 1)) allows)

  pub summing_next : 0 < i → parts ≤ length ws → (t'' : NodeTable) (fit f : Edge) → fit ≡ plus_edge e (get_or ws (i - 1) (pos 0)) → Made parts ts t' t'' (i - 1) fit e (Some f) → Summing parts ts t t'' ws (i - 1) f
  summing_next h few t'' fit f is m =
      let l = s.low in
      record {
        low = omega arith;
        grew = grew_on s.grew m.grew;
        edge = sum_joined parts (made t'') ws (i - 1) (omega arith) few e f (sums_grown parts s.grew.good.sound m.grew.grown ws (suc (i - 1)) e (below h)) (subst (λ z. Joined (made t'') (i - 1) z e f) is m.edge);
      }

  pub summing_full : (t'' : NodeTable) (fit : Edge) → Made parts ts t' t'' (i - 1) fit e None → Summed parts ts t t'' ws None
  summing_full t'' fit m = record { grew = grew_on s.grew m.grew; edge = m.edge }
