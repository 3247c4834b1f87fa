-- The maker's kind keeps the laws of a kind.
use Rattle.std.specs.Prelude.{◌≡◌, ℕ, refl}
use Rattle.std.proofs.Common.{ap, ◌∙◌, arith}
use Rattle.grades.specs.Laws.{Laws}
use Rattle.examples.specs.CostWaits.{bought, cost_wait_kind}

both : {a b p q : ℕ} → a ≡ b → p ≡ q → bought a p ≡ bought b q
both {a} {b} {p} {q} e f = ap (λ z. bought z p) e ∙ ap (bought b) f

pub cost_wait_laws : Laws cost_wait_kind
cost_wait_laws = record {
  total = λ x y h. grind arith;
  transitive = λ x y z h k. grind arith;
  equal = λ x y h k. both (grind arith) (grind arith);
  associative = λ x y z. both (omega arith) (omega arith);
  empty_left = λ x. both (omega arith) (omega arith);
  empty_right = λ x. both (omega arith) (omega arith);
  join_left = λ z x y h. grind arith;
  join_right = λ x y z h. grind arith;
  size_empty = refl;
  size_join = λ x y. omega arith;
}
