-- The three kinds keep the laws.
use Rattle.std.specs.Prelude.{◌≡◌, ℕ, ℤ, refl}
use Rattle.std.proofs.Common.{ap, ◌∙◌, arith, add_assoc, add-zero, zero-add}
use Rattle.std.proofs.Math.IntN.{+ℤ_assoc, +ℤ_idl, +ℤ_idr}
use Rattle.std.proofs.lemmas.Int.{ints}
use Rattle.grades.specs.Laws.{Laws}
use Rattle.grades.specs.Kinds.{priced, mass_kind, wait_kind, mass_price_kind}

pub mass_laws : Laws mass_kind
mass_laws = record {
  total = λ x y h. grind (arith, ints);
  transitive = λ x y z h k. grind (arith, ints);
  equal = λ x y h k. grind (arith, ints);
  associative = +ℤ_assoc;
  empty_left = +ℤ_idl;
  empty_right = +ℤ_idr;
  join_left = λ z x y h. grind (arith, ints);
  join_right = λ x y z h. grind (arith, ints);
  size_empty = refl;
  size_join = λ x y. omega (arith, ints);
}

pub wait_laws : Laws wait_kind
wait_laws = record {
  total = λ x y h. grind arith;
  transitive = λ x y z h k. grind arith;
  equal = λ x y h k. grind arith;
  associative = λ x y z. omega arith;
  empty_left = λ x. omega arith;
  empty_right = λ x. omega arith;
  join_left = λ z x y h. grind arith;
  join_right = λ x y z h. grind arith;
  size_empty = refl;
  size_join = λ x y. omega arith;
}

both : {a b : ℤ} {p q : ℕ} → a ≡ b → p ≡ q → priced a p ≡ priced b q
both {a} {b} {p} {q} e f = ap (λ z. priced z p) e ∙ ap (priced b) f

pub mass_price_laws : Laws mass_price_kind
mass_price_laws = record {
  total = λ x y h. grind (arith, ints);
  transitive = λ x y z h k. grind (arith, ints);
  equal = λ x y h k. both (grind (arith, ints)) (grind (arith, ints));
  associative = λ x y z. both (+ℤ_assoc x.grams y.grams z.grams) (add_assoc x.price y.price z.price);
  empty_left = λ x. both (+ℤ_idl x.grams) (zero-add x.price);
  empty_right = λ x. both (+ℤ_idr x.grams) (add-zero x.price);
  join_left = λ z x y h. grind (arith, ints);
  join_right = λ x y z h. grind (arith, ints);
  size_empty = refl;
  size_join = λ x y. omega (arith, ints);
}
