-- Coefficients within a range, as terms are taken.
use Rattle.std.proofs.Common.{ℕ, zero, suc, ◌≤◌, List, [], ◌∷◌, get_or, set, replicate, ℤ, pos, nat_abs, arith}

pub zeros_small : (n m i : ℕ) → nat_abs (get_or (replicate n (pos 0)) i (pos 0)) ≤ m
zeros_small zero m i = omega arith
zeros_small (suc n) m zero = omega arith
zeros_small (suc n) m (suc i) = zeros_small n m i

pub set_small : (cs : List ℤ) (k m : ℕ) (a : ℤ) → nat_abs a ≤ m → ((i : ℕ) → nat_abs (get_or cs i (pos 0)) ≤ m) → (i : ℕ) → nat_abs (get_or (set cs k a) i (pos 0)) ≤ m
set_small [] k m a h all i = all i
set_small (x ∷ xs) zero m a h all zero = h
set_small (x ∷ xs) zero m a h all (suc i) = all (suc i)
set_small (x ∷ xs) (suc k) m a h all zero = all zero
set_small (x ∷ xs) (suc k) m a h all (suc i) = set_small xs k m a h (λ j. all (suc j)) i
