-- Weights in range, one by one.
use Rattle.std.proofs.Common.{◌≡◌, ℕ, ◌<◌, ◌≤◌, leb, is_some, Some, None, Option, sym, MatchOption}
use Rattle.std.proofs.lemmas.Bool.{le-leb, lt-leb}

-- what is missing where a size is too large is there exactly where the size is in range
pub there : {G : Type 0} (size most : ℕ) (P : G → Type 0) (o : Option G) → MatchOption o (most < size) (λ g. (size ≤ most) × P g) → is_some o ≡ leb size most
there size most P None h = sym (lt-leb size most h)
there size most P (Some g) h = sym (le-leb size most h.0)
