-- bytes put after one another
use Rattle.numbers.specs.declared.cursors.Cursor.{Cursor}
use Rattle.numbers.specs.Cursors.{Puts}
use Rattle.std.proofs.Common.{length-append, ◌≡◌, ℕ, suc, ◌+◌, ◌≤◌, List, [], ◌∷◌, ◌++◌, length, take, drop, set, sym, refl, ap, ◌∙◌, arith}
use lib.Seq.{sets, sets-eq, take-length}
use borrow.Rule.Slice.PartMut.{put_mid}
use Rattle.std.proofs.lemmas.Slice.{put_mid-paste}

pub sets_append : (s t xs : List ℕ) (a : ℕ) → sets xs a (s ++ t) ≡ sets (sets xs a s) (a + length s) t
sets_append [] t xs a = ap (λ i. sets xs i t) (omega arith)
sets_append (b ∷ s) t xs a = sets_append s t (set xs a b) (suc a) ∙ ap (λ i. sets (sets (set xs a b) (suc a) s) i t) (omega arith)

pub chain : (o o₁ o₂ : List ℕ) (a a₁ : ℕ) (s t : List ℕ) → o₁ ≡ sets o a s → a₁ ≡ a + length s → o₂ ≡ sets o₁ a₁ t → o₂ ≡ sets o a (s ++ t)
chain o o₁ o₂ a a₁ s t e f g = let h = sets_append s t o a in cc

-- bytes put at a cursor, and more after them
pub puts_then : (s t : List ℕ) (was next is : Cursor) → Puts s was next → Puts t next is → Puts (s ++ t) was is
puts_then s t was next is p q = record {
  same = q.same ∙ p.same;
  size = q.size ∙ p.size;
  at = q.at ∙ omega (arith, p.at, length-append s t);
  out = chain was.out.now next.out.now is.out.now was.at next.at s t p.out p.at q.out;
}

-- what is put into the middle of a list
pub mid_put : (a k : ℕ) (xs ys zs : List ℕ) → ys ≡ zs → k ≡ length zs → a + length zs ≤ length xs → put_mid a k xs ys ≡ sets xs a zs
mid_put a k xs ys zs e f h =
    put_mid-paste a k xs ys zs (length zs) e (sym f) refl
    ∙ ap (λ s. take a xs ++ s ++ drop (a + length zs) xs) (take-length zs) ∙ sym (sets-eq zs xs a h)
