-- Choices as words, there and back.
use Rattle.std.proofs.Common.{◌≡◌, ℕ, zero, suc, ◌+◌, ◌*◌, ◌/◌, ◌%◌, ◌^◌, ◌<◌, Bool, true, false, List, [], ◌∷◌, length, refl, ap₂, arith}
use Rattle.std.proofs.lemmas.Bool.{eq-eqb, ne_eqb}
use Rattle.std.proofs.lemmas.Bool.Decides.{nat_tests}
use Rattle.limits.specs.Choices.{bits, word, WordsAreChoices}

pub word_bits : (n w : ℕ) → w < 2 ^ n → word (bits n w) ≡ w
word_bits zero w h = omega arith
word_bits (suc n) w h = let ih : word (bits n (w / 2)) ≡ w / 2 = word_bits n (w / 2) (omega arith) in grind (arith, nat_tests)

pub bits_word : (c : List Bool) → bits (length c) (word c) ≡ c
bits_word [] = refl
bits_word (true ∷ c) = ap₂ ◌∷◌ (eq-eqb _ 1 (omega arith)) (let e : (1 + 2 * word c) / 2 ≡ word c = omega arith in rw e (bits_word c))
bits_word (false ∷ c) = ap₂ ◌∷◌ (ne_eqb ((0 + 2 * word c) % 2) 1 (λ h. omega arith)) (let e : (0 + 2 * word c) / 2 ≡ word c = omega arith in rw e (bits_word c))

pub words_are_choices_lem : WordsAreChoices
words_are_choices_lem = (word_bits, bits_word)
