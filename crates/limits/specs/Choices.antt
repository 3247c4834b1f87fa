-- A choice among n parts: a list of n Bool, part 0 first, true where the part is fitted. As a word, bit i stands for part i.
use Rattle.std.specs.Prelude.{◌≡◌, ℕ, zero, suc, ◌+◌, ◌*◌, ◌/◌, ◌%◌, ◌^◌, ◌<◌, Bool, cond, List, [], ◌∷◌, length, ◌==◌}

-- the choice among n parts that a word stands for
abbrev pub bits : ℕ → ℕ → List Bool
bits zero w = []
bits (suc n) w = (w % 2 == 1) ∷ bits n (w / 2)

-- the word of a choice
abbrev pub word : List Bool → ℕ
word [] = 0
word (fitted ∷ c) = cond fitted 1 0 + 2 * word c

-- a word with no bit from n up is the word of its choice, and a choice is the choice of its word
abbrev pub WordsAreChoices : Type 0
WordsAreChoices = ((n w : ℕ) → w < 2 ^ n → word (bits n w) ≡ w) × ((c : List Bool) → bits (length c) (word c) ≡ c)
