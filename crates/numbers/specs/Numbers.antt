-- Whole numbers in groups of seven bits, the lowest group first. A byte of 128 or more says that another follows.
use Rattle.std.specs.Prelude.{◌≡◌, ℕ, zero, suc, ◌+◌, ◌-◌, ◌*◌, ◌/◌, ◌%◌, ◌<◌, ◌≤◌, Bool, true, false, cond, List, [], ◌∷◌, length, drop, ℤ, pos, negsuc, Ok, Err, Option, Result, MatchOption, ◌==◌, nat_lt}
use Rattle.std.proofs.lemmas.List.Edits.{sets}
use Rattle.numbers.specs.declared.NumberFault.{NumberFault}
use Rattle.numbers.specs.declared.NumberFault.TheVariants.{CutShort, NotShortest}

-- the numbers of the faults
abbrev pub fault_number : NumberFault → ℕ
fault_number CutShort = 1
fault_number NotShortest = 2

-- what reading gives: a value and the place after it, or the number of a fault
pub data Reading (A : Type 0) : Type 0 where
  read : A → ℕ → Reading A
  unread : ℕ → Reading A

-- groups were read before: `value` is theirs, `weight` that of the next group, and `taken` counts their bytes
abbrev pub carry : ℕ → ℕ → ℕ → Reading ℕ → Reading ℕ
carry weight value taken (read v n) = read (value + weight * v) (taken + n)
carry weight value taken (unread e) = unread e

-- the last byte of a number: a zero only where it is the first
abbrev pub last_byte : Bool → ℕ → Reading ℕ
last_byte true b = read b 1
last_byte false b = cond (b == 0) (unread 2) (read b 1)

-- the rest of a number, which may have `left` more bytes after the next; `first` says that none came before.
-- The fifth byte is below 16, so that a number is below 2^32
unfoldable pub rest_of_number : ℕ → Bool → List ℕ → Reading ℕ
rest_of_number zero first [] = unread 1
rest_of_number zero first (b ∷ bs) = cond (nat_lt b 16) (last_byte first b) (unread 2)
rest_of_number (suc left) first [] = unread 1
rest_of_number (suc left) first (b ∷ bs) =
    cond (nat_lt b 128) (last_byte first b) (carry 128 (b - 128) 1 (rest_of_number left false bs))

-- the number at the start of a list of bytes
abbrev pub decode : List ℕ → Reading ℕ
decode bytes = rest_of_number 4 true bytes

abbrev pub from_place : ℕ → Reading ℕ → Reading ℕ
from_place at (read v n) = read v (at + n)
from_place at (unread e) = unread e

-- the number at a place; at the end and past it a number is cut short
abbrev pub read_number : List ℕ → ℕ → Reading ℕ
read_number bytes at = from_place at (decode (drop at bytes))

-- a signed number v is written as 2v, or as -2v - 1 if v is negative: 2k + 1 stands for -(k + 1)
abbrev pub signed_of : ℕ → ℤ
signed_of n = cond (n % 2 == 0) (pos (n / 2)) (negsuc (n / 2))

abbrev pub unsigned_of : ℤ → ℕ
unsigned_of (pos n) = 2 * n
unsigned_of (negsuc n) = 2 * n + 1

abbrev pub signed_reading : Reading ℕ → Reading ℤ
signed_reading (read v next) = read (signed_of v) next
signed_reading (unread e) = unread e

abbrev pub read_signed : List ℕ → ℕ → Reading ℤ
read_signed bytes at = signed_reading (read_number bytes at)

-- the groups of a number, of which at most `left` follow the first
unfoldable pub groups : ℕ → ℕ → List ℕ
groups zero v = v ∷ []
groups (suc left) v = cond (nat_lt v 128) (v ∷ []) ((v % 128 + 128) ∷ groups left (v / 128))

-- the spelling of a number below 2^32, and of a signed one
abbrev pub encode : ℕ → List ℕ
encode v = groups 4 v

abbrev pub encode_signed : ℤ → List ℕ
encode_signed v = encode (unsigned_of v)

-- the reading that a result is
abbrev pub reading_of : {A : Type 0} → Result (A × ℕ) NumberFault → Reading A
reading_of (Ok p) = read p.0 p.1
reading_of (Err e) = unread (fault_number e)

-- the bytes s are written from `at` up to the place that is answered, and all other bytes are left;
-- or there is no room for them, and all are left
abbrev pub Written : List ℕ → List ℕ → ℕ → List ℕ → Option ℕ → Type 0
Written s was at is answer = MatchOption answer
    ((length was < at + length s) × (is ≡ was))
    (λ end. (end ≡ at + length s) × (end ≤ length was) × (is ≡ sets was at s))
