-- What holds of every number and its spelling.
use Rattle.std.specs.Prelude.{◌≡◌, ℕ, ◌+◌, ◌^◌, ◌<◌, List, ◌++◌, length, ℤ, slice_index, slice_range}
use Rattle.numbers.specs.Numbers.{read, read_number, read_signed, unsigned_of, encode, encode_signed}

-- a list of bytes
abbrev pub Bytes : List ℕ → Type 0
Bytes xs = (i : ℕ) → slice_index xs i < 256

-- a number that is spelled anywhere among bytes is read back there, to its end
abbrev pub ReadsBack : Type 0
ReadsBack =
    (v : ℕ) (before rest : List ℕ) → v < 2 ^ 32
    → read_number (before ++ (encode v ++ rest)) (length before) ≡ read v (length before + length (encode v))

abbrev pub SignedReadsBack : Type 0
SignedReadsBack =
    (v : ℤ) (before rest : List ℕ) → unsigned_of v < 2 ^ 32
    → read_signed (before ++ (encode_signed v ++ rest)) (length before) ≡ read v (length before + length (encode_signed v))

-- two spellings that read as one number are the same bytes
abbrev pub OneSpelling : Type 0
OneSpelling =
    (v : ℕ) (xs ys : List ℕ) (at end from to : ℕ) → Bytes xs → Bytes ys → read_number xs at ≡ read v end → read_number ys from ≡ read v to
    → slice_range xs at end ≡ slice_range ys from to

abbrev pub SignedOneSpelling : Type 0
SignedOneSpelling =
    (v : ℤ) (xs ys : List ℕ) (at end from to : ℕ) → Bytes xs → Bytes ys → read_signed xs at ≡ read v end → read_signed ys from ≡ read v to
    → slice_range xs at end ≡ slice_range ys from to
