-- What a sheet says, as a relation between its bytes and its records.
use Rattle.std.specs.Prelude.{◌≡◌, ℕ, ◌<◌, List, [], ◌∷◌, ◌++◌}
use Rattle.numbers.specs.Laws.{Bytes}
use Rattle.fields.specs.Fields.{found}
use Rattle.records.specs.Sheets.{Saying, end_says, read_record}
use Rattle.spelling.specs.Spelling.{kind_of, spelled}
use Rattle.sheets.specs.Told.{Told, untold, after_record, whole, read_sheet}

-- where t is said before a place, these records stand from that place on, one after another, and then the end; and u is said by all
abbrev pub Reads : List ℕ → Told → ℕ → List Saying → Told → Type 0
Reads sheet t at [] u = (next : ℕ) × (read_record t.stage t.names sheet at ≡ found end_says next) × (t ≡ u)
Reads sheet t at (r ∷ rs) u =
    (next : ℕ) × (0 < kind_of r) × (read_record t.stage t.names sheet at ≡ found r next) × Reads sheet (after_record t r) next rs u

-- the sheet is records one after another and the end, and they say t
abbrev pub Says : List ℕ → Told → Type 0
Says sheet t = (rs : List Saying) × Reads sheet untold 0 rs t

-- the spelling of records and of the end after them
abbrev pub spelled_all : List Saying → List ℕ
spelled_all [] = spelled end_says
spelled_all (r ∷ rs) = spelled r ++ spelled_all rs

-- a sheet says at most one thing
abbrev pub SaysOneThing : Type 0
SaysOneThing = (sheet : List ℕ) (t u : Told) → Says sheet t → Says sheet u → t ≡ u

-- what a sheet without a fault is read as is what it says
abbrev pub ReadAsItSays : Type 0
ReadAsItSays = (sheet : List ℕ) (places : ℕ) (t : Told) → read_sheet sheet places ≡ whole t → Says sheet t

-- a sheet that says something is, byte for byte, the spelling of its records and of the end
abbrev pub SpelledByItsRecords : Type 0
SpelledByItsRecords = (sheet : List ℕ) (rs : List Saying) (t : Told) → Bytes sheet → Reads sheet untold 0 rs t → sheet ≡ spelled_all rs
