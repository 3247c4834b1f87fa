-- How a record is spelled: its kind, its payload's length, and its payload.
use Rattle.std.specs.Prelude.{ℕ, List, [], ◌∷◌, ◌++◌, length}
use Rattle.limits.specs.declared.Sense.{Sense}
use Rattle.limits.specs.declared.Sense.TheVariants.{AtMost, AtLeast}
use Rattle.limits.specs.declared.drafts.Term.{Term}
use Rattle.numbers.specs.Numbers.{encode, encode_signed}
use Rattle.records.specs.Codes.{goal_code}
use Rattle.records.specs.Sheets.{Saying, part_says, limit_says, goal_says, end_says}

abbrev pub sense_kind : Sense → ℕ
sense_kind AtMost = 2
sense_kind AtLeast = 3

abbrev pub kind_of : Saying → ℕ
kind_of (part_says name mass wait price) = 1
kind_of (limit_says sense bound terms) = sense_kind sense
kind_of (goal_says goal) = 4
kind_of end_says = 0

abbrev pub spelled_terms : List Term → List ℕ
spelled_terms [] = []
spelled_terms (t ∷ ts) = encode t.part ++ (encode_signed t.coefficient ++ spelled_terms ts)

abbrev pub payload : Saying → List ℕ
payload (part_says name mass wait price) = encode (length name) ++ (name ++ (encode_signed mass ++ (encode wait ++ encode price)))
payload (limit_says sense bound terms) = encode_signed bound ++ spelled_terms terms
payload (goal_says goal) = encode (goal_code goal)
payload end_says = []

abbrev pub spelled : Saying → List ℕ
spelled s = encode (kind_of s) ++ (encode (length (payload s)) ++ payload s)
