-- How the fields of a sheet's records are read. Each definition here can be computed.
use Rattle.std.specs.Prelude.{ℕ, ◌+◌, Bool, cond, not, ◌&&◌, List, length, take, drop, ℤ, nat_le, unsigned_abs}
use Rattle.std.specs.List.{list_all, list_any}
use Rattle.std.specs.Str.{bytes_eq}
use Rattle.limits.specs.declared.drafts.Term.{Term}
use Rattle.numbers.specs.Numbers.{Reading, read, unread, read_number, read_signed}

-- what reading gives: a value and the place after it, or a fault: its number, its layer and its place
pub data Answer (A : Type 0) : Type 0 where
  found : A → ℕ → Answer A
  fault : ℕ → ℕ → ℕ → Answer A

-- go on with what was found, at the place after it; a fault stays
abbrev pub and_then : {A B : Type 0} → Answer A → (A → ℕ → Answer B) → Answer B
and_then (found v p) f = f v p
and_then (fault n l p) f = fault n l p

-- a number at a place: its faults are of layer 1, at the number's first byte
abbrev pub layered : {A : Type 0} → ℕ → Reading A → Answer A
layered p (read v next) = found v next
layered p (unread e) = fault e 1 p

abbrev pub number_at : List ℕ → ℕ → Answer ℕ
number_at bytes p = layered p (read_number bytes p)

abbrev pub signed_at : List ℕ → ℕ → Answer ℤ
signed_at bytes p = layered p (read_signed bytes p)

-- within 1,000,000 either way
abbrev pub in_range : ℤ → Bool
in_range v = nat_le (unsigned_abs v) 1000000

-- a name's bytes are from 33 to 126
abbrev pub plain : List ℕ → Bool
plain bs = list_all (λ b. nat_le 33 b && nat_le b 126) bs

-- a name is one of others
abbrev pub among : List (List ℕ) → List ℕ → Bool
among names name = list_any (λ n. bytes_eq n name) names

-- Below, `body` is the sheet up to the end of the record's payload, `at` the place of the record's first byte,
-- and `p` the place that is read.

-- the length of a name, judged by 5 and then by 4
abbrev pub read_name_size : List ℕ → ℕ → ℕ → Answer ℕ
read_name_size body at p =
    and_then (number_at body p) (λ n q.
    cond (nat_le 1 n && nat_le n 16) (cond (nat_le (q + n) (length body)) (found n q) (fault 4 2 at)) (fault 5 2 at))

-- a name; `names` are those of the parts before
abbrev pub read_name : List (List ℕ) → List ℕ → ℕ → ℕ → Answer (List ℕ)
read_name names body at p =
    and_then (read_name_size body at p) (λ n q.
    cond (plain (take n (drop q body)) && not (among names (take n (drop q body)))) (found (take n (drop q body)) (q + n)) (fault 5 2 at))

abbrev pub read_mass : List ℕ → ℕ → ℕ → Answer ℤ
read_mass body at p = and_then (signed_at body p) (λ v q. cond (in_range v) (found v q) (fault 9 2 at))

-- a wait or a price
abbrev pub read_amount : List ℕ → ℕ → ℕ → Answer ℕ
read_amount body at p = and_then (number_at body p) (λ v q. cond (nat_le v 1000000) (found v q) (fault 9 2 at))

-- a term's part is at most 47 (7) and at least `least`, one above the part before (8), before its coefficient is read (9)
abbrev pub coefficient_at : List ℕ → ℕ → ℕ → ℕ → ℕ → Answer Term
coefficient_at body at least i p =
    cond (nat_le i 47)
    (cond (nat_le least i)
    (and_then (signed_at body p) (λ v q. cond (in_range v) (found (record { part = i; coefficient = v }) q) (fault 9 3 at)))
    (fault 8 3 at))
    (fault 7 3 at)

abbrev pub read_term : List ℕ → ℕ → ℕ → ℕ → Answer Term
read_term body at least p = and_then (number_at body p) (λ i q. coefficient_at body at least i q)
