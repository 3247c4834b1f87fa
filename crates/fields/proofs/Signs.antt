-- a number that is read, and the signed number that it stands for
use Rattle.std.proofs.Common.{◌≡◌, ℕ, List}
use Rattle.numbers.specs.Numbers.{Reading, read, unread, read_number, signed_of, signed_reading}
use Rattle.fields.specs.Fields.{found, fault, layered, number_at, signed_at}

found_signed : (p : ℕ) (r : Reading ℕ) (v q : ℕ) → layered p r ≡ found v q → layered p (signed_reading r) ≡ found (signed_of v) q
found_signed p (read w n) v q e = cc
found_signed p (unread x) v q e = cc

fault_signed : (p : ℕ) (r : Reading ℕ) (n l k : ℕ) → layered p r ≡ fault n l k → layered p (signed_reading r) ≡ fault n l k
fault_signed p (read w m) n l k e = cc
fault_signed p (unread x) n l k e = cc

pub signed_found : (bytes : List ℕ) (p v q : ℕ) → number_at bytes p ≡ found v q → signed_at bytes p ≡ found (signed_of v) q
signed_found bytes p v q e = found_signed p (read_number bytes p) v q e

pub signed_fault : (bytes : List ℕ) (p n l k : ℕ) → number_at bytes p ≡ fault n l k → signed_at bytes p ≡ fault n l k
signed_fault bytes p n l k e = fault_signed p (read_number bytes p) n l k e
