-- a record put piece by piece
use Rattle.std.proofs.Common.{◌≡◌, ℕ, ◌+◌, ◌-◌, ◌<◌, ◌≤◌, List, ◌++◌, length, get_or, drop, Ok, pos, sym, ap, ◌∙◌, arith, length-append}
use Rattle.std.proofs.lemmas.List.{at_drop_more}
use Rattle.std.proofs.lemmas.Bool.{le-leb}
use Rattle.limits.specs.declared.drafts.Term.{Term}
use Rattle.limits.specs.Refusals.{done}
use Rattle.numbers.specs.declared.cursors.Cursor.{Cursor}
use Rattle.numbers.specs.Numbers.{encode, encode_signed}
use Rattle.numbers.specs.Cursors.{Puts}
use Rattle.numbers.proofs.Chains.{puts_then}
use Rattle.records.specs.Sheets.{Saying}
use Rattle.spelling.specs.Spelling.{spelled_terms, kind_of, payload, spelled}
use Rattle.spelling.specs.Judging.{judge, refusal_of}
use Rattle.spelling.specs.Laws.{BackIn}
use Rattle.spelling.proofs.Back.{back_in}
use Rattle.recording.specs.Writing.{Appended}

-- three pieces, one after another
pub puts_three : (s t u : List ℕ) (a b c d : Cursor) → Puts s a b → Puts t b c → Puts u c d → Puts (s ++ (t ++ u)) a d
puts_three s t u a b c d p q r = puts_then s (t ++ u) a b d p (puts_then t u b c d q r)

-- a record's length is that of its kind's code, its size and its payload
spelled_length : (s : Saying) → length (spelled s) ≡ length (encode (kind_of s)) + (length (encode (length (payload s))) + length (payload s))
spelled_length s = simp length-append

-- a record that passes is put where it has room
pub appended : (s : Saying) (code size : ℕ) (a b c d : Cursor) → judge s ≡ done → code ≡ kind_of s → size ≡ length (payload s)
    → a.at + (length (encode code) + (length (encode size) + size)) ≤ length a.out.now
    → Puts (encode code) a b → Puts (encode size) b c → Puts (payload s) c d
    → (refusal_of s (length a.out.now - a.at) ≡ done) × Puts (spelled s) a d × (d.at ≤ length a.out.now)
appended s code size a b c d j k z room p q r =
    let len = spelled_length s in
    let same : length (encode code) + (length (encode size) + size) ≡ length (spelled s) = rw (k, z) (sym len) in
    let all : Puts (spelled s) a d = puts_three (encode (kind_of s)) (encode (length (payload s))) (payload s) a b c d (rw k at p) (rw z at q) r in
    (rw (j, le-leb (length (spelled s)) (length a.out.now - a.at) (omega arith)), all, omega (arith, all.at))

-- terms

abbrev pub blank : Term
blank = record { part = 0; coefficient = pos 0 }

-- a term's two numbers, and then the terms after it
pub puts_term : (ts : List Term) (i : ℕ) (t : Term) (a b c d : Cursor) → i < length ts → Puts (encode (get_or ts i t).part) a b
    → Puts (encode_signed (get_or ts i t).coefficient) b c → Puts (spelled_terms (drop (i + 1) ts)) c d → Puts (spelled_terms (drop i ts)) a d
puts_term ts i t a b c d h p q r =
    rw (at_drop_more (λ s. spelled_terms s) ts i t h) (puts_three _ _ _ a b c d p q r)

pub term_length : (ts : List Term) (i : ℕ) (t : Term) → i < length ts → length (spelled_terms (drop i ts))
    ≡ length (encode (get_or ts i t).part) + (length (encode_signed (get_or ts i t).coefficient) + length (spelled_terms (drop (i + 1) ts)))
term_length ts i t h = ap length (at_drop_more (λ s. spelled_terms s) ts i t h) ∙ simp length-append

-- a record that is appended is read back there
pub appended_back : (s : Saying) (was is : List ℕ) (at end : ℕ) → Appended s was at is (Ok end) → BackIn s is at end
appended_back s was is at end h = back_in s was is at end h.0 h.1 h.2 h.3
