-- what is read has one spelling
use Rattle.std.proofs.Common.{◌≡◌, ℕ, zero, suc, ◌+◌, ◌-◌, ◌<◌, ◌≤◌, Bool, true, false, cond, not, ◌&&◌, eqb, ltb, leb, List, [], ◌∷◌, ◌++◌, length, take, drop, ℤ, sym, refl, ap, ◌∙◌, append_assoc, append-nil, arith, length-append, length-drop, take-append-drop, ltb-false, ltb-true}
use Rattle.std.proofs.lemmas.List.{drop-drop, drop-take, length-take-le, drop_all}
use Rattle.std.proofs.lemmas.Bool.{leb-true, eqb-true, eqb-false}
use Rattle.limits.specs.declared.Sense.{Sense}
use Rattle.limits.specs.declared.Sense.TheVariants.{AtMost, AtLeast}
use Rattle.limits.specs.declared.drafts.Term.{Term}
use Rattle.numbers.specs.Laws.{Bytes}
use Rattle.numbers.specs.Numbers.{Reading, read, unread, encode, unsigned_of, read_number, read_signed}
use Rattle.numbers.proofs.Writes.{length_some}
use Rattle.numbers.proofs.Spelled.{Stands, standing, number_stands, signed_stands}
use Rattle.records.specs.Codes.{goal_code, goal_of}
use Rattle.records.specs.declared.Stage.{Stage}
use Rattle.records.specs.declared.Stage.TheVariants.{Parts, Limits, End}
use Rattle.fields.specs.Fields.{Answer, found, fault, and_then, layered, number_at, signed_at, in_range, plain, among, read_name, read_mass, read_amount, read_term, read_name_size}
use Rattle.records.specs.Sheets.{Saying, part_says, limit_says, goal_says, end_says, ended, read_part, read_terms, read_limit, read_goal, allowed, read_payload, read_record, read_named_part, read_kind, read_length, read_sized, sense_of}
use Rattle.spelling.specs.Spelling.{spelled_terms, kind_of, payload, spelled, sense_kind}
use Rattle.spelling.specs.Laws.{OneSpelling}

not_found : {A : Type 0} {C : Type 0} (n l p : ℕ) (v : A) (q : ℕ) → fault n l p ≡ found v q → C
not_found n l p v q e = let z : ◌≡◌ {A = ℕ} 0 1 = cc in absurd (omega arith)

-- what was found came from what was found before it
pub then_from : {A B : Type 0} (a : Answer A) (f : A → ℕ → Answer B) (v : B) (q : ℕ) → and_then a f ≡ found v q
    → (x : A) × (r : ℕ) × (a ≡ found x r) × (f x r ≡ found v q)
then_from (found x r) f v q e = (x, r, refl, e)
then_from (fault n l p) f v q e = not_found n l p v q e

pub cond_from : {A : Type 0} (t : Bool) (a : Answer A) (n l p : ℕ) (v : A) (q : ℕ) → cond t a (fault n l p) ≡ found v q → (t ≡ true) × (a ≡ found v q)
cond_from true a n l p v q e = (refl, e)
cond_from false a n l p v q e = not_found n l p v q e

found_is : {A : Type 0} (v w : A) (p q : ℕ) → found v p ≡ found w q → (v ≡ w) × (p ≡ q)
found_is v w p q e = (cc, cc)

joined : (xs : List ℕ) (p q r : ℕ) (s t : List ℕ) → Stands xs p q s → Stands xs q r t → Stands xs p r (s ++ t)
joined xs p q r s t (a, b) (c, d) =
    (a ∙ ap (λ x. s ++ x) c ∙ sym (append_assoc s t (drop r xs)), let l = length-append s t in omega arith)

layered_from : {A : Type 0} (p : ℕ) (r : Reading A) (v : A) (q : ℕ) → layered p r ≡ found v q → r ≡ read v q
layered_from p (read w n) v q e = let (a, b) = found_is w v n q e in ap (λ x. read x n) a ∙ ap (read v) b
layered_from p (unread n) v q e = not_found n 1 p v q e

number_sole : (xs : List ℕ) (p v q : ℕ) → Bytes xs → number_at xs p ≡ found v q → Stands xs p q (encode v)
number_sole xs p v q h e = number_stands xs p v q h (layered_from p (read_number xs p) v q e)

signed_sole : (xs : List ℕ) (p : ℕ) (v : ℤ) (q : ℕ) → Bytes xs → signed_at xs p ≡ found v q → Stands xs p q (encode (unsigned_of v))
signed_sole xs p v q h e = signed_stands xs p v q h (layered_from p (read_signed xs p) v q e)

-- what stands at a place ends in the list, if it is some
within : (xs : List ℕ) (p q : ℕ) (s : List ℕ) → 0 < length s → Stands xs p q s → q ≤ length xs
within xs p q s h (a, b) =
    let l = sym (length-drop p xs) ∙ ap length a ∙ length-append s (drop q xs) in
    let m = length-drop q xs in omega arith

-- a part

name_sole : (names : List (List ℕ)) (body : List ℕ) (at p : ℕ) (name : List ℕ) (q : ℕ) → Bytes body → read_name names body at p ≡ found name q
    → Stands body p q (encode (length name) ++ name)
name_sole names body at p name q h e =
    let (n, r, x, f) = then_from (read_name_size body at p) _ name q e in
    let (m, s, a, b) = then_from (number_at body p) _ n r x in
    let (_, c) = cond_from (leb 1 m && leb m 16) _ 5 2 at n r b in
    let (fits, d) = cond_from (leb (s + m) (length body)) _ 4 2 at n r c in
    let (same, here) = found_is m n s r d in
    let (_, g) = cond_from (plain (take n (drop r body)) && not (among names (take n (drop r body)))) (found (take n (drop r body)) (r + n)) 5 2 at name q f in
    let (is, there) = found_is (take n (drop r body)) name (r + n) q g in
    let l = leb-true (s + m) (length body) fits in
    let k = length-drop r body in
    let len : length name ≡ n = ap length (sym is) ∙ length-take-le n (drop r body) (omega arith) in
    let (x, y) = number_sole body p n r h (a ∙ ap (λ i. found i s) same ∙ ap (found n) here) in
    let k = ap (λ i. length (encode i)) len in
    let second : drop r body ≡ name ++ drop q body =
    sym (take-append-drop n (drop r body)) ∙ ap (λ s. s ++ drop n (drop r body)) is ∙ ap (λ s. name ++ s) (drop-drop n r body ∙ ap (λ i. drop i body) there) in
    joined body p r q (encode (length name)) name (x ∙ ap (λ i. encode i ++ drop r body) (sym len), omega arith) (second, omega arith)

mass_sole : (body : List ℕ) (at p : ℕ) (v : ℤ) (q : ℕ) → Bytes body → read_mass body at p ≡ found v q → Stands body p q (encode (unsigned_of v))
mass_sole body at p v q h e =
    let (w, r, a, b) = then_from (signed_at body p) _ v q e in
    let (_, c) = cond_from (in_range w) _ 9 2 at v q b in
    signed_sole body p v q h (a ∙ c)

amount_sole : (body : List ℕ) (at p v q : ℕ) → Bytes body → read_amount body at p ≡ found v q → Stands body p q (encode v)
amount_sole body at p v q h e =
    let (w, r, a, b) = then_from (number_at body p) _ v q e in
    let (_, c) = cond_from (leb w 1000000) _ 9 2 at v q b in
    number_sole body p v q h (a ∙ c)

pub ended_sole : (body : List ℕ) (at : ℕ) (t s : Saying) (p q : ℕ) → ended body at t p ≡ found s q → (t ≡ s) × (p ≡ q) × (q ≡ length body)
ended_sole body at t s p q e =
    let (a, b) = cond_from (eqb p (length body)) _ 4 2 at s q e in
    let (c, d) = found_is t s p q b in
    (c, d, sym d ∙ eqb-true p (length body) a)

-- what a payload holds, and that it is read to its end
abbrev pub Sole : ℕ → List ℕ → ℕ → Saying → ℕ → Type 0
Sole kind body p s q = (kind_of s ≡ kind) × Stands body p q (payload s) × (q ≡ length body)

part_sole : (names : List (List ℕ)) (body : List ℕ) (at p : ℕ) (s : Saying) (q : ℕ) → Bytes body → read_part names body at p ≡ found s q → Sole 1 body p s q
part_sole names body at p s q h e₀ =
    let (_, e) = cond_from (ltb (length names) 48) (and_then (read_name names body at p) (λ name q. read_named_part name body at q)) 7 2 at s q e₀ in
    let (name, p₁, a₁, e₁) = then_from (read_name names body at p) (λ name q. read_named_part name body at q) s q e in
    let (mass, p₂, a₂, e₂) = then_from (read_mass body at p₁) _ s q e₁ in
    let (wait, p₃, a₃, e₃) = then_from (read_amount body at p₂) _ s q e₂ in
    let (price, p₄, a₄, e₄) = then_from (read_amount body at p₃) _ s q e₃ in
    let (is, there, end) = ended_sole body at (part_says name mass wait price) s p₄ q e₄ in
    let last = joined body p₂ p₃ p₄ _ _ (amount_sole body at p₂ wait p₃ h a₃) (amount_sole body at p₃ price p₄ h a₄) in
    let all = joined body p p₁ p₄ _ _ (name_sole names body at p name p₁ h a₁) (joined body p₁ p₂ p₄ _ _ (mass_sole body at p₁ mass p₂ h a₂) last) in
    let spell : (encode (length name) ++ name) ++ (encode (unsigned_of mass) ++ (encode wait ++ encode price)) ≡ payload s =
    append_assoc (encode (length name)) name _ ∙ ap payload is in (
      sym (ap kind_of is),
      (all.0 ∙ ap (λ x. x ++ drop p₄ body) spell ∙ ap (λ i. payload s ++ drop i body) there, sym there ∙ all.1 ∙ ap (λ x. p + length x) spell),
      end,
    )

code_of : (v : ℕ) → v ≤ 2 → goal_code (goal_of v) ≡ v
code_of zero h = refl
code_of (suc zero) h = refl
code_of (suc (suc v)) h = omega arith

goal_sole : (body : List ℕ) (at p : ℕ) (s : Saying) (q : ℕ) → Bytes body → read_goal body at p ≡ found s q → Sole 4 body p s q
goal_sole body at p s q h e =
    let (v, r, a, b) = then_from (number_at body p) _ s q e in
    let (low, c) = cond_from (leb v 2) _ 6 2 at s q b in
    let (is, there, end) = ended_sole body at (goal_says (goal_of v)) s r q c in
    let (x, y) = number_sole body p v r h a in
    let spell : encode v ≡ payload s = ap encode (sym (code_of v (leb-true v 2 low))) ∙ ap payload is in
    (sym (ap kind_of is), (x ∙ ap (λ t. t ++ drop r body) spell ∙ ap (λ i. payload s ++ drop i body) there, sym there ∙ y ∙ ap (λ t. p + length t) spell), end)

-- a limit

term_sole : (body : List ℕ) (at least p : ℕ) (t : Term) (q : ℕ) → Bytes body → read_term body at least p ≡ found t q
    → Stands body p q (encode t.part ++ encode (unsigned_of t.coefficient))
term_sole body at least p t q h e =
    let (i, r, a, b) = then_from (number_at body p) _ t q e in
    let (_, c) = cond_from (leb i 47) _ 7 3 at t q b in
    let (_, d) = cond_from (leb least i) _ 8 3 at t q c in
    let (v, w, f, g) = then_from (signed_at body r) _ t q d in
    let (_, k) = cond_from (in_range v) _ 9 3 at t q g in
    let (is, there) = found_is (record { part = i; coefficient = v }) t w q k in
    let (x, y) = joined body p r w (encode i) (encode (unsigned_of v)) (number_sole body p i r h a) (signed_sole body r v w h f) in
    let spell : encode i ++ encode (unsigned_of v) ≡ encode t.part ++ encode (unsigned_of t.coefficient) = ap (λ (u : Term). encode u.part ++ encode (unsigned_of u.coefficient)) is in (
      x ∙ ap (λ s. s ++ drop w body) spell ∙ ap (λ j. (encode t.part ++ encode (unsigned_of t.coefficient)) ++ drop j body) there,
      sym there ∙ y ∙ ap (λ s. p + length s) spell,
    )

abbrev TermsSole : List ℕ → ℕ → List Term → ℕ → Type 0
TermsSole body p ts q = Stands body p q (spelled_terms ts) × (q ≡ length body)

terms_none : (body : List ℕ) (p : ℕ) (ts : List Term) (q : ℕ) → p ≤ length body → length body ≤ p → found [] p ≡ found ts q → TermsSole body p ts q
terms_none body p ts q h k e =
    let (is, there) = found_is [] ts p q e in
    let spell : [] ≡ spelled_terms ts = ap spelled_terms is in
    let m = ap length spell in
    ((ap (λ i. drop i body) there ∙ ap (λ s. s ++ drop q body) spell, omega arith), omega arith)

terms_cases : (n : ℕ) (body : List ℕ) (at least p : ℕ) (ts : List Term) (q : ℕ) (b : Bool) → Bytes body → p ≤ length body → length body - p ≤ suc n → ltb p (length body) ≡ b
    → ((least p : ℕ) (ts : List Term) (q : ℕ) → p ≤ length body → length body - p ≤ n → read_terms n body at least p ≡ found ts q → TermsSole body p ts q)
    → cond b (and_then (read_term body at least p) (λ t r. and_then (read_terms n body at (t.part + 1) r) (λ us u. found (t ∷ us) u))) (found [] p) ≡ found ts q
    → TermsSole body p ts q
terms_cases n body at least p ts q false h l k t ih e = terms_none body p ts q l (ltb-false p (length body) t) e
terms_cases n body at least p ts q true h l k t ih e =
    let (u, r, a, b) = then_from (read_term body at least p) _ ts q e in
    let (us, w, c, d) = then_from (read_terms n body at (u.part + 1) r) _ ts q b in
    let (is, there) = found_is (u ∷ us) ts w q d in
    let first = term_sole body at least p u r h a in
    let some = length_some 4 u.part in
    let long = length-append (encode u.part) (encode (unsigned_of u.coefficient)) in
    let past = within body p r _ (omega arith) first in
    let (others, end) = ih (u.part + 1) r us w past (omega (arith, first.1)) c in
    let (x, y) = joined body p r w _ _ first others in
    let spell : (encode u.part ++ encode (unsigned_of u.coefficient)) ++ spelled_terms us ≡ spelled_terms ts =
    append_assoc (encode u.part) (encode (unsigned_of u.coefficient)) (spelled_terms us) ∙ ap spelled_terms is in
    ((x ∙ ap (λ s. s ++ drop w body) spell ∙ ap (λ j. spelled_terms ts ++ drop j body) there, sym there ∙ y ∙ ap (λ s. p + length s) spell), sym there ∙ end)

terms_sole : (n : ℕ) (body : List ℕ) (at : ℕ) → Bytes body → (least p : ℕ) (ts : List Term) (q : ℕ) → p ≤ length body → length body - p ≤ n
    → read_terms n body at least p ≡ found ts q → TermsSole body p ts q
unfolding read_terms
terms_sole zero body at h least p ts q l k e = terms_none body p ts q l (omega arith) e
terms_sole (suc n) body at h least p ts q l k e = terms_cases n body at least p ts q (ltb p (length body)) h l k refl (terms_sole n body at h) e

limit_sole : (b : Sense) (body : List ℕ) (at p : ℕ) (s : Saying) (q : ℕ) → Bytes body → read_limit b body at p ≡ found s q → Sole (sense_kind b) body p s q
limit_sole b body at p s q h e =
    let (v, r, a, c) = then_from (signed_at body p) _ s q e in
    let (ts, w, d, f) = then_from (read_terms (length body - r) body at 0 r) _ s q c in
    let (is, there) = found_is (limit_says b v ts) s w q f in
    let first = signed_sole body p v r h a in
    let past = within body p r _ (length_some 4 (unsigned_of v)) first in
    let (others, end) = terms_sole (length body - r) body at h 0 r ts w past (omega arith) d in
    let (x, y) = joined body p r w _ _ first others in
    (sym (ap kind_of is), (x ∙ ap (λ t. payload t ++ drop w body) is ∙ ap (λ i. payload s ++ drop i body) there, sym there ∙ y ∙ ap (λ t. p + length (payload t)) is), sym there ∙ end)

-- a record

bytes_take : (n : ℕ) (xs : List ℕ) → Bytes xs → Bytes (take n xs)
bytes_take zero xs h i = omega arith
bytes_take (suc n) [] h i = h i
bytes_take (suc n) (x ∷ xs) h zero = h 0
bytes_take (suc n) (x ∷ xs) h (suc i) = bytes_take n xs (λ j. h (suc j)) i

-- what fills a part of the sheet stands in the sheet
widened : (sheet : List ℕ) (q size : ℕ) (s : List ℕ) (r : ℕ) → q + size ≤ length sheet → Stands (take (q + size) sheet) q r s → r ≡ length (take (q + size) sheet)
    → Stands sheet q r s × (size ≡ length s)
widened sheet q size s r h (a, b) e =
    let len = length-take-le (q + size) sheet h in
    let none : drop r (take (q + size) sheet) ≡ [] = drop_all r (take (q + size) sheet) (omega arith) in
    let is : take size (drop q sheet) ≡ s = sym (drop-take q size sheet) ∙ a ∙ ap (λ x. s ++ x) none ∙ append-nil s in
    let there : q + size ≡ r = sym len ∙ sym e in (
      (sym (take-append-drop size (drop q sheet)) ∙ ap (λ x. x ++ drop size (drop q sheet)) is ∙ ap (λ x. s ++ x) (drop-drop size q sheet ∙ ap (λ i. drop i sheet) there), b),
      omega arith,
    )

abbrev Whole : ℕ → List ℕ → ℕ → ℕ → Saying → ℕ → Type 0
Whole kind sheet q size s r = (kind_of s ≡ kind) × Stands sheet q r (payload s) × (size ≡ length (payload s))

whole : (kind : ℕ) (sheet : List ℕ) (q size : ℕ) (s : Saying) (r : ℕ) → q + size ≤ length sheet → Sole kind (take (q + size) sheet) q s r → Whole kind sheet q size s r
whole kind sheet q size s r h (k, a, b) = let (x, y) = widened sheet q size (payload s) r h a b in (k, x, y)

end_whole : (sheet : List ℕ) (at q size : ℕ) (s : Saying) (r : ℕ) → q + size ≤ length sheet → ended sheet at end_says q ≡ found s r → Whole 0 sheet q size s r
end_whole sheet at q size s r h e =
    let (is, there, end) = ended_sole sheet at end_says s q r e in
    let spell : [] ≡ payload s = ap payload is in
    let m = ap length spell in
    (sym (ap kind_of is), (ap (λ i. drop i sheet) there ∙ ap (λ x. x ++ drop r sheet) spell, omega arith), omega arith)

limit_kind_lem : (kind : ℕ) (b : Bool) → eqb kind 3 ≡ b → kind < 5 → (kind ≡ 0 → ⊥) → (kind ≡ 1 → ⊥) → (kind ≡ 4 → ⊥) → sense_kind (cond b AtLeast AtMost) ≡ kind
limit_kind_lem kind true e h x y z = sym (eqb-true kind 3 e)
limit_kind_lem kind false e h x y z = let w : (kind ≡ 3 → ⊥) = eqb-false kind 3 e in omega arith

kinds : (kind : ℕ) (names : List (List ℕ)) (sheet : List ℕ) (at q size : ℕ) (s : Saying) (r : ℕ) (a b c : Bool) → Bytes sheet → kind < 5 → q + size ≤ length sheet
    → eqb kind 0 ≡ a → eqb kind 1 ≡ b → eqb kind 4 ≡ c
    → cond a (ended sheet at end_says q)
    (cond b (read_part names (take (q + size) sheet) at q)
    (cond c (read_goal (take (q + size) sheet) at q) (read_limit (sense_of kind) (take (q + size) sheet) at q))) ≡ found s r
    → Whole kind sheet q size s r
kinds kind names sheet at q size s r true b c h k l x y z e =
    let (i, j, m) = end_whole sheet at q size s r l e in (i ∙ sym (eqb-true kind 0 x), j, m)
kinds kind names sheet at q size s r false true c h k l x y z e =
    let (i, j, m) = whole 1 sheet q size s r l (part_sole names (take (q + size) sheet) at q s r (bytes_take (q + size) sheet h) e) in
    (i ∙ sym (eqb-true kind 1 y), j, m)
kinds kind names sheet at q size s r false false true h k l x y z e =
    let (i, j, m) = whole 4 sheet q size s r l (goal_sole (take (q + size) sheet) at q s r (bytes_take (q + size) sheet h) e) in
    (i ∙ sym (eqb-true kind 4 z), j, m)
kinds kind names sheet at q size s r false false false h k l x y z e =
    let (i, j, m) = whole _ sheet q size s r l (limit_sole (sense_of kind) (take (q + size) sheet) at q s r (bytes_take (q + size) sheet h) e) in
    (i ∙ limit_kind_lem kind (eqb kind 3) refl k (eqb-false kind 0 x) (eqb-false kind 1 y) (eqb-false kind 4 z), j, m)

known_cases : (kind : ℕ) (b : Bool) → ltb kind 5 ≡ b → (c : Bool) → (b && c) ≡ true → kind < 5
known_cases kind true e c h = ltb-true kind 5 e
known_cases kind false e c h = let z : ◌≡◌ {A = ℕ} 0 1 = cc in absurd (omega arith)

known : (stage : Stage) (kind : ℕ) → allowed stage kind ≡ true → kind < 5
known Parts kind h = ltb-true kind 5 h
known Limits kind h = known_cases kind (ltb kind 5) refl (not (eqb kind 1)) h
known End kind h = let z = eqb-true kind 0 h in omega arith

-- a record that was read has a kind that may come, a payload that fits, and says what the payload does
pub record Head (stage : Stage) (names : List (List ℕ)) (sheet : List ℕ) (at : ℕ) (s : Saying) (r : ℕ) : Type 0 where
  pub kind : ℕ
  pub after_kind : ℕ
  pub size : ℕ
  pub start : ℕ
  pub kind_read : number_at sheet at ≡ found kind after_kind
  pub may_come_lem : allowed stage kind ≡ true
  pub size_read : number_at sheet after_kind ≡ found size start
  pub fits : start + size ≤ length sheet
  pub says : read_payload kind names sheet (take (start + size) sheet) at start ≡ found s r

pub head : (stage : Stage) (names : List (List ℕ)) (sheet : List ℕ) (at r : ℕ) (s : Saying) → read_record stage names sheet at ≡ found s r → Head stage names sheet at s r
head stage names sheet at r s e =
    let (kind, p, a, b) = then_from (read_kind stage sheet at) (λ k i. read_sized k names sheet at i) s r e in
    let (kind₁, p₁, a₁, a₂) = then_from (number_at sheet at) (λ k i. cond (allowed stage k) (found k i) (fault 3 2 at)) kind p a in
    let (may, a₃) = cond_from (allowed stage kind₁) (found kind₁ p₁) 3 2 at kind p a₂ in
    let (same, here) = found_is kind₁ kind p₁ p a₃ in
    let (size, q, c, d) = then_from (read_length sheet at p) (λ n i. read_payload kind names sheet (take (i + n) sheet) at i) s r b in
    let (size₁, q₁, c₁, c₂) = then_from (number_at sheet p) (λ n i. cond (leb (i + n) (length sheet)) (found n i) (fault 4 2 at)) size q c in
    let (fits, c₃) = cond_from (leb (q₁ + size₁) (length sheet)) (found size₁ q₁) 4 2 at size q c₂ in
    let (equal, there) = found_is size₁ size q₁ q c₃ in
    let l = leb-true (q₁ + size₁) (length sheet) fits in
    record {
      kind = kind;
      after_kind = p;
      size = size;
      start = q;
      kind_read = a₁ ∙ ap (λ k. found k p₁) same ∙ ap (found kind) here;
      may_come_lem = sym (ap (allowed stage) same) ∙ may;
      size_read = c₁ ∙ ap (λ n. found n q₁) equal ∙ ap (found size) there;
      fits = omega arith;
      says = d;
    }

holds : (stage : Stage) (names : List (List ℕ)) (sheet : List ℕ) (at r : ℕ) (s : Saying) → Bytes sheet → (h : Head stage names sheet at s r) → Whole h.kind sheet h.start h.size s r
holds stage names sheet at r s b h =
    kinds h.kind names sheet at h.start h.size s r (eqb h.kind 0) (eqb h.kind 1) (eqb h.kind 4) b (known stage h.kind h.may_come_lem) h.fits refl refl refl h.says

pub record_sole : (stage : Stage) (names : List (List ℕ)) (sheet : List ℕ) (at r : ℕ) (s : Saying) → Bytes sheet → read_record stage names sheet at ≡ found s r
    → Stands sheet at r (spelled s)
record_sole stage names sheet at r s b e =
    let h = head stage names sheet at r s e in
    let (k, w, m) = holds stage names sheet at r s b h in
    let (x, y) = joined sheet at h.after_kind r (encode h.kind) (encode h.size ++ payload s) (number_sole sheet at h.kind h.after_kind b h.kind_read)
    (joined sheet h.after_kind h.start r (encode h.size) (payload s) (number_sole sheet h.after_kind h.size h.start b h.size_read) w) in
    let spell : encode h.kind ++ (encode h.size ++ payload s) ≡ spelled s =
    ap (λ i. encode i ++ (encode h.size ++ payload s)) (sym k) ∙ ap (λ i. encode (kind_of s) ++ (encode i ++ payload s)) m in
    (x ∙ ap (λ u. u ++ drop r sheet) spell, y ∙ ap (λ u. at + length u) spell)

pub one_spelling_lem : OneSpelling
one_spelling_lem stage names sheet at next s b e = standing sheet at next (spelled s) (record_sole stage names sheet at next s b e)

-- nothing stands after the end
pub end_is_last : (stage : Stage) (names : List (List ℕ)) (sheet : List ℕ) (at r : ℕ) → Bytes sheet → read_record stage names sheet at ≡ found end_says r → r ≡ length sheet
end_is_last stage names sheet at r b e =
    let h = head stage names sheet at r end_says e in
    let (k, w, m) = holds stage names sheet at r end_says b h in
    let g : ended sheet at end_says h.start ≡ found end_says r =
    sym (ap (λ i. read_payload i names sheet (take (h.start + h.size) sheet) at h.start) (sym k)) ∙ h.says in
    (ended_sole sheet at end_says end_says h.start r g).2

-- what is read is of a kind that may come
pub kind_allowed : (stage : Stage) (names : List (List ℕ)) (sheet : List ℕ) (at r : ℕ) (s : Saying) → Bytes sheet → read_record stage names sheet at ≡ found s r → allowed stage (kind_of s) ≡ true
kind_allowed stage names sheet at r s b e =
    let h = head stage names sheet at r s e in
    let (k, w, m) = holds stage names sheet at r s b h in
    ap (allowed stage) k ∙ h.may_come_lem

parts_stage : (stage : Stage) → allowed stage 1 ≡ true → stage ≡ Parts
parts_stage Parts h = refl
parts_stage Limits h = let z : ◌≡◌ {A = ℕ} 0 1 = cc in absurd (omega arith)
parts_stage End h = let z : ◌≡◌ {A = ℕ} 0 1 = cc in absurd (omega arith)

-- a part is read while only parts have come
pub part_in_parts : (stage : Stage) (names : List (List ℕ)) (sheet : List ℕ) (at : ℕ) (name : List ℕ) (mass : ℤ) (wait price r : ℕ) → Bytes sheet
    → read_record stage names sheet at ≡ found (part_says name mass wait price) r → stage ≡ Parts
part_in_parts stage names sheet at name mass wait price r b e = parts_stage stage (kind_allowed stage names sheet at r (part_says name mass wait price) b e)
