-- terms, one after another, and the same terms in a part of the sheet
use Rattle.std.proofs.Common.{◌≡◌, ℕ, zero, suc, ◌+◌, ◌-◌, ◌<◌, ◌≤◌, Bool, true, false, cond, ltb, leb, List, [], ◌∷◌, ◌++◌, length, drop, ℤ, Some, None, sym, refl, ap, ◌∙◌, append_assoc, append-nil, add_assoc, arith, length-drop, le-ltb, lt-ltb}
use Rattle.std.proofs.lemmas.List.{drop-drop}
use Rattle.std.proofs.lemmas.Bool.Decides.{nat_tests}
use Rattle.limits.specs.declared.Sense.{Sense}
use Rattle.limits.specs.declared.drafts.Term.{Term}
use Rattle.numbers.specs.Numbers.{Reading, read, unread, decode, from_place, signed_reading}
use Rattle.fields.specs.Fields.{Answer, found, fault, and_then, layered, number_at, signed_at, in_range, coefficient_at, read_term}
use Rattle.records.specs.Sheets.{read_terms, read_limit, limit_says}
use Rattle.fields.specs.Meanings.{read_from}
use Rattle.fields.specs.declared.Payload.{Payload}
use Rattle.records.specs.Meanings.{terms_from, terms_in, terms_of, LeftIn, next_term}

-- put terms in front of those that follow
abbrev pub after : List Term → Answer (List Term) → Answer (List Term)
after ts a = and_then a (λ us r. found (ts ++ us) r)

pub after_none : (a : Answer (List Term)) → after [] a ≡ a
after_none (found us r) = refl
after_none (fault n l p) = refl

after_after : (ts : List Term) (t : Term) (a : Answer (List Term))
    → after ts (and_then a (λ us r. found (t ∷ us) r)) ≡ after (ts ++ (t ∷ [])) a
after_after ts t (found us r) = ap (λ x. found x r) (sym (append_assoc ts (t ∷ []) us))
after_after ts t (fault n l p) = refl

pub terms_more : (ts : List Term) (n m : ℕ) (body : List ℕ) (at least p : ℕ) (t : Term) (q : ℕ) → n ≡ suc m → p < length body
    → read_term body at least p ≡ found t q
    → after ts (read_terms n body at least p) ≡ after (ts ++ (t ∷ [])) (read_terms m body at (t.part + 1) q)
unfolding read_terms
terms_more ts n m body at least p t q e h f =
    rw (e, lt-ltb p (length body) h, f) (after_after ts t (read_terms m body at (t.part + 1) q))

pub terms_fault : (ts : List Term) (n m : ℕ) (body : List ℕ) (at least p : ℕ) (x l y : ℕ) → n ≡ suc m → p < length body
    → read_term body at least p ≡ fault x l y
    → after ts (read_terms n body at least p) ≡ fault x l y
unfolding read_terms
terms_fault ts n m body at least p x l y e h f = rw (e, lt-ltb p (length body) h, f)

pub terms_end : (ts : List Term) (n : ℕ) (body : List ℕ) (at least p : ℕ) → length body ≤ p
    → p ≤ length body → after ts (read_terms n body at least p) ≡ found ts (length body)
unfolding read_terms
terms_end ts zero body at least p h k = ap (λ x. found x p) (append-nil ts) ∙ ap (found ts) (omega arith)
terms_end ts (suc n) body at least p h k = rw (le-ltb p (length body) h) (ap (λ x. found x p) (append-nil ts) ∙ ap (found ts) (omega arith))

terms_past : (n : ℕ) (body : List ℕ) (at least p : ℕ) → length body ≤ p → read_terms n body at least p ≡ found [] p
unfolding read_terms
terms_past zero body at least p h = refl
terms_past (suc n) body at least p h = rw (le-ltb p (length body) h)

terms_one : (n m : ℕ) (body : List ℕ) (at least p : ℕ) (t : Term) (q : ℕ) → n ≡ suc m → p < length body → read_term body at least p ≡ found t q
    → read_terms n body at least p ≡ and_then (read_terms m body at (t.part + 1) q) (λ us r. found (t ∷ us) r)
unfolding read_terms
terms_one n m body at least p t q e h f = rw (e, lt-ltb p (length body) h, f)

one_more : (a : Answer (List Term)) (t : Term) (ts : List Term) (q : ℕ) → and_then a (λ us r. found (t ∷ us) r) ≡ found ts q
    → (us : List Term) × (r : ℕ) × (a ≡ found us q) × (ts ≡ t ∷ us)
one_more (found us r) t ts q e = (us, r, cc, cc)
one_more (fault n l p) t ts q e = let z : ◌≡◌ {A = ℕ} 0 1 = cc in absurd (omega arith)

-- what is found q places on is found in the part of the sheet that begins there
abbrev pub Shifts : {A : Type 0} → ℕ → Answer A → Answer A → Type 0
Shifts {A} q x y = (v : A) (r : ℕ) → x ≡ found v r → (j : ℕ) × (r ≡ q + j) × (y ≡ found v j)

shifts_found : {A : Type 0} (q j : ℕ) (v : A) → Shifts q (found v (q + j)) (found v j)
shifts_found q j v w r e = (j, cc, cc)

shifts_fault : {A : Type 0} (q n l p : ℕ) (y : Answer A) → Shifts q (fault n l p) y
shifts_fault q n l p y w r e = let z : ◌≡◌ {A = ℕ} 0 1 = cc in absurd (omega arith)

shifts_at : {A B : Type 0} (q : ℕ) (x y : Answer A) (f g : A → ℕ → Answer B) → Shifts q x y
    → ((v : A) (j : ℕ) → Shifts q (f v (q + j)) (g v j)) → Shifts q (and_then x f) (and_then y g)
shifts_at q (found v p) y f g s t w r e =
    let (j, a, b) = s v p refl in
    let z : f v (q + j) ≡ found w r = ap (f v) (sym a) ∙ e in
    let (i, c, d) = t v j w r z in
    (i, c, ap (λ u. and_then u g) b ∙ d)
shifts_at q (fault n l p) y f g s t w r e = let z : ◌≡◌ {A = ℕ} 0 1 = cc in absurd (omega arith)

shifts_cond : {A : Type 0} (q : ℕ) (t : Bool) (x y : Answer A) (n l p m k i : ℕ) → Shifts q x y → Shifts q (cond t x (fault n l p)) (cond t y (fault m k i))
shifts_cond q true x y n l p m k i s = s
shifts_cond q false x y n l p m k i s = shifts_fault q n l p (fault m k i)

shifts_layered : (q k : ℕ) (r : Reading ℕ) → Shifts q (layered (q + k) (from_place (q + k) r)) (layered k (from_place k r))
shifts_layered q k (read v n) w r e = (k + n, cc (add_assoc q k n), cc)
shifts_layered q k (unread n) w r e = let z : ◌≡◌ {A = ℕ} 0 1 = cc in absurd (omega arith)

shifts_number : (body : List ℕ) (q k : ℕ) → Shifts q (number_at body (q + k)) (number_at (drop q body) k)
shifts_number body q k = rw drop-drop (shifts_layered q k (decode (drop (q + k) body)))

shifts_minus : (q k : ℕ) (r : Reading ℕ) → Shifts q (layered (q + k) (signed_reading (from_place (q + k) r))) (layered k (signed_reading (from_place k r)))
shifts_minus q k (read v n) w r e = (k + n, cc (add_assoc q k n), cc)
shifts_minus q k (unread n) w r e = let z : ◌≡◌ {A = ℕ} 0 1 = cc in absurd (omega arith)

shifts_signed : (body : List ℕ) (q k : ℕ) → Shifts q (signed_at body (q + k)) (signed_at (drop q body) k)
shifts_signed body q k = rw drop-drop (shifts_minus q k (decode (drop (q + k) body)))

shifts_term : (body : List ℕ) (a b m q k : ℕ) → Shifts q (read_term body a m (q + k)) (read_term (drop q body) b m k)
shifts_term body a b m q k =
    shifts_at q (number_at body (q + k)) (number_at (drop q body) k) (λ i p. coefficient_at body a m i p) (λ i p. coefficient_at (drop q body) b m i p)
    (shifts_number body q k) (λ i j.
    shifts_cond q (leb i 47) _ _ 7 3 a 7 3 b (
    shifts_cond q (leb m i) _ _ 8 3 a 8 3 b (
    shifts_at q (signed_at body (q + j)) (signed_at (drop q body) j) _ _ (shifts_signed body q j) (λ v p.
    shifts_cond q (in_range v) _ _ 9 3 a 9 3 b (shifts_found q p (record { part = i; coefficient = v }))))))

shifts_if : {A : Type 0} (q : ℕ) (s t : Bool) (x y u v : Answer A) → s ≡ t → Shifts q x y → Shifts q u v → Shifts q (cond s x u) (cond t y v)
shifts_if q true t x y u v e a b = rw (sym e) a
shifts_if q false t x y u v e a b = rw (sym e) b

same_test : (q k n : ℕ) → ltb (q + k) n ≡ ltb k (n - q)
same_test q k n = grind (arith, nat_tests)

pub shifts_terms : (n : ℕ) (body : List ℕ) (a b m q k : ℕ) → Shifts q (read_terms n body a m (q + k)) (read_terms n (drop q body) b m k)
unfolding read_terms
shifts_terms zero body a b m q k = shifts_found q k []
shifts_terms (suc n) body a b m q k =
    shifts_if q (ltb (q + k) (length body)) (ltb k (length (drop q body))) _ _ _ _
    (same_test q k (length body) ∙ ap (ltb k) (sym (length-drop q body)))
    (shifts_at q (read_term body a m (q + k)) (read_term (drop q body) b m k) _ _ (shifts_term body a b m q k) (λ t j.
    shifts_at q (read_terms n body a (t.part + 1) (q + j)) (read_terms n (drop q body) b (t.part + 1) j) _ _
    (shifts_terms n body a b (t.part + 1) q j) (λ ts i. shifts_found q i (t ∷ ts))))
    (shifts_found q k [])

-- a limit shows its terms as a part of the sheet
shown : (body : List ℕ) (at q : ℕ) (ts : List Term) → q ≤ length body → read_terms (length body - q) body at 0 q ≡ found ts (length body)
    → read_terms (length (drop q body)) (drop q body) 0 0 0 ≡ found ts (length (drop q body))
shown body at q ts h f =
    let (j, a, b) = shifts_terms (length body - q) body at 0 0 q 0 ts (length body) (ap (read_terms (length body - q) body at 0) (omega arith) ∙ f) in
    ap (λ n. read_terms n (drop q body) 0 0 0) (length-drop q body) ∙ b ∙ ap (found ts) (let l = length-drop q body in omega arith)

pub limit_found : (l : Sense) (body : List ℕ) (at p q : ℕ) (v : ℤ) (ts : List Term) → q ≤ length body → signed_at body p ≡ found v q
    → read_terms (length body - q) body at 0 q ≡ found ts (length body)
    → (read_limit l body at p ≡ found (limit_says l v (terms_in (drop q body))) (length body)) × LeftIn (drop q body) 0 0 (terms_in (drop q body))
limit_found l body at p q v ts h e f =
    let s = shown body at q ts h f in
    let same : ts ≡ terms_in (drop q body) = sym (ap terms_of s) in (
      rw (e, f) (ap (λ x. found (limit_says l v x) (length body)) same),
      (length (drop q body), omega arith, s ∙ ap (λ x. found x (length (drop q body))) same),
    )

-- the same in payloads, before and after the bound
pub limit_read : (l : Sense) (was is : Payload) (v : ℤ) (ts : List Term) (rest : List ℕ) → is.body ≡ was.body → is.place ≡ was.place
    → is.at ≤ length is.body.now → signed_at was.body.now was.at ≡ found v is.at → terms_from is ≡ found ts (length is.body.now)
    → rest ≡ drop is.at is.body.now
    → (read_from (read_limit l) was ≡ found (limit_says l v (terms_in rest)) (length was.body.now)) × LeftIn rest 0 0 (terms_in rest)
limit_read l was is v ts rest b p h e f r =
    let all : rest ≡ drop is.at was.body.now = r ∙ ap (λ x. drop is.at x.now) b in
    rw all (limit_found l was.body.now was.place was.at is.at v ts (rw b at h) e (rw (b, p) at f))

-- one term of those that are left

pub left_none : (bytes : List ℕ) (least at : ℕ) (ts : List Term) → length bytes ≤ at → LeftIn bytes least at ts → ts ≡ []
left_none bytes least at ts h (n, k, e) =
    let z : found [] at ≡ found ts (length bytes) = sym (terms_past n bytes 0 least at h) ∙ e in cc

pub left_more : (bytes : List ℕ) (least at : ℕ) (ts : List Term) (t : Term) (q : ℕ) → at < length bytes → at < q → read_term bytes 0 least at ≡ found t q
    → LeftIn bytes least at ts → (us : List Term) × (ts ≡ t ∷ us) × LeftIn bytes (t.part + 1) q us
left_more bytes least at ts t q h l f (n, k, e) =
    let z : n ≡ suc (n - 1) = omega arith in
    let step : and_then (read_terms (n - 1) bytes 0 (t.part + 1) q) (λ us r. found (t ∷ us) r) ≡ found ts (length bytes) =
    sym (terms_one n (n - 1) bytes 0 least at t q z h f) ∙ e in
    let (us, r, a, b) = one_more (read_terms (n - 1) bytes 0 (t.part + 1) q) t ts (length bytes) step in
    (us, cc, (n - 1, omega arith, a))

pub left_fault : (bytes : List ℕ) (least at : ℕ) (ts : List Term) (x y z : ℕ) → at < length bytes → read_term bytes 0 least at ≡ fault x y z → LeftIn bytes least at ts → ⊥
left_fault bytes least at ts x y z h f (n, k, e) =
    let g = after_none (read_terms n bytes 0 least at) in
    let w = terms_fault [] n (n - 1) bytes 0 least at x y z (omega arith) h f in
    let v : fault x y z ≡ found ts (length bytes) = sym w ∙ g ∙ e in
    let u : ◌≡◌ {A = ℕ} 0 1 = cc in omega arith

-- the next term

pub next_none : (bytes : List ℕ) (least at : ℕ) → length bytes ≤ at → next_term bytes least at ≡ None
next_none bytes least at h = rw (le-ltb at (length bytes) h)

pub next_found : (bytes : List ℕ) (least at : ℕ) (t : Term) (q : ℕ) → at < length bytes → read_term bytes 0 least at ≡ found t q → next_term bytes least at ≡ Some t
next_found bytes least at t q h f = rw (lt-ltb at (length bytes) h, f)

pub next_fault : (bytes : List ℕ) (least at x y z : ℕ) → at < length bytes → read_term bytes 0 least at ≡ fault x y z → next_term bytes least at ≡ None
next_fault bytes least at x y z h f = rw (lt-ltb at (length bytes) h, f)
