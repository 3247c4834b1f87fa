-- what is spelled is read back
use Rattle.std.proofs.Common.{◌≡◌, ℕ, zero, suc, ◌+◌, ◌-◌, ◌*◌, ◌/◌, ◌%◌, ◌^◌, ◌<◌, ◌≤◌, Bool, true, false, cond, not, ◌&&◌, ltb, leb, List, [], ◌∷◌, ◌++◌, length, take, drop, ℤ, pos, negsuc, nat_abs, sym, refl, ap, ◌∙◌, append_assoc, append-nil, arith, length-append, length-drop, take_at, le-ltb, lt-ltb, eq-eqb}
use Rattle.std.proofs.lemmas.List.{drop-drop, drop_at, drop-take, length-take-le}
use Rattle.std.proofs.lemmas.Bool.{cond-true, cond-false, and_parts, and_from, le-leb, leb-true, not_from_false}
use lib.Seq.{sets, sets-eq}
use Rattle.limits.specs.declared.Sense.{Sense}
use Rattle.limits.specs.declared.Sense.TheVariants.{AtMost, AtLeast}
use Rattle.limits.specs.declared.drafts.Term.{Term}
use Rattle.limits.specs.Refusals.{Reply, done, refused}
use Rattle.numbers.specs.Numbers.{encode, groups, unsigned_of}
use Rattle.numbers.proofs.Writes.{length_some}
use Rattle.numbers.proofs.Spelled.{number_back as number_read, signed_back as signed_read}
use Rattle.records.specs.declared.Goal.{Goal}
use Rattle.records.specs.declared.Goal.TheVariants.{Mass, Wait, MassPrice}
use Rattle.records.specs.Codes.{goal_code, goal_of}
use Rattle.records.specs.declared.Stage.{Stage}
use Rattle.records.specs.declared.Stage.TheVariants.{Parts, Limits, End}
use Rattle.fields.specs.Fields.{Answer, found, and_then, layered, number_at, signed_at, in_range, plain, among, read_name, read_mass, read_amount, read_term, read_name_size}
use Rattle.records.specs.Sheets.{Saying, part_says, limit_says, goal_says, end_says, ended, read_part, read_terms, read_limit, read_goal, allowed, read_payload, read_record, read_kind, read_length}
use Rattle.spelling.specs.Spelling.{spelled_terms, kind_of, payload, spelled}
use Rattle.spelling.specs.Judging.{judge_part, judge_term, judge_terms, judge_bound, judge, or_else, refusal_of}
use Rattle.spelling.specs.Laws.{MayStand, ReadsBack, BackIn}

pub on : (xs : List ℕ) (p : ℕ) (s rest : List ℕ) → drop p xs ≡ s ++ rest → drop (p + length s) xs ≡ rest
on xs p s rest e = sym (drop-drop (length s) p xs) ∙ ap (drop (length s)) e ∙ drop_at s rest (length s) refl

pub then_found : {A B : Type 0} (a : Answer A) (v : A) (p : ℕ) (f : A → ℕ → Answer B) → a ≡ found v p → and_then a f ≡ f v p
then_found a v p f e = ap (λ x. and_then x f) e

number_back : (xs : List ℕ) (p v : ℕ) (rest : List ℕ) → v < 2 ^ 32 → drop p xs ≡ encode v ++ rest → number_at xs p ≡ found v (p + length (encode v))
number_back xs p v rest h e = ap (layered p) (number_read xs p v rest h e)

signed_back : (xs : List ℕ) (p : ℕ) (v : ℤ) (rest : List ℕ) → unsigned_of v < 2 ^ 32 → drop p xs ≡ encode (unsigned_of v) ++ rest
    → signed_at xs p ≡ found v (p + length (encode (unsigned_of v)))
signed_back xs p v rest h e = ap (layered p) (signed_read xs p v rest h e)

-- a signed number that is small has a small code
code_small : (v : ℤ) (n : ℕ) → leb (nat_abs v) n ≡ true → n ≤ 100000000 → unsigned_of v < 2 ^ 32
code_small (pos k) n h l = let z = leb-true k n h in omega arith
code_small (negsuc k) n h l = let z = leb-true (suc k) n h in omega arith

-- what is not refused passed each test
passed : (t : Bool) (x : Reply) (k : ℕ) → cond t x (refused k) ≡ done → (t ≡ true) × (x ≡ done)
passed true x k e = (refl, e)
passed false x k e = let z : ◌≡◌ {A = ℕ} 0 1 = cc in absurd (omega arith)

pub passed_both : (n m : Reply) → or_else n m ≡ done → (n ≡ done) × (m ≡ done)
passed_both done m e = (refl, e)
passed_both (refused k) m e = let z : ◌≡◌ {A = ℕ} 0 1 = cc in absurd (omega arith)

to_end : (xs : List ℕ) (p v : ℕ) → drop p xs ≡ encode v ++ [] → p + length (encode v) ≡ length xs
to_end xs p v e =
    let some = length_some 4 v in
    let l = sym (length-drop p xs) ∙ ap length (e ∙ append-nil (encode v)) in omega arith

-- a part

name_back : (names : List (List ℕ)) (body : List ℕ) (at p : ℕ) (name rest : List ℕ) → (leb 1 (length name) && leb (length name) 16) ≡ true → plain name ≡ true
    → among names name ≡ false → drop p body ≡ encode (length name) ++ (name ++ rest)
    → read_name names body at p ≡ found name (p + length (encode (length name)) + length name)
name_back names body at p name rest good letters new e =
    let q = p + length (encode (length name)) in
    let f : drop q body ≡ name ++ rest = on body p (encode (length name)) (name ++ rest) e in
    let parts = and_parts (leb 1 (length name)) (leb (length name) 16) good in
    let some = leb-true 1 (length name) parts.0 in
    let few = leb-true (length name) 16 parts.1 in
    let fits : q + length name ≤ length body = omega (arith, sym (length-drop q body) ∙ ap length f ∙ length-append name rest) in
    let is : take (length name) (drop q body) ≡ name = ap (take (length name)) f ∙ take_at name rest (length name) refl in
    then_found (read_name_size body at p) (length name) q _ (
    then_found (number_at body p) (length name) _ _ (number_back body p (length name) (name ++ rest) (omega arith) e)
    ∙ cond-true _ _ _ good
    ∙ cond-true _ _ _ (le-leb (q + length name) (length body) fits))
    ∙ cond-true _ _ _ (ap (λ s. plain s && not (among names s)) is ∙ and_from (plain name) (not (among names name)) letters (not_from_false (among names name) new))
    ∙ ap (λ s. found s (q + length name)) is

mass_back : (body : List ℕ) (at p : ℕ) (v : ℤ) (rest : List ℕ) → in_range v ≡ true → drop p body ≡ encode (unsigned_of v) ++ rest
    → read_mass body at p ≡ found v (p + length (encode (unsigned_of v)))
mass_back body at p v rest h e =
    then_found (signed_at body p) v _ _ (signed_back body p v rest (code_small v 1000000 h (omega arith)) e) ∙ cond-true _ _ _ h

amount_back : (body : List ℕ) (at p v : ℕ) (rest : List ℕ) → leb v 1000000 ≡ true → drop p body ≡ encode v ++ rest
    → read_amount body at p ≡ found v (p + length (encode v))
amount_back body at p v rest h e =
    let l = leb-true v 1000000 h in
    then_found (number_at body p) v _ _ (number_back body p v rest (omega arith) e) ∙ cond-true _ _ _ h

ended_back : (body : List ℕ) (at : ℕ) (s : Saying) (p : ℕ) → p ≡ length body → ended body at s p ≡ found s (length body)
ended_back body at s p e = cond-true _ _ _ (eq-eqb p (length body) e) ∙ ap (found s) e

part_back : (names : List (List ℕ)) (body : List ℕ) (at p : ℕ) (name : List ℕ) (mass : ℤ) (wait price : ℕ) → judge_part name mass wait price ≡ done → length names < 48 → among names name ≡ false
    → drop p body ≡ payload (part_says name mass wait price) → read_part names body at p ≡ found (part_says name mass wait price) (length body)
part_back names body at p name mass wait price j room new e =
    let (good, j₁) = passed ((leb 1 (length name) && leb (length name) 16) && plain name) _ 5 j in
    let (ranged, j₂) = passed (in_range mass) _ 9 j₁ in
    let (waits, j₃) = passed (leb wait 1000000) _ 9 j₂ in
    let (prices, j₄) = passed (leb price 1000000) _ 9 j₃ in
    let both = and_parts (leb 1 (length name) && leb (length name) 16) (plain name) good in
    let p₁ = p + length (encode (length name)) in
    let p₂ = p₁ + length name in
    let p₃ = p₂ + length (encode (unsigned_of mass)) in
    let p₄ = p₃ + length (encode wait) in
    let e₁ = on body p (encode (length name)) _ e in
    let e₂ = on body p₁ name _ e₁ in
    let e₃ = on body p₂ (encode (unsigned_of mass)) _ e₂ in
    let e₄ = on body p₃ (encode wait) _ e₃ ∙ sym (append-nil (encode price)) in
    cond-true _ _ _ (lt-ltb (length names) 48 room)
    ∙ then_found (read_name names body at p) name p₂ _ (name_back names body at p name _ both.0 both.1 new e)
    ∙ then_found (read_mass body at p₂) mass p₃ _ (mass_back body at p₂ mass _ ranged e₂)
    ∙ then_found (read_amount body at p₃) wait p₄ _ (amount_back body at p₃ wait _ waits e₃)
    ∙ then_found (read_amount body at p₄) price _ _ (amount_back body at p₄ price [] prices e₄)
    ∙ ended_back body at (part_says name mass wait price) _ (to_end body p₄ price e₄)

code_known : (g : Goal) → (goal_code g ≤ 2) × (goal_of (goal_code g) ≡ g)
code_known Mass = (omega arith, refl)
code_known Wait = (omega arith, refl)
code_known MassPrice = (omega arith, refl)

goal_back : (body : List ℕ) (at p : ℕ) (g : Goal) → drop p body ≡ encode (goal_code g) → read_goal body at p ≡ found (goal_says g) (length body)
goal_back body at p g e =
    let (l, is) = code_known g in
    let e₁ = e ∙ sym (append-nil (encode (goal_code g))) in
    then_found (number_at body p) (goal_code g) _ _ (number_back body p (goal_code g) [] (omega arith) e₁)
    ∙ cond-true _ _ _ (le-leb (goal_code g) 2 l)
    ∙ ap (λ x. ended body at (goal_says x) (p + length (encode (goal_code g)))) is
    ∙ ended_back body at (goal_says g) _ (to_end body p (goal_code g) e₁)

-- a limit

term_back : (body : List ℕ) (at least p : ℕ) (t : Term) (rest : List ℕ) → judge_term least t ≡ done
    → drop p body ≡ encode t.part ++ (encode (unsigned_of t.coefficient) ++ rest)
    → read_term body at least p ≡ found t (p + length (encode t.part) + length (encode (unsigned_of t.coefficient)))
term_back body at least p t rest j e =
    let (low, j₁) = passed (leb t.part 47) _ 7 j in
    let (rises, j₂) = passed (leb least t.part) _ 8 j₁ in
    let (ranged, j₃) = passed (in_range t.coefficient) done 9 j₂ in
    let l = leb-true t.part 47 low in
    let q = p + length (encode t.part) in
    then_found (number_at body p) t.part q _ (number_back body p t.part _ (omega arith) e)
    ∙ cond-true _ _ _ low ∙ cond-true _ _ _ rises
    ∙ then_found (signed_at body q) t.coefficient _ _ (signed_back body q t.coefficient rest (code_small t.coefficient 1000000 ranged (omega arith)) (on body p (encode t.part) _ e))
    ∙ cond-true _ _ _ ranged

terms_back : (ts : List Term) (n : ℕ) (body : List ℕ) (at least p : ℕ) → judge_terms least ts ≡ done → drop p body ≡ spelled_terms ts → p ≤ length body
    → length body - p ≤ n → read_terms n body at least p ≡ found ts (length body)
unfolding read_terms
terms_back [] zero body at least p j e h k = ap (found []) (omega arith)
terms_back [] (suc n) body at least p j e h k =
    let l : length body - p ≡ 0 = sym (length-drop p body) ∙ ap length e in
    cond-false _ _ _ (le-ltb p (length body) (omega arith)) ∙ ap (found []) (omega arith)
terms_back (t ∷ ts) zero body at least p j e h k =
    let some = length_some 4 t.part in
    let l = sym (length-drop p body) ∙ ap length e ∙ length-append (encode t.part) _ in absurd (omega arith)
terms_back (t ∷ ts) (suc n) body at least p j e h k =
    let some = length_some 4 t.part in
    let (j₁, j₂) = passed_both (judge_term least t) (judge_terms (t.part + 1) ts) j in
    let l = sym (length-drop p body) ∙ ap length e ∙ length-append (encode t.part) _ in
    let m = length-append (encode (unsigned_of t.coefficient)) (spelled_terms ts) in
    let q = p + length (encode t.part) + length (encode (unsigned_of t.coefficient)) in
    let e₁ = on body (p + length (encode t.part)) (encode (unsigned_of t.coefficient)) (spelled_terms ts) (on body p (encode t.part) _ e) in
    cond-true _ _ _ (lt-ltb p (length body) (omega arith))
    ∙ then_found (read_term body at least p) t q _ (term_back body at least p t (spelled_terms ts) j₁ e)
    ∙ then_found (read_terms n body at (t.part + 1) q) ts (length body) _ (terms_back ts n body at (t.part + 1) q j₂ e₁ (omega arith) (omega arith))

limit_back : (l : Sense) (body : List ℕ) (at p : ℕ) (v : ℤ) (ts : List Term) → judge (limit_says l v ts) ≡ done → drop p body ≡ payload (limit_says l v ts) → p ≤ length body
    → read_limit l body at p ≡ found (limit_says l v ts) (length body)
limit_back l body at p v ts j e h =
    let (j₁, j₂) = passed_both (judge_terms 0 ts) (judge_bound v) j in
    let (ranged, _) = passed (leb (nat_abs v) 100000000) done 9 j₂ in
    let some = length_some 4 (unsigned_of v) in
    let len = sym (length-drop p body) ∙ ap length e ∙ length-append (encode (unsigned_of v)) (spelled_terms ts) in
    let q = p + length (encode (unsigned_of v)) in
    then_found (signed_at body p) v q _ (signed_back body p v _ (code_small v 100000000 ranged (omega arith)) e)
    ∙ then_found (read_terms (length body - q) body at 0 q) ts (length body) _
    (terms_back ts (length body - q) body at 0 q j₁ (on body p (encode (unsigned_of v)) (spelled_terms ts) e) (omega arith) (omega arith))

-- a payload is short

few_cases : (t : Bool) (l v : ℕ) → length (groups l (v / 128)) ≤ 1 + l → length (cond t (v ∷ []) ((v % 128 + 128) ∷ groups l (v / 128))) ≤ 1 + suc l
few_cases true l v h = omega arith
few_cases false l v h = omega arith

few : (left v : ℕ) → length (groups left v) ≤ 1 + left
unfolding groups
few zero v = omega arith
few (suc l) v = few_cases (ltb v 128) l v (few l (v / 128))

terms_few : (least : ℕ) (ts : List Term) → judge_terms least ts ≡ done → least ≤ 48 → least + length ts ≤ 48
terms_few least [] j h = omega arith
terms_few least (t ∷ ts) j h =
    let (j₁, j₂) = passed_both (judge_term least t) (judge_terms (t.part + 1) ts) j in
    let (low, j₃) = passed (leb t.part 47) _ 7 j₁ in
    let (rises, j₄) = passed (leb least t.part) _ 8 j₃ in
    let a = leb-true t.part 47 low in
    let b = leb-true least t.part rises in
    let ih = terms_few (t.part + 1) ts j₂ (omega arith) in omega arith

terms_short : (ts : List Term) → length (spelled_terms ts) ≤ 10 * length ts
terms_short [] = omega arith
terms_short (t ∷ ts) =
    let a = length-append (encode t.part) (encode (unsigned_of t.coefficient) ++ spelled_terms ts) in
    let b = length-append (encode (unsigned_of t.coefficient)) (spelled_terms ts) in
    let f = few 4 t.part in
    let g = few 4 (unsigned_of t.coefficient) in
    let ih = terms_short ts in omega arith

pub short : (s : Saying) → judge s ≡ done → length (payload s) ≤ 1000
short (part_says name mass wait price) j =
    let (good, _) = passed ((leb 1 (length name) && leb (length name) 16) && plain name) _ 5 j in
    let both = and_parts (leb 1 (length name) && leb (length name) 16) (plain name) good in
    let n = leb-true (length name) 16 (and_parts (leb 1 (length name)) (leb (length name) 16) both.0).1 in
    let a = few 4 (length name) in
    let b = few 4 (unsigned_of mass) in
    let c = few 4 wait in
    let d = few 4 price in
    simp length-append (omega arith)
short (limit_says l v ts) j =
    let (j₁, _) = passed_both (judge_terms 0 ts) (judge_bound v) j in
    let a = length-append (encode (unsigned_of v)) (spelled_terms ts) in
    let b = few 4 (unsigned_of v) in
    let c = terms_short ts in
    let d = terms_few 0 ts j₁ (omega arith) in omega arith
short (goal_says goal) j = let a = few 4 (goal_code goal) in omega arith
short end_says j = omega arith

-- a record

pub kind_small : (s : Saying) → kind_of s < 5
kind_small (part_says name mass wait price) = omega arith
kind_small (limit_says AtMost v ts) = omega arith
kind_small (limit_says AtLeast v ts) = omega arith
kind_small (goal_says code) = omega arith
kind_small end_says = omega arith

may_come_lem : (stage : Stage) (names : List (List ℕ)) (rest : List ℕ) (s : Saying) → MayStand stage names rest s → allowed stage (kind_of s) ≡ true
may_come_lem stage names rest (part_says name mass wait price) m = m.0
may_come_lem stage names rest (limit_says l v ts) m = m
may_come_lem stage names rest (goal_says code) m = m
may_come_lem Parts names rest end_says m = refl
may_come_lem Limits names rest end_says m = refl
may_come_lem End names rest end_says m = refl

payload_back : (stage : Stage) (names : List (List ℕ)) (sheet body : List ℕ) (at p : ℕ) (rest : List ℕ) (s : Saying) → judge s ≡ done → MayStand stage names rest s
    → p ≤ length sheet → drop p sheet ≡ payload s ++ rest → drop p body ≡ payload s → p + length (payload s) ≡ length body
    → read_payload (kind_of s) names sheet body at p ≡ found s (p + length (payload s))
payload_back stage names sheet body at p rest (part_says name mass wait price) j m h e f g =
    part_back names body at p name mass wait price j m.1 m.2 f ∙ ap (found (part_says name mass wait price)) (sym g)
payload_back stage names sheet body at p rest (limit_says AtMost v ts) j m h e f g =
    limit_back AtMost body at p v ts j f (omega arith) ∙ ap (found (limit_says AtMost v ts)) (sym g)
payload_back stage names sheet body at p rest (limit_says AtLeast v ts) j m h e f g =
    limit_back AtLeast body at p v ts j f (omega arith) ∙ ap (found (limit_says AtLeast v ts)) (sym g)
payload_back stage names sheet body at p rest (goal_says code) j m h e f g = goal_back body at p code f ∙ ap (found (goal_says code)) (sym g)
payload_back stage names sheet body at p rest end_says j m h e f g =
    let l : length sheet - p ≡ 0 = sym (length-drop p sheet) ∙ ap length (e ∙ m) in
    ended_back sheet at end_says p (omega arith) ∙ ap (found end_says) (omega arith)

record_back : (stage : Stage) (names : List (List ℕ)) (sheet : List ℕ) (at : ℕ) (rest : List ℕ) (s : Saying) → judge s ≡ done → MayStand stage names rest s
    → drop at sheet ≡ spelled s ++ rest → read_record stage names sheet at ≡ found s (at + length (spelled s))
record_back stage names sheet at rest s j m e =
    let kind = encode (kind_of s) in
    let size = encode (length (payload s)) in
    let some = length_some 4 (kind_of s) in
    let e₀ : drop at sheet ≡ kind ++ (size ++ (payload s ++ rest)) = e ∙ append_assoc kind (size ++ payload s) rest ∙ ap (λ x. kind ++ x) (append_assoc size (payload s) rest) in
    let p = at + length kind in
    let q = p + length size in
    let e₁ = on sheet at kind _ e₀ in
    let e₂ = on sheet p size _ e₁ in
    let l₀ = sym (length-drop at sheet) ∙ ap length e₀ ∙ length-append kind _ in
    let l₁ = length-append size (payload s ++ rest) in
    let l₂ = length-append (payload s) rest in
    let l₃ = length-append kind (size ++ payload s) in
    let l₄ = length-append size (payload s) in
    let fits : q + length (payload s) ≤ length sheet = omega arith in
    let body = take (q + length (payload s)) sheet in
    let f : drop q body ≡ payload s = drop-take q (length (payload s)) sheet ∙ ap (take (length (payload s))) e₂ ∙ take_at (payload s) rest (length (payload s)) refl in
    let k = kind_small s in
    let z = short s j in
    then_found (read_kind stage sheet at) (kind_of s) p _ (
    then_found (number_at sheet at) (kind_of s) p _ (number_back sheet at (kind_of s) _ (omega arith) e₀)
    ∙ cond-true _ _ _ (may_come_lem stage names rest s m))
    ∙ then_found (read_length sheet at p) (length (payload s)) q _ (
    then_found (number_at sheet p) (length (payload s)) q _ (number_back sheet p (length (payload s)) _ (omega arith) e₁)
    ∙ cond-true _ _ _ (le-leb (q + length (payload s)) (length sheet) fits))
    ∙ payload_back stage names sheet body at q rest s j m (omega arith) e₂ f (sym (length-take-le (q + length (payload s)) sheet fits))
    ∙ ap (found s) (omega arith)

pub reads_back_lem : ReadsBack
reads_back_lem stage names before rest s j m =
    record_back stage names (before ++ (spelled s ++ rest)) (length before) rest s j m (drop_at before (spelled s ++ rest) (length before) refl)

-- what was put into a buffer reads back
pub back_in : (s : Saying) (was is : List ℕ) (at end : ℕ) → refusal_of s (length was - at) ≡ done → is ≡ sets was at (spelled s) → end ≡ at + length (spelled s) → end ≤ length was
    → BackIn s is at end
back_in s was is at end j e f h stage names rest m =
    let (good, _) = passed_both (judge s) _ j in
    let fits : at + length (spelled s) ≤ length was = omega arith in
    let front = length-take-le at was (omega arith) in
    let len = length-append (take at was) (spelled s) in
    let whole : take end is ≡ take at was ++ spelled s =
    ap (take end) (e ∙ sets-eq (spelled s) was at fits) ∙ take_at (take at was ++ spelled s) (drop (at + length (spelled s)) was) end (omega arith) in
    let sheet : take end is ++ rest ≡ take at was ++ (spelled s ++ rest) = ap (λ x. x ++ rest) whole ∙ append_assoc (take at was) (spelled s) rest in
    ap (λ x. read_record stage names x at) sheet
    ∙ ap (λ i. read_record stage names (take at was ++ (spelled s ++ rest)) i) (sym front)
    ∙ reads_back_lem stage names (take at was) rest s good m
    ∙ ap (found s) (omega arith)
