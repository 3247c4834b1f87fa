-- What is read of a sheet is what it says.
use Rattle.std.proofs.Common.{◌≡◌, ℕ, zero, suc, ◌<◌, min, Bool, true, false, cond, leb, List, [], ◌∷◌, ◌++◌, length, drop, sym, refl, ap, ◌∙◌, subst, append-nil, arith}
use Rattle.std.proofs.lemmas.List.{drop_all}
use Rattle.limits.specs.declared.Sense.{Sense}
use Rattle.limits.specs.declared.Sense.TheVariants.{AtMost, AtLeast}
use Rattle.limits.specs.Refusals.{Reply, done, refused}
use Rattle.numbers.specs.Laws.{Bytes}
use Rattle.fields.specs.Fields.{Answer, found, fault}
use Rattle.records.specs.Sheets.{Saying, part_says, limit_says, goal_says, end_says, read_record}
use Rattle.spelling.specs.Spelling.{kind_of, sense_kind, spelled}
use Rattle.spelling.proofs.Sole.{record_sole, end_is_last}
use Rattle.sheets.specs.Told.{Told, untold, after_record, Step, broken, ended, goes_on, on_reply, on_record, close_reply, Reading, whole, faulty, read_all}
use Rattle.sheets.specs.Says.{Reads, spelled_all, SaysOneThing, ReadAsItSays, SpelledByItsRecords}

not_whole : {C : Type 0} (n l i p : ℕ) (u : Told) → faulty n l i p ≡ whole u → C
not_whole n l i p u e = let z : ◌≡◌ {A = ℕ} 0 1 = cc in absurd (omega arith)

whole_is : (t u : Told) → whole t ≡ whole u → t ≡ u
whole_is t u e = cc

some_limit : (sense : Sense) → 0 < sense_kind sense
some_limit AtMost = omega arith
some_limit AtLeast = omega arith

module _ (room : ℕ) (sheet : List ℕ) where
  -- what is left to read from a place on says u
  abbrev Left : Told → ℕ → Told → Type 0
  Left t at u = (rs : List Saying) × Reads sheet t at rs u

  abbrev Comes : ℕ → ℕ → Told → ℕ → Told → Step → Type 0
  Comes more i t at u s =
      elim s as (λ _. Reading) [ broken n l p ↦ faulty n l i p | ended v ↦ whole v | goes_on v next ↦ read_all more room sheet (suc i) v next ] ≡ whole u → Left t at u

  one_more : (t : Told) (at next : ℕ) (u : Told) (r : Saying) → 0 < kind_of r → read_record t.stage t.names sheet at ≡ found r next → Left (after_record t r) next u → Left t at u
  one_more t at next u r some e (rs, later) = (r ∷ rs, (next, some, e, later))

  on_close : (more i : ℕ) (t : Told) (at next : ℕ) (u v : Told) (p : Reply)
      → (read_all more room sheet (suc i) v next ≡ whole u → Left t at u) → Comes more i t at u (on_reply p at (goes_on v next))
  on_close more i t at next u v done f h = f h
  on_close more i t at next u v (refused n) f h = not_whole n 3 i at u h

  on_one : (more i : ℕ) (t : Told) (at : ℕ) (u : Told)
      → ((v : Told) (next : ℕ) → read_all more room sheet (suc i) v next ≡ whole u → Left v next u)
      → (a : Answer Saying) → read_record t.stage t.names sheet at ≡ a → Comes more i t at u (on_record room t at a)
  on_one more i t at u f (fault n l p) e h = not_whole n l i p u h
  on_one more i t at u f (found (part_says name m w p) next) e h = one_more t at next u (part_says name m w p) (omega arith) e (f _ next h)
  on_one more i t at u f (found (limit_says sense v ts) next) e h =
      on_close more i t at next u (after_record t (limit_says sense v ts)) (close_reply room t sense v ts) (λ k. one_more t at next u (limit_says sense v ts) (some_limit sense) e (f _ next k)) h
  on_one more i t at u f (found (goal_says g) next) e h = one_more t at next u (goal_says g) (omega arith) e (f _ next h)
  on_one more i t at u f (found end_says next) e h = ([], (next, e, whole_is t u h))

  all_left : (n i : ℕ) (t : Told) (at : ℕ) (u : Told) → read_all n room sheet i t at ≡ whole u → Left t at u
  unfolding read_all
  all_left zero i t at u h = not_whole 1 1 i at u h
  all_left (suc more) i t at u h = on_one more i t at u (λ v next k. all_left more (suc i) v next u k) (read_record t.stage t.names sheet at) refl h

small_whole : (b : Bool) (w : Reading) (u : Told) → cond b w (faulty 16 3 0 0) ≡ whole u → w ≡ whole u
small_whole true w u e = e
small_whole false w u e = not_whole 16 3 0 0 u e

pub read_as_it_says : ReadAsItSays
read_as_it_says sheet places t h =
    all_left (min places 60000) sheet (suc (length sheet)) 0 untold 0 t (small_whole (leb (length sheet) 32768) (read_all (suc (length sheet)) (min places 60000) sheet 0 untold 0) t h)

found_is : (r s : Saying) (p q : ℕ) → found r p ≡ found s q → (r ≡ s) × (p ≡ q)
found_is r s p q e = (cc, cc)

no_end : {C : Type 0} (r : Saying) → r ≡ end_says → 0 < kind_of r → C
no_end r e h = let z : kind_of r ≡ 0 = ap kind_of e in absurd (omega arith)

same_reads : (sheet : List ℕ) (t : Told) (at : ℕ) (rs qs : List Saying) (u v : Told) → Reads sheet t at rs u → Reads sheet t at qs v → u ≡ v
same_reads sheet t at [] [] u v (n, e, f) (m, g, h) = sym f ∙ h
same_reads sheet t at [] (q ∷ qs) u v (n, e, f) (m, some, g, later) = no_end q (found_is q end_says m n (sym g ∙ e)).0 some
same_reads sheet t at (r ∷ rs) [] u v (n, some, e, later) (m, g, h) = no_end r (found_is r end_says n m (sym e ∙ g)).0 some
same_reads sheet t at (r ∷ rs) (q ∷ qs) u v (n, some, e, later) (m, other, g, also) =
    let same = found_is q r m n (sym g ∙ e) in
    same_reads sheet (after_record t r) n rs qs u v later
    (subst (λ k. Reads sheet (after_record t r) k qs v) same.1 (subst (λ s. Reads sheet (after_record t s) m qs v) same.0 also))

pub says_one_thing : SaysOneThing
says_one_thing sheet t u (rs, a) (qs, b) = same_reads sheet untold 0 rs qs t u a b

spelled_from : (sheet : List ℕ) (t : Told) (at : ℕ) (rs : List Saying) (u : Told) → Bytes sheet → Reads sheet t at rs u → drop at sheet ≡ spelled_all rs
spelled_from sheet t at [] u bytes (next, e, f) =
    let l = end_is_last t.stage t.names sheet at next bytes e in
    (record_sole t.stage t.names sheet at next end_says bytes e).0 ∙ (ap (λ z. spelled end_says ++ z) (drop_all next sheet (omega arith)) ∙ append-nil (spelled end_says))
spelled_from sheet t at (r ∷ rs) u bytes (next, some, e, later) =
    (record_sole t.stage t.names sheet at next r bytes e).0 ∙ ap (λ z. spelled r ++ z) (spelled_from sheet (after_record t r) next rs u bytes later)

pub spelled_by_its_records : SpelledByItsRecords
spelled_by_its_records sheet rs t bytes h = spelled_from sheet untold 0 rs t bytes h
