-- What a close leaves and replies, from what its steps did.
use Rattle.std.proofs.Common.{◌≡◌, ℕ, ◌+◌, ◌<◌, ◌≤◌, cond, List, [], ◌∷◌, ◌++◌, length, get_or, set, pos, nat_abs, Option, sym, ap, ◌∙◌, subst, arith}
use mathlib.Core.Logic.{∥∥₁_elim}
use native.Mathlib.Bridge.{le_prop}
use Rattle.std.proofs.lemmas.Bool.{le-leb, lt-leb}
use Rattle.limits.specs.declared.Limit.{Limit}
use Rattle.limits.specs.Refusals.{Reply, done, refused}
use Rattle.diagrams.specs.declared.Edge.{Edge}
use Rattle.diagrams.specs.Needs.{needs}
use Rattle.tables.specs.declared.NodeTable.{NodeTable}
use Rattle.tables.specs.Chains.{made, room}
use Rattle.tables.proofs.Tables.{made_length}
use Rattle.walks.specs.Extended.{Begins, Extended, Refused}
use Rattle.jobs.specs.Books.{Held, Books, limits_of, product_of}
use Rattle.jobs.specs.Calls.{standing, tested, closed, if_done, after_close}
use Rattle.jobs.specs.declared.ledger.Record.{Record}
use Rattle.jobs.proofs.Grown.{more_held, refused_needs}
use Rattle.jobs.proofs.Kept.{top_held, more_needs, more_books, more_limits, limits_length, closed_rest, passed}
use Rattle.jobs.proofs.Ready.{begins}

-- a reply settles what stands
pub stands_by : (room parts : ℕ) (ls : List Limit) (named : Option ℕ) (l : Limit) (r : Reply) → r ≡ closed room (standing parts ls) named l → if_done r (standing parts (ls ++ (l ∷ []))) (standing parts ls) ≡ after_close room (standing parts ls) named l
stands_by room parts ls named l r e = ap (λ x. if_done x (standing parts (ls ++ (l ∷ []))) (standing parts ls)) e

module _ (parts : ℕ) (t : NodeTable) (rs : List Record) (count : ℕ) (p : Edge) (l : Limit) (named : Option ℕ) (books : ∥ Books parts (made t) rs count ∥₁) (p-is : p ≡ product_of rs count) (few : parts ≤ 48) (whole : length rs ≡ 64) (count-few : count ≤ 64) where
  size : length (limits_of rs count) ≡ count
  size = limits_length rs count (omega arith)

  module _ (tests : done ≡ tested parts count named l.bound) where
    pub may_begin : ((i : ℕ) → nat_abs (get_or l.coefficients i (pos 0)) ≤ 1000000) → Begins parts t p l
    may_begin small = begins parts t rs count p l books p-is few small (passed parts count named l.bound tests).1

    pub inside : count < length rs
    inside = let h = (passed parts count named l.bound tests).0 in omega arith

    held_with : Held parts (limits_of rs count) (made t) (product_of rs count) → Held parts (limits_of rs count) (made t) p
    held_with h = subst (λ (e : Edge). Held parts (limits_of rs count) (made t) e) (sym p-is) h

    module _ (t' : NodeTable) (r : Refused parts t t' p l) where
      short : room t < needs parts (limits_of rs count ++ (l ∷ []))
      short = ∥∥₁_elim books le_prop (λ b. refused_needs parts (limits_of rs count) l t p (held_with (top_held parts (made t) rs count b)) t' r)

      pub too_few : refused 15 ≡ closed (room t) (standing parts (limits_of rs count)) named l
      too_few = sym (ap (λ b. cond b done (refused 15)) (lt-leb (needs parts (limits_of rs count ++ (l ∷ []))) (room t) short)) ∙ closed_rest (room t) parts count (limits_of rs count) named l size tests

      pub same_books : ∥ Books parts (made t') rs count ∥₁
      same_books = subst (λ ns. ∥ Books parts ns rs count ∥₁) (sym r.same) books

    module _ (t' : NodeTable) (e : Edge) (x : Extended parts t t' p l e) (mark : ℕ) (mark-is : mark ≡ length (made t)) where
      held : Held parts (limits_of rs count) (made t) (product_of rs count) → Held parts (limits_of rs count ++ (l ∷ [])) (made t') e
      held h = more_held parts (limits_of rs count) l t p (held_with h) t' e x

      enough : needs parts (limits_of rs count ++ (l ∷ [])) ≤ room t
      enough =
          let n = more_needs parts (made t) (made t') rs count mark l e inside books mark-is x.grown held in
          let m = made_length t' in
          let low = t'.fits.low in
          let same = x.places in
          omega arith

      pub accepted : done ≡ closed (room t) (standing parts (limits_of rs count)) named l
      accepted = sym (ap (λ b. cond b done (refused 15)) (le-leb (needs parts (limits_of rs count ++ (l ∷ []))) (room t) enough)) ∙ closed_rest (room t) parts count (limits_of rs count) named l size tests

      module _ (ss : List Record) (next : ℕ) (es : ss ≡ set rs count (record { limit = l; product = e; mark = mark })) (en : next ≡ count + 1) where
        pub longer_books : ∥ Books parts (made t') ss next ∥₁
        longer_books = more_books parts (made t) (made t') rs count mark l e inside books mark-is x.grown held ss next es en

        pub longer_stands : standing parts (limits_of ss next) ≡ after_close (room t) (standing parts (limits_of rs count)) named l
        longer_stands = ap (standing parts) (more_limits parts (made t) (made t') rs count mark l e inside books mark-is x.grown held ss next es en) ∙ stands_by (room t) parts (limits_of rs count) named l done accepted
