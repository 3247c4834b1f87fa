-- An answer has one reply, and a reply of a close tells whether it is refused for want of places.
use Rattle.std.proofs.Common.{◌≡◌, ℕ, ◌<◌, Bool, true, false, cond, ltb, leb, List, [], ◌∷◌, ◌++◌, length, nat_abs, Ok, Err, sym, refl, ap, ◌∙◌, subst, ap₂, arith}
use Rattle.std.proofs.lemmas.Bool.{and_parts, leb-false, lt-ltb, lt-leb}
use Rattle.limits.specs.declared.drafts.Term.{Term}
use Rattle.limits.specs.declared.drafts.Side.{Side}
use Rattle.limits.specs.Refusals.{done, refused, number}
use Rattle.limits.specs.Refusals as refusals
use Rattle.diagrams.specs.Needs.{needs}
use Rattle.jobs.specs.Calls.{Standing, closed, tested, and_then, named_below}
use Rattle.logs.specs.Drafted.{named, limit_of}
use Rattle.logs.specs.Logs.{Reply, Says, RefusedForPlaces}
use Rattle.logs.specs.declared.Answered.TheVariants.{Done, Solved, Checked}

-- an answer has one reply
pub one_reply : {G : Type 0} (r : Reply G) (x y : refusals.Reply) → Says r x → Says r y → x ≡ y
one_reply (Ok Done) x y p q = sym p ∙ q
one_reply (Err e) x y p q = sym p ∙ q
one_reply (Ok (Solved f)) x y p q = absurd p
one_reply (Ok (Checked o)) x y p q = absurd p

fewer : (needed places : ℕ) (b : Bool) → leb needed places ≡ b → cond b done (refused 15) ≡ refused 15 → places < needed
fewer needed places true e h = let z : ◌≡◌ {A = ℕ} 0 1 = cc in absurd (omega arith)
fewer needed places false e h = leb-false needed places e

pub refused_for_places : {G : Type 0} (places : ℕ) (s : Standing) (ts : List Term) (side : Side) (r : Reply G)
    → Says r (closed places s (named ts) (limit_of ts side)) → RefusedForPlaces places s ts side r
refused_for_places places s ts side r says is_sound few =
    let needed : ℕ = needs s.parts (s.limits ++ (limit_of ts side ∷ [])) in
    let both = and_parts (leb (nat_abs side.bound) 100000000) (named_below (named ts) s.parts) is_sound in
    let pass : tested s.parts (length s.limits) (named ts) side.bound ≡ done =
    ap₂ (λ x y. cond x (cond y (cond (ltb (length s.limits) 64) done (refused 14)) (refused 7)) (refused 9)) both.0 both.1
    ∙ ap (λ x. cond x done (refused 14)) (lt-ltb (length s.limits) 64 few) in
    let is : closed places s (named ts) (limit_of ts side) ≡ cond (leb needed places) done (refused 15) =
    ap (λ t. and_then t (cond (leb needed places) done (refused 15))) pass in (
      λ h. fewer needed places (leb needed places) refl (sym is ∙ one_reply r _ _ says h),
      λ h. subst (Says r) (is ∙ ap (λ b. cond b done (refused 15)) (lt-leb needed places h)) says,
    )
