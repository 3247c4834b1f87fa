-- The stack of open questions as a list, newest first.
use Rattle.std.proofs.Common.{◌≡◌, List, [], ◌∷◌, ◌++◌, reverse, ap, ◌∙◌}
use Rattle.std.proofs.lemmas.List.{reverse-append}

pub on_top : {A : Type 0} (xs ys : List A) (f : A) → xs ≡ ys ++ f ∷ [] → reverse xs ≡ f ∷ reverse ys
on_top xs ys f e = ap reverse e ∙ reverse-append ys (f ∷ [])
