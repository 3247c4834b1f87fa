-- A table without nodes, and one with the same nodes.
use Rattle.std.proofs.Common.{◌≡◌, ℕ, List, [], ◌∷◌, Some, sym, subst, arith}
use Rattle.std.specs.List.{slice_get}
use Rattle.diagrams.specs.declared.Node.{Node}
use Rattle.diagrams.specs.Nodes.{Sound, Ordered}
use Rattle.diagrams.proofs.Extend.{ordered_none}
use Rattle.tables.specs.declared.NodeTable.{NodeTable}
use Rattle.tables.specs.Chains.{made}
use Rattle.walks.specs.Extended.{SoundTable}

none_there : {A : Type 0} (k : ℕ) (n : Node) (ns : List Node) → ns ≡ [] → slice_get ns k ≡ Some n → A
none_there k n [] e f = let z : ◌≡◌ {A = ℕ} 0 1 = cc in absurd (omega arith)
none_there k n (q ∷ ns) e f = let z : ◌≡◌ {A = ℕ} 0 1 = cc in absurd (omega arith)

pub sound_none : (parts : ℕ) (t : NodeTable) → made t ≡ [] → SoundTable parts t
sound_none parts t none = record {
  sound = record {
    below = λ k n f. none_there k n (made t) none f;
    left_higher = λ k n f. none_there k n (made t) none f;
    right_higher = λ k n f. none_there k n (made t) none f;
    reduced = λ k n f. none_there k n (made t) none f;
    unique = λ j k n f g. none_there k n (made t) none g;
  };
  ordered = subst (Ordered parts) (sym none) (ordered_none parts);
  small = λ k n f. none_there k n (made t) none f;
}

-- a table with the same nodes
pub sound_same : (parts : ℕ) (t t' : NodeTable) → SoundTable parts t → made t' ≡ made t → SoundTable parts t'
sound_same parts t t' s same = record {
  sound = subst (Sound parts) (sym same) s.sound;
  ordered = subst (Ordered parts) (sym same) s.ordered;
  small = λ k n f. s.small k n (subst (λ ns. slice_get ns k ≡ Some n) same f);
}
