-- Edges to one node that denote 0 or 1 have one constant.
use Rattle.std.proofs.Common.{◌≡◌, ◌+◌, ◌-◌, Bool, false, ◌⊎◌, List, length, replicate, ℤ, pos, ◌+ℤ◌, sym, ap, ◌∙◌, subst, inl, inr, arith}
use lib.ListN.{length-replicate}
use lib.IntN.{+ℤ_idr, ℤ_discrete}
use Rattle.std.proofs.lemmas.Int.{ints}
use Rattle.diagrams.specs.declared.Child.TheVariants.{Terminal}
use Rattle.diagrams.specs.Nodes.{value}
use Rattle.diagrams.specs.Apply.{Bit}
use Rattle.diagrams.specs.Constants.{DenotesBits, OneConstant}
use Rattle.diagrams.proofs.Canonical.{same_ref, value_out}
use Rattle.diagrams.proofs.Settle.{value_terminal}

-- two different bits can both be raised to bits by 0 only
only_zero : (a b z : ℤ) → Bit a → Bit b → (a ≡ b → ⊥) → Bit (a +ℤ z) → Bit (b +ℤ z) → z ≡ pos 0
only_zero a b z p q d s t = grind (arith, ints)

pub one_constant : OneConstant
one_constant parts ns sound i a b r low f ha hb = by (ℤ_discrete a b)
  where
    sized : i + (parts - i) ≡ parts
    sized = omega arith

    -- the constant is the value with all parts left out
    bit_of : (z : ℤ) → DenotesBits parts ns i z r → Bit z
    bit_of z h =
        subst Bit (ap (λ v. z +ℤ v) (value_out ns (parts - i) i r) ∙ +ℤ_idr z)
        (h (replicate (parts - i) false) (ap (λ m. i + m) (length-replicate (parts - i) false) ∙ sized))

    by : Dec (a ≡ b) → (a ≡ b) ⊎ (r ≡ Terminal)
    by (yes h) = inl h
    by (no d) =
        inr (same_ref parts ns sound (parts - i) i sized r Terminal f tt zero_everywhere)
      where
        zero_everywhere : (c : List Bool) → length c ≡ parts - i → value ns i r c ≡ value ns i Terminal c
        zero_everywhere c l =
            let e : i + length c ≡ parts = omega arith in
            only_zero a b (value ns i r c) (bit_of a ha) (bit_of b hb) d (ha c e) (hb c e) ∙ sym (value_terminal ns i c)
