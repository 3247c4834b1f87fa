-- The chains with one place more or less.
use Rattle.std.proofs.Common.{◌≡◌, ℕ, ◌+◌, ◌-◌, ◌<◌, ◌≤◌, sym, ap, ◌∙◌, inl, inr, arith}
use Rattle.std.proofs.lemmas.Bool.{cases_eq}
use Rattle.tables.specs.Buckets.{Chains}

-- One more place, `len`, with the hash `h`. `H` are the heads, `N` the hashes of the places and `X` their links.
pub record More (mm len h : ℕ) (H H' N N' X X' : ℕ → ℕ) : Type 0 where
  pub was : Chains mm len H N X
  pub small : h < mm
  pub old_n : (k : ℕ) → k < len → N' k ≡ N k
  pub old_x : (k : ℕ) → k < len → X' k ≡ X k
  pub new_n : N' len ≡ h
  pub new_x : X' len ≡ H h
  pub new_h : H' h ≡ len + 1
  pub old_h : (g : ℕ) → (g ≡ h → ⊥) → H' g ≡ H g

module _ (mm len h : ℕ) (H H' N N' X X' : ℕ → ℕ) (m : More mm len h H H' N N' X X') where
  pub more_low : (g : ℕ) → g < mm → H' g ≤ len + 1
  more_low g lt = elim (cases_eq g h) [
    | inl e ↦ (let q : H' g ≡ len + 1 = ap H' e ∙ m.new_h in omega arith)
    | inr ne ↦ omega (arith, m.old_h g ne, m.was.low g lt)
  ]

  pub more_hit : (g : ℕ) → g < mm → 0 < H' g → N' (H' g - 1) ≡ g
  more_hit g lt p = elim (cases_eq g h) [
    | inl e ↦ (let q : H' g - 1 ≡ len = omega (arith, ap H' e, m.new_h) in ap N' q ∙ (m.new_n ∙ sym e))
    | inr ne ↦ (let q : H' g ≡ H g = m.old_h g ne in
        let p' : 0 < H g = omega arith in
        let b : H g - 1 < len = omega (arith, m.was.low g lt) in
        ap (λ x. N' (x - 1)) q ∙ (m.old_n (H g - 1) b ∙ m.was.hit g lt p'))
  ]

  pub more_last : (k : ℕ) → k < len + 1 → k < H' (N' k)
  more_last k lt = elim (cases_eq k len) [
    | inl e ↦ (let q : H' (N' k) ≡ len + 1 = ap (λ x. H' (N' x)) e ∙ (ap H' m.new_n ∙ m.new_h) in omega arith)
    | inr ne ↦ (let b : k < len = omega arith in
        elim (cases_eq (N k) h) [
          | inl e ↦ (let q : H' (N' k) ≡ len + 1 = ap H' (m.old_n k b ∙ e) ∙ m.new_h in omega arith)
          | inr d ↦ (let q : H' (N' k) ≡ H (N k) = ap H' (m.old_n k b) ∙ m.old_h (N k) d in omega (arith, m.was.last k b))
        ])
  ]

  pub more_nlow : (k : ℕ) → k < len + 1 → X' k ≤ k
  more_nlow k lt = elim (cases_eq k len) [
    | inl e ↦ omega (arith, ap X' e, m.new_x, m.was.low h m.small)
    | inr ne ↦ (let b : k < len = omega arith in omega (arith, m.old_x k b, m.was.nlow k b))
  ]

  pub more_nhit : (k : ℕ) → k < len + 1 → 0 < X' k → N' (X' k - 1) ≡ N' k
  more_nhit k lt p = elim (cases_eq k len) [
    | inl e ↦ (let q : X' k ≡ H h = ap X' e ∙ m.new_x in
        let p' : 0 < H h = omega arith in
        let b : H h - 1 < len = omega (arith, m.was.low h m.small) in
        ap (λ x. N' (x - 1)) q ∙ (m.old_n (H h - 1) b ∙ (m.was.hit h m.small p' ∙ (sym m.new_n ∙ ap N' (sym e)))))
    | inr ne ↦ (let b : k < len = omega arith in
        let q : X' k ≡ X k = m.old_x k b in
        let p' : 0 < X k = omega arith in
        let b' : X k - 1 < len = omega (arith, m.was.nlow k b) in
        ap (λ x. N' (x - 1)) q ∙ (m.old_n (X k - 1) b' ∙ (m.was.nhit k b p' ∙ sym (m.old_n k b))))
  ]

  pub more_nlast : (j k : ℕ) → k < len + 1 → (j < k) × (N' j ≡ N' k) → j < X' k
  more_nlast j k lt w = let jk : j < k = w.0 in elim (cases_eq k len) [
    | inl e ↦ (let b : j < len = omega arith in
        let q : N j ≡ h = sym (m.old_n j b) ∙ (w.1 ∙ (ap N' e ∙ m.new_n)) in
        omega (arith, m.was.last j b, ap H q, ap X' e, m.new_x))
    | inr ne ↦ (let b : k < len = omega arith in
        let b' : j < len = omega arith in
        let q : N j ≡ N k = sym (m.old_n j b') ∙ (w.1 ∙ m.old_n k b) in
        omega (arith, m.was.nlast j k b (jk, q), m.old_x k b))
  ]

-- The last place goes, `len`, with the hash `N len`.
pub record Fewer (mm len : ℕ) (H H' N N' X X' : ℕ → ℕ) : Type 0 where
  pub was : Chains mm (len + 1) H N X
  pub old_n : (k : ℕ) → k < len → N' k ≡ N k
  pub old_x : (k : ℕ) → k < len → X' k ≡ X k
  pub new_h : H' (N len) ≡ X len
  pub old_h : (g : ℕ) → (g ≡ N len → ⊥) → H' g ≡ H g

module _ (mm len : ℕ) (H H' N N' X X' : ℕ → ℕ) (m : Fewer mm len H H' N N' X X') where
  here : len < len + 1
  here = omega arith

  pub fewer_low : (g : ℕ) → g < mm → H' g ≤ len
  fewer_low g lt = elim (cases_eq g (N len)) [
    | inl e ↦ omega (arith, ap H' e, m.new_h, m.was.nlow len here)
    | inr ne ↦ elim (cases_eq (H g) (len + 1)) [
      | inl q ↦ (let p : 0 < H g = omega arith in
          let r : H g - 1 ≡ len = omega arith in
          absurd (ne (sym (m.was.hit g lt p) ∙ ap N r)))
      | inr d ↦ omega (arith, m.old_h g ne, m.was.low g lt)
    ]
  ]

  pub fewer_hit : (g : ℕ) → g < mm → 0 < H' g → N' (H' g - 1) ≡ g
  fewer_hit g lt p = let lo : H' g ≤ len = fewer_low g lt in
      let b : H' g - 1 < len = omega arith in
      m.old_n (H' g - 1) b ∙ elim (cases_eq g (N len)) [
        | inl e ↦ (let q : H' g ≡ X len = ap H' e ∙ m.new_h in
            let p' : 0 < X len = omega arith in
            ap (λ x. N (x - 1)) q ∙ (m.was.nhit len here p' ∙ sym e))
        | inr ne ↦ (let q : H' g ≡ H g = m.old_h g ne in
            let p' : 0 < H g = omega arith in
            ap (λ x. N (x - 1)) q ∙ m.was.hit g lt p')
      ]

  pub fewer_last : (k : ℕ) → k < len → k < H' (N' k)
  fewer_last k lt = let b : k < len + 1 = omega arith in elim (cases_eq (N k) (N len)) [
    | inl e ↦ omega (arith, ap H' (m.old_n k lt ∙ e), m.new_h, m.was.nlast k len here (lt, e))
    | inr d ↦ omega (arith, ap H' (m.old_n k lt), m.old_h (N k) d, m.was.last k b)
  ]

  pub fewer_nlow : (k : ℕ) → k < len → X' k ≤ k
  fewer_nlow k lt = let b : k < len + 1 = omega arith in omega (arith, m.old_x k lt, m.was.nlow k b)

  pub fewer_nhit : (k : ℕ) → k < len → 0 < X' k → N' (X' k - 1) ≡ N' k
  fewer_nhit k lt p = let b : k < len + 1 = omega arith in
      let q : X' k ≡ X k = m.old_x k lt in
      let p' : 0 < X k = omega arith in
      let b' : X k - 1 < len = omega (arith, m.was.nlow k b) in
      ap (λ x. N' (x - 1)) q ∙ (m.old_n (X k - 1) b' ∙ (m.was.nhit k b p' ∙ sym (m.old_n k lt)))

  pub fewer_nlast : (j k : ℕ) → k < len → (j < k) × (N' j ≡ N' k) → j < X' k
  fewer_nlast j k lt w = let jk : j < k = w.0 in
      let b : k < len + 1 = omega arith in
      let b' : j < len = omega arith in
      let q : N j ≡ N k = sym (m.old_n j b') ∙ (w.1 ∙ m.old_n k lt) in
      omega (arith, m.was.nlast j k b (jk, q), m.old_x k lt)

pub more_chains : (mm len h : ℕ) (H H' N N' X X' : ℕ → ℕ) → More mm len h H H' N N' X X' → Chains mm (len + 1) H' N' X'
more_chains mm len h H H' N N' X X' m = record { low = more_low mm len h H H' N N' X X' m; hit = more_hit mm len h H H' N N' X X' m; last = more_last mm len h H H' N N' X X' m; nlow = more_nlow mm len h H H' N N' X X' m; nhit = more_nhit mm len h H H' N N' X X' m; nlast = more_nlast mm len h H H' N N' X X' m }

pub fewer_chains : (mm len : ℕ) (H H' N N' X X' : ℕ → ℕ) → Fewer mm len H H' N N' X X' → Chains mm len H' N' X'
fewer_chains mm len H H' N N' X X' m = record { low = fewer_low mm len H H' N N' X X' m; hit = fewer_hit mm len H H' N N' X X' m; last = fewer_last mm len H H' N N' X X' m; nlow = fewer_nlow mm len H H' N N' X X' m; nhit = fewer_nhit mm len H H' N N' X X' m; nlast = fewer_nlast mm len H H' N N' X X' m }
