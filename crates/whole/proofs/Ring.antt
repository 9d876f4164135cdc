-- That two expressions with the same normal form have the same value, `ring`, since an expression has the value of its normal form, `norm_ok`. Expressions and
-- normal forms are defined in specs/Ring.antt.
use Rattle.std.specs.Prelude.{◌≡◌, refl, Bool, true, false, ◌&&◌, List, [], ◌∷◌, ℕ, T, leb, eqb, ℤ, pos, negsuc, neg_ℤ, ◌+ℤ◌, ◌*ℤ◌}
use Rattle.std.proofs.Common.{sym, ap, ap₂, ◌∙◌, eqb→eq}
use Rattle.std.proofs.Math.IntN.{+ℤ_idr, +ℤ_idl, +ℤ_assoc, +ℤ_comm, zero-*ℤ, *ℤ-zero, *ℤ_comm, *ℤ-one, one}
use Rattle.whole.specs.Laws.{distr, distl, *ℤ_assoc, neg_mul}
use Rattle.whole.specs.Ring.{Ex, var, num, ◌:+◌, ◌:*◌, neg, nth, ⟦◌⟧, Poly, nil, tm, cond_p, cond_l, is_zero, eq_m, lt_m, ins_v, mul_m, put, ins_t, add_p, mul_t, mul_p, norm, val_m, val_p, eq_z, eq_p}

-- ---- what regrouping is needed
swap+ : (a b c : ℤ) → a +ℤ (b +ℤ c) ≡ b +ℤ (a +ℤ c)
swap+ a b c = sym (+ℤ_assoc a b c) ∙ ap (λ (z : ℤ). z +ℤ c) (+ℤ_comm a b) ∙ +ℤ_assoc b a c

swap* : (a b c : ℤ) → a *ℤ (b *ℤ c) ≡ b *ℤ (a *ℤ c)
swap* a b c = sym (*ℤ_assoc a b c) ∙ ap (λ (z : ℤ). z *ℤ c) (*ℤ_comm a b) ∙ *ℤ_assoc b a c

mid* : (a b c d : ℤ) → (a *ℤ b) *ℤ (c *ℤ d) ≡ (a *ℤ c) *ℤ (b *ℤ d)
mid* a b c d = *ℤ_assoc a b (c *ℤ d) ∙ ap (λ (z : ℤ). a *ℤ z) (swap* b c d) ∙ sym (*ℤ_assoc a c (b *ℤ d))

times_one : (x : ℤ) → x *ℤ pos 1 ≡ x
unfolding one
times_one x = *ℤ-one x

one_times : (x : ℤ) → pos 1 *ℤ x ≡ x
one_times x = *ℤ_comm (pos 1) x ∙ times_one x

-- ---- each step keeps the value
eq_m_ok : (m n : List ℕ) → T (eq_m m n) → m ≡ n
eq_m_ok [] [] t = refl
eq_m_ok [] (j ∷ n) t = absurd t
eq_m_ok (i ∷ m) [] t = absurd t
eq_m_ok (i ∷ m) (j ∷ n) t = ap₂ (λ (a : ℕ) (l : List ℕ). a ∷ l) (eqb→eq i j (left (eqb i j) t)) (eq_m_ok m n (right (eqb i j) t))
  where
    left : (b : Bool) → T (b && eq_m m n) → T b
    left true t = tt
    left false t = t

    right : (b : Bool) → T (b && eq_m m n) → T (eq_m m n)
    right true t = t
    right false t = absurd t

is_zero_ok : (c : ℤ) → T (is_zero c) → c ≡ pos 0
is_zero_ok (pos n) t = ap pos (eqb→eq n 0 t)
is_zero_ok (negsuc n) t = absurd t

cond_p_ind : (b : Bool) (p q : Poly) (P : Poly → Type 0) → (T b → P p) → P q → P (cond_p b p q)
cond_p_ind true p q P f g = f tt
cond_p_ind false p q P f g = g

cond_l_ind : (b : Bool) (p q : List ℕ) (P : List ℕ → Type 0) → P p → P q → P (cond_l b p q)
cond_l_ind true p q P f g = f
cond_l_ind false p q P f g = g

module _ (ρ : List ℤ) where
  ins_v_ok : (i : ℕ) (m : List ℕ) → val_m ρ (ins_v i m) ≡ nth ρ i *ℤ val_m ρ m
  ins_v_ok i [] = refl
  ins_v_ok i (j ∷ m) = cond_l_ind (leb i j) (i ∷ (j ∷ m)) (j ∷ ins_v i m) (λ (l : List ℕ). val_m ρ l ≡ nth ρ i *ℤ (nth ρ j *ℤ val_m ρ m)) refl
      (ap (λ (z : ℤ). nth ρ j *ℤ z) (ins_v_ok i m) ∙ swap* (nth ρ j) (nth ρ i) (val_m ρ m))

  mul_m_ok : (m n : List ℕ) → val_m ρ (mul_m m n) ≡ val_m ρ m *ℤ val_m ρ n
  mul_m_ok [] n = sym (one_times (val_m ρ n))
  mul_m_ok (i ∷ m) n = ins_v_ok i (mul_m m n) ∙ ap (λ (z : ℤ). nth ρ i *ℤ z) (mul_m_ok m n) ∙ sym (*ℤ_assoc (nth ρ i) (val_m ρ m) (val_m ρ n))

  put_ok : (c : ℤ) (m : List ℕ) (p : Poly) → val_p ρ (put c m p) ≡ c *ℤ val_m ρ m +ℤ val_p ρ p
  put_ok c m p = cond_p_ind (is_zero c) p (tm c m p) (λ (q : Poly). val_p ρ q ≡ c *ℤ val_m ρ m +ℤ val_p ρ p)
      (λ t. sym (+ℤ_idl (val_p ρ p)) ∙ ap (λ (z : ℤ). z +ℤ val_p ρ p) (sym (zero-*ℤ (val_m ρ m)) ∙ ap (λ (z : ℤ). z *ℤ val_m ρ m) (sym (is_zero_ok c t)))) refl

  ins_t_ok : (c : ℤ) (m : List ℕ) (p : Poly) → val_p ρ (ins_t c m p) ≡ c *ℤ val_m ρ m +ℤ val_p ρ p
  ins_t_ok c m nil = put_ok c m nil
  ins_t_ok c m (tm d n p) = cond_p_ind (eq_m m n) (put (c +ℤ d) n p) (cond_p (lt_m m n) (put c m (tm d n p)) (tm d n (ins_t c m p))) (λ (q : Poly). val_p ρ q ≡ c *ℤ val_m ρ m +ℤ (d *ℤ val_m ρ n +ℤ val_p ρ p))
      (λ t. put_ok (c +ℤ d) n p ∙ ap (λ (z : ℤ). z +ℤ val_p ρ p) (distr c d (val_m ρ n)) ∙ +ℤ_assoc (c *ℤ val_m ρ n) (d *ℤ val_m ρ n) (val_p ρ p) ∙ ap (λ (l : List ℕ). c *ℤ val_m ρ l +ℤ (d *ℤ val_m ρ n +ℤ val_p ρ p)) (sym (eq_m_ok m n t)))
      (cond_p_ind (lt_m m n) (put c m (tm d n p)) (tm d n (ins_t c m p)) (λ (q : Poly). val_p ρ q ≡ c *ℤ val_m ρ m +ℤ (d *ℤ val_m ρ n +ℤ val_p ρ p))
      (λ t. put_ok c m (tm d n p))
      (ap (λ (z : ℤ). d *ℤ val_m ρ n +ℤ z) (ins_t_ok c m p) ∙ swap+ (d *ℤ val_m ρ n) (c *ℤ val_m ρ m) (val_p ρ p)))

  add_p_ok : (p q : Poly) → val_p ρ (add_p p q) ≡ val_p ρ p +ℤ val_p ρ q
  add_p_ok nil q = sym (+ℤ_idl (val_p ρ q))
  add_p_ok (tm c m p) q = ins_t_ok c m (add_p p q) ∙ ap (λ (z : ℤ). c *ℤ val_m ρ m +ℤ z) (add_p_ok p q) ∙ sym (+ℤ_assoc (c *ℤ val_m ρ m) (val_p ρ p) (val_p ρ q))

  mul_t_ok : (c : ℤ) (m : List ℕ) (p : Poly) → val_p ρ (mul_t c m p) ≡ (c *ℤ val_m ρ m) *ℤ val_p ρ p
  mul_t_ok c m nil = sym (*ℤ-zero (c *ℤ val_m ρ m))
  mul_t_ok c m (tm d n p) = ins_t_ok (c *ℤ d) (mul_m m n) (mul_t c m p)
      ∙ ap₂ (λ (y z : ℤ). (c *ℤ d) *ℤ y +ℤ z) (mul_m_ok m n) (mul_t_ok c m p)
      ∙ ap (λ (z : ℤ). z +ℤ (c *ℤ val_m ρ m) *ℤ val_p ρ p) (sym (mid* c (val_m ρ m) d (val_m ρ n)))
      ∙ sym (distl (c *ℤ val_m ρ m) (d *ℤ val_m ρ n) (val_p ρ p))

  mul_p_ok : (p q : Poly) → val_p ρ (mul_p p q) ≡ val_p ρ p *ℤ val_p ρ q
  mul_p_ok nil q = sym (zero-*ℤ (val_p ρ q))
  mul_p_ok (tm c m p) q = add_p_ok (mul_t c m q) (mul_p p q) ∙ ap₂ (λ (y z : ℤ). y +ℤ z) (mul_t_ok c m q) (mul_p_ok p q) ∙ sym (distr (c *ℤ val_m ρ m) (val_p ρ p) (val_p ρ q))

  minus_one : (x : ℤ) → (negsuc 0 *ℤ pos 1) *ℤ x ≡ neg_ℤ x
  minus_one x = neg_mul (pos 1) x ∙ ap neg_ℤ (one_times x)

  pub norm_ok : (e : Ex) → val_p ρ (norm e) ≡ ⟦ e ⟧ ρ
  norm_ok (var i) = +ℤ_idr (pos 1 *ℤ (nth ρ i *ℤ pos 1)) ∙ one_times (nth ρ i *ℤ pos 1) ∙ times_one (nth ρ i)
  norm_ok (num c) = put_ok c [] nil ∙ +ℤ_idr (c *ℤ pos 1) ∙ times_one c
  norm_ok (a :+ b) = add_p_ok (norm a) (norm b) ∙ ap₂ (λ (y z : ℤ). y +ℤ z) (norm_ok a) (norm_ok b)
  norm_ok (a :* b) = mul_p_ok (norm a) (norm b) ∙ ap₂ (λ (y z : ℤ). y *ℤ z) (norm_ok a) (norm_ok b)
  norm_ok (neg a) = mul_t_ok (negsuc 0) [] (norm a) ∙ minus_one (val_p ρ (norm a)) ∙ ap neg_ℤ (norm_ok a)

  same : (e f : Ex) → norm e ≡ norm f → ⟦ e ⟧ ρ ≡ ⟦ f ⟧ ρ
  same e f h = sym (norm_ok e) ∙ ap (val_p ρ) h ∙ norm_ok f

eq_z_ok : (a b : ℤ) → T (eq_z a b) → a ≡ b
eq_z_ok (pos a) (pos b) t = ap pos (eqb→eq a b t)
eq_z_ok (pos a) (negsuc b) t = absurd t
eq_z_ok (negsuc a) (pos b) t = absurd t
eq_z_ok (negsuc a) (negsuc b) t = ap negsuc (eqb→eq a b t)

both : (a b : Bool) → T (a && b) → T a × T b
both true b t = (tt, t)
both false b t = absurd t

eq_p_ok : (p q : Poly) → T (eq_p p q) → p ≡ q
eq_p_ok nil nil t = refl
eq_p_ok nil (tm d n q) t = absurd t
eq_p_ok (tm c m p) nil t = absurd t
eq_p_ok (tm c m p) (tm d n q) t =
    let h = both (eq_z c d) (eq_m m n && eq_p p q) t in
    let g = both (eq_m m n) (eq_p p q) h.1 in
    λ i. tm (eq_z_ok c d h.0 i) (eq_m_ok m n g.0 i) (eq_p_ok p q g.1 i)

pub ring : (ρ : List ℤ) (e f : Ex) → T (eq_p (norm e) (norm f)) → ⟦ e ⟧ ρ ≡ ⟦ f ⟧ ρ
ring ρ e f t = same ρ e f (eq_p_ok (norm e) (norm f) t)
