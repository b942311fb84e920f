-- On whole coordinates of size at most 2^20 and at most 4,096 nodes every product, difference and sum is exact, so the rounded sum
-- is below zero exactly where the sum in whole numbers is.
use Rattle.std.proofs.Common.{◌≡◌, ℕ, zero, suc, ◌+◌, ◌-◌, ◌*◌, ◌/◌, ◌%◌, ◌^◌, ◌<◌, ◌≤◌, min, Bool, true, false, cond, ◌&&◌, T, eqb, ltb, leb, List, [], ◌∷◌, length, ℤ, pos, negsuc, ◌+ℤ◌, ◌-ℤ◌, ◌*ℤ◌, neg_ℤ, nat_abs, sym, refl, ap, ◌∙◌, subst, zero-le, le_trans, le_of_eq, le_refl, add-zero, add-le-add, mul-le-mul, add_comm, div-add-mod', zero-add, mul-one, arith, lit≤, eqb→eq, ltb→lt, leb→le}
use lib.IntN.{sub_ℕ}
use lib.Ieee.{Float, nan, inf, fin, binary64, up, down, sub, mul, lt, to_signed}
use lib.Ieee.Fits.{and_l, and_r}
use lib.Ieee.Exact.{HasValue}
use Rattle.base.specs.Kinds.{element_limit}
use Rattle.faces.specs.Edges.{Edge, along, cycle}
use Rattle.winding.specs.Plane.{zero64, area_from, signed_area2}
use Rattle.winding.specs.Exact.{grid_limit, small_whole, x_of, y_of, on_grid, whole_of, exact_cross, exact_from, exact_sum, negative}
use Rattle.winding.proofs.Whole.{Means, add_means, sub_means, mul_means, zero_means, half_negative}

-- ---- sizes of integers

abs_neg : (a : ℤ) → nat_abs (neg_ℤ a) ≡ nat_abs a
abs_neg (pos zero) = refl
abs_neg (pos (suc n)) = refl
abs_neg (negsuc n) = refl

abs-mul : (a b : ℤ) → nat_abs (a *ℤ b) ≡ nat_abs a * nat_abs b
abs-mul (pos a) (pos b) = refl
abs-mul (pos a) (negsuc b) = abs_neg (pos (a * suc b))
abs-mul (negsuc a) (pos b) = abs_neg (pos (suc a * b))
abs-mul (negsuc a) (negsuc b) = refl

abs-sub : (a b : ℕ) → nat_abs (sub_ℕ a b) ≤ a + b
abs-sub a b = go (ltb a b) (ltb→lt a b)
  where
    up_to : (a b : ℕ) → a < b → suc (b - suc a) ≤ a + b
    up_to a b h = omega arith

    down_to : (a b : ℕ) → a - b ≤ a + b
    down_to a b = omega arith

    go : (u : Bool) → (T u → a < b) → nat_abs (cond u (negsuc (b - suc a)) (pos (a - b))) ≤ a + b
    go true l = up_to a b (l tt)
    go false l = down_to a b

abs-add : (a b : ℤ) → nat_abs (a +ℤ b) ≤ nat_abs a + nat_abs b
abs-add (pos a) (pos b) = le_refl (a + b)
abs-add (pos a) (negsuc b) = abs-sub a (suc b)
abs-add (negsuc a) (pos b) = le_trans (abs-sub b (suc a)) (le_of_eq (add_comm b (suc a)))
abs-add (negsuc a) (negsuc b) = both a b
  where
    both : (a b : ℕ) → suc (suc (a + b)) ≤ suc a + suc b
    both a b = omega arith

-- ---- a whole coordinate

whole_means : (x : Float) → T (small_whole x) → Means x (whole_of x) × (nat_abs (whole_of x) ≤ grid_limit)
unfolding to_signed
whole_means nan t = absurd t
whole_means (inf s) t = absurd t
whole_means (fin s m e) t =
    at s (m * up e / down e) (leb→le _ _ (and_r (eqb (m * up e % down e) 0) (leb (m * up e / down e) grid_limit) t)) (
      refl,
      mul-one (m * up e) ∙ sym (div-add-mod' (m * up e) (down e))
          ∙ ap (λ (k : ℕ). m * up e / down e * down e + k) (eqb→eq _ _ (and_l (eqb (m * up e % down e) 0) (leb (m * up e / down e) grid_limit) t))
          ∙ add-zero _,
    )
  where
    low_cap : (c : ℕ) → c ≤ grid_limit → min c (2 ^ 63) ≡ c
    low_cap c h = omega arith

    high_cap : (c : ℕ) → c ≤ grid_limit → min c (2 ^ 63 - 1) ≡ c
    high_cap c h = omega arith

    at : (u : Bool) (c : ℕ) → c ≤ grid_limit → HasValue (fin s m e) u c 1
        → Means (fin s m e) (cond u (neg_ℤ (pos (min c (2 ^ 63)))) (pos (min c (2 ^ 63 - 1)))) × (nat_abs (cond u (neg_ℤ (pos (min c (2 ^ 63)))) (pos (min c (2 ^ 63 - 1)))) ≤ grid_limit)
    at true c h v = (
      record { sign = true; size = c; value = v; is = ap (λ (k : ℕ). neg_ℤ (pos k)) (sym (low_cap c h)) },
      subst (λ (k : ℕ). nat_abs (neg_ℤ (pos k)) ≤ grid_limit) (sym (low_cap c h)) (le_trans (le_of_eq (abs_neg (pos c))) h),
    )
    at false c h v = (
      record { sign = false; size = c; value = v; is = ap pos (sym (high_cap c h)) },
      subst (λ (k : ℕ). k ≤ grid_limit) (sym (high_cap c h)) h,
    )

-- ---- an edge

-- the most that an edge adds
abbrev most : ℕ
most = grid_limit * grid_limit + grid_limit * grid_limit

product_small : (a b : ℤ) → nat_abs a ≤ grid_limit → nat_abs b ≤ grid_limit → nat_abs (a *ℤ b) ≤ grid_limit * grid_limit
product_small a b p q = le_trans (le_of_eq (abs-mul a b)) (mul-le-mul p q)

difference_small : (a b : ℤ) → nat_abs a ≤ grid_limit * grid_limit → nat_abs b ≤ grid_limit * grid_limit → nat_abs (a -ℤ b) ≤ most
difference_small a b p q = le_trans (abs-add a (neg_ℤ b)) (add-le-add p (le_trans (le_of_eq (abs_neg b)) q))

cross_means : (x0 y0 x1 y1 : Float) → T (small_whole x0) → T (small_whole y0) → T (small_whole x1) → T (small_whole y1)
    → Means (sub binary64 (mul binary64 x0 y1) (mul binary64 x1 y0)) (whole_of x0 *ℤ whole_of y1 -ℤ whole_of x1 *ℤ whole_of y0) × (nat_abs (whole_of x0 *ℤ whole_of y1 -ℤ whole_of x1 *ℤ whole_of y0) ≤ most)
cross_means x0 y0 x1 y1 p q r s =
    let a = whole_means x0 p in
    let b = whole_means y0 q in
    let c = whole_means x1 r in
    let d = whole_means y1 s in
    let m : nat_abs (whole_of x0 *ℤ whole_of y1) ≤ grid_limit * grid_limit = product_small (whole_of x0) (whole_of y1) a.1 d.1 in
    let n : nat_abs (whole_of x1 *ℤ whole_of y0) ≤ grid_limit * grid_limit = product_small (whole_of x1) (whole_of y0) c.1 b.1 in
    let o : nat_abs (whole_of x0 *ℤ whole_of y1 -ℤ whole_of x1 *ℤ whole_of y0) ≤ most = difference_small (whole_of x0 *ℤ whole_of y1) (whole_of x1 *ℤ whole_of y0) m n in (
      sub_means (mul binary64 x0 y1) (mul binary64 x1 y0) (whole_of x0 *ℤ whole_of y1) (whole_of x1 *ℤ whole_of y0)
          (mul_means x0 y1 (whole_of x0) (whole_of y1) a.0 d.0 (le_trans m (lit≤ tt)))
          (mul_means x1 y0 (whole_of x1) (whole_of y0) c.0 b.0 (le_trans n (lit≤ tt)))
          (le_trans o (lit≤ tt)),
      o,
    )

-- ---- the edges of a cycle

module _ (points : List Float) where
  -- the coordinates of an id are such numbers
  abbrev Good : ℕ → Type 0
  Good id = T (small_whole (x_of points id)) × T (small_whole (y_of points id))

  abbrev AllGood : List Edge → Type 0
  AllGood [] = Unit {0}
  AllGood (e ∷ es) = (Good e.from × Good e.to) × AllGood es

  first_good : (id : ℕ) (ids : List ℕ) → T (on_grid points (id ∷ ids)) → Good id × T (on_grid points ids)
  unfolding on_grid
  first_good id ids t =
      let here = small_whole (x_of points id) && small_whole (y_of points id) in
      let g = and_l here (on_grid points ids) t in
      ((and_l (small_whole (x_of points id)) _ g, and_r (small_whole (x_of points id)) _ g), and_r here (on_grid points ids) t)

  along_good : (f : ℕ) (ids : List ℕ) → Good f → T (on_grid points ids) → AllGood (along f ids)
  unfolding along
  along_good f [] g t = tt
  along_good f (x ∷ []) g t = (((first_good x [] t).0, g), tt)
  along_good f (x ∷ y ∷ ids) g t =
      let h = first_good x (y ∷ ids) t in
      ((h.0, (first_good y ids h.1).0), along_good f (y ∷ ids) g h.1)

  cycle_good : (ids : List ℕ) → T (on_grid points ids) → AllGood (cycle ids)
  unfolding along
  cycle_good [] t = tt
  cycle_good (x ∷ ids) t = along_good x (x ∷ ids) (first_good x ids t).0 t

  length-along : (f : ℕ) (ids : List ℕ) → length (along f ids) ≡ length ids
  unfolding along
  length-along f [] = refl
  length-along f (x ∷ ids) = ap suc (length-along f ids)

  -- ---- the sum

  step : (a b k : ℕ) → a ≤ k * most → b ≤ most → a + b ≤ suc k * most
  step a b k p q = omega arith

  within : (a k : ℕ) → a ≤ k * most → k ≤ element_limit → a ≤ 2 ^ 53
  within a k p q = omega arith

  sum_means : (es : List Edge) (sum : Float) (z : ℤ) (k : ℕ) → AllGood es → Means sum z → nat_abs z ≤ k * most
      → k + length es ≤ element_limit
      → Means (area_from points sum es) (exact_from points z es) × (nat_abs (exact_from points z es) ≤ 2 ^ 53)
  unfolding area_from exact_from
  sum_means [] sum z k g m b l = (m, within (nat_abs z) k b (le_trans (le_of_eq (sym (add-zero k))) l))
  sum_means (e ∷ es) sum z k g m b l =
      let c = cross_means (x_of points e.from) (y_of points e.from) (x_of points e.to) (y_of points e.to)
      g.0.0.0 g.0.0.1 g.0.1.0 g.0.1.1 in
      let d : nat_abs (z +ℤ exact_cross points e) ≤ suc k * most =
      le_trans (abs-add z (exact_cross points e)) (step (nat_abs z) (nat_abs (exact_cross points e)) k b c.1) in
      let few : suc k ≤ element_limit = omega arith in
      sum_means es _ _ (suc k) g.1 (add_means sum _ z (exact_cross points e) m c.0 (within _ (suc k) d few)) d (omega arith)

  pub area_exact : (ids : List ℕ) → length ids ≤ element_limit → T (on_grid points ids)
      → lt (signed_area2 points ids) zero64 ≡ negative (exact_sum points ids)
  unfolding signed_area2 exact_sum
  area_exact ids l t =
      let r = sum_means (cycle ids) zero64 (pos 0) 0 (cycle_good ids t) zero_means zero-le
      (le_trans (le_of_eq (zero-add _ ∙ length-along _ ids)) l) in
      half_negative (area_from points zero64 (cycle ids)) (exact_from points (pos 0) (cycle ids)) r.0 r.1
