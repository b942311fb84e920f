-- The claims of specs/Claims.antt: the fourth node is there, and 16 is never given.
use Prim.Native.Nat.{ℕ, suc, zero, ◌+◌, ◌≤◌, ◌<◌}
use mathlib.Core.Path.{◌≡◌, refl, sym, ◌∙◌}
use mathlib.Core.List.{List, [], ◌∷◌}
use mathlib.Core.Bool.{Bool, true, false, cond, not, ◌&&◌, ◌||◌, false≢true}
use native.Mathlib.Omega.{arith}
use lib.ListN.{length, get_or}
use lib.Dec.{eqb, ltb}
use borrow.Author.Tests.{eqb-true}
use Rattle.base.specs.Checks.{element_fits, element_refusal, input_refusal, strays}
use Rattle.base.specs.Kinds.{separator, element_limit, is_kind}
use Rattle.base.specs.Outcome.{Outcome, decide, settle, settle_one}
use Rattle.base.specs.declared.refusals.Answer.{Answer}
use Rattle.base.proofs.Tests.{and-true}
use Rattle.faces.specs.Edges.{closed}
use Rattle.faces.specs.Faces.{faces}
use Rattle.shapes.specs.Brick.{brick, lacks_one, opposite, sides}
use Rattle.shapes.specs.Cells.{Cell, cell}
use Rattle.shapes.specs.Seek.{nth}
use Rattle.shapes.specs.Tet.{in_triangle, fourth}
use Rattle.shapes.specs.Wedge.{after, place_in_second, runs_in, wedge}
use Rattle.recognise.specs.Claims.{fourth_or16, tet_or16, closed_triangles, FourthThere, NeverSixteen}
use Rattle.recognise.specs.FromPoly.{from_poly, plain_kind, recognised}
use Rattle.recognise.specs.Recognise.{from_faces, mixed, nodes_in, other_length, regular, tally}
use Rattle.recognise.proofs.Nodes.{tally_most}
use Rattle.recognise.proofs.Never.{Of, is_a, is_b, is_c, four, never}

one_of : (a b c x : ℕ) → in_triangle a b c x ≡ true → Of a b c x
one_of a b c x e = go (eqb x a) (eqb x b) (eqb x c) refl refl refl e
  where
    go : (p q r : Bool) → eqb x a ≡ p → eqb x b ≡ q → eqb x c ≡ r → (p || (q || r)) ≡ true → Of a b c x
    go true q r u v w t = rw (eqb-true x a u) is_a
    go false true r u v w t = rw (eqb-true x b v) is_b
    go false false true u v w t = rw (eqb-true x c w) is_c
    go false false false u v w t = absurd (false≢true t)

-- every node of a list is a, b or c
abbrev AllOf : ℕ → ℕ → ℕ → List ℕ → Type 0
AllOf a b c nodes = (i : ℕ) → i < length nodes → Of a b c (get_or nodes i separator)

-- where some node is none of them, the two rules agree
found : (a b c : ℕ) (nodes : List ℕ) → (AllOf a b c nodes → ⊥)
    → fourth_or16 a b c nodes ≡ cell 11 (a ∷ b ∷ c ∷ fourth a b c nodes ∷ [])
unfolding fourth_or16 fourth
found a b c [] h = absurd (h (λ i l. absurd (omega arith)))
found a b c (x ∷ nodes) h = go (in_triangle a b c x) refl (found a b c nodes)
  where
    onto : Of a b c x → AllOf a b c nodes → AllOf a b c (x ∷ nodes)
    onto o all zero l = o
    onto o all (suc i) l = all i (omega arith)

    go : (s : Bool) → in_triangle a b c x ≡ s
        → ((AllOf a b c nodes → ⊥) → fourth_or16 a b c nodes ≡ cell 11 (a ∷ b ∷ c ∷ fourth a b c nodes ∷ []))
        → cond s (fourth_or16 a b c nodes) (cell 11 (a ∷ b ∷ c ∷ x ∷ [])) ≡ cell 11 (a ∷ b ∷ c ∷ cond s (fourth a b c nodes) x ∷ [])
    go true e later = later (λ all. h (onto (one_of a b c x e) all))
    go false e later = refl

-- where as many faces have n nodes as there are faces, each has
tally_all : (n : ℕ) (f : List ℕ) (fs : List (List ℕ)) → tally n (f ∷ fs) ≡ suc (length fs)
    → (length f ≡ n) × (tally n fs ≡ length fs)
unfolding tally
tally_all n f fs h = go (eqb (length f) n) refl h (tally_most n fs)
  where
    go : (s : Bool) → eqb (length f) n ≡ s → cond s 1 0 + tally n fs ≡ suc (length fs) → tally n fs ≤ length fs
        → (length f ≡ n) × (tally n fs ≡ length fs)
    go true e t m = (eqb-true (length f) n e, omega arith)
    go false e t m = absurd (omega arith)

triple : (P : List ℕ → Type 0) → ((x y z : ℕ) → P (x ∷ y ∷ z ∷ [])) → (f : List ℕ) → length f ≡ 3 → P f
triple P g [] e = absurd (omega arith)
triple P g (x ∷ []) e = absurd (omega arith)
triple P g (x ∷ y ∷ []) e = absurd (omega arith)
triple P g (x ∷ y ∷ z ∷ []) e = g x y z
triple P g (x ∷ y ∷ z ∷ w ∷ r) e = absurd (omega arith)

-- four triangles, by their twelve nodes
by_four : (P : List (List ℕ) → Type 0) → ((a b c p q r s t u x y z : ℕ) → P (four a b c p q r s t u x y z))
    → (fs : List (List ℕ)) → length fs ≡ 4 → tally 3 fs ≡ length fs → P fs
by_four P g [] e h = absurd (omega arith)
by_four P g (f ∷ []) e h = absurd (omega arith)
by_four P g (f ∷ f₂ ∷ []) e h = absurd (omega arith)
by_four P g (f ∷ f₂ ∷ f₃ ∷ []) e h = absurd (omega arith)
by_four P g (f ∷ f₂ ∷ f₃ ∷ f₄ ∷ []) e h =
    let one = tally_all 3 f (f₂ ∷ f₃ ∷ f₄ ∷ []) h in
    let two = tally_all 3 f₂ (f₃ ∷ f₄ ∷ []) one.1 in
    let three = tally_all 3 f₃ (f₄ ∷ []) two.1 in
    let last = tally_all 3 f₄ [] three.1 in
    triple (λ v. P (v ∷ f₂ ∷ f₃ ∷ f₄ ∷ [])) (λ a b c. triple (λ v. P ((a ∷ b ∷ c ∷ []) ∷ v ∷ f₃ ∷ f₄ ∷ []))
    (λ p q r. triple (λ v. P ((a ∷ b ∷ c ∷ []) ∷ (p ∷ q ∷ r ∷ []) ∷ v ∷ f₄ ∷ []))
    (λ s t u. triple (λ v. P ((a ∷ b ∷ c ∷ []) ∷ (p ∷ q ∷ r ∷ []) ∷ (s ∷ t ∷ u ∷ []) ∷ v ∷ [])) (λ x y z. g a b c p q r s t u x y z)
    f₄ last.0) f₃ three.0) f₂ two.0) f one.0
by_four P g (f ∷ f₂ ∷ f₃ ∷ f₄ ∷ f₅ ∷ fs) e h = absurd (omega arith)

-- closed triangles: the rule is reached, and the fourth node is there
four_there : (a b c p q r s t u x y z : ℕ) → closed (four a b c p q r s t u x y z) ≡ true
    → tet_or16 (nodes_in 3 (four a b c p q r s t u x y z)) ≡ from_faces (four a b c p q r s t u x y z)
unfolding nodes_in from_faces other_length regular tally
four_there a b c p q r s t u x y z k =
    let later : List ℕ = p ∷ q ∷ r ∷ s ∷ t ∷ u ∷ x ∷ y ∷ z ∷ [] in
    let some : AllOf a b c later → ⊥ =
    λ all. never a b c p q r s t u x y z (all 0 (omega arith)) (all 1 (omega arith)) (all 2 (omega arith)) (all 3 (omega arith)) (all 4 (omega arith)) (all 5 (omega arith)) k in
    found a b c later some ∙ rw k

pub fourth_there : FourthThere
fourth_there fs = go (closed_triangles fs) refl
  where
    go : (s : Bool) → closed_triangles fs ≡ s → cond s (tet_or16 (nodes_in 3 fs)) (from_faces fs) ≡ from_faces fs
    go true e =
        let l = and-true (eqb (length fs) 4) (eqb (tally 3 fs) 4 && closed fs) e in
        let t = and-true (eqb (tally 3 fs) 4) (closed fs) l.1 in
        let four : length fs ≡ 4 = eqb-true (length fs) 4 l.0 in
        by_four (λ gs. closed gs ≡ true → tet_or16 (nodes_in 3 gs) ≡ from_faces gs) four_there fs four
        (eqb-true (tally 3 fs) 4 t.0 ∙ sym four) t.1
    go false e = refl

-- where neither arm of a test is refused with 16, what the test picks is not
if_free : {A : Type 0} (why : A → ℕ) (s : Bool) (x y : A) → (why x ≡ 16 → ⊥) → (why y ≡ 16 → ⊥) → why (cond s x y) ≡ 16 → ⊥
if_free why true x y f g = f
if_free why false x y f g = g

abbrev Free : Cell → Type 0
Free c = c.why ≡ 16 → ⊥

cell_if : (s : Bool) (x y : Cell) → Free x → Free y → Free (cond s x y)
cell_if s x y f g = if_free (λ c. c.why) s x y f g

brick_free : (quads : List ℕ) → Free (brick quads)
unfolding brick
brick_free quads =
    cell_if (eqb (opposite quads) 6) _ _ (λ e. omega arith)
    (cell_if (lacks_one (sides quads (opposite quads))) _ _ (λ e. omega arith) (λ e. omega arith))

wedge_free : (tris quads : List ℕ) → Free (wedge tris quads)
unfolding wedge
wedge_free tris quads =
    let k = runs_in quads (nth tris 1) (nth tris 0) in
    cell_if (eqb k 3) _ _ (λ e. omega arith)
    (cell_if (eqb (place_in_second tris (after quads k (nth tris 1) (nth tris 0))) 3) _ _ (λ e. omega arith) (λ e. omega arith))

regular_free : (fs : List (List ℕ)) → Free (regular fs)
unfolding regular
regular_free fs =
    cell_if (closed fs) _ _
    (cell_if (eqb (tally 3 fs) 4) _ _ (λ e. omega arith)
    (cell_if (eqb (tally 4 fs) 6) _ _ (brick_free (nodes_in 4 fs)) (λ e. omega arith)))
    (λ e. omega arith)

mixed_free : (fs : List (List ℕ)) → Free (mixed fs)
unfolding mixed
mixed_free fs =
    cell_if (eqb (tally 3 fs) 2 && eqb (tally 4 fs) 3) _ _ (wedge_free (nodes_in 3 fs) (nodes_in 4 fs)) (λ e. omega arith)

faces_free : (fs : List (List ℕ)) → Free (from_faces fs)
unfolding from_faces
faces_free fs =
    let a = other_length 0 0 fs in
    let b = other_length a a fs in
    cell_if (eqb a 0) _ _ (λ e. omega arith)
    (cell_if (eqb b 0) _ _ (regular_free fs)
    (cell_if (eqb (other_length a b fs) 0) _ _ (mixed_free fs) (λ e. omega arith)))

recognised_free : (kind : ℕ) (ids : List ℕ) → Free (recognised kind ids)
unfolding recognised
recognised_free kind ids =
    cell_if (eqb kind 19) _ _ (faces_free (faces ids))
    (cell_if (eqb (plain_kind kind (length ids)) 0) _ _ (λ e. omega arith) (λ e. omega arith))

input_free : (kind : ℕ) (ids : List ℕ) → element_refusal kind ids ≡ 16 → ⊥
unfolding element_refusal input_refusal
input_free kind ids =
    if_free (λ n. n) (not (is_kind kind)) _ _ (λ e. omega arith)
    (if_free (λ n. n) (ltb element_limit (length ids)) _ _ (λ e. omega arith)
    (if_free (λ n. n) (not (element_fits kind (length ids))) _ _ (λ e. omega arith)
    (if_free (λ n. n) (strays kind ids) _ _ (λ e. omega arith) (λ e. omega arith))))

settle_free : (why kind count : ℕ) (xs out : List ℕ) → (why ≡ 16 → ⊥) → (settle why kind count xs out).answer.refusal ≡ 16 → ⊥
unfolding settle settle_one decide
settle_free why kind count xs out f =
    let short : ◌≡◌ {A = ℕ} 7 16 → ⊥ = λ e. omega arith in
    let given : ◌≡◌ {A = ℕ} 0 16 → ⊥ = λ e. omega arith in
    if_free (λ (o : Outcome Answer (List ℕ)). o.answer.refusal) (eqb why 0) _ _
    (if_free (λ (o : Outcome Answer (List ℕ)). o.answer.refusal) (ltb (length out) (length xs)) _ _ short given) f

pub never_sixteen : NeverSixteen
unfolding from_poly
never_sixteen kind ids out =
    settle_free _ _ _ _ out
    (if_free (λ n. n) (eqb (element_refusal kind ids) 0) _ _ (recognised_free kind ids) (input_free kind ids))
