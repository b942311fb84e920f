-- How many rows a cut has, and which strings of the code they are.
use mathlib.Core.Path.{◌≡◌, refl, sym, ◌∙◌, ap, ap₂}
use mathlib.Core.Bool.{Bool, true, false, cond}
use mathlib.Core.List.{List, [], ◌∷◌}
use Prim.Native.Nat.{ℕ, zero, suc, ◌+◌, ◌*◌, ◌/◌, ◌%◌, ◌≤◌, ◌<◌, min}
use native.Mathlib.Nat.{zero-mul, suc-mul, add_comm, mul-le-mul}
use native.Mathlib.Omega.{arith}
use lib.Dec.{eqb, leb, eqb→eq, leb→le}
use lib.ListN.{length, get_or, take, length-append}
use Rattle.base.specs.Kinds.{nodes_of}
use Rattle.base.specs.Gather.{pick, digits, corners, undigit}
use Rattle.base.proofs.Picks.{length-pick}
use Rattle.cuts.specs.Smallest.{smallest_pos, first_diagonal}
use Rattle.cuts.specs.Rows.{branch, seg_rows, quad_rows, wedge_quads, wedge_first, wedge_second, hex_rows}
use Rattle.cuts.specs.Inner.Strings.{hex_strings, wedge_strings, quad_strings}
use Rattle.cuts.proofs.Strings.{quad_string, wedge_string, case_string, pick-take}
use Rattle.cuts.proofs.Laws.{below_at}
use Rattle.cuts.specs.Split.{Cut, quad, cut, split, split_kind, split_count, simplexes, wedge_cut, hex_case, renumbered, hex_cut}

pub length_digits : (n row : ℕ) → length (digits n row) ≡ n
length_digits zero row = refl
length_digits (suc n) row = omega (arith, length-append (digits n (row / 10)) (row % 10 ∷ []), length_digits n (row / 10))

pub length-corners : (n : ℕ) (rows : List ℕ) → length (corners n rows) ≡ length rows * n
length-corners n [] = sym (zero-mul n)
length-corners n (row ∷ rows) =
    length-append (digits n row) (corners n rows)
    ∙ ap₂ (λ (a b : ℕ). a + b) (length_digits n row) (length-corners n rows)
    ∙ add_comm n (length rows * n)
    ∙ sym (suc-mul (length rows) n)

pub length-simplexes : (n : ℕ) (c : Cut) → length (simplexes n c) ≡ length c.rows * n
unfolding simplexes
length-simplexes n c = length-pick c.ids (corners n c.rows) ∙ length-corners n c.rows

-- both of a wedge's tables have six places
either_branch : (b : Bool) (place : ℕ)
    → get_or (cond b wedge_first wedge_second) (min place 5) [] ≡ branch (cond b wedge_first wedge_second) [] place
either_branch true place = refl
either_branch false place = refl

-- the wedge's row, from the place of the smallest and the outcome of the search that is left
pub wedge_row : (ids : List ℕ) (place : ℕ) (b : Bool) → place ≡ min (smallest_pos ids) 5
    → first_diagonal (pick ids (undigit (get_or quad_strings place []))) ≡ b
    → undigit (get_or wedge_strings (place * 2 + cond b 0 1) []) ≡ corners 4 (wedge_cut ids).rows
wedge_row ids place b e d =
    let few : place < 6 = omega arith in
    wedge_string place few b
    ∙ ap (λ (b : Bool). corners 4 (get_or (cond b wedge_first wedge_second) place []))
    (sym d ∙ ap (λ (row : List ℕ). first_diagonal (pick ids row)) (quad_string place few))
    ∙ ap (λ (k : ℕ). corners 4 (get_or (cond (first_diagonal (quad ids (get_or wedge_quads k 0))) wedge_first wedge_second) k [])) e
    ∙ ap (corners 4) (either_branch (first_diagonal (quad ids (branch wedge_quads 0 (smallest_pos ids)))) (smallest_pos ids))

-- the brick's row, from its case and the number of tetrahedra of that case
pub hex_row_lem : (ids row : List ℕ) (case count : ℕ) → case ≡ hex_case (renumbered ids) → case < 8
    → count ≡ length (branch hex_rows [] case) → row ≡ get_or hex_strings case []
    → (take (count * 4) (undigit row) ≡ corners 4 (hex_cut ids).rows) × (count ≡ length (hex_cut ids).rows)
hex_row_lem ids row case count e few k r = (
  ap₂ (λ (k : ℕ) (r : List ℕ). take (k * 4) (undigit r)) k r ∙ case_string case few ∙ ap (λ (k : ℕ). corners 4 (branch hex_rows [] k)) e,
  k ∙ ap (λ (k : ℕ). length (branch hex_rows [] k)) e,
)

-- the ids that a string's first corners pick are a cut's simplexes where the corners are its rows'
pub picked : (c : Cut) (string : List ℕ) (count : ℕ) → take (count * 4) (undigit string) ≡ corners 4 c.rows
    → take (count * 4) (pick c.ids (undigit string)) ≡ simplexes 4 c
unfolding simplexes
picked c string count e = pick-take (count * 4) c.ids (undigit string) ∙ ap (pick c.ids) e

-- a wedge has three rows, a quad two, a segment one, and a brick at most six
pub three_rows : (ids : List ℕ) → length (wedge_cut ids).rows ≡ 3
three_rows ids = go (first_diagonal (quad ids (branch wedge_quads 0 (smallest_pos ids))))
  where
    place : ℕ
    place = min (smallest_pos ids) 5

    few : place < 6
    few = omega arith

    go : (b : Bool) → length (branch (cond b wedge_first wedge_second) [] (smallest_pos ids)) ≡ 3
    go true = eqb→eq _ 3 (below_at 6 (λ k. eqb (length (get_or wedge_first k [])) 3) tt place few)
    go false = eqb→eq _ 3 (below_at 6 (λ k. eqb (length (get_or wedge_second k [])) 3) tt place few)

pub two_rows : (b : Bool) → length (quad_rows b) ≡ 2
two_rows true = refl
two_rows false = refl

pub one_row : (b : Bool) → length (seg_rows b) ≡ 1
one_row true = refl
one_row false = refl

hex_most : (case : ℕ) → length (branch hex_rows [] case) ≤ 6
hex_most case =
    let h : min case 7 < 8 = omega arith in
    leb→le _ 6 (below_at 8 (λ k. leb (length (get_or hex_rows k [])) 6) tt (min case 7) h)

-- and at least five
pub hex_least : (ids : List ℕ) → 5 ≤ length (hex_cut ids).rows
hex_least ids =
    let h : min (hex_case (renumbered ids)) 7 < 8 = omega arith in
    leb→le 5 _ (below_at 8 (λ k. leb 5 (length (get_or hex_rows k []))) tt (min (hex_case (renumbered ids)) 7) h)

-- what holds of both outcomes of a test holds of its outcome
either : {A : Type 0} (P : A → Type 0) (b : Bool) {x y : A} → P x → P y → P (cond b x y)
either P true p q = p
either P false p q = q

pub rows_most : (kind : ℕ) (ids : List ℕ) → length (cut kind ids).rows ≤ 6
unfolding cut
rows_most kind ids =
    let few : Cut → Type 0 = λ c. length c.rows ≤ 6 in
    either few (leb 17 kind) (omega arith)
    (either few (leb 15 kind) (hex_most (hex_case (renumbered ids)))
    (either few (leb 13 kind) (omega (arith, three_rows ids))
    (either few (leb 11 kind) (omega arith)
    (either few (leb 8 kind) (omega (arith, two_rows (first_diagonal ids)))
    (either few (leb 5 kind) (omega arith)
    (either few (leb 2 kind) (omega (arith, one_row (eqb (smallest_pos ids) 0)))
    (either few (leb 1 kind) (omega arith) (omega arith))))))))

pub nodes_most : (kind : ℕ) → nodes_of (split_kind kind) ≤ 4
unfolding split_kind nodes_of
nodes_most kind =
    let few : ℕ → Type 0 = λ k. nodes_of k ≤ 4 in
    either few (leb 17 kind) (omega arith)
    (either few (leb 11 kind) (omega arith)
    (either few (leb 5 kind) (omega arith)
    (either few (leb 2 kind) (omega arith)
    (either few (leb 1 kind) (omega arith) (omega arith)))))

-- the number of simplexes is tied to what is written: so many of so many nodes each
pub split-length : (kind : ℕ) (ids : List ℕ) → length (split kind ids) ≡ split_count kind ids * nodes_of (split_kind kind)
unfolding split split_count
split-length kind ids = length-simplexes (nodes_of (split_kind kind)) (cut kind ids)

-- and 24 ids hold any split
pub split_most : (kind : ℕ) (ids : List ℕ) → length (split kind ids) ≤ 24
unfolding split_count
split_most kind ids =
    rw (split-length kind ids) (mul-le-mul (rows_most kind ids) (nodes_most kind))
