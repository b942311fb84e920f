-- The brick's table gives what the two steps give, row by row.
use mathlib.Core.Path.{◌≡◌, refl, sym, ◌∙◌, ap, ap₂}
use mathlib.Core.Bool.{Bool, true, false, cond, ◌&&◌}
use mathlib.Core.List.{List, [], ◌∷◌}
use Prim.Native.Nat.{ℕ, ◌+◌, ◌*◌, ◌≤◌, ◌<◌, min}
use native.Mathlib.Omega.{arith}
use lib.Dec.{T, eqb, ltb, eqb→eq, ltb→lt}
use lib.ListN.{get_or, length, take}
use lib.Seq.{take_all}
use Rattle.base.specs.Kinds.{separator}
use Rattle.base.specs.Gather.{pick, digits, corners, undigit}
use Rattle.base.proofs.Picks.{length-pick, pick_at, within_default}
use Rattle.cuts.specs.Smallest.{smallest_pos, first_diagonal}
use Rattle.cuts.specs.Rows.{branch, renumberings, hex_rows, wedge_quads}
use Rattle.cuts.specs.Split.{quad, simplexes, hex_case, hex_cut, renumbered, wedge_cut}
use Rattle.cuts.specs.Table.{OneTable, hex_table, used, hex_place, table_cut}
use Rattle.cuts.specs.Inner.Strings.{hex_strings, turn_strings, quad_strings, wedge_strings, wedge_place}
use Rattle.cuts.proofs.Strings.{turn_string, quad_string, hex_string, pick-take}
use Rattle.cuts.proofs.Cuts.{length-corners, three_rows, wedge_row}
use Rattle.cuts.proofs.Laws.{and_left, and_right, below, below_at, all, eqs, eqs_eq}

-- the ids at corners that are read off a renumbering
pub pick-pick : (ids ps qs : List ℕ) → T (all (λ q. ltb q (length ps)) qs) → pick (pick ids ps) qs ≡ pick ids (pick ps qs)
unfolding pick
pick-pick ids ps [] h = refl
pick-pick ids ps (q ∷ qs) h =
    let in-ps : ℕ → Bool = λ q. ltb q (length ps) in
    let l = ltb→lt q (length ps) (and_left (in-ps q) (all in-ps qs) h) in
    let first : get_or (pick ids ps) q separator ≡ get_or ids (get_or ps q separator) separator =
    within_default (pick ids ps) q separator 0 (rw length-pick l) ∙ pick_at ids ps q l
    ∙ ap (λ (corner : ℕ). get_or ids corner separator) (within_default ps q 0 separator l) in
    ap₂ (λ (x : ℕ) (xs : List ℕ). x ∷ xs) first (pick-pick ids ps qs (and_right (in-ps q) (all in-ps qs) h))

rows_in : (case : ℕ) → T (all (λ q. ltb q 8) (corners 4 (branch hex_rows [] case)))
rows_in case =
    let h : min case 7 < 8 = omega arith in
    below_at 8 (λ k. all (λ q. ltb q 8) (corners 4 (get_or hex_rows k []))) tt (min case 7) h

second_few : (first : Bool) → cond first 0 1 ≤ 1
second_few true = omega arith
second_few false = omega arith

pub case_few : (cell : List ℕ) → hex_case cell < 8
case_few cell =
    omega (
      arith,
      second_few (first_diagonal (quad cell 4567)),
      second_few (first_diagonal (quad cell 1265)),
      second_few (first_diagonal (quad cell 2376)),
    )

-- the row at a place and a case, by the table and by the two steps
abbrev table_row : ℕ → ℕ → List ℕ
table_row place case = used (get_or hex_table (place * 8 + case) [])

abbrev two_steps : ℕ → ℕ → List ℕ
two_steps place case = pick (digits 8 (get_or renumberings place 0)) (corners 4 (branch hex_rows [] case))

abbrev row_test : ℕ → ℕ → Bool
row_test place case =
    eqs (corners 4 (table_row place case)) (two_steps place case)
    && eqb (length (table_row place case)) (length (branch hex_rows [] case))

same_row : (place case : ℕ) → place < 8 → case < 8 → T (row_test place case)
unfolding pick
same_row place case h k = below_at 8 (row_test place) (below_at 8 (λ place. below 8 (row_test place)) tt place h) case k

tested : (ids : List ℕ) → T (row_test (min (smallest_pos ids) 7) (hex_case (renumbered ids)))
tested ids = same_row (min (smallest_pos ids) 7) (hex_case (renumbered ids)) (omega arith) (case_few (renumbered ids))

pub place_few : (ids : List ℕ) → hex_place ids < 64
unfolding hex_place
place_few ids = omega (arith, case_few (renumbered ids))

-- the ids that the brick's row picks are those of the two steps
pub one_row_two_steps : (ids : List ℕ) → simplexes 4 (table_cut ids) ≡ simplexes 4 (hex_cut ids)
unfolding simplexes hex_place
one_row_two_steps ids =
    let place = min (smallest_pos ids) 7 in
    let case = hex_case (renumbered ids) in
    let row = corners 4 (branch hex_rows [] case) in
    ap (pick ids) (eqs_eq (corners 4 (table_row place case)) (two_steps place case)
    (and_left (eqs (corners 4 (table_row place case)) (two_steps place case)) (eqb (length (table_row place case)) (length (branch hex_rows [] case))) (tested ids)))
    ∙ sym (pick-pick ids (digits 8 (branch renumberings 0 (smallest_pos ids))) row (rows_in case))

pub one_row_as_many : (ids : List ℕ) → length (table_cut ids).rows ≡ length (hex_cut ids).rows
unfolding hex_place
one_row_as_many ids =
    let place = min (smallest_pos ids) 7 in
    let case = hex_case (renumbered ids) in
    eqb→eq (length (table_row place case)) (length (branch hex_rows [] case))
    (and_right (eqs (corners 4 (table_row place case)) (two_steps place case)) (eqb (length (table_row place case)) (length (branch hex_rows [] case))) (tested ids))

-- a brick renumbered by a string of the code
pub turned : (ids : List ℕ) (strings : List (List ℕ)) (place : ℕ) → strings ≡ turn_strings → place ≡ smallest_pos ids → place < 8
    → pick ids (undigit (get_or strings place [])) ≡ renumbered ids
turned ids strings place s e h =
    let k : place ≡ min (smallest_pos ids) 7 = omega arith in
    ap (λ (t : List (List ℕ)). pick ids (undigit (get_or t place []))) s
    ∙ ap (pick ids) (turn_string place h ∙ ap (λ (k : ℕ). digits 8 (get_or renumberings k 0)) k)

pub place_is : (ids : List ℕ) (place case : ℕ) → place ≡ smallest_pos ids → place < 8 → case ≡ hex_case (renumbered ids)
    → place * 8 + case ≡ hex_place ids
unfolding hex_place
place_is ids place case e h f =
    let k : place ≡ min (smallest_pos ids) 7 = omega arith in
    ap₂ (λ (k : ℕ) (c : ℕ). k * 8 + c) k f

-- a string of the code by which a brick is cut, and its number of tetrahedra
pub record RowIs (ids string : List ℕ) (count : ℕ) : Type 0 where
  pub counted : count ≡ length (hex_cut ids).rows
  pub picked : take (count * 4) (pick ids (undigit string)) ≡ simplexes 4 (hex_cut ids)

pub row_is : (ids string : List ℕ) (row count : ℕ) → row ≡ hex_place ids → string ≡ get_or hex_strings row []
    → count ≡ length (used (get_or hex_table row [])) → RowIs ids string count
unfolding simplexes
row_is ids string row count e s k =
    let few : row < 64 = rw e (place_few ids) in
    record {
      counted = k ∙ ap (λ (r : ℕ). length (used (get_or hex_table r []))) e ∙ one_row_as_many ids;
      picked = ap₂ (λ (n : ℕ) (s : List ℕ). take (n * 4) (pick ids (undigit s))) k s
          ∙ pick-take (length (used (get_or hex_table row [])) * 4) ids (undigit (get_or hex_strings row []))
          ∙ ap (pick ids) (hex_string row few ∙ ap (λ (r : ℕ). corners 4 (used (get_or hex_table r []))) e)
          ∙ one_row_two_steps ids;
    }

-- the same for a wedge
pub wedge-place_few : (ids : List ℕ) → wedge_place ids < 12
unfolding wedge_place
wedge-place_few ids = omega (arith, second_few (first_diagonal (quad ids (branch wedge_quads 0 (smallest_pos ids)))))

pub wedge-place_is : (ids : List ℕ) (strings : List (List ℕ)) (place : ℕ) (first : Bool) (second : ℕ)
    → strings ≡ quad_strings → place ≡ smallest_pos ids → place < 6
    → first ≡ first_diagonal (pick ids (undigit (get_or strings place []))) → second ≡ cond first 0 1
    → place * 2 + second ≡ wedge_place ids
unfolding wedge_place
wedge-place_is ids strings place first second s e h d k =
    let m : place ≡ min (smallest_pos ids) 5 = omega arith in
    let q : first ≡ first_diagonal (quad ids (branch wedge_quads 0 (smallest_pos ids))) =
    d ∙ ap (λ (t : List (List ℕ)). first_diagonal (pick ids (undigit (get_or t place [])))) s
    ∙ ap (λ (row : List ℕ). first_diagonal (pick ids row)) (quad_string place h ∙ ap (λ (k : ℕ). digits 4 (get_or wedge_quads k 0)) m) in
    ap₂ (λ (k : ℕ) (b : ℕ). k * 2 + b) m (k ∙ ap (λ (b : Bool). cond b 0 1) q)

pub wedge_picked : (ids string : List ℕ) (row : ℕ) → row ≡ wedge_place ids → string ≡ get_or wedge_strings row []
    → take 12 (pick ids (undigit string)) ≡ simplexes 4 (wedge_cut ids)
unfolding simplexes wedge_place
wedge_picked ids string row e s =
    let place = min (smallest_pos ids) 5 in
    let few : min (smallest_pos ids) 5 < 6 = omega arith in
    let is : undigit string ≡ corners 4 (wedge_cut ids).rows =
    ap undigit (s ∙ ap (λ (r : ℕ). get_or wedge_strings r []) e)
    ∙ wedge_row ids (min (smallest_pos ids) 5) (first_diagonal (quad ids (branch wedge_quads 0 (smallest_pos ids)))) refl
    (ap (λ (row : List ℕ). first_diagonal (pick ids row)) (quad_string (min (smallest_pos ids) 5) few)) in
    let long : length (pick ids (undigit string)) ≤ 12 =
    rw (is, length-pick ids (corners 4 (wedge_cut ids).rows), length-corners 4 (wedge_cut ids).rows, three_rows ids) (omega arith) in
    take_all 12 (pick ids (undigit string)) long ∙ ap (pick ids) is

pub one_table : OneTable
one_table = record { same = one_row_two_steps; as_many = one_row_as_many; cancels = refl }
