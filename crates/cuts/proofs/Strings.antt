-- The strings of digits in the code are the rows of the specs, each table by one computed test.
use mathlib.Core.Path.{◌≡◌, refl}
use mathlib.Core.Bool.{Bool, true, false, cond, ◌&&◌}
use mathlib.Core.List.{List, [], ◌∷◌}
use Prim.Native.Nat.{ℕ, zero, suc, ◌+◌, ◌*◌, ◌%◌, ◌<◌}
use lib.Dec.{T, eqb, leb, ltb, eqb→eq, leb→le, ltb→lt}
use lib.ListN.{length, get_or, take}
use Rattle.base.specs.Gather.{pick, digits, corners, undigit}
use Rattle.cuts.specs.Rows.{branch, wedge_quads, wedge_first, wedge_second, renumberings, hex_rows}
use Rattle.cuts.specs.Table.{hex_table, used}
use Rattle.cuts.specs.Inner.Strings.{Within, hex_strings, turn_strings, wedge_strings, quad_strings}
use Rattle.cuts.proofs.Laws.{and_left, and_right, below_at, all, all_at, eqs, eqs_eq}

pub quad_string : (k : ℕ) → k < 6 → undigit (get_or quad_strings k []) ≡ digits 4 (get_or wedge_quads k 0)
unfolding quad_strings
quad_string k h =
    eqs_eq _ _ (below_at 6 (λ k. eqs (undigit (get_or quad_strings k [])) (digits 4 (get_or wedge_quads k 0))) tt k h)

pub wedge_string : (k : ℕ) → k < 6 → (b : Bool)
    → undigit (get_or wedge_strings (k * 2 + cond b 0 1) []) ≡ corners 4 (get_or (cond b wedge_first wedge_second) k [])
unfolding wedge_strings
wedge_string k h true =
    eqs_eq _ _ (below_at 6 (λ k. eqs (undigit (get_or wedge_strings (k * 2 + 0) [])) (corners 4 (get_or wedge_first k []))) tt k h)
wedge_string k h false =
    eqs_eq _ _ (below_at 6 (λ k. eqs (undigit (get_or wedge_strings (k * 2 + 1) [])) (corners 4 (get_or wedge_second k []))) tt k h)

pub turn_string : (k : ℕ) → k < 8 → undigit (get_or turn_strings k []) ≡ digits 8 (get_or renumberings k 0)
unfolding turn_strings
turn_string k h =
    eqs_eq _ _ (below_at 8 (λ k. eqs (undigit (get_or turn_strings k [])) (digits 8 (get_or renumberings k 0))) tt k h)

-- the tetrahedra of a row of 24 end where the filler begins; the first eight rows are those of a brick that is renumbered
pub case_string : (k : ℕ) → k < 8
    → take (length (branch hex_rows [] k) * 4) (undigit (get_or hex_strings k [])) ≡ corners 4 (branch hex_rows [] k)
unfolding hex_strings
case_string k h =
    eqs_eq _ _
    (below_at 8 (λ k. eqs (take (length (branch hex_rows [] k) * 4) (undigit (get_or hex_strings k []))) (corners 4 (branch hex_rows [] k))) tt k h)

pub hex_string : (k : ℕ) → k < 64
    → take (length (used (get_or hex_table k [])) * 4) (undigit (get_or hex_strings k [])) ≡ corners 4 (used (get_or hex_table k []))
unfolding hex_strings
hex_string k h =
    eqs_eq _ _
    (below_at 64 (λ k. eqs (take (length (used (get_or hex_table k [])) * 4) (undigit (get_or hex_strings k []))) (corners 4 (used (get_or hex_table k [])))) tt k h)

-- a row of the table has as many tetrahedra as its case
pub row_case : (k : ℕ) → k < 64 → length (used (get_or hex_table k [])) ≡ length (branch hex_rows [] (k % 8))
row_case k h =
    eqb→eq _ _ (below_at 64 (λ k. eqb (length (used (get_or hex_table k []))) (length (branch hex_rows [] (k % 8)))) tt k h)

-- every digit of a table is one of n corners
abbrev in_range : ℕ → List ℕ → Bool
in_range n string = all (λ digit. leb 48 digit && ltb digit (48 + n)) string

in_range_lem : (n : ℕ) (string : List ℕ) → T (in_range n string) → Within n string
in_range_lem n string h i l =
    let d = get_or string i 0 in
    let t = all_at (λ digit. leb 48 digit && ltb digit (48 + n)) string h i l in
    (leb→le 48 d (and_left (leb 48 d) (ltb d (48 + n)) t), ltb→lt d (48 + n) (and_right (leb 48 d) (ltb d (48 + n)) t))

pub quad_within : (k : ℕ) → k < 6 → Within 6 (get_or quad_strings k [])
unfolding quad_strings
quad_within k h = in_range_lem 6 (get_or quad_strings k []) (below_at 6 (λ k. in_range 6 (get_or quad_strings k [])) tt k h)

pub wedge_within : (k : ℕ) → k < 12 → Within 6 (get_or wedge_strings k [])
unfolding wedge_strings
wedge_within k h = in_range_lem 6 (get_or wedge_strings k []) (below_at 12 (λ k. in_range 6 (get_or wedge_strings k [])) tt k h)

pub turn_within : (k : ℕ) → k < 8 → Within 8 (get_or turn_strings k [])
unfolding turn_strings
turn_within k h = in_range_lem 8 (get_or turn_strings k []) (below_at 8 (λ k. in_range 8 (get_or turn_strings k [])) tt k h)

pub hex_within : (k : ℕ) → k < 64 → Within 8 (get_or hex_strings k [])
unfolding hex_strings
hex_within k h = in_range_lem 8 (get_or hex_strings k []) (below_at 64 (λ k. in_range 8 (get_or hex_strings k [])) tt k h)

-- a part of what is picked is picked by a part of the row
pub pick-take : (n : ℕ) (ids row : List ℕ) → take n (pick ids row) ≡ pick ids (take n row)
unfolding pick
pick-take zero ids row = refl
pick-take (suc n) ids [] = refl
pick-take (suc n) ids (corner ∷ row) = rw (pick-take n ids row)
