-- A block may be cut between any two cells: its cells are those of the parts, and what refuses no whole refuses no part.
use mathlib.Core.Path.{◌≡◌, refl, sym, ◌∙◌, ap, ap₂}
use mathlib.Core.Bool.{Bool, true, false, not, ◌&&◌, ◌||◌, false≢true}
use mathlib.Core.List.{List, [], ◌∷◌, ◌++◌}
use Prim.Native.Nat.{ℕ, zero, suc, ◌+◌, ◌*◌, ◌/◌, ◌%◌, ◌≤◌, ◌<◌}
use native.Mathlib.Nat.{div-add-mod', suc-mul, mul-add-div_right, mul-add-mod_self_right}
use native.Mathlib.Omega.{arith}
use lib.Dec.{eqb}
use lib.ListN.{length, drop, length-append, length-drop}
use lib.Seq.{drop_at, take-append-le, drop-append-le}
use borrow.Author.Tests.{eq-eqb, ne_eqb, le-ltb}
use Rattle.base.specs.Solids.{is_solid}
use Rattle.base.specs.Kinds.{nodes_of, separator, is_kind}
use Rattle.base.specs.Checks.{block_fits, block_refusal, input_refusal, holds_separator, strays}
use Rattle.base.specs.Outcome.{overwrite, given}
use Rattle.base.proofs.Accepted.{block_accepted, block_nodes}
use Rattle.base.proofs.Lists.{overwrite_front, overwrite_rest, overwrite_more}
use Rattle.base.proofs.Tests.{or_assoc}
use Rattle.base.proofs.Settle.{settle_gives}
use Rattle.cuts.specs.Demand3.{Cell, splits}
use Rattle.blocks.specs.Blocks.{cells, cells_of, counts, split_block, split_block_refusal}
use Rattle.blocks.specs.Promises.{CutAnywhere}
use Rattle.blocks.proofs.Parts.{taken, solid_is, four_each, cells-append, splits-append, counts-append}
use Rattle.blocks.proofs.Promised.{done, block_is}

-- the first cells do not depend on what follows them
cells_front : (kind a : ℕ) (xs ys : List ℕ) → a * nodes_of kind ≤ length xs → cells kind a (xs ++ ys) ≡ cells kind a xs
unfolding cells
cells_front kind zero xs ys h = refl
cells_front kind (suc a) xs ys h =
    let n = nodes_of kind in
    let l : n ≤ length xs = omega (arith, suc-mul a n) in
    let rest : a * n ≤ length (drop n xs) = omega (arith, suc-mul a n, length-drop n xs) in
    rw (take-append-le n xs ys l, drop-append-le n xs ys l, cells_front kind a (drop n xs) ys rest)

module _ (kind : ℕ) (xs ys : List ℕ) (pos : 0 < nodes_of kind) (whole : length xs % nodes_of kind ≡ 0) where
  -- xs is a whole number of cells
  front : length xs ≡ length xs / nodes_of kind * nodes_of kind
  front = omega (arith, div-add-mod' (length xs) (nodes_of kind))

  pub cells_of_both : cells_of kind (xs ++ ys) ≡ cells_of kind xs ++ cells_of kind ys
  cells_of_both =
      let n = nodes_of kind in
      let a = length xs / n in
      let e : length (xs ++ ys) / n ≡ a + length ys / n =
      ap (λ (k : ℕ). k / n) (length-append xs ys ∙ ap (λ (k : ℕ). k + length ys) front) ∙ mul-add-div_right pos a (length ys) in
      ap (λ (k : ℕ). cells kind k (xs ++ ys)) e
      ∙ cells-append kind a (length ys / n) (xs ++ ys)
      ∙ ap₂ (λ (cs : List Cell) (zs : List ℕ). cs ++ cells kind (length ys / n) zs)
      (cells_front kind a xs ys (omega (arith, front)))
      (drop_at xs ys (a * n) front)

  rest_whole : length (xs ++ ys) % nodes_of kind ≡ 0 → length ys % nodes_of kind ≡ 0
  rest_whole h =
      let n = nodes_of kind in
      sym (mul-add-mod_self_right (length xs / n) n (length ys))
      ∙ ap (λ (k : ℕ). k % n) (ap (λ (k : ℕ). k + length ys) (sym front) ∙ sym (length-append xs ys)) ∙ h

holds_both : (xs ys : List ℕ) → holds_separator (xs ++ ys) ≡ (holds_separator xs || holds_separator ys)
unfolding holds_separator
holds_both [] ys = refl
holds_both (x ∷ xs) ys =
    ap (λ (b : Bool). eqb x separator || b) (holds_both xs ys)
    ∙ sym (or_assoc (eqb x separator) (holds_separator xs) (holds_separator ys))

-- what strays in a part strays in the whole
strays-part : (a b c : Bool) → (a && (b || c)) ≡ false → ((a && b) ≡ false) × ((a && c) ≡ false)
strays-part true true c h = absurd (false≢true (sym h))
strays-part true false c h = (refl, h)
strays-part false b c h = (refl, refl)

-- a block of whole cells without a separator is not refused
taken_part : (kind : ℕ) (ids : List ℕ) → is_kind kind ≡ true → is_solid kind ≡ true → length ids ≤ 65536
    → length ids % nodes_of kind ≡ 0 → strays kind ids ≡ false → split_block_refusal kind ids ≡ 0
unfolding split_block_refusal block_refusal input_refusal block_fits
taken_part kind ids k s l m c =
    let n : (nodes_of kind ≡ 0 → ⊥) = λ e. (let h = (solid_is kind s).least in omega (arith, e)) in
    simp (k, le-ltb 65536 (length ids) l, ne_eqb (nodes_of kind) 0 n, eq-eqb (length ids % nodes_of kind) 0 m, c, s)

-- so neither part is
parts_taken : (kind : ℕ) (xs ys : List ℕ) → split_block_refusal kind (xs ++ ys) ≡ 0 → length xs % nodes_of kind ≡ 0
    → (split_block_refusal kind xs ≡ 0) × (split_block_refusal kind ys ≡ 0)
unfolding strays
parts_taken kind xs ys h whole =
    let t = taken kind (xs ++ ys) h in
    let s = solid_is kind t.fills in
    let a = block_accepted kind (xs ++ ys) t.passes in
    let n : (nodes_of kind ≡ 0 → ⊥) = λ e. (let l = s.least in omega (arith, e)) in
    let apart = strays-part (not (eqb kind 19)) (holds_separator xs) (holds_separator ys) (rw (holds_both xs ys) at a.clean) in
    let long = length-append xs ys in
    let few = t.few in (
      taken_part kind xs a.known t.fills (omega arith) whole apart.0,
      taken_part kind ys a.known t.fills (omega arith)
          (rest_whole kind xs ys (omega (arith, s.least)) whole (block_nodes kind (xs ++ ys) t.passes n)) apart.1,
    )

-- a block with room, that nothing refuses
block_gives : (kind : ℕ) (ids out : List ℕ) → split_block_refusal kind ids ≡ 0 → length (splits (cells_of kind ids)) ≤ length out
    → split_block kind ids out ≡ record { answer = given 11 (counts (cells_of kind ids)); lent = overwrite (splits (cells_of kind ids)) out }
unfolding split_block
block_gives kind ids out h l = settle_gives _ _ _ _ _ h l

pub cut_anywhere : CutAnywhere
cut_anywhere kind xs ys out ok whole =
    let all = done kind (xs ++ ys) out ok in
    let t = taken kind (xs ++ ys) all.none in
    let s = solid_is kind t.fills in
    let X = splits (cells_of kind xs) in
    let Y = splits (cells_of kind ys) in
    let both = cells_of_both kind xs ys (omega (arith, s.least)) whole in
    let e : splits (cells_of kind (xs ++ ys)) ≡ X ++ Y = ap splits both ∙ splits-append (cells_of kind xs) (cells_of kind ys) in
    let r = parts_taken kind xs ys all.none whole in
    let room : length X + length Y ≤ length out = omega (arith, all.fits, ap length e, length-append X Y) in
    let first-is = block_gives kind xs out r.0 (omega arith) in
    let at : counts (cells_of kind xs) * 4 ≡ length X = sym (four_each kind s.tets _ xs) in
    let second_is = block_gives kind ys (drop (length X) out) r.1 (omega (arith, length-drop (length X) out)) in
    record {
      first = rw first-is;
      second = rw (first-is, at, overwrite_rest X out, second_is);
      counted = rw (block_is kind (xs ++ ys) out ok, first-is, at, overwrite_rest X out, second_is)
          (ap counts both ∙ counts-append (cells_of kind xs) (cells_of kind ys));
      written = rw (block_is kind (xs ++ ys) out ok, first-is, at, overwrite_rest X out, second_is, overwrite_front X out, e)
          (sym (rw (overwrite_front X out, overwrite_rest X out) at (overwrite_more X Y out)));
    }
