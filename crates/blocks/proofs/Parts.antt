-- A block's cells one after another: what the first i come to, and what the next one adds.
use mathlib.Core.Path.{◌≡◌, refl, sym, ◌∙◌, ap}
use mathlib.Core.Bool.{Bool, true, false, cond, ◌||◌, false≢true}
use mathlib.Core.List.{List, [], ◌∷◌, ◌++◌, append_assoc, append-nil}
use Prim.Native.Nat.{ℕ, zero, suc, ◌+◌, ◌*◌, ◌/◌, ◌≤◌, ◌<◌}
use native.Mathlib.Nat.{zero-add, suc-add, zero-mul, suc-mul, add_comm, div-add-mod'}
use native.Mathlib.Numerals.{add-one}
use native.Mathlib.Omega.{arith}
use lib.Dec.{eqb}
use lib.ListN.{length, take, drop, get_or, length-append, take-append-drop}
use lib.Seq.{drop-drop, take-suc}
use borrow.Author.Tests.{eqb-true, eqb-false}
use Rattle.base.specs.Solids.{is_solid}
use Rattle.base.specs.Gather.{pick}
use Rattle.base.specs.Kinds.{nodes_of}
use Rattle.base.specs.Checks.{block_refusal}
use Rattle.base.proofs.Accepted.{block_accepted}
use Rattle.cuts.specs.Split.{cut, hex_cut, simplexes, split, split_count, split_kind, wedge_cut}
use Rattle.cuts.specs.Demand3.{Cell, splits}
use Rattle.cuts.proofs.Cuts.{split-length, three_rows, rows_most, hex_least}
use Rattle.std.specs.Simd.{first_chunks}
use Rattle.blocks.specs.Blocks.{cells, counts, split_block_refusal}
use Rattle.blocks.specs.Inner.Filled.{cells_by}

pub splits-append : (cs ds : List Cell) → splits (cs ++ ds) ≡ splits cs ++ splits ds
splits-append [] ds = refl
splits-append (c ∷ cs) ds =
    ap (λ (xs : List ℕ). split c.kind c.ids ++ xs) (splits-append cs ds)
    ∙ sym (append_assoc (split c.kind c.ids) (splits cs) (splits ds))

pub counts-append : (cs ds : List Cell) → counts (cs ++ ds) ≡ counts cs + counts ds
unfolding counts
counts-append [] ds = sym (zero-add (counts ds))
counts-append (c ∷ cs) ds = omega (arith, counts-append cs ds)

-- the kinds that fill space have 4 to 8 nodes, and fall into tetrahedra
pub record Solid (kind : ℕ) : Type 0 where
  pub least : 4 ≤ nodes_of kind
  pub most : nodes_of kind ≤ 8
  pub tets : nodes_of (split_kind kind) ≡ 4

pub solid_is : (kind : ℕ) → is_solid kind ≡ true → Solid kind
unfolding nodes_of split_kind
solid_is kind h = go (eqb kind 11) (eqb kind 13) (eqb kind 15) refl refl refl h
  where
    go : (x y z : Bool) → eqb kind 11 ≡ x → eqb kind 13 ≡ y → eqb kind 15 ≡ z → (x || (y || z)) ≡ true → Solid kind
    go true y z e f g h = rw (eqb-true kind 11 e) (record { least = omega arith; most = omega arith; tets = refl })
    go false true z e f g h = rw (eqb-true kind 13 f) (record { least = omega arith; most = omega arith; tets = refl })
    go false false true e f g h = rw (eqb-true kind 15 g) (record { least = omega arith; most = omega arith; tets = refl })
    go false false false e f g h = absurd (false≢true h)

module _ (kind : ℕ) where
  pub cells-append : (i k : ℕ) (ids : List ℕ) → cells kind (i + k) ids ≡ cells kind i ids ++ cells kind k (drop (i * nodes_of kind) ids)
  unfolding cells
  cells-append zero k ids = rw (zero-add k, zero-mul (nodes_of kind))
  cells-append (suc i) k ids =
      let n = nodes_of kind in
      rw (suc-add i k)
      (ap (λ (cs : List Cell). record { kind = kind; ids = take n ids } ∷ cs)
      (cells-append i k (drop n ids)
      ∙ ap (λ (xs : List ℕ). cells kind i (drop n ids) ++ cells kind k xs)
      (drop-drop (i * n) n ids ∙ ap (λ (m : ℕ). drop m ids) (add_comm n (i * n) ∙ sym (suc-mul i n)))))

  -- a block's cells are its chunks
  pub by_chunks : (n : ℕ) (ids : List ℕ) → cells kind n ids ≡ cells_by kind (first_chunks (nodes_of kind) n ids)
  unfolding cells cells_by
  by_chunks zero ids = refl
  by_chunks (suc n) ids =
      ap (λ (cs : List Cell). record { kind = kind; ids = take (nodes_of kind) ids } ∷ cs) (by_chunks n (drop (nodes_of kind) ids))

  by_append : (xs ys : List (List ℕ)) → cells_by kind (xs ++ ys) ≡ cells_by kind xs ++ cells_by kind ys
  unfolding cells_by
  by_append [] ys = refl
  by_append (x ∷ xs) ys = ap (λ (cs : List Cell). record { kind = kind; ids = x } ∷ cs) (by_append xs ys)

  module _ (bs : List (List ℕ)) where
    one_more : (i : ℕ) → i < length bs
        → cells_by kind (take (i + 1) bs) ≡ cells_by kind (take i bs) ++ (record { kind = kind; ids = get_or bs i [] } ∷ [])
    unfolding cells_by
    one_more i h = rw (add-one, take-suc bs i []) (by_append (take i bs) (get_or bs i [] ∷ []))

    -- the next cell's tetrahedra stand behind those of the first i
    pub splits_more : (i : ℕ) → i < length bs
        → splits (cells_by kind (take (i + 1) bs)) ≡ splits (cells_by kind (take i bs)) ++ split kind (get_or bs i [])
    splits_more i h =
        ap splits (one_more i h) ∙ splits-append (cells_by kind (take i bs)) _
        ∙ ap (λ (xs : List ℕ). splits (cells_by kind (take i bs)) ++ xs) (append-nil (split kind (get_or bs i [])))

    pub counts_more : (i : ℕ) → i < length bs
        → counts (cells_by kind (take (i + 1) bs)) ≡ counts (cells_by kind (take i bs)) + split_count kind (get_or bs i [])
    unfolding counts
    counts_more i h = ap counts (one_more i h) ∙ counts-append (cells_by kind (take i bs)) _ ∙ omega arith

    -- where all find room, the next does
    pub next_room : (i room : ℕ) → i < length bs → length (splits (cells_by kind bs)) ≤ room
        → length (splits (cells_by kind (take i bs))) + length (split kind (get_or bs i [])) ≤ room
    next_room i room h l =
        let rest = cells_by kind (drop (i + 1) bs) in
        let whole : splits (cells_by kind bs) ≡ splits (cells_by kind (take (i + 1) bs)) ++ splits (cells_by kind (drop (i + 1) bs)) =
        ap (λ (xs : List (List ℕ)). splits (cells_by kind xs)) (sym (take-append-drop (i + 1) bs))
        ∙ ap splits (by_append (take (i + 1) bs) (drop (i + 1) bs))
        ∙ splits-append (cells_by kind (take (i + 1) bs)) (cells_by kind (drop (i + 1) bs)) in
        omega (
          arith,
          ap length whole,
          length-append (splits (cells_by kind (take (i + 1) bs))) (splits rest),
          ap length (splits_more i h),
          length-append (splits (cells_by kind (take i bs))) (split kind (get_or bs i [])),
        )

    -- the first do not count more than all
    pub counts_part : (i : ℕ) → counts (cells_by kind (take i bs)) ≤ counts (cells_by kind bs)
    counts_part i =
        omega (
          arith,
          ap (λ (xs : List (List ℕ)). counts (cells_by kind xs)) (take-append-drop i bs),
          ap counts (by_append (take i bs) (drop i bs)),
          counts-append (cells_by kind (take i bs)) (cells_by kind (drop i bs)),
        )

  -- four ids a tetrahedron, of one cell
  pub four_of_one : nodes_of (split_kind kind) ≡ 4 → (cell : List ℕ) → split_count kind cell * 4 ≡ length (split kind cell)
  four_of_one e cell = sym (split-length kind cell ∙ ap (λ (m : ℕ). split_count kind cell * m) e)

  -- and of many
  pub four_each : nodes_of (split_kind kind) ≡ 4 → (n : ℕ) (ids : List ℕ) → length (splits (cells kind n ids)) ≡ counts (cells kind n ids) * 4
  unfolding cells counts
  four_each e zero ids = refl
  four_each e (suc n) ids =
      let cell = take (nodes_of kind) ids in
      omega (
        arith,
        four_of_one e cell,
        length-append (split kind cell) (splits (cells kind n (drop (nodes_of kind) ids))),
        four_each e n (drop (nodes_of kind) ids),
      )

-- the same by their ids
pub four_by : (kind : ℕ) → nodes_of (split_kind kind) ≡ 4 → (bs : List (List ℕ)) → length (splits (cells_by kind bs)) ≡ counts (cells_by kind bs) * 4
unfolding cells_by counts
four_by kind e [] = refl
four_by kind e (cell ∷ bs) =
    omega (arith, four_of_one kind e cell, length-append (split kind cell) (splits (cells_by kind bs)), four_by kind e bs)

-- a whole TET4 takes four ids
none_left : (n few : ℕ) → few < 4 → suc n * 4 ≤ few → ⊥
none_left n few f h = omega (arith, suc-mul n 4)

-- the tetrahedra of TET4s are their own ids
tet_stays : (a b c d : ℕ) → split 11 (a ∷ b ∷ c ∷ d ∷ []) ≡ a ∷ b ∷ c ∷ d ∷ []
unfolding split split_kind cut simplexes nodes_of pick
tet_stays a b c d = refl

pub tets_stay : (n : ℕ) (ids : List ℕ) → n * 4 ≤ length ids → splits (cells 11 n ids) ≡ take (n * 4) ids
unfolding cells nodes_of
tets_stay zero ids h = refl
tets_stay (suc n) [] h = absurd (none_left n 0 (omega arith) h)
tets_stay (suc n) (a ∷ []) h = absurd (none_left n 1 (omega arith) h)
tets_stay (suc n) (a ∷ b ∷ []) h = absurd (none_left n 2 (omega arith) h)
tets_stay (suc n) (a ∷ b ∷ c ∷ []) h = absurd (none_left n 3 (omega arith) h)
tets_stay (suc n) (a ∷ b ∷ c ∷ d ∷ ids) h =
    let e : suc n * 4 ≡ suc (suc (suc (suc (n * 4)))) = omega (arith, suc-mul n 4) in
    rw (e, tet_stays a b c d, tets_stay n ids (omega (arith, h)))

-- a TET4 is one tetrahedron, a WEDGE6 three, a HEX8 at most six
pub tet_counts : (n : ℕ) (ids : List ℕ) → counts (cells 11 n ids) ≡ n
unfolding cells counts split_count cut
tet_counts zero ids = refl
tet_counts (suc n) ids = omega (arith, tet_counts n (drop (nodes_of 11) ids))

pub wedge_counts : (bs : List (List ℕ)) → counts (cells_by 13 bs) ≡ length bs * 3
unfolding cells_by counts split_count cut
wedge_counts [] = refl
wedge_counts (cell ∷ bs) = omega (arith, three_rows cell, wedge_counts bs)

pub hex_counts : (bs : List (List ℕ)) → counts (cells_by 15 bs) ≤ length bs * 6
unfolding cells_by counts split_count
hex_counts [] = omega arith
hex_counts (cell ∷ bs) = omega (arith, rows_most 15 cell, hex_counts bs)

-- four ids a tetrahedron, of bricks and of wedges
pub brick_ids : (cell : List ℕ) → split_count 15 cell * 4 ≡ length (split 15 cell)
unfolding nodes_of split_kind
brick_ids cell = four_of_one 15 refl cell

-- no cell is there
pub none_there : (bs : List (List ℕ)) → (1 ≤ length bs → ⊥) → bs ≡ []
none_there [] h = refl
none_there (cell ∷ bs) h = absurd (h (omega arith))

-- the split of a brick and of a wedge, as a row of the table gives it
pub hex_split : (cell : List ℕ) → split 15 cell ≡ simplexes 4 (hex_cut cell)
unfolding split split_kind cut nodes_of
hex_split cell = refl

pub hex_number : (cell : List ℕ) → split_count 15 cell ≡ length (hex_cut cell).rows
unfolding split_count cut
hex_number cell = refl

pub wedge_split : (cell : List ℕ) → split 13 cell ≡ simplexes 4 (wedge_cut cell)
unfolding split split_kind cut nodes_of
wedge_split cell = refl

-- a brick has at least five
pub brick_least : (cell : List ℕ) → 20 ≤ length (split 15 cell)
unfolding nodes_of split_kind split_count cut
brick_least cell = omega (arith, split-length 15 cell, hex_least cell)

pub bricks_ids : (bs : List (List ℕ)) → length (splits (cells_by 15 bs)) ≡ counts (cells_by 15 bs) * 4
unfolding nodes_of split_kind
bricks_ids bs = four_by 15 refl bs

pub wedges_ids : (bs : List (List ℕ)) → length (splits (cells_by 13 bs)) ≡ length bs * 12
unfolding nodes_of split_kind
wedges_ids bs = omega (arith, four_by 13 refl bs, wedge_counts bs)

-- a block that is not refused: its kind fills space, its ids are few, and its cells are whole
pub record Taken (kind : ℕ) (ids : List ℕ) : Type 0 where
  pub passes : block_refusal kind ids ≡ 0
  pub fills : is_solid kind ≡ true
  pub few : length ids ≤ 65536
  pub left : length ids / nodes_of kind * nodes_of kind ≤ length ids

pub taken : (kind : ℕ) (ids : List ℕ) → split_block_refusal kind ids ≡ 0 → Taken kind ids
unfolding split_block_refusal
taken kind ids h = go (eqb (block_refusal kind ids) 0) (is_solid kind) refl refl h
  where
    go : (x y : Bool) → eqb (block_refusal kind ids) 0 ≡ x → is_solid kind ≡ y → cond x (cond y 0 6) (block_refusal kind ids) ≡ 0 → Taken kind ids
    go true true e f h = record {
      passes = eqb-true _ 0 e;
      fills = f;
      few = (block_accepted kind ids (eqb-true _ 0 e)).few;
      left = omega (arith, div-add-mod' (length ids) (nodes_of kind));
    }
    go true false e f h = absurd (eqb-false 6 0 refl h)
    go false y e f h = absurd (eqb-false _ 0 e h)
