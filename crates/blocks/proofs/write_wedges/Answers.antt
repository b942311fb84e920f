-- `write_wedges` meets its contract: before turn i the output holds the tetrahedra of the first i wedges, and behind
-- them what it held at entry; the row is that of wedge i.
use mathlib.Core.Path.{◌≡◌, refl, sym, ◌∙◌, ap}
use mathlib.Core.List.{List, [], ◌++◌}
use Prim.Native.Nat.{ℕ, ◌+◌, ◌*◌, ◌-◌, ◌≤◌, ◌<◌}
use native.Mathlib.Omega.{arith}
use lib.ListN.{length, get_or, take, drop, length-drop}
use lib.Seq.{length-take-le, take-length}
use Rattle.base.specs.Outcome.{overwrite}
use Rattle.base.proofs.Lists.{overwrite_more, rest_whole, rest_back}
use Rattle.cuts.specs.Demand3.{splits}
use Rattle.cuts.specs.Split.{split}
use Rattle.blocks.specs.Inner.Filled.{cells_by}
use Rattle.blocks.proofs.Parts.{none_there, next_room, splits_more, wedge_split, wedges_ids}
use Rattle.blocks.proofs.write_wedges.Goals as goal

-- the wedges before wedge i are written
module _
    (ws : List (List ℕ)) (out₀ out : List ℕ) (i : ℕ) (inside : i < length ws)
    (long : length out ≡ length out₀) (before : out ≡ overwrite (splits (cells_by 13 (take i ws))) out₀)
    (fits : length (splits (cells_by 13 ws)) ≤ length out₀) where
  stands : length (splits (cells_by 13 (take i ws))) ≡ i * 12
  stands = omega (arith, wedges_ids (take i ws), length-take-le i ws (omega arith))

  room : i * 12 + length (split 13 (get_or ws i [])) ≤ length out
  room = omega (arith, stands, long, next_room 13 ws i _ inside fits)

  part_room : length (split 13 (get_or ws i [])) ≤ length (take (length out - i * 12) (drop (i * 12) out))
  part_room = rw (rest_whole out (i * 12), length-drop (i * 12) out) (omega (arith, room))

  -- a turn writes it behind them
  turn : (lent : List ℕ) → lent ≡ overwrite (split 13 (get_or ws i [])) (take (length out - i * 12) (drop (i * 12) out))
      → take (i * 12) out ++ (lent ++ drop (length out - i * 12) (drop (i * 12) out)) ≡ overwrite (splits (cells_by 13 (take (i + 1) ws))) out₀
  turn lent e =
      rw (rest_back out lent (i * 12), e, rest_whole out (i * 12), ← stands, before, overwrite_more (splits (cells_by 13 (take i ws))) (split 13 (get_or ws i [])) out₀)
      (ap (λ (xs : List ℕ). overwrite xs out₀) (sym (splits_more 13 ws i inside)))

pub returns-in_default : goal.returns-in_default
unfolding cells_by overwrite
returns-in_default c = rw (none_there c.args.wedges.now c.in_default.ensures)

pub loop-i-init : goal.loop-i-init
unfolding cells_by overwrite
loop-i-init c = (refl, c.wedge_row-row.ensures.0)

pub slice_bounds-write_wedge_row-count : goal.slice_bounds-write_wedge_row-count
slice_bounds-write_wedge_row-count c =
    let l = c.loop-i in
    let v = l.invariant in
    omega (arith, room c.args.wedges.now c.args.out.now l.out l.i (omega arith) l.auto.out v.0 c.requires)

pub slice_bounds-write_wedge_row-start : goal.slice_bounds-write_wedge_row-start
slice_bounds-write_wedge_row-start c =
    let l = c.loop-i in
    let v = l.invariant in
    omega (arith, room c.args.wedges.now c.args.out.now l.out l.i (omega arith) l.auto.out v.0 c.requires)

pub write_wedge_row-requires-clause-ids_in_bounds : goal.write_wedge_row-requires-clause-ids_in_bounds
write_wedge_row-requires-clause-ids_in_bounds c =
    let l = c.loop-i in
    let v = l.invariant in
    rw (wedge_split (get_or c.args.wedges.now l.i [])) at (part_room c.args.wedges.now c.args.out.now l.out l.i (omega arith) l.auto.out v.0 c.requires)

pub loop-i-preserved : goal.loop-i-preserved
loop-i-preserved c =
    let l = c.loop-i in
    let v = l.invariant in
    let ws = c.args.wedges.now in
    let out = c.args.out.now in
    let w = turn ws out l.out l.i (omega arith) l.auto.out v.0 c.requires _ (rw (← wedge_split (get_or ws l.i [])) at c.write_wedge_row.ensures) in
    (w, c.wedge_row-next_row.ensures.0)

-- behind the loop stands the last wedge
pub slice_bounds-write_wedge_row-count-2 : goal.slice_bounds-write_wedge_row-count-2
slice_bounds-write_wedge_row-count-2 c =
    let l = c.loop-i in
    let v = l.invariant in
    let e : l.i ≡ c.in-Some.last = omega arith in
    omega (arith, room c.args.wedges.now c.args.out.now l.out l.i (omega arith) l.auto.out v.0 c.requires)

pub slice_bounds-write_wedge_row-start-2 : goal.slice_bounds-write_wedge_row-start-2
slice_bounds-write_wedge_row-start-2 c =
    let l = c.loop-i in
    let v = l.invariant in
    let e : l.i ≡ c.in-Some.last = omega arith in
    omega (arith, room c.args.wedges.now c.args.out.now l.out l.i (omega arith) l.auto.out v.0 c.requires)

pub write_wedge_row-requires-2-clause-ids_in_bounds : goal.write_wedge_row-requires-2-clause-ids_in_bounds
write_wedge_row-requires-2-clause-ids_in_bounds c =
    let l = c.loop-i in
    let v = l.invariant in
    let e : l.i ≡ c.in-Some.last = omega arith in
    rw (← e) (rw (wedge_split (get_or c.args.wedges.now l.i [])) at (part_room c.args.wedges.now c.args.out.now l.out l.i (omega arith) l.auto.out v.0 c.requires))

pub returns : goal.returns
returns c =
    let l = c.loop-i in
    let v = l.invariant in
    let ws = c.args.wedges.now in
    let out = c.args.out.now in
    let e : l.i ≡ c.in-Some.last = omega arith in
    let end : l.i + 1 ≡ length ws = omega arith in
    let all : take (l.i + 1) ws ≡ ws = rw end (take-length ws) in
    let w = turn ws out l.out l.i (omega arith) l.auto.out v.0 c.requires _ (rw (← e, ← wedge_split (get_or ws l.i [])) at c.write_wedge_row-2.ensures) in
    rw (← e) (w ∙ ap (λ (xs : List (List ℕ)). overwrite (splits (cells_by 13 xs)) out) all)
