-- `write_bricks` meets its contract: before turn i the output holds the tetrahedra of the first i bricks and perhaps
-- filler behind them; the rows are those of brick i and of the next, or of the last.
use mathlib.Core.Path.{◌≡◌, refl, sym, ◌∙◌, ap}
use mathlib.Core.List.{List, [], ◌++◌}
use Prim.Native.Nat.{ℕ, ◌+◌, ◌*◌, ◌-◌, ◌/◌, ◌≤◌, ◌<◌, min}
use native.Mathlib.Omega.{arith}
use lib.ListN.{length, get_or, take, drop, length-append, length-drop}
use lib.Seq.{take-length}
use Rattle.base.specs.Inner.Place.{put_at}
use Rattle.base.specs.Outcome.{overwrite}
use Rattle.base.proofs.Lists.{rest_whole, rest_back}
use Rattle.cuts.specs.Demand3.{splits}
use Rattle.cuts.specs.Split.{split, split_count}
use Rattle.cuts.specs.Table.{hex_place}
use Rattle.simplexes.specs.Inner.Written.{Ahead}
use Rattle.blocks.specs.Blocks.{counts}
use Rattle.blocks.specs.Inner.Filled.{cells_by}
use Rattle.blocks.proofs.Ahead.{ahead_at, ahead_more, ahead_last}
use Rattle.blocks.proofs.Parts.{brick_ids, brick_least, bricks_ids, counts_more, hex_number, hex_split, none_there, splits_more, next_room}
use Rattle.blocks.proofs.write_bricks.Goals as goal

-- the row of brick i
abbrev row_of : List (List ℕ) → ℕ → ℕ
row_of bs i = hex_place (get_or bs i [])

-- the bricks before brick i are written, and behind them perhaps filler
module _
    (bs : List (List ℕ)) (out₀ out : List ℕ) (i at : ℕ) (inside : i < length bs)
    (stands : at ≡ length (splits (cells_by 15 (take i bs))))
    (before : Ahead (splits (cells_by 15 (take i bs))) out₀ out)
    (fits : length (splits (cells_by 15 bs)) ≤ length out₀) where
  -- its tetrahedra find room
  room : at + length (split 15 (get_or bs i [])) ≤ length out
  room = omega (arith, stands, before.long, next_room 15 bs i _ inside fits)

  -- in the part that is lent on
  part_room : length (split 15 (get_or bs i [])) ≤ length (take (length out - at) (drop at out))
  part_room = rw (rest_whole out at, length-drop at out) (omega (arith, room))

  -- if it is not the last, its filler finds room too
  more_room : i + 1 < length bs → 24 ≤ length (take (length out - at) (drop at out))
  more_room h =
      let both : at + 24 ≤ length out =
      omega (
        arith,
        stands,
        before.long,
        next_room 15 bs (i + 1) _ h fits,
        ap length (splits_more 15 bs i inside),
        length-append (splits (cells_by 15 (take i bs))) (split 15 (get_or bs i [])),
        brick_least (get_or bs i []),
        brick_least (get_or bs (i + 1) []),
      ) in
      rw (rest_whole out at, length-drop at out) (omega (arith, both))

  -- a turn writes it, and perhaps filler
  turn : (lent : List ℕ) → Ahead (split 15 (get_or bs i [])) (take (length out - at) (drop at out)) lent
      → Ahead (splits (cells_by 15 (take (i + 1) bs))) out₀ (take at out ++ (lent ++ drop (length out - at) (drop at out)))
  turn lent a =
      let cell = split 15 (get_or bs i []) in
      let here : at ≤ length out = omega (arith, room) in
      let b = ahead_at cell out lent at here (rw (rest_whole out at) at a) in
      rw (splits_more 15 bs i inside, rest_back out lent at)
      (ahead_more (splits (cells_by 15 (take i bs))) cell out₀ out at stands before _ b)

  next_at : (made : ℕ) → made ≡ split_count 15 (get_or bs i []) → at + made * 4 ≡ length (splits (cells_by 15 (take (i + 1) bs)))
  next_at made m =
      omega (
        arith,
        stands,
        ap (λ (n : ℕ). n * 4) m ∙ brick_ids (get_or bs i []),
        ap length (splits_more 15 bs i inside),
        length-append (splits (cells_by 15 (take i bs))) (split 15 (get_or bs i [])),
      )

  module _ (last : i + 1 ≡ length bs) where
    all : take (i + 1) bs ≡ bs
    all = rw last (take-length bs)

    -- if it is the last, all are written with it
    written : (lent : List ℕ) → lent ≡ overwrite (split 15 (get_or bs i [])) (take (length out - at) (drop at out))
        → take at out ++ (lent ++ drop (length out - at) (drop at out)) ≡ overwrite (splits (cells_by 15 bs)) out₀
    unfolding put_at
    written lent e =
        let h : 4 ≤ length (split 15 (get_or bs i [])) = omega (arith, brick_least (get_or bs i [])) in
        let now : take at out ++ (lent ++ drop (length out - at) (drop at out)) ≡ put_at (split 15 (get_or bs i [])) at out =
        rw (rest_back out lent at, e, rest_whole out at) in
        ahead_last (splits (cells_by 15 (take i bs))) (split 15 (get_or bs i [])) out₀ out at stands before _ h now
        ∙ ap (λ (xs : List ℕ). overwrite xs out₀) (sym (splits_more 15 bs i inside) ∙ ap (λ (xs : List (List ℕ)). splits (cells_by 15 xs)) all)

    -- and counted
    counted : (tets : ℕ) → tets ≡ split_count 15 (get_or bs i []) → at / 4 + tets ≡ counts (cells_by 15 bs)
    counted tets e =
        let more : at / 4 + tets ≡ counts (cells_by 15 (take (i + 1) bs)) =
        omega (arith, stands, bricks_ids (take i bs), counts_more 15 bs i inside, e) in
        more ∙ ap (λ (xs : List (List ℕ)). counts (cells_by 15 xs)) all

pub returns-in_default : goal.returns-in_default
unfolding cells_by counts overwrite
returns-in_default c = rw (none_there c.args.bricks.now c.in_default.ensures) (record { counted = refl; written = refl })

pub loop-i-init : goal.loop-i-init
unfolding cells_by
loop-i-init c = (
  refl,
  record { front = refl; rest = refl; long = refl },
  c.hex_row-row.ensures.0,
  c.hex_row-next_row.ensures.0 ∙ ap (row_of c.args.bricks.now) c.min.ensures,
)

pub write_hex_ahead-count-requires-clause-in_bounds : goal.write_hex_ahead-count-requires-clause-in_bounds
write_hex_ahead-count-requires-clause-in_bounds c =
    let l = c.loop-i in
    let v = l.invariant in
    more_room c.args.bricks.now c.args.out.now l.out l.i l.at (omega arith) v.0 v.1 c.requires (omega arith)

pub overflow_add-at : goal.overflow_add-at
overflow_add-at c =
    let l = c.loop-i in
    let v = l.invariant in
    let bs = c.args.bricks.now in
    let made = c.write_hex_ahead-count.ensures.value ∙ sym (hex_number (get_or bs l.i [])) in
    record {
      fits = omega (
        arith,
        ap (λ (n : ℕ). n * 4) made ∙ brick_ids (get_or bs l.i []),
        room bs c.args.out.now l.out l.i l.at (omega arith) v.0 v.1 c.requires,
      );
    }

pub loop-i-preserved : goal.loop-i-preserved
loop-i-preserved c =
    let l = c.loop-i in
    let v = l.invariant in
    let bs = c.args.bricks.now in
    let out = c.args.out.now in
    let w = c.write_hex_ahead-count in
    let e : min c.in-Some.last (l.i + 1) ≡ l.i + 1 = omega arith in
    let f : min c.in-Some.last (l.i + 2) ≡ min c.in-Some.last (l.i + 1 + 1) = omega arith in (
      next_at bs out l.out l.i l.at (omega arith) v.0 v.1 c.requires w.result (w.ensures.value ∙ sym (hex_number (get_or bs l.i []))),
      turn bs out l.out l.i l.at (omega arith) v.0 v.1 c.requires w.new.out (rw (← hex_split (get_or bs l.i [])) at w.ensures.ahead),
      v.3 ∙ ap (row_of bs) e,
      c.hex_row-next_row-in-loop-i.ensures.0 ∙ ap (row_of bs) (c.min-in-loop-i.ensures ∙ f),
    )

-- behind the loop stands the last brick
pub write_hex_row-requires-clause-ids_in_bounds : goal.write_hex_row-requires-clause-ids_in_bounds
write_hex_row-requires-clause-ids_in_bounds c =
    let l = c.loop-i in
    let v = l.invariant in
    let e : l.i ≡ c.in-Some.last = omega arith in
    rw (← e) (rw (hex_split (get_or c.args.bricks.now l.i [])) at (part_room c.args.bricks.now c.args.out.now l.out l.i l.at (omega arith) v.0 v.1 c.requires))

pub returns : goal.returns
returns c =
    let l = c.loop-i in
    let v = l.invariant in
    let bs = c.args.bricks.now in
    let out = c.args.out.now in
    let e : l.i ≡ c.in-Some.last = omega arith in
    let w = rw (← e, ← hex_split (get_or bs l.i [])) at c.write_hex_row.ensures.written in
    let n = rw (← e) at c.write_hex_row.ensures.counted in
    record {
      counted = counted bs out l.out l.i l.at (omega arith) v.0 v.1 c.requires (omega arith) _ (n ∙ sym (hex_number (get_or bs l.i [])));
      written = written bs out l.out l.i l.at (omega arith) v.0 v.1 c.requires (omega arith) _ w;
    }
