-- `cells::put_split` meets its contract: the bytes are whole ids that have room, so that what is read is the cell.
use Rattle.std.proofs.Common.{sym, arith}
use lib.Seq.{length-take-le}
use Rattle.records.proofs.Bytes.{read_count, read_number, read_front}
use Rattle.split.specs.Text.{split_text}
use Rattle.split.proofs.cells.put_split.Goals as goal

pub unwrap-count-requires : goal.unwrap-count-requires
unwrap-count-requires c =
    let a = c.args in
    rw (read_count a.bytes.now a.ids.now c.read_ids.result c.read_ids.new.out c.read_ids.ensures c.requires.whole c.requires.fits)

pub slice_bounds-put_cell-end : goal.slice_bounds-put_cell-end
slice_bounds-put_cell-end c =
    let a = c.args in
    let count = read_number a.bytes.now a.ids.now c.read_ids.result c.read_ids.new.out c.read_ids.ensures c.requires.whole c.requires.fits _ c.unwrap-count.ensures in
    omega (arith, count, c.requires.fits)

pub slice_bounds-put_cell-end-2 : goal.slice_bounds-put_cell-end-2
slice_bounds-put_cell-end-2 c =
    let a = c.args in
    let count = read_number a.bytes.now a.ids.now c.read_ids.result c.read_ids.new.out c.read_ids.ensures c.requires.whole c.requires.fits _ c.unwrap-count.ensures in
    sym (length-take-le c.unwrap-count.result c.read_ids.new.out (omega (arith, count, c.requires.fits)))

pub returns : goal.returns
unfolding split_text
returns c =
    let a = c.args in
    let front = read_front a.bytes.now a.ids.now c.read_ids.result c.read_ids.new.out c.read_ids.ensures c.requires.whole c.requires.fits in
    let count = read_number a.bytes.now a.ids.now c.read_ids.result c.read_ids.new.out c.read_ids.ensures c.requires.whole c.requires.fits _ c.unwrap-count.ensures in
    rw (count, front) at c.put_cell.ensures
