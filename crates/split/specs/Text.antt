-- What the program prints for a whole record.
use Rattle.std.specs.Prelude.{ℕ, ◌/◌, List, length, replicate}
use Rattle.records.specs.Text.{record_text}
use Rattle.records.specs.Wire.{ids_in}
use Rattle.cuts.specs.Split.{to_simplexes}

-- the text of what the split of the cell answers; 24 places hold the simplexes of any cell
unfoldable pub cell_text : ℕ → ℕ → List ℕ → List ℕ
cell_text number kind ids =
    let split = to_simplexes kind ids (replicate 24 0) in
    record_text number split.answer split.lent

-- the same of a record's kind and the bytes of its ids
unfoldable pub split_text : ℕ → ℕ → List ℕ → List ℕ
split_text number kind bytes = cell_text number kind (ids_in (length bytes / 8) bytes)
