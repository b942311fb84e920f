-- `phed::by_lengths` meets its contract: each return knows which lengths there are.
use mathlib.Core.Path.{◌∙◌}
use Rattle.faces.specs.Faces.{faces}
use Rattle.recognise.proofs.Nodes.{zero-none, some-is, no_faces, one_length, two_lengths, three_lengths}
use Rattle.recognise.proofs.phed.by_lengths.Goals as goal

pub returns-in_default : goal.returns-in_default
returns-in_default c = no_faces (faces c.args.ids.now) (zero-none _ c.in_default.ensures)

pub returns-in_default-other_length : goal.returns-in_default-other_length
returns-in_default-other_length c =
    c.regular.ensures
    ∙ one_length (faces c.args.ids.now) c.in-Some.first (some-is _ _ c.in-Some.ensures) (zero-none _ c.in_default-other_length.ensures)

pub returns-in-None : goal.returns-in-None
returns-in-None c =
    c.mixed.ensures
    ∙ two_lengths (faces c.args.ids.now) c.in-Some.first (some-is _ _ c.in-Some.ensures) c.in-Some-other_length.second (some-is _ _ c.in-Some-other_length.ensures)
    (zero-none _ c.in-None.ensures)

pub returns-in-Some-other_length-2 : goal.returns-in-Some-other_length-2
returns-in-Some-other_length-2 c =
    three_lengths (faces c.args.ids.now) c.in-Some.first (some-is _ _ c.in-Some.ensures) c.in-Some-other_length.second (some-is _ _ c.in-Some-other_length.ensures)
    c.in-Some-other_length-2.field-0
    (some-is _ _ c.in-Some-other_length-2.ensures)
