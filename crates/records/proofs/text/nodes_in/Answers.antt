-- `text::nodes_in` meets its contract: a number that is no kind fixes no node count.
use Rattle.std.proofs.Common.{◌≡◌, sym, ap, ◌∙◌, ℕ, Option}
use Rattle.std.specs.Option.{unwrap_or}
use Rattle.base.specs.Kinds.{nodes_of}
use Rattle.base.proofs.Numbers.{no_kind_no_nodes}
use Rattle.records.proofs.Lines.{unless_zero}
use Rattle.records.proofs.text.nodes_in.Goals as goal

pub returns-in-Ok : goal.returns-in-Ok
returns-in-Ok c =
    c.unwrap_or.ensures ∙ ap (λ o. unwrap_or o 0) c.nodes.ensures ∙ unless_zero _ ∙ ap nodes_of c.in-Ok.ensures

pub returns-in-Err : goal.returns-in-Err
returns-in-Err c = sym (no_kind_no_nodes c.args.kind c.in-Err.ensures.1)
