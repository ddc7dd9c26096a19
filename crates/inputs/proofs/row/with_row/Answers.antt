-- `inputs::row::with_row` meets its contract: the required ports of a kind and facing are those of its components.
-- Assumes nothing.
use Rattle.std.specs.Prelude.{Some, None}
use Rattle.std.specs.Bool.{then_some}
use mathlib.Core.Path.{◌≡◌, refl, ap, ap₂, ◌∙◌}
use mathlib.Core.Bool.{Bool, true, false, cond, ◌&&◌}
use Prim.Native.Nat.{ℕ, ◌+◌}
use lib.Dec.{leb, ltb}
use Rattle.lists.specs.Records.{component}
use Rattle.assessment.specs.Verdicts.{has_row}
use Rattle.assessment.specs.Rows.{first_required, required_count}
use Rattle.assessment.proofs.Required.{row_of}
use Rattle.inputs.proofs.row.with_row.Goals as goal
use Rattle.inputs.proofs.row.with_row.Goals.{After-has_row, Start}

-- the answer of the call, by the component
row : (c : After-has_row) → c.has_row.result ≡ has_row c.args.rules (component c.args.components.numbers.now c.args.p) c.args.port
row c =
    c.has_row.ensures
    ∙ ap₂ (λ (kind facing : ℕ). leb (first_required kind) c.args.port && ltb c.args.port (first_required kind + required_count c.args.rules kind facing))
    c.kind.ensures c.facing.ensures
    ∙ row_of c.args.rules (component c.args.components.numbers.now c.args.p) c.args.port

some_if : (b : Bool) (p : ℕ) → then_some b p ≡ cond b (Some p) None
some_if true p = refl
some_if false p = refl

pub returns : goal.returns
returns c =
    c.then_some.ensures ∙ some_if c.has_row.result c.args.p
    ∙ ap (λ (t : Bool). cond t (Some c.args.p) None) (row (goal.at.returns c).After-has_row)
