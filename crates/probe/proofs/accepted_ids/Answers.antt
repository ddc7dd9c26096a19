-- `probe::accepted_ids` meets its contract.
-- Assumes nothing.
use mathlib.Core.Path.{◌≡◌, sym, ◌∙◌, subst}
use Prim.Native.Nat.{ℕ}
use lib.ListN.{take}
use Rattle.lists.specs.Ids.{IdTable}
use Rattle.lists.specs.Records.{component_count}
use Rattle.probe.proofs.Table.{counted, refused}
use Rattle.probe.proofs.accepted_ids.Goals as goal

pub returns-in_err-ok : goal.returns-in_err-ok
returns-in_err-ok c =
    let none = c.from_residual.ensures in
    let cs = c.args.components.now in
    record { count = none ∙ sym (refused cs c.grouping_lists.ensures.answer c.ok.ensures.value c.in_err-ok.was); table = λ n e. cc }

pub returns : goal.returns
returns c =
    let found = counted c.args.components.now c.grouping_lists.ensures.answer c.ok.ensures.value c.in_ok-ok.was in
    record {
      count = found.1;
      table = λ n e.
          let m : component_count c.args.components.now ≡ n = cc in
          subst (λ (k : ℕ). IdTable c.args.components.now (take k c.grouping_lists.new.keys)) m (c.grouping_lists.ensures.table found.0);
    }
