-- Record by record.
use native.Mathlib.Omega.{arith}
use Prim.Native.Nat.{ℕ, ◌*◌}
use mathlib.Core.Path.{ap, ◌∙◌}
use mathlib.Core.List.{◌++◌}
use lib.ListN.{length}
use Rattle.std.proofs.lemmas.List.{length-map}
use Rattle.forms.specs.Places.{field_of, fields_of}
use Rattle.forms.proofs.Steps.{record_step, record_known, front_room, records_count, records_end, any_line, read_any_line}
use Rattle.forms.proofs.Storing.{laid_then}
use Rattle.forms.proofs.store.store_records.Goals as goal

pub store_record-position-requires-clause-all_read : goal.store_record-position-requires-clause-all_read
store_record-position-requires-clause-all_read c =
    let a = c.args in
    let x = c.loop-k in
    let form = fields_of a.form.fields.now in
    read_any_line form _ 0 _ (record_known form a.text.now a.at 0 a.count x.k x.invariant.1 c.loop-k-test.true c.requires.all_read)

pub loop-k-preserved : goal.loop-k-preserved
loop-k-preserved c =
    let a = c.args in
    let x = c.loop-k in
    let form = fields_of a.form.fields.now in
    let r = c.store_record-position in
    let (zs, w, e, o) = r.ensures in
    let n = records_count form a.text.now a.at 0 a.count x.k x.invariant.1 (omega arith) ∙ ap (λ (m : ℕ). x.k * m) (length-map a.form.fields.now field_of) in
    let fits = front_room x.k a.count (length a.form.fields.now) (length a.out.now) c.loop-k-test.true c.requires.room in (
      x.invariant.0 ++ zs,
      record_step form a.text.now a.at 0 a.count x.k x.invariant.1 c.loop-k-test.true zs r.result w (any_line form 0 _ _ zs _ e),
      laid_then x.invariant.0 zs a.out.now _ n fits x.out r.new.out x.invariant.2 o,
    )

pub returns : goal.returns
returns c =
    let a = c.args in
    let x = c.loop-k in
    let (n, w, e) = records_end (fields_of a.form.fields.now) a.text.now a.at 0 a.count x.k x.invariant.1 (omega arith) in
    (x.invariant.0, w, e, x.invariant.2)
