-- What the entry leaves of a sheet that was read.
--     reported        the entry on a sheet that was read
-- Assumes nothing.
use Rattle.std.specs.Prelude.{Result, Ok}
use mathlib.Core.Path.{◌≡◌}
use mathlib.Core.List.{List}
use Prim.Native.Nat.{ℕ}
use lib.IntN.{ℤ, pos}
use lib.ListN.{length, replicate}
use Rattle.lists.specs.declared.Refusal.{Refusal}
use Rattle.forms.specs.Sheet.{Parsed}
use Rattle.sheet.specs.Entry.{rules_of, components_of, connections_of, frontiers_of, sheet_checked}
use Rattle.sheet.specs.Written.{PrintedBy}
use Rattle.report.specs.Report.{report_of}
use Rattle.report.specs.Entry.{lists_checked, report_checked, Reported}
use Rattle.report.proofs.ReadBack.{demand_printed}

-- the same lists are printed
same_printed : {rules rules' : ℕ} {cs cs' ps ps' fs fs' : List ℤ} {out out' : List ℕ} {r : Result ℕ Refusal} → rules ≡ rules' → cs ≡ cs' → ps ≡ ps' → fs ≡ fs'
    → PrintedBy (lists_checked rules cs ps fs (length out)) (report_of rules cs ps fs) out out' r
    → PrintedBy (lists_checked rules' cs' ps' fs' (length out)) (report_of rules' cs' ps' fs') out out' r
same_printed d e f g p = rw (d, e, f, g) at p

-- the work lists were cleared after the lists at their fronts were printed
pub reported : (p : Parsed) {a a' b b' c c' cs ps fs : List ℤ} {rules i j k : ℕ} {out out' : List ℕ} {r : Result ℕ Refusal}
    → sheet_checked p (length a) (length b) (length c) ≡ Ok tt
    → rules ≡ rules_of p → cs ≡ components_of p → ps ≡ connections_of p → fs ≡ frontiers_of p
    → PrintedBy (lists_checked rules cs ps fs (length out)) (report_of rules cs ps fs) out out' r
    → i ≡ length a → a' ≡ replicate i (pos 0)
    → j ≡ length b → b' ≡ replicate j (pos 0)
    → k ≡ length c → c' ≡ replicate k (pos 0)
    → Reported p a a' b b' c c' out out' r
reported p {a = a} {b = b} {c = c} good d e f g q i u j v k w =
    let same = same_printed d e f g q in
    let printed : PrintedBy (report_checked p (length a) (length b) (length c) _) _ _ _ _ = record { answer = rw good same.answer; numbers = rw good same.numbers; left = rw good same.left } in
    record {
      printed = printed;
      demand = demand_printed p (length a) (length b) (length c) printed;
      components_left = rw good (rw i at u);
      connections_left = rw good (rw j at v);
      frontiers_left = rw good (rw k at w);
    }
