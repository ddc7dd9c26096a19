-- A text that was measured is printed into a buffer that it fits, and else is refused with 2.
-- Assumes nothing.
use Rattle.lists.specs.declared.Fault.{Fault}
use Rattle.std.specs.Prelude.{None}
use Rattle.std.specs.Prelude.{Ok, Err}
use mathlib.Core.Path.{◌≡◌, ap, ◌∙◌}
use mathlib.Core.List.{List, [], ◌∷◌, ◌++◌}
use Prim.Native.Nat.{ℕ, ◌+◌, ◌≤◌, ◌<◌}
use native.Mathlib.Omega.{arith}
use lib.ListN.{length, drop}
use borrow.Author.Tests.{le-leb, lt-leb}
use Rattle.blocks.specs.Printed.{Printed}
use Rattle.blocks.proofs.Printing.{sum_fits, sum_past, printed_end}
use Rattle.sheet.specs.Written.{fits, PrintedBy}

module _ {text a b out : List ℕ} {m : ℕ} (measured : Printed 0 text a b m) where
  pub printed_none : length out < m
      → PrintedBy (fits text (length out)) text out out (Err (record { fault = Fault.ShortSlice; list = None; item = 0 }))
  printed_none h =
      let e = lt-leb (length text) (length out) (omega (arith, sum_past measured.count h)) in
      record { answer = rw e; numbers = rw e; left = rw e }

  pub printed_all : {new : List ℕ} {n : ℕ} → m ≤ length out → Printed 0 text out new n
      → PrintedBy (fits text (length out)) text out new (Ok n)
  printed_all h p =
      let room : 0 + length text ≤ length out = sum_fits measured.count p.short h in
      let count = printed_end p room in
      let e = le-leb (length text) (length out) (omega (arith, room)) in
      let same : 0 + length text ≡ length text = omega arith in
      record {
        answer = rw e (ap Ok (count ∙ same));
        numbers = rw e (ap (λ (k : ℕ). 0 ∷ k ∷ []) (count ∙ same));
        left = rw e (p.bytes room ∙ ap (λ (k : ℕ). text ++ drop k out) same);
      }
