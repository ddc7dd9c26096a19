-- No line, one or two, one behind the other.
use native.Mathlib.Omega.{arith}
use mathlib.Core.Path.{◌≡◌, refl, sym, ap, subst}
use mathlib.Core.List.{List}
use Prim.Native.Nat.{ℕ}
use lib.IntN.{pos}
use lib.ListN.{length, length-append}
use Rattle.lines.specs.Text.{ascii}
use Rattle.lines.specs.Decimal.{line_of}
use Rattle.lines.specs.Wrote.{Wrote}
use Rattle.lines.proofs.Writing.{wrote_then, room_then}
use Rattle.forms.specs.Writing.{rules_line}
use Rattle.forms.proofs.Texts.{head_none, head_rules, head_both}
use Rattle.forms.proofs.text.write_head.Goals as goal

-- the same text
said : {s t a b : List ℕ} {n : ℕ} → s ≡ t → Wrote s a b n → Wrote t a b n
said {a = a} {b = b} {n = n} e w = subst (λ (u : List ℕ). Wrote u a b n) e w

pub write_line-requires : goal.write_line-requires
write_line-requires c = omega (arith, ap length (head_rules c.args.rules c.in-Old.is c.if-rules-eq1.false), c.requires)

pub write_line-a-requires : goal.write_line-a-requires
write_line-a-requires c =
    omega (
      arith,
      ap length (head_both c.args.rules c.in-Short.is),
      length-append (line_of (ascii "sheet") (pos 2)) (rules_line c.args.rules),
      c.requires,
    )

pub write_line-requires-in-Short : goal.write_line-requires-in-Short
write_line-requires-in-Short c =
    room_then c.write_line-a.ensures (rules_line c.args.rules) (rw (head_both c.args.rules c.in-Short.is) at c.requires)

pub returns-in-Old : goal.returns-in-Old
returns-in-Old c = said (sym (head_none c.args.rules c.in-Old.is c.if-rules-eq1.true)) (record { room = omega arith; bytes = refl; count = refl })

pub returns-in-Old-2 : goal.returns-in-Old-2
returns-in-Old-2 c = said (sym (head_rules c.args.rules c.in-Old.is c.if-rules-eq1.false)) c.write_line.ensures

pub returns-in-Short : goal.returns-in-Short
returns-in-Short c = said (sym (head_both c.args.rules c.in-Short.is)) (wrote_then c.write_line-a.ensures c.write_line-in-Short.ensures)
