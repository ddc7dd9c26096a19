-- The worked sheet of document 01 ("The sheet and the program"): "Lever 1 at 0,0,0 and Repeater 2 at 1,0,0 facing 2, other fields 0, one
-- connection 1 to 2 kind 5, no frontier", and the report that it gives, both as bytes.
--     sheet_text, short_text      the bytes of the sheet, in either form
--     report_text                 the bytes of the report
--     Example                   both sheets are read as these lists and rules 1, no check refuses them, and their report is those bytes, also
--                               with a connection more that is dropped
-- Assumes nothing: these are definitions.
use Rattle.std.specs.Prelude.{Ok}
use Rattle.std.specs.Prelude.{ℕ, ◌≡◌, List, [], ◌∷◌, ℤ, pos}
use Rattle.lines.specs.Text.{ascii}
use Rattle.lists.specs.Rules.{rules_limit}
use Rattle.forms.specs.declared.Style.TheVariants.{Old, Short}
use Rattle.forms.specs.Sheet.{Parsed, Sheet, parse}
use Rattle.report.specs.Report.{report_of}
use Rattle.report.specs.Entry.{report_checked}

abbrev pub sheet_text : List ℕ
sheet_text =
    ascii "components=2\nid=1\nx=0\ny=0\nz=0\nkind=4\nfacing=0\nsupport=0\nconducts=0\nid=2\nx=1\ny=0\nz=0\nkind=1\nfacing=2\nsupport=0\nconducts=0\nconnections=1\nsource=1\nsink=2\nkind=5\nfrontiers=0\n"

-- the same sheet in the short form
abbrev pub short_text : List ℕ
short_text =
    ascii "sheet=2\nrules=1\ncomponents=2\nc=1,0,0,0,4,0,0,0\nc=2,1,0,0,1,2,0,0\nconnections=1\nn=1,2,5\nfrontiers=0\n"

abbrev pub lever_and_repeater : List ℤ
lever_and_repeater =
    pos 1 ∷ pos 0 ∷ pos 0 ∷ pos 0 ∷ pos 4 ∷ pos 0 ∷ pos 0 ∷ pos 0
    ∷ pos 2 ∷ pos 1 ∷ pos 0 ∷ pos 0 ∷ pos 1 ∷ pos 2 ∷ pos 0 ∷ pos 0 ∷ []

abbrev pub from_lever : List ℤ
from_lever = pos 1 ∷ pos 2 ∷ pos 5 ∷ []

-- a Support connection more, which is dropped
abbrev pub and_support : List ℤ
and_support = pos 1 ∷ pos 2 ∷ pos 5 ∷ pos 2 ∷ pos 1 ∷ pos 9 ∷ []

abbrev pub report_text : List ℕ
report_text =
    ascii "answer=0\ncomponents=2\nid=1\nnet=0\nfragment=0\nregion=0\ndrive=1\npotential=1\nid=2\nnet=1\nfragment=0\nregion=1\ndrive=1\npotential=1\nconnections=1\nsource=1\nsource_port=1\nsink=2\nsink_port=1\ntransfer=4\nslope=0\nregions=2\ncyclic=0\nhas_drive=1\ncyclic=0\nhas_drive=0\nsources=1\nid=1\nkind=0\ninputs=1\ndevice=2\nport=1\nstatus=0\nimmediate=1\ninferred=\n"

-- by the program's limits: 256 components, 1,024 connections, 256 frontiers
abbrev pub program_parse : List ℕ → Parsed
program_parse text = parse rules_limit 256 1024 256 text

-- the program lends work lists for as many, of eight, three and three numbers each, and 65,536 bytes
pub record Example : Type 0 where
  pub reads : program_parse sheet_text ≡ Sheet Old 1 lever_and_repeater from_lever []
  pub short_reads : program_parse short_text ≡ Sheet Short 1 lever_and_repeater from_lever []
  pub accepts : report_checked (Sheet Old 1 lever_and_repeater from_lever []) 2048 3072 768 65536 ≡ Ok tt
  pub short_accepts : report_checked (Sheet Short 1 lever_and_repeater from_lever []) 2048 3072 768 65536 ≡ Ok tt
  pub prints : report_of 1 lever_and_repeater from_lever [] ≡ report_text
  pub drops : report_of 1 lever_and_repeater and_support [] ≡ report_text
