-- Plots under each rules number (document 02, R-4 and R-7): a wire behind a Lamp, and devices whose facing was left blank.
--     behind, at_repeater      W9 and W8 of the plots to try
--     UnderEach                what the definitions say of them
--     blank_sheet, BlankSheet     the worked sheet under rules 3, its Repeater's facing left blank, and the report that it gives
-- Assumes nothing: these are definitions.
use Rattle.std.specs.Prelude.{Ok}
use Rattle.std.specs.Prelude.{ℕ, ◌+◌, ◌*◌, ◌≡◌, true, List, [], ◌∷◌, ◌++◌, map, ℤ, pos}
use Rattle.lines.specs.Text.{ascii}
use Rattle.forms.specs.declared.Style.TheVariants.{Old}
use Rattle.forms.specs.Sheet.{Sheet}
use Rattle.checks.specs.Refusals.{liveness_lists, packed}
use Rattle.faces.specs.Ports.{ports_for}
use Rattle.faces.specs.Rows.{row_of}
use Rattle.assessment.specs.Verdicts.{source_rows, input_rows}
use Rattle.report.specs.Report.{unread_ids, unread_block, report_of}
use Rattle.report.specs.Entry.{report_checked}
use Rattle.worked.specs.Plots.{block, wire, repeater, solid, lamp, feed}
use Rattle.worked.specs.Example.{from_lever, program_parse}

-- ---- the plots

-- what the checks of the liveness entry say under a rules number, as one number
abbrev pub says : ℕ → ℕ
says rules = packed (liveness_lists rules (lamp 1 ++ wire 2) (feed 1 2 0) [] true)

-- the sources where component 1 feeds wire 2
abbrev pub behind : ℕ → List ℤ → List ℕ
behind rules feeder = source_rows rules (feeder ++ wire 2) (feed 1 2 0) []

abbrev pub at_repeater : List ℤ
at_repeater = wire 1 ++ repeater 2

-- Piston 7, Torch 3, Comparator 2 and Lever 5, in this order, none of them connected
abbrev pub four_blocks : List ℤ
four_blocks = block 8 7 ++ block 3 3 ++ block 2 2 ++ block 4 5

pub record UnderEach : Type 0 where
  -- there are rules 1, 2 and 3; any other number is 11, under list 3, item 0
  pub first : says 1 ≡ 0
  pub second : says 2 ≡ 0
  pub third : says 3 ≡ 0
  pub zeroth : says 0 ≡ 11 + 256 * 3
  pub fourth : says 4 ≡ 11 + 256 * 3
  -- W9: a wire fed by a Lamp alone is no inferred input under rules 1, and is one under 2 and 3; fed by a Solid it is one under each
  pub lamp_feeds : behind 1 (lamp 1) ≡ []
  pub lamp_passes : behind 2 (lamp 1) ≡ 2 ∷ 3 ∷ []
  pub lamp_still_passes : behind 3 (lamp 1) ≡ 2 ∷ 3 ∷ []
  pub solid_1 : behind 1 (solid 1) ≡ 2 ∷ 3 ∷ []
  pub solid_2 : behind 2 (solid 1) ≡ 2 ∷ 3 ∷ []
  pub solid_3 : behind 3 (solid 1) ≡ 2 ∷ 3 ∷ []
  -- W5 with facing 0: North under rules 1 and 2, and under 3 one port, Support (role 4, Down, channel 4). Facing Up is Up under each
  pub north_1 : ports_for 1 1 0 0 0 ≡ ports_for 1 1 1 0 0
  pub north_2 : ports_for 2 1 0 0 0 ≡ ports_for 1 1 1 0 0
  pub support_alone : map row_of (ports_for 3 1 0 0 0) ≡ (4 ∷ 6 ∷ 4 ∷ []) ∷ []
  pub comparator_too : map row_of (ports_for 3 2 0 0 0) ≡ (4 ∷ 6 ∷ 4 ∷ []) ∷ []
  pub up : ports_for 3 1 5 0 0 ≡ ports_for 1 1 5 0 0
  -- a Piston its four Inputs
  pub four_inputs : map row_of (ports_for 3 8 0 0 0) ≡ (0 ∷ 1 ∷ 0 ∷ []) ∷ (0 ∷ 2 ∷ 0 ∷ []) ∷ (0 ∷ 3 ∷ 0 ∷ []) ∷ (0 ∷ 4 ∷ 0 ∷ []) ∷ []
  -- W8: status 1 at the Repeater under rules 1 and 2, and under 3 no row
  pub row_1 : input_rows 1 at_repeater (feed 1 2 1) [] ≡ 2 ∷ 1 ∷ 1 ∷ []
  pub row_2 : input_rows 2 at_repeater (feed 1 2 1) [] ≡ 2 ∷ 1 ∷ 1 ∷ []
  pub no_row : input_rows 3 at_repeater (feed 1 2 1) [] ≡ []
  -- the last block: in list order, and no Torch; none under rules 1 and 2
  pub listed : unread_ids 3 four_blocks 4 ≡ 7 ∷ 2 ∷ []
  pub printed : unread_block 3 four_blocks ≡ ascii "unread=2\nid=7\nid=2\n"
  pub no_block_1 : unread_block 1 four_blocks ≡ []
  pub no_block_2 : unread_block 2 four_blocks ≡ []
  pub none_unread : report_of 3 [] [] [] ≡ ascii "answer=0\ncomponents=0\nconnections=0\nregions=0\nsources=0\ninputs=0\nunread=0\n"

-- ---- a sheet

abbrev pub blank_sheet : List ℕ
blank_sheet =
    ascii "rules=3\ncomponents=2\nid=1\nx=0\ny=0\nz=0\nkind=4\nfacing=0\nsupport=0\nconducts=0\nid=2\nx=1\ny=0\nz=0\nkind=1\nfacing=0\nsupport=0\nconducts=0\nconnections=1\nsource=1\nsink=2\nkind=5\nfrontiers=0\n"

abbrev pub lever_and_blank : List ℤ
lever_and_blank =
    pos 1 ∷ pos 0 ∷ pos 0 ∷ pos 0 ∷ pos 4 ∷ pos 0 ∷ pos 0 ∷ pos 0
    ∷ pos 2 ∷ pos 1 ∷ pos 0 ∷ pos 0 ∷ pos 1 ∷ pos 0 ∷ pos 0 ∷ pos 0 ∷ []

-- the connection is dropped, and the Repeater has no row
abbrev pub blank_report : List ℕ
blank_report =
    ascii "answer=0\ncomponents=2\nid=1\nnet=0\nfragment=0\nregion=1\ndrive=1\npotential=1\nid=2\nnet=1\nfragment=0\nregion=0\ndrive=0\npotential=0\nconnections=0\nregions=2\ncyclic=0\nhas_drive=0\ncyclic=0\nhas_drive=1\nsources=1\nid=1\nkind=0\ninputs=0\nunread=1\nid=2\n"

pub record BlankSheet : Type 0 where
  pub reads : program_parse blank_sheet ≡ Sheet Old 3 lever_and_blank from_lever []
  pub accepts : report_checked (Sheet Old 3 lever_and_blank from_lever []) 2048 3072 768 65536 ≡ Ok tt
  pub prints : report_of 3 lever_and_blank from_lever [] ≡ blank_report
