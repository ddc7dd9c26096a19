-- Refusals in the paper's numbers (document 01, the table in "The scene taken in").
-- Assumes nothing: these are definitions.
use Rattle.std.specs.Prelude.{ℕ, zero, suc, Option, Some, None}
use Rattle.lists.specs.declared.Fault.{Fault}
use Rattle.lists.specs.declared.Section.{Section}

-- 1 to 18
abbrev pub fault_number : Fault → ℕ
fault_number Fault.ListLength = 1
fault_number Fault.ShortSlice = 2
fault_number Fault.OutOfRange = 3
fault_number Fault.UnsortedComponents = 4
fault_number Fault.RepeatedId = 5
fault_number Fault.UnsortedConnections = 6
fault_number Fault.MissingEnd = 7
fault_number Fault.NoVerdictRow = 8
fault_number Fault.BadLine = 9
fault_number Fault.NotDriven = 10
fault_number Fault.UnknownRules = 11
fault_number Fault.UnknownForm = 12
fault_number Fault.OtherRules = 13
fault_number Fault.UnequalFields = 14
fault_number Fault.FullPlot = 15
fault_number Fault.PresentId = 16
fault_number Fault.AbsentId = 17
fault_number Fault.StrangePlot = 18

-- 0 components, 1 connections, 2 frontiers, 3 none
abbrev pub list_number : Option Section → ℕ
list_number (Some Section.Components) = 0
list_number (Some Section.Connections) = 1
list_number (Some Section.Frontiers) = 2
list_number None = 3

-- by number, from 0; a number past the last one is the frontiers
abbrev pub section_numbered : ℕ → Section
section_numbered zero = Section.Components
section_numbered (suc zero) = Section.Connections
section_numbered (suc (suc n)) = Section.Frontiers
