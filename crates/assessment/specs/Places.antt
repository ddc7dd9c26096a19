-- Flags of slots: a member has a slot for each of its first ports, and a flag of a slot says whether its port is fed, or fed by a
-- marked member.
--     slot_at, SlotFlags          the slot that a port connection feeds, and the flags that the connections leave
--     LiveMarks                  the marks of members by which slots are flagged
--     slot_status, status_at      the status of a slot by its flags
-- Assumes nothing: these are definitions.
use Rattle.std.specs.Prelude.{Option, Some, None}
use Rattle.std.specs.Prelude.{ℕ, ◌+◌, ◌*◌, ◌≡◌, Bool, true, false, not, cond, ◌&&◌, List, ltb, map, get_or, ℤ}
use Rattle.lists.specs.Limits.{component_limit}
use Rattle.lists.specs.Records.{port_connection}
use Rattle.regions.specs.Graph.{marked}
use Rattle.signals.specs.Signals.{is_signal}
use Rattle.signals.specs.Flags.{GatheredBy}
use Rattle.signals.specs.Drive.{drive, potential}
use Rattle.assessment.specs.declared.slots.Slot.{Slot}
use Rattle.assessment.specs.declared.slots.Status.{Status}

-- ---- slots

-- no port past these has a verdict row
abbrev pub places : ℕ
places = 8

abbrev pub slot_of : ℕ → ℕ → ℕ
slot_of member port = member * places + port

abbrev pub slot_count : ℕ
slot_count = places * component_limit

-- the slot that port connection k feeds, given its sink's member: none, where it is a support or feeds a port past the places
unfoldable pub slot_at : List ℤ → ℕ → ℕ → Option ℕ
slot_at ps k sink =
    cond (is_signal ps k && ltb (port_connection ps k).sink_port_of places) (Some (slot_of sink (port_connection ps k).sink_port_of)) None

-- as a number: none is past the slots
abbrev pub slot_number : Option ℕ → ℕ
slot_number (Some j) = j
slot_number None = slot_count

-- ---- flags of slots

-- a slot that nothing feeds
abbrev pub unfed : Slot
unfed = record { fed = false; driven = false; possible = false }

-- those that the first n port connections feed, and those that they feed from a marked source
pub record SlotFlags (n : ℕ) (ps : List ℤ) (sources sinks : List ℕ) (drive potential : List Bool) (slots : List Slot) : Type 0 where
  pub fed_flags : GatheredBy n (λ k. slot_number (slot_at ps k (get_or sinks k 0))) (λ k. true) (map (λ s. s.fed) slots)
  pub driven_flags : GatheredBy n (λ k. slot_number (slot_at ps k (get_or sinks k 0))) (λ k. marked drive (get_or sources k 0)) (map (λ s. s.driven) slots)
  pub possible_flags : GatheredBy n (λ k. slot_number (slot_at ps k (get_or sinks k 0))) (λ k. marked potential (get_or sources k 0)) (map (λ s. s.possible) slots)

-- the marks are those of `Drive`
pub record LiveMarks (rules : ℕ) (cs ps fs : List ℤ) (driven possible : List Bool) : Type 0 where
  pub drive_is : driven ≡ drive cs ps fs
  pub potential_is : possible ≡ potential rules cs ps fs

-- the status of a slot
unfoldable pub slot_status : Slot → ℕ
slot_status s = cond (not s.fed) 2 (cond s.driven 0 (cond s.possible 1 3))

-- and of slot j
abbrev pub status_at : List Slot → ℕ → ℕ
status_at slots j = slot_status (get_or slots j unfed)

-- statuses in the numbers of verdict rows
abbrev pub status_number : Status → ℕ
status_number Status.DrivenByKnownSource = 0
status_number Status.AwaitingExternalInput = 1
status_number Status.Disconnected = 2
status_number Status.NoKnownSource = 3
