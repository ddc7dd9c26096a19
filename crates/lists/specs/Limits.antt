-- The limits of a scene, and how many numbers a record of each list has (document 01, "The scene taken in").
-- Assumes nothing: these are definitions.
use Rattle.std.specs.Prelude.{ℕ}

-- at most so many components, connections and frontiers
abbrev pub component_limit : ℕ
component_limit = 1024

abbrev pub connection_limit : ℕ
connection_limit = 4096

abbrev pub frontier_limit : ℕ
frontier_limit = 256

-- ids are below this
abbrev pub id_limit : ℕ
id_limit = 4294967296

-- 2 ^ 10 components: a root of rank r has at least 2 ^ r places, so no rank passes 10
abbrev pub rank_limit : ℕ
rank_limit = 10

-- id, x, y, z, kind, facing, support, conducts
abbrev pub component_width : ℕ
component_width = 8

-- source, sink, kind
abbrev pub connection_width : ℕ
connection_width = 3

-- source, source port, sink, sink port, transfer
abbrev pub port_width : ℕ
port_width = 5

-- of a connection that is kept: the five of a port connection, and the slope of its step
abbrev pub kept_width : ℕ
kept_width = 6

-- x, y, z
abbrev pub frontier_width : ℕ
frontier_width = 3
